-- How often a pair occurs in a view, after each change of the view.
use Rattle.std.proofs.Common.{◌≡◌, ℕ, ◌+◌, ◌≤◌, ◌⊎◌, List, [], ◌∷◌, map, Bool, true, false, cond, eqb, ◌&&◌, inl, inr, refl, sym, ap, ◌∙◌, arith}
use Rattle.std.proofs.lemmas.Bool.{cases_eq, and_from, and_left, and_right, eq-eqb, ne_eqb}
use Rattle.shared_seats.specs.Totals.{one_if}
use Rattle.shared_seats.proofs.Totals.{total-le}
use Rattle.claim_words.specs.declared.view.Standing.{Standing}
use Rattle.claim_words.specs.declared.view.Standing.TheVariants.{Open, Kept, GivenBack}
use Rattle.claim_words.specs.declared.view.Claimed.{Claimed}
use Rattle.claim_words.specs.declared.view.ClaimView.{ClaimView}
use Rattle.claim_words.specs.ClaimViews.{is_pair, is_open, is_kept, is_live, is_any, claims_on, times, settled_claim, with_claim}

pub pair-self : (card counter : ℕ) → is_pair card counter card counter ≡ true
pair-self card counter = and_from (eqb card card) (eqb counter counter) (eq-eqb card card refl) (eq-eqb counter counter refl)

pub pair-other : (card counter other_card other : ℕ) → ((card ≡ other_card) × (counter ≡ other) → ⊥) → is_pair card counter other_card other ≡ false
pair-other card counter other_card other apart =
    elim (cases_eq other_card card) [
      | inl same ↦ and_right (eqb other_card card) (eqb other counter) (ne_eqb other counter (λ e. apart (sym same, sym e)))
      | inr cards ↦ and_left (eqb other_card card) (eqb other counter) (ne_eqb other_card card cards)
    ]

pub pair_cases : (card counter other_card other : ℕ) → ((card ≡ other_card) × (counter ≡ other)) ⊎ ((card ≡ other_card) × (counter ≡ other) → ⊥)
pair_cases card counter other_card other =
    elim (cases_eq card other_card) [
      | inl cards ↦ elim (cases_eq counter other) [
        | inl counters ↦ inl (cards, counters)
        | inr apart ↦ inr (λ both. apart both.1)
      ]
      | inr apart ↦ inr (λ both. apart both.0)
    ]

-- ---- kept is live, and live is any
and_le : (on b c : Bool) → one_if b ≤ one_if c → one_if (on && b) ≤ one_if (on && c)
and_le true b c le = le
and_le false b c le = omega arith

kept_is_live : (standing : Standing) → one_if (is_kept standing) ≤ one_if (is_live standing)
kept_is_live Open = omega arith
kept_is_live Kept = omega arith
kept_is_live GivenBack = omega arith

live_is_any : (standing : Standing) → one_if (is_live standing) ≤ one_if (is_any standing)
live_is_any Open = omega arith
live_is_any Kept = omega arith
live_is_any GivenBack = omega arith

open_is_live : (standing : Standing) → one_if (is_open standing) ≤ one_if (is_live standing)
open_is_live Open = omega arith
open_is_live Kept = omega arith
open_is_live GivenBack = omega arith

module _ (card counter : ℕ) (claims : List Claimed) where
  pub kept_le_live : claims_on is_kept card counter claims ≤ claims_on is_live card counter claims
  kept_le_live = total-le _ _
      (λ (claim : Claimed). and_le (is_pair card counter claim.card claim.counter) (is_kept claim.standing) (is_live claim.standing)
      (kept_is_live claim.standing)) claims

  pub live_le_any : claims_on is_live card counter claims ≤ claims_on is_any card counter claims
  live_le_any = total-le _ _
      (λ (claim : Claimed). and_le (is_pair card counter claim.card claim.counter) (is_live claim.standing) (is_any claim.standing)
      (live_is_any claim.standing)) claims

  pub open_le_live : claims_on is_open card counter claims ≤ claims_on is_live card counter claims
  open_le_live = total-le _ _
      (λ (claim : Claimed). and_le (is_pair card counter claim.card claim.counter) (is_open claim.standing) (is_live claim.standing)
      (open_is_live claim.standing)) claims

-- ---- an open claim more
module _ (test : Standing → Bool) (card counter : ℕ) (view : ClaimView) where
  pub claims-with_claim : claims_on test card counter (with_claim card counter view).claims ≡ one_if (test Open) + claims_on test card counter view.claims
  claims-with_claim = ap (λ (on : Bool). one_if (on && test Open) + claims_on test card counter view.claims) (pair-self card counter)

  pub claims-with_claim_other : (other_card other : ℕ) → ((other_card ≡ card) × (other ≡ counter) → ⊥)
      → claims_on test other_card other (with_claim card counter view).claims ≡ claims_on test other_card other view.claims
  claims-with_claim_other other_card other apart =
      let none = pair-other other_card other card counter apart in
      omega (arith, ap (λ (on : Bool). one_if (on && test Open)) none)

pub times-cons : (card counter : ℕ) (pairs : List (ℕ × ℕ)) → times card counter ((card, counter) ∷ pairs) ≡ 1 + times card counter pairs
times-cons card counter pairs = ap (λ (on : Bool). one_if on + times card counter pairs) (pair-self card counter)

pub times-cons_other : (card counter other_card other : ℕ) (pairs : List (ℕ × ℕ)) → ((other_card ≡ card) × (other ≡ counter) → ⊥)
    → times other_card other ((card, counter) ∷ pairs) ≡ times other_card other pairs
times-cons_other card counter other_card other pairs apart = omega (arith, ap one_if (pair-other other_card other card counter apart))

-- ---- an open claim that gets a new standing
-- what a claim counts for
abbrev weight : (Standing → Bool) → ℕ → ℕ → Claimed → ℕ
weight test card counter claim = one_if (is_pair card counter claim.card claim.counter && test claim.standing)

weight-cond : (test : Standing → Bool) (standing : Standing) (card counter : ℕ) (claim : Claimed) (now : Bool)
    → weight test card counter (cond now (record claim { standing = standing }) claim)
    ≡ one_if (is_pair card counter claim.card claim.counter && test (cond now standing claim.standing))
weight-cond test standing card counter claim true = refl
weight-cond test standing card counter claim false = refl

apart_one : (test : Standing → Bool) (standing old : Standing) (on other : Bool) → (on && other) ≡ false
    → one_if (other && test (cond (on && is_open old) standing old)) ≡ one_if (other && test old)
apart_one test standing old true true e = cc
apart_one test standing old true false e = refl
apart_one test standing old false other e = refl

kept_live : (on : Bool) (old : Standing) → one_if (on && is_live (cond (on && is_open old) Kept old)) ≡ one_if (on && is_live old)
kept_live true Open = refl
kept_live true Kept = refl
kept_live true GivenBack = refl
kept_live false old = refl

kept_kept : (on : Bool) (old : Standing) → one_if (on && is_kept (cond (on && is_open old) Kept old)) ≡ one_if (on && is_kept old) + one_if (on && is_open old)
kept_kept true Open = refl
kept_kept true Kept = refl
kept_kept true GivenBack = refl
kept_kept false old = refl

back_live : (on : Bool) (old : Standing)
    → one_if (on && is_live (cond (on && is_open old) GivenBack old)) + one_if (on && is_open old) ≡ one_if (on && is_live old)
back_live true Open = refl
back_live true Kept = refl
back_live true GivenBack = refl
back_live false old = refl

back_kept : (on : Bool) (old : Standing) → one_if (on && is_kept (cond (on && is_open old) GivenBack old)) ≡ one_if (on && is_kept old)
back_kept true Open = refl
back_kept true Kept = refl
back_kept true GivenBack = refl
back_kept false old = refl

module _ (card counter other_card other : ℕ) (apart : (other_card ≡ card) × (other ≡ counter) → ⊥) where
  not_both : (claim : Claimed) → (is_pair card counter claim.card claim.counter && is_pair other_card other claim.card claim.counter) ≡ false
  not_both claim =
      elim (pair_cases other_card other claim.card claim.counter) [
        | inl here ↦
            and_left (is_pair card counter claim.card claim.counter) (is_pair other_card other claim.card claim.counter)
            (pair-other card counter claim.card claim.counter (λ both. apart (here.0 ∙ sym both.0, here.1 ∙ sym both.1)))
        | inr there ↦
            and_right (is_pair card counter claim.card claim.counter) (is_pair other_card other claim.card claim.counter)
            (pair-other other_card other claim.card claim.counter there)
      ]

module _ (card counter : ℕ) where
  abbrev given : Standing → List Claimed → List Claimed
  given standing claims = map (settled_claim standing card counter) claims

  abbrev on : Claimed → Bool
  on claim = is_pair card counter claim.card claim.counter

  -- other pairs count as before
  pub claims-settled_other : (test : Standing → Bool) (standing : Standing) (other_card other : ℕ) → ((other_card ≡ card) × (other ≡ counter) → ⊥)
      → (claims : List Claimed) → claims_on test other_card other (given standing claims) ≡ claims_on test other_card other claims
  claims-settled_other test standing other_card other apart [] = refl
  claims-settled_other test standing other_card other apart (claim ∷ claims) =
      let here : weight test other_card other (settled_claim standing card counter claim) ≡ weight test other_card other claim =
      weight-cond test standing other_card other claim (on claim && is_open claim.standing)
      ∙ apart_one test standing claim.standing (on claim) (is_pair other_card other claim.card claim.counter)
      (not_both card counter other_card other apart claim) in
      omega (arith, here, claims-settled_other test standing other_card other apart claims)

  pub live-kept : (claims : List Claimed) → claims_on is_live card counter (given Kept claims) ≡ claims_on is_live card counter claims
  live-kept [] = refl
  live-kept (claim ∷ claims) =
      let here = weight-cond is_live Kept card counter claim (on claim && is_open claim.standing) ∙ kept_live (on claim) claim.standing in
      omega (arith, here, live-kept claims)

  pub kept-kept : (claims : List Claimed)
      → claims_on is_kept card counter (given Kept claims) ≡ claims_on is_kept card counter claims + claims_on is_open card counter claims
  kept-kept [] = refl
  kept-kept (claim ∷ claims) =
      let here = weight-cond is_kept Kept card counter claim (on claim && is_open claim.standing) ∙ kept_kept (on claim) claim.standing in
      omega (arith, here, kept-kept claims)

  pub live-given_back : (claims : List Claimed)
      → claims_on is_live card counter (given GivenBack claims) + claims_on is_open card counter claims ≡ claims_on is_live card counter claims
  live-given_back [] = refl
  live-given_back (claim ∷ claims) =
      let here = weight-cond is_live GivenBack card counter claim (on claim && is_open claim.standing) in
      let there = back_live (on claim) claim.standing in
      omega (arith, here, there, live-given_back claims)

  pub kept-given_back : (claims : List Claimed) → claims_on is_kept card counter (given GivenBack claims) ≡ claims_on is_kept card counter claims
  kept-given_back [] = refl
  kept-given_back (claim ∷ claims) =
      let here = weight-cond is_kept GivenBack card counter claim (on claim && is_open claim.standing) ∙ back_kept (on claim) claim.standing in
      omega (arith, here, kept-given_back claims)

-- no claim is lost
pub any-settled : (standing : Standing) (card counter other_card other : ℕ) (claims : List Claimed)
    → claims_on is_any other_card other (map (settled_claim standing card counter) claims) ≡ claims_on is_any other_card other claims
any-settled standing card counter other_card other [] = refl
any-settled standing card counter other_card other (claim ∷ claims) =
    let here = weight-cond is_any standing other_card other claim (is_pair card counter claim.card claim.counter && is_open claim.standing) in
    omega (arith, here, any-settled standing card counter other_card other claims)
