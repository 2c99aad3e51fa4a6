-- The claims of a pass once its one open claim is kept or given back.
use Rattle.std.proofs.Common.{◌≡◌, ℕ, ◌+◌, ◌≤◌, List, [], ◌∷◌, Bool, true, false, ◌&&◌, cond, refl, sym, ap, inl, inr, arith, map, subst}
use Rattle.issuer_base.specs.declared.answer.Answer.{Answer}
use Rattle.issuer_base.specs.declared.answer.Answer.TheVariants.{Fresh, Kept as AnsweredKept, Queued, Set, Refused}
use Rattle.shared_seats.specs.Totals.{one_if}
use Rattle.shared_seats.proofs.Totals.{total-le}
use Rattle.claim_words.specs.declared.view.Standing.{Standing}
use Rattle.claim_words.specs.declared.view.Standing.TheVariants.{Open, Kept, GivenBack}
use Rattle.claim_words.specs.declared.view.Claimed.{Claimed}
use Rattle.claim_words.specs.declared.view.ClaimView.{ClaimView}
use Rattle.claim_words.specs.ClaimViews.{is_pair, is_open, is_kept, claims_on, HasOpen, settled, settled_claim}
use Rattle.claim_words.proofs.ClaimCounts.{pair_cases, pair-self, pair-other, claims-settled_other, kept-kept, kept-given_back}
use Rattle.shared_laws.specs.Finishes.{is_fresh, standing_by}
use Rattle.host_calls.specs.Passes.{open_in}

and_le_right : (on test : Bool) → one_if (on && test) ≤ one_if test
and_le_right true test = omega arith
and_le_right false test = omega arith

-- of all open claims some are on the pair
open_on : (card counter : ℕ) (claims : List Claimed) → claims_on is_open card counter claims ≤ open_in claims
open_on card counter claims = total-le _ _ (λ (claim : Claimed). and_le_right (is_pair card counter claim.card claim.counter) (is_open claim.standing)) claims

-- the one open claim is once on its pair
pub open-once : (card counter : ℕ) (view : ClaimView) → HasOpen card counter view → open_in view.claims ≡ 1 → claims_on is_open card counter view.claims ≡ 1
open-once card counter view own alone = let below = open_on card counter view.claims in omega arith

-- a claim that gets a standing is open no more
one-open : (standing old : Standing) (card counter : ℕ) (on : Bool) → is_open standing ≡ false
    → one_if (is_open (cond (on && is_open old) standing old)) + one_if (on && is_open old) ≡ one_if (is_open old)
one-open standing Open card counter true closed = omega (arith, ap one_if closed)
one-open standing Kept card counter true closed = refl
one-open standing GivenBack card counter true closed = refl
one-open standing old card counter false closed = omega arith

standing-cond : (standing : Standing) (claim : Claimed) (now : Bool)
    → (cond now (record claim { standing = standing }) claim).standing ≡ cond now standing claim.standing
standing-cond standing claim true = refl
standing-cond standing claim false = refl

open-settled : (standing : Standing) (card counter : ℕ) (claims : List Claimed) → is_open standing ≡ false
    → open_in (map (settled_claim standing card counter) claims) + claims_on is_open card counter claims ≡ open_in claims
open-settled standing card counter [] closed = refl
open-settled standing card counter (claim ∷ claims) closed =
    let on : Bool = is_pair card counter claim.card claim.counter in
    omega (
      arith,
      ap (λ (standing : Standing). one_if (is_open standing)) (standing-cond standing claim (on && is_open claim.standing)),
      one-open standing claim.standing card counter on closed,
      open-settled standing card counter claims closed,
    )

never-open : (answer : Answer) → is_open (standing_by answer) ≡ false
never-open (Fresh at place reply) = refl
never-open (AnsweredKept at place reply) = refl
never-open (Queued at place) = refl
never-open (Set at place) = refl
never-open (Refused refusal) = refl

-- once it is settled no claim is open
pub none-open : (answer : Answer) (card counter : ℕ) (view : ClaimView) → HasOpen card counter view → open_in view.claims ≡ 1
    → open_in (settled (standing_by answer) card counter view).claims ≡ 0
none-open answer card counter view own alone =
    omega (arith, open-settled (standing_by answer) card counter view.claims (never-open answer), open-once card counter view own alone)

-- a claim that is given back is kept no more than before
module _ (number counter : ℕ) (view : ClaimView) (once : claims_on is_open number counter view.claims ≡ 1) (card other : ℕ) where
  back : claims_on is_kept card other (settled GivenBack number counter view).claims ≡ claims_on is_kept card other view.claims + 0
  back =
      elim (pair_cases card other number counter) [
        | inl same ↦
            let P : ℕ → ℕ → Type 0 = λ card other. claims_on is_kept card other (settled GivenBack number counter view).claims
            ≡ claims_on is_kept card other view.claims + 0 in
            subst (λ (card : ℕ). P card other) (sym same.0)
            (subst (λ (other : ℕ). P number other) (sym same.1) (omega (arith, kept-given_back number counter view.claims)))
        | inr apart ↦ omega (arith, claims-settled_other number counter is_kept GivenBack card other apart view.claims)
      ]

  kept : claims_on is_kept card other (settled Kept number counter view).claims
      ≡ claims_on is_kept card other view.claims + one_if (is_pair card other number counter)
  kept =
      elim (pair_cases card other number counter) [
        | inl same ↦
            let P : ℕ → ℕ → Type 0 = λ card other. claims_on is_kept card other (settled Kept number counter view).claims
            ≡ claims_on is_kept card other view.claims + one_if (is_pair card other number counter) in
            subst (λ (card : ℕ). P card other) (sym same.0)
            (subst (λ (other : ℕ). P number other) (sym same.1)
            (omega (arith, kept-kept number counter view.claims, once, ap one_if (pair-self number counter))))
        | inr apart ↦
            omega (
              arith,
              claims-settled_other number counter is_kept Kept card other apart view.claims,
              ap one_if (pair-other card other number counter apart),
            )
      ]

  -- the claims that are kept gained the one that was settled, where its request was decided
  pub kept-settled : (answer : Answer) → claims_on is_kept card other (settled (standing_by answer) number counter view).claims
      ≡ claims_on is_kept card other view.claims + one_if (is_fresh answer && is_pair card other number counter)
  kept-settled (Fresh at place reply) = kept
  kept-settled (AnsweredKept at place reply) = back
  kept-settled (Queued at place) = back
  kept-settled (Set at place) = back
  kept-settled (Refused refusal) = back
