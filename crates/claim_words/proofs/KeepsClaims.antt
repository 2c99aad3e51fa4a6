-- Each step preserves the invariant.
use Rattle.std.proofs.Common.{◌≡◌, ◌≢◌, ℕ, ◌+◌, ◌%◌, ◌<◌, ◌≤◌, ◌⊎◌, List, [], ◌∷◌, ◌++◌, map, length, set, get_or, max, bit_and, bit_or, cond, ◌&&◌}
use Rattle.std.proofs.Common.{Bool, true, false, Option, None, Some, MatchOption, ◌-◌, length-append, inl, inr, refl, sym, ap, ◌∙◌, subst, arith}
use Rattle.std.proofs.Common.{length-set}
use Rattle.std.proofs.lemmas.Bool.{cases_eq, cases_lt, eq-eqb, ne_eqb}
use Rattle.std.proofs.lemmas.Nat.Bits.{bit_at-lt}
use Rattle.std.proofs.lemmas.Option.{same_Some}
use lib.Seq.{set-get_or}
use mathlib.Core.Option.{none, some}
use mathlib.Core.Option as maybe
use lib.ListN.{get_elem?}
use Rattle.atomic_table.specs.Table.{State, Me, step, keeps, Allows, Splits, Joins}
use Rattle.shared_seats.specs.Totals.{total, one_if}
use Rattle.shared_seats.specs.SeatNames.{after_split, split_off, AreNamed, IsWhole}
use Rattle.shared_seats.specs.declared.seat_name.SeatName.{SeatName}
use Rattle.shared_seats.proofs.Totals.{at_set, at_snoc, at_map, set_again, map-set, map-snoc, total-append, total-snoc}
use Rattle.shared_seats.proofs.Totals.{total-set, part_le, total-alone, total-le}
use Rattle.shared_seats.proofs.SeatNameLemmas.{named_split, named_join, whole_alone}
use Rattle.claim_words.specs.declared.layout.TheConstants.{COUNTERS}
use Rattle.claim_words.specs.declared.view.Standing.{Standing}
use Rattle.claim_words.specs.declared.view.Standing.TheVariants.{Kept, GivenBack}
use Rattle.claim_words.specs.declared.view.ClaimView.{ClaimView}
use Rattle.claim_words.specs.declared.claim_words.Claim.{Claim}
use Rattle.claim_words.specs.declared.claim_words.Claim.TheVariants.{Won, Lost}
use Rattle.claim_words.specs.Layout.{word_of, top_word_of, mask_of, others_of, bit_of, top_of, told_by}
use Rattle.claim_words.specs.ClaimViews.{is_pair, is_open, is_kept, is_live, is_any, claims_on, times, newcomer, with_claim, with_found, after_claim}
use Rattle.claim_words.specs.ClaimViews.{after_top, settled, HasOpen, IsNew, known_on, parent_view, child_view, joined}
use Rattle.claim_words.specs.ClaimRule.{places, found_by, told_to, AreClaims}
use Rattle.claim_words.specs.Seats.{IsTopFor}
use Rattle.claim_words.specs.ClaimSteps.{claim_by, claimed, released, marked, topped}
use Rattle.claim_words.proofs.ClaimBits
use Rattle.claim_words.proofs.ClaimCounts
use Rattle.claim_words.proofs.WordPlaces

abbrev names_of : ClaimView → List SeatName
names_of view = view.names

module _ {S : Type 0} (first : List ℕ) (s : State S ClaimView) where
  pub kept_live_places : (card counter : ℕ) → places is_kept first s.views card counter ≤ places is_live first s.views card counter
  kept_live_places card counter =
      omega (arith, total-le _ _ (λ (view : ClaimView). ClaimCounts.kept_le_live card counter view.claims) s.views)

  pub live_any_places : (card counter : ℕ) → places is_live first s.views card counter ≤ places is_any first s.views card counter
  live_any_places card counter =
      omega (arith, total-le _ _ (λ (view : ClaimView). ClaimCounts.live_le_any card counter view.claims) s.views)

-- what a step may do to one view and the words, so that the rule stays
pub record IsKeeping {S : Type 0} (first : List ℕ) (s : State S ClaimView) (words : List ℕ) (v w : ClaimView) : Type 0 where
  wide : length words ≡ length s.words
  names : w.names ≡ v.names
  named : 0 < length v.names
  live : (card counter : ℕ) → counter < COUNTERS
      → claims_on is_live card counter w.claims + bit_of s.words card counter ≡ claims_on is_live card counter v.claims + bit_of words card counter
  kept : (card counter : ℕ) → claims_on is_kept card counter v.claims ≤ claims_on is_kept card counter w.claims
  any : (card counter : ℕ) → claims_on is_any card counter v.claims ≤ claims_on is_any card counter w.claims
  above : (card counter : ℕ) → (claims_on is_kept card counter w.claims ≤ claims_on is_kept card counter v.claims) ⊎ (counter < top_of words card)
  rises : (card : ℕ) → top_of s.words card ≤ top_of words card
  greatest : (card counter : ℕ) → top_of words card ≡ counter + 1 → (top_of s.words card ≡ counter + 1) ⊎ (0 < claims_on is_kept card counter w.claims)
  small : (card : ℕ) → top_of words card ≤ COUNTERS
  found : (card counter : ℕ) → (times card counter w.found ≤ times card counter v.found) ⊎ (0 < places is_any first s.views card counter)
  told : (card counter : ℕ) → (times card counter w.tops ≤ times card counter v.tops) ⊎ (0 < places is_kept first s.views card counter)

pub kept_by : {S : Type 0} (first : List ℕ) (s : State S ClaimView) (id : ℕ) (words : List ℕ) (homes : List (maybe.Option S)) (v w : ClaimView)
    → AreClaims first s → get_elem? s.views id ≡ some v → IsKeeping first s words v w
    → AreClaims first (record { words = words; homes = homes; views = set s.views id w })
kept_by first s id words homes v w rule here step =
    let changed : (f : ClaimView → ℕ) → total f (set s.views id w) + f v ≡ total f s.views + f w = λ f. total-set f s.views id v w here in
    let claims : (test : Standing → Bool) (card counter : ℕ) → ClaimView → ℕ = λ test card counter view. claims_on test card counter view.claims in
    let found : (card counter : ℕ) → ClaimView → ℕ = λ card counter view. times card counter view.found in
    let told : (card counter : ℕ) → ClaimView → ℕ = λ card counter view. times card counter view.tops in
    let some_kept : (card counter : ℕ) → 0 < places is_kept first s.views card counter → 0 < places is_kept first (set s.views id w) card counter =
    λ card counter before. omega (arith, before, step.kept card counter, changed (claims is_kept card counter)) in
    record {
      wide = step.wide ∙ rule.wide;
      bits = λ card counter small. omega (arith, changed (claims is_live card counter), step.live card counter small, rule.bits card counter small);
      above = λ card counter small standing.
          elim (step.above card counter) [
            | inl old ↦ let before = rule.above card counter small (omega (arith, old, standing, changed (claims is_kept card counter))) in
                let up = step.rises card in omega arith
            | inr new ↦ new
          ];
      greatest = λ card counter top.
          elim (step.greatest card counter top) [
            | inl old ↦ some_kept card counter (rule.greatest card counter old)
            | inr new ↦ omega (arith, new, changed (claims is_kept card counter), part_le (claims is_kept card counter) s.views id v here)
          ];
      small = step.small;
      found = λ card counter standing.
          let more : places is_any first s.views card counter ≤ places is_any first (set s.views id w) card counter =
          omega (arith, step.any card counter, changed (claims is_any card counter)) in
          elim (step.found card counter) [
            | inl old ↦ let before = rule.found card counter (omega (arith, old, standing, changed (found card counter))) in omega arith
            | inr new ↦ omega arith
          ];
      told = λ card counter standing.
          elim (step.told card counter) [
            | inl old ↦ some_kept card counter (rule.told card counter (omega (arith, old, standing, changed (told card counter))))
            | inr new ↦ some_kept card counter new
          ];
      names = subst AreNamed
          (sym (map-set names_of s.views id w
          ∙ set_again (map names_of s.views) id w.names
          (at_map names_of s.views id v here ∙ ap (λ (names : List SeatName). some names) (sym step.names)))) rule.names;
      idle = λ seat view there unnamed.
          elim (at_set s.views id seat w view there) [
            | inl same ↦ absurd (omega
                (arith, step.named, ap (λ (names : List SeatName). length names) step.names, ap (λ (u : ClaimView). length u.names) same.1))
            | inr other ↦ rule.idle seat view other.1 unnamed
          ];
    }

and-false : (on : Bool) → one_if (on && false) ≡ 0
and-false true = refl
and-false false = refl

-- ---- a claim
module _ {S : Type 0} (first : List ℕ) (s : State S ClaimView) (rule : AreClaims first s) (view : ClaimView) (named : 0 < length view.names)
    (card counter : ℕ) (small : counter < COUNTERS) (within : word_of card counter < length s.words) where
  abbrev word : ℕ
  word = word_of card counter

  abbrev now : ℕ
  now = get_or s.words word 0

  abbrev set_words : List ℕ
  set_words = set s.words word (bit_or now (mask_of counter))

  set_here : bit_of set_words card counter ≡ 1
  set_here = ClaimBits.bit-set s.words card counter (bit_or now (mask_of counter)) small within ∙ ClaimBits.bit-or now counter

  set_there : (other_card other : ℕ) → other < COUNTERS → ((other_card ≡ card) × (other ≡ counter) → ⊥)
      → bit_of set_words other_card other ≡ bit_of s.words other_card other
  set_there other_card other also apart =
      ClaimBits.bit-set_other s.words card counter (bit_or now (mask_of counter)) small other_card other also apart
      (λ i below low. ClaimBits.bit-or_other now counter i low)

  set_top : (other_card : ℕ) → top_of set_words other_card ≡ top_of s.words other_card
  set_top other_card = ClaimBits.top-set_bit s.words card counter (bit_or now (mask_of counter)) small other_card

  won_keeps : bit_of s.words card counter ≡ 0 → IsKeeping first s set_words view (with_claim card counter view)
  won_keeps clear = record {
    wide = length-set s.words word (bit_or now (mask_of counter));
    names = refl;
    named = named;
    live = λ other_card other also.
        elim (ClaimCounts.pair_cases other_card other card counter) [
          | inl same ↦
              let P : ℕ → ℕ → Type 0 = λ c k. claims_on is_live c k (with_claim card counter view).claims + bit_of s.words c k
              ≡ claims_on is_live c k view.claims + bit_of set_words c k in
              let here : P card counter = omega (arith, ClaimCounts.claims-with_claim is_live card counter view, clear, set_here) in
              subst (λ (c : ℕ). P c other) (sym same.0) (subst (λ (k : ℕ). P card k) (sym same.1) here)
          | inr apart ↦ omega (
            arith,
            ClaimCounts.claims-with_claim_other is_live card counter view other_card other apart,
            set_there other_card other also apart,
          )
        ];
    kept = λ other_card other. omega arith;
    any = λ other_card other. omega arith;
    above = λ other_card other. inl (omega (arith, and-false (is_pair other_card other card counter)));
    rises = λ other_card. omega (arith, set_top other_card);
    greatest = λ other_card other top. inl (sym (set_top other_card) ∙ top);
    small = λ other_card. omega (arith, set_top other_card, rule.small other_card);
    found = λ other_card other. inl (omega arith);
    told = λ other_card other. inl (omega arith);
  }

  lost_keeps : bit_of s.words card counter ≡ 1 → IsKeeping first s set_words view (with_found card counter view)
  lost_keeps found = record {
    wide = length-set s.words word (bit_or now (mask_of counter));
    names = refl;
    named = named;
    live = λ other_card other also.
        elim (ClaimCounts.pair_cases other_card other card counter) [
          | inl same ↦
              let P : ℕ → ℕ → Type 0 =
              λ c k. claims_on is_live c k view.claims + bit_of s.words c k ≡ claims_on is_live c k view.claims + bit_of set_words c k in
              let here : P card counter = omega (arith, found, set_here) in
              subst (λ (c : ℕ). P c other) (sym same.0) (subst (λ (k : ℕ). P card k) (sym same.1) here)
          | inr apart ↦ omega (arith, set_there other_card other also apart)
        ];
    kept = λ other_card other. omega arith;
    any = λ other_card other. omega arith;
    above = λ other_card other. inl (omega arith);
    rises = λ other_card. omega (arith, set_top other_card);
    greatest = λ other_card other top. inl (sym (set_top other_card) ∙ top);
    small = λ other_card. omega (arith, set_top other_card, rule.small other_card);
    found = λ other_card other.
        elim (ClaimCounts.pair_cases other_card other card counter) [
          | inl same ↦
              let P : ℕ → ℕ → Type 0 = λ c k. 0 < places is_any first s.views c k in
              let here : P card counter = omega (arith, found, rule.bits card counter small, live_any_places first s card counter) in
              inr (subst (λ (c : ℕ). P c other) (sym same.0) (subst (λ (k : ℕ). P card k) (sym same.1) here))
          | inr apart ↦ inl (omega (arith, ClaimCounts.times-cons_other card counter other_card other view.found apart))
        ];
    told = λ other_card other. inl (omega arith);
  }

  won_untold : (id : ℕ) → get_elem? s.views id ≡ some view → bit_of s.words card counter ≡ 0 → times card counter view.tops ≡ 0
  won_untold id here clear =
      elim (cases_lt 0 (times card counter view.tops)) [
        | inl told ↦
            let some_told = part_le (λ (v : ClaimView). times card counter v.tops) s.views id view here in
            let standing = rule.told card counter (omega arith) in
            absurd (omega (arith, standing, kept_live_places first s card counter, rule.bits card counter small))
        | inr untold ↦ omega arith
      ]

  -- a claim that was free is new to the view
  won_new : (id : ℕ) → get_elem? s.views id ≡ some view → bit_of s.words card counter ≡ 0 → IsNew card counter view
  won_new id here clear = (
    omega (arith, clear, rule.bits card counter small, part_le (λ (v : ClaimView). claims_on is_live card counter v.claims) s.views id view here),
    won_untold id here clear,
  )

-- a step that takes no slot: the new view keeps the rule, and the step tells what it has to
abbrev Goes : {S : Type 0} → List ℕ → State S ClaimView → ℕ → Me S ClaimView → List ℕ → ℕ → (ℕ → Me S ClaimView → Type 0) → Type 0
Goes first s id m words n tells = (w : ClaimView) × AreClaims first (record { words = words; homes = s.homes; views = set s.views id w }) × tells n (w, m.1)

pub claims_allowed : {S : Type 0} (first : List ℕ) (slots id : ℕ) (m : Me S ClaimView) (card counter : ℕ) → counter < COUNTERS
    → word_of card counter < length first → 0 < length m.0.names
    → Allows (AreClaims first) slots id m (word_of card counter) (λ n. bit_or n (mask_of counter))
    (claimed (step slots (word_of card counter) (mask_of counter) 0 none) m)
claims_allowed {S} first slots id m card counter small within named s rule homes here range =
    let n : ℕ = get_or s.words (word_of card counter) 0 in
    let mask : ℕ = mask_of counter in
    let words : List ℕ = set s.words (word_of card counter) (bit_or n mask) in
    let inside : word_of card counter < length s.words = omega (arith, rule.wide) in
    let goes : (claim : Claim) → claim_by n mask ≡ claim → IsKeeping first s words m.0 (after_claim claim card counter m.0)
    → (claim ≡ Won → IsNew card counter m.0)
    → Goes first s id m words n (claimed (step slots (word_of card counter) mask 0 none) m) =
    λ claim is keeping new. (
      after_claim claim card counter m.0,
      kept_by first s id words s.homes m.0 _ rule here keeping,
      (
        refl,
        λ other_card other also word_is mask_is.
            let pair = ClaimBits.pair_by_mask card counter other_card other small also word_is mask_is in
            let P : ℕ → ℕ → Type 0 = λ c k. (after_claim claim card counter m.0 ≡ after_claim (claim_by n mask) c k m.0)
            × (claim_by n mask ≡ Won → IsNew c k m.0) in
            let same : P card counter = (ap (λ (c : Claim). after_claim c card counter m.0) (sym is), λ won. new (sym is ∙ won)) in
            subst (λ (c : ℕ). P c other) (sym pair.0) (subst (λ (k : ℕ). P card k) (sym pair.1) same),
      ),
    ) in
    let done : Goes first s id m words n (claimed (step slots (word_of card counter) mask 0 none) m) = elim (cases_eq (bit_and n mask) 0) [
      | inl clear ↦
          let bit = ClaimBits.bit_clear n counter clear in
          goes Won (ap (λ (b : Bool). cond b Won Lost) (eq-eqb (bit_and n mask) 0 clear)) (won_keeps first s rule m.0 named card counter small inside bit)
          (λ _. won_new first s rule m.0 named card counter small inside id here bit)
      | inr found ↦
          goes Lost (ap (λ (b : Bool). cond b Won Lost) (ne_eqb (bit_and n mask) 0 found))
          (lost_keeps first s rule m.0 named card counter small inside (ClaimBits.bit_found n counter found))
          (λ won. cc)
    ] in
    (done.0, keeps, tt, done.1, done.2)

-- ---- a release
pub releases_allowed : {S : Type 0} (first : List ℕ) (slots id : ℕ) (m : Me S ClaimView) (card counter : ℕ) → counter < COUNTERS
    → word_of card counter < length first → 0 < length m.0.names
    → HasOpen card counter m.0
    → Allows (AreClaims first) slots id m (word_of card counter) (λ n. bit_and n (others_of counter))
    (released (step slots (word_of card counter) (others_of counter) 0 none) m)
releases_allowed {S} first slots id m card counter small within named holds s rule homes here range =
    let word : ℕ = word_of card counter in
    let n : ℕ = get_or s.words word 0 in
    let new : ℕ = bit_and n (others_of counter) in
    let words : List ℕ = set s.words word new in
    let inside : word < length s.words = omega (arith, rule.wide) in
    let w : ClaimView = settled GivenBack card counter m.0 in
    let bit : bit_of words card counter ≡ 0 = ClaimBits.bit-set s.words card counter new small inside ∙ ClaimBits.bit-and n counter in
    let top : (other_card : ℕ) → top_of words other_card ≡ top_of s.words other_card =
    λ other_card. ClaimBits.top-set_bit s.words card counter new small other_card in
    let live : (card counter : ℕ) → ClaimView → ℕ = λ card counter view. claims_on is_live card counter view.claims in
    let kept_same : (other_card other : ℕ) → claims_on is_kept other_card other w.claims ≡ claims_on is_kept other_card other m.0.claims =
    λ other_card other. elim (ClaimCounts.pair_cases other_card other card counter) [
      | inl same ↦
          let P : ℕ → ℕ → Type 0 = λ c k. claims_on is_kept c k w.claims ≡ claims_on is_kept c k m.0.claims in
          subst (λ (c : ℕ). P c other) (sym same.0) (subst (λ (k : ℕ). P card k) (sym same.1) (ClaimCounts.kept-given_back card counter m.0.claims))
      | inr apart ↦ ClaimCounts.claims-settled_other card counter is_kept GivenBack other_card other apart m.0.claims
    ] in (
      w,
      keeps,
      tt,
      kept_by first s id words s.homes m.0 w rule here (record {
        wide = length-set s.words word new;
        names = refl;
        named = named;
        live = λ other_card other also.
            elim (ClaimCounts.pair_cases other_card other card counter) [
              | inl same ↦
                  let P : ℕ → ℕ → Type 0 = λ c k. claims_on is_live c k w.claims + bit_of s.words c k ≡ claims_on is_live c k m.0.claims + bit_of words c k in
                  let there : P card counter = omega (
                    arith,
                    bit,
                    holds,
                    rule.bits card counter small,
                    part_le (live card counter) s.views id m.0 here,
                    bit_at-lt (get_or s.words (word_of card counter) 0) (counter % 64),
                    ClaimCounts.open_le_live card counter m.0.claims,
                    ClaimCounts.live-given_back card counter m.0.claims,
                  ) in
                  subst (λ (c : ℕ). P c other) (sym same.0) (subst (λ (k : ℕ). P card k) (sym same.1) there)
              | inr apart ↦ omega (
                arith,
                ClaimCounts.claims-settled_other card counter is_live GivenBack other_card other apart m.0.claims,
                ClaimBits.bit-set_other s.words card counter new small other_card other also apart
                    (λ i below low. ClaimBits.bit-and_other n counter i below low),
              )
            ];
        kept = λ other_card other. omega (arith, kept_same other_card other);
        any = λ other_card other. omega (arith, ClaimCounts.any-settled GivenBack card counter other_card other m.0.claims);
        above = λ other_card other. inl (omega (arith, kept_same other_card other));
        rises = λ other_card. omega (arith, top other_card);
        greatest = λ other_card other e. inl (sym (top other_card) ∙ e);
        small = λ other_card. omega (arith, top other_card, rule.small other_card);
        found = λ other_card other. inl (omega arith);
        told = λ other_card other. inl (omega arith);
      }),
      (
        refl,
        λ other_card other also word_is others_is.
            let pair = ClaimBits.pair_by_others card counter other_card other small also word_is others_is in
            let P : ℕ → ℕ → Type 0 = λ c k. w ≡ settled GivenBack c k m.0 in
            subst (λ (c : ℕ). P c other) (sym pair.0) (subst (λ (k : ℕ). P card k) (sym pair.1) refl),
      ),
    )

-- ---- a claim that is marked kept
pub marks_allowed : {S : Type 0} (first : List ℕ) (slots id : ℕ) (m : Me S ClaimView) (card counter : ℕ) → counter < COUNTERS
    → top_word_of card < length first → 0 < length m.0.names
    → HasOpen card counter m.0
    → Allows (AreClaims first) slots id m (top_word_of card) (λ n. max n (counter + 1)) (marked (step slots (top_word_of card) (counter + 1) 0 none) m)
marks_allowed {S} first slots id m card counter small within named holds s rule homes here range =
    let word : ℕ = top_word_of card in
    let n : ℕ = get_or s.words word 0 in
    let new : ℕ = max n (counter + 1) in
    let words : List ℕ = set s.words word new in
    let inside : word < length s.words = omega (arith, rule.wide) in
    let w : ClaimView = settled Kept card counter m.0 in
    let bits : (other_card other : ℕ) → other < COUNTERS → bit_of words other_card other ≡ bit_of s.words other_card other =
    ClaimBits.bit-set_top s.words card new in
    let top : top_of words card ≡ new = ClaimBits.top-set s.words card new inside in
    let tops : (other_card : ℕ) → other_card ≢ card → top_of words other_card ≡ top_of s.words other_card = ClaimBits.top-set_other s.words card new in
    let kept_now : claims_on is_kept card counter w.claims ≡ claims_on is_kept card counter m.0.claims + claims_on is_open card counter m.0.claims =
    ClaimCounts.kept-kept card counter m.0.claims in (
      w,
      keeps,
      tt,
      kept_by first s id words s.homes m.0 w rule here (record {
        wide = length-set s.words word new;
        names = refl;
        named = named;
        live = λ other_card other also.
            elim (ClaimCounts.pair_cases other_card other card counter) [
              | inl same ↦
                  let P : ℕ → ℕ → Type 0 = λ c k. claims_on is_live c k w.claims ≡ claims_on is_live c k m.0.claims in
                  let there : P other_card other =
                  subst (λ (c : ℕ). P c other) (sym same.0) (subst (λ (k : ℕ). P card k) (sym same.1) (ClaimCounts.live-kept card counter m.0.claims)) in
                  omega (arith, there, bits other_card other also)
              | inr apart ↦ omega (
                arith,
                ClaimCounts.claims-settled_other card counter is_live Kept other_card other apart m.0.claims,
                bits other_card other also,
              )
            ];
        kept = λ other_card other.
            elim (ClaimCounts.pair_cases other_card other card counter) [
              | inl same ↦
                  let P : ℕ → ℕ → Type 0 = λ c k. claims_on is_kept c k m.0.claims ≤ claims_on is_kept c k w.claims in
                  let there : P card counter = omega (arith, kept_now) in
                  subst (λ (c : ℕ). P c other) (sym same.0) (subst (λ (k : ℕ). P card k) (sym same.1) there)
              | inr apart ↦ omega (arith, ClaimCounts.claims-settled_other card counter is_kept Kept other_card other apart m.0.claims)
            ];
        any = λ other_card other. omega (arith, ClaimCounts.any-settled Kept card counter other_card other m.0.claims);
        above = λ other_card other.
            elim (ClaimCounts.pair_cases other_card other card counter) [
              | inl same ↦
                  let P : ℕ → ℕ → Type 0 = λ c k. k < top_of words c in
                  let there : P card counter = omega (arith, top) in
                  inr (subst (λ (c : ℕ). P c other) (sym same.0) (subst (λ (k : ℕ). P card k) (sym same.1) there))
              | inr apart ↦ inl (omega (arith, ClaimCounts.claims-settled_other card counter is_kept Kept other_card other apart m.0.claims))
            ];
        rises = λ other_card.
            elim (cases_eq other_card card) [
              | inl same ↦ subst (λ (c : ℕ). top_of s.words c ≤ top_of words c) (sym same) (omega (arith, top))
              | inr apart ↦ omega (arith, tops other_card apart)
            ];
        greatest = λ other_card other e.
            elim (cases_eq other_card card) [
              | inl same ↦
                  let here_top : top_of words card ≡ other + 1 = subst (λ (c : ℕ). top_of words c ≡ other + 1) same e in
                  elim (cases_lt n (counter + 1)) [
                    | inl up ↦
                        let is : other ≡ counter = omega (arith, top) in
                        let P : ℕ → ℕ → Type 0 = λ c k. 0 < claims_on is_kept c k w.claims in
                        let there : P card counter = omega (arith, kept_now, holds) in
                        inr (subst (λ (c : ℕ). P c other) (sym same) (subst (λ (k : ℕ). P card k) (sym is) there))
                    | inr stays ↦
                        let old : top_of s.words card ≡ other + 1 = omega (arith, top) in
                        inl (subst (λ (c : ℕ). top_of s.words c ≡ other + 1) (sym same) old)
                  ]
              | inr apart ↦ inl (sym (tops other_card apart) ∙ e)
            ];
        small = λ other_card.
            elim (cases_eq other_card card) [
              | inl same ↦ subst (λ (c : ℕ). top_of words c ≤ COUNTERS) (sym same) (omega (arith, top, rule.small card))
              | inr apart ↦ omega (arith, tops other_card apart, rule.small other_card)
            ];
        found = λ other_card other. inl (omega arith);
        told = λ other_card other. inl (omega arith);
      }),
      (
        refl,
        λ other_card other word_is counter_is.
            let cards : other_card ≡ card = WordPlaces.same_top card other_card word_is in
            let counters : other ≡ counter = omega arith in
            let P : ℕ → ℕ → Type 0 = λ c k. w ≡ settled Kept c k m.0 in
            subst (λ (c : ℕ). P c other) (sym cards) (subst (λ (k : ℕ). P card k) (sym counters) refl),
      ),
    )

-- ---- a load of a top word
-- what a seat has kept or was told is below the top
below_top : {S : Type 0} (first : List ℕ) (s : State S ClaimView) (id : ℕ) (view : ClaimView) → AreClaims first s → get_elem? s.views id ≡ some view
    → (card counter : ℕ) → counter < COUNTERS → 0 < known_on card counter view → counter < top_of s.words card
below_top first s id view rule here card counter small known =
    let mine = part_le (λ (v : ClaimView). claims_on is_kept card counter v.claims) s.views id view here in
    let told = part_le (λ (v : ClaimView). times card counter v.tops) s.views id view here in
    elim (cases_lt 0 (claims_on is_kept card counter view.claims)) [
      | inl keeping ↦ rule.above card counter small (omega arith)
      | inr unkept ↦ rule.above card counter small (rule.told card counter (omega arith))
    ]

-- a view that knows of other tops, each one of its own or that of an ATC that is kept
tops_keep : {S : Type 0} (first : List ℕ) (s : State S ClaimView) (view : ClaimView) (tops : List (ℕ × ℕ)) → AreClaims first s → 0 < length view.names
    → ((card counter : ℕ) → (times card counter tops ≤ times card counter view.tops) ⊎ (0 < places is_kept first s.views card counter))
    → IsKeeping first s s.words view (record view { tops = tops })
tops_keep first s view tops rule named told = record {
  wide = refl;
  names = refl;
  named = named;
  live = λ other_card other also. refl;
  kept = λ other_card other. omega arith;
  any = λ other_card other. omega arith;
  above = λ other_card other. inl (omega arith);
  rises = λ other_card. omega arith;
  greatest = λ other_card other e. inl e;
  small = rule.small;
  found = λ other_card other. inl (omega arith);
  told = told;
}

-- a view with what a top tells
top_keeps : {S : Type 0} (first : List ℕ) (s : State S ClaimView) (view : ClaimView) → AreClaims first s → 0 < length view.names
    → (card : ℕ) (answer : Option ℕ)
    → ((counter : ℕ) → answer ≡ Some counter → top_of s.words card ≡ counter + 1) → IsKeeping first s s.words view (after_top card answer view)
top_keeps first s view rule named card None is = tops_keep first s view view.tops rule named (λ other_card other. inl (omega arith))
top_keeps first s view rule named card (Some counter) is = tops_keep first s view ((card, counter) ∷ view.tops) rule named (λ other_card other.
    elim (ClaimCounts.pair_cases other_card other card counter) [
      | inl same ↦
          let P : ℕ → ℕ → Type 0 = λ c k. 0 < places is_kept first s.views c k in
          inr (subst (λ (c : ℕ). P c other) (sym same.0) (subst (λ (k : ℕ). P card k) (sym same.1) (rule.greatest card counter (is counter refl))))
      | inr apart ↦ inl (omega (arith, ClaimCounts.times-cons_other card counter other_card other view.tops apart))
    ])

told_none : (n : ℕ) → n ≡ 0 → told_by n ≡ None
told_none n e = ap (λ (b : Bool). cond b None (Some (n - 1))) (eq-eqb n 0 e)

told_some : (n : ℕ) → 0 < n → told_by n ≡ Some (n - 1)
told_some n h = ap (λ (b : Bool). cond b None (Some (n - 1))) (ne_eqb n 0 (λ e. omega arith))

pub tops_allowed : {S : Type 0} (first : List ℕ) (slots id : ℕ) (m : Me S ClaimView) (card : ℕ) → 0 < length m.0.names
    → Allows (AreClaims first) slots id m (top_word_of card) (λ n. n) (topped (step slots (top_word_of card) 0 0 none) m)
tops_allowed {S} first slots id m card named s rule homes here range =
    let word : ℕ = top_word_of card in
    let n : ℕ = get_or s.words word 0 in
    let same : set s.words word n ≡ s.words = set-get_or s.words word 0 in
    let is : (counter : ℕ) → told_by n ≡ Some counter → top_of s.words card ≡ counter + 1 =
    λ counter told. elim (cases_lt 0 n) [
      | inl some_top ↦ let e : n - 1 ≡ counter = same_Some _ _ (sym (told_some n some_top) ∙ told) in omega arith
      | inr no_top ↦ absurd (let e = told_none n (omega arith) in cc)
    ] in
    let keeping : IsKeeping first s s.words m.0 (after_top card (told_by n) m.0) = top_keeps first s m.0 rule named card (told_by n) is in (
      after_top card (told_by n) m.0,
      keeps,
      tt,
      kept_by first s id (set s.words word n) s.homes m.0 _ rule here
          (subst (λ (words : List ℕ). IsKeeping first s words m.0 (after_top card (told_by n) m.0)) (sym same) keeping),
      (
        refl,
        rule.small card,
        λ other_card word_is.
            let cards : other_card ≡ card = WordPlaces.same_top card other_card word_is in
            let P : ℕ → Type 0 = λ c. (after_top card (told_by n) m.0 ≡ after_top c (told_by n) m.0)
            × ((counter : ℕ) → counter < COUNTERS → 0 < known_on c counter m.0 → counter < n) in
            let there : P card = (refl, below_top first s id m.0 rule here card) in
            subst P (sym cards) there,
      ),
    )

-- ---- a split and a join
-- views with as many claims, found pairs and told tops as before
kept_alike : {S : Type 0} (first : List ℕ) (s : State S ClaimView) (views : List ClaimView) → AreClaims first s
    → ((test : Standing → Bool) (card counter : ℕ)
    → total (λ (view : ClaimView). claims_on test card counter view.claims) views ≡ total (λ (view : ClaimView). claims_on test card counter view.claims)
    s.views)
    → ((card counter : ℕ) → found_by views card counter ≡ found_by s.views card counter)
    → ((card counter : ℕ) → told_to views card counter ≡ told_to s.views card counter)
    → AreNamed (map names_of views)
    → ((seat : ℕ) (view : ClaimView) → get_elem? views seat ≡ some view → length view.names ≡ 0 → view ≡ newcomer [])
    → AreClaims first (record { words = s.words; homes = s.homes; views = views })
kept_alike first s views rule claims found told names idle = record {
  wide = rule.wide;
  bits = λ card counter small. omega (arith, claims is_live card counter, rule.bits card counter small);
  above = λ card counter small standing. rule.above card counter small (omega (arith, claims is_kept card counter));
  greatest = λ card counter top. omega (arith, claims is_kept card counter, rule.greatest card counter top);
  small = rule.small;
  found = λ card counter some_found. omega (arith, claims is_any card counter, rule.found card counter (omega (arith, found card counter)));
  told = λ card counter some_told. omega (arith, claims is_kept card counter, rule.told card counter (omega (arith, told card counter)));
  names = names;
  idle = idle;
}

split_off-named : (names : List SeatName) → 0 < length names → 0 < length (split_off names)
split_off-named [] named = absurd (omega arith)
split_off-named (name ∷ names) named = omega arith

after_split-named : (names : List SeatName) → 0 < length names → 0 < length (after_split names)
after_split-named [] named = absurd (omega arith)
after_split-named (name ∷ names) named = omega arith

pub splits_allowed : {S : Type 0} (first : List ℕ) (id : ℕ) (view : ClaimView) → 0 < length view.names
    → Splits {S = S} (AreClaims first) id view (parent_view view) (child_view view)
splits_allowed first id view named s rule here =
    let views : List ClaimView = set s.views id (parent_view view) ++ child_view view ∷ [] in
    let alike : (f : ClaimView → ℕ) → f (parent_view view) ≡ f view → f (child_view view) ≡ 0 → total f views ≡ total f s.views =
    λ f same empty. omega
    (arith, same, empty, total-snoc f (set s.views id (parent_view view)) (child_view view), total-set f s.views id view (parent_view view) here) in
    let names : map names_of views ≡ set (map names_of s.views) id (after_split view.names) ++ split_off view.names ∷ [] =
    map-snoc names_of (set s.views id (parent_view view)) (child_view view)
    ∙ ap (λ (ns : List (List SeatName)). ns ++ split_off view.names ∷ []) (map-set names_of s.views id (parent_view view)) in
    kept_alike first s views rule (λ test card counter. alike _ refl refl) (λ card counter. alike _ refl refl) (λ card counter. alike _ refl refl)
    (subst AreNamed (sym names) (named_split (map names_of s.views) id view.names (at_map names_of s.views id view here) named rule.names))
    (λ seat other there unnamed.
    elim (at_snoc (set s.views id (parent_view view)) (child_view view) other seat there) [
      | inl old ↦ elim (at_set s.views id seat (parent_view view) other old) [
        | inl parent ↦ absurd (omega (arith, after_split-named view.names named, ap (λ (u : ClaimView). length u.names) parent.1))
        | inr before ↦ rule.idle seat other before.1 unnamed
      ]
      | inr child ↦ absurd (omega (arith, split_off-named view.names named, ap (λ (u : ClaimView). length u.names) child))
    ])

pub joins_allowed : {S : Type 0} (first : List ℕ) (id : ℕ) (view : ClaimView) (other_id : ℕ) (other : ClaimView) → 0 < length view.names
    → Joins {S = S} (AreClaims first) id view other_id other (joined view other) (newcomer [])
joins_allowed first id view other_id other named s rule here apart there =
    let both : ClaimView = joined view other in
    let views : List ClaimView = set (set s.views id both) other_id (newcomer []) in
    let alike : (f : ClaimView → ℕ) → f both ≡ f view + f other → f (newcomer []) ≡ 0 → total f views ≡ total f s.views =
    λ f adds empty. omega (arith, adds, empty, total-set f (set s.views id both) other_id other (newcomer []) there, total-set f s.views id view both here) in
    let names : map names_of views ≡ set (set (map names_of s.views) id (view.names ++ other.names)) other_id [] =
    map-set names_of (set s.views id both) other_id (newcomer [])
    ∙ ap (λ (ns : List (List SeatName)). set ns other_id []) (map-set names_of s.views id both) in
    let named_there : get_elem? (set (map names_of s.views) id (view.names ++ other.names)) other_id ≡ some other.names =
    subst (λ (ns : List (List SeatName)). get_elem? ns other_id ≡ some other.names) (map-set names_of s.views id both)
    (at_map names_of (set s.views id both) other_id other there) in
    kept_alike first s views rule (λ test card counter. alike _ (total-append _ view.claims other.claims) refl)
    (λ card counter. alike _ (total-append _ view.found other.found) refl)
    (λ card counter. alike _ (total-append _ view.tops other.tops) refl)
    (subst AreNamed (sym names)
    (named_join (map names_of s.views) id other_id view.names other.names (at_map names_of s.views id view here) named_there rule.names))
    (λ seat third at unnamed.
    elim (at_set (set s.views id both) other_id seat (newcomer []) third at) [
      | inl spent ↦ sym spent.1
      | inr left ↦ elim (at_set s.views id seat both third left.1) [
        | inl mine ↦ absurd (omega (arith, named, length-append view.names other.names, ap (λ (u : ClaimView). length u.names) mine.1))
        | inr before ↦ rule.idle seat third before.1 unnamed
      ]
    ])

-- ---- the end
module _ {S : Type 0} (first : List ℕ) (s : State S ClaimView) (rule : AreClaims first s) (id : ℕ) (view : ClaimView)
    (here : get_elem? s.views id ≡ some view) (whole : IsWhole view.names) where
  -- all that the views know, the whole seat's knows
  alone : (f : ClaimView → ℕ) → f (newcomer []) ≡ 0 → total f s.views ≡ f view
  alone f empty = total-alone f s.views id view here (λ seat other apart there.
      let unnamed = whole_alone (map names_of s.views) id seat view.names other.names rule.names (at_map names_of s.views id view here) whole apart
      (at_map names_of s.views seat other there) in
      ap f (rule.idle seat other there (ap (λ (names : List SeatName). length names) unnamed)) ∙ empty)

  pub whole_found : (card counter : ℕ) → 0 < times card counter view.found → 0 < bit_of first card counter + claims_on is_any card counter view.claims
  whole_found card counter some_found =
      omega (
        arith,
        alone (λ v. claims_on is_any card counter v.claims) refl,
        rule.found card counter (omega (arith, alone (λ v. times card counter v.found) refl)),
      )

  pub whole_tops : (card counter : ℕ) → 0 < times card counter view.tops → 0 < bit_of first card counter + claims_on is_kept card counter view.claims
  whole_tops card counter some_told =
      omega (
        arith,
        alone (λ v. claims_on is_kept card counter v.claims) refl,
        rule.told card counter (omega (arith, alone (λ v. times card counter v.tops) refl)),
      )

  pub whole_once : (card counter : ℕ) → counter < COUNTERS → bit_of first card counter + claims_on is_live card counter view.claims ≤ 1
  whole_once card counter small =
      omega (
        arith,
        alone (λ v. claims_on is_live card counter v.claims) refl,
        rule.bits card counter small,
        bit_at-lt (get_or s.words (word_of card counter) 0) (counter % 64),
      )

-- ---- what a call does to its seat
pub after_claim-names : (claim : Claim) (card counter : ℕ) (view : ClaimView) → (after_claim claim card counter view).names ≡ view.names
after_claim-names Won card counter view = refl
after_claim-names Lost card counter view = refl

pub after_top-names : (answer : Option ℕ) (card : ℕ) (view : ClaimView) → (after_top card answer view).names ≡ view.names
after_top-names None card view = refl
after_top-names (Some counter) card view = refl

pub parent-named : (view : ClaimView) → 0 < length view.names → 0 < length (parent_view view).names
parent-named view named = after_split-named view.names named

pub child-named : (view : ClaimView) → 0 < length view.names → 0 < length (child_view view).names
child-named view named = split_off-named view.names named

pub joined-named : (view other : ClaimView) → 0 < length view.names → 0 < length (joined view other).names
joined-named view other named = omega (arith, length-append view.names other.names)

pub claim_by-won : (found mask : ℕ) → bit_and found mask ≡ 0 → claim_by found mask ≡ Won
claim_by-won found mask clear = ap (λ (b : Bool). cond b Won Lost) (eq-eqb (bit_and found mask) 0 clear)

pub claim_by-lost : (found mask : ℕ) → bit_and found mask ≢ 0 → claim_by found mask ≡ Lost
claim_by-lost found mask set = ap (λ (b : Bool). cond b Won Lost) (ne_eqb (bit_and found mask) 0 set)

-- what a top tells is no less than what a seat has kept or was told
pub told-top : (view : ClaimView) (card found : ℕ)
    → ((counter : ℕ) → counter < COUNTERS → 0 < known_on card counter view → counter < found)
    → IsTopFor view card (told_by found)
told-top view card found below counter small =
    elim (cases_lt 0 found) [
      | inl some_top ↦
          subst (λ (answer : Option ℕ). MatchOption answer (known_on card counter view ≡ 0) (λ top. 0 < known_on card counter view → counter ≤ top))
          (sym (told_some found some_top)) (λ known. let lt = below counter small known in omega arith)
      | inr no_top ↦
          subst (λ (answer : Option ℕ). MatchOption answer (known_on card counter view ≡ 0) (λ top. 0 < known_on card counter view → counter ≤ top))
          (sym (told_none found (omega arith))) (elim (cases_lt 0 (known_on card counter view)) [
            | inl known ↦ absurd (let lt = below counter small known in omega arith)
            | inr unknown ↦ omega arith
          ])
    ]

pub still_named : (names after : List SeatName) → after ≡ names → 0 < length names → 0 < length after
still_named names after same named = subst (λ (ns : List SeatName). 0 < length ns) (sym same) named

pub no_slots : {A : Type 0} (slots : List A) → length slots ≡ 0 → slots ≡ []
no_slots [] e = refl
no_slots (slot ∷ slots) e = absurd (omega arith)
