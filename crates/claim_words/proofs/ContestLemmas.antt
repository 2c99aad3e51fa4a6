-- What the callers of a contest know after each claim, and once their seats are joined.
use Rattle.std.proofs.Common.{◌≡◌, ℕ, ◌+◌, ◌<◌, ◌≤◌, List, [], ◌∷◌, ◌++◌, Bool, true, false, eqb, ◌&&◌, refl, sym, length}
use Rattle.std.proofs.Common.{ap, inl, inr, arith}
use Rattle.std.proofs.lemmas.Bool.{cases_eq, cases_lt, eq-eqb}
use Rattle.shared_seats.specs.declared.seat_name.SeatName.{SeatName}
use Rattle.shared_seats.specs.Totals.{total, one_if}
use Rattle.shared_seats.proofs.Totals.{total-append, total-snoc}
use Rattle.claim_words.specs.declared.view.Standing.{Standing}
use Rattle.claim_words.specs.declared.view.ClaimView.{ClaimView}
use Rattle.claim_words.specs.declared.view.Claimed.{Claimed}
use Rattle.claim_words.specs.declared.layout.TheConstants.{COUNTERS}
use Rattle.claim_words.specs.ClaimViews.{is_pair, claims_on, times, is_live, is_any, newcomer, with_claim, with_found, parent_view, joined}
use Rattle.claim_words.specs.Contest.{wins_of, HasTried, HaveTried}

wins-snoc : (counter : ℕ) (won : List ℕ) (last : ℕ) → wins_of counter (won ++ last ∷ []) ≡ wins_of counter won + one_if (eqb last counter)
wins-snoc counter won last = total-snoc (λ (x : ℕ). one_if (eqb x counter)) won last

abbrev on : (Standing → Bool) → ℕ → Claimed → ℕ
on test counter claim = one_if (is_pair 0 counter claim.card claim.counter && test claim.standing)

and-true : (on : Bool) → one_if (on && true) ≡ one_if on
and-true true = refl
and-true false = refl

pub tried_won : (counter : ℕ) (won : List ℕ) (view : ClaimView) → HasTried counter won view
    → HasTried (counter + 1) (won ++ counter ∷ []) (with_claim 0 counter view)
tried_won counter won view before = record {
  live = λ other. omega (arith, before.live other, wins-snoc other won counter, and-true (eqb counter other));
  any = λ other. omega (arith, before.any other, wins-snoc other won counter, and-true (eqb counter other));
  each = λ other below.
      elim (cases_eq other counter) [
        | inl same ↦ omega (arith, wins-snoc other won counter, ap one_if (eq-eqb counter other (sym same)))
        | inr apart ↦ omega (arith, wins-snoc other won counter, before.each other (omega arith))
      ];
}

pub tried_lost : (counter : ℕ) (won : List ℕ) (view : ClaimView) → HasTried counter won view → HasTried (counter + 1) won (with_found 0 counter view)
tried_lost counter won view before = record {
  live = before.live;
  any = before.any;
  each = λ other below.
      elim (cases_eq other counter) [
        | inl same ↦ omega (arith, ap one_if (eq-eqb counter other (sym same)))
        | inr apart ↦ let old = before.each other (omega arith) in omega arith
      ];
}

-- a new seat has tried nothing
pub tried_none : (names : List SeatName) → HasTried 0 [] (newcomer names)
tried_none names = record {
  live = λ counter. refl;
  any = λ counter. refl;
  each = λ counter below. absurd (omega arith);
}

pub have_tried_none : (names : List SeatName) → HaveTried [] (newcomer names)
have_tried_none names = record {
  live = λ counter. refl;
  any = λ counter. refl;
  each = λ counter below many. absurd (omega arith);
}

pub have_tried_parent : (view : ClaimView) → HaveTried [] view → HaveTried [] (parent_view view)
have_tried_parent view before = record {
  live = before.live;
  any = before.any;
  each = before.each;
}

pub have_tried_joined : (lists : List (List ℕ)) (won : List ℕ) (view other : ClaimView) → HaveTried lists view → HasTried COUNTERS won other
    → HaveTried (lists ++ won ∷ []) (joined view other)
have_tried_joined lists won view other before tried =
    let more : (counter : ℕ) → total (wins_of counter) (lists ++ won ∷ []) ≡ total (wins_of counter) lists + wins_of counter won =
    λ counter. total-snoc (wins_of counter) lists won in
    record {
      live = λ counter. omega (arith, more counter, before.live counter, tried.live counter, total-append (on is_live counter) view.claims other.claims);
      any = λ counter. omega (arith, more counter, before.any counter, tried.any counter, total-append (on is_any counter) view.claims other.claims);
      each = λ counter below many.
          omega (arith, more counter, tried.each counter below, total-append (λ (p : ℕ × ℕ). one_if (is_pair 0 counter p.0 p.1)) view.found other.found);
    }

-- what was won together is each ATC once
pub each_won_once : (lists : List (List ℕ)) (view : ClaimView) (recorded : ℕ → ℕ) → HaveTried lists view → 0 < length lists
    → ((counter : ℕ) → counter < COUNTERS → recorded counter ≡ 0)
    → ((counter : ℕ) → 0 < times 0 counter view.found → 0 < recorded counter + claims_on is_any 0 counter view.claims)
    → ((counter : ℕ) → counter < COUNTERS → recorded counter + claims_on is_live 0 counter view.claims ≤ 1)
    → (counter : ℕ) → counter < COUNTERS → total (wins_of counter) lists ≡ 1
each_won_once lists view recorded tried many none found once counter below =
    let atmost = once counter below in
    let unrecorded = none counter below in
    let live = tried.live counter in
    let any = tried.any counter in
    let each = tried.each counter below many in
    elim (cases_lt 0 (times 0 counter view.found)) [
      | inl lost ↦ let won = found counter lost in omega arith
      | inr unlost ↦ omega arith
    ]
