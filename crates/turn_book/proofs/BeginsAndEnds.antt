-- The invariant holds at first, and what it says at the end.
use Rattle.std.proofs.Common.{◌≡◌, ℕ, zero, suc, ◌*◌, ◌<◌, List, [], ◌∷◌, map, length, get_or, Bool, true, false, ◌&&◌, eqb, leb, ltb}
use Rattle.std.proofs.Common.{Option, Some, IsSome, inl, inr, refl, sym, ap, ◌∙◌, subst, arith}
use Rattle.std.proofs.lemmas.Bool.{cases_eq, cases_lt, ne_eqb, eqb-true}
use Rattle.std.proofs.lemmas.Bool.Decides.{nat_tests}
use mathlib.Core.Option.{some, some-injective, some-ne-none}
use lib.ListN.{get_elem?}
use Rattle.atomic_table.specs.Table.{State, opening}
use Rattle.shared_seats.specs.Totals.{total, one_if}
use Rattle.shared_seats.specs.SeatNames.{IsWhole}
use Rattle.shared_seats.proofs.Totals.{at_one, at_map, total-alone}
use Rattle.shared_seats.proofs.SeatNameLemmas.{named_first, whole_alone}
use Rattle.turn_book.specs.declared.layout.TheConstants.{SHARD_WORDS}
use Rattle.turn_book.specs.declared.logs.Log.{Log}
use Rattle.turn_book.specs.declared.view.Turn.{Turn}
use Rattle.turn_book.specs.declared.view.Turn.TheVariants.{Free}
use Rattle.turn_book.specs.declared.view.TurnView.{TurnView}
use Rattle.turn_book.specs.Layout.{turn_in}
use Rattle.turn_book.specs.Logs.{heads_of, items_at, StandsAt, StandFor}
use Rattle.turn_book.specs.Opening.{AreOpeningWords}
use Rattle.turn_book.specs.TurnViews.{has_turn, times, spent, first_view}
use Rattle.turn_book.specs.TurnRule.{between, AreTurns, Knows}
use Rattle.turn_book.proofs.LogLemmas
use Rattle.turn_book.proofs.ValueLemmas
use Rattle.turn_book.proofs.TurnWords.{some_test, eqb-self}
use Rattle.turn_book.proofs.KeepsTurns.{turn_at, seer_at, names_of}

-- ---- at first
counts_at : {I B : Type 0} (logs : List (Log I B)) (shard : ℕ) → get_or (map (λ (log : Log I B). length log.items) logs) shard 0 ≡ length (items_at logs shard)
counts_at [] shard = refl
counts_at (log ∷ logs) zero = refl
counts_at (log ∷ logs) (suc shard) = counts_at logs shard

pub counts-length : {I B : Type 0} (logs : List (Log I B)) → length (map (λ (log : Log I B). length log.items) logs) ≡ length logs
counts-length [] = refl
counts-length (log ∷ logs) = omega (arith, counts-length logs)

-- the value of each shard is at home, and stands for its log
stand_at : {V I B : Type 0} (stands : V → B → List I → Type 0) (values : List V) (logs : List (Log I B)) (shard : ℕ) → StandFor stands values logs
    → shard < length logs → (value : V) × (get_elem? values shard ≡ some value) × StandsAt stands value logs shard
stand_at stands [] [] shard all below = absurd (omega arith)
stand_at stands [] (log ∷ logs) shard all below = absurd all
stand_at stands (value ∷ values) [] shard all below = absurd all
stand_at stands (value ∷ values) (log ∷ logs) zero all below = (value, refl, all.0)
stand_at stands (value ∷ values) (log ∷ logs) (suc shard) all below = stand_at stands values logs shard all.1 (omega arith)

between-none : (n place : ℕ) → between n n place ≡ 0
between-none n place =
    elim (cases_lt place n) [
      | inl below ↦ let early : leb n place ≡ false = grind (arith, nat_tests) in rw early refl
      | inr above ↦
          let late : ltb place n ≡ false = grind (arith, nat_tests) in
          let off : (b : Bool) → one_if (b && false) ≡ 0 = elim [ true ↦ refl | false ↦ refl ] in
          rw late (off (leb n place))
    ]

pub opening_holds : {V I B : Type 0} (stands : V → B → List I → Type 0) (logs : List (Log I B)) (counts words : List ℕ) (values : List V)
    (slots : List (Option V)) → counts ≡ map (λ (log : Log I B). length log.items) logs → AreOpeningWords counts words → StandFor stands values logs
    → slots ≡ map Some values
    → AreTurns stands logs (opening words slots (first_view logs))
opening_holds {V} {I} {B} stands logs counts words values slots counted are all slots_are = record {
  logs = logs;
  heads = refl;
  wide = are.wide ∙ ap (λ (n : ℕ). SHARD_WORDS * n) (ap length counted ∙ counts-length logs);
  shards = λ shard below.
      let stood = stand_at stands values logs shard all below in
      let home : get_elem? (map some slots) shard ≡ some (some (Some stood.0)) =
      subst (λ (xs : List (Option V)). get_elem? (map some xs) shard ≡ some (some (Some stood.0))) (sym slots_are)
      (at_map some (map Some values) shard (Some stood.0) (at_map Some values shard stood.0 stood.1)) in
      record {
        front = LogLemmas.front_refl (items_at logs shard);
        count = are.counted shard ∙ ap (λ (ns : List ℕ). get_or ns shard 0) counted ∙ counts_at logs shard;
        turn = omega (arith, are.free shard);
        alone = omega (arith, are.free shard);
        home = λ _. (stood.0, home, stood.2);
        out = λ some_out. absurd (omega arith);
        known = omega (arith, ap one_if (eqb-self (length (items_at logs shard))));
        places = λ place. omega (arith, between-none (length (items_at logs shard)) place);
      };
  knows = λ seat view there.
      let knows_first : Knows logs logs (first_view logs) = record {
        fronts = λ shard. LogLemmas.front_refl (items_at logs shard);
        whole = λ shard has. absurd (cc);
        heads = λ _. refl;
        opened = λ _ shard. LogLemmas.front_refl (items_at logs shard);
        idle = λ none. absurd (omega arith);
        heard = λ at seen there. absurd (some-ne-none seen (sym there));
      } in
      subst (Knows logs logs) (at_one (first_view logs) view seat there) knows_first;
  names = named_first;
}

-- ---- at the end
pub stand_for : {V I B : Type 0} (stands : V → B → List I → Type 0) (values : List V) (logs : List (Log I B)) → length values ≡ length logs
    → ((shard : ℕ) → shard < length logs → (value : V) × (get_elem? values shard ≡ some value) × StandsAt stands value logs shard)
    → StandFor stands values logs
stand_for stands [] [] long each = tt
stand_for stands [] (log ∷ logs) long each = absurd (omega arith)
stand_for stands (value ∷ values) [] long each = absurd (omega arith)
stand_for {V} stands (value ∷ values) (log ∷ logs) long each =
    let first = each 0 (omega arith) in (
      subst (λ (v : V). stands v log.head log.items) (sym (some-injective value first.0 first.1)) first.2,
      stand_for stands values logs (omega arith) (λ shard below. each (suc shard) (omega arith)),
    )

at_of_some : {V : Type 0} (values : List V) (i : ℕ) (value : V) → get_elem? (map Some values) i ≡ some (Some value) → get_elem? values i ≡ some value
at_of_some [] i value e = absurd (some-ne-none (Some value) (sym e))
at_of_some (v ∷ values) zero value e =
    let same : Some v ≡ Some value = some-injective (Some v) (Some value) e in
    let is : v ≡ value = cc in
    ap some is
at_of_some (v ∷ values) (suc i) value e = at_of_some values i value e

module _ {V I B : Type 0} (stands : V → B → List I → Type 0) (first : List (Log I B)) (s : State (Option V) (TurnView I B))
    (rule : AreTurns stands first s) (id : ℕ) (view : TurnView I B) (here : get_elem? s.views id ≡ some view) (off : view.turn ≡ Free)
    (whole : IsWhole view.names) where
  abbrev knows : Knows first rule.logs view
  knows = rule.knows id view here

  -- all that the views know, the whole seat's knows
  alone : (f : TurnView I B → ℕ) → f spent ≡ 0 → total f s.views ≡ f view
  alone f empty = total-alone f s.views id view here (λ seat other apart there.
      let unnamed = whole_alone (map names_of s.views) id seat view.names other.names rule.names (at_map names_of s.views id view here) whole apart
      (at_map names_of s.views seat other there) in
      ap f ((rule.knows seat other there).idle (ap length unnamed)) ∙ empty)

  last_seen : (shard : ℕ) → shard < length first → items_at view.seen shard ≡ items_at rule.logs shard
  last_seen shard below =
      let count : ℕ = length (items_at rule.logs shard) in
      let le = LogLemmas.front_length (items_at view.seen shard) (items_at rule.logs shard) (knows.fronts shard) in
      let long : length (items_at view.seen shard) ≡ count = elim (cases_eq 0 count) [
        | inl none ↦ omega arith
        | inr some_items ↦
            let all = alone (seer_at shard count) (ap one_if (ne_eqb 0 count some_items)) in
            let mine : 0 < seer_at shard count view = omega (arith, all, (rule.shards shard below).known) in
            eqb-true (length (items_at view.seen shard)) count (some_test (eqb (length (items_at view.seen shard)) count) mine)
      ] in
      LogLemmas.front_whole (items_at view.seen shard) (items_at rule.logs shard) (knows.fronts shard) long

  pub last_places : (shard place : ℕ) → shard < length first
      → times shard place view.mine ≡ between (length (items_at first shard)) (length (items_at view.seen shard)) place
  last_places shard place below =
      sym (alone (λ (v : TurnView I B). times shard place v.mine) refl) ∙ (rule.shards shard below).places place
      ∙ ap (λ (xs : List I). between (length (items_at first shard)) (length xs) place) (sym (last_seen shard below))

  -- so each value is at home
  last_home : 0 < length view.names → (shard : ℕ) → shard < length first
      → (value : V) × (get_elem? s.homes shard ≡ some (some (Some value))) × StandsAt stands value view.seen shard
  last_home named shard below =
      let r = rule.shards shard below in
      let is_free : turn_in s.words shard ≡ 0 =
      r.turn ∙ alone (turn_at shard) refl ∙ ap (λ (t : Turn). one_if (has_turn shard t)) off in
      let home = r.home is_free in
      let heads : heads_of rule.logs ≡ heads_of view.seen = rule.heads ∙ sym (knows.heads named) in
      (home.0, home.1, LogLemmas.stands_alike stands home.0 rule.logs view.seen shard heads (sym (last_seen shard below)) home.2)

  module _ (slots : List (Option V)) (long : length s.homes ≡ length slots) (shards : length slots ≡ length first) (named : 0 < length view.names)
      (homes : (k : ℕ) (y : Option V) → get_elem? s.homes k ≡ some (some y) → get_elem? slots k ≡ some y) where
    pub last_full : (k : ℕ) (d : Option V) → k < length slots → IsSome (get_or slots k d)
    last_full k d below =
        let home = last_home named k (omega arith) in
        let is = homes k (Some home.0) home.1 in
        subst IsSome (sym (ValueLemmas.at_get slots k (Some home.0) d is)) refl

    pub last_values : (values : List V) → map Some values ≡ slots → length values ≡ length slots → StandFor stands values view.seen
    last_values values are count =
        stand_for stands values view.seen (omega (arith, LogLemmas.heads-length view.seen first (knows.heads named))) (λ shard below.
        let home = last_home named shard (omega (arith, LogLemmas.heads-length view.seen first (knows.heads named))) in
        let is = homes shard (Some home.0) home.1 in
        (home.0, at_of_some values shard home.0 (subst (λ (xs : List (Option V)). get_elem? xs shard ≡ some (Some home.0)) (sym are) is), home.2))

pub stand-length : {V I B : Type 0} (stands : V → B → List I → Type 0) (values : List V) (logs : List (Log I B)) → StandFor stands values logs
    → length values ≡ length logs
stand-length stands [] [] all = refl
stand-length stands [] (log ∷ logs) all = absurd all
stand-length stands (value ∷ values) [] all = absurd all
stand-length stands (value ∷ values) (log ∷ logs) all = omega (arith, stand-length stands values logs all.1)
