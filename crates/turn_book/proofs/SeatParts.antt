-- A split and a join preserve the invariant.
use Rattle.std.proofs.Common.{◌≡◌, ℕ, zero, suc, ◌+◌, ◌<◌, ◌≤◌, List, [], ◌∷◌, ◌++◌, map, length, set, Option, inl, inr, refl, sym, ap}
use Rattle.std.proofs.Common.{◌∙◌, subst, arith, length-append}
use Rattle.std.proofs.lemmas.Bool.{cases_eq, cases_lt, eq-eqb, ne_eqb}
use mathlib.Core.Option.{some, some-injective, some-ne-none}
use lib.ListN.{get_elem?}
use Rattle.atomic_table.specs.Table.{Splits, Joins}
use Rattle.shared_seats.specs.Totals.{total, one_if}
use Rattle.shared_seats.specs.SeatNames.{after_split, split_off, AreNamed}
use Rattle.shared_seats.specs.declared.seat_name.SeatName.{SeatName}
use Rattle.shared_seats.proofs.Totals.{at_set, at_snoc, at_map, map-set, map-snoc, total-append, total-snoc, total-set, part_le, parts_le}
use Rattle.shared_seats.proofs.SeatNameLemmas.{named_split, named_join}
use Rattle.turn_book.specs.declared.logs.Log.{Log}
use Rattle.turn_book.specs.declared.view.Turn.{Turn}
use Rattle.turn_book.specs.declared.view.Turn.TheVariants.{Free}
use Rattle.turn_book.specs.declared.view.TurnView.{TurnView}
use Rattle.turn_book.specs.Logs.{items_at, IsFront}
use Rattle.turn_book.specs.TurnViews.{has_turn, is_inside, times, spent, parent_view, child_view, longer_logs, joined, joining}
use Rattle.turn_book.specs.TurnRule.{Knows, AreTurns}
use Rattle.turn_book.proofs.LogLemmas.{front_length, heads-longer, items-longer}
use Rattle.turn_book.proofs.KeepsTurns.{turn_at, inside_at, seer_at, names_of, kept_alike}

after_split-named : (names : List SeatName) → 0 < length names → 0 < length (after_split names)
after_split-named [] named = absurd (omega arith)
after_split-named (name ∷ names) named = omega arith

split_off-named : (names : List SeatName) → 0 < length names → 0 < length (split_off names)
split_off-named [] named = absurd (omega arith)
split_off-named (name ∷ names) named = omega arith

pub parent-named : {I B : Type 0} (view : TurnView I B) → 0 < length view.names → 0 < length (parent_view view).names
parent-named view named = after_split-named view.names named

pub child-named : {I B : Type 0} (view : TurnView I B) → 0 < length view.names → 0 < length (child_view view).names
child-named view named = split_off-named view.names named

pub joined-named : {I B : Type 0} (view other : TurnView I B) → 0 < length view.names → 0 < length (joined view other).names
joined-named view other named = omega (arith, length-append view.names other.names)

knows_parent : {I B : Type 0} (opening logs : List (Log I B)) (view : TurnView I B) → 0 < length view.names → Knows opening logs view
    → Knows opening logs (parent_view view)
knows_parent opening logs view named k = record {
  fronts = k.fronts;
  whole = k.whole;
  heads = λ _. k.heads named;
  opened = λ _. k.opened named;
  idle = λ none. absurd (omega (arith, none, after_split-named view.names named));
  heard = k.heard;
}

knows_child : {I B : Type 0} (opening logs : List (Log I B)) (view : TurnView I B) → 0 < length view.names → Knows opening logs view
    → Knows opening logs (child_view view)
knows_child opening logs view named k = record {
  fronts = k.fronts;
  whole = λ shard has. absurd (cc);
  heads = λ _. k.heads named;
  opened = λ _. k.opened named;
  idle = λ none. absurd (omega (arith, none, split_off-named view.names named));
  heard = λ at seen there. absurd (some-ne-none seen (sym there));
}

pub splits_allowed : {V I B : Type 0} (stands : V → B → List I → Type 0) (opening : List (Log I B)) (id : ℕ) (view : TurnView I B) → 0 < length view.names
    → Splits {S = Option V} (AreTurns stands opening) id view (parent_view view) (child_view view)
splits_allowed {V} {I} {B} stands opening id view named s rule here =
    let parent : TurnView I B = parent_view view in
    let child : TurnView I B = child_view view in
    let views : List (TurnView I B) = set s.views id parent ++ child ∷ [] in
    let sums : (f : TurnView I B → ℕ) → total f views + f view ≡ total f s.views + f parent + f child =
    λ f. omega (arith, total-snoc f (set s.views id parent) child, total-set f s.views id view parent here) in
    let alike : (f : TurnView I B → ℕ) → f parent ≡ f view → f child ≡ 0 → total f views ≡ total f s.views =
    λ f same empty. omega (arith, sums f, same, empty) in
    let names : map names_of views ≡ set (map names_of s.views) id (after_split view.names) ++ split_off view.names ∷ [] =
    map-snoc names_of (set s.views id parent) child
    ∙ ap (λ (ns : List (List SeatName)). ns ++ split_off view.names ∷ []) (map-set names_of s.views id parent) in
    kept_alike stands opening s rule views (λ shard. alike (turn_at shard) refl refl) (λ shard. alike (inside_at shard) refl refl)
    (λ shard place. alike (λ (u : TurnView I B). times shard place u.mine) refl refl)
    (λ shard before. omega (arith, before, sums (seer_at shard (length (items_at rule.logs shard)))))
    (λ seat other there.
    elim (at_snoc (set s.views id parent) child other seat there) [
      | inl old ↦ elim (at_set s.views id seat parent other old) [
        | inl mine ↦ subst (Knows opening rule.logs) mine.1 (knows_parent opening rule.logs view named (rule.knows id view here))
        | inr before ↦ rule.knows seat other before.1
      ]
      | inr new ↦ subst (Knows opening rule.logs) new (knows_child opening rule.logs view named (rule.knows id view here))
    ])
    (subst AreNamed (sym names) (named_split (map names_of s.views) id view.names (at_map names_of s.views id view here) named rule.names))

heard_two : {I B : Type 0} (logs first second : List (Log I B)) → ((shard : ℕ) → IsFront (items_at first shard) (items_at logs shard))
    → ((shard : ℕ) → IsFront (items_at second shard) (items_at logs shard))
    → (k : ℕ) (seen : List (Log I B)) → get_elem? (first ∷ second ∷ []) k ≡ some seen → (shard : ℕ) → IsFront (items_at seen shard) (items_at logs shard)
heard_two logs first second a b zero seen there shard =
    subst (λ (xs : List (Log _ _)). IsFront (items_at xs shard) (items_at logs shard)) (some-injective first seen there) (a shard)
heard_two logs first second a b (suc zero) seen there shard =
    subst (λ (xs : List (Log _ _)). IsFront (items_at xs shard) (items_at logs shard)) (some-injective second seen there) (b shard)
heard_two logs first second a b (suc (suc k)) seen there shard = absurd (some-ne-none seen (sym there))

knows_joined : {I B : Type 0} (opening logs : List (Log I B)) (view other : TurnView I B) → 0 < length view.names → 0 < length other.names
    → Knows opening logs view → Knows opening logs other → Knows opening logs (joining view other)
knows_joined {I} {B} opening logs view other named also k l =
    let P : (ℕ → List I → Type 0) → Type 0 = λ good. ((shard : ℕ) → good shard (items_at view.seen shard))
    → ((shard : ℕ) → good shard (items_at other.seen shard))
    → (shard : ℕ) → good shard (items_at (longer_logs view.seen other.seen) shard) in
    let either_seen : (good : ℕ → List I → Type 0) → P good = λ good first second shard. elim (items-longer view.seen other.seen shard) [
      | inl mine ↦ subst (good shard) (sym mine.0) (first shard)
      | inr theirs ↦ subst (good shard) (sym theirs.0) (second shard)
    ] in
    record {
      fronts = either_seen (λ shard items. IsFront items (items_at logs shard)) k.fronts l.fronts;
      whole = λ shard has. absurd (cc);
      heads = λ _. heads-longer view.seen other.seen (k.heads named ∙ sym (l.heads also)) ∙ k.heads named;
      opened = λ _. either_seen (λ shard items. IsFront (items_at opening shard) items) (k.opened named) (l.opened also);
      idle = λ none. absurd (omega (arith, none, named, length-append view.names other.names));
      heard = λ at seen there. heard_two logs view.seen other.seen k.fronts l.fronts at seen there;
    }

knows_spent : {I B : Type 0} (opening logs : List (Log I B)) → Knows opening logs spent
knows_spent opening logs = record {
  fronts = λ shard. refl;
  whole = λ shard has. absurd (cc);
  heads = λ named. absurd (omega arith);
  opened = λ named. absurd (omega arith);
  idle = λ none. refl;
  heard = λ at seen there. absurd (some-ne-none seen (sym there));
}

-- whoever of two has seen the whole log, both together have
seers_joined : {I B : Type 0} (logs : List (Log I B)) (view other : TurnView I B) (shard : ℕ)
    → IsFront (items_at view.seen shard) (items_at logs shard) → IsFront (items_at other.seen shard) (items_at logs shard)
    → 0 < seer_at shard (length (items_at logs shard)) view + seer_at shard (length (items_at logs shard)) other
    → seer_at shard (length (items_at logs shard)) (joined view other) ≡ 1
seers_joined {I} logs view other shard front also some_seer =
    let count : ℕ = length (items_at logs shard) in
    let mine : List I = items_at view.seen shard in
    let theirs : List I = items_at other.seen shard in
    let a = front_length mine (items_at logs shard) front in
    let b = front_length theirs (items_at logs shard) also in
    let is : length (items_at (longer_logs view.seen other.seen) shard) ≡ count = elim (cases_eq (length mine) count) [
      | inl all ↦ elim (items-longer view.seen other.seen shard) [
        | inl first ↦ ap length first.0 ∙ all
        | inr second ↦ let long : length theirs ≡ count = omega (arith, second.1) in ap length second.0 ∙ long
      ]
      | inr part ↦ elim (cases_eq (length theirs) count) [
        | inl all ↦ elim (items-longer view.seen other.seen shard) [
          | inl first ↦ let long : length mine ≡ count = omega (arith, first.1) in ap length first.0 ∙ long
          | inr second ↦ ap length second.0 ∙ all
        ]
        | inr short ↦ absurd (omega (arith, some_seer, ap one_if (ne_eqb (length mine) count part), ap one_if (ne_eqb (length theirs) count short)))
      ]
    ] in
    ap one_if (eq-eqb (length (items_at (longer_logs view.seen other.seen) shard)) count is)

pub joins_allowed : {V I B : Type 0} (stands : V → B → List I → Type 0) (opening : List (Log I B)) (id : ℕ) (view : TurnView I B) (other_id : ℕ)
    (other : TurnView I B) → 0 < length view.names → 0 < length other.names → view.turn ≡ Free → other.turn ≡ Free
    → Joins {S = Option V} (AreTurns stands opening) id view other_id other (joining view other) spent
joins_allowed {V} {I} {B} stands opening id view other_id other named also off also_off s rule here apart there =
    let both : TurnView I B = joining view other in
    let views : List (TurnView I B) = set (set s.views id both) other_id spent in
    let before : get_elem? s.views other_id ≡ some other = elim (at_set s.views id other_id both other there) [
      | inl same ↦ absurd (apart same.0)
      | inr old ↦ old.1
    ] in
    let sums : (f : TurnView I B → ℕ) → total f views + f view + f other ≡ total f s.views + f both + f spent =
    λ f. omega (arith, total-set f (set s.views id both) other_id other spent there, total-set f s.views id view both here) in
    let alike : (f : TurnView I B → ℕ) → f both ≡ f view + f other → f spent ≡ 0 → total f views ≡ total f s.views =
    λ f adds empty. omega (arith, sums f, adds, empty) in
    let names : map names_of views ≡ set (set (map names_of s.views) id (view.names ++ other.names)) other_id [] =
    map-set names_of (set s.views id both) other_id spent
    ∙ ap (λ (ns : List (List SeatName)). set ns other_id []) (map-set names_of s.views id both) in
    let named_there : get_elem? (set (map names_of s.views) id (view.names ++ other.names)) other_id ≡ some other.names =
    subst (λ (ns : List (List SeatName)). get_elem? ns other_id ≡ some other.names) (map-set names_of s.views id both)
    (at_map names_of (set s.views id both) other_id other there) in
    let knows = rule.knows id view here in
    let knows_other = rule.knows other_id other before in
    kept_alike stands opening s rule views
    (λ shard. alike (turn_at shard)
    (omega (arith, ap (λ (t : Turn). one_if (has_turn shard t)) off, ap (λ (t : Turn). one_if (has_turn shard t)) also_off)) refl)
    (λ shard. alike (inside_at shard)
    (omega (arith, ap (λ (t : Turn). one_if (is_inside shard t)) off, ap (λ (t : Turn). one_if (is_inside shard t)) also_off)) refl)
    (λ shard place. alike (λ (u : TurnView I B). times shard place u.mine) (total-append _ view.mine other.mine) refl)
    (λ shard old.
    let f : TurnView I B → ℕ = seer_at shard (length (items_at rule.logs shard)) in
    elim (cases_lt 0 (f view + f other)) [
      | inl seen ↦ omega (
        arith,
        sums f,
        seers_joined rule.logs view other shard (knows.fronts shard) (knows_other.fronts shard) seen,
        total-set f (set s.views id both) other_id other spent there,
        total-set f s.views id view both here,
        part_le f (set s.views id both) other_id other there,
        part_le f s.views id view here,
        parts_le f s.views id other_id view other apart here before,
      )
      | inr unseen ↦ omega (arith, sums f, old)
    ])
    (λ seat third at.
    elim (at_set (set s.views id both) other_id seat spent third at) [
      | inl gone ↦ subst (Knows opening rule.logs) gone.1 (knows_spent opening rule.logs)
      | inr left ↦ elim (at_set s.views id seat both third left.1) [
        | inl mine ↦ subst (Knows opening rule.logs) mine.1 (knows_joined opening rule.logs view other named also knows knows_other)
        | inr old ↦ rule.knows seat third old.1
      ]
    ])
    (subst AreNamed (sym names)
    (named_join (map names_of s.views) id other_id view.names other.names (at_map names_of s.views id view here) named_there rule.names))

-- what either had seen is a front of what both together have, where it is one wherever it is no longer
pub joined_fronts : {I B : Type 0} (view other : TurnView I B)
    → ((k : ℕ) (seen : List (Log I B)) → get_elem? (view.seen ∷ other.seen ∷ []) k ≡ some seen
    → (shard : ℕ) → length (items_at seen shard) ≤ length (items_at (joined view other).seen shard)
    → IsFront (items_at seen shard) (items_at (joined view other).seen shard))
    → (shard : ℕ)
    → IsFront (items_at view.seen shard) (items_at (joined view other).seen shard)
    × IsFront (items_at other.seen shard) (items_at (joined view other).seen shard)
joined_fronts {I} {B} view other fronts shard =
    let cases = items-longer view.seen other.seen shard in
    let first : length (items_at view.seen shard) ≤ length (items_at (joined view other).seen shard) = elim cases [
      | inl mine ↦ omega (arith, ap length mine.0)
      | inr theirs ↦ omega (arith, ap length theirs.0, theirs.1)
    ] in
    let second : length (items_at other.seen shard) ≤ length (items_at (joined view other).seen shard) = elim cases [
      | inl mine ↦ omega (arith, ap length mine.0, mine.1)
      | inr theirs ↦ omega (arith, ap length theirs.0)
    ] in
    (fronts 0 view.seen refl shard first, fronts 1 other.seen refl shard second)
