-- What a seat knows after the table's seat was put back into it.
use Rattle.std.proofs.Common.{◌≡◌, ℕ, ◌<◌, List, [], ◌∷◌, length, sym, ap, ◌∙◌, subst, arith}
use Rattle.atomic_table.specs.Table.{Me, rest}
use Rattle.turn_book.specs.declared.view.Turn.TheVariants.{Inside}
use Rattle.turn_book.specs.declared.view.TurnView.{TurnView}
use Rattle.turn_book.specs.declared.seat.TurnSeat.{TurnSeat}
use Rattle.turn_book.specs.declared.turns.Turns.{Turns}
use Rattle.turn_book.specs.Logs.{heads_of, items_at, with_items, IsFront, StandsAt}
use Rattle.turn_book.specs.TurnViews.{entered}
use Rattle.turn_book.specs.Seats.{opening_of, shards_of, the_view, view_of, IsOf}
use Rattle.turn_book.proofs.LogLemmas.{items-with_same, heads-length}

pub seat_put : {I B : Type 0} (seat : TurnSeat I B) (v w : TurnView I B) → seat.badge.views ≡ v ∷ [] → v ≡ w → view_of seat ≡ w
seat_put seat v w views is = ap the_view views ∙ is

pub seat_of : {V I B : Type 0} (seat : TurnSeat I B) (turns : Turns V I B) (v w : TurnView I B)
    → seat.badge.table_id ≡ turns.table.shared.table_id
    → seat.badge.views ≡ v ∷ [] → v ≡ w
    → 0 < length w.names → heads_of w.seen ≡ heads_of (opening_of turns)
    → ((shard : ℕ) → w.turn ≡ Inside shard → shard < shards_of turns)
    → IsOf seat turns
seat_of {I = I} {B = B} seat turns v w table views is named heads within =
    let view : view_of seat ≡ w = seat_put seat v w views is in
    record {
      table = table;
      seated = views ∙ ap (λ (u : TurnView I B). u ∷ []) (is ∙ sym view);
      named = subst (λ (u : TurnView I B). 0 < length u.names) (sym view) named;
      heads = subst (λ (u : TurnView I B). heads_of u.seen ≡ heads_of (opening_of turns)) (sym view) heads;
      within = λ shard inside. within shard (ap (λ (u : TurnView I B). u.turn) (sym view) ∙ inside);
    }

-- a list of one slot, as `exchange` asks for it
pub one_slot : {S : Type 0} (slots : List (ℕ × S)) (k : ℕ) (x : S) → slots ≡ (k, x) ∷ [] → (old : S) × (slots ≡ (k, old) ∷ rest slots)
one_slot slots k x is = (x, is ∙ ap (λ (r : List _). (k, x) ∷ r) (sym (ap rest is)))

pub slot_value : {S : Type 0} (slots : List (ℕ × S)) (k : ℕ) (x y : S) → slots ≡ (k, x) ∷ [] → slots ≡ (k, y) ∷ rest slots → y ≡ x
slot_value {S} slots k x y is also = let pair : (k, x) ≡ (k, y) = cc in sym (ap (λ (p : ℕ × S). p.1) pair)

pub new_slot : {S V : Type 0} (m : Me S V) (n : Me S V) (k : ℕ) (v : V) (x y : S) → m.0 ≡ v → m.1 ≡ (k, x) ∷ [] → n ≡ (m.0, (k, y) ∷ rest m.1)
    → n ≡ (v, (k, y) ∷ [])
new_slot {S} {V} m n k v x y view slots is = is ∙ (λ i. (view i, (k, y) ∷ ap rest slots i))

pub inside_only : (count shard : ℕ) → shard < count → (other : ℕ) → Inside shard ≡ Inside other → other < count
inside_only count shard below other same = let is : shard ≡ other = cc in subst (λ (n : ℕ). n < count) is below

-- what is known once the turn was won, of these items, with this value
pub entered_lem : {V I B : Type 0} (stands : V → B → List I → Type 0) (v w : TurnView I B) (shard : ℕ) (items : List I) (value result : V)
    → shard < length v.seen → w ≡ entered shard items v → IsFront (items_at v.seen shard) items
    → StandsAt stands value (with_items v.seen shard items) shard → result ≡ value
    → (w ≡ entered shard (items_at w.seen shard) v) × IsFront (items_at v.seen shard) (items_at w.seen shard) × StandsAt stands result w.seen shard
entered_lem {V} {I} {B} stands v w shard items value result below is front stood same =
    let known : items_at w.seen shard ≡ items = ap (λ (u : TurnView I B). items_at u.seen shard) is ∙ items-with_same v.seen shard items below in (
      is ∙ ap (λ (xs : List I). entered shard xs v) (sym known),
      subst (λ (xs : List I). IsFront (items_at v.seen shard) xs) (sym known) front,
      subst (λ (u : TurnView I B). StandsAt stands result u.seen shard) (sym is)
          (subst (λ (x : V). StandsAt stands x (with_items v.seen shard items) shard) (sym same) stood),
    )

pub seen_within : {V I B : Type 0} (seat : TurnSeat I B) (turns : Turns V I B) (shard : ℕ) → IsOf seat turns → shard < shards_of turns
    → shard < length (view_of seat).seen
seen_within seat turns shard of below = omega (arith, heads-length (view_of seat).seen (opening_of turns) of.heads)
