-- What the callers know after each turn, and once their seats are joined.
use Rattle.std.proofs.Common.{◌≡◌, ℕ, zero, suc, List, [], ◌∷◌, ◌++◌, map, length, replicate, All, eqb, ◌&&◌, refl, ap, ◌∙◌, arith}
use Rattle.shared_seats.specs.Totals.{one_if}
use Rattle.shared_seats.proofs.Totals.{total-append, total-snoc}
use Rattle.turn_book.specs.declared.logs.Log.{Log}
use Rattle.turn_book.specs.declared.view.TurnView.{TurnView}
use Rattle.turn_book.specs.Logs.{items_at, with_items, StandsAt, StandFor}
use Rattle.turn_book.specs.TurnViews.{times, counted, joined}
use Rattle.turn_book.specs.Counting.{CountsItems, count_at, HasAdded, HaveAdded}

-- ---- each turn
pub added_more : (places : List (ℕ × ℕ)) (view : TurnView ℕ ℕ) (shard item count : ℕ) → HasAdded places view → count ≡ length (items_at view.seen shard)
    → HasAdded (places ++ (shard, count) ∷ []) (counted shard item view)
added_more places view shard item count before is other place =
    let more = total-snoc (λ (pair : ℕ × ℕ). one_if (eqb pair.0 other && eqb pair.1 place)) places (shard, count) in
    omega (arith, more, before other place, ap (λ (n : ℕ). one_if (eqb shard other && eqb n place)) is)

pub have_added_joined : (lists : List (List (ℕ × ℕ))) (places : List (ℕ × ℕ)) (view other : TurnView ℕ ℕ) → HaveAdded lists view → HasAdded places other
    → HaveAdded (lists ++ places ∷ []) (joined view other)
have_added_joined lists places view other before also shard place =
    omega (
      arith,
      before shard place,
      also shard place,
      total-append (λ (pair : ℕ × ℕ). one_if (eqb pair.0 shard && eqb pair.1 place)) view.mine other.mine,
      total-snoc (times shard place) lists places,
    )

-- ---- values of any type, each with a shard and a count
module _ {V : Type 0} (shard_of count_of : V → ℕ) where
  abbrev counts : V → ℕ → List ℕ → Type 0
  counts value head items = CountsItems (shard_of value) (count_of value) head items

  pub count_is : (value : V) (logs : List (Log ℕ ℕ)) (shard : ℕ) → StandsAt counts value logs shard → count_of value ≡ length (items_at logs shard)
  count_is value [] shard here = absurd here
  count_is value (log ∷ logs) zero here = here.1
  count_is value (log ∷ logs) (suc shard) here = count_is value logs shard here

  pub counts_more : (value after : V) (logs : List (Log ℕ ℕ)) (shard : ℕ) (items : List ℕ) → StandsAt counts value logs shard
      → shard_of after ≡ shard_of value → count_of after ≡ length items → StandsAt counts after (with_items logs shard items) shard
  counts_more value after [] shard items here same is = absurd here
  counts_more value after (log ∷ logs) zero items here same is = (same ∙ here.0, is)
  counts_more value after (log ∷ logs) (suc shard) items here same is = counts_more value after logs shard items here same is

  -- at first
  abbrev pub log_of : V → Log ℕ ℕ
  log_of value = record { head = shard_of value; items = [] }

  pub fresh_stand : (values : List V) → All (λ value. count_of value ≡ 0) values → StandFor counts values (map log_of values)
  fresh_stand [] fresh = tt
  fresh_stand (value ∷ values) fresh = ((refl, fresh 0 value (omega arith)), fresh_stand values (λ k d below. fresh (suc k) d (omega arith)))

  pub fresh_items : (values : List V) (shard : ℕ) → items_at (map log_of values) shard ≡ []
  fresh_items [] shard = refl
  fresh_items (value ∷ values) zero = refl
  fresh_items (value ∷ values) (suc shard) = fresh_items values shard

  pub fresh_counts : (n : ℕ) (values : List V) → length values ≡ n → map (λ (log : Log ℕ ℕ). length log.items) (map log_of values) ≡ replicate n 0
  fresh_counts zero [] long = refl
  fresh_counts zero (value ∷ values) long = absurd (omega arith)
  fresh_counts (suc n) [] long = absurd (omega arith)
  fresh_counts (suc n) (value ∷ values) long = λ i. 0 ∷ fresh_counts n values (omega arith) i

  -- at the end
  pub counts_are : (values : List V) (logs : List (Log ℕ ℕ)) (shard : ℕ) → StandFor counts values logs
      → count_at (map count_of values) shard ≡ length (items_at logs shard)
  counts_are [] [] shard all = refl
  counts_are [] (log ∷ logs) shard all = absurd all
  counts_are (value ∷ values) [] shard all = absurd all
  counts_are (value ∷ values) (log ∷ logs) zero all = all.0.1
  counts_are (value ∷ values) (log ∷ logs) (suc shard) all = counts_are values logs shard all.1
