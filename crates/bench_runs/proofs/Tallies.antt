-- What a tally counts.
use Rattle.std.proofs.Common.{◌≡◌, ℕ, zero, suc, List, [], ◌∷◌, map, length, replicate, All, refl, arith}
use Rattle.turn_book.specs.declared.logs.Log.{Log}
use Rattle.turn_book.specs.Logs.{items_at, with_items, StandsAt, StandFor}
use Rattle.bench_runs.specs.declared.turns.Tally.{Tally}

abbrev counts : Tally → ℕ → List ℕ → Type 0
counts tally head items = tally.count ≡ length items

pub count_is : (tally : Tally) (logs : List (Log ℕ ℕ)) (shard : ℕ) → StandsAt counts tally logs shard → tally.count ≡ length (items_at logs shard)
count_is tally [] shard here = absurd here
count_is tally (log ∷ logs) zero here = here
count_is tally (log ∷ logs) (suc shard) here = count_is tally logs shard here

pub counts_more : (tally after : Tally) (logs : List (Log ℕ ℕ)) (shard : ℕ) (items : List ℕ) → StandsAt counts tally logs shard
    → after.count ≡ length items → StandsAt counts after (with_items logs shard items) shard
counts_more tally after [] shard items here is = absurd here
counts_more tally after (log ∷ logs) zero items here is = is
counts_more tally after (log ∷ logs) (suc shard) items here is = counts_more tally after logs shard items here is

abbrev pub log_of : Tally → Log ℕ ℕ
log_of tally = record { head = 0; items = [] }

pub fresh_stand : (tallies : List Tally) → All (λ tally. tally.count ≡ 0) tallies → StandFor counts tallies (map log_of tallies)
fresh_stand [] fresh = tt
fresh_stand (tally ∷ tallies) fresh =
    (fresh 0 tally (omega arith), fresh_stand tallies (λ k d below. fresh (suc k) d (omega arith)))

pub fresh_counts : (n : ℕ) (tallies : List Tally) → length tallies ≡ n → map (λ (log : Log ℕ ℕ). length log.items) (map log_of tallies) ≡ replicate n 0
fresh_counts zero [] long = refl
fresh_counts zero (tally ∷ tallies) long = absurd (omega arith)
fresh_counts (suc n) [] long = absurd (omega arith)
fresh_counts (suc n) (tally ∷ tallies) long = λ i. 0 ∷ fresh_counts n tallies (omega arith) i
