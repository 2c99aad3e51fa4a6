-- What a pass knows into which those of some lanes were joined.
use Rattle.std.specs.Prelude.{◌≡◌, ℕ, ◌+◌, List, slice_get, Some}
use Rattle.shared_seats.specs.Totals.{total}
use Rattle.claim_words.specs.declared.view.Claimed.{Claimed}
use Rattle.turn_book.specs.Logs.{items_at, IsFront}
use Rattle.host_calls.specs.Passes.{claims_of, logs_of}
use Rattle.host_calls.specs.declared.pass.Pass.{Pass}
use Rattle.shared_callers.specs.declared.lane.Lane.{Lane}

-- the pass has what the first one and those of the lanes had, each once; what any of them has seen of a log is a prefix
-- of its own
pub record HasJoined (first : Pass) (lanes : List Lane) (pass : Pass) : Type 0 where
  pub claims : (f : Claimed → ℕ)
      → total f (claims_of pass).claims ≡ total f (claims_of first).claims + total
      (λ lane. total f (claims_of lane.pass).claims) lanes
  pub found : (f : (ℕ × ℕ) → ℕ) → total f (claims_of pass).found
      ≡ total f (claims_of first).found + total (λ lane. total f (claims_of lane.pass).found) lanes
  pub tops : (f : (ℕ × ℕ) → ℕ) → total f (claims_of pass).tops
      ≡ total f (claims_of first).tops + total (λ lane. total f (claims_of lane.pass).tops) lanes
  pub mine : (f : (ℕ × ℕ) → ℕ) → total f (logs_of pass).mine
      ≡ total f (logs_of first).mine + total (λ lane. total f (logs_of lane.pass).mine) lanes
  pub first_front : (shard : ℕ) → IsFront (items_at (logs_of first).seen shard) (items_at (logs_of pass).seen shard)
  pub fronts : (number shard : ℕ) (lane : Lane) → slice_get lanes number ≡ Some lane
      → IsFront (items_at (logs_of lane.pass).seen shard) (items_at (logs_of pass).seen shard)
