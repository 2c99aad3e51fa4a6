-- The invariant of the words and the views, which holds between any two steps.
use Rattle.std.specs.Prelude.{◌≡◌, ℕ, ◌+◌, ◌<◌, ◌≤◌, List, [], map, length, Bool}
use mathlib.Core.Option.{some}
use lib.ListN.{get_elem?}
use Rattle.atomic_table.specs.Table.{State}
use Rattle.shared_seats.specs.Totals.{total}
use Rattle.shared_seats.specs.SeatNames.{AreNamed}
use Rattle.claim_words.specs.declared.layout.TheConstants.{COUNTERS}
use Rattle.claim_words.specs.declared.view.Standing.{Standing}
use Rattle.claim_words.specs.declared.view.ClaimView.{ClaimView}
use Rattle.claim_words.specs.Layout.{bit_of, top_of}
use Rattle.claim_words.specs.ClaimViews.{claims_on, times, is_live, is_kept, is_any, newcomer}

-- how often the pair occurs: as an opening record, which the first words have, and as a claim whose state passes the
-- test
abbrev pub places : (Standing → Bool) → List ℕ → List ClaimView → ℕ → ℕ → ℕ
places test first views card counter =
    bit_of first card counter + total (λ view. claims_on test card counter view.claims) views

-- how often the pair was found set
abbrev pub found_by : List ClaimView → ℕ → ℕ → ℕ
found_by views card counter = total (λ view. times card counter view.found) views

-- how often the pair was read from a top word
abbrev pub told_to : List ClaimView → ℕ → ℕ → ℕ
told_to views card counter = total (λ view. times card counter view.tops) views

-- a table's words agree with its seats' views
pub record AreClaims {S : Type 0} (first : List ℕ) (table : State S ClaimView) : Type 0 where
  pub wide : length table.words ≡ length first
  -- a pair occurs at most once, as an opening record or as a claim that isn't given back, and its bit is set exactly if
  -- it occurs
  pub bits : (card counter : ℕ) → counter < COUNTERS → places is_live first table.views card counter
      ≡ bit_of table.words card counter
  -- a top is above each recorded or kept ATC of its card, and if it isn't 0, it is 1 above one of them
  pub above : (card counter : ℕ) → counter < COUNTERS → 0 < places is_kept first table.views card counter
      → counter < top_of table.words card
  pub greatest : (card counter : ℕ) → top_of table.words card ≡ counter + 1
      → 0 < places is_kept first table.views card counter
  pub small : (card : ℕ) → top_of table.words card ≤ COUNTERS
  -- a pair that was found set is recorded or was won by some seat, and one that was read from a top is recorded or kept
  pub found : (card counter : ℕ) → 0 < found_by table.views card counter
      → 0 < places is_any first table.views card counter
  pub told : (card counter : ℕ) → 0 < told_to table.views card counter
      → 0 < places is_kept first table.views card counter
  -- the names are in order, and a seat without a name knows nothing
  pub names : AreNamed (map (λ view. view.names) table.views)
  pub idle : (seat : ℕ) (view : ClaimView) → get_elem? table.views seat ≡ some view → length view.names ≡ 0
      → view ≡ newcomer []
