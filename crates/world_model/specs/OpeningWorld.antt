-- The parts of a world before any event, as `World::new` builds them.
use Rattle.std.specs.Prelude.{◌≡◌, ◌<◌, ℕ, List, [], length, slice_get, Some, IfSome, IsTrue}
use Rattle.issuer_base.specs.declared.request.Suite.{Suite}
use Rattle.issuer_setup.specs.declared.card.CardInfo.{CardInfo}
use Rattle.issuer_setup.specs.IssuerSetup.{Setup}
use Rattle.issuer_setup.specs.KeyList.{has_suite}
use Rattle.row_core.specs.CardRow.{CardRow, StandsFor}

-- the issuer's first key set has keys of the suite
abbrev pub HasFirstKeys : Setup → Suite → Type 0
HasFirstKeys issuer suite = IfSome (slice_get issuer.keys 0) (λ set. IsTrue (has_suite suite set))

-- a row without records for each of the first cards
pub record AreEmpty (cards : List CardInfo) (count : ℕ) (rows : List CardRow) : Type 0 where
  pub count_is : length rows ≡ count
  pub each : (number : ℕ) (info : CardInfo) → number < count → slice_get cards number ≡ Some info
      → (row : CardRow) × (slice_get rows number ≡ Some row) × StandsFor info row []
