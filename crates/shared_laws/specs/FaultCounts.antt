-- How many answers report that a store failed, by the increase of its fault counter.
use Rattle.std.specs.Prelude.{ℕ, ◌+◌, ◌-◌, ◌^◌, ◌<◌, ◌≤◌, List, length}
use Rattle.issuer_base.specs.declared.limits.TheConstants.{MAX_FAULTS_REPORTED}
use Rattle.issuer_setup.specs.IssuerSetup.{Setup}
use Rattle.shared_seats.specs.Totals.{total}
use Rattle.turn_book.specs.declared.logs.Log.{Log}
use Rattle.turn_book.specs.Logs.{items_at}
use Rattle.shared_shards.specs.declared.logs.LogItem.{LogItem}
use Rattle.shared_shards.specs.declared.logs.LogHead.{LogHead}
use Rattle.shared_shards.specs.ShardLogs.{faults_of, RiseTo}
use Rattle.shared_laws.specs.Shares.{Share}
use Rattle.shared_laws.specs.OwnPlaces.{all_faults_reported}

-- how many answers there are in all shares
abbrev pub all_answers : List Share → ℕ
all_answers shares = total (λ share. length share.answers) shares

-- if a log's faults rise between two values of its store's counter, the answers that report a fault are at most the
-- increase; the counter isn't saturated, and there are fewer answers than a log may have faults
abbrev pub AreFaultsCounted : Setup → List (Log LogItem LogHead) → List Share → Type 0
AreFaultsCounted issuer logs shares =
    (shard was is : ℕ) → shard < issuer.shards → RiseTo was (faults_of (items_at logs shard)) is → is < 2 ^ 64 - 1
    → all_answers shares < MAX_FAULTS_REPORTED → was + all_faults_reported issuer shard shares ≤ is
