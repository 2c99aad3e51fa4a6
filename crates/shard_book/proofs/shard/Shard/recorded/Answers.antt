-- Each ATC that is listed is recorded.
use Rattle.shard_book.specs.ShardRows.{Lists}
use Rattle.shard_book.specs.Recorded.{AddsRecorded}
use Rattle.shard_book.proofs.Recorded.{adds-recorded, ok-weaker}
use Rattle.shard_book.proofs.shard.Shard.recorded.Goals as goal

pub returns-else-is_err-clause-recorded : goal.returns-else-is_err-clause-recorded
returns-else-is_err-clause-recorded g c issuer history stands =
    let rows = c.args.self.now.rows in
    let list = c.args.list.now.items in
    let longer = c.list_recorded-listed.new.list.items in
    ok-weaker c.list_recorded-listed.result (Lists rows list longer) (AddsRecorded issuer rows.shard history list longer)
    (adds-recorded issuer rows c.list_recorded-listed.ensures.covers history stands.rows_stand list longer c.list_recorded-listed.ensures.kept.1)
    c.list_recorded-listed.ensures.listed
