-- The terminal's amount is decimal.
use Rattle.std.proofs.Common.{refl}
use Rattle.issuer_base.specs.ChipData.{is_bcd}
use Rattle.bench_runs.proofs.replay.ask.Goals as goal

pub tap-requires : goal.tap-requires
unfolding is_bcd
tap-requires c = refl
