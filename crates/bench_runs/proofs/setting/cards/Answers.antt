-- The sequence number 0 is decimal.
use Rattle.std.proofs.Common.{refl}
use Rattle.issuer_base.specs.ChipData.{is_bcd}
use Rattle.bench_runs.proofs.setting.cards.Goals as goal

pub new-requires : goal.new-requires
unfolding is_bcd
new-requires c = refl
