-- The first record of the ATC is at its place.
use Rattle.std.proofs.Common.{arith}
use Rattle.std.proofs.lemmas.Option.{gets}
use Rattle.std.proofs.lemmas.Grind.{common_steps}
use Rattle.std.proofs.lemmas.List.Folds.{find_at}
use Rattle.clearing_check.proofs.filed_records.FiledRecords.record.Goals as goal

pub returns : goal.returns
returns c = λ card atc is. grind (arith, common_steps, gets, find_at)
