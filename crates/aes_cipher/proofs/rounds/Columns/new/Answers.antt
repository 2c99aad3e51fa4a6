-- The block is all of its sixteen bytes.
use Rattle.std.proofs.Common.{◌∙◌, arith}
use Rattle.std.proofs.lemmas.List.{take_all}
use Rattle.aes_cipher.proofs.rounds.Columns.new.Goals as goal

pub returns : goal.returns
returns c = c.at.ensures ∙ take_all 16 c.args.block.now (omega arith)
