-- The two bytes of a number are those of the ATC, big-endian.
use Rattle.std.proofs.Common.{◌∙◌, arith}
use Rattle.cryptogram_in.proofs.Pieces.{to_be_bytes-counter}
use Rattle.cryptogram_in.proofs.counter_bytes.Goals as goal

pub returns : goal.returns
returns c = c.to_be_bytes.ensures ∙ to_be_bytes-counter c.args.atc (omega arith)
