-- The bytes of the number of eight bytes are those.
use Rattle.std.proofs.Common.{rules}
use Rattle.des_block.proofs.Laws.{word_bytes-from_be_bytes}
use Rattle.des_lanes.proofs.words.word_from.Goals as goal

pub returns : goal.returns
returns c = word_bytes-from_be_bytes c.args.block c.from_be_bytes.result (search rules) (search rules) c.from_be_bytes.ensures
