-- One more character is converted.
use Rattle.std.proofs.Common.{refl, arith}
use Rattle.key_derive.proofs.Blocks.{map-over}
use Rattle.config_read.specs.Words.{past_zero}
use Rattle.config_read.proofs.words.past_zero.Goals as goal

pub loop-character-preserved : goal.loop-character-preserved
unfolding past_zero
loop-character-preserved c = map-over past_zero c.args.characters c.loop-character.character-items c.loop-character.character-index _
    (omega arith) c.loop-character.invariant refl
