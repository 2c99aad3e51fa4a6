-- One word's bytes more.
use Rattle.std.proofs.Common.{arith, ap, ◌∙◌, get_or-take}
use Rattle.des_block.specs.Cipher.{word_bytes}
use Rattle.des_lanes.proofs.LaneWords.{bytes_more}
use Rattle.des_lanes.proofs.words.bytes_of.Goals as goal

pub loop-word-preserved : goal.loop-word-preserved
unfolding word_bytes
loop-word-preserved c =
    bytes_more c.args.words.now c.loop-word.out.items c.push.new.self.items c.loop-word.word-index c.to_be_bytes.result (omega arith)
    c.loop-word.invariant (c.to_be_bytes.ensures ∙ ap word_bytes
    (get_or-take c.args.count c.args.words.now c.loop-word.word-index 0 (omega arith))) c.push.ensures.items
