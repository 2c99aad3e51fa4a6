-- The halves of each key.
use Rattle.std.proofs.Common.{ap, ap₂, ◌∙◌, ◌++◌, arith}
use Rattle.std.proofs.lemmas.List.{take-append-drop}
use Rattle.des_block.specs.Cipher.{word_bytes}
use Rattle.des_lanes.specs.Lanes.{lane_word, block_in, key_in, key_at}
use Rattle.des_lanes.proofs.keys.LaneKeys.new.Goals as goal

pub returns : goal.returns
unfolding block_in key_in
returns c = λ lane h.
    ap₂ (λ x y. x ++ y)
    (ap word_bytes (ap (lane_word lane) c.of.ensures ∙ c.into_lanes.ensures lane (omega arith)) ∙ c.half_words.ensures.left lane h)
    (ap word_bytes (ap (lane_word lane) c.of-2.ensures ∙ c.into_lanes-2.ensures lane (omega arith)) ∙ c.half_words.ensures.right lane h)
    ∙ take-append-drop 8 (key_at c.args.keys.now lane)
