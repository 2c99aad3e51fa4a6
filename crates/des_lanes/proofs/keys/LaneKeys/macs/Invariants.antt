-- Each lane's chain is over the blocks so far of its text.
use Rattle.std.proofs.Common.{◌≡◌, ℕ, ◌<◌, length, get_or, take, fold, []}
use Rattle.des_block.specs.Cipher.{word_bytes}
use Rattle.retail_mac.specs.Mac.{padded, blocks, zero_block, chained}
use Rattle.des_lanes.specs.Lanes.{lane_word, key_in}
use Rattle.des_lanes.proofs.keys.LaneKeys.macs.Given as goal

abbrev pub invariant-loop-i : goal.invariant-loop-i
invariant-loop-i g l = (lane : ℕ) → lane < length l.texts
    → word_bytes (lane_word lane l.chain.pairs.0)
    ≡ fold (chained (take 8 (key_in lane l.self))) zero_block (blocks l.i (padded (get_or l.texts lane [])))
