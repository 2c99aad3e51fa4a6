-- One block more in each lane, and the end of each MAC.
use Rattle.std.proofs.Common.{◌≡◌, ◌∙◌, ◌/◌, ℕ, [], List, get_or, ap, sym, arith, take, fold}
use Rattle.des_block.specs.Cipher.{word_bytes}
use Rattle.retail_mac.specs.Mac.{padded, blocks, zero_block, chained}
use Rattle.retail_mac.proofs.Blocks.{zero_word}
use Rattle.des_lanes.specs.Lanes.{lane_word, block_in, key_in}
use Rattle.des_lanes.proofs.LaneWords.{left_of}
use Rattle.des_lanes.proofs.MacSteps.{chain_step, mac_is}
use Rattle.des_lanes.proofs.keys.LaneKeys.macs.Goals as goal

pub loop-i-init : goal.loop-i-init
unfolding blocks
loop-i-init g c = λ lane h. ap word_bytes (c.zero-chain.ensures lane) ∙ zero_word

pub loop-i-preserved : goal.loop-i-preserved
unfolding block_in
loop-i-preserved g c = λ lane h.
    chain_step (key_in lane c.args.self.now) (get_or c.args.texts.now lane []) c.loop-i.i (lane_word lane c.loop-i.chain.pairs.0)
    (get_or c.block_words.result lane 0) (lane_word lane c.xor.new.self.pairs.0) (lane_word lane c.encipher.new.self.pairs.0)
    (block_in lane c.args.self.now.left) (left_of lane c.args.self.now) (c.loop-i.invariant lane h)
    (c.block_words.ensures.block lane h)
    (c.xor.ensures lane (omega arith)) (c.encipher.ensures lane)

pub returns : goal.returns
unfolding block_in
returns g c = λ lane h.
    let n : ℕ = g.row.N / 8 in
    let all : c.loop-i.i ≡ n = omega arith in
    let text : List ℕ = get_or c.args.texts.now lane [] in
    let key : List ℕ = key_in lane c.args.self.now in
    mac_is key text n (lane_word lane c.loop-i.chain.pairs.0) (get_or c.block_words-2.result lane 0) (lane_word lane c.xor-2.new.self.pairs.0)
    (lane_word lane c.encipher-2.new.blocks.pairs.0)
    (sym (ap (λ k. k / 8) (c.block_words-2.ensures.sized lane h)))
    (c.loop-i.invariant lane h ∙ ap (λ i. fold (chained (take 8 key)) zero_block (blocks i (padded text))) all)
    (c.block_words-2.ensures.block lane h)
    (c.xor-2.ensures lane (omega arith)) (c.encipher-2.ensures lane)
