-- Each lane's block is enciphered under the lane's key.
use Rattle.std.proofs.Common.{◌∙◌, [], List, ℕ, ap₂, arith}
use Rattle.des_block.specs.Cipher.{tdes_encipher}
use Rattle.des_block.specs.declared.Key16.{Key16}
use Rattle.des_lanes.specs.Lanes.{block_in, key_at}
use Rattle.des_lanes.proofs.LaneWords.{paired}
use Rattle.des_lanes.proofs.tdes_encipher.Goals as goal

pub returns : goal.returns
unfolding key_at
returns c =
    let none : Key16 = record { 0 = [] } in
    c.first.ensures
    ∙ paired (λ (key : Key16) (block : List ℕ). tdes_encipher key.0 block) c.args.keys.now c.args.blocks.now (λ lane. block_in lane c.encipher.new.blocks)
    none c.requires.paired
    (λ lane h. c.encipher.ensures lane ∙ ap₂ tdes_encipher (c.new.ensures lane h) (c.new-lanes.ensures lane (omega arith)))
