-- Each lane has the MAC of its text under its key.
use Rattle.std.proofs.Common.{◌∙◌, [], List, ℕ, ap, get_or, arith}
use Rattle.des_block.specs.declared.Key16.{Key16}
use Rattle.retail_mac.specs.Mac.{retail_mac}
use Rattle.des_lanes.specs.Lanes.{block_in, key_at}
use Rattle.des_lanes.proofs.LaneWords.{paired}
use Rattle.des_lanes.proofs.macs.Goals as goal

pub returns : goal.returns
unfolding key_at
returns g c =
    let none : Key16 = record { 0 = [] } in
    c.first.ensures
    ∙ paired (λ (key : Key16) (text : List ℕ). retail_mac key.0 text) c.args.keys.now c.args.texts.now (λ lane. block_in lane c.macs.result)
    none c.requires.paired
    (λ lane h. c.macs.ensures lane (omega (arith, c.requires.paired)) ∙ ap (λ key. retail_mac key (get_or c.args.texts.now lane [])) (c.new.ensures lane h))
