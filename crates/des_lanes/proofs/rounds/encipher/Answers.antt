-- The places of the key's bits are those of PC-1, the rotations and PC-2.
use Rattle.std.proofs.Common.{ap, ◌∙◌, refl, arith}
use Rattle.des_lanes.proofs.WordLanes.{enciphered}
use Rattle.des_block.specs.Cipher.{ciphered}
use Rattle.des_lanes.specs.Lanes.{lane_bits}
use Rattle.des_lanes.proofs.KeyPlaces.{places_are}
use Rattle.des_lanes.proofs.SmallPlaces.{small-rows}
use Rattle.des_lanes.specs.declared.rounds.TheConstants.{KEY_PLACES}
use Rattle.des_lanes.proofs.rounds.encipher.Goals as goal

pub cipher-requires : goal.cipher-requires
cipher-requires c = small-rows KEY_PLACES refl

pub returns : goal.returns
returns c = λ lane.
    enciphered lane c.args.keys.now c.args.block.now c.cipher.new.block (omega arith) (omega arith)
    (c.cipher.ensures lane ∙ ap (λ ks. ciphered ks (lane_bits lane c.args.block.now)) (places_are (lane_bits lane c.args.keys.now)))
