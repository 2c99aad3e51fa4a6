-- The same places, the last round's first.
use Rattle.std.proofs.Common.{Bool, ◌<◌, List, All, map, reverse, ap, ◌∙◌, sym, subst, refl, arith}
use Rattle.des_lanes.proofs.WordLanes.{deciphered}
use Rattle.des_block.specs.Cipher.{ciphered}
use Rattle.des_block.proofs.Laws.{map-reverse}
use Rattle.des_lanes.specs.Lanes.{lane_bits, bits_at}
use Rattle.des_lanes.specs.declared.rounds.TheConstants.{KEY_PLACES}
use Rattle.des_lanes.proofs.KeyPlaces.{places_are}
use Rattle.des_lanes.proofs.SmallPlaces.{small-rows}
use Rattle.des_lanes.proofs.rounds.decipher.Goals as goal

pub cipher-requires : goal.cipher-requires
cipher-requires c = subst (λ rows. All (λ places. All (λ place. place < 64) places) rows) (sym c.reverse.ensures.after) (small-rows (reverse KEY_PLACES) refl)

pub returns : goal.returns
returns c = λ lane.
    let bs : List Bool = lane_bits lane c.args.keys.now in
    deciphered lane c.args.keys.now c.args.block.now c.cipher.new.block (omega arith) (omega arith)
    (c.cipher.ensures lane
    ∙ ap (λ ks. ciphered ks (lane_bits lane c.args.block.now))
    (ap (map (λ places. bits_at places bs)) c.reverse.ensures.after ∙ map-reverse (λ places. bits_at places bs) KEY_PLACES ∙ ap reverse (places_are bs)))
