-- The places of a key's bits in its round keys.
use Rattle.std.proofs.Common.{◌≡◌, Bool, List, map, refl}
use Rattle.des_block.specs.Bits.{picked}
use Rattle.des_block.specs.Tables.{key_choice_left, key_choice_right, round_key_choice, rotations}
use Rattle.des_block.specs.Cipher.{turned, keys_from, round_keys}
use Rattle.des_lanes.specs.Lanes.{bits_at}
use Rattle.des_lanes.specs.declared.rounds.TheConstants.{KEY_PLACES}

pub places_are : (bs : List Bool) → map (λ places. bits_at places bs) KEY_PLACES ≡ round_keys bs
unfolding bits_at round_keys keys_from turned picked key_choice_left key_choice_right round_key_choice rotations
places_are bs = refl
