-- Pieces that are appended one after another.
use Rattle.std.proofs.Common.{◌≡◌, ℕ, ◌^◌, ◌<◌, ◌/◌, ◌%◌, List, [], ◌∷◌, ◌++◌, ap, ◌∙◌, arith, w16}
use Rattle.std.specs.Int.{to_be_bytes}
use Rattle.key_derive.specs.SessionKey.{counter_bytes}

-- one more piece after those joined
pub piece-joined : (before after so_far piece : List ℕ) → before ≡ so_far → after ≡ before ++ piece → after ≡ so_far ++ piece
piece-joined before after so_far piece same step = step ∙ ap (λ front. front ++ piece) same

-- the two bytes of a counter
pub to_be_bytes-counter : (atc : ℕ) → atc < 2 ^ 16 → to_be_bytes w16 atc ≡ counter_bytes atc
to_be_bytes-counter atc fits =
    let high : atc / 256 % 256 ≡ atc / 256 = omega arith in
    ap (λ h. h ∷ atc % 256 ∷ []) high
