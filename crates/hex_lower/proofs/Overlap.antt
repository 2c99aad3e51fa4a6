-- Digits that are written over the end of others.
use Rattle.std.proofs.Common.{◌≡◌, ℕ, ◌-◌, ◌*◌, ◌/◌, ◌%◌, ◌≤◌, List, [], ◌∷◌, ◌++◌, length, slice_index, take, drop}
use Rattle.std.proofs.Common.{refl, sym, ap, ap₂, ◌∙◌, arith, append_assoc, append-nil, length-drop}
use Rattle.std.proofs.lemmas.List.{take-append-drop, take-take, take_at, length-take-le, drop_all}
use borrow.Rule.Slice.PartMut.{put_mid}
use Rattle.hex.specs.Hex.{encode_lower, encode_with, lower_digits}
use Rattle.hex.proofs.HexLemmas.{length-encode_with}

-- the digits of more bytes come after those of the bytes before them
encode_lower-append : (bytes more : List ℕ) → encode_lower (bytes ++ more) ≡ encode_lower bytes ++ encode_lower more
unfolding encode_with
encode_lower-append [] more = refl
encode_lower-append (byte ∷ bytes) more =
    ap (λ (text : List ℕ). slice_index lower_digits (byte / 16) ∷ slice_index lower_digits (byte % 16) ∷ text) (encode_lower-append bytes more)

-- the digits of a prefix, of which some are encoded again with all bytes after them
pub encode_lower-overlap : (bytes after : List ℕ) (whole last : ℕ) → last ≤ whole → last ≤ length bytes
    → take (2 * last) (encode_lower (take whole bytes) ++ after) ++ encode_lower (drop last bytes) ≡ encode_lower bytes
encode_lower-overlap bytes after whole last within fits =
    let parts : encode_lower (take whole bytes) ≡ encode_lower (take last bytes) ++ encode_lower (drop last (take whole bytes)) =
    ap encode_lower (sym (take-append-drop last (take whole bytes)))
    ∙ encode_lower-append (take last (take whole bytes)) (drop last (take whole bytes))
    ∙ ap (λ (some : List ℕ). encode_lower some ++ encode_lower (drop last (take whole bytes))) (take-take last whole bytes within) in
    let size : length (encode_lower (take last bytes)) ≡ 2 * last =
    length-encode_with _ (take last bytes) ∙ ap (λ (n : ℕ). 2 * n) (length-take-le last bytes fits) in
    let kept : take (2 * last) (encode_lower (take whole bytes) ++ after) ≡ encode_lower (take last bytes) =
    ap (λ (some : List ℕ). take (2 * last) (some ++ after)) parts
    ∙ ap (take (2 * last)) (append_assoc (encode_lower (take last bytes)) (encode_lower (drop last (take whole bytes))) after)
    ∙ take_at (encode_lower (take last bytes)) (encode_lower (drop last (take whole bytes)) ++ after) (2 * last) size in
    ap (λ (some : List ℕ). some ++ encode_lower (drop last bytes)) kept
    ∙ sym (encode_lower-append (take last bytes) (drop last bytes))
    ∙ ap encode_lower (take-append-drop last bytes)

-- the digits of a prefix, over whose end the digits of all bytes from there on are written
pub encode_lower-over : (bytes first second out : List ℕ) (whole last : ℕ) → last ≤ whole → last ≤ length bytes
    → first ≡ encode_lower (take whole bytes) → second ≡ encode_lower (drop last bytes)
    → put_mid (2 * last) (length (first ++ drop (2 * whole) out) - 2 * last) (first ++ drop (2 * whole) out) second ≡ encode_lower bytes
encode_lower-over bytes first second out whole last within fits is_first is_second =
    let end : drop (length (first ++ drop (2 * whole) out) - 2 * last) (drop (2 * last) (first ++ drop (2 * whole) out)) ≡ [] =
    drop_all (length (first ++ drop (2 * whole) out) - 2 * last) (drop (2 * last) (first ++ drop (2 * whole) out))
    (omega (arith, length-drop (2 * last) (first ++ drop (2 * whole) out))) in
    ap (λ (rest : List ℕ). take (2 * last) (first ++ drop (2 * whole) out) ++ (second ++ rest)) end
    ∙ ap (λ (more : List ℕ). take (2 * last) (first ++ drop (2 * whole) out) ++ more) (append-nil second)
    ∙ ap₂ (λ (some more : List ℕ). take (2 * last) (some ++ drop (2 * whole) out) ++ more) is_first is_second
    ∙ encode_lower-overlap bytes (drop (2 * whole) out) whole last within fits
