-- Blocks of bytes that are changed in place, and keys of two halves.
use Rattle.std.proofs.Common.{◌≡◌, ℕ, ◌+◌, ◌<◌, List, [], ◌++◌, length, get_or, set, take, drop, replicate, map, ap, ap₂, ◌∙◌, arith}
use Rattle.std.proofs.lemmas.List.{get_or_default, length-append, length-map, length-take-le, length-drop, take_at, drop_at, append-nil}
use Rattle.std.proofs.lemmas.List.Edits.{map_over_more}
use borrow.Rule.Slice.PartMut.{put_mid}

-- a function of each byte, one byte further
pub map-over : (f : ℕ → ℕ) (xs ys : List ℕ) (i x : ℕ) → i < length xs → ys ≡ map f (take i xs) ++ drop i xs → x ≡ f (get_or ys i 0)
    → set ys i x ≡ map f (take (i + 1) xs) ++ drop (i + 1) xs
map-over f xs ys i x below so_far step =
    let long : length ys ≡ length xs = ap length so_far ∙ length-append (map f (take i xs)) (drop i xs)
    ∙ omega (arith, length-map (take i xs) f, length-take-le i xs (omega arith), length-drop i xs) in
    ap (set ys i) step ∙ map_over_more f xs ys i (get_or ys i 0) below so_far (get_or_default ys i 0 (get_or ys i 0) (omega arith))

-- the two halves of a key, each copied into its place
pub halves-joined : (left right first second : List ℕ) → length first ≡ 8 → first ≡ left → second ≡ right
    → put_mid 8 8 (first ++ replicate 8 0) second ≡ left ++ right
halves-joined left right first second long same_first same_second =
    let front : take 8 (first ++ replicate 8 0) ≡ first = take_at first (replicate 8 0) 8 long in
    let rest : drop 8 (drop 8 (first ++ replicate 8 0)) ≡ [] = ap (drop 8) (drop_at first (replicate 8 0) 8 long) in
    ap₂ (λ a b. a ++ (second ++ b)) front rest
    ∙ ap₂ (λ a b. a ++ b) same_first (append-nil second ∙ same_second)
