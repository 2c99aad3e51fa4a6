-- Parts of a list, and bytes that are read behind others.
use Rattle.std.proofs.Common.{◌≡◌, ℕ, ◌+◌, ◌≤◌, List, ◌++◌, length, take, drop, ap, sym, ◌∙◌}
use Rattle.std.specs.List.{between}
use Rattle.std.proofs.lemmas.List.{drop-drop, take-append-le}
use Rattle.std.proofs.lemmas.Slice.{between_is}
use Rattle.std.proofs.Math.Seq.{take-append-add}

pub drop-between : {X : Type 0} (xs : List X) (i j n : ℕ) → drop n (between i j xs) ≡ between (i + n) j xs
drop-between xs i j n = ap (drop n) (between_is xs i j) ∙ drop-drop n i (take j xs) ∙ sym (between_is xs (i + n) j)

-- the first bytes
front : {X : Type 0} (xs : List X) (i j : ℕ) → i ≡ 0 → between i j xs ≡ take j xs
front xs i j first = between_is xs i j ∙ ap (λ (k : ℕ). drop k (take j xs)) first

-- bytes that are there, and more behind them
pub joined : (old bytes piece rest : List ℕ) (start end count : ℕ) → start ≡ 0 → end ≡ length old → between start end bytes ≡ old → count ≤ length piece
    → between start (end + count) (take end bytes ++ (piece ++ rest)) ≡ old ++ take count piece
joined old bytes piece rest start end count first long same within =
    front (take end bytes ++ (piece ++ rest)) start (end + count) first
    ∙ ap (λ (l : List ℕ). take (end + count) (l ++ (piece ++ rest))) (sym (front bytes start end first) ∙ same)
    ∙ ap (λ (k : ℕ). take (k + count) (old ++ (piece ++ rest))) long
    ∙ take-append-add old (piece ++ rest) count
    ∙ ap (λ (l : List ℕ). old ++ l) (take-append-le count piece rest within)
