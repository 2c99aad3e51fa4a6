-- Blocks of bytes: their xor with a short text, two parts joined, and the first four bytes.
use Rattle.std.proofs.Common.{◌≡◌, ℕ, zero, suc, ◌≤◌, List, [], ◌∷◌, ◌++◌, length, get_or, set, take, drop, replicate, bit_xor, refl, sym, ap, ap₂}
use Rattle.std.proofs.Common.{◌∙◌, arith}
use Rattle.std.proofs.lemmas.List.{take_at, drop_at, append-nil}
use Rattle.std.specs.Int.Bits.{xor_zero_r}
use Rattle.retail_mac.specs.Mac.{xor_bytes}
use borrow.Rule.Slice.PartMut.{put_mid}

-- zeros change nothing
pub xor_bytes-zeros : (xs : List ℕ) (n : ℕ) → length xs ≡ n → xor_bytes xs (replicate n 0) ≡ xs
unfolding xor_bytes
xor_bytes-zeros [] n long = refl
xor_bytes-zeros (x ∷ xs) zero long = absurd (omega arith)
xor_bytes-zeros (x ∷ xs) (suc n) long = ap₂ (λ y ys. y ∷ ys) (xor_zero_r x) (xor_bytes-zeros xs n (omega arith))

-- the first two bytes changed in place
pub first-two-xored : (block text : List ℕ) → length block ≡ 8 → length text ≡ 2
    → set (set block 0 (bit_xor (get_or block 0 0) (get_or text 0 0))) 1 (bit_xor (get_or (set block 0 (bit_xor (get_or block 0 0)
    (get_or text 0 0))) 1 0) (get_or text 1 0)) ≡ xor_bytes block (text ++ replicate 6 0)
unfolding xor_bytes
first-two-xored [] text long two = absurd (omega arith)
first-two-xored (a ∷ []) text long two = absurd (omega arith)
first-two-xored (a ∷ b ∷ block) [] long two = absurd (omega arith)
first-two-xored (a ∷ b ∷ block) (x ∷ []) long two = absurd (omega arith)
first-two-xored (a ∷ b ∷ block) (x ∷ y ∷ []) long two = ap (λ rest. bit_xor a x ∷ bit_xor b y ∷ rest) (sym (xor_bytes-zeros block 6 (omega arith)))
first-two-xored (a ∷ b ∷ block) (x ∷ y ∷ z ∷ text) long two = absurd (omega arith)

-- two parts, each copied into its place
pub parts-joined : (left right first second : List ℕ) → length first ≡ 8 → first ≡ left → second ≡ right
    → put_mid 8 4 (first ++ replicate 4 0) second ≡ left ++ right
parts-joined left right first second long same_first same_second =
    let front : take 8 (first ++ replicate 4 0) ≡ first = take_at first (replicate 4 0) 8 long in
    let rest : drop 4 (drop 8 (first ++ replicate 4 0)) ≡ [] = ap (drop 4) (drop_at first (replicate 4 0) 8 long) in
    ap₂ (λ a b. a ++ (second ++ b)) front rest
    ∙ ap₂ (λ a b. a ++ b) same_first (append-nil second ∙ same_second)

-- the first four bytes, one by one
pub first-four : (bytes : List ℕ) → 4 ≤ length bytes → get_or bytes 0 0 ∷ get_or bytes 1 0 ∷ get_or bytes 2 0 ∷ get_or bytes 3 0 ∷ [] ≡ take 4 bytes
first-four [] long = absurd (omega arith)
first-four (a ∷ []) long = absurd (omega arith)
first-four (a ∷ b ∷ []) long = absurd (omega arith)
first-four (a ∷ b ∷ c ∷ []) long = absurd (omega arith)
first-four (a ∷ b ∷ c ∷ d ∷ bytes) long = refl
