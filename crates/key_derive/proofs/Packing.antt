-- Digits two in a byte, and a part of them.
use Rattle.std.proofs.Common.{◌≡◌, ℕ, zero, suc, ◌+◌, ◌-◌, ◌*◌, ◌/◌, ◌%◌, ◌<◌, ◌≤◌, List, [], ◌∷◌, ◌++◌, length, get_or, take, drop, replicate, refl}
use Rattle.std.proofs.Common.{sym, ap, ap₂, ◌∙◌, arith}
use Rattle.std.proofs.lemmas.List.{ext_get_or, take-append-le, take-replicate, drop-replicate, drop-drop, length-append, length-replicate}
use Rattle.std.proofs.lemmas.List.{length-take-le, length-drop}
use Rattle.key_derive.specs.Digits.{packed, card_digits, rightmost16, evened}
use borrow.Rule.Slice.PartMut.{put_mid}

-- a byte for each pair of digits
pub length-packed : (n : ℕ) (digits : List ℕ) → length digits ≡ 2 * n → length (packed digits) ≡ n
unfolding packed
length-packed n [] e = omega arith
length-packed n (digit ∷ []) e = absurd (omega arith)
length-packed zero (high ∷ low ∷ digits) e = absurd (omega arith)
length-packed (suc n) (high ∷ low ∷ digits) e = ap suc (length-packed n digits (omega arith))

-- the byte at a place
pub get_or-packed : (digits : List ℕ) (i : ℕ) → 2 * i + 1 < length digits
    → get_or (packed digits) i 0 ≡ 16 * get_or digits (2 * i) 0 + get_or digits (2 * i + 1) 0
unfolding packed
get_or-packed [] i below = absurd (omega arith)
get_or-packed (digit ∷ []) i below = absurd (omega arith)
get_or-packed (high ∷ low ∷ digits) zero below = refl
get_or-packed (high ∷ low ∷ digits) (suc i) below =
    let even : 2 * suc i ≡ suc (suc (2 * i)) = omega arith in
    let odd : 2 * suc i + 1 ≡ suc (suc (2 * i + 1)) = omega arith in
    rw (odd, even) (get_or-packed digits i (omega arith))

-- the bytes that a loop has written at each place
pub packed-all : (bytes digits : List ℕ) (n : ℕ) → length digits ≡ 2 * n → length bytes ≡ n → ((k : ℕ) → k < n
    → get_or bytes k 0 ≡ 16 * get_or digits (2 * k) 0 + get_or digits (2 * k + 1) 0) → bytes ≡ packed digits
packed-all bytes digits n pairs long at =
    ext_get_or 0 bytes (packed digits) (long ∙ sym (length-packed n digits pairs))
    (λ k below. at k (omega arith) ∙ sym (get_or-packed digits k (omega arith)))

-- bytes left out are pairs of digits left out
pub drop-packed : (n : ℕ) (digits : List ℕ) → drop n (packed digits) ≡ packed (drop (2 * n) digits)
unfolding packed
drop-packed zero digits = refl
drop-packed (suc n) [] = let twice : 2 * suc n ≡ suc (suc (2 * n)) = omega arith in rw twice refl
drop-packed (suc n) (digit ∷ []) = let twice : 2 * suc n ≡ suc (suc (2 * n)) = omega arith in rw twice refl
drop-packed (suc n) (high ∷ low ∷ digits) = let twice : 2 * suc n ≡ suc (suc (2 * n)) = omega arith in rw twice (drop-packed n digits)

-- a part of two lists that are joined
pub drop-append : (n : ℕ) (xs ys : List ℕ) → drop n (xs ++ ys) ≡ drop n xs ++ drop (n - length xs) ys
drop-append zero xs ys = let none : 0 - length xs ≡ 0 = omega arith in rw none refl
drop-append (suc n) [] ys = let all : suc n - 0 ≡ suc n = omega arith in rw all refl
drop-append (suc n) (x ∷ xs) ys = let same : suc n - suc (length xs) ≡ n - length xs = omega arith in rw same (drop-append n xs ys)

-- what is left of digits after zeros
pub drop-zeros : (n zeros : ℕ) (digits : List ℕ) → drop n (replicate zeros 0 ++ digits) ≡ replicate (zeros - n) 0 ++ drop (n - zeros) digits
drop-zeros n zeros digits =
    drop-append n (replicate zeros 0) digits
    ∙ ap₂ (λ front k. front ++ drop k digits) (drop-replicate n zeros 0) (ap (λ k. n - k) (length-replicate zeros 0))

-- the last eight bytes of the row are the rightmost sixteen digits
pub drop-row-3 : (pan : List ℕ) (psn : ℕ) → length pan ≤ 20 → drop 3 (packed (replicate (20 - length pan) 0 ++ card_digits pan psn))
    ≡ packed (rightmost16 (card_digits pan psn))
unfolding rightmost16
drop-row-3 pan psn few =
    let long : length (card_digits pan psn) ≡ length pan + 2 = length-append pan (psn / 16 ∷ psn % 16 ∷ []) in
    let row : drop (2 * 3) (replicate (20 - length pan) 0 ++ card_digits pan psn)
    ≡ replicate (20 - length pan - 6) 0 ++ drop (6 - (20 - length pan)) (card_digits pan psn) = drop-zeros 6 (20 - length pan) (card_digits pan psn) in
    let zeros : 20 - length pan - 6 ≡ 16 - length (card_digits pan psn) = omega arith in
    let left_out : 6 - (20 - length pan) ≡ length (card_digits pan psn) - 16 = omega arith in
    drop-packed 3 (replicate (20 - length pan) 0 ++ card_digits pan psn)
    ∙ ap packed (row ∙ ap₂ (λ m n. replicate m 0 ++ drop n (card_digits pan psn)) zeros left_out)

-- the bytes of the row from the first that a digit stands in are the digits, made even in number
pub drop-row-used : (pan : List ℕ) (psn unused : ℕ) → length pan ≤ 20 → unused ≡ 11 - (length pan + 3) / 2
    → drop unused (packed (replicate (20 - length pan) 0 ++ card_digits pan psn)) ≡ packed (evened (card_digits pan psn))
unfolding evened
drop-row-used pan psn unused few e =
    let long : length (card_digits pan psn) ≡ length pan + 2 = length-append pan (psn / 16 ∷ psn % 16 ∷ []) in
    let row : drop (2 * unused) (replicate (20 - length pan) 0 ++ card_digits pan psn)
    ≡ replicate (20 - length pan - 2 * unused) 0 ++ drop (2 * unused - (20 - length pan)) (card_digits pan psn) = drop-zeros (2 * unused)
    (20 - length pan) (card_digits pan psn) in
    let zeros : 20 - length pan - 2 * unused ≡ length (card_digits pan psn) % 2 = omega arith in
    let none : 2 * unused - (20 - length pan) ≡ 0 = omega arith in
    drop-packed unused (replicate (20 - length pan) 0 ++ card_digits pan psn)
    ∙ ap packed (row ∙ ap₂ (λ m n. replicate m 0 ++ drop n (card_digits pan psn)) zeros none)

-- the row of digits as it is written: zeros, the sequence number at the end, and the account number before it
pub row-written : (pan digits copied : List ℕ) (psn : ℕ) → length pan ≤ 20 → digits ≡ pan → copied ≡ digits
    → put_mid (20 - length digits) (20 - (20 - length digits)) (replicate 20 0 ++ psn / 16 ∷ psn % 16 ∷ []) copied
    ≡ replicate (20 - length pan) 0 ++ card_digits pan psn
row-written pan digits copied psn few same_digits same_copied =
    let whole : 20 - length pan + (20 - (20 - length pan)) ≡ 20 = omega arith in
    let front : take (20 - length pan) (replicate 20 0 ++ psn / 16 ∷ psn % 16 ∷ []) ≡ replicate (20 - length pan) 0 =
    take-append-le (20 - length pan) (replicate 20 0) (psn / 16 ∷ psn % 16 ∷ []) (omega arith) ∙ take-replicate (20 - length pan) 20 0 (omega arith) in
    let end : drop (20 - (20 - length pan)) (drop (20 - length pan) (replicate 20 0 ++ psn / 16 ∷ psn % 16 ∷ [])) ≡ psn / 16 ∷ psn % 16 ∷ [] =
    drop-drop (20 - (20 - length pan)) (20 - length pan) (replicate 20 0 ++ psn / 16 ∷ psn % 16 ∷ [])
    ∙ ap (λ n. drop n (replicate 20 0 ++ psn / 16 ∷ psn % 16 ∷ [])) whole in
    ap₂ (λ ds cs. put_mid (20 - length ds) (20 - (20 - length ds)) (replicate 20 0 ++ psn / 16 ∷ psn % 16 ∷ []) cs) same_digits (same_copied ∙ same_digits)
    ∙ ap₂ (λ a b. a ++ (pan ++ b)) front end

-- the part of the row that the account number goes into is as long as it
pub length-row_part : (pan digits row : List ℕ) → length pan ≤ 20 → length row ≡ 22 → digits ≡ pan
    → length (take (20 - (20 - length digits)) (drop (20 - length digits) row)) ≡ length digits
length-row_part pan digits row few long same_digits =
    let short : length digits ≤ 20 = rw same_digits few in
    omega (arith, length-take-le (20 - (20 - length digits)) (drop (20 - length digits) row) (omega (arith, length-drop (20 - length digits) row)))

-- zeros before digits, two in a byte
pub packed-zeros : (n zeros : ℕ) (digits : List ℕ) → packed (replicate (2 * n + zeros) 0 ++ digits)
    ≡ replicate n 0 ++ packed (replicate zeros 0 ++ digits)
unfolding packed
packed-zeros zero zeros digits =
    let none : 2 * zero + zeros ≡ zeros = omega arith in
    ap (λ n. packed (replicate n 0 ++ digits)) none
packed-zeros (suc n) zeros digits =
    let twice : 2 * suc n + zeros ≡ suc (suc (2 * n + zeros)) = omega arith in
    rw twice (ap (λ rest. 0 ∷ rest) (packed-zeros n zeros digits))

-- the row of digits after five zero bytes is that of 32 digits
pub packed-32 : (pan : List ℕ) (psn : ℕ) → length pan ≤ 20
    → replicate 5 0 ++ packed (replicate (20 - length pan) 0 ++ card_digits pan psn)
    ≡ packed (replicate (32 - length (card_digits pan psn)) 0 ++ card_digits pan psn)
packed-32 pan psn few =
    let long : length (card_digits pan psn) ≡ length pan + 2 = length-append pan (psn / 16 ∷ psn % 16 ∷ []) in
    let zeros : 2 * 5 + (20 - length pan) ≡ 32 - length (card_digits pan psn) = omega arith in
    sym (packed-zeros 5 (20 - length pan) (card_digits pan psn))
    ∙ ap (λ n. packed (replicate n 0 ++ card_digits pan psn)) zeros
