-- The bytes of an account number, pair by pair.
use Rattle.std.proofs.Common.{◌≡◌, ℕ, suc, ◌+◌, ◌*◌, ◌<◌, List, [], ◌∷◌, length, drop, get_or, sym, ap, ◌∙◌, arith}
use Rattle.std.proofs.Math.Seq.{drop-cons, drop-length}
use Rattle.terminal_kernel.specs.Requested.{number_bytes}

-- the next pair of digits is the next byte
pub number_bytes-pair : (digits : List ℕ) (i : ℕ) → 2 * i + 1 < length digits
    → number_bytes (drop (2 * i) digits) ≡ (16 * get_or digits (2 * i) 0 + get_or digits (2 * i + 1) 0) ∷ number_bytes (drop (2 * (i + 1)) digits)
unfolding number_bytes
number_bytes-pair digits i more =
    let first : drop (2 * i) digits ≡ get_or digits (2 * i) 0 ∷ drop (suc (2 * i)) digits = drop-cons digits (2 * i) 0 (omega arith) in
    let second : drop (suc (2 * i)) digits ≡ get_or digits (suc (2 * i)) 0 ∷ drop (suc (suc (2 * i))) digits = drop-cons digits (suc (2 * i)) 0 (omega arith) in
    let next : suc (2 * i) ≡ 2 * i + 1 = omega arith in
    let behind : suc (suc (2 * i)) ≡ 2 * (i + 1) = omega arith in
    ap number_bytes (first ∙ ap (λ (xs : List ℕ). get_or digits (2 * i) 0 ∷ xs) second)
    ∙ ap (λ (n : ℕ). (16 * get_or digits (2 * i) 0 + get_or digits n 0) ∷ number_bytes (drop (suc (suc (2 * i))) digits)) next
    ∙ ap (λ (n : ℕ). (16 * get_or digits (2 * i) 0 + get_or digits (2 * i + 1) 0) ∷ number_bytes (drop n digits)) behind

-- behind the last pair stands nothing
pub number_bytes-even : (digits : List ℕ) (i : ℕ) → length digits ≡ 2 * i → number_bytes (drop (2 * i) digits) ≡ []
unfolding number_bytes
number_bytes-even digits i whole = ap (λ (n : ℕ). number_bytes (drop n digits)) (sym whole) ∙ ap number_bytes (drop-length digits)

-- or one digit
pub number_bytes-odd : (digits : List ℕ) (i : ℕ) → length digits ≡ 2 * i + 1 → number_bytes (drop (2 * i) digits) ≡ (16 * get_or digits (2 * i) 0 + 15) ∷ []
unfolding number_bytes
number_bytes-odd digits i whole =
    let last : drop (2 * i) digits ≡ get_or digits (2 * i) 0 ∷ drop (suc (2 * i)) digits = drop-cons digits (2 * i) 0 (omega arith) in
    let size : suc (2 * i) ≡ length digits = omega arith in
    ap number_bytes (last ∙ ap (λ (n : ℕ). get_or digits (2 * i) 0 ∷ drop n digits) size)
    ∙ ap (λ (xs : List ℕ). number_bytes (get_or digits (2 * i) 0 ∷ xs)) (drop-length digits)
