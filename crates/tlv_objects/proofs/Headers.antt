-- The tag and the length at the start of a text.
use Rattle.std.proofs.Common.{◌≡◌, ℕ, ◌+◌, ◌*◌, ◌-◌, ◌≤◌, ◌<◌, List, [], ◌∷◌, length, take, drop, get_or, Some, option_map, option_and_then, bit_and, bit_or, false, inl, inr, nat_lt, ◌&&◌}
use Rattle.std.proofs.Common.{refl, sym, ap, ◌∙◌, arith}
use Rattle.std.proofs.lemmas.Bool.{lt-ltb, le-ltb, cases_lt, and_left, and_right}
use Rattle.std.proofs.lemmas.List.{take_all}
use Rattle.std.proofs.lemmas.Nat.{le_or_l, le_or_r, or_lt}
use Rattle.tlv_objects.specs.Tlv.{tag_at, length_at, begins_short}

two_bytes_of : (a b c : ℕ) (rest : List ℕ) → bit_and a 31 ≡ 31 → bit_or b c ≤ 127
    → option_and_then {T = ℕ × List ℕ} {U = ℕ × ℕ × List ℕ}
    (λ tag. option_map {T = ℕ × List ℕ} {U = ℕ × ℕ × List ℕ} (λ len. (tag.0, len.0, len.1)) (length_at tag.1)) (tag_at (a ∷ b ∷ c ∷ rest))
    ≡ Some (256 * a + b, c, rest)
unfolding tag_at length_at
two_bytes_of a b c rest long small =
    let last : b < 128 = omega (arith, le_or_l b c) in
    let short : c < 128 = omega (arith, le_or_r b c) in
    rw (long, lt-ltb b 128 last, lt-ltb c 128 short) refl

-- a tag of two bytes before a length of one
pub two_bytes : (bytes : List ℕ) (a b c : ℕ) → a ≡ get_or bytes 0 0 → b ≡ get_or bytes 1 0 → c ≡ get_or bytes 2 0 → 3 ≤ length bytes
    → bit_and a 31 ≡ 31 → bit_or (get_or bytes 1 0) (get_or bytes 2 0) ≤ 127
    → option_and_then {T = ℕ × List ℕ} {U = ℕ × ℕ × List ℕ}
    (λ tag. option_map {T = ℕ × List ℕ} {U = ℕ × ℕ × List ℕ} (λ len. (tag.0, len.0, len.1)) (length_at tag.1)) (tag_at bytes)
    ≡ Some (a * 256 + b, c, take (length bytes - 3) (drop 3 bytes))
two_bytes [] a b c first second third some long small = absurd (omega arith)
two_bytes (x ∷ []) a b c first second third some long small = absurd (omega arith)
two_bytes (x ∷ y ∷ []) a b c first second third some long small = absurd (omega arith)
two_bytes (x ∷ y ∷ z ∷ rest) a b c first second third some long small =
    let tag : 256 * x + y ≡ a * 256 + b = omega (arith, first, second) in
    let all : take (length (x ∷ y ∷ z ∷ rest) - 3) rest ≡ rest = take_all _ rest (omega arith) in
    rw (all, third, ← tag) (two_bytes_of x y z rest (ap (λ n. bit_and n 31) (sym first) ∙ long) small)

-- a tag of two bytes, after which either its second byte or the length is too great
pub not_short : (bytes : List ℕ) → bit_and (get_or bytes 0 0) 31 ≡ 31 → 127 < bit_or (get_or bytes 1 0) (get_or bytes 2 0)
    → begins_short bytes ≡ false
unfolding begins_short
not_short [] long great = absurd (omega arith)
not_short (x ∷ []) long great = refl
not_short (x ∷ y ∷ []) long great = refl
not_short (x ∷ y ∷ z ∷ rest) long great =
    let wide : (nat_lt y 128 && nat_lt z 128) ≡ false =
    elim (cases_lt y 128) [
      | inl second ↦ elim (cases_lt z 128) [
        | inl third ↦ let both = or_lt 7 y z second third in absurd (omega arith)
        | inr third ↦ and_right (nat_lt y 128) (nat_lt z 128) (le-ltb z 128 third)
      ]
      | inr second ↦ and_left (nat_lt y 128) (nat_lt z 128) (le-ltb y 128 second)
    ] in
    rw (long) wide
