-- The number that BCD bytes encode, one byte at a time.
use Rattle.std.proofs.Common.{◌≡◌, ℕ, zero, suc, ◌+◌, ◌*◌, ◌/◌, ◌%◌, ◌^◌, ◌<◌, ◌≤◌, Bool, true, List}
use Rattle.std.proofs.Common.{[], ◌∷◌, ◌++◌, length, get_or, take, refl, ap, add-one, ◌∙◌, sym, subst, lit<, arith}
use Rattle.std.proofs.Math.Nat.{pow-le-pow_right}
use Rattle.std.proofs.lemmas.Bool.{and_parts, leb-true}
use Rattle.std.proofs.lemmas.Grind.{pow_more}
use Rattle.std.proofs.lemmas.List.{flat_map_more, take_more, take_all}
use Rattle.std.proofs.lemmas.List.Sums.{fold-append}
use Rattle.std.specs.List.{flat_map, list_all}
use Rattle.issuer_base.specs.ChipData.{decimal, digits_of, is_bcd}

-- the digits of one more byte come after those of the bytes before it
pub decimal-append : (bytes : List ℕ) (byte : ℕ)
    → decimal (flat_map digits_of (bytes ++ byte ∷ [])) ≡ decimal (flat_map digits_of bytes) * 100 + (byte / 16 * 10 + byte % 16)
decimal-append bytes byte =
    let split : flat_map digits_of (bytes ++ byte ∷ []) ≡ flat_map digits_of bytes ++ digits_of byte = sym (flat_map_more digits_of [] bytes byte) in
    let folded : decimal (flat_map digits_of bytes ++ digits_of byte) ≡ 10 * (10 * decimal (flat_map digits_of bytes) + byte / 16) + byte % 16 =
    fold-append _ 0 (flat_map digits_of bytes) (digits_of byte) in
    ap decimal split ∙ folded ∙ omega arith

-- the number after a byte that a loop has read
pub decimal-more : (bytes : List ℕ) (i value : ℕ) → i < length bytes → value ≡ decimal (flat_map digits_of (take i bytes))
    → value * 100 + (get_or bytes i 0 / 16 * 10 + get_or bytes i 0 % 16) ≡ decimal (flat_map digits_of (take (i + 1) bytes))
decimal-more bytes i value below so_far =
    let front : decimal (flat_map digits_of (take (i + 1) bytes)) ≡ decimal (flat_map digits_of (take i bytes ++ get_or bytes i 0 ∷ [])) =
    ap (λ front. decimal (flat_map digits_of front)) (take_more bytes i 0 below) in
    ap (λ n. n * 100 + (get_or bytes i 0 / 16 * 10 + get_or bytes i 0 % 16)) so_far ∙ sym (front ∙ decimal-append (take i bytes) (get_or bytes i 0))

-- a decimal byte writes a number below 100
pub byte-below : (byte : ℕ) → is_bcd byte ≡ true → byte / 16 * 10 + byte % 16 ≤ 99
unfolding is_bcd
byte-below byte test =
    let both = and_parts _ _ test in
    let high : byte / 16 ≤ 9 = leb-true (byte / 16) 9 both.0 in
    let low : byte % 16 ≤ 9 = leb-true (byte % 16) 9 both.1 in
    omega arith

-- a test that all pass, at one of them
pub list_all-at : (test : ℕ → Bool) (xs : List ℕ) → list_all test xs ≡ true → (i : ℕ) → i < length xs → test (get_or xs i 0) ≡ true
list_all-at test [] all i below = absurd (omega arith)
list_all-at test (x ∷ xs) all zero below = (and_parts _ _ all).0
list_all-at test (x ∷ xs) all (suc i) below = list_all-at test xs (and_parts _ _ all).1 i (omega arith)

-- so does each byte of a decimal text
pub byte-below_at : (bytes : List ℕ) → list_all is_bcd bytes ≡ true → (i : ℕ) → i < length bytes → get_or bytes i 0 / 16 * 10 + get_or bytes i 0 % 16 ≤ 99
byte-below_at bytes test i below = byte-below (get_or bytes i 0) (list_all-at is_bcd bytes test i below)

-- what the first i bytes of a decimal text write has 2 * i digits
pub decimal-below_front : (bytes : List ℕ) → list_all is_bcd bytes ≡ true
    → (i : ℕ) → i ≤ length bytes → decimal (flat_map digits_of (take i bytes)) + 1 ≤ 100 ^ i
decimal-below_front bytes test zero within = omega arith
decimal-below_front bytes test (suc i) within =
    let front : decimal (flat_map digits_of (take i bytes)) + 1 ≤ 100 ^ i = decimal-below_front bytes test i (omega arith) in
    let here : i < length bytes = omega arith in
    let more = decimal-more bytes i (decimal (flat_map digits_of (take i bytes))) here refl in
    let byte = byte-below_at bytes test i here in
    let step : decimal (flat_map digits_of (take (i + 1) bytes)) + 1 ≤ 100 ^ (i + 1) = omega (arith, pow_more 100 i, more, byte) in
    let Below : ℕ → Type 0 = λ n. decimal (flat_map digits_of (take n bytes)) + 1 ≤ 100 ^ n in
    subst Below (add-one i) step

-- what a decimal text writes has two digits a byte
pub decimal-below : (bytes : List ℕ) → list_all is_bcd bytes ≡ true → decimal (flat_map digits_of bytes) < 100 ^ length bytes
decimal-below bytes test =
    let whole : decimal (flat_map digits_of (take (length bytes) bytes)) + 1 ≤ 100 ^ length bytes =
    decimal-below_front bytes test (length bytes) (omega arith) in
    let same : decimal (flat_map digits_of (take (length bytes) bytes)) ≡ decimal (flat_map digits_of bytes) =
    ap (λ front. decimal (flat_map digits_of front)) (take_all (length bytes) bytes (omega arith)) in
    omega arith

-- so six of them stay far below 2 ^ 64
pub decimal-below_six : (bytes : List ℕ) → list_all is_bcd bytes ≡ true
    → length bytes ≡ 6 → (i : ℕ) → i ≤ 6 → decimal (flat_map digits_of (take i bytes)) < 1000000000000
decimal-below_six bytes test six i few =
    let front : decimal (flat_map digits_of (take i bytes)) + 1 ≤ 100 ^ i = decimal-below_front bytes test i (omega arith) in
    let most : 100 ^ i ≤ 100 ^ 6 = pow-le-pow_right {n = 100} (lit< tt) few in
    omega arith
