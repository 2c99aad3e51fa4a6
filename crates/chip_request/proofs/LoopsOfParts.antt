-- Reading digits and bytes one by one.
use Rattle.std.proofs.Common.{◌≡◌, ℕ, suc, false, ◌==◌, List, [], ◌∷◌, ◌++◌, length, Ok, Err, refl, ap, append_assoc, arith}
use Rattle.std.proofs.lemmas.List.{append-nil}
use Rattle.chip_request.specs.LineParts.{Part, ◌>>=◌, digits_at, data_at, digit_at, pair_at}

-- what was found, behind digits that were found before
abbrev pub behind_digits : List ℕ → List ℕ × List ℕ → List ℕ × List ℕ
behind_digits digits found = (digits ++ found.0, found.1)

-- one more digit
pub behind_digits-one : (room next : ℕ) (digits text : List ℕ) (digit : ℕ) (rest : List ℕ) → room ≡ suc next
    → digit_at text ≡ Ok (digit, rest) → behind_digits (digits ++ digit ∷ []) (digits_at next rest) ≡ behind_digits digits (digits_at room text)
unfolding digits_at
behind_digits-one room next digits text digit rest more here =
    rw (more, here) (ap (λ (all : List ℕ). (all, (digits_at next rest).1)) (append_assoc digits (digit ∷ []) (digits_at next rest).0))

-- no room for more
pub digits_at-full : (room : ℕ) (digits text : List ℕ) → room ≡ 0 → behind_digits digits (digits_at room text) ≡ (digits, text)
unfolding digits_at
digits_at-full room digits text full = rw (full, append-nil) refl

-- no more digits
pub digits_at-stopped : (room next : ℕ) (digits text rest : List ℕ) → room ≡ suc next → digit_at text ≡ Err rest
    → (digits, rest) ≡ behind_digits digits (digits_at room text)
unfolding digits_at
digits_at-stopped room next digits text rest more stopped = rw (more, stopped, append-nil) refl

-- the bytes of a rest, behind bytes that were found before
abbrev pub behind_bytes : List ℕ → Part (List ℕ) → Part (List ℕ)
behind_bytes bytes part = part >>= λ others. Ok (bytes ++ others)

behind_bytes-front : (bytes : List ℕ) (byte : ℕ) (part : Part (List ℕ))
    → behind_bytes (bytes ++ byte ∷ []) part ≡ behind_bytes bytes (part >>= λ others. Ok (byte ∷ others))
behind_bytes-front bytes byte (Ok others) = ap Ok (append_assoc bytes (byte ∷ []) others)
behind_bytes-front bytes byte (Err rest) = refl

-- one more byte, and the text goes on
pub behind_bytes-one : (room next : ℕ) (bytes text : List ℕ) (byte : ℕ) (rest : List ℕ) → room ≡ suc next → pair_at text ≡ Ok (byte, rest)
    → (length rest == 0) ≡ false → behind_bytes (bytes ++ byte ∷ []) (data_at next rest) ≡ behind_bytes bytes (data_at room text)
unfolding data_at
behind_bytes-one room next bytes text byte [] more here on = absurd cc
behind_bytes-one room next bytes text byte (digit ∷ rest) more here on = rw (more, here) (behind_bytes-front bytes byte (data_at next (digit ∷ rest)))

-- one more byte at the end of the text
pub data_at-last : (room next : ℕ) (bytes text : List ℕ) (byte : ℕ) (rest : List ℕ) → room ≡ suc next → pair_at text ≡ Ok (byte, rest)
    → length rest ≡ 0 → Ok (bytes ++ byte ∷ []) ≡ behind_bytes bytes (data_at room text)
unfolding data_at
data_at-last room next bytes text byte [] more here end = rw (more, here) refl
data_at-last room next bytes text byte (digit ∷ rest) more here end = absurd (omega arith)

-- no room for more
pub data_at-full : (room : ℕ) (bytes text : List ℕ) → room ≡ 0 → Err text ≡ behind_bytes bytes (data_at room text)
unfolding data_at
data_at-full room bytes text full = rw full refl

-- no more pairs
pub data_at-stopped : (room next : ℕ) (bytes text rest : List ℕ) → room ≡ suc next → pair_at text ≡ Err rest
    → Err rest ≡ behind_bytes bytes (data_at room text)
unfolding data_at
data_at-stopped room next bytes text rest more stopped = rw (more, stopped) refl
