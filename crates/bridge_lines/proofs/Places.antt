-- The first byte of a value in a text.
use Rattle.std.proofs.Common.{◌≡◌, ℕ, zero, suc, ◌<◌, Bool, true, false, ◌==◌, List, [], ◌∷◌, length, get_or, Option, Some, None, refl, sym, arith}
use Rattle.memchr.specs.Find.{IsFirstByte, is_byte}
use Rattle.bridge_lines.specs.Parts.{place}

not-true : (b : Bool) → (b ≡ true → ⊥) → b ≡ false
not-true true h = absurd (h refl)
not-true false h = refl

-- no byte is this one
pub place-none : (byte : ℕ) (bytes : List ℕ) → ((at : ℕ) → at < length bytes → (get_or bytes at 0 == byte) ≡ true → ⊥)
    → place byte bytes ≡ None
unfolding place
place-none byte [] none = refl
place-none byte (first ∷ bytes) none =
    let other : (first == byte) ≡ false = not-true (first == byte) (none 0 (omega arith)) in
    let more : place byte bytes ≡ None = place-none byte bytes (λ at below is. none (suc at) (omega (arith, below)) is) in
    rw (other, more) refl

-- this byte is the first one
pub place-some : (byte : ℕ) (bytes : List ℕ) (at : ℕ) → at < length bytes
    → ((before : ℕ) → before < at → (get_or bytes before 0 == byte) ≡ true → ⊥) → (get_or bytes at 0 == byte) ≡ true
    → place byte bytes ≡ Some at
unfolding place
place-some byte [] at below before is = absurd (omega (arith, below))
place-some byte (first ∷ bytes) zero below before is = rw is refl
place-some byte (first ∷ bytes) (suc at) below before is =
    let other : (first == byte) ≡ false = not-true (first == byte) (before 0 (omega arith)) in
    let more : place byte bytes ≡ Some at =
    place-some byte bytes at (omega (arith, below)) (λ k low here. before (suc k) (omega (arith, low)) here) is in
    rw (other, more) refl

-- what a search finds
pub first-place : (byte : ℕ) (bytes : List ℕ) (found : Option ℕ) → IsFirstByte (is_byte byte) bytes found
    → found ≡ place byte bytes
first-place byte bytes None first = sym (place-none byte bytes (λ at below is. first at (omega arith) below is))
first-place byte bytes (Some at) first =
    sym (place-some byte bytes at first.0.high (λ before low is. first.0.before before (omega arith) low is) first.1)
