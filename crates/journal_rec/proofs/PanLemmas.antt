-- The bytes of an account number, from its digits and its padding.
use Rattle.std.proofs.Common.{◌≡◌, ℕ, ◌+◌, ◌*◌, ◌<◌, ◌≤◌, List, [], ◌∷◌, ◌++◌, length, get_or, drop, replicate, All, IsTrue, sym, ap, ◌∙◌}
use Rattle.std.proofs.Common.{append_assoc, arith, lit<}
use Rattle.std.proofs.lemmas.List.{append-nil, drop_all, get_or_default}
use Rattle.std.proofs.lemmas.List.Elements.{All-append, All-replicate}
use Rattle.issuer_base.specs.CardNumber.{is_pan}
use Rattle.issuer_base.proofs.CardNumberLemmas.{digit-pan}
use Rattle.journal_rec.specs.RecordText.{packed}
use Rattle.journal_rec.proofs.Spelling.{drop-pair}

-- the digits of an account number and what fills it up are nibbles
pub nibbles-below : (digits : List ℕ) (count : ℕ) → IsTrue (is_pan digits) → All (λ nibble. nibble < 16) (digits ++ replicate count 0x0F)
nibbles-below digits count valid =
    All-append (λ nibble. nibble < 16) digits (replicate count 0x0F)
    (λ k d below. omega (arith, digit-pan digits valid k below, get_or_default digits k d 0 below))
    (All-replicate (λ nibble. nibble < 16) count 0x0F (lit< tt))

-- two nibbles more are packed
pub packed_more : (nibbles bytes : List ℕ) (i high low : ℕ) → 2 * i + 1 < length nibbles → high ≡ get_or nibbles (2 * i) 0 → low ≡ get_or nibbles (2 * i + 1) 0
    → bytes ++ packed (drop (2 * i) nibbles) ≡ packed nibbles
    → (bytes ++ (16 * high + low) ∷ []) ++ packed (drop (2 * (i + 1)) nibbles) ≡ packed nibbles
unfolding packed
packed_more nibbles bytes i high low fits high_is low_is so_far =
    let next : packed (drop (2 * i) nibbles) ≡ (16 * high + low) ∷ packed (drop (2 * (i + 1)) nibbles) =
    rw (high_is, low_is) (ap packed (drop-pair nibbles i fits)) in
    append_assoc bytes ((16 * high + low) ∷ []) (packed (drop (2 * (i + 1)) nibbles)) ∙ ap (λ rest. bytes ++ rest) (sym next) ∙ so_far

-- all nibbles are packed
pub packed_done : (nibbles bytes : List ℕ) (i : ℕ) → length nibbles ≤ 2 * i → bytes ++ packed (drop (2 * i) nibbles) ≡ packed nibbles → bytes ≡ packed nibbles
unfolding packed
packed_done nibbles bytes i whole so_far =
    let none : packed (drop (2 * i) nibbles) ≡ [] = ap packed (drop_all (2 * i) nibbles whole) in
    sym (append-nil bytes) ∙ ap (λ rest. bytes ++ rest) (sym none) ∙ so_far
