-- Decoding bytes one pair of digits after another.
use Rattle.std.proofs.Common.{◌≡◌, ℕ, ◌+◌, ◌*◌, ◌<◌, ◌≤◌, List, [], ◌∷◌, ◌++◌, length, get_or, set, take, drop, Option, Some, None}
use Rattle.std.proofs.Common.{option_map, option_and_then, refl, sym, ap, ◌∙◌, append_assoc, suc, ◌/◌, ◌%◌, leb, le-leb, Bool, true, false, cond, ◌&&◌}
use Rattle.std.proofs.Common.{if◌then◌else◌, arith}
use Rattle.std.proofs.lemmas.List.{append-nil, drop_more, drop_all, take_all, take_more_set}
use Rattle.std.proofs.Math.Seq.{take-append_seam}
use borrow.Author.Tests.{lt-leb}
use Rattle.journal_rec.specs.Reading.{byte_of, spelled, spelled_within}

-- bytes before those that are spelled after them
abbrev pub behind : List ℕ → Option (List ℕ) → Option (List ℕ)
behind front bytes = option_map (λ more. front ++ more) bytes

-- what is left of a text at a whole pair
pub drop-pair : (digits : List ℕ) (i : ℕ) → 2 * i + 1 < length digits
    → drop (2 * i) digits ≡ get_or digits (2 * i) 0 ∷ get_or digits (2 * i + 1) 0 ∷ drop (2 * (i + 1)) digits
drop-pair digits i fits =
    let two : 2 * i + 1 + 1 ≡ 2 * (i + 1) = omega arith in
    rw (drop_more digits (2 * i) 0 (omega arith), drop_more digits (2 * i + 1) 0 fits, two) refl

behind-more : (front : List ℕ) (byte : ℕ) (bytes : Option (List ℕ)) → behind (front ++ byte ∷ []) bytes ≡ behind front (option_map (λ more. byte ∷ more) bytes)
behind-more front byte None = refl
behind-more front byte (Some bytes) = ap Some (append_assoc front (byte ∷ []) bytes)

-- one byte more is spelled
pub spelled_more : (digits out : List ℕ) (i byte : ℕ) → 2 * i + 1 < length digits → i < length out
    → byte_of (get_or digits (2 * i) 0) (get_or digits (2 * i + 1) 0) ≡ Some byte
    → behind (take i out) (spelled (drop (2 * i) digits)) ≡ spelled digits
    → behind (take (i + 1) (set out i byte)) (spelled (drop (2 * (i + 1)) digits)) ≡ spelled digits
unfolding spelled
spelled_more digits out i byte fits room read so_far =
    let next : spelled (drop (2 * i) digits) ≡ option_map (λ more. byte ∷ more) (spelled (drop (2 * (i + 1)) digits)) =
    ap spelled (drop-pair digits i fits) ∙ ap (option_and_then (λ first. option_map (λ more. first ∷ more) (spelled (drop (2 * (i + 1)) digits)))) read in
    ap (λ front. behind front (spelled (drop (2 * (i + 1)) digits))) (take_more_set out i byte room)
    ∙ behind-more (take i out) byte (spelled (drop (2 * (i + 1)) digits))
    ∙ ap (behind (take i out)) (sym next) ∙ so_far

-- two digits that spell no byte
pub spelled_none : (digits out : List ℕ) (i : ℕ) → 2 * i + 1 < length digits
    → byte_of (get_or digits (2 * i) 0) (get_or digits (2 * i + 1) 0) ≡ None
    → behind (take i out) (spelled (drop (2 * i) digits)) ≡ spelled digits → None ≡ spelled digits
unfolding spelled
spelled_none digits out i fits none so_far =
    let next : spelled (drop (2 * i) digits) ≡ None =
    ap spelled (drop-pair digits i fits) ∙ ap (option_and_then (λ first. option_map (λ more. first ∷ more) (spelled (drop (2 * (i + 1)) digits)))) none in
    ap (behind (take i out)) (sym next) ∙ so_far

-- all bytes are spelled
pub spelled_done : (digits out : List ℕ) (i : ℕ) → length digits ≤ 2 * i → length out ≤ i
    → behind (take i out) (spelled (drop (2 * i) digits)) ≡ spelled digits → Some out ≡ spelled digits
unfolding spelled
spelled_done digits out i whole full so_far =
    let none : drop (2 * i) digits ≡ [] = drop_all (2 * i) digits whole in
    let last : behind (take i out) (spelled (drop (2 * i) digits)) ≡ Some out =
    ap (λ rest. behind (take i out) (spelled rest)) none ∙ ap Some (append-nil (take i out) ∙ take_all i out full) in
    sym last ∙ so_far

-- one pair more, which may not be digits
pub spelled_step : (digits out : List ℕ) (i byte : ℕ) (so_far is_byte : Bool) → 2 * i + 1 < length digits → i < length out
    → cond is_byte (Some byte) None ≡ byte_of (get_or digits (2 * i) 0) (get_or digits (2 * i + 1) 0)
    → cond so_far (behind (take i out) (spelled (drop (2 * i) digits))) None ≡ spelled digits
    → cond (so_far && is_byte) (behind (take (i + 1) (set out i byte)) (spelled (drop (2 * (i + 1)) digits))) None ≡ spelled digits
spelled_step digits out i byte true true fits room read before = spelled_more digits out i byte fits room (sym read) before
spelled_step digits out i byte true false fits room read before = spelled_none digits out i fits (sym read) before
spelled_step digits out i byte false is_byte fits room read before = before

-- all pairs are decoded
pub spelled_end : (digits out : List ℕ) (i : ℕ) (are_digits : Bool) → length digits ≤ 2 * i → length out ≤ i
    → cond are_digits (behind (take i out) (spelled (drop (2 * i) digits))) None ≡ spelled digits
    → cond are_digits (Some out) None ≡ spelled digits
spelled_end digits out i true whole full so_far = spelled_done digits out i whole full so_far
spelled_end digits out i false whole full so_far = so_far

length_either : (byte : Option ℕ) (others : Option (List ℕ)) (bytes : List ℕ)
    → option_and_then (λ first. option_map (λ more. first ∷ more) others) byte ≡ Some bytes
    → (rest : List ℕ) × (others ≡ Some rest) × (length bytes ≡ suc (length rest))
length_either None others bytes found = absurd cc
length_either (Some first) None bytes found = absurd cc
length_either (Some first) (Some more) bytes found = let same : first ∷ more ≡ bytes = cc in (more, refl, sym (ap length same))

-- two digits spell a byte
pub length-spelled : (digits bytes : List ℕ) → spelled digits ≡ Some bytes → length digits ≡ 2 * length bytes
unfolding spelled
length-spelled [] bytes found = let none : [] ≡ bytes = cc in omega (arith, ap length none)
length-spelled (digit ∷ []) bytes found = absurd cc
length-spelled (high ∷ low ∷ digits) bytes found =
    let more = length_either (byte_of high low) (spelled digits) bytes found in
    omega (arith, length-spelled digits more.0 more.1, more.2)

abbrev within : ℕ → List ℕ → Option (List ℕ)
within most bytes = if leb (length bytes) most then Some bytes else None

-- an odd digit is left over
pub spelled_within-odd : (most : ℕ) (left : List ℕ) → length left % 2 ≡ 1 → None ≡ spelled_within most left
spelled_within-odd most left odd = odd_either (spelled left) refl
  where
    odd_either : (found : Option (List ℕ)) → spelled left ≡ found → None ≡ option_and_then (within most) found
    odd_either None read = refl
    odd_either (Some bytes) read = absurd (omega (arith, length-spelled left bytes read))

-- there are more bytes than there may be
pub spelled_within-long : (most : ℕ) (left : List ℕ) → most < length left / 2 → None ≡ spelled_within most left
spelled_within-long most left long = long_either (spelled left) refl
  where
    long_either : (found : Option (List ℕ)) → spelled left ≡ found → None ≡ option_and_then (within most) found
    long_either None read = refl
    long_either (Some bytes) read =
        let over : leb (length bytes) most ≡ false = lt-leb _ _ (omega (arith, length-spelled left bytes read)) in rw over refl

-- what is left is no bytes
pub spelled_within-none : (most : ℕ) (left : List ℕ) → None ≡ spelled left → None ≡ spelled_within most left
spelled_within-none most left none = ap (option_and_then (within most)) none

-- what is left is these bytes, written over as many
pub spelled_within-some : (most : ℕ) (left bytes room : List ℕ) → Some bytes ≡ spelled left → length room ≡ length left / 2 → length left / 2 ≤ most
    → Some (take (length room) (bytes ++ drop (length bytes) room)) ≡ spelled_within most left
spelled_within-some most left bytes room read sized few =
    let whole = length-spelled left bytes (sym read) in
    let same : length bytes ≡ length room = omega arith in
    let within_most : leb (length bytes) most ≡ true = le-leb _ _ (omega arith) in
    rw (← read, within_most, ← same, take-append_seam bytes (drop (length bytes) room)) refl
