-- A stream that is fed piece by piece.
use Rattle.std.proofs.Common.{◌≡◌, ◌≢◌, ◌≤◌, ℕ, ◌+◌, ◌-◌, min, List, [], ◌∷◌, ◌++◌, length, take, drop, Some, None, sym, ap, ◌∙◌, arith, length-append}
use Rattle.std.proofs.lemmas.List.{drop_more, length-take, take-append-drop, take_all, take_min, take_rest}
use Rattle.feed_text.specs.declared.limits.TheConstants.{MOST_FEED_BYTES}
use Rattle.memchr.specs.Find.{IsFirstByte, is_byte}
use Rattle.line_reader.specs.Lines.{IsFirstNewline, IsUnbroken}
use Rattle.line_reader.proofs.Pieces.{IsFirstNewline-from_search, take-append}
use Rattle.standby_node.specs.FeedLines.{IsTooLong}

-- a truncated line is extended by as many bytes as fit
pub kept-more : (most count room : ℕ) (line bytes kept : List ℕ) → kept ≡ take most line → room + length kept ≡ most
    → count ≡ min (length bytes) room → kept ++ take count bytes ≡ take most (line ++ bytes)
kept-more most count room line bytes kept is fits least =
    let size = ap length is in
    let left : room ≡ most - length (take most line) = omega (arith, size) in
    let swapped : count ≡ min room (length bytes) = omega arith in
    ap (λ (n : ℕ). kept ++ take n bytes) swapped
    ∙ ap (λ (l : List ℕ). kept ++ l) (take_min room bytes)
    ∙ ap (λ (l : List ℕ). l ++ take room bytes) is
    ∙ ap (λ (n : ℕ). take most line ++ take n bytes) left
    ∙ sym (take-append most line bytes)

-- a truncated line that is full is too long
pub full-long : (line kept : List ℕ) → kept ≡ take MOST_FEED_BYTES line → length kept ≡ MOST_FEED_BYTES → IsTooLong line
full-long line kept is full =
    let size = ap length is in
    let least = length-take MOST_FEED_BYTES line in
    let whole = length-append line (10 ∷ []) in
    omega (arith, size, least, whole)

-- and one that isn't is whole
pub short-whole : (line kept : List ℕ) → kept ≡ take MOST_FEED_BYTES line → length kept ≢ MOST_FEED_BYTES → kept ≡ line
short-whole line kept is short =
    let size = ap length is in
    let least = length-take MOST_FEED_BYTES line in
    let within : length line ≤ MOST_FEED_BYTES = omega (arith, size, least) in
    is ∙ take_all MOST_FEED_BYTES line within

-- a text up to its first newline
pub newline-found : (text : List ℕ) (end : ℕ) → IsFirstByte (is_byte 10) text (Some end)
    → IsUnbroken (take end text) × (text ≡ take end text ++ 10 ∷ take (length text - (end + 1)) (drop (end + 1) text))
newline-found text end found =
    let first : IsFirstNewline text end = IsFirstNewline-from_search text (Some end) found in (
      first.unbroken,
      sym (take-append-drop end text)
          ∙ ap (λ (l : List ℕ). take end text ++ l) (drop_more text end 0 first.within
          ∙ ap (λ (byte : ℕ). byte ∷ drop (end + 1) text) first.ends
          ∙ ap (λ (l : List ℕ). 10 ∷ l) (sym (take_rest text (end + 1)))),
    )

-- and one without a newline
pub newline-none : (text : List ℕ) → IsFirstByte (is_byte 10) text None → IsUnbroken text
newline-none text none = IsFirstNewline-from_search text None none
