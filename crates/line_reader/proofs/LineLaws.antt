-- Laws of the lines of a text: they are its whole lines and a last line, and a longer text extends them.
use Rattle.std.proofs.Common.{◌≡◌, ◌≢◌, ℕ, ◌+◌, ◌<◌, ◌≤◌, List, [], ◌∷◌, ◌++◌, length, true, false, cond, eqb, refl, sym, ap, subst, ◌∙◌, arith, append_assoc}
use Rattle.std.proofs.Common.{append-nil}
use Rattle.std.specs.List.{AllByRecursion, flat_map}
use Rattle.std.proofs.lemmas.Bool.{ne_eqb}
use Rattle.std.proofs.lemmas.List.{length-append}
use Rattle.std.proofs.lemmas.List.Concat.{flat_map-append}
use Rattle.line_reader.specs.Lines.{onto_first, lines, last_line, IsUnbroken, ended, BeginsWithLines, IsLinesAndRest}

-- ---- the lines of a text

pub lines-whole : (line more : List ℕ) → IsUnbroken line → lines (line ++ 10 ∷ more) ≡ line ∷ lines more
unfolding lines
lines-whole [] more p = refl
lines-whole (byte ∷ line) more p =
    ap (λ b. cond b ([] ∷ lines (line ++ 10 ∷ more)) (onto_first byte (lines (line ++ 10 ∷ more)))) (ne_eqb byte 10 p.0)
    ∙ ap (onto_first byte) (lines-whole line more p.1)

pub lines-rest : (rest : List ℕ) → IsUnbroken rest → lines rest ≡ last_line rest
unfolding lines
lines-rest [] p = refl
lines-rest (byte ∷ rest) p =
    ap (λ b. cond b ([] ∷ lines rest) (onto_first byte (lines rest))) (ne_eqb byte 10 p.0)
    ∙ ap (onto_first byte) (lines-rest rest p.1)
    ∙ onto_last byte rest
  where
    onto_last : (byte : ℕ) (rest : List ℕ) → onto_first byte (last_line rest) ≡ (byte ∷ rest) ∷ []
    onto_last byte [] = refl
    onto_last byte (next ∷ rest) = refl

whole_lines : (whole : List (List ℕ)) (ahead : List ℕ) → AllByRecursion IsUnbroken whole → lines (flat_map ended whole ++ ahead) ≡ whole ++ lines ahead
whole_lines [] ahead p = refl
whole_lines (line ∷ whole) ahead p =
    let regroup : (ended line ++ flat_map ended whole) ++ ahead ≡ line ++ 10 ∷ (flat_map ended whole ++ ahead) =
    append_assoc (ended line) (flat_map ended whole) ahead ∙ append_assoc line (10 ∷ []) (flat_map ended whole ++ ahead) in
    ap lines regroup ∙ lines-whole line (flat_map ended whole ++ ahead) p.0 ∙ ap (λ l. line ∷ l) (whole_lines whole ahead p.1)

-- the lines of a text are its whole lines and those of what is ahead
pub lines-begins : (text : List ℕ) (whole : List (List ℕ)) (ahead : List ℕ) → BeginsWithLines text whole ahead → lines text ≡ whole ++ lines ahead
lines-begins text whole ahead h = ap lines h.joined ∙ whole_lines whole ahead h.each

-- the lines of a text are its whole lines and its last line
pub lines-whole_and_rest : (text : List ℕ) (whole : List (List ℕ)) (rest : List ℕ) → IsLinesAndRest text whole rest → lines text ≡ whole ++ last_line rest
lines-whole_and_rest text whole rest h = lines-begins text whole rest h.begins ∙ ap (λ l. whole ++ l) (lines-rest rest h.unbroken)

pub last_line-some : (rest : List ℕ) → rest ≢ [] → last_line rest ≡ rest ∷ []
last_line-some [] some = absurd (some refl)
last_line-some (byte ∷ rest) some = refl

-- ---- a text that goes on

pub BeginsWithLines-none : (text : List ℕ) → BeginsWithLines text [] text
BeginsWithLines-none text = record { joined = refl; each = tt }

pub BeginsWithLines-given : (text : List ℕ) (whole : List (List ℕ)) (ahead given : List ℕ) → BeginsWithLines text whole ahead
    → BeginsWithLines (text ++ given) whole (ahead ++ given)
BeginsWithLines-given text whole ahead given h = record {
  joined = ap (λ l. l ++ given) h.joined ∙ append_assoc (flat_map ended whole) ahead given;
  each = h.each;
}

each_push : (whole : List (List ℕ)) (line : List ℕ) → AllByRecursion IsUnbroken whole → IsUnbroken line → AllByRecursion IsUnbroken (whole ++ line ∷ [])
each_push [] line p q = (q, tt)
each_push (first ∷ whole) line p q = (p.0, each_push whole line p.1 q)

pub flat_map-ended_push : (whole : List (List ℕ)) (line : List ℕ) → flat_map ended (whole ++ line ∷ []) ≡ flat_map ended whole ++ ended line
flat_map-ended_push whole line =
    flat_map-append ended whole (line ∷ []) ∙ ap (λ l. flat_map ended whole ++ l) (append-nil (ended line))

-- one more line is whole
pub BeginsWithLines-line : (text : List ℕ) (whole : List (List ℕ)) (ahead given line next : List ℕ) → BeginsWithLines text whole ahead
    → ahead ++ given ≡ line ++ 10 ∷ next → IsUnbroken line → BeginsWithLines (text ++ given) (whole ++ line ∷ []) next
BeginsWithLines-line text whole ahead given line next h split unbroken = record {
  joined =
      (BeginsWithLines-given text whole ahead given h).joined
      ∙ ap (λ l. flat_map ended whole ++ l) (split ∙ sym (append_assoc line (10 ∷ []) next))
      ∙ sym (append_assoc (flat_map ended whole) (ended line) next)
      ∙ ap (λ l. l ++ next) (sym (flat_map-ended_push whole line));
  each = each_push whole line h.each unbroken;
}

pub length-ended_push : (whole : List (List ℕ)) (line : List ℕ)
    → length (flat_map ended (whole ++ line ∷ [])) ≡ length (flat_map ended whole) + (length line + 1)
length-ended_push whole line =
    ap length (flat_map-ended_push whole line)
    ∙ length-append (flat_map ended whole) (ended line)
    ∙ ap (λ n. length (flat_map ended whole) + n) (length-append line (10 ∷ []))

-- a text has as many bytes as its whole lines and what is ahead
pub length-begins : (text : List ℕ) (whole : List (List ℕ)) (ahead : List ℕ) → BeginsWithLines text whole ahead
    → length text ≡ length (flat_map ended whole) + length ahead
length-begins text whole ahead h = ap length h.joined ∙ length-append (flat_map ended whole) ahead

-- ---- one text has one such reading

not_unbroken : (line more : List ℕ) → IsUnbroken (line ++ 10 ∷ more) → ⊥
not_unbroken [] more p = p.0 refl
not_unbroken (byte ∷ line) more p = not_unbroken line more p.1

same_first : (line other more rest : List ℕ) → IsUnbroken line → IsUnbroken other → line ++ 10 ∷ more ≡ other ++ 10 ∷ rest → (line ≡ other) × (more ≡ rest)
same_first [] [] more rest p q e = (refl, cc)
same_first [] (b ∷ other) more rest p q e = absurd (q.0 (let h : b ≡ 10 = cc in h))
same_first (a ∷ line) [] more rest p q e = absurd (p.0 (let h : a ≡ 10 = cc in h))
same_first (a ∷ line) (b ∷ other) more rest p q e =
    let heads : a ≡ b = cc in
    let tails : line ++ 10 ∷ more ≡ other ++ 10 ∷ rest = cc in
    let same = same_first line other more rest p.1 q.1 tails in
    let first = same.0 in
    (cc, same.1)

regrouped : (line : List ℕ) (whole : List (List ℕ)) (rest : List ℕ) → flat_map ended (line ∷ whole) ++ rest ≡ line ++ 10 ∷ (flat_map ended whole ++ rest)
regrouped line whole rest = append_assoc (ended line) (flat_map ended whole) rest ∙ append_assoc line (10 ∷ []) (flat_map ended whole ++ rest)

same_parts : (whole others : List (List ℕ)) (rest last : List ℕ) → AllByRecursion IsUnbroken whole → AllByRecursion IsUnbroken others → IsUnbroken rest
    → IsUnbroken last
    → flat_map ended whole ++ rest ≡ flat_map ended others ++ last → (whole ≡ others) × (rest ≡ last)
same_parts [] [] rest last p q r s e = (refl, e)
same_parts [] (other ∷ others) rest last p q r s e =
    absurd (not_unbroken other (flat_map ended others ++ last) (subst IsUnbroken (e ∙ regrouped other others last) r))
same_parts (line ∷ whole) [] rest last p q r s e =
    absurd (not_unbroken line (flat_map ended whole ++ rest) (subst IsUnbroken (sym e ∙ regrouped line whole rest) s))
same_parts (line ∷ whole) (other ∷ others) rest last p q r s e =
    let first = same_first line other (flat_map ended whole ++ rest) (flat_map ended others ++ last) p.0 q.0 (sym (regrouped line whole rest) ∙ e
    ∙ regrouped other others last) in
    let later = same_parts whole others rest last p.1 q.1 r s first.1 in
    let same_line = first.0 in
    let same_whole = later.0 in
    (cc, later.1)

-- the whole lines and the rest of a text are determined
pub IsLinesAndRest-same : (text : List ℕ) (whole others : List (List ℕ)) (rest last : List ℕ) → IsLinesAndRest text whole rest
    → IsLinesAndRest text others last → (whole ≡ others) × (rest ≡ last)
IsLinesAndRest-same text whole others rest last p q =
    same_parts whole others rest last p.begins.each q.begins.each p.unbroken q.unbroken (sym p.begins.joined ∙ q.begins.joined)

-- ---- how many lines

onto_first-some : (byte : ℕ) (rest : List (List ℕ)) → 0 < length (onto_first byte rest)
onto_first-some byte [] = omega arith
onto_first-some byte (line ∷ rest) = omega arith

-- a text that isn't empty has a line
pub lines-some : (text : List ℕ) → text ≢ [] → 0 < length (lines text)
unfolding lines
lines-some [] some = absurd (some refl)
lines-some (byte ∷ text) some =
    elim (eqb byte 10) as
    (λ b. 0 < length (cond b ([] ∷ lines text) (onto_first byte (lines text)))) [ true ↦ omega arith | false ↦ onto_first-some byte (lines text) ]

onto_first-more : (byte : ℕ) (few many : List (List ℕ)) → length few ≤ length many → length (onto_first byte few) ≤ length (onto_first byte many)
onto_first-more byte [] [] h = omega arith
onto_first-more byte [] (line ∷ many) h = omega arith
onto_first-more byte (line ∷ few) [] h = absurd (omega arith)
onto_first-more byte (line ∷ few) (other ∷ many) h = h

-- a text that goes on has no fewer lines
pub length-lines_more : (text more : List ℕ) → length (lines text) ≤ length (lines (text ++ more))
unfolding lines
length-lines_more [] more = omega arith
length-lines_more (byte ∷ text) more =
    let rest : length (lines text) ≤ length (lines (text ++ more)) = length-lines_more text more in
    elim (eqb byte 10) as
    (λ b. length (cond b ([] ∷ lines text) (onto_first byte (lines text))) ≤ length
    (cond b ([] ∷ lines (text ++ more)) (onto_first byte (lines (text ++ more)))))
    [ true ↦ omega arith | false ↦ onto_first-more byte (lines text) (lines (text ++ more)) rest ]
