-- A run of calls for the next line: which lines of the text were returned, and what each outcome says of the text read
-- so far.
use Rattle.std.proofs.Common.{◌≡◌, ℕ, ◌<◌, ◌⊎◌, inl, inr, ⊎_elim, List, [], ◌∷◌, ◌++◌, length, Option, refl, sym, ap, subst, ◌∙◌, arith, append-nil, append_assoc}
use Rattle.std.specs.List.{flat_map}
use Rattle.std.proofs.lemmas.List.{length-append}
use Rattle.line_reader.specs.Lines.{lines, ended, BeginsWithLines, IsLinesAndRest}
use Rattle.line_reader.specs.Reading.{Reading, unread, HasGivenLines, IsWithinLimits, PassesLimit, TakesInHand}
use Rattle.line_reader.specs.NextLine.{GivesInHand, GivesLine, GivesNone, GivesRest, ReachesEnd, StopsAtFault, StopsAtLimit}
use Rattle.line_reader.proofs.LineLaws.{BeginsWithLines-none, BeginsWithLines-given, BeginsWithLines-line, last_line-some, lines-whole_and_rest, lines-begins}
use Rattle.line_reader.proofs.LineLaws.{lines-some, length-ended_push, length-begins}

-- nothing is read yet
pub HasGivenLines-unread : HasGivenLines unread [] []
HasGivenLines-unread = record {
  begins = BeginsWithLines-none [];
  lines_counted = refl;
  bytes_counted = refl;
  within = record { lines_within = omega arith; bytes_within = omega arith };
}

-- a line more
pub HasGivenLines-line : (was now : Option (List ℕ)) (old new : Reading) (text : List ℕ) (whole : List (List ℕ)) → HasGivenLines old text whole
    → (h : GivesLine was now old new) → HasGivenLines new (text ++ h.given) (whole ++ h.line ∷ [])
HasGivenLines-line was now old new text whole so_far h = record {
  begins = BeginsWithLines-line text whole old.ahead h.given h.line new.ahead so_far.begins h.whole h.unbroken;
  lines_counted = omega (arith, h.counted.one_more, so_far.lines_counted, length-append whole (h.line ∷ []));
  bytes_counted = omega (arith, h.counted.more_bytes, so_far.bytes_counted, length-ended_push whole h.line);
  within = h.counted.within;
}

-- ---- lines that were whole in memory

-- one was taken
pub TakesInHand-line : (old : Reading) (line : List ℕ) (new : Reading) → GivesInHand old line new → TakesInHand old (line ∷ []) new
TakesInHand-line old line new h = λ text whole so_far. record {
  begins = subst (λ (t : List ℕ). BeginsWithLines t (whole ++ line ∷ []) new.ahead) (append-nil text)
      (BeginsWithLines-line text whole old.ahead [] line new.ahead so_far.begins (append-nil old.ahead ∙ h.whole) h.unbroken);
  lines_counted = omega (arith, h.counted.one_more, so_far.lines_counted, length-append whole (line ∷ []));
  bytes_counted = omega (arith, h.counted.more_bytes, so_far.bytes_counted, length-ended_push whole line);
  within = h.counted.within;
}

-- none was taken
pub TakesInHand-none : (old new : Reading) → new.ahead ≡ old.ahead → GivesNone old new → TakesInHand old [] new
TakesInHand-none old new same none = λ text whole so_far.
    subst (HasGivenLines new text) (sym (append-nil whole))
    (record {
      begins = subst (BeginsWithLines text whole) (sym same) so_far.begins;
      lines_counted = none.same_lines ∙ so_far.lines_counted;
      bytes_counted = none.same_bytes ∙ so_far.bytes_counted;
      within = subst (λ (n : ℕ). IsWithinLimits n new.bytes) (sym none.same_lines)
          (subst (λ (n : ℕ). IsWithinLimits old.lines n) (sym none.same_bytes) so_far.within);
    })

-- no call was made
pub TakesInHand-no_call : (reading : Reading) → TakesInHand reading [] reading
TakesInHand-no_call reading = TakesInHand-none reading reading refl (record { same_lines = refl; same_bytes = refl })

-- lines were taken, and then more lines
pub TakesInHand-then : (first second third : Reading) (lines more : List (List ℕ)) → TakesInHand first lines second → TakesInHand second more third
    → TakesInHand first (lines ++ more) third
TakesInHand-then first second third lines more before after = λ text whole so_far.
    subst (HasGivenLines third text) (append_assoc whole lines more) (after text (whole ++ lines) (before text whole so_far))

-- ---- the ends

-- the last line, which no newline ends: the text is read to its end, and these are its lines
pub IsLinesAndRest-rest : (was now : Option (List ℕ)) (old new : Reading) (text : List ℕ) (whole : List (List ℕ)) → HasGivenLines old text whole
    → (h : GivesRest was now old new) → IsLinesAndRest (text ++ h.given) whole h.line
IsLinesAndRest-rest was now old new text whole so_far h = record {
  begins = subst (BeginsWithLines (text ++ h.given) whole) h.whole (BeginsWithLines-given text whole old.ahead h.given so_far.begins);
  unbroken = h.unbroken;
}

pub lines-rest_given : (was now : Option (List ℕ)) (old new : Reading) (text : List ℕ) (whole : List (List ℕ)) → HasGivenLines old text whole
    → (h : GivesRest was now old new) → lines (text ++ h.given) ≡ whole ++ h.line ∷ []
lines-rest_given was now old new text whole so_far h =
    lines-whole_and_rest (text ++ h.given) whole h.line (IsLinesAndRest-rest was now old new text whole so_far h)
    ∙ ap (λ l. whole ++ l) (last_line-some h.line h.not_empty)

-- the end of the text
pub IsLinesAndRest-end : (was now : Option (List ℕ)) (old new : Reading) (text : List ℕ) (whole : List (List ℕ)) → HasGivenLines old text whole
    → (h : ReachesEnd was now old new) → IsLinesAndRest (text ++ h.given) whole []
IsLinesAndRest-end was now old new text whole so_far h = record {
  begins = subst (BeginsWithLines (text ++ h.given) whole) h.nothing (BeginsWithLines-given text whole old.ahead h.given so_far.begins);
  unbroken = tt;
}

pub lines-end_reached : (was now : Option (List ℕ)) (old new : Reading) (text : List ℕ) (whole : List (List ℕ)) → HasGivenLines old text whole
    → (h : ReachesEnd was now old new) → lines (text ++ h.given) ≡ whole
lines-end_reached was now old new text whole so_far h =
    lines-whole_and_rest (text ++ h.given) whole [] (IsLinesAndRest-end was now old new text whole so_far h) ∙ append-nil whole

-- a fault: every line that stands whole in the bytes read was given
pub IsLinesAndRest-fault : (was now : Option (List ℕ)) (old new : Reading) (text : List ℕ) (whole : List (List ℕ)) → HasGivenLines old text whole
    → (h : StopsAtFault was now old new) → IsLinesAndRest (text ++ h.given) whole (old.ahead ++ h.given)
IsLinesAndRest-fault was now old new text whole so_far h = record {
  begins = BeginsWithLines-given text whole old.ahead h.given so_far.begins;
  unbroken = h.unbroken;
}

-- a limit: what comes after the lines that were given goes past it
pub PassesLimit-stopped : (was now : Option (List ℕ)) (old new : Reading) (text : List ℕ) (whole : List (List ℕ)) → HasGivenLines old text whole
    → (h : StopsAtLimit was now old new) → PassesLimit (length whole) (length (flat_map ended whole)) (old.ahead ++ h.given)
PassesLimit-stopped was now old new text whole so_far h =
    subst (λ (n : ℕ). PassesLimit n (length (flat_map ended whole)) (old.ahead ++ h.given)) so_far.lines_counted
    (subst (λ (n : ℕ). PassesLimit old.lines n (old.ahead ++ h.given)) so_far.bytes_counted h.passes)

-- what goes past a limit is no text within the limits
pub PassesLimit-over : (text : List ℕ) (whole : List (List ℕ)) (ahead : List ℕ) → BeginsWithLines text whole ahead
    → PassesLimit (length whole) (length (flat_map ended whole)) ahead → (1048576 < length (lines text)) ⊎ (2147483648 < length text)
PassesLimit-over text whole ahead h over =
    ⊎_elim
    (λ lines_over. inl
    (omega (arith, lines_over.0, ap length (lines-begins text whole ahead h), length-append whole (lines ahead), lines-some ahead lines_over.1)))
    (λ bytes_over. inr (omega (arith, bytes_over.1, length-begins text whole ahead h)))
    over
