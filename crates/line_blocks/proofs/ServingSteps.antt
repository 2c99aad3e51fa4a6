-- Serving, one line more and to each of its ends.
use Rattle.std.proofs.Common.{◌≡◌, ℕ, ◌+◌, ◌≤◌, List, [], ◌∷◌, ◌++◌, length, map, Option, None, Some, Result, Ok, Err}
use Rattle.std.proofs.Common.{refl, sym, ap, subst, ◌∙◌, arith, append-nil, append_assoc, ⊎_elim}
use Rattle.std.proofs.lemmas.List.{length-append, length-take, map-append}
use Rattle.std.specs.List.{flat_map}
use Rattle.std.specs.Io.KnownBytes.{Appends, Consumes, IsAtEnd}
use Rattle.std.proofs.KnownBytes.{Appends-nil, Appends-trans, Consumes-nil, Consumes-trans}
use Rattle.issuer_base.specs.declared.faults.WriteFault.{WriteFault}
use Rattle.issuer_base.specs.declared.limits.TheConstants.{KEPT_BYTES}
use Rattle.issuer_base.specs.Sink.{AppendsFront}
use Rattle.issuer_base.specs.Tells.{Tells}
use Rattle.issuer_base.proofs.ManyCalls.{AppendsFront-after, Tells-whole}
use Rattle.line_reader.specs.Lines.{lines, ended, BeginsWithLines}
use Rattle.line_reader.specs.Reading.{Reading, HasGivenLines, IsWithinLimits, StaysWithinLimits, TakesInHand, unread}
use Rattle.line_reader.specs.Reading.{kept}
use Rattle.line_reader.specs.NextLine.{HasGiven, GivesLine, GivesRest, ReachesEnd, StopsAtFault, StopsAtLimit}
use Rattle.line_reader.proofs.LineLaws.{lines-begins, length-begins, BeginsWithLines-given}
use Rattle.line_reader.proofs.WholeLines.{HasGivenLines-unread, HasGivenLines-line, IsLinesAndRest-rest}
use Rattle.line_reader.proofs.WholeLines.{IsLinesAndRest-end, IsLinesAndRest-fault, TakesInHand-no_call}
use Rattle.line_reader.proofs.WholeLines.{lines-rest_given, lines-end_reached, PassesLimit-stopped}
use Rattle.line_blocks.proofs.InputFronts.{front-read}
use Rattle.line_blocks.specs.declared.served.Served.{Served}
use Rattle.line_blocks.specs.declared.served.Served.TheVariants.{All, ReadFault, TooLong}
use Rattle.line_blocks.specs.Answered.{WasRead, AreWholeLines, AreLinesBefore, AreFirstLines}
use Rattle.line_blocks.specs.Serving.{TakesLine, ServesLines, Serves, WritesAnswers, TakesAndWrites, WritesDue, Finishes}

-- ---- what an input had

-- an input at its end has nothing left
none-left : (now : Option (List ℕ)) → IsAtEnd now → Tells now []
none-left None end = tt
none-left (Some rest) end = end

WasRead-whole : (now : Option (List ℕ)) (file : List ℕ) → IsAtEnd now → WasRead file file now
WasRead-whole now file end = record { unread = []; split = sym (append-nil file); tells = none-left now end }

-- no text has no lines
lines-none : lines [] ≡ []
unfolding lines
lines-none = refl

-- ---- the lines that were taken

-- all these lines are answered, with this text
abbrev pub AnswersAll : (List (List ℕ) → List ℕ → List (List ℕ) → Type 0) → List (List ℕ) → List ℕ → Type 0
AnswersAll HasServed asked text = HasServed (map kept asked) text []

-- these lines were taken; the answers to the first of them were written, those to more are due, and the others wait
pub record AreTaken (HasServed : List (List ℕ) → List ℕ → List (List ℕ) → Type 0)
    (held_before held_after : Option (List ℕ)) (due : List ℕ)
    (asked : List (List ℕ)) : Type 0 where
  pub answered : List (List ℕ)
  pub waiting : List (List ℕ)
  pub early : List ℕ
  pub all : answered ++ waiting ≡ map kept asked
  pub served : HasServed answered (early ++ due) waiting
  pub written : Appends held_before held_after early

-- all of them were answered, and their answers written
pub record AreFinished (HasServed : List (List ℕ) → List ℕ → List (List ℕ) → Type 0) (Written : List ℕ → Type 0)
    (asked : List (List ℕ)) : Type 0 where
  pub text : List ℕ
  pub answered : AnswersAll HasServed asked text
  pub written : Written text

module _ (Before After : List (List ℕ) → List ℕ → List (List ℕ) → Type 0) (held_before held : Option (List ℕ)) where
  -- one line more
  pub taken-more : (was_due is_due : List ℕ) (asked : List (List ℕ)) (line in_hand : List ℕ) → in_hand ≡ kept line
      → AreTaken Before held_before held was_due asked
      → ((answered : List (List ℕ)) (text : List ℕ) (waiting : List (List ℕ)) → Before answered text waiting
      → TakesLine After answered text waiting in_hand was_due is_due)
      → AreTaken After held_before held is_due (asked ++ line ∷ [])
  taken-more was_due is_due asked line in_hand same taken takes =
      let next = takes taken.answered (taken.early ++ was_due) taken.waiting taken.served in
      record {
        answered = next.answered;
        waiting = next.left;
        early = taken.early;
        all =
            next.all ∙ ap (λ (ls : List (List ℕ)). ls ++ in_hand ∷ []) taken.all
            ∙ ap (λ (l : List ℕ). map kept asked ++ l ∷ []) same
            ∙ sym (map-append kept asked (line ∷ []));
        served = subst (λ (t : List ℕ). After next.answered t next.left)
            (append_assoc taken.early was_due next.more ∙ ap (λ (t : List ℕ). taken.early ++ t) (sym next.due))
            next.served;
        written = taken.written;
      }

  module _ (next : Option (List ℕ)) (due : List ℕ) (asked : List (List ℕ))
      (taken : AreTaken Before held_before held due asked)
      (more : List ℕ) (served : After (taken.answered ++ taken.waiting) ((taken.early ++ due) ++ more) []) where
    -- the whole text, and what of it was not yet written
    text-parts : (taken.early ++ due) ++ more ≡ taken.early ++ (due ++ more)
    text-parts = append_assoc taken.early due more

    answers-all : AnswersAll After asked (taken.early ++ (due ++ more))
    answers-all =
        subst (λ (ls : List (List ℕ)). After ls (taken.early ++ (due ++ more)) []) taken.all
        (subst (λ (t : List ℕ). After (taken.answered ++ taken.waiting) t []) text-parts served)

    -- all answers were written
    pub finished-whole : Appends held next (due ++ more) → AreFinished After (Appends held_before next) asked
    finished-whole written = record {
      text = taken.early ++ (due ++ more);
      answered = answers-all;
      written = Appends-trans held_before held next taken.early (due ++ more) taken.written written;
    }

    -- a front of them was
    pub finished-front : AppendsFront held next (due ++ more) → AreFinished After (AppendsFront held_before next) asked
    finished-front front = record {
      text = taken.early ++ (due ++ more);
      answered = answers-all;
      written = AppendsFront-after held_before held next taken.early (due ++ more) taken.written front;
    }

    -- nothing is due any more
    pub taken-written : (left : List ℕ) → left ≡ [] → Appends held next (due ++ more)
        → AreTaken After held_before next left asked
    taken-written left none written = record {
      answered = map kept asked;
      waiting = [];
      early = taken.early ++ (due ++ more);
      all = append-nil (map kept asked);
      served = subst (λ (t : List ℕ). After (map kept asked) t [])
          (sym (ap (λ (l : List ℕ). (taken.early ++ (due ++ more)) ++ l) none
          ∙ append-nil (taken.early ++ (due ++ more)))) answers-all;
      written = Appends-trans held_before held next taken.early (due ++ more) taken.written written;
    }

  -- nothing was written
  pub taken-same : (next : Option (List ℕ)) (due left : List ℕ) (asked : List (List ℕ)) → left ≡ due → next ≡ held
      → (taken : AreTaken Before held_before held due asked)
      → After taken.answered (taken.early ++ due) taken.waiting → AreTaken After held_before next left asked
  taken-same next due left asked same_due same_held taken served = record {
    answered = taken.answered;
    waiting = taken.waiting;
    early = taken.early;
    all = taken.all;
    served = subst (λ (l : List ℕ). After taken.answered (taken.early ++ l) taken.waiting) (sym same_due) served;
    written = subst (λ (h : Option (List ℕ)). Appends held_before h taken.early) (sym same_held) taken.written;
  }

-- ---- which lines were answered

-- the whole lines of what was read are the first lines of the file
first-lines : (read rest : List ℕ) (whole : List (List ℕ)) (ahead : List ℕ) → BeginsWithLines read whole ahead
    → IsWithinLimits (length whole) (length (flat_map ended whole)) → AreFirstLines (read ++ rest) read whole
first-lines read rest whole ahead given within =
    let front = flat_map ended whole in
    let more = ahead ++ rest in
    let begins : BeginsWithLines front whole [] = record { joined = sym (append-nil front); each = given.each } in
    let front_lines : lines front ≡ whole = lines-begins front whole [] begins ∙ ap (λ l. whole ++ l) lines-none
    ∙ append-nil whole in
    let goes_on = BeginsWithLines-given read whole ahead rest given in
    record {
      prefix = front;
      ahead = ahead;
      more = more;
      was_read = given.joined;
      split = goes_on.joined;
      ends_line = lines-begins (read ++ rest) whole more goes_on ∙ ap (λ l. l ++ lines more) (sym front_lines);
      within = subst (λ (ls : List (List ℕ)). IsWithinLimits (length ls) (length front)) (sym front_lines) within;
      asked_are = sym front_lines;
    }

-- ---- the run

-- these bytes were read so far, and the lines that stand whole in them were taken, but for what the reader has ahead
pub record HasRead (HasServed : List (List ℕ) → List ℕ → List (List ℕ) → Type 0)
    (was now held_before held_after : Option (List ℕ))
    (reader : Reading) (due : List ℕ) : Type 0 where
  pub read : List ℕ
  pub whole : List (List ℕ)
  pub consumed : Consumes was now read
  pub given : HasGivenLines reader read whole
  pub taken : AreTaken HasServed held_before held_after due whole

-- nothing is read yet
pub read-none : (HasServed : List (List ℕ) → List ℕ → List (List ℕ) → Type 0) (was held : Option (List ℕ))
    (reader : Reading) (due : List ℕ)
    → HasServed [] [] [] → reader ≡ unread → due ≡ [] → HasRead HasServed was was held held reader due
read-none HasServed was held reader due fresh new none = record {
  read = [];
  whole = [];
  consumed = Consumes-nil was;
  given = subst (λ r. HasGivenLines r [] []) (sym new) HasGivenLines-unread;
  taken = record {
    answered = [];
    waiting = [];
    early = [];
    all = refl;
    served = subst (λ (t : List ℕ). HasServed [] t []) (sym none) fresh;
    written = Appends-nil held;
  };
}

-- of any lines and any text
abbrev pub Any : List (List ℕ) → List ℕ → List (List ℕ) → Type 0
Any lines text waiting = Unit {0}

-- lines were taken that were whole in memory, and wait behind those that waited; nothing is said of the host
abbrev pub read-in_hand : (Before : List (List ℕ) → List ℕ → List (List ℕ) → Type 0)
    (was now held_before held : Option (List ℕ)) (reader new : Reading) (due : List ℕ) (more : List (List ℕ))
    → HasRead Before was now held_before held reader due → TakesInHand reader more new
    → HasRead Any was now held_before held new due
read-in_hand Before was now held_before held reader new due more so_far takes = record {
  read = so_far.read;
  whole = so_far.whole ++ more;
  consumed = so_far.consumed;
  given = takes so_far.read so_far.whole so_far.given;
  taken = record {
    answered = so_far.taken.answered;
    waiting = so_far.taken.waiting ++ map kept more;
    early = so_far.taken.early;
    all =
        sym (append_assoc so_far.taken.answered so_far.taken.waiting (map kept more))
        ∙ ap (λ (ls : List (List ℕ)). ls ++ map kept more) so_far.taken.all
        ∙ sym (map-append kept so_far.whole more);
    served = tt;
    written = so_far.taken.written;
  };
}

-- the whole file was read, within the limits, and its lines were taken
pub record HasReadFile (HasServed : List (List ℕ) → List ℕ → List (List ℕ) → Type 0)
    (was now held_before held_after : Option (List ℕ))
    (due : List ℕ) : Type 0 where
  pub file : List ℕ
  pub content : Tells was file
  pub at_end : IsAtEnd now
  pub within : IsWithinLimits (length (lines file)) (length file)
  pub taken : AreTaken HasServed held_before held_after due (lines file)

-- a line in hand is no longer than what is kept of one
pub kept-given : (old new : Reading) (line : List ℕ) (taken : ℕ) → HasGiven old new line taken
    → length new.line ≤ KEPT_BYTES
kept-given old new line taken given =
    let long = length-take KEPT_BYTES line in let same = ap length given.in_hand in omega (arith, long, same)

-- ---- what is taken

module _ (Before Taken : List (List ℕ) → List ℕ → List (List ℕ) → Type 0)
    (was mid now held_before held : Option (List ℕ))
    (reader in_hand new : Reading) (was_due is_due : List ℕ) (same : new ≡ in_hand)
    (so_far : HasRead Before was mid held_before held reader was_due)
    (takes : (answered : List (List ℕ)) (text : List ℕ) (waiting : List (List ℕ)) → Before answered text waiting
    → TakesLine Taken answered text waiting in_hand.line was_due is_due) where
  -- one line more
  pub read-line : GivesLine mid now reader in_hand → HasRead Taken was now held_before held new is_due
  read-line gives =
      subst (λ (r : Reading). HasRead Taken was now held_before held r is_due) (sym same)
      (record {
        read = so_far.read ++ gives.given;
        whole = so_far.whole ++ gives.line ∷ [];
        consumed = Consumes-trans was mid now so_far.read gives.given so_far.consumed gives.consumed;
        given = HasGivenLines-line mid now reader in_hand so_far.read so_far.whole so_far.given gives;
        taken =
            taken-more Before Taken held_before held was_due is_due so_far.whole gives.line in_hand.line
            gives.counted.in_hand so_far.taken takes;
      })

  -- the last line, which no newline ends
  pub read-rest : GivesRest mid now reader in_hand → HasReadFile Taken was now held_before held is_due
  read-rest gives =
      let file = so_far.read ++ gives.given in
      let file_lines = lines-rest_given mid now reader in_hand so_far.read so_far.whole so_far.given gives in
      let parted = IsLinesAndRest-rest mid now reader in_hand so_far.read so_far.whole so_far.given gives in
      record {
        file = file;
        content =
            Tells-whole was now file (Consumes-trans was mid now so_far.read gives.given so_far.consumed gives.consumed)
            gives.at_end;
        at_end = gives.at_end;
        within = record {
          lines_within = omega (
            arith,
            ap length file_lines,
            length-append so_far.whole (gives.line ∷ []),
            so_far.given.lines_counted,
            gives.counted.one_more,
            gives.counted.within.lines_within,
          );
          bytes_within = omega (
            arith,
            length-begins file so_far.whole gives.line parted.begins,
            so_far.given.bytes_counted,
            gives.counted.more_bytes,
            gives.counted.within.bytes_within,
          );
        };
        taken = subst (AreTaken Taken held_before held is_due) (sym file_lines)
            (taken-more Before Taken held_before held was_due is_due so_far.whole gives.line in_hand.line
            gives.counted.in_hand so_far.taken takes);
      }

-- the end of the input
pub read-end : (HasServed : List (List ℕ) → List ℕ → List (List ℕ) → Type 0)
    (was mid now held_before held : Option (List ℕ)) (reader new : Reading)
    (due : List ℕ) → HasRead HasServed was mid held_before held reader due → ReachesEnd mid now reader new
    → HasReadFile HasServed was now held_before held due
read-end HasServed was mid now held_before held reader new due so_far ends =
    let file = so_far.read ++ ends.given in
    let lines_are = lines-end_reached mid now reader new so_far.read so_far.whole so_far.given ends in
    let parted = IsLinesAndRest-end mid now reader new so_far.read so_far.whole so_far.given ends in
    record {
      file = file;
      content =
          Tells-whole was now file (Consumes-trans was mid now so_far.read ends.given so_far.consumed ends.consumed)
          ends.at_end;
      at_end = ends.at_end;
      within = record {
        lines_within = omega (arith, ap length lines_are, so_far.given.lines_counted, so_far.given.within.lines_within);
        bytes_within = omega (
          arith,
          length-begins file so_far.whole [] parted.begins,
          so_far.given.bytes_counted,
          so_far.given.within.bytes_within,
        );
      };
      taken = subst (AreTaken HasServed held_before held due) (sym lines_are) so_far.taken;
    }

-- ---- what is written

module _ (Before After : List (List ℕ) → List ℕ → List (List ℕ) → Type 0)
    (was now held_before held next : Option (List ℕ)) (reader : Reading)
    (due : List ℕ) (so_far : HasRead Before was now held_before held reader due) where
  within_so_far : IsWithinLimits (length so_far.whole) (length (flat_map ended so_far.whole))
  within_so_far = subst (λ (n : ℕ). IsWithinLimits n (length (flat_map ended so_far.whole))) so_far.given.lines_counted
      (subst (λ (n : ℕ). IsWithinLimits reader.lines n) so_far.given.bytes_counted so_far.given.within)

  -- the sink failed at the answers, once these bytes more were read
  serves-front : (given : List ℕ) (later : Option (List ℕ)) → Consumes now later given
      → AreFinished After (AppendsFront held_before next) so_far.whole
      → ServesLines AreFirstLines (AnswersAll After) (AppendsFront held_before next) was later
  serves-front given later consumed finished =
      let read = so_far.read ++ given in
      let parts = front-read was later read (Consumes-trans was now later so_far.read given so_far.consumed consumed) in
      record {
        file = read ++ parts.rest;
        read = read;
        asked = so_far.whole;
        text = finished.text;
        content = parts.content;
        was_read = record { unread = parts.rest; split = refl; tells = parts.left };
        which = first-lines read parts.rest so_far.whole (reader.ahead ++ given)
            (BeginsWithLines-given so_far.read so_far.whole reader.ahead given so_far.given.begins) within_so_far;
        answered = finished.answered;
        written = finished.written;
      }

  -- ---- the ends at a fault and at a limit

  module _ (later : Option (List ℕ)) (how result : Served)
      (ends : (answered : List (List ℕ)) (text : List ℕ) (waiting : List (List ℕ)) → Before answered text waiting
      → Finishes After answered text waiting due held next how result) where
    -- serving ended so, once these bytes more were read; `Which` says which lines were answered
    ends_reading : (Which : List ℕ → List ℕ → List (List ℕ) → Type 0) (given : List ℕ) → Consumes now later given
        → ((file : List ℕ) → Which file (so_far.read ++ given) so_far.whole)
        → (ServesLines Which (AnswersAll After) (Appends held_before next) was later
        → Serves (AnswersAll After) was later held_before next how)
        → Serves (AnswersAll After) was later held_before next result
    ends_reading Which given consumed which so =
        let end = ends so_far.taken.answered (so_far.taken.early ++ due) so_far.taken.waiting so_far.taken.served in
        let read = so_far.read ++ given in
        let parts = front-read was later read (Consumes-trans was now later so_far.read given so_far.consumed
        consumed) in
        ⊎_elim
        (λ whole.
        let finished = finished-whole Before After held_before held next due so_far.whole so_far.taken end.more
        end.answered whole.1 in
        subst (Serves (AnswersAll After) was later held_before next) (sym whole.0)
        (so (record {
          file = read ++ parts.rest;
          read = read;
          asked = so_far.whole;
          text = finished.text;
          content = parts.content;
          was_read = record { unread = parts.rest; split = refl; tells = parts.left };
          which = which (read ++ parts.rest);
          answered = finished.answered;
          written = finished.written;
        })))
        (λ front.
        subst (Serves (AnswersAll After) was later held_before next) (sym front.0)
        (serves-front given later consumed
        (finished-front Before After held_before held next due so_far.whole so_far.taken end.more end.answered
        front.1)))
        end.ends

  -- the input failed
  pub serves-fault : (new : Reading) (later : Option (List ℕ)) (result : Served) → StopsAtFault now later reader new
      → ((answered : List (List ℕ)) (text : List ℕ) (waiting : List (List ℕ)) → Before answered text waiting
      → Finishes After answered text waiting due held next ReadFault result)
      → Serves (AnswersAll After) was later held_before next result
  serves-fault new later result stops ends =
      let behind = reader.ahead ++ stops.given in
      ends_reading later ReadFault result ends (λ file read asked. AreWholeLines read asked) stops.given stops.consumed
      (λ file. record {
        rest = behind;
        parted = IsLinesAndRest-fault now later reader new so_far.read so_far.whole so_far.given stops;
        within =
            subst (λ (n : ℕ). StaysWithinLimits n (length (flat_map ended so_far.whole)) behind)
            so_far.given.lines_counted
            (subst (λ (n : ℕ). StaysWithinLimits reader.lines n behind) so_far.given.bytes_counted stops.within);
      })
      (λ serves. serves)

  -- the input goes past a limit
  pub serves-limit : (new : Reading) (later : Option (List ℕ)) (number : ℕ) (result : Served)
      → StopsAtLimit now later reader new → number ≡ reader.lines + 1
      → ((answered : List (List ℕ)) (text : List ℕ) (waiting : List (List ℕ)) → Before answered text waiting
      → Finishes After answered text waiting due held next (TooLong number) result)
      → Serves (AnswersAll After) was later held_before next result
  serves-limit new later number result stops counted ends =
      ends_reading later (TooLong number) result ends (λ file read asked. AreLinesBefore number read asked) stops.given
      stops.consumed
      (λ file. record {
        ahead = reader.ahead ++ stops.given;
        parted = BeginsWithLines-given so_far.read so_far.whole reader.ahead stops.given so_far.given.begins;
        within = within_so_far;
        passes = PassesLimit-stopped now later reader new so_far.read so_far.whole so_far.given stops;
        number_is = counted ∙ ap (λ n. n + 1) so_far.given.lines_counted;
      })
      (λ serves. serves)

-- ---- the end of the file

module _ (Before After : List (List ℕ) → List ℕ → List (List ℕ) → Type 0)
    (was now held_before held next : Option (List ℕ)) (due : List ℕ)
    (result : Served) (so_far : HasReadFile Before was now held_before held due) where
  pub serves-file : ((answered : List (List ℕ)) (text : List ℕ) (waiting : List (List ℕ)) → Before answered text waiting
      → Finishes After answered text waiting due held next All result) → Serves (AnswersAll
      After) was now held_before next result
  serves-file ends =
      let end = ends so_far.taken.answered (so_far.taken.early ++ due) so_far.taken.waiting so_far.taken.served in
      let file = so_far.file in
      ⊎_elim
      (λ whole.
      let finished = finished-whole Before After held_before held next due (lines file) so_far.taken end.more
      end.answered whole.1 in
      subst (Serves (AnswersAll After) was now held_before next) (sym whole.0)
      (record {
        file = file;
        read = file;
        asked = lines file;
        text = finished.text;
        content = so_far.content;
        was_read = WasRead-whole now file so_far.at_end;
        which = record { to_the_end = refl; within = so_far.within; asked_are = refl };
        answered = finished.answered;
        written = finished.written;
      }))
      (λ front.
      let finished = finished-front Before After held_before held next due (lines file) so_far.taken end.more
      end.answered front.1 in
      subst (Serves (AnswersAll After) was now held_before next) (sym front.0)
      (record {
        file = file;
        read = file;
        asked = lines file;
        text = finished.text;
        content = so_far.content;
        was_read = WasRead-whole now file so_far.at_end;
        which = record {
          prefix = file;
          ahead = [];
          more = [];
          was_read = sym (append-nil file);
          split = sym (append-nil file);
          ends_line = sym (append-nil (lines file)) ∙ ap (λ l. lines file ++ l) (sym lines-none);
          within = so_far.within;
          asked_are = refl;
        };
        answered = finished.answered;
        written = finished.written;
      }))
      end.ends

-- ---- what is written where that is due, while lines in hand are taken

-- none was taken
pub takes-none : (HasServed : List (List ℕ) → List ℕ → List (List ℕ) → Type 0) (lines : List (List ℕ)) (text : List ℕ)
    (waiting : List (List ℕ)) (due : List ℕ) (reader new : Reading) (held_before held_after : Option (List ℕ))
    (result : Result (Unit {0}) WriteFault) → new ≡ reader
    → WritesAnswers HasServed lines text waiting due held_before held_after result
    → TakesAndWrites HasServed lines text waiting due reader new held_before held_after result
takes-none HasServed lines text waiting due reader new held_before held_after result same writes = record {
  taken = [];
  in_hand = subst (λ (r : Reading). TakesInHand reader [] r) (sym same) (TakesInHand-no_call reader);
  writes = subst (λ (ls : List (List ℕ)). WritesAnswers HasServed lines text ls due held_before held_after result)
      (sym (append-nil waiting)) writes;
}

module _ (Before After : List (List ℕ) → List ℕ → List (List ℕ) → Type 0)
    (was now held_before held next : Option (List ℕ)) (reader new : Reading)
    (due left : List ℕ) (so_far : HasRead Before was now held_before held reader due) where
  -- serving goes on
  pub read-on : ((answered : List (List ℕ)) (text : List ℕ) (waiting : List (List ℕ)) → Before answered text waiting
      → WritesDue After answered text waiting due left reader new held next (Ok tt))
      → HasRead After was now held_before next new left
  read-on writes =
      ⊎_elim
      (λ all.
      let all_read = read-in_hand Before was now held_before held reader new due all.1.taken so_far all.1.in_hand in
      record {
        read = all_read.read;
        whole = all_read.whole;
        consumed = all_read.consumed;
        given = all_read.given;
        taken = taken-written Any After held_before held next due all_read.whole all_read.taken all.1.writes.more
            all.1.writes.served left all.0 all.1.writes.written;
      })
      (λ same. subst (λ (r : Reading). HasRead After was now held_before next r left) (sym same.2)
      (record {
        read = so_far.read;
        whole = so_far.whole;
        consumed = so_far.consumed;
        given = so_far.given;
        taken = taken-same Before After held_before held next due left so_far.whole same.1 same.3 so_far.taken same.4;
      }))
      (writes so_far.taken.answered (so_far.taken.early ++ due) so_far.taken.waiting so_far.taken.served)

  -- the sink failed
  pub serves-broken_line : (fault : WriteFault)
      → ((answered : List (List ℕ)) (text : List ℕ) (waiting : List (List ℕ)) → Before answered text waiting
      → WritesDue After answered text waiting due left reader new held next (Err fault))
      → ServesLines AreFirstLines (AnswersAll After) (AppendsFront held_before next) was now
  serves-broken_line fault writes =
      ⊎_elim
      (λ all.
      let all_read = read-in_hand Before was now held_before held reader new due all.1.taken so_far all.1.in_hand in
      serves-front Any After was now held_before held next new due all_read [] now (Consumes-nil now)
      (finished-front Any After held_before held next due all_read.whole all_read.taken all.1.writes.more
      all.1.writes.served all.1.writes.written))
      (λ same. absurd (let e : Err fault ≡ Ok tt = same.0 in cc))
      (writes so_far.taken.answered (so_far.taken.early ++ due) so_far.taken.waiting so_far.taken.served)
