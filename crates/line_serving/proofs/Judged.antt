-- Lines that are judged, one more at a time, and what is printed.
use Rattle.std.proofs.Common.{◌≡◌, ℕ, ◌+◌, ◌<◌, List, [], ◌∷◌, ◌++◌, map, take, length, get_or, Option, None, Some, Result, IfOk}
use Rattle.std.proofs.Common.{refl, sym, ap, ap₂, subst, ◌∙◌, inl, inr, ⊎_elim, arith, append-nil, append_assoc}
use Rattle.std.specs.Prelude.{◌⊎◌, slice_get, option_map, IsSome}
use Rattle.std.specs.Io.KnownBytes.{Appends}
use Rattle.std.proofs.KnownBytes.{Appends-trans}
use Rattle.std.proofs.lemmas.List.{take_more}
use Rattle.std.proofs.lemmas.Option.{get_or_from_slice_get, slice_get-get_or, slice_get_within}
use Rattle.std.proofs.lemmas.Slice.Zip.{AllZip-long}
use Rattle.issuer_base.specs.declared.faults.WriteFault.{WriteFault}
use Rattle.issuer_base.specs.declared.limits.TheConstants.{KEPT_BYTES}
use Rattle.issuer_base.specs.Sink.{AppendsFront, WritesAll}
use Rattle.issuer_base.proofs.ManyCalls.{AppendsFront-after}
use Rattle.issuer_setup.specs.IssuerSetup.{Setup}
use Rattle.issuer_setup.specs.KeySlots.{keys_at}
use Rattle.chip_request.proofs.LineLaws.{longest_line, line_of-kept}
use Rattle.line_checks.specs.declared.looked_up.LookedUpRequest.{LookedUpRequest}
use Rattle.line_checks.proofs.Again.{zip-at}
use Rattle.line_reader.specs.Reading.{Reading, kept}
use Rattle.line_blocks.specs.declared.served.Served.{Served}
use Rattle.line_blocks.specs.declared.served.Served.TheVariants.{All, ReadFault, WriteFault as SinkFault, TooLong}
use Rattle.line_blocks.specs.Answered.{AreAllLines, AreFirstLines, AreLinesBefore, AreWholeLines}
use Rattle.line_blocks.specs.Serving.{Finishes, Serves, ServesLines, TakesLine, WritesDue}
use Rattle.line_blocks.proofs.ServingSteps.{takes-none}
use Rattle.clearing_check.specs.declared.filed.Filed.{Filed}
use Rattle.clearing_check.specs.declared.verdict.Verdict.{Verdict}
use Rattle.clearing_check.specs.ClearingLine.{AreAhead, IsLookUp, LookUps, Presented, none_ahead, of_form, presented}
use Rattle.clearing_check.proofs.LookUps.{known-keys}
use Rattle.clearing_check.specs.Verdicts.{after_line, records_after, verdict, verdict_on}
use Rattle.clearing_check.specs.ClearText.{after_lines, clear_text, closing_text, verdict_text, verdicts_text}
use Rattle.line_serving.specs.Clearing.{Clears, HasJudged}

-- a line that waits was looked up
pub there-next : {A R : Type 0} (now : R → A) (found : Option R) (all : List A) (index : ℕ)
    → option_map now found ≡ slice_get all index → index < length all → IsSome found
there-next now (Some found) all index is within = refl
there-next now None [] index is within = absurd (omega (arith, within))
there-next now None (first ∷ all) index is within =
    absurd (let both : None ≡ Some (get_or (first ∷ all) index first) =
    is ∙ slice_get-get_or (first ∷ all) index first within in cc)

-- ---- lines after lines

module _ (issuer : Setup) where
  verdicts-then : (records : List Filed) (lines more : List (List ℕ)) → verdicts_text issuer records (lines ++ more)
      ≡ verdicts_text issuer records lines ++ verdicts_text issuer (after_lines issuer records lines) more
  verdicts-then records [] more = refl
  verdicts-then records (line ∷ lines) more =
      ap (λ l. verdict_text (verdict issuer records line) ++ l) (verdicts-then (after_line issuer records line) lines more)
      ∙ sym (append_assoc (verdict_text (verdict issuer records line))
      (verdicts_text issuer (after_line issuer records line) lines) _)

  after-then : (records : List Filed) (lines more : List (List ℕ))
      → after_lines issuer records (lines ++ more) ≡ after_lines issuer (after_lines issuer records lines) more
  after-then records [] more = refl
  after-then records (line ∷ lines) more = after-then (after_line issuer records line) lines more

  -- ---- lines that wait

  -- no line is judged yet
  pub judged-none : (records : List Filed) (ahead : LookUps) → ahead ≡ none_ahead
      → HasJudged issuer records records [] [] [] ahead
  judged-none records ahead none = record {
    waits = subst (AreAhead issuer []) (sym none) (record { found_are = tt; checks_are = tt });
    text_is = refl;
    records_are = refl;
  }

  -- a line waits
  waits-more : (records now : List Filed) (lines : List (List ℕ)) (text : List ℕ) (waiting : List (List ℕ))
      (line : List ℕ) (old new : LookUps)
      → ((lines : List (List ℕ)) → AreAhead issuer lines old → AreAhead issuer (lines ++ line ∷ []) new)
      → HasJudged issuer records now lines text waiting old
      → HasJudged issuer records now lines text (waiting ++ line ∷ []) new
  waits-more records now lines text waiting line old new more judged = record {
    waits = more waiting judged.waits;
    text_is = judged.text_is;
    records_are = judged.records_are;
  }

  pub takes-waiting : (records now : List Filed) (lines : List (List ℕ)) (text : List ℕ) (waiting : List (List ℕ))
      (line due : List ℕ) (old new : LookUps)
      → ((lines : List (List ℕ)) → AreAhead issuer lines old → AreAhead issuer (lines ++ line ∷ []) new)
      → HasJudged issuer records now lines text waiting old
      → TakesLine (λ lines text waiting. HasJudged issuer records now lines text waiting new) lines text waiting line due
      due
  takes-waiting records now lines text waiting line due old new more judged = record {
    answered = lines;
    left = waiting ++ line ∷ [];
    more = [];
    all = sym (append_assoc lines waiting (line ∷ []));
    due = sym (append-nil due);
    served = subst (λ (t : List ℕ). HasJudged issuer records now lines t (waiting ++ line ∷ []) new)
        (sym (append-nil text)) (waits-more records now lines text waiting line old new more judged);
  }

  -- all lines that wait are judged
  settled : (records now then : List Filed) (lines : List (List ℕ)) (text : List ℕ) (waiting : List (List ℕ))
      (old new : LookUps) → new ≡ none_ahead → then ≡ after_lines issuer now waiting
      → HasJudged issuer records now lines text waiting old
      → HasJudged issuer records then (lines ++ waiting) (text ++ verdicts_text issuer now waiting) [] new
  settled records now then lines text waiting old new none after judged = record {
    waits = subst (AreAhead issuer []) (sym none) (record { found_are = tt; checks_are = tt });
    text_is =
        ap₂ (λ (t : List ℕ) (r : List Filed). t ++ verdicts_text issuer r waiting) judged.text_is judged.records_are
        ∙ sym (verdicts-then records lines waiting);
    records_are =
        after ∙ ap (λ (r : List Filed). after_lines issuer r waiting) judged.records_are
        ∙ sym (after-then records lines waiting);
  }

  pub takes-settled : (records now then : List Filed) (lines : List (List ℕ)) (text : List ℕ)
      (waiting : List (List ℕ)) (line was_due is_due : List ℕ) (old mid new : LookUps)
      → ((lines : List (List ℕ)) → AreAhead issuer lines old → AreAhead issuer (lines ++ line ∷ []) mid)
      → new ≡ none_ahead
      → ((lines : List (List ℕ)) → AreAhead issuer lines mid → (then ≡ after_lines issuer now lines)
      × (is_due ≡ was_due ++ verdicts_text issuer now lines))
      → HasJudged issuer records now lines text waiting old
      → TakesLine (λ lines text waiting. HasJudged issuer records then lines text waiting new) lines text waiting line
      was_due is_due
  takes-settled records now then lines text waiting line was_due is_due old mid new more none settles judged =
      let all = waiting ++ line ∷ [] in
      let mid_judged = waits-more records now lines text waiting line old mid more judged in
      let done = settles all mid_judged.waits in
      record {
        answered = lines ++ all;
        left = [];
        more = verdicts_text issuer now all;
        all = append-nil (lines ++ all) ∙ sym (append_assoc lines waiting (line ∷ []));
        due = done.1;
        served = settled records now then lines text all mid new none done.0 mid_judged;
      }

  -- ---- lines that are judged one after another

  -- what was looked up for the line of an index
  look-up-at : (waiting : List (List ℕ)) (ahead : LookUps) (index : ℕ) (found : Result LookedUpRequest Verdict)
      → AreAhead issuer waiting ahead → slice_get ahead.found index ≡ Some found
      → IsLookUp issuer (presented issuer (get_or waiting index [])) found
  look-up-at waiting ahead index found are is =
      let R : List ℕ → Result LookedUpRequest Verdict → Type 0 =
      λ line found. IsLookUp issuer (presented issuer line) found in
      let within = slice_get_within ahead.found index found is in
      let long = AllZip-long R waiting ahead.found are.found_are in
      subst (R (get_or waiting index [])) (get_or_from_slice_get ahead.found index found found is)
      (zip-at R waiting ahead.found index [] found are.found_are (omega (arith, within, long)))

  -- its keys are stored
  pub known-next : (waiting : List (List ℕ)) (ahead : LookUps) (index : ℕ) (found : Result LookedUpRequest Verdict)
      → AreAhead issuer waiting ahead → slice_get ahead.found index ≡ Some found
      → IfOk found (λ sought. IsSome (keys_at issuer sought.slot))
  known-next waiting ahead index found are is =
      known-keys issuer (presented issuer (get_or waiting index [])) found (look-up-at waiting ahead index found are is)

  -- the next of the lines that wait is judged
  pub judges-next : (records now then : List Filed) (waiting : List (List ℕ)) (ahead : LookUps) (index : ℕ)
      (found : Result LookedUpRequest Verdict) (said : Verdict) (due was_due is_due : List ℕ)
      → AreAhead issuer waiting ahead → slice_get ahead.found index ≡ Some found
      → ((presented : Result Presented Verdict) → IsLookUp issuer presented found → said ≡ verdict_on now presented)
      → ((presented : Result Presented Verdict) → IsLookUp issuer presented found → then ≡ records_after now presented)
      → is_due ≡ was_due ++ verdict_text said
      → (now ≡ after_lines issuer records (take index waiting))
      × (was_due ≡ due ++ verdicts_text issuer records (take index waiting))
      → (then ≡ after_lines issuer records (take (index + 1) waiting))
      × (is_due ≡ due ++ verdicts_text issuer records (take (index + 1) waiting))
  judges-next records now then waiting ahead index found said due was_due is_due are is says changes added so_far =
      let within = slice_get_within ahead.found index found is in
      let long = AllZip-long (λ line found. IsLookUp issuer (presented issuer line) found) waiting ahead.found
      are.found_are in
      let line = get_or waiting index [] in
      let front = take index waiting in
      let its = look-up-at waiting ahead index found are is in
      let next : take (index + 1) waiting ≡ front ++ line ∷ [] = take_more waiting index [] (omega (arith, within, long)) in (
        changes (presented issuer line) its
            ∙ ap (λ (r : List Filed). after_line issuer r line) so_far.0
            ∙ sym (after-then records front (line ∷ []))
            ∙ ap (after_lines issuer records) (sym next),
        added
            ∙ ap₂ (λ (t : List ℕ) (v : Verdict). t ++ verdict_text v) so_far.1
            (says (presented issuer line) its ∙ ap (λ (r : List Filed). verdict issuer r line) so_far.0)
            ∙ append_assoc due (verdicts_text issuer records front)
            (verdict_text (verdict issuer (after_lines issuer records front) line))
            ∙ ap (λ (t : List ℕ). due ++ (verdicts_text issuer records front ++ t))
            (sym (append-nil (verdict_text (verdict issuer (after_lines issuer records front) line))))
            ∙ ap (λ (t : List ℕ). due ++ t) (sym (verdicts-then records front (line ∷ [])))
            ∙ ap (λ (ls : List (List ℕ)). due ++ verdicts_text issuer records ls) (sym next),
      )

  -- ---- what is written

  pub writes-settled : (records now then : List Filed) (lines : List (List ℕ)) (text : List ℕ)
      (waiting : List (List ℕ)) (due all left : List ℕ) (old new : LookUps) (reader new_reader : Reading)
      (held_before held_after : Option (List ℕ)) (result : Result (Unit {0}) WriteFault) → new_reader ≡ reader
      → new ≡ none_ahead → left ≡ []
      → ((lines : List (List ℕ)) → AreAhead issuer lines old → (then ≡ after_lines issuer now lines)
      × (all ≡ due ++ verdicts_text issuer now lines))
      → WritesAll held_before held_after result all
      → HasJudged issuer records now lines text waiting old
      → WritesDue (λ lines text waiting. HasJudged issuer records then lines text waiting new) lines text waiting due left
      reader new_reader held_before held_after result
  writes-settled records now then lines text waiting due all left old new reader new_reader held_before held_after result
      same_reader none none_left settles written judged =
      let done = settles waiting judged.waits in
      inl (
        none_left,
        takes-none (λ lines text waiting. HasJudged issuer records then lines text waiting new) lines text waiting due
            reader new_reader held_before held_after result same_reader (record {
              more = verdicts_text issuer now waiting;
              served = settled records now then lines text waiting old new none done.0 judged;
              written = subst (WritesAll held_before held_after result) done.1 written;
            }),
      )

  pub finishes : (records now then : List Filed) (lines : List (List ℕ)) (text : List ℕ) (waiting : List (List ℕ))
      (due all : List ℕ) (old new : LookUps) (held_before held_after : Option (List ℕ)) (how ended : Served)
      → new ≡ none_ahead
      → ((lines : List (List ℕ)) → AreAhead issuer lines old → (then ≡ after_lines issuer now lines)
      × (all ≡ due ++ verdicts_text issuer now lines))
      → ((ended ≡ how) × Appends held_before held_after all)
      ⊎ ((ended ≡ SinkFault) × AppendsFront held_before held_after all)
      → HasJudged issuer records now lines text waiting old
      → Finishes (λ lines text waiting. HasJudged issuer records then lines text waiting new) lines text waiting due
      held_before held_after how ended
  finishes records now then lines text waiting due all old new held_before held_after how ended none settles ends judged =
      let done = settles waiting judged.waits in
      record {
        more = verdicts_text issuer now waiting;
        answered = settled records now then lines text waiting old new none done.0 judged;
        ends = ⊎_elim
            (λ whole. inl (whole.0, subst (Appends held_before held_after) done.1 whole.1))
            (λ front. inr (front.0, subst (AppendsFront held_before held_after) done.1 front.1)) ends;
      }

  -- ---- truncated lines

  presented-kept : (line : List ℕ) → presented issuer (kept line) ≡ presented issuer line
  presented-kept line =
      let longer : longest_line < KEPT_BYTES = omega arith in
      ap (of_form issuer) (line_of-kept KEPT_BYTES line longer)

  verdicts-kept : (records : List Filed) (lines : List (List ℕ))
      → verdicts_text issuer records (map kept lines) ≡ verdicts_text issuer records lines
  verdicts-kept records [] = refl
  verdicts-kept records (line ∷ lines) =
      let same = presented-kept line in
      ap₂ (λ (one : List ℕ) (more : List ℕ). one ++ more)
      (ap (λ p. verdict_text (verdict_on records p)) same)
      (ap (λ p. verdicts_text issuer (records_after records p) (map kept lines)) same
      ∙ verdicts-kept (after_line issuer records line) lines)

  after-kept : (records : List Filed) (lines : List (List ℕ))
      → after_lines issuer records (map kept lines) ≡ after_lines issuer records lines
  after-kept records [] = refl
  after-kept records (line ∷ lines) =
      ap (λ p. after_lines issuer (records_after records p) (map kept lines)) (presented-kept line)
      ∙ after-kept (after_line issuer records line) lines

  -- ---- how the check ends

  -- the lines were judged, with the text of the verdicts
  module _ (ahead : LookUps) (records now : List Filed) (lines : List (List ℕ)) (text : List ℕ)
      (judged : HasJudged issuer records now (map kept lines) text [] ahead) where
    text-is : text ≡ verdicts_text issuer records lines
    text-is = judged.text_is ∙ verdicts-kept records lines

    whole-is : text ++ closing_text now ≡ clear_text issuer records lines
    whole-is =
        ap₂ (λ (t : List ℕ) (r : List Filed). t ++ closing_text r) text-is
        (judged.records_are ∙ after-kept records lines)

  module _ (Which : List ℕ → List ℕ → List (List ℕ) → Type 0) (ahead : LookUps) (records now : List Filed) (was left : Option (List ℕ)) where
    -- the verdicts alone
    with-verdicts : (Written : List ℕ → Type 0)
        → ServesLines Which (λ lines text. HasJudged issuer records now (map kept lines) text [] ahead) Written was left
        → ServesLines Which (λ lines text. text ≡ verdicts_text issuer records lines) Written was left
    with-verdicts Written serves = record {
      file = serves.file;
      read = serves.read;
      asked = serves.asked;
      text = serves.text;
      content = serves.content;
      was_read = serves.was_read;
      which = serves.which;
      answered = text-is ahead records now serves.asked serves.text serves.answered;
      written = serves.written;
    }

    -- and then what closes the check
    with-closing : (Written Then : List ℕ → Type 0)
        → ((text : List ℕ) → Written text → Then (text ++ closing_text now))
        → ServesLines Which (λ lines text. HasJudged issuer records now (map kept lines) text [] ahead) Written was left
        → ServesLines Which (λ lines text. text ≡ clear_text issuer records lines) Then was left
    with-closing Written Then more serves = record {
      file = serves.file;
      read = serves.read;
      asked = serves.asked;
      text = serves.text ++ closing_text now;
      content = serves.content;
      was_read = serves.was_read;
      which = serves.which;
      answered = whole-is ahead records now serves.asked serves.text serves.answered;
      written = more serves.text serves.written;
    }

  -- it stops before the end
  pub clears-short : (ahead : LookUps) (records now : List Filed) (was left held_before held_after : Option (List ℕ)) (served : Served)
      → (served ≡ All → ⊥)
      → Serves (λ lines text. HasJudged issuer records now (map kept lines) text [] ahead) was left held_before held_after served
      → Clears issuer records was left held_before held_after served
  clears-short ahead records now was left held_before held_after All other serves = absurd (other refl)
  clears-short ahead records now was left held_before held_after ReadFault other serves =
      with-verdicts (λ file read asked. AreWholeLines read asked) ahead records now was left (Appends held_before held_after)
      serves
  clears-short ahead records now was left held_before held_after SinkFault other serves =
      inl (with-verdicts AreFirstLines ahead records now was left (AppendsFront held_before held_after) serves)
  clears-short ahead records now was left held_before held_after (TooLong number) other serves =
      with-verdicts (λ file read asked. AreLinesBefore number read asked) ahead records now was left
      (Appends held_before held_after) serves

  -- the whole text was written
  pub clears-whole : (ahead : LookUps) (records now : List Filed) (was left held_before held held_after : Option (List ℕ))
      → Serves (λ lines text. HasJudged issuer records now (map kept lines) text [] ahead) was left held_before held All
      → Appends held held_after (closing_text now) → Clears issuer records was left held_before held_after All
  clears-whole ahead records now was left held_before held held_after serves written =
      with-closing AreAllLines ahead records now was left (Appends held_before held) (Appends held_before held_after)
      (λ text before. Appends-trans held_before held held_after text (closing_text now) before written) serves

  -- the sink failed at what closes the check
  pub clears-front : (ahead : LookUps) (records now : List Filed) (was left held_before held held_after : Option (List ℕ))
      → Serves (λ lines text. HasJudged issuer records now (map kept lines) text [] ahead) was left held_before held All
      → AppendsFront held held_after (closing_text now) → Clears issuer records was left held_before held_after SinkFault
  clears-front ahead records now was left held_before held held_after serves front =
      inr (with-closing AreAllLines ahead records now was left (Appends held_before held) (AppendsFront held_before held_after)
      (λ text before. AppendsFront-after held_before held held_after text (closing_text now) before front) serves)
