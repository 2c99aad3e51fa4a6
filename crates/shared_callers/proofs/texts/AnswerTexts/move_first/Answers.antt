-- The first text that is due is the one at its index among all.
use Rattle.std.proofs.Common.{◌≡◌, ◌+◌, ◌∷◌, ℕ, suc, List, drop, get_or, sym, ap, ◌∙◌, arith}
use Rattle.std.proofs.lemmas.Option.{get_or_from_slice_get, slice_get_within}
use Rattle.std.proofs.Math.Seq.{drop-cons}
use Rattle.shared_callers.specs.DueTexts.{DueTexts}
use Rattle.shared_callers.proofs.texts.AnswerTexts.move_first.Goals as goal

pub returns-clause-moved : goal.returns-clause-moved
returns-clause-moved c =
    let lines : List (List ℕ) = c.self.inside.lines.lines in
    let first = c.self.inside.first in
    let text : List ℕ = c.line.result.now in
    let next : suc first ≡ first + 1 = omega arith in
    record {
      text = text;
      first = sym (ap (λ (due : DueTexts). due.texts) c.self.view_is)
          ∙ drop-cons lines first text (slice_get_within lines first text c.line.ensures.line)
          ∙ ap (λ (from : ℕ). get_or lines first text ∷ drop from lines) next
          ∙ ap (λ (t : List ℕ). t ∷ drop (first + 1) lines) (get_or_from_slice_get lines first text text c.line.ensures.line);
      appended = c.add_text.ensures.text;
      same_room = ap (λ (due : DueTexts). due.room) c.self.view_is;
    }
