-- The texts of the answers that were due were written.
use Rattle.std.proofs.Common.{◌≡◌, [], ℕ, List, ◌++◌, map, sym, ap, subst, ◌∙◌, append-nil}
use Rattle.std.proofs.lemmas.List.{map-append}
use Rattle.std.proofs.lemmas.List.Folds.{flat_map-map}
use Rattle.issuer_base.specs.Sink.{WritesAll}
use Rattle.issuer_base.specs.declared.answer.Answer.{Answer}
use Rattle.answer_text.specs.AnswerText.{printed}
use Rattle.shared_callers.specs.Halves.{HasDue}
use Rattle.shared_callers.proofs.lanes.Lanes.write_answers.Goals as goal

pub invariant_of-self-clause-rooms : goal.invariant_of-self-clause-rooms
invariant_of-self-clause-rooms g c = c.args.self.now.rooms ∙ sym c.write_due.ensures.rooms.rooms

pub returns-clause-served : goal.returns-clause-served
returns-clause-served g c =
    λ lines answers due waiting has.
    let dealt = has.dealt in
    let wrote = c.write_due.ensures.written (map printed dealt.taken) (map printed due) dealt.dues in
    let all : map printed dealt.taken ++ map printed due ≡ map printed answers =
    sym (map-append printed dealt.taken due) ∙ ap (λ (answers : List Answer). map printed answers) (sym dealt.answers_are) in (
      record {
        dealt = record {
          taken = answers;
          answers_are = sym (append-nil answers);
          answered = dealt.answered;
          waits = c.write_due.ensures.waiting lines waiting dealt.waits;
          dues = subst (λ (texts : List (List ℕ)). HasDue c.write_due.new.self texts []) all wrote.0;
          had = dealt.had;
        };
      },
      subst (WritesAll (g.W.Sink.held c.args.out.now) (g.W.Sink.held c.write_due.new.out) c.write_due.result)
          (flat_map-map (λ (text : List ℕ). text) printed due) wrote.1,
    )
