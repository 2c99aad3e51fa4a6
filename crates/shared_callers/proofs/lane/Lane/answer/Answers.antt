-- One more line is answered, after the others.
use Rattle.std.proofs.Common.{◌≡◌, ◌+◌, ◌-◌, ◌∷◌, [], ◌++◌, take, get_or, Some, ap, sym, subst, ◌∙◌, arith}
use Rattle.std.specs.List.{slice_get}
use Rattle.std.specs.Option.{option_map}
use Rattle.std.proofs.lemmas.Option.{slice_get-get_or}
use Rattle.answer_text.specs.AnswerText.{printed}
use Rattle.host_calls.specs.Passes.{claims_of, logs_of}
use Rattle.host_calls.specs.declared.pass.Pass.{Pass}
use Rattle.line_checks.specs.LookedUp.{IsLookUp}
use Rattle.shared_callers.specs.DueTexts.{DueTexts}
use Rattle.line_reader.specs.KeptLines.{KeptLines}
use Rattle.shared_callers.proofs.Calling.{HasCalled, called-line}
use Rattle.shared_callers.proofs.LooksAhead.{ahead-there, there}
use Rattle.shared_callers.proofs.lane.Lane.answer.Given.{Over}
use Rattle.shared_callers.proofs.lane.Lane.answer.Goals.{After-unwrap-found}
use Rattle.shared_callers.proofs.lane.Lane.answer.Goals as goal

pub unwrap-found-requires : goal.unwrap-found-requires
unwrap-found-requires g c =
    let (below, above) = c.look_ahead-first.ensures.within in
    there _ _ c.look_ahead-first.new.self.ahead (c.loop-place.place - c.look_ahead-first.result) c.get.ensures (omega (arith, below, above))

-- the line is the one at its index
line-there : (g : Over) (c : After-unwrap-found g)
    → slice_get c.look_ahead-first.new.self.lines.lines c.loop-place.place ≡ Some (get_or c.args.self.now.lines.lines c.loop-place.place [])
line-there g c =
    let place = c.loop-place.place in
    let end = c.len-place-end.ensures.count in
    let test = c.loop-place-test.true in
    subst (λ (lines : KeptLines). slice_get lines.lines place ≡ Some (get_or c.args.self.now.lines.lines place []))
    (sym (c.look_ahead-first.ensures.same.1 ∙ c.loop-place.invariant.lines))
    (slice_get-get_or c.args.self.now.lines.lines place [] (omega (arith, test, end)))

-- and this is what was looked up for it
its : (g : Over) (c : After-unwrap-found g)
    → IsLookUp c.args.host.now.issuer (get_or c.args.self.now.lines.lines c.loop-place.place []) c.unwrap-found.result.now
its g c =
    let place = c.loop-place.place in
    let first = c.look_ahead-first.result in
    let lines = c.look_ahead-first.new.self.lines.lines in
    let (below, above) = c.look_ahead-first.ensures.within in
    let line = get_or c.args.self.now.lines.lines place [] in
    let at : place ≡ first + (place - first) = omega (arith, below) in
    let found_is = sym c.get.ensures ∙ ap (option_map (λ found. found.now)) c.unwrap-found.ensures in
    ahead-there (IsLookUp c.args.host.now.issuer) first place lines line c.look_ahead-first.new.self.ahead c.unwrap-found.result.now (place - first)
    at c.look_ahead-first.ensures.ahead (line-there g c) found_is

pub answer_line-answer-requires-clause-found : goal.answer_line-answer-requires-clause-found
answer_line-answer-requires-clause-found g c = (
  get_or c.args.self.now.lines.lines c.loop-place.place [],
  its g (goal.at.answer_line-answer-requires-clause-found g c).After-unwrap-found,
)

pub loop-place-preserved : goal.loop-place-preserved
loop-place-preserved g c =
    let before = c.loop-place.invariant in
    let issuer = c.args.host.now.issuer in
    let place = c.loop-place.place in
    let same = c.look_ahead-first.ensures.same in
    let end = c.len-place-end.ensures.count in
    let test = c.loop-place-test.true in
    let line = get_or c.args.self.now.lines.lines place [] in
    let line_is = slice_get-get_or c.args.self.now.lines.lines place [] (omega (arith, test, end)) in
    let first = c.args.self.now.pass in
    let called = subst (λ (pass : Pass). HasCalled issuer (take place c.args.self.now.lines.lines) c.loop-place.self.texts.texts (claims_of first)
    (logs_of first) (claims_of pass) (logs_of pass)) (sym same.0) before.called in
    let texts : c.add.new.self.texts ≡ c.loop-place.self.texts.texts ++ printed c.answer_line-answer.result ∷ [] =
    ap (λ (due : DueTexts). due.texts) c.add.ensures ∙ ap (λ (due : DueTexts). due.texts ++ printed c.answer_line-answer.result ∷ []) same.2 in
    record {
      free = c.answer_line-answer.ensures.free;
      names = c.answer_line-answer.ensures.names ∙ ap (λ (pass : Pass). (claims_of pass).names) same.0 ∙ before.names;
      lines = same.1 ∙ before.lines;
      room = ap (λ (due : DueTexts). due.room) c.add.ensures ∙ ap (λ (due : DueTexts). due.room) same.2 ∙ before.room;
      used = ap (λ (due : DueTexts). due.used) c.add.ensures ∙ omega (arith, ap (λ (due : DueTexts). due.used) same.2, before.used);
      ahead = c.look_ahead-first.ensures.ahead;
      within = let (below, above) = c.look_ahead-first.ensures.within in omega (arith, below);
      called = called-line issuer c.args.self.now.lines.lines (claims_of first) (logs_of first) place line c.loop-place.self.texts.texts
          c.add.new.self.texts c.answer_line-answer.result _ _ _ _ line_is texts called
          (c.answer_line-answer.ensures.answers line (its g (goal.at.loop-place-preserved g c).After-unwrap-found));
    }
