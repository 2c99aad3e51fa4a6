-- The lines that wait are answered one after another, until all are.
use Rattle.std.proofs.Common.{◌+◌, ℕ, List, All, drop, refl, ap, sym, subst, ◌∙◌, arith}
use Rattle.std.proofs.lemmas.List.{drop_all}
use Rattle.std.specs.Option.{option_map}
use Rattle.issuer_setup.specs.IssuerSetup.{Setup}
use Rattle.line_checks.specs.LookedUp.{AreLookUps, IsReady}
use Rattle.line_checks.proofs.LookUps.{all-ready}
use Rattle.line_serving.proofs.AloneSteps.{first-of, found-there, from-place, parted-at, settling-none, settling-more, settles-alone}
use Rattle.line_serving.proofs.DurableAlone.{recorded-more}
use Rattle.line_serving.proofs.alone.AloneHost.settle_waiting.Goals as goal

pub check-requires : goal.check-requires
check-requires g c =
    subst (λ (issuer : Setup). All (IsReady issuer) c.args.self.now.ahead) (sym c.issuer.ensures)
    (all-ready c.args.self.now.host.issuer c.requires.looked_up.0 c.args.self.now.ahead c.requires.looked_up.1)

pub loop-index-init : goal.loop-index-init
loop-index-init g c =
    let old = c.args.self.now in
    let same = subst (λ (issuer : Setup). (lines : List (List ℕ)) → AreLookUps issuer lines old.ahead
    → AreLookUps issuer lines c.check.new.self) c.issuer.ensures c.check.ensures.same in
    record {
      settling = λ first lines text waiting so_far.
          settling-none first old _ refl same c.args.block.now.text.items lines text waiting so_far;
      looked_up = (c.requires.looked_up.0, same c.requires.looked_up.0 c.requires.looked_up.1);
      waiting = c.check.ensures.count;
      count = let lines = c.args.block.now.lines in omega arith;
      recorded = c.requires.recorded;
    }

pub unwrap-found-requires : goal.unwrap-found-requires
unwrap-found-requires g c =
    found-there _ _ c.loop-index.self.ahead c.loop-index.index c.get.ensures
    (let below = c.loop-index-test.true in let count = c.len-index-end.ensures.count in let all = c.loop-index.invariant.waiting in
    omega (arith, below, count, all))

pub answer-answer-requires : goal.answer-answer-requires
answer-answer-requires g c =
    let looked_up = c.loop-index.invariant.looked_up in
    let is = sym c.get.ensures ∙ ap (option_map (λ found. found.now)) c.unwrap-found.ensures in
    let its = first-of c.loop-index.self.host.issuer looked_up.0 c.unwrap-found.result.now (drop c.loop-index.index c.loop-index.self.ahead) _
    (parted-at c.loop-index.self.ahead c.loop-index.index _ is) looked_up.1 in
    (its.line, its.first)

pub loop-index-preserved : goal.loop-index-preserved
loop-index-preserved g c =
    let before = c.loop-index.invariant in
    let is = sym c.get.ensures ∙ ap (option_map (λ found. found.now)) c.unwrap-found.ensures in
    let parted = parted-at c.loop-index.self.ahead c.loop-index.index _ is in
    let its = first-of c.loop-index.self.host.issuer before.looked_up.0 c.unwrap-found.result.now (drop c.loop-index.index c.loop-index.self.ahead)
    (drop (c.loop-index.index + 1) c.loop-index.self.ahead) parted before.looked_up.1 in
    record {
      settling = λ first lines text waiting so_far.
          settling-more first (from-place c.loop-index.self c.loop-index.index) _ c.unwrap-found.result.now c.answer-answer.result parted
          c.answer-answer.ensures.issuer c.answer-answer.ensures.turn c.answer-answer.ensures.leaves
          c.args.block.now.text.items c.loop-index.block.text.items c.add.new.self.text.items c.add.ensures.text
          lines text waiting (before.settling first lines text waiting so_far);
      looked_up = (
        its.left,
        subst (λ (issuer : Setup). AreLookUps issuer its.left (drop (c.loop-index.index + 1) c.loop-index.self.ahead))
            (sym c.answer-answer.ensures.issuer) its.others,
      );
      waiting = before.waiting;
      count = omega (arith, before.count, c.add.ensures.lines);
      recorded =
          recorded-more c.loop-index.self.host c.answer-answer.new.self its.line c.answer-answer.result c.loop-index.block.text.items
          c.add.new.self.text.items c.add.ensures.text (c.answer-answer.ensures.turn its.line its.first) before.recorded;
    }

pub returns-clause-answered : goal.returns-clause-answered
returns-clause-answered g c = λ first lines text waiting so_far.
    settles-alone first (from-place c.loop-index.self c.loop-index.index) _ refl
    (drop_all c.loop-index.index c.loop-index.self.ahead (let below = c.loop-index-test.false in let count = c.len-index-end.ensures.count in
    let all = c.loop-index.invariant.waiting in omega (arith, below, count, all))) c.clear.ensures
    c.args.block.now.text.items c.loop-index.block.text.items lines text waiting
    (c.loop-index.invariant.settling first lines text waiting so_far)
