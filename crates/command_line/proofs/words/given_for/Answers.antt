-- What the pairs from the last one on give the option.
use Rattle.std.proofs.Common.{◌≡◌, ◌+◌, ◌*◌, ◌<◌, true, false, sym, ap, ◌∙◌, arith, length, drop, rules}
use Rattle.std.specs.Prelude.{slice_get}
use Rattle.std.specs.Str.{bytes_eq}
use Rattle.command_line.specs.Command.{values_of}
use Rattle.command_line.specs.Pairs.{pairs_of}
use Rattle.command_line.proofs.CommandWords.{values-more, values-same}
use Rattle.command_line.proofs.words.given_for.Goals as goal

pub loop-left-preserved-then-eq : goal.loop-left-preserved-then-eq
loop-left-preserved-then-eq c =
    let some : 0 < c.loop-left.left = omega arith in
    let same : bytes_eq c.word-name.result.now c.args.option.now ≡ true = search rules in
    let more = values-more c.args.words.now c.loop-left.left some c.word-name.result.now c.word-value.result.now
    c.word-name.ensures c.word-value.ensures
    c.args.option.now same in
    let before = c.loop-left.invariant.count in
    let long = ap length more in
    record {
      first = sym (ap (λ values. slice_get values 0) more);
      count = omega (arith, before, long);
      few = omega arith;
      within = omega arith;
    }

pub loop-left-preserved : goal.loop-left-preserved
loop-left-preserved c =
    let some : 0 < c.loop-left.left = omega arith in
    let other : bytes_eq c.word-name.result.now c.args.option.now ≡ false = search rules in
    let same = values-same c.args.words.now c.loop-left.left some c.word-name.result.now c.word-value.result.now
    c.word-name.ensures c.word-value.ensures
    c.args.option.now other in
    record {
      first = c.loop-left.invariant.first ∙ sym (ap (λ values. slice_get values 0) same);
      count = c.loop-left.invariant.count ∙ sym (ap length same);
      few = omega arith;
      within = omega arith;
    }

pub returns-clause-times : goal.returns-clause-times
returns-clause-times c =
    let none : c.loop-left.left ≡ 0 = omega arith in
    let at = ap (λ n. values_of c.args.option.now (pairs_of (drop (2 * n + 1) c.args.words.now))) none in
    c.loop-left.invariant.count ∙ ap length at

pub returns-clause-first : goal.returns-clause-first
returns-clause-first c =
    let none : c.loop-left.left ≡ 0 = omega arith in
    let at = ap (λ n. values_of c.args.option.now (pairs_of (drop (2 * n + 1) c.args.words.now))) none in
    c.loop-left.invariant.first ∙ ap (λ values. slice_get values 0) at
