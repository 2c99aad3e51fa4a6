-- The pairs from the last one on.
use Rattle.std.proofs.Common.{◌≡◌, ◌+◌, ◌*◌, ◌<◌, true, false, ap, ◌∙◌, arith, drop, rules}
use Rattle.command_line.specs.Pairs.{are_pairs, options_of, pairs_of}
use Rattle.command_line.proofs.CommandWords.{all-more, all-none}
use Rattle.command_line.proofs.words.are_pairs.Goals as goal

pub loop-left-preserved-then-not-is_pair : goal.loop-left-preserved-then-not-is_pair
loop-left-preserved-then-not-is_pair c =
    let some : 0 < c.loop-left.left = omega arith in
    let none : c.is_pair.result ≡ false = search rules in
    record {
      all_are =
          all-none c.args.words.now c.loop-left.left some c.word.result.now c.word-in-loop-left.result.now
          c.word.ensures
          c.word-in-loop-left.ensures (options_of c.args.command) c.is_pair.result c.loop-left.all c.is_pair.ensures
          c.loop-left.invariant.all_are none;
      within = omega arith;
    }

pub loop-left-preserved : goal.loop-left-preserved
loop-left-preserved c =
    let some : 0 < c.loop-left.left = omega arith in
    let here : c.is_pair.result ≡ true = search rules in
    record {
      all_are =
          all-more c.args.words.now c.loop-left.left some c.word.result.now c.word-in-loop-left.result.now
          c.word.ensures
          c.word-in-loop-left.ensures (options_of c.args.command) c.is_pair.result c.loop-left.all c.is_pair.ensures
          c.loop-left.invariant.all_are here;
      within = omega arith;
    }

pub returns : goal.returns
returns c =
    let none : c.loop-left.left ≡ 0 = omega arith in
    c.loop-left.invariant.all_are
    ∙ ap (λ n. are_pairs (options_of c.args.command) (pairs_of (drop (2 * n + 1) c.args.words.now))) none
