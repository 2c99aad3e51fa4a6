-- Each way out of the loop gives the end of all lines, or none.
use Rattle.std.proofs.Common.{◌≡◌, ◌+◌, ◌-◌, length, take, drop, Some, None, rules, arith, sym, ap, ◌∙◌}
use Rattle.bridge_lines.specs.Parts.{place}
use Rattle.bridge_lines.proofs.Lining.{ends-all, ends-broken, ends-more, rest-whole}
use Rattle.bridge_lines.proofs.turn.lines_end.Goals as goal

pub returns-in_err-at-clause-end : goal.returns-in_err-at-clause-end
returns-in_err-at-clause-end c =
    let none : place 10 (take (length c.args.text.now - c.loop-i.end) (drop c.loop-i.end c.args.text.now)) ≡ None = search rules in
    rw c.from_residual.ensures
    (ends-broken c.loop-i.end _ c.args.text.now _ c.loop-i.invariant.ends (c.args.count - (c.loop-i.i + 1)) (omega arith)
    (ap (place 10) (sym (rest-whole c.args.text.now c.loop-i.end)) ∙ none))

pub loop-i-preserved : goal.loop-i-preserved
loop-i-preserved c =
    let here : place 10 (take (length c.args.text.now - c.loop-i.end) (drop c.loop-i.end c.args.text.now)) ≡ Some c.in_ok-at.at = search rules in
    record {
      within = search rules;
      ends = ends-more c.loop-i.end _ c.args.text.now _ c.loop-i.invariant.ends (c.args.count - (c.loop-i.i + 1)) c.in_ok-at.at (omega arith)
          (ap (place 10) (sym (rest-whole c.args.text.now c.loop-i.end)) ∙ here);
    }

pub returns-clause-end : goal.returns-clause-end
returns-clause-end c = ends-all c.loop-i.end _ c.args.text.now _ c.loop-i.invariant.ends (omega arith)
