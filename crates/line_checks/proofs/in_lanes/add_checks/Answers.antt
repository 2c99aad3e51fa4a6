-- One more check is that of its element.
use Rattle.std.proofs.Common.{arith, sym, subst, ap, ◌+◌, ◌∷◌, [], take, length}
use Rattle.std.proofs.lemmas.List.{length-append}
use Rattle.std.specs.List.{AllZip}
use Rattle.line_checks.specs.LookedUp.{IsCheckOf}
use Rattle.line_checks.proofs.Again.{zip_more}
use Rattle.line_checks.proofs.in_lanes.add_checks.Goals as goal

pub loop-element-preserved : goal.loop-element-preserved
loop-element-preserved c =
    let issuer = c.args.issuer.now in
    let one = c.add_check.ensures in
    record {
      so_far =
          subst (λ checks. AllZip (IsCheckOf issuer) (take (c.loop-element.element-index + 1) c.args.found.now) checks) (sym one.new_is)
          (zip_more (IsCheckOf issuer) c.args.found.now c.loop-element.element-index c.element-item.result _ one.last (omega arith)
          c.element-item.is c.loop-element.invariant.so_far one.holds);
      len = omega (arith, ap length one.new_is, length-append c.loop-element.checks (one.last ∷ []), c.loop-element.invariant.len);
    }
