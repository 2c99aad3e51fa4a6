-- The leading digits of a text.
use Rattle.std.proofs.Common.{◌-◌, sym, ◌∙◌, arith}
use Rattle.issuer_base.specs.declared.limits.TheConstants.{MAX_PAN_DIGITS}
use Rattle.chip_request.proofs.LoopsOfParts.{behind_digits-one, digits_at-full, digits_at-stopped}
use Rattle.chip_request.proofs.line_parts.read_digits.Goals as goal

pub returns-in-Err : goal.returns-in-Err
returns-in-Err c =
    digits_at-stopped _ (MAX_PAN_DIGITS - c.loop.counter - 1) c.loop.digits.items _ _ (omega arith) (sym c.in-Err.ensures.found) ∙ c.loop.invariant.found

pub loop-preserved : goal.loop-preserved
loop-preserved c = record {
  count = omega (arith, c.push.ensures.len);
  found = rw c.push.ensures.items (behind_digits-one _ _ c.loop.digits.items _ _ _ (omega arith) (sym c.in-Ok.ensures.found)) ∙ c.loop.invariant.found;
}

pub returns : goal.returns
returns c = sym (digits_at-full _ c.loop.digits.items _ (omega arith)) ∙ c.loop.invariant.found
