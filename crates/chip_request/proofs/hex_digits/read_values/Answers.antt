-- One more value.
use Rattle.std.proofs.Common.{ℕ, ◌+◌, List, set, subst, sym, ◌∙◌, length-set, arith}
use Rattle.chip_request.specs.HexDigits.{AreWithin}
use Rattle.chip_request.proofs.HexSteps.{values_more, within_more, within_grown}
use Rattle.chip_request.proofs.hex_digits.read_values.Goals as goal

pub loop-place-preserved : goal.loop-place-preserved
loop-place-preserved c =
    let place : ℕ = c.loop-place.place in
    let value : ℕ = c.digit_value-value.result in
    let values : List ℕ = c.loop-place.values in
    let greatest : List ℕ = c.loop-place.greatest in
    let before = c.loop-place.invariant in
    record {
      size = length-set values place value ∙ before.size;
      sizes = length-set greatest place c.max.result ∙ before.sizes;
      values = values_more place value values c.args.digits.now (omega (arith, before.size)) c.digit_value-value.ensures before.values;
      greatest = subst (λ most. AreWithin (place + 1) (set values place value) (set greatest place most)) (sym c.max.ensures)
          (within_more place value values greatest (omega (arith, before.size)) (omega (arith, before.sizes)) before.greatest);
      before = subst (λ most. AreWithin 64 c.args.greatest.now (set greatest place most)) (sym c.max.ensures)
          (within_grown 64 place value c.args.greatest.now greatest (omega (arith, before.sizes)) before.before);
    }
