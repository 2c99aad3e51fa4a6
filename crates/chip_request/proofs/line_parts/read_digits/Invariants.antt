-- The leading digits of a text.
use Rattle.std.proofs.Common.{◌≡◌, ◌-◌, length}
use Rattle.issuer_base.specs.declared.limits.TheConstants.{MAX_PAN_DIGITS}
use Rattle.chip_request.specs.LineParts.{digits_at}
use Rattle.chip_request.proofs.LoopsOfParts.{behind_digits}
use Rattle.chip_request.proofs.line_parts.read_digits.Given as goal

-- the digits so far and those before the remainder are those at the start of the text
abbrev pub invariant-loop : goal.invariant-loop
invariant-loop l = record {
  count : length l.digits.items ≡ l.counter;
  found : behind_digits l.digits.items (digits_at (MAX_PAN_DIGITS - l.counter) l.rest) ≡ digits_at MAX_PAN_DIGITS l.fn.text;
}
