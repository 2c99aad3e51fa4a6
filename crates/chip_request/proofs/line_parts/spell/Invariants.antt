-- The bytes that pairs of digits spell, step by step.
use Rattle.std.proofs.Common.{◌*◌}
use Rattle.chip_request.specs.HexDigits.{AreSpelled, AreDigitValues}
use Rattle.chip_request.proofs.line_parts.spell.Given as goal

-- the bytes so far are spelled if no value so far exceeds a digit's
abbrev pub invariant-loop-step : goal.invariant-loop-step
invariant-loop-step l = AreDigitValues l.greatest → AreSpelled (32 * l.step) l.bytes l.text
