-- The bytes that pairs of digits spell, step by step.
use Rattle.std.proofs.Common.{◌*◌}
use Rattle.chip_request.specs.HexDigits.{AreSpelled}
use Rattle.chip_request.proofs.line_parts.spell_sure.Given as goal

-- the bytes so far are spelled
abbrev pub invariant-loop-step : goal.invariant-loop-step
invariant-loop-step l = AreSpelled (32 * l.step) l.bytes l.text
