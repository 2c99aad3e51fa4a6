-- The bytes of pairs of values.
use Rattle.std.proofs.Common.{◌≡◌, length}
use Rattle.chip_request.specs.HexDigits.{AreDigitValues, AreJoined}
use Rattle.chip_request.proofs.hex_digits.joined_values.Given as goal

abbrev pub invariant-loop-place : goal.invariant-loop-place
invariant-loop-place l = record {
  size : length l.joined ≡ 32;
  joined : AreDigitValues l.values → AreJoined l.place l.joined l.values;
}
