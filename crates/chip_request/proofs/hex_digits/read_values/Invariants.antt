-- The values of the digits of one step.
use Rattle.std.proofs.Common.{◌≡◌, length}
use Rattle.chip_request.specs.HexDigits.{HaveValues, AreWithin}
use Rattle.chip_request.proofs.hex_digits.read_values.Given as goal

abbrev pub invariant-loop-place : goal.invariant-loop-place
invariant-loop-place l = record {
  size : length l.values ≡ 64;
  sizes : length l.greatest ≡ 64;
  values : HaveValues l.place l.values l.digits;
  greatest : AreWithin l.place l.values l.greatest;
  before : AreWithin 64 l.fn.greatest l.greatest;
}
