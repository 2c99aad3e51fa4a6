-- The nibbles of eight bytes.
use Rattle.std.proofs.Common.{◌≡◌, ◌*◌, take, length}
use Rattle.std.specs.List.{flat_map}
use Rattle.issuer_base.specs.ChipData.{digits_of}
use Rattle.chip_request.proofs.form.sixteen_digits.Given as goal

abbrev pub invariant-loop-place : goal.invariant-loop-place
invariant-loop-place l = record {
  so_far : take (2 * l.place) l.nibbles ≡ flat_map digits_of (take l.place l.value);
  room : length l.nibbles ≡ 16;
}
