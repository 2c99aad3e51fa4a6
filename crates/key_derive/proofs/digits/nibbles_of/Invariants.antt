-- The row's prefix has the nibbles of the bytes so far, and each is below sixteen.
use Rattle.std.proofs.Common.{◌≡◌, ◌*◌, take, length}
use Rattle.std.specs.List.{flat_map}
use Rattle.issuer_base.specs.ChipData.{digits_of}
use Rattle.key_derive.proofs.Nibbles.{AreNibbles}
use Rattle.key_derive.proofs.digits.nibbles_of.Given as goal

abbrev pub invariant-loop-i : goal.invariant-loop-i
invariant-loop-i l = record {
  length_kept : length l.nibbles ≡ 40;
  so_far : take (2 * l.i) l.nibbles ≡ flat_map digits_of (take l.i l.bytes);
  nibbles : AreNibbles l.nibbles;
}
