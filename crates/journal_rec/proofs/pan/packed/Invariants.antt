-- The invariant of the loop over pairs of nibbles.
use Rattle.std.proofs.Common.{◌≡◌, ◌*◌, ◌++◌, length, take, drop}
use Rattle.journal_rec.specs.declared.limits.TheConstants.{PAN_BYTES}
use Rattle.journal_rec.specs.RecordText.{packed}
use Rattle.journal_rec.proofs.pan.packed.Given as goal

-- the bytes so far and those of the nibbles that are left
abbrev pub invariant-bytes : goal.invariant-bytes
invariant-bytes l = record {
  packed : take l.i l.bytes ++ packed (drop (2 * l.i) l.nibbles) ≡ packed l.nibbles;
  size : length l.bytes ≡ PAN_BYTES;
}
