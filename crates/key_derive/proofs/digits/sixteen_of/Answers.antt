-- A nibble that is a digit, and after all digits one that is a letter, is appended; any other is skipped.
use Rattle.std.proofs.Common.{◌∙◌, filter, arith}
use Rattle.key_derive.specs.Digits.{is_digit}
use Rattle.key_derive.proofs.Taking.{digits-taken, digits-passed_over, letters-taken, letters-passed_over}
use Rattle.key_derive.proofs.digits.sixteen_of.Goals as goal
use Rattle.key_derive.proofs.digits.sixteen_of.Goals.{then-nibble-le9, else-nibble-le9, then-nibble-gt9, else-nibble-gt9}

pub digits-preserved : goal.digits-preserved
digits-preserved c = elim c.if-nibble-le9.branch [
  | then-nibble-le9 w ↦ w.taken-is ∙ digits-taken c.args.nibbles.now c.digits.taken w.add.new.self c.digits.nibble-index
      (omega arith) w.if-nibble-le9.true c.digits.invariant w.add.ensures
  | else-nibble-le9 w ↦ w.taken-is ∙ digits-passed_over c.args.nibbles.now c.digits.taken c.digits.nibble-index
      (omega arith) w.if-nibble-le9.false c.digits.invariant
]

pub letters-preserved : goal.letters-preserved
letters-preserved c = elim c.if-nibble-gt9.branch [
  | then-nibble-gt9 w ↦ w.taken-is ∙ letters-taken (filter is_digit c.args.nibbles.now) c.args.nibbles.now c.letters.taken
      w.add-then-nibble-gt9.new.self c.letters.nibble-index (omega arith) w.if-nibble-gt9.true c.letters.invariant w.add-then-nibble-gt9.ensures
  | else-nibble-gt9 w ↦ w.taken-is ∙ letters-passed_over (filter is_digit c.args.nibbles.now) c.args.nibbles.now c.letters.taken
      c.letters.nibble-index (omega arith) w.if-nibble-gt9.false c.letters.invariant
]
