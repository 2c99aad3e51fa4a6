-- What the number of an amount's first bytes is.
use Rattle.std.proofs.Common.{◌≡◌, take}
use Rattle.std.specs.List.{flat_map}
use Rattle.issuer_base.specs.ChipData.{decimal, digits_of}
use Rattle.issuer_base.proofs.request.decimal_value.Given as goal

abbrev pub invariant-loop-byte : goal.invariant-loop-byte
invariant-loop-byte l = l.value ≡ decimal (flat_map digits_of (take l.byte-index l.amount))
