-- The bytes so far are set to odd parity, and the others are unchanged.
use Rattle.std.proofs.Common.{◌≡◌, ◌++◌, map, take, drop}
use Rattle.key_derive.specs.MasterKey.{with_odd_parity}
use Rattle.key_derive.proofs.master.in_odd_parity.Given as goal

abbrev pub invariant-loop-byte : goal.invariant-loop-byte
invariant-loop-byte l =
    l.byte-items ≡ map with_odd_parity (take l.byte-index l.initial.byte-items) ++ drop l.byte-index l.initial.byte-items
