-- The bytes so far have all their bits inverted, and the others are unchanged.
use Rattle.std.proofs.Common.{◌≡◌, ◌++◌, map, take, drop, bit_xor}
use Rattle.key_derive.proofs.master.complement.Given as goal

abbrev pub invariant-loop-byte : goal.invariant-loop-byte
invariant-loop-byte l =
    l.byte-items ≡ map (λ byte. bit_xor byte 0xFF) (take l.byte-index l.initial.byte-items) ++ drop l.byte-index l.initial.byte-items
