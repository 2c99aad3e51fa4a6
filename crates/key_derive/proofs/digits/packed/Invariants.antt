-- Each byte so far is packed from its two digits.
use Rattle.std.proofs.Common.{◌≡◌, ℕ, ◌+◌, ◌*◌, ◌<◌, length, get_or}
use Rattle.key_derive.proofs.digits.packed.Given as goal

abbrev pub invariant-loop-i : goal.invariant-loop-i
invariant-loop-i g l = record {
  length_kept : length l.byte-items ≡ g.row.N;
  so_far : (k : ℕ) → k < l.i → get_or l.byte-items k 0 ≡ 16 * get_or l.digits (2 * k) 0 + get_or l.digits (2 * k + 1) 0;
}
