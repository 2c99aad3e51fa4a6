-- The session keys so far, and those of the checks after them.
use Rattle.std.proofs.Common.{◌≡◌, ◌++◌, map, drop}
use Rattle.arrayvec.specs.ArrayVec.{array_vec_len}
use Rattle.cryptogram_in.specs.Checks.{right_session}
use Rattle.cryptogram_in.proofs.checks.DesChecks.right_sessions.Given as goal

abbrev pub invariant-loop-i : goal.invariant-loop-i
invariant-loop-i l = record {
  so_far : l.found.items ++ map right_session (drop l.i l.self) ≡ map right_session l.self;
  len : array_vec_len l.found ≡ l.i;
}
