-- The entries so far are those of what was read.
use Rattle.std.proofs.Common.{length}
use Rattle.terminal_kernel.proofs.DolWalk.{HasRead}
use Rattle.terminal_kernel.proofs.dol.read_dol.Given as goal

abbrev pub invariant-loop-unread : goal.invariant-loop-unread
invariant-loop-unread l = HasRead l.bytes l.entries.items l.total l.unread

abbrev pub decreases-loop-unread : goal.decreases-loop-unread
decreases-loop-unread l = length l.unread
