-- The offset after the last newline of the bytes read, if they have one.
use Rattle.std.proofs.Common.{arith}
use Rattle.line_reader.proofs.Pieces.{newline_within, none_within}
use Rattle.line_reader.proofs.window.Window.fill.Goals as goal

pub invariant_of-self-2-clause-last_newline : goal.invariant_of-self-2-clause-last_newline
invariant_of-self-2-clause-last_newline g c =
    newline_within _ _ _ _ c.last_end.result c.deref.ensures.value c.last_end.ensures.within c.last_end.ensures.newline

pub invariant_of-self-2-clause-none_behind : goal.invariant_of-self-2-clause-none_behind
invariant_of-self-2-clause-none_behind g c =
    none_within _ _ _ _ c.last_end.result c.deref.ensures.value (omega (arith, c.in_ok-count.ensures.bound)) c.last_end.ensures.none_behind
