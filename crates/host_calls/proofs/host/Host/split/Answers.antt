-- A pass that is split, and the new one, stay tied.
use Rattle.host_calls.proofs.Ties.{tied-parent, tied-child}
use Rattle.host_calls.proofs.host.Host.split.Goals as goal

pub invariant_of-pass : goal.invariant_of-pass
invariant_of-pass g c = record { tied = rw (c.split-claims.ensures.seat.1, c.split-turns.ensures.seat.1) (tied-parent _ _ c.args.pass.now.tied) }

pub invariant_of-result : goal.invariant_of-result
invariant_of-result g c = record { tied = rw (c.split-claims.ensures.new.1, c.split-turns.ensures.new.1) (tied-child _ _ c.args.pass.now.tied) }
