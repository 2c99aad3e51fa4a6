-- The invariant holds at the end of every run under any rule, and implies the promises.
use Rattle.one_history.specs.Events.{end_of}
use Rattle.one_history.specs.Keys.{Passes}
use Rattle.one_history.proofs.Runs.{sound-run}
use Rattle.one_history.proofs.KeptPromises.{sound-safe}
use Rattle.one_history.proofs.law.machines_keep_any_rule.Goals as goal

pub returns : goal.returns
returns c test base events run =
    let it = sound-run (Passes test) base events run in
    sound-safe (Passes test) (end_of base events) it.0 it.1
