-- The invariant holds at the end of every run, and implies each promise.
use Rattle.one_history.specs.Events.{end_of, after}
use Rattle.one_history.specs.Keys.{IsFirst}
use Rattle.one_history.proofs.Runs.{sound-run, goes-after}
use Rattle.one_history.proofs.KeptPromises.{sound-safe, sound-keeps_replies, sound-one_reply, sound-fall_back, sound-cuts}
use Rattle.one_history.proofs.law.machines_make_one_history.Goals as goal

pub returns-clause-safe : goal.returns-clause-safe
returns-clause-safe c keys base events run =
    let it = sound-run (IsFirst keys) base events run in
    sound-safe (IsFirst keys) (end_of base events) it.0 it.1

pub returns-clause-stays : goal.returns-clause-stays
returns-clause-stays c keys base events run more =
    let it = sound-run (IsFirst keys) base events run in
    sound-keeps_replies (IsFirst keys) (end_of base events) it.0 it.1 (after (end_of base events) more)
    (goes-after (end_of base events) more)

pub returns-clause-one_reply : goal.returns-clause-one_reply
returns-clause-one_reply c keys base events run =
    let it = sound-run (IsFirst keys) base events run in
    sound-one_reply (IsFirst keys) keys (λ shard history text follows. follows) (end_of base events) it.0 it.1

pub returns-clause-fall_back : goal.returns-clause-fall_back
returns-clause-fall_back c keys base events run =
    let it = sound-run (IsFirst keys) base events run in
    sound-fall_back (IsFirst keys) keys (λ shard history text follows. follows) (end_of base events) it.0 it.1

pub returns-clause-cuts : goal.returns-clause-cuts
returns-clause-cuts c keys base events run name journals can =
    let it = sound-run (IsFirst keys) base events run in
    sound-cuts (IsFirst keys) (end_of base events) it.0 it.1 name journals can
