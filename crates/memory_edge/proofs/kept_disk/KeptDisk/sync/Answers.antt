-- The disk moves to the moment after the sync.
use Rattle.std.proofs.Common.{◌≡◌, length, ap, arith, rules}
use Rattle.issuer_base.specs.Stores.{Moment}
use Rattle.memory_edge.specs.KeptDisk.{all_safe}
use Rattle.memory_edge.specs.declared.kept_disk.Change.TheVariants.{Synced}
use Rattle.memory_edge.proofs.KeptChanges.{IsKept-more, kept-more, moment_of}
use Rattle.memory_edge.proofs.kept_disk.KeptDisk.sync.Goals as goal

pub invariant_of-self-2 : goal.invariant_of-self-2
invariant_of-self-2 c =
    let count : c.len-whole.result ≡ length c.self.inside.bytes.items = search rules in
    IsKept-more _ _ _ Synced (moment_of c.self.inside.bytes.items c.self.inside.safe) _ c.self.invariant c.in_ok-push.ensures.items
    (ap (λ safe. moment_of c.self.inside.bytes.items safe) count)
    (omega arith)

pub returns-clause-ok : goal.returns-clause-ok
returns-clause-ok c =
    let count : c.len-whole.result ≡ length c.self.inside.bytes.items = search rules in
    kept-more _ _ _ Synced (moment_of c.self.inside.bytes.items c.self.inside.safe) _ c.self.invariant c.in_ok-push.ensures.items _
    (λ (moment : Moment). all_safe moment.bytes)
    c.self.view_is
    (ap (λ safe. moment_of c.self.inside.bytes.items safe) count)
