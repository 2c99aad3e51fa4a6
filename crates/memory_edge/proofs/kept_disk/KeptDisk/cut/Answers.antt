-- The disk moves to the moment after the truncation.
use Rattle.std.proofs.Common.{length, ap, arith, length-take}
use Rattle.issuer_base.specs.Stores.{Disk}
use Rattle.memory_edge.specs.KeptDisk.{cut_to}
use Rattle.memory_edge.specs.declared.kept_disk.Change.TheVariants.{Cut}
use Rattle.memory_edge.proofs.KeptChanges.{IsKept-more, kept-more, moment_of}
use Rattle.memory_edge.proofs.kept_disk.KeptDisk.cut.Goals as goal

pub invariant_of-self-2 : goal.invariant_of-self-2
invariant_of-self-2 c =
    let len = c.args.len in
    let held = ap (λ (disk : Disk). length disk.now.bytes) c.self.view_is in
    let left = length-take len c.self.inside.bytes.items in
    let shorter = ap length c.truncate.ensures.items in
    let short = c.requires in
    IsKept-more _ _ _ (Cut len) (moment_of c.self.inside.bytes.items c.self.inside.safe) _ c.self.invariant c.in_ok-push.ensures.items
    (ap (λ bytes. moment_of bytes len) c.truncate.ensures.items)
    (omega arith)

pub returns-clause-ok : goal.returns-clause-ok
returns-clause-ok c =
    let len = c.args.len in
    kept-more _ _ _ (Cut len) (moment_of c.self.inside.bytes.items c.self.inside.safe) _ c.self.invariant c.in_ok-push.ensures.items _
    (cut_to len)
    c.self.view_is
    (ap (λ bytes. moment_of bytes len) c.truncate.ensures.items)
