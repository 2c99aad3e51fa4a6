-- The disk moves to the moment after the append.
use Rattle.std.proofs.Common.{◌≡◌, ◌++◌, length, sym, ap, ◌∙◌, arith, rules, length-append}
use Rattle.memory_edge.specs.KeptDisk.{appended}
use Rattle.memory_edge.specs.declared.kept_disk.Change.TheVariants.{Appended}
use Rattle.memory_edge.proofs.KeptChanges.{IsKept-more, kept-more, moment_of}
use Rattle.memory_edge.proofs.kept_disk.KeptDisk.append.Goals as goal

pub invariant_of-self-2 : goal.invariant_of-self-2
invariant_of-self-2 c =
    let grown : c.extend_from_slice.new.self.items ≡ c.self.inside.bytes.items ++ c.args.piece.now = search rules in
    let copied : c.in_ok-kept.kept.items ≡ c.args.piece.now = search rules in
    let safe = c.self.inside.safe in
    let within = c.self.invariant.within in
    let long = length-append c.self.inside.bytes.items c.args.piece.now in
    let longer = ap length grown in
    IsKept-more _ _ _ (Appended c.in_ok-kept.kept) (moment_of c.self.inside.bytes.items safe) _ c.self.invariant c.in_ok-push.ensures.items
    (ap (λ bytes. moment_of bytes safe) (grown ∙ ap (λ piece. c.self.inside.bytes.items ++ piece) (sym copied)))
    (omega arith)

pub returns-clause-ok : goal.returns-clause-ok
returns-clause-ok c =
    let grown : c.extend_from_slice.new.self.items ≡ c.self.inside.bytes.items ++ c.args.piece.now = search rules in
    let safe = c.self.inside.safe in
    kept-more _ _ _ (Appended c.in_ok-kept.kept) (moment_of c.self.inside.bytes.items safe) _ c.self.invariant c.in_ok-push.ensures.items _
    (appended c.args.piece.now)
    c.self.view_is
    (ap (λ bytes. moment_of bytes safe) grown)
