-- Nothing waits and nothing is due.
use Rattle.std.proofs.Common.{◌*◌, [], sym, ap, ◌∙◌}
use Rattle.shared_callers.proofs.Seating.{rooms-all}
use Rattle.shared_callers.proofs.Turning.{none-waiting, none-due}
use Rattle.shared_callers.proofs.half_block.HalfBlock.new.Goals as goal

pub invariant_of-result-clause-each_room : goal.invariant_of-result-clause-each_room
invariant_of-result-clause-each_room c =
    λ number d below.
    rooms-all c.args.parts.items c.args.parts.len c.args.each c.requires.room number d below
    ∙ ap (λ count. count * c.args.each) (sym c.len.ensures)

pub invariant_of-result-clause-waits : goal.invariant_of-result-clause-waits
invariant_of-result-clause-waits c = ∣ record { before = []; waiting = []; are = none-waiting c.args.parts.items c.requires.none } ∣₁

pub invariant_of-result-clause-dues : goal.invariant_of-result-clause-dues
invariant_of-result-clause-dues c = ∣ record { taken = []; due = []; are = none-due c.args.parts.items c.requires.none } ∣₁

pub returns-clause-none : goal.returns-clause-none
returns-clause-none c = (none-waiting c.args.parts.items c.requires.none, none-due c.args.parts.items c.requires.none)
