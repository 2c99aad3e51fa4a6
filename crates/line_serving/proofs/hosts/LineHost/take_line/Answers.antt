-- One caller answers the line, or it waits; with several callers it waits.
use Rattle.std.proofs.Common.{subst}
use Rattle.line_blocks.specs.Serving.{TakesLine}
use Rattle.line_serving.specs.Hosts.{HasServed, HasRoom}
use Rattle.line_serving.proofs.HostSteps.{of_alone, of_together}
use Rattle.line_serving.proofs.TogetherSteps.{owes-none, takes-together}
use Rattle.line_serving.proofs.hosts.LineHost.take_line.Goals as goal

pub returns-in-Alone-clause-taken : goal.returns-in-Alone-clause-taken
returns-in-Alone-clause-taken g c = λ first lines text waiting served.
    of_alone first c.in-Alone.alone c.take_line.new.self
    (λ Has lines text waiting. TakesLine Has lines text waiting c.args.line.now c.args.block.now.text.items
    c.take_line.new.block.text.items)
    (λ begun lines text waiting so_far. c.take_line.ensures.taken begun lines text waiting so_far)
    lines text waiting (subst (HasServed first lines text waiting) c.in-Alone.is served)

pub returns-in-Together-clause-taken : goal.returns-in-Together-clause-taken
returns-in-Together-clause-taken g c = λ first lines text waiting served.
    let due = c.args.block.now.text.items in
    of_together first c.in-Together.lanes c.deal.new.self
    (λ Has lines text waiting. TakesLine Has lines text waiting c.args.line.now due due)
    (λ begun lines text waiting so_far.
    takes-together begun c.in-Together.lanes c.deal.new.self c.args.line.now due c.deal.ensures.host
    c.deal.ensures.served lines text waiting so_far)
    lines text waiting (subst (HasServed first lines text waiting) c.in-Together.is served)

pub returns-in-Together-clause-open : goal.returns-in-Together-clause-open
returns-in-Together-clause-open g c =
    let room = subst (λ host. HasRoom host c.args.block.now.lines c.args.block.now.text.items) c.in-Together.is c.requires.room in
    owes-none c.in-Together.lanes c.deal.new.self c.args.block.now.lines c.args.line.now c.deal.ensures.counts.1 c.deal.ensures.served
    room.owes_none
