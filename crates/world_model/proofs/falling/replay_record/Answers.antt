-- The row of the record's card has the record.
use Rattle.std.proofs.Common.{get_or, set, sym, subst, arith}
use Rattle.std.proofs.lemmas.List.{get_or_default}
use Rattle.issuer_base.specs.declared.command.Command.{Command}
use Rattle.issuer_base.specs.declared.entry.Entry.{Entry}
use Rattle.issuer_base.specs.declared.entry.Entry.TheVariants.{Queued}
use Rattle.card_history.specs.LegalRecords.{IsLegal}
use Rattle.issuer_base.specs.CardNames.{named}
use Rattle.line_checks.proofs.Numbers.{number-within}
use Rattle.shard_book.specs.Grounds.{grounds_of}
use Rattle.world_model.specs.Replaying.{with_entry}
use Rattle.world_model.specs.Stepping.{RowsStand}
use Rattle.world_model.proofs.FallenRows.{rows-command, rows-status}
use Rattle.world_net.proofs.Hosts.{at}
use Rattle.world_model.proofs.falling.replay_record.Goals as goal

pub bounds-rows-card : goal.bounds-rows-card
bounds-rows-card c =
    let within = number-within c.args.issuer.now.cards (named c.in-Queued.pan c.in-Queued.psn) c.in-Some.card (sym c.in-Some.ensures.number) in
    let enough = c.requires.rows in
    omega (arith, within, enough)

pub bounds-rows-card-in-Some-card : goal.bounds-rows-card-in-Some-card
bounds-rows-card-in-Some-card c =
    let within = number-within c.args.issuer.now.cards (named c.in-Status.pan c.in-Status.psn) c.in-Some-card.card (sym c.in-Some-card.ensures.number) in
    let enough = c.requires.rows in
    omega (arith, within, enough)

pub returns-in-Some-clause-replayed : goal.returns-in-Some-clause-replayed
returns-in-Some-clause-replayed c shards shard stand count legal at_end =
    let issuer = c.args.issuer.now in
    let within = number-within issuer.cards (named c.in-Queued.pan c.in-Queued.psn) c.in-Some.card (sym c.in-Some.ensures.number) in
    let enough = c.requires.rows in
    let row = get_or c.args.rows.now c.in-Some.card c.index-rows-card.result in
    let legal_here = subst (IsLegal (grounds_of issuer) shard (at shards shard).history) c.in-Queued.is legal in
    subst (λ (entry : Entry). RowsStand issuer (set c.args.rows.now c.in-Some.card c.push.new.self) (with_entry shards shard entry)) (sym c.in-Queued.is)
    (subst (λ (command : Command). RowsStand issuer (set c.args.rows.now c.in-Some.card c.push.new.self) (with_entry shards shard (Queued c.in-Queued.pan c.in-Queued.psn command))) c.copy.ensures
    (rows-command issuer c.requires.issuer c.args.rows.now shards shard stand count c.in-Some.card c.in-Queued.pan c.in-Queued.psn c.copy.result
    row c.push.new.self c.push.result (sym c.in-Some.ensures.number)
    (subst (λ (command : Command). IsLegal (grounds_of issuer) shard (at shards shard).history (Queued c.in-Queued.pan c.in-Queued.psn command))
    (sym c.copy.ensures) legal_here)
    (get_or_default c.args.rows.now c.in-Some.card c.index-rows-card.result row (omega (arith, within, enough))) c.push.ensures.taken c.push.ensures.queued))

pub returns-in-Some-card-clause-replayed : goal.returns-in-Some-card-clause-replayed
returns-in-Some-card-clause-replayed c shards shard stand count legal at_end =
    let issuer = c.args.issuer.now in
    let card = c.in-Some-card.card in
    let within = number-within issuer.cards (named c.in-Status.pan c.in-Status.psn) card (sym c.in-Some-card.ensures.number) in
    let enough = c.requires.rows in
    let row = get_or c.args.rows.now card c.index-rows-card-in-Some-card.result in
    let legal_here = subst (IsLegal (grounds_of issuer) shard (at shards shard).history) c.in-Status.is legal in
    subst (λ (entry : Entry). RowsStand issuer (set c.args.rows.now card c.set_status.new.self) (with_entry shards shard entry)) (sym c.in-Status.is)
    (rows-status issuer c.requires.issuer c.args.rows.now shards shard stand count card c.in-Status.pan c.in-Status.psn c.in-Status.status
    row c.set_status.new.self (sym c.in-Some-card.ensures.number) legal_here
    (get_or_default c.args.rows.now card c.index-rows-card-in-Some-card.result row (omega (arith, within, enough))) c.set_status.ensures)
