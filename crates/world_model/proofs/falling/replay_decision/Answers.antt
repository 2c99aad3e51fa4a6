-- The row of the request's card has the decision.
use Rattle.std.proofs.Common.{◌≡◌, get_or, Ok, ◌∙◌, arith}
use Rattle.std.proofs.lemmas.List.{get_or_default}
use Rattle.card_history.specs.declared.decision.Asked.TheVariants.{Decide}
use Rattle.card_history.specs.Records.{card_of}
use Rattle.line_checks.proofs.Numbers.{number-within}
use Rattle.shard_book.proofs.LegalDecisions.{legal-checked}
use Rattle.world_model.proofs.FallenRows.{rows-decision}
use Rattle.world_model.proofs.falling.replay_decision.Goals as goal

pub bounds-rows-card : goal.bounds-rows-card
bounds-rows-card c =
    let found = c.in-Ok.found in
    let within = number-within c.args.issuer.now.cards (card_of found.request) found.card c.in-Ok.ensures.at_hand.card_is.number_is in
    let enough = c.requires.rows in
    omega (arith, within, enough)

pub returns-clause-replayed : goal.returns-clause-replayed
returns-clause-replayed c shards shard stand count legal at_end =
    let issuer = c.args.issuer.now in
    let found = c.in-Ok.found in
    let passed : Ok (Decide found.request) ≡ Ok (Decide c.args.request.now) =
    c.in-Ok.ensures.request ∙ legal-checked issuer legal in
    let same : found.request ≡ c.args.request.now = cc in
    let within = number-within issuer.cards (card_of found.request) found.card c.in-Ok.ensures.at_hand.card_is.number_is in
    let enough = c.requires.rows in
    let rows = c.args.rows.now in
    let row = get_or rows found.card c.index-rows-card.result in
    rows-decision issuer c.requires.issuer c.args.rows.now shards shard stand count found c.args.request.now c.args.reply.now c.copy.result c.args.place
    row c.adopt.new.self c.adopt.result c.in-Ok.ensures.at_hand same c.copy.ensures legal at_end
    (get_or_default rows found.card c.index-rows-card.result row (omega (arith, within, enough)))
    c.adopt.ensures.exact c.adopt.ensures.adopted
