-- The plan of the card's row for a request that the issuer decides.
use Rattle.std.proofs.Common.{◌≡◌, ◌%◌, List, length, Some, Ok, ap, sym, ◌∙◌, subst, arith}
use Rattle.issuer_base.specs.declared.request.Request.{Request}
use Rattle.card_history.specs.declared.decision.Asked.TheVariants.{Decide}
use Rattle.card_history.specs.LegalRecords.{IsLegalDecision}
use Rattle.card_history.specs.Records.{card_of}
use Rattle.card_history.specs.Turns.{IsUnused, decided_for}
use Rattle.decision_table.specs.declared.row.TableRow.{TableRow}
use Rattle.issuer_setup.specs.CardList.{number_of}
use Rattle.issuer_setup.specs.IssuerSetup.{keys_of}
use Rattle.issuer_setup.proofs.CardListLemmas.{number_of-found}
use Rattle.line_checks.proofs.Numbers.{number-within}
use Rattle.row_core.specs.Plan.{IsPlan, IsStep}
use Rattle.shard_book.specs.Grounds.{grounds_of}
use Rattle.world_model.specs.Stepping.{world_of}
use Rattle.world_net.proofs.Hosts.{at}
use Rattle.world_model.proofs.NetRows.{row-there, row-stands}
use Rattle.world_net.proofs.Worlds.{home-card}
use Rattle.world_model.proofs.NetWrites.{own-exchange}
use Rattle.world_model.proofs.Replies.{IsPlanned, planned-legal, planned-own, planned-used}
use Rattle.world_model.proofs.net.Net.planned.Goals.{After-plan}
use Rattle.world_model.proofs.net.Net.planned.Goals as goal

pub index-row-requires : goal.index-row-requires
index-row-requires c =
    let found = c.in-Ok.found in
    let within = row-there c.args.self.now.issuer c.args.self.now.rows.items c.args.self.now.shards.items c.requires.rows found.card
    (number-within c.args.self.now.issuer.cards (card_of found.request) found.card c.in-Ok.ensures.at_hand.card_is.number_is) in
    omega (arith, within)

-- the request that was found is the one that was given, and its plan is made on the history of the card's shard
planned : (c : After-plan) → let world = world_of c.args.self.now in let found = c.in-Ok.found in let request = c.args.request.now in
    (found.request ≡ request)
    × IsPlanned world.issuer (at world.shards (found.card % world.issuer.shards)).history request found.card found.keys c.index-row.result.now
    c.plan.result
planned c =
    let world = world_of c.args.self.now in
    let found = c.in-Ok.found in
    let at_hand = c.in-Ok.ensures.at_hand in
    let request = c.args.request.now in
    let place = found.card % world.issuer.shards in
    let row = c.index-row.result.now in
    let outcome = c.plan.result in
    let passed : Ok (Decide found.request) ≡ Ok (Decide request) =
    c.in-Ok.ensures.request ∙ c.requires.checked in
    let same : found.request ≡ request = cc in
    let number_is : number_of (card_of request) world.issuer.cards ≡ Some found.card =
    ap (λ (q : Request). number_of (card_of q) world.issuer.cards) (sym same) ∙ at_hand.card_is.number_is in
    let info = number_of-found (card_of request) world.issuer.cards found.card number_is in
    let stands = row-stands world.issuer c.args.self.now.rows.items world.shards c.requires.rows found.card info.0 row info.1 c.index-row.ensures in
    let plan = subst (λ (q : Request). IsPlan row found.keys world.issuer.table q outcome) same
    (subst (λ (table : List TableRow). IsPlan row found.keys table found.request outcome) c.table-table.ensures c.plan.ensures.plan) in (
      same,
      record {
        passes = c.requires.checked;
        number_is = number_is;
        keys_are = ap (λ (q : Request). keys_of world.issuer found.card q) (sym same) ∙ at_hand.keys_are;
        info = info.0;
        info_is = info.1;
        named = sym info.2;
        eight = ap (λ (q : Request). length q.ac) (sym same) ∙ at_hand.eight;
        stands = stands;
        answers = plan 0 info.0 (at world.shards place).history stands (sym info.2);
      },
    )

pub returns-in-Fresh : goal.returns-in-Fresh
returns-in-Fresh c =
    let world = world_of c.args.self.now in
    let found = c.in-Ok.found in
    let request = c.args.request.now in
    let place = found.card % world.issuer.shards in
    let its = planned (goal.at.returns-in-Fresh c).After-plan in
    let fresh = subst (IsPlanned world.issuer (at world.shards place).history request found.card found.keys c.index-row.result.now) c.in-Fresh.is its.1 in
    let home = home-card world request found.card fresh.number_is in
    let step = subst (λ (q : Request). IsStep c.index-row.result.now q c.in-Fresh.reply c.in-Fresh.field-1) its.0 c.in-Fresh.ensures.step in
    let legal = planned-legal c.in-Fresh.reply c.in-Fresh.field-1 fresh step in (
      own-exchange world request found.request c.in-Fresh.reply place its.0 home (planned-own c.in-Fresh.reply c.in-Fresh.field-1 fresh),
      subst (λ shard. IsLegalDecision (grounds_of world.issuer) shard (at world.shards shard).history request c.in-Fresh.reply) (sym home) legal,
    )

pub returns-in_default-plan : goal.returns-in_default-plan
returns-in_default-plan c =
    let world = world_of c.args.self.now in
    let request = c.args.request.now in
    let its = planned (goal.at.returns-in_default-plan c).After-plan in
    subst (λ shard. IsUnused (decided_for request (at world.shards shard).history) request → ⊥)
    (sym (home-card world request c.in-Ok.found.card its.1.number_is))
    (planned-used c.plan.result c.in_default-plan.not-Fresh its.1)
