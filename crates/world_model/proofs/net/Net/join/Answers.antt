-- The shard and the row of the request's card have the decision.
use Rattle.std.proofs.Common.{◌≡◌, ◌<◌, ◌%◌, List, length, set, Ok, ap, sym, ◌∙◌, subst, arith}
use Rattle.issuer_base.specs.declared.request.Request.{Request}
use Rattle.issuer_base.specs.declared.entry.Entry.{Entry}
use Rattle.issuer_base.specs.declared.entry.Entry.TheVariants.{Decided}
use Rattle.card_history.specs.declared.decision.Asked.TheVariants.{Decide}
use Rattle.card_history.specs.LegalRecords.{IsLegalDecision}
use Rattle.card_history.specs.Records.{card_of}
use Rattle.issuer_setup.specs.CardList.{number_of}
use Rattle.shard_book.proofs.LegalDecisions.{legal-checked}
use Rattle.line_checks.proofs.Numbers.{number-within}
use Rattle.shard_book.specs.Grounds.{grounds_of}
use Rattle.world_net.specs.WorldState.{ShardState, home_of}
use Rattle.world_model.specs.Stepping.{world_of, RowsStand}
use Rattle.world_net.proofs.Hosts.{at}
use Rattle.world_model.proofs.NetRows.{row-there, shard-read, shards-record}
use Rattle.world_net.proofs.Worlds.{home-card}
use Rattle.world_model.proofs.NetWrites.{put-same, rows-join}
use Rattle.world_model.proofs.net.Net.join.Goals as goal

pub returns-in_err-add-clause-rows : goal.returns-in_err-add-clause-rows
returns-in_err-add-clause-rows c =
    subst (RowsStand c.args.self.now.issuer c.args.self.now.rows.items)
    (sym (put-same c.args.self.now.shards.items c.from-home.result c.add.new.self c.index_mut.result.now c.in_err-add.ensures.unchanged
    c.index_mut.ensures.value)) c.requires.rows

pub index_mut-requires-2 : goal.index_mut-requires-2
index_mut-requires-2 c =
    let found = c.in-Ok.found in
    let within = row-there c.args.self.now.issuer c.args.self.now.rows.items c.args.self.now.shards.items c.requires.rows found.card
    (number-within c.args.self.now.issuer.cards (card_of found.request) found.card c.in-Ok.ensures.at_hand.card_is.number_is) in
    omega (arith, within)

pub returns-clause-rows : goal.returns-clause-rows
returns-clause-rows c =
    let world = world_of c.args.self.now in
    let found = c.in-Ok.found in
    let at_hand = c.in-Ok.ensures.at_hand in
    let request = c.args.exchange.now.request in
    let reply = c.args.exchange.now.reply in
    let legal = c.requires.legal in
    let place = found.card % world.issuer.shards in
    let passed : Ok (Decide found.request) ≡ Ok (Decide request) =
    c.in-Ok.ensures.request ∙ legal-checked world.issuer legal in
    let same : found.request ≡ request = cc in
    let at_home : c.from-home.result ≡ place = c.from-home.ensures ∙ c.shard_of.ensures.number in
    let within : c.from-home.result < length world.shards = omega (arith, c.from-home.ensures, c.shard_of.ensures.below, c.requires.shards) in
    let home : home_of world request ≡ place =
    home-card world request found.card (ap (λ (q : Request). number_of (card_of q) world.issuer.cards) (sym same) ∙ at_hand.card_is.number_is) in
    let made : Decided request c.copy.result ≡ Decided request reply = ap (Decided request) c.copy.ensures in
    let shards_are = shards-record world.shards c.from-home.result place (Decided request reply) _ c.index_mut.result.now c.add.new.self at_home within
    c.index_mut.ensures.value made c.in_ok-add.ensures.added in
    let read : c.index.result.now ≡ at world.shards c.from-home.result = shard-read world.shards _ _ within c.index.ensures in
    let at_end : length c.history.result.now ≡ length (at world.shards place).history =
    ap (λ (l : List Entry). length l) (c.history.ensures ∙ ap (λ (s : ShardState). s.history) (read ∙ ap (at world.shards) at_home)) in
    subst (RowsStand world.issuer (set c.args.self.now.rows.items found.card c.adopt.new.self)) (sym shards_are)
    (rows-join world.issuer c.args.self.now.rows.items world.shards c.requires.rows c.requires.shards found request reply c.copy-reply.result
    (length c.history.result.now) c.index_mut-2.result.now c.adopt.new.self c.adopt.result at_hand same c.copy-reply.ensures
    (subst (λ home. home < length world.shards) at_home within)
    (subst (λ shard. IsLegalDecision (grounds_of world.issuer) shard (at world.shards shard).history request reply) home legal)
    at_end c.index_mut-2.ensures.value c.adopt.ensures.exact c.adopt.ensures.adopted)
