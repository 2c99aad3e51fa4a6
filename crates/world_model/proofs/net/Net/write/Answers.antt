-- A write is that of the claim's request.
use Rattle.std.proofs.Common.{◌≡◌, ◌<◌, length, Some, Ok, ap, sym, subst, arith}
use Rattle.issuer_base.specs.declared.request.Request.{Request}
use Rattle.card_history.specs.declared.decision.Asked.TheVariants.{Decide}
use Rattle.line_checks.specs.Reading.{checked}
use Rattle.world_net.specs.declared.parts.Exchange.{Exchange}
use Rattle.world_net.specs.WorldState.{claim_of}
use Rattle.world_model.specs.Stepping.{world_of, RowsStand}
use Rattle.world_model.proofs.NetRows.{rows-doubt}
use Rattle.world_model.proofs.NetWrites.{reached-sound, claim-there, claim-checked, writes-taken, writes-own, doubt-written, record-written, shards-doubt}
use Rattle.world_model.proofs.net.Net.write.Goals as goal

pub planned-requires-clause-checked : goal.planned-requires-clause-checked
planned-requires-clause-checked c =
    let world = world_of c.args.self.now in
    let it = claim-there (claim_of c.args.caller world.claims) c.in-Some.request c.in-Some.ensures in
    subst (λ (q : Request). checked world.issuer q ≡ Ok (Decide q)) it.2
    (claim-checked world (reached-sound world c.requires.reached) c.args.caller it.0 it.1)

pub returns-then-not-stored-clause-taken : goal.returns-then-not-stored-clause-taken
returns-then-not-stored-clause-taken c =
    let world = world_of c.args.self.now in
    let request = c.in-Some.request in
    let exchange = c.in-Some-planned.exchange in
    let it = claim-there (claim_of c.args.caller world.claims) request c.in-Some.ensures in
    let planned = c.in-Some-planned.ensures in
    let within : c.home_of-home.result < length world.shards = omega (arith, c.home_of-home.ensures.within, c.requires.shards) in
    let shards = shards-doubt world.shards c.home_of-home.result (Some exchange) c.index_mut.result.now c.set_doubt.new.self within c.index_mut.ensures.value
    c.set_doubt.ensures in
    writes-taken world _ c.args.caller c.args.stored it.0 request exchange it.1 it.2 (ap (λ (e : Exchange). e.request) planned.0) planned.1
    (doubt-written world c.args.caller c.args.stored request exchange c.home_of-home.result _ c.if-not-stored.true shards c.home_of-home.ensures.home)

pub returns-then-not-stored-clause-own : goal.returns-then-not-stored-clause-own
returns-then-not-stored-clause-own c =
    let world = world_of c.args.self.now in
    let request = c.in-Some.request in
    let exchange = c.in-Some-planned.exchange in
    let it = claim-there (claim_of c.args.caller world.claims) request c.in-Some.ensures in
    let within : c.home_of-home.result < length world.shards = omega (arith, c.home_of-home.ensures.within, c.requires.shards) in
    let shards = shards-doubt world.shards c.home_of-home.result (Some exchange) c.index_mut.result.now c.set_doubt.new.self within c.index_mut.ensures.value
    c.set_doubt.ensures in
    writes-own world _ c.args.caller c.args.stored it.0 request exchange it.1 it.2 c.in-Some-planned.ensures.0
    (doubt-written world c.args.caller c.args.stored request exchange c.home_of-home.result _ c.if-not-stored.true shards c.home_of-home.ensures.home)

pub returns-then-not-stored-clause-rows : goal.returns-then-not-stored-clause-rows
returns-then-not-stored-clause-rows c =
    let world = world_of c.args.self.now in
    let within : c.home_of-home.result < length world.shards = omega (arith, c.home_of-home.ensures.within, c.requires.shards) in
    subst (RowsStand world.issuer c.args.self.now.rows.items)
    (sym (shards-doubt world.shards c.home_of-home.result _ c.index_mut.result.now c.set_doubt.new.self within c.index_mut.ensures.value c.set_doubt.ensures))
    (rows-doubt world.issuer c.args.self.now.rows.items world.shards c.requires.rows c.home_of-home.result _ within)

pub returns-clause-taken : goal.returns-clause-taken
returns-clause-taken c =
    let world = world_of c.args.self.now in
    let request = c.in-Some.request in
    let exchange = c.in-Some-planned.exchange in
    let it = claim-there (claim_of c.args.caller world.claims) request c.in-Some.ensures in
    let planned = c.in-Some-planned.ensures in
    let same = ap (λ (e : Exchange). e.request) planned.0 in
    writes-taken world _ c.args.caller c.args.stored it.0 request exchange it.1 it.2 same planned.1
    (record-written world (world_of c.join.new.self) c.args.caller c.args.stored request exchange _ c.if-not-stored.false c.in_ok-join.ensures.done
    same c.end_claim.ensures)

pub returns-clause-own : goal.returns-clause-own
returns-clause-own c =
    let world = world_of c.args.self.now in
    let request = c.in-Some.request in
    let exchange = c.in-Some-planned.exchange in
    let it = claim-there (claim_of c.args.caller world.claims) request c.in-Some.ensures in
    let own = c.in-Some-planned.ensures.0 in
    writes-own world _ c.args.caller c.args.stored it.0 request exchange it.1 it.2 own
    (record-written world (world_of c.join.new.self) c.args.caller c.args.stored request exchange _ c.if-not-stored.false c.in_ok-join.ensures.done
    (ap (λ (e : Exchange). e.request) own) c.end_claim.ensures)
