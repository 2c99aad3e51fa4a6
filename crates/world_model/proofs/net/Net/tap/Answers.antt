-- The card's own step.
use Rattle.std.proofs.Common.{◌<◌, length, arith, refl, rules}
use Rattle.std.proofs.lemmas.Bool.{true≢false}
use Rattle.world_model.specs.Stepping.{world_of}
use Rattle.world_model.proofs.NetSteps.{tap-refused, tap-taken}
use Rattle.world_model.proofs.net.Net.tap.Goals as goal

pub returns-in_default-clause-taken : goal.returns-in_default-clause-taken
returns-in_default-clause-taken c =
    let within : c.args.number < length c.args.self.now.cards.items = omega (arith, c.len.ensures, c.if-place-len.false) in
    tap-refused (world_of c.args.self.now) c.args.number c.args.terminal.now c.index_mut.result.now c.tap.new.self c.reserve.new.self.items within
    c.index_mut.ensures.value (c.in_default.ensures.last.0 refl) c.in_default.ensures.unchanged c.reserve.ensures.items

pub returns-clause-taken : goal.returns-clause-taken
returns-clause-taken c =
    let within : c.args.number < length c.args.self.now.cards.items = omega (arith, c.len.ensures, c.if-place-len.false) in
    tap-taken (world_of c.args.self.now) c.args.number c.args.terminal.now c.index_mut.result.now c.tap.new.self c.push_reserved.new.self.items within
    c.index_mut.ensures.value c.in-Some.request (search rules) (λ last. true≢false (c.in-Some.ensures.last.1 last)) c.in-Some.ensures.step (cc)
