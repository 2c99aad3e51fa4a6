-- The barrier counts if its number is the next one.
use Rattle.std.proofs.Common.{◌≡◌, ◌≢◌, ◌+◌, sym, subst, ap, arith}
use Rattle.one_history.specs.Streams.{OfBarrier}
use Rattle.bridge_rule.specs.Openings.{barrier_of}
use Rattle.bridge_rule.specs.Bridges.{BridgeState}
use Rattle.bridge_rule.specs.Events.{ReadsMessage}
use Rattle.bridge_rule.proofs.ReadingBarriers.{reads-barrier, reads-other_barrier}
use Rattle.bridge_rule.proofs.bridge.Bridge.read_barrier.Goals as goal

pub returns-then-opening-self-clause-event : goal.returns-then-opening-self-clause-event
returns-then-opening-self-clause-event c =
    let same = ap (λ (b : BridgeState). b.last.number) c.self.view_is in
    let apart = c.if-opening-self.true in
    let other : c.args.opening.now.number ≢ c.args.self.now.last.number + 1 = omega arith in
    reads-other_barrier c.args.self.now c.args.opening.now other

pub returns-clause-event : goal.returns-clause-event
returns-clause-event c =
    let same = ap (λ (b : BridgeState). b.last.number) c.self.view_is in
    let here = c.if-opening-self.false in
    let next : c.args.opening.now.number ≡ c.args.self.now.last.number + 1 = omega arith in
    subst (λ (new : BridgeState). ReadsMessage c.args.self.now new (OfBarrier (barrier_of c.args.opening.now)) (λ journals. journals))
    (sym c.open.ensures) (reads-barrier c.args.self.now c.args.opening.now c.requires.told next)
