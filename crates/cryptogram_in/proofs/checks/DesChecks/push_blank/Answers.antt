-- One more check, of zeros.
use Rattle.std.proofs.Common.{arith}
use Rattle.cryptogram_in.specs.Checks.{DesCheck, blank}
use Rattle.cryptogram_in.proofs.CheckParts.{room-left, from-added, whole-added}
use Rattle.cryptogram_in.proofs.checks.DesChecks.push_blank.Goals as goal

pub bounds-self-inside-len : goal.bounds-self-inside-len
bounds-self-inside-len c =
    let room = room-left c.self.inside.keys c.self.inside.counters.items _ _ _ c.self.view_is c.self.invariant c.requires in
    omega (arith, c.len.ensures.value, room.0)

pub push-requires : goal.push-requires
push-requires c =
    let inside = c.self.inside in
    (omega arith, (room-left inside.keys inside.counters.items _ _ _ c.self.view_is c.self.invariant c.requires).0)

pub push-requires-2 : goal.push-requires-2
push-requires-2 c =
    let inside = c.self.inside in
    (omega arith, (room-left inside.keys inside.counters.items _ _ _ c.self.view_is c.self.invariant c.requires).1)

pub push-requires-3 : goal.push-requires-3
push-requires-3 c =
    let inside = c.self.inside in
    (omega arith, (room-left inside.keys inside.counters.items _ _ _ c.self.view_is c.self.invariant c.requires).2)

pub invariant_of-self : goal.invariant_of-self
invariant_of-self c =
    let inside = c.self.inside in
    let room = room-left inside.keys inside.counters.items _ _ _ c.self.view_is c.self.invariant c.requires in
    let check : DesCheck = blank in
    whole-added inside.keys inside.counters.items inside.inputs.items inside.cryptograms.items _ _ _ c.len.result check c.self.invariant room.0
    c.push.ensures.items c.push-2.ensures.items c.push-3.ensures.items

pub returns : goal.returns
returns c =
    let inside = c.self.inside in
    let room = room-left inside.keys inside.counters.items _ _ _ c.self.view_is c.self.invariant c.requires in
    let check : DesCheck = blank in
    from-added inside.keys inside.counters.items inside.inputs.items inside.cryptograms.items _ _ _ c.len.result check c.args.self.now c.self.view_is
    c.self.invariant room.0 c.len.ensures.value
    c.push.ensures.items c.push-2.ensures.items c.push-3.ensures.items
