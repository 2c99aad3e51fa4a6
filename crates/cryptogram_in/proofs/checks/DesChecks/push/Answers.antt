-- One more check.
use Rattle.std.proofs.Common.{◌∙◌, ◌++◌, ◌∷◌, [], ap, arith}
use Rattle.issuer_base.specs.declared.request.Parts.{Parts}
use Rattle.cryptogram_in.specs.Checks.{DesCheck, check_of}
use Rattle.cryptogram_in.proofs.CheckParts.{room-left, from-added, whole-added}
use Rattle.cryptogram_in.proofs.checks.DesChecks.push.Goals as goal

pub bounds-self-inside-len : goal.bounds-self-inside-len
bounds-self-inside-len c =
    let room = room-left c.self.inside.keys c.self.inside.counters.items _ _ _ c.self.view_is c.self.invariant c.requires in
    omega (arith, c.len.ensures.value, room.0)

pub push-requires : goal.push-requires
push-requires c =
    let inside = c.self.inside in
    (omega arith, (room-left inside.keys inside.counters.items _ _ _ c.self.view_is c.self.invariant c.requires).0)

pub push-requires-2 : goal.push-requires-2
push-requires-2 c =
    let inside = c.self.inside in
    (omega arith, (room-left inside.keys inside.counters.items _ _ _ c.self.view_is c.self.invariant c.requires).1)

pub push-requires-3 : goal.push-requires-3
push-requires-3 c =
    let inside = c.self.inside in
    (omega arith, (room-left inside.keys inside.counters.items _ _ _ c.self.view_is c.self.invariant c.requires).2)

pub invariant_of-self : goal.invariant_of-self
invariant_of-self c =
    let inside = c.self.inside in
    let room = room-left inside.keys inside.counters.items _ _ _ c.self.view_is c.self.invariant c.requires in
    let check : DesCheck = check_of c.args.key c.args.request.now in
    whole-added inside.keys inside.counters.items inside.inputs.items inside.cryptograms.items _ _ _ c.len.result check c.self.invariant room.0
    (c.push.ensures.items ∙ ap (λ (parts : Parts). inside.counters.items ++ parts.atc ∷ []) c.parts-parts.ensures.same)
    (c.push-2.ensures.items ∙ ap (λ text. inside.inputs.items ++ text ∷ []) c.input.ensures)
    (c.push-3.ensures.items ∙ ap (λ (parts : Parts). inside.cryptograms.items ++ parts.ac ∷ []) c.parts-parts.ensures.same)

pub returns : goal.returns
returns c =
    let inside = c.self.inside in
    let room = room-left inside.keys inside.counters.items _ _ _ c.self.view_is c.self.invariant c.requires in
    let check : DesCheck = check_of c.args.key c.args.request.now in
    from-added inside.keys inside.counters.items inside.inputs.items inside.cryptograms.items _ _ _ c.len.result check c.args.self.now c.self.view_is
    c.self.invariant room.0 c.len.ensures.value
    (c.push.ensures.items ∙ ap (λ (parts : Parts). inside.counters.items ++ parts.atc ∷ []) c.parts-parts.ensures.same)
    (c.push-2.ensures.items ∙ ap (λ text. inside.inputs.items ++ text ∷ []) c.input.ensures)
    (c.push-3.ensures.items ∙ ap (λ (parts : Parts). inside.cryptograms.items ++ parts.ac ∷ []) c.parts-parts.ensures.same)
