-- The steps settle the journals, and where the bridge serves they change none.
use Rattle.std.proofs.Common.{List, map, refl, sym, ◌∙◌, subst, ap}
use Rattle.one_history.specs.Streams.{OfRecords}
use Rattle.bridge_rule.specs.declared.log.Step.{Step}
use Rattle.bridge_rule.specs.Bridges.{BridgeState, indexed, performed, steps_read, are_quiet, IsServing}
use Rattle.bridge_rule.specs.Events.{ReadsMessage}
use Rattle.bridge_rule.proofs.ReadingRecords.{reads-records}
use Rattle.bridge_rule.proofs.NeverDiverged.{placed-within, never-diverges}
use Rattle.bridge_rule.proofs.bridge.Bridge.read_records.Goals as goal

pub returns-clause-event : goal.returns-clause-event
returns-clause-event c ok =
    let bridge = c.args.self.now in
    let name = c.args.name.now.items in
    let records = map indexed c.args.records.now in
    let logs = c.take_or_skip.ensures.logs in
    let steps = c.take_or_skip.ensures.steps in
    let within = placed-within bridge.logs c.args.records.now c.take_or_skip.ensures.known c.requires.placed in
    subst (λ (others : List Step). ReadsMessage bridge c.take_or_skip.new.self (OfRecords name records)
    (λ journals shard. performed shard records others (journals shard))) (sym steps)
    (subst (λ (other : BridgeState). ReadsMessage bridge other (OfRecords name records)
    (λ journals shard. performed shard records (steps_read bridge name records) (journals shard))) (sym logs)
    (reads-records bridge name records c.requires.told within
    (λ serves. ap are_quiet (sym steps) ∙ c.has_diverged.ensures.quiet c.if-has_diverged.false
    (subst (λ (other : BridgeState). IsServing other.role) (sym logs) serves))))

pub returns-then-has_diverged-clause-converges : goal.returns-then-has_diverged-clause-converges
returns-then-has_diverged-clause-converges c of =
    let bridge = c.args.self.now in
    let name = c.args.name.now.items in
    let records = map indexed c.args.records.now in
    let logs = c.take_or_skip.ensures.logs in
    let steps = c.take_or_skip.ensures.steps in
    let within = placed-within bridge.logs c.args.records.now c.take_or_skip.ensures.known c.requires.placed in
    let serves : IsServing bridge.role =
    subst (λ (other : BridgeState). IsServing other.role) logs (c.has_diverged.ensures.serving c.if-has_diverged.true) in
    let quiet = never-diverges bridge name records serves within of in
    sym (c.has_diverged.ensures.changed c.if-has_diverged.true) ∙ ap are_quiet steps ∙ quiet

pub returns-clause-state : goal.returns-clause-state
returns-clause-state c = record {
  within = placed-within c.args.self.now.logs c.args.records.now c.take_or_skip.ensures.known c.requires.placed;
  logs = c.take_or_skip.ensures.logs;
  steps_are = c.take_or_skip.ensures.steps;
  taken = (
    λ is serves. ap are_quiet (sym c.take_or_skip.ensures.steps) ∙ c.has_diverged.ensures.quiet c.if-has_diverged.false
        (subst (λ (other : BridgeState). IsServing other.role) (sym c.take_or_skip.ensures.logs) serves),
    λ quiet. refl,
  );
}

pub returns-then-has_diverged-clause-state : goal.returns-then-has_diverged-clause-state
returns-then-has_diverged-clause-state c = record {
  within = placed-within c.args.self.now.logs c.args.records.now c.take_or_skip.ensures.known c.requires.placed;
  logs = c.take_or_skip.ensures.logs;
  steps_are = c.take_or_skip.ensures.steps;
  taken = (
    λ is. absurd (let no : ⊥ = cc in no),
    λ quiet.
        let serves : IsServing c.args.self.now.role =
        subst (λ (other : BridgeState). IsServing other.role) c.take_or_skip.ensures.logs (c.has_diverged.ensures.serving c.if-has_diverged.true) in
        sym (c.has_diverged.ensures.changed c.if-has_diverged.true) ∙ ap are_quiet c.take_or_skip.ensures.steps ∙ quiet serves,
  );
}
