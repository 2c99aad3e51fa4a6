-- The first steps are skips, and the others as they were.
use Rattle.std.proofs.Common.{◌≡◌, take, replicate}
use Rattle.bridge_rule.specs.declared.log.Step.TheVariants.{Skips}
use Rattle.bridge_rule.proofs.reading.skip_all.Given as goal

abbrev pub invariant-loop-step : goal.invariant-loop-step
invariant-loop-step l = take l.step-index l.steps ≡ replicate l.step-index Skips
