-- What the configuration says, or why it gave no issuer.
use Rattle.issuer_top.specs.Seen.{input_seen}
use Rattle.issuer_top.proofs.EndingSteps.{gives_input}
use Rattle.issuer_top.proofs.OpeningSteps.{is-configured, no-input, no-issuer}
use Rattle.issuer_top.proofs.opening.open_issuer.Goals as goal

pub returns-in-Err-clause-none : goal.returns-in-Err-clause-none
returns-in-Err-clause-none g c =
    rw c.stop_of.ensures (no-input (Unit {0}) _ _ _ c.in-Err.fault c.in-Err.ensures.count c.in-Err.ensures.last)

pub returns-in-Ok-read_issuer-clause-says : goal.returns-in-Ok-read_issuer-clause-says
returns-in-Ok-read_issuer-clause-says g c =
    is-configured _ _ _ (gives_input _ _ c.in-Ok.ensures.input c.in-Ok.ensures.absent) c.in-Ok-read_issuer.ensures.says

pub returns-in-Err-read_issuer-clause-none : goal.returns-in-Err-read_issuer-clause-none
returns-in-Err-read_issuer-clause-none g c = (
  c.in-Ok.ensures.count.counted,
  no-issuer (Unit {0}) _ (input_seen g.D.Input.Source c.read_issuer.new.source) _ _ c.in-Err-read_issuer.cause
      (gives_input _ _ c.in-Ok.ensures.input c.in-Ok.ensures.absent) c.in-Err-read_issuer.ensures.none
      c.in-Ok.ensures.new c.in-Err-read_issuer.ensures.count,
)
