-- The last line was given to the sink.
use Rattle.issuer_top.proofs.run.Run.stop.Goals as goal

pub returns : goal.returns
returns g c = (
  c.stop_with-ending.result,
  record { stops = c.stop_with-ending.ensures.ended; count = c.stop_with-ending.ensures.count },
  c.ended.ensures,
)
