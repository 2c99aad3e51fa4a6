-- Barriers as the law has them.
use Rattle.one_history.specs.Streams.{Barrier}
use Rattle.bridge_rule.specs.declared.opening.Opening.{Opening}

-- the law's barrier
abbrev pub barrier_of : Opening → Barrier
barrier_of opening =
    record { number = opening.number; name = opening.name.items; machine = opening.machine.items }
