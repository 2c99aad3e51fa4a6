-- Two passes that were split from the first one are whole after they are joined.
use Rattle.std.proofs.Common.{[], arith}
use Rattle.shared_seats.specs.SeatNames.{first_names}
use Rattle.shared_seats.proofs.ManySeats.{whole_seated}
use Rattle.shared_seats.proofs.SeatNameLemmas.{whole_first}
use Rattle.sharing_tests.proofs.passes.close.Goals as goal

pub close-requires-clause-whole : goal.close-requires-clause-whole
close-requires-clause-whole c =
    rw (c.join.ensures.claims, c.requires.first, c.requires.other) (whole_seated first_names [] (omega arith) whole_first)
