-- All names are in the whole seat, so none are left for another.
use Rattle.shared_seats.proofs.SeatNameLemmas.{whole_alone}
use Rattle.shared_seats.proofs.law.a_whole_seat_is_alone.Goals as goal

pub returns : goal.returns
returns c = whole_alone
