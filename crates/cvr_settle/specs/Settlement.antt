-- What a card reports of the issuer script commands that the last reply carried to it. The issuer application data have
-- the last online ATC register, the ATC of the last transaction in which the card verified an ARPC, and count the
-- commands that it ran since: EMV 4.3 Book 3, section 10.10. Their coding, and that the count belongs to the register,
-- is this project's profile.
use Rattle.std.specs.Prelude.{ℕ, ◌&&◌, ◌==◌, nat_le, nat_lt, if◌then◌else◌, Option, Some, None}
use Rattle.cvr_settle.specs.declared.settlement.Flight.{Flight}
use Rattle.cvr_settle.specs.declared.settlement.Settled.{Settled}
use Rattle.cvr_settle.specs.declared.settlement.Settled.TheVariants.{Ran, Nothing, Halt}

-- so many ran, if the register is the flight's ATC and no more than were sent; none, if nothing was in flight or the
-- register is below it, as the reply never reached the card; else the card and the host don't agree
abbrev pub settled : Option Flight → ℕ → ℕ → Settled
settled None register count = Nothing
settled (Some flight) register count =
    if register == flight.counter && nat_le count flight.size
    then Ran count
    else if nat_lt register flight.counter then Nothing else Halt
