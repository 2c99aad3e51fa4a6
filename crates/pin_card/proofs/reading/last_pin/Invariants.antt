-- The last PIN of the commands so far.
use Rattle.std.proofs.Common.{take}
use Rattle.pin_card.specs.LastPin.{IsLastPin}
use Rattle.pin_card.proofs.reading.last_pin.Given as goal

abbrev pub invariant-loop-command : goal.invariant-loop-command
invariant-loop-command l = IsLastPin l.smc.0 (take l.command-index l.commands) l.last
