-- An order is answered at its turn.
use Rattle.line_checks.specs.AtHand.{card_of_order}
use Rattle.host_calls.specs.Passes.{claims_of, logs_of}
use Rattle.host_calls.proofs.TiedTurns.{headed-there, tied-ordered}
use Rattle.host_calls.proofs.host.Host.order.Goals as goal

pub invariant_of-pass : goal.invariant_of-pass
invariant_of-pass g c =
    let host = c.args.self.now in
    let pass = c.args.pass.now in
    let order = c.args.found.now in
    let headed = headed-there host.issuer host.turns pass.turns host.shards c.requires.free.of.turns_are (card_of_order order) in
    record { tied = tied-ordered host.issuer (claims_of pass) (logs_of pass) c.order.result _ pass.tied order headed c.order.ensures.turn }
