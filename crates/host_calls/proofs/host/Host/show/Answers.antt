-- What is shown adds nothing, and the pass stays tied.
use Rattle.host_calls.specs.Passes.{claims_of, logs_of}
use Rattle.host_calls.proofs.TiedTurns.{headed-home, tied-shown}
use Rattle.host_calls.proofs.host.Host.show.Goals as goal

pub invariant_of-pass : goal.invariant_of-pass
invariant_of-pass g c =
    let host = c.args.self.now in
    let pass = c.args.pass.now in
    let headed = headed-home host.issuer host.turns pass.turns host.shards c.requires.free.of.turns_are c.args.card in
    record { tied = tied-shown host.issuer (claims_of pass) (logs_of pass) _ c.args.card c.show.result pass.tied headed c.show.ensures.turn }
