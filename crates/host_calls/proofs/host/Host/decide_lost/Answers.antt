-- A request whose claim was lost is answered at its turn.
use Rattle.std.proofs.Common.{false}
use Rattle.card_history.specs.Records.{card_of}
use Rattle.host_calls.specs.Passes.{claims_of, logs_of}
use Rattle.host_calls.proofs.Answered.{seen-answers}
use Rattle.host_calls.proofs.TiedTurns.{headed-there, tied-lost}
use Rattle.host_calls.proofs.host.Host.decide_lost.Goals as goal

pub invariant_of-pass : goal.invariant_of-pass
invariant_of-pass g c =
    let host = c.args.self.now in
    let pass = c.args.pass.now in
    let found = c.args.found.now in
    let headed = headed-there host.issuer host.turns pass.turns host.shards c.requires.free.of.turns_are (card_of found.request) in
    record { tied = tied-lost host.issuer (claims_of pass) (logs_of pass) c.decide.result _ pass.tied found.request headed c.decide.ensures.turn }

pub returns-clause-turn : goal.returns-clause-turn
returns-clause-turn g c = record {
  turn = c.decide.ensures.turn;
  won = tt;
  seen = seen-answers c.args.self.now.issuer c.args.found.now.request (logs_of c.args.pass.now) c.decide.result _ false c.decide.ensures.turn;
}
