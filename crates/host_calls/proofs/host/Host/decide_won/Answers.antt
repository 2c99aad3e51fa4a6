-- A request whose claim was won is decided at its turn, and its claim is settled.
use Rattle.std.proofs.Common.{true, ap, ◌∙◌}
use Rattle.card_history.specs.Records.{card_of}
use Rattle.host_calls.specs.Passes.{claims_of, logs_of, open_in}
use Rattle.host_calls.proofs.Answered.{won-decides, seen-answers}
use Rattle.host_calls.proofs.TiedTurns.{headed-there, tied-won}
use Rattle.host_calls.proofs.Settling.{none-open}
use Rattle.host_calls.proofs.host.Host.decide_won.Goals as goal

pub invariant_of-pass : goal.invariant_of-pass
invariant_of-pass g c =
    let host = c.args.self.now in
    let pass = c.args.pass.now in
    let found = c.args.found.now in
    let headed = headed-there host.issuer host.turns pass.turns host.shards c.requires.held.of.turns_are (card_of found.request) in
    record {
      tied = rw c.settle.ensures.view (tied-won host.issuer (claims_of pass) (logs_of pass) c.decide-answer.result _ pass.tied found.request found.card
          c.requires.passed.0.card_is.number_is c.requires.held.own c.requires.held.alone headed c.decide-answer.ensures.turn);
    }

pub returns-clause-free : goal.returns-clause-free
returns-clause-free g c = record {
  of = record { claims_are = c.settle.ensures.seat; turns_are = c.decide-answer.ensures.seat };
  settled =
      ap (λ v. open_in v.claims) c.settle.ensures.view
      ∙ none-open c.decide-answer.result c.args.found.now.card c.args.found.now.request.atc (claims_of c.args.pass.now) c.requires.held.own
      c.requires.held.alone;
}

pub returns-clause-turn : goal.returns-clause-turn
returns-clause-turn g c =
    let host = c.args.self.now in
    let pass = c.args.pass.now in
    let request = c.args.found.now.request in
    let headed = headed-there host.issuer host.turns pass.turns host.shards c.requires.held.of.turns_are (card_of request) in
    record {
      turn = c.decide-answer.ensures.turn;
      won = won-decides host.issuer request (logs_of pass) c.decide-answer.result _ headed c.decide-answer.ensures.turn;
      seen = seen-answers host.issuer request (logs_of pass) c.decide-answer.result _ true c.decide-answer.ensures.turn;
    }
