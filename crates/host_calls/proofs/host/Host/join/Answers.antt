-- A pass that takes over another stays tied, and free.
use Rattle.std.proofs.Common.{sym, ap, ◌∙◌, arith, ◌≡◌}
use Rattle.turn_book.specs.Logs.{heads_of}
use Rattle.claim_words.specs.declared.view.Claimed.{Claimed}
use Rattle.claim_words.specs.ClaimViews.{is_open}
use Rattle.shared_seats.specs.Totals.{one_if}
use Rattle.shared_seats.proofs.Totals.{total-append}
use Rattle.turn_book.specs.TurnViews.{joined}
use Rattle.host_calls.specs.Passes.{claims_of, logs_of, open_in}
use Rattle.host_calls.proofs.Ties.{tied-joined}
use Rattle.host_calls.proofs.host.Host.join.Goals as goal

pub invariant_of-pass : goal.invariant_of-pass
invariant_of-pass g c =
    let view = c.join-2.ensures.view in
    let heads : heads_of (joined (logs_of c.args.pass.now) (logs_of c.args.other)).seen ≡ _ =
    ap (λ v. heads_of v.seen) (sym view) ∙ c.join-2.ensures.seat.of.heads in
    record {
      tied = rw (c.join.ensures.1, view) (tied-joined _ _ _ _ (heads ∙ sym c.requires.0.of.turns_are.of.heads) (heads ∙ sym c.requires.1.of.turns_are.of.heads)
          (rw view at c.join-2.ensures.fronts) c.args.pass.now.tied c.args.other.tied);
    }

pub returns-clause-pass : goal.returns-clause-pass
returns-clause-pass g c = record {
  of = record { claims_are = c.join.ensures.0; turns_are = c.join-2.ensures.seat };
  settled =
      ap (λ v. open_in v.claims) c.join.ensures.1
      ∙ omega (
        arith,
        total-append (λ (claim : Claimed). one_if (is_open claim.standing)) (claims_of c.args.pass.now).claims (claims_of c.args.other).claims,
        c.requires.0.settled,
        c.requires.1.settled,
      );
}
