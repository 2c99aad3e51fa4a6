-- What is shared is a host, or the stores of the shards come back.
use Rattle.std.proofs.Common.{◌≡◌, refl, subst, sym}
use Rattle.claim_words.specs.declared.view.ClaimView.{ClaimView}
use Rattle.host_calls.specs.Passes.{open_in}
use Rattle.host_calls.proofs.Sharing.{all-come-back, opened-counted}
use Rattle.host_calls.proofs.load.open.Goals as goal

pub returns-in-Err-clause-stopped : goal.returns-in-Err-clause-stopped
returns-in-Err-clause-stopped g c =
    rw (c.take_stores.ensures.stores, c.in-Err.ensures.refused)
    (all-come-back c.args.issuer c.args.olds.now.value.items c.args.read.now.items c.args.stores.now.value.items c.args.lists.shards.items
    c.requires.loaded)

pub invariant_of-host : goal.invariant_of-host
invariant_of-host g c = record {
  cards = c.in-Ok.ensures.shared.cards_are;
  shards = c.in-Ok.ensures.shared.turns_are;
  counted = opened-counted g.S.Store.bytes g.S.Store.disk g.S.Store.faults c.args.issuer c.args.olds.now.value.items _ c.args.stores.now.value.items _
      c.in-Ok.ensures.shared.opening;
  recorded = c.in-Ok.ensures.shared.recorded;
}

pub returns-in-Ok-clause-pass : goal.returns-in-Ok-clause-pass
returns-in-Ok-clause-pass g c =
    let shared = c.in-Ok.ensures.shared in
    record {
      free = record {
        of = record { claims_are = shared.claiming; turns_are = shared.turning };
        settled = subst (λ (view : ClaimView). open_in view.claims ≡ 0) (sym shared.claims_are) refl;
      };
      claims_are = shared.claims_are;
      logs_are = shared.logs_are;
    }
