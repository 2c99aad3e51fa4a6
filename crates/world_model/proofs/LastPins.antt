-- The last PIN of a card that ran a prefix of its queue.
use Rattle.std.proofs.Common.{◌≡◌, ℕ, ◌<◌, List, length, take, slice_get, Option, Some, sym, ap, ◌∙◌, subst, inl, inr, arith}
use Rattle.std.proofs.Math.Seq.{take-append_seam}
use Rattle.std.proofs.lemmas.Option.{slice_get_cases}
use Rattle.issuer_base.specs.declared.command.Command.{Command}
use Rattle.card_history.specs.Records.{queue}
use Rattle.issuer_setup.specs.CardList.{name_of}
use Rattle.card_model.specs.Application.{CardState}
use Rattle.pin_card.specs.LastPin.{IsLastPin}
use Rattle.world_model.specs.FallBack.{IsGenuinelyReached}
use Rattle.world_model.specs.LastPins.{IsLastQueued}
use Rattle.world_model.specs.Stepping.{IsReached}
use Rattle.world_net.specs.WorldState.{WorldState, history_at}
use Rattle.world_model.proofs.FallenRuns.{genuine-order}
use Rattle.world_model.proofs.NetWrites.{reached-sound}

-- an element of a list
element : {X : Type 0} (xs : List X) (i : ℕ) → i < length xs → (x : X) × (slice_get xs i ≡ Some x)
element xs i within =
    elim (slice_get_cases xs i).1 [
      | inl found ↦ (found.0, found.2)
      | inr past ↦ let beyond = past.0 in absurd (omega (arith, within, beyond))
    ]

-- in a genuine run the last PIN of what a card ran is that of the first commands of its queue
pub genuine-last : (world : WorldState) (number : ℕ) (smc : List ℕ) (pin : Option (List ℕ)) → IsReached world → IsGenuinelyReached world
    → number < length world.cards
    → ((card : CardState) → slice_get world.cards number ≡ Some card → IsLastPin smc card.ran pin)
    → IsLastQueued world number smc pin
genuine-last world number smc pin reached genuine within last =
    let count = (reached-sound world reached).cards.count in
    let card = element world.cards number within in
    let info = element world.issuer.cards number (omega (arith, within, count)) in
    let order = genuine-order world genuine number info.0 card.0 info.1 card.1 in
    let front : take (length card.0.ran) (queue (name_of info.0) (history_at world number)) ≡ card.0.ran =
    ap (take (length card.0.ran)) order.front ∙ take-append_seam card.0.ran order.rest in
    record {
      info = info.0;
      info_is = info.1;
      card = card.0;
      card_is = card.1;
      last = subst (λ (commands : List Command). IsLastPin smc commands pin) (sym front) (last card.0 card.1);
    }
