-- In a genuine run each card ran a prefix of its queue.
use Rattle.std.proofs.Common.{◌≡◌, List, Some, slice_get, subst, sym, ap, ◌∙◌}
use Rattle.std.proofs.lemmas.Option.{get_or_from_slice_get}
use Rattle.issuer_base.specs.declared.command.Command.{Command}
use Rattle.card_model.specs.Application.{CardState}
use Rattle.pin_card.specs.LastPin.{IsLastPin}
use Rattle.world_model.specs.Stepping.{IsReached}
use Rattle.world_net.specs.WorldState.{WorldState}
use Rattle.world_model.proofs.LastPins.{genuine-last}
use Rattle.world_model.proofs.world.World.last_pin.Goals as goal

pub returns-clause-genuine : goal.returns-clause-genuine
returns-clause-genuine c = λ genuine.
    genuine-last c.args.self.now c.args.card c.args.smc.now.0 c.last_pin.result
    (subst IsReached c.self.view_is c.self.invariant.reached) genuine c.requires
    (λ card card_is.
    let inside = subst (λ (world : WorldState). slice_get world.cards c.args.card ≡ Some card) (sym c.self.view_is) card_is in
    let same : c.ran.result.now ≡ card.ran =
    c.ran.ensures
    ∙ ap (λ (card : CardState). card.ran) (c.index.ensures ∙ get_or_from_slice_get c.self.inside.net.cards.items c.args.card card c.index.result.now inside) in
    subst (λ (commands : List Command). IsLastPin c.args.smc.now.0 commands c.last_pin.result) same c.last_pin.ensures)
