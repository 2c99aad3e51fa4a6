-- The number of a card that the issuer has is that of one of its cards.
use Rattle.std.proofs.Common.{ap, sym, ◌∙◌}
use Rattle.card_history.specs.Records.{card_of}
use Rattle.issuer_setup.specs.CardList.{number_of}
use Rattle.issuer_base.specs.declared.request.Parts.{Parts}
use Rattle.line_checks.proofs.Numbers.{number-within}
use Rattle.clearing_check.proofs.LookUps.{sought-is}
use Rattle.clearing_check.proofs.presented.find_keys.Goals as goal

pub key_slot-requires : goal.key_slot-requires
key_slot-requires c =
    let cards = c.args.issuer.now.cards in
    let known =
    ap (λ (parts : Parts). number_of (card_of parts) cards) (sym c.parts-parts.ensures.same)
    ∙ sym c.in-Some.ensures.number in
    number-within cards (card_of c.args.request.now) c.in-Some.card known

pub returns-clause-known : goal.returns-clause-known
returns-clause-known c =
    let cards = c.args.issuer.now.cards in
    let known =
    ap (λ (parts : Parts). number_of (card_of parts) cards) (sym c.parts-parts.ensures.same)
    ∙ sym c.in-Some.ensures.number in
    sought-is c.args.issuer.now c.args.request.now c.in-Some.card c.in-Some-key_slot.slot known
    (sym c.is_final.ensures ∙ c.if-not-is_final.false) c.in-Some-key_slot.ensures
