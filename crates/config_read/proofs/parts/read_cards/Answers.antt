-- The fault is at the first bad card, or else at the first malformed element; without either, all cards are parsed.
use Rattle.std.proofs.Common.{◌≡◌, ◌≤◌, length, Ok, Err, ap, sym, ◌∙◌}
use Rattle.std.proofs.lemmas.Result.{err_from_is_err_and}
use Rattle.serde_json.specs.View.{view}
use Rattle.issuer_base.specs.declared.limits.TheConstants.{MAX_CARDS}
use Rattle.issuer_setup.proofs.CardListLemmas.{bad_card-below}
use Rattle.config_read.specs.Elements.{card_in}
use Rattle.config_read.proofs.PartsLemmas.{front-few, cards_in-refused, cards_in-silent, cards_in-whole}
use Rattle.config_read.proofs.parts.read_cards.Goals as goal

pub of_element-requires : goal.of_element-requires
of_element-requires c =
    let few = front-few card_in c.in_ok-elements.elements.now c.in_ok-front_cards.field-0.items MAX_CARDS c.in_ok-front_cards.ensures.cards
    c.in_ok-elements.ensures.few in
    let refused = rw c.in-Err-Card.field-0-is at c.in-Err-Card.ensures.refused in
    rw c.in-Err-Card.place-is (bad_card-below c.in_ok-front_cards.field-0.items _ few refused)

pub returns-in-Err-Card : goal.returns-in-Err-Card
returns-in-Err-Card c =
    let few = front-few card_in c.in_ok-elements.elements.now c.in_ok-front_cards.field-0.items MAX_CARDS c.in_ok-front_cards.ensures.cards
    c.in_ok-elements.ensures.few in
    let refused = rw c.in-Err-Card.field-0-is at c.in-Err-Card.ensures.refused in
    let fault = rw c.in-Err-Card.place-is at c.of_element.ensures in
    λ _. cards_in-refused (view c.args.value.now) c.in_ok-elements.elements.now c.in_ok-front_cards.field-0.items
    c.in_ok-elements.ensures.elements c.in_ok-front_cards.ensures.cards few _ c.in_ok-elements.ensures.some refused
    ∙ sym (ap Err fault)

pub returns-in_err-all_said : goal.returns-in_err-all_said
returns-in_err-all_said c =
    let few = front-few card_in c.in_ok-elements.elements.now c.in_ok-front_cards.field-0.items MAX_CARDS c.in_ok-front_cards.ensures.cards
    c.in_ok-elements.ensures.few in
    let p = err_from_is_err_and c.from_residual-in_err-all_said.result c.from_residual-in_err-all_said.ensures.1 in
    let kept : c.as_slice.result.now ≡ c.in_ok-front_cards.field-0.items = c.as_slice.ensures.same ∙ c.in-Ok.ensures.same.1 in
    let silent = rw (kept, ← p.2) at c.in_err-all_said.ensures in
    rw p.1 (λ _. cards_in-silent (view c.args.value.now) c.in_ok-elements.elements.now c.in_ok-front_cards.field-0.items
    c.in_ok-elements.ensures.elements c.in_ok-front_cards.ensures.cards few c.in-Ok.ensures.same.0 silent.0 ∙ sym (ap Err silent.1))

pub returns : goal.returns
returns c =
    let few = front-few card_in c.in_ok-elements.elements.now c.in_ok-front_cards.field-0.items MAX_CARDS c.in_ok-front_cards.ensures.cards
    c.in_ok-elements.ensures.few in
    let kept : c.as_slice.result.now ≡ c.in_ok-front_cards.field-0.items = c.as_slice.ensures.same ∙ c.in-Ok.ensures.same.1 in
    let all : length c.in_ok-elements.elements.now ≤ length c.in_ok-front_cards.field-0.items = rw kept at c.in_ok-all_said.ensures in
    cards_in-whole (view c.args.value.now) c.in_ok-elements.elements.now c.in_ok-front_cards.field-0.items
    c.in_ok-elements.ensures.elements c.in_ok-front_cards.ensures.cards few c.in-Ok.ensures.same.0 all
    ∙ sym (ap Ok c.in-Ok.ensures.same.1)
