-- The number of a name is that of one of the cards.
use Rattle.std.proofs.Common.{◌≡◌, ℕ, ◌<◌, List, length, Some}
use Rattle.std.proofs.lemmas.Option.{slice_get_within}
use Rattle.issuer_base.specs.CardNames.{CardName}
use Rattle.issuer_setup.specs.declared.card.CardInfo.{CardInfo}
use Rattle.issuer_setup.specs.CardList.{number_of}
use Rattle.issuer_setup.proofs.CardListLemmas.{number_of-found}

pub number-within : (cards : List CardInfo) (name : CardName) (number : ℕ) → number_of name cards ≡ Some number → number < length cards
number-within cards name number known =
    let found = number_of-found name cards number known in
    slice_get_within cards number found.0 found.1
