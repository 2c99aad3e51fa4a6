-- What is shown of an issuer's cards.
use Rattle.std.specs.Prelude.{ℕ, List, [], slice_index_or}
use Rattle.std.specs.List.{flat_map}
use Rattle.issuer_setup.specs.declared.card.CardInfo.{CardInfo}
use Rattle.issuer_setup.specs.CardList.{name_of}
use Rattle.issuer_setup.specs.IssuerSetup.{Setup, shard_of}
use Rattle.desk_host.specs.CardText.{card_text}
use Rattle.host_loading.specs.Books.{ShardBook, histories_of}
use Rattle.card_history.specs.CardViews.{card_shown}

-- the line of a card, as it is after the history of its shard
abbrev pub shown_card : Setup → List ShardBook → CardInfo → List ℕ
shown_card issuer books card =
    card_text card.pan card.psn (card_shown (name_of card)
    (slice_index_or (histories_of books) (shard_of issuer (name_of card)) []))

-- the lines of cards, in their order
abbrev pub shown_text : Setup → List ShardBook → List CardInfo → List ℕ
shown_text issuer books cards = flat_map (shown_card issuer books) cards
