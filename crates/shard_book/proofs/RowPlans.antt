-- What a card's row knows and decides is what its shard does.
use Rattle.std.proofs.Common.{◌≡◌, ℕ, ◌/◌, List, ap, sym, ◌∙◌, subst, Option, Some, MatchOption}
use Rattle.std.proofs.lemmas.Option.{same_Some}
use Rattle.std.specs.List.{slice_get}
use Rattle.issuer_base.specs.declared.answer.Reply.{Reply}
use Rattle.issuer_base.specs.declared.entry.Entry.{Entry}
use Rattle.issuer_base.specs.CardNames.{CardName}
use Rattle.card_history.specs.Records.{card_of, decided}
use Rattle.card_history.specs.Turns.{IsUnused}
use Rattle.key_derive.specs.declared.card.CardKeys.{CardKeys}
use Rattle.issuer_setup.specs.declared.card.CardInfo.{CardInfo}
use Rattle.issuer_setup.specs.CardList.{name_of}
use Rattle.issuer_setup.specs.IssuerSetup.{Setup, keys_of}
use Rattle.issuer_setup.proofs.CardListLemmas.{number_of-found}
use Rattle.row_core.specs.CardRow.{CardRow, StandsFor as RowStandsFor}
use Rattle.row_core.specs.declared.row.Known.{Known}
use Rattle.row_core.specs.declared.scripts.Launch.{Launch}
use Rattle.row_core.specs.Known.{IsKnown}
use Rattle.row_core.specs.Launching.{IsLaunchFor}
use Rattle.row_core.specs.Replying.{reply_after, reply_by, reply_of_card, reply_to}
use Rattle.line_checks.specs.declared.checked.CheckedRequest.{CheckedRequest}
use Rattle.line_checks.specs.AtHand.{IsRequestAtHand}
use Rattle.shard_book.specs.ShardRows.{ShardRows, IsHome, RowsStandFor}
use Rattle.shard_book.specs.Steps.{IsKnownFor, IsLaunchAt}
use Rattle.shard_book.proofs.RowsAfter.{row-there}

-- the card and the keys that are at hand give the issuer's reply
reply-at_hand : (issuer : Setup) (found : CheckedRequest) (card : CardInfo) (history : List Entry) → IsRequestAtHand issuer found
    → slice_get issuer.cards found.card ≡ Some card
    → reply_after card.method found.keys issuer.table history found.request ≡ reply_to issuer history found.request
reply-at_hand issuer found card history at_hand card_is =
    sym (
    ap (λ (number : Option ℕ). reply_of_card issuer number history found.request) at_hand.card_is.number_is
    ∙ ap (λ (card : Option CardInfo). reply_by card (keys_of issuer found.card found.request) issuer.table history found.request) card_is
    ∙ ap (λ (keys : Option CardKeys). reply_by (Some card) keys issuer.table history found.request) at_hand.keys_are
    )

-- what the row of the request's card knows of it is known after each history of the shard
pub row-known : (issuer : Setup) (rows : ShardRows) (found : CheckedRequest) (row : CardRow) (known : Option Known) → IsRequestAtHand issuer found
    → IsHome rows found.card → slice_get rows.rows (found.card / rows.shards) ≡ Some row
    → ((card : CardInfo) (history : List Entry) → RowStandsFor card row history
    → MatchOption known (IsUnused (decided (name_of card) history) found.request) (IsKnown (decided (name_of card) history) found.request))
    → IsKnownFor issuer rows found known
row-known issuer rows found row known at_hand home row_is says history stands =
    let card = number_of-found (card_of found.request) issuer.cards found.card at_hand.card_is.number_is in
    subst
    (λ (name : CardName). MatchOption known (IsUnused (decided name history) found.request) (IsKnown (decided name history) found.request)) card.2
    (says card.0 history (row-there issuer rows history stands found.card home row row_is card.0 card.1))

-- what the row of the request's card decides is the issuer's reply
pub row-reply : (issuer : Setup) (rows : ShardRows) (found : CheckedRequest) (row : CardRow) (reply : Reply) → IsRequestAtHand issuer found
    → IsHome rows found.card → slice_get rows.rows (found.card / rows.shards) ≡ Some row
    → ((card : CardInfo) (history : List Entry) → RowStandsFor card row history → card_of found.request ≡ name_of card
    → reply ≡ reply_after card.method found.keys issuer.table history found.request)
    → (history : List Entry) → RowsStandFor issuer rows history → reply ≡ reply_to issuer history found.request
row-reply issuer rows found row reply at_hand home row_is decides history stands =
    let card = number_of-found (card_of found.request) issuer.cards found.card at_hand.card_is.number_is in
    decides card.0 history (row-there issuer rows history stands found.card home row row_is card.0 card.1) (sym card.2)
    ∙ reply-at_hand issuer found card.0 history at_hand card.1

-- and its launch is that of the card's row
pub row-launch : (rows : ShardRows) (found : CheckedRequest) (row : CardRow) (launch : Option Launch)
    → slice_get rows.rows (found.card / rows.shards) ≡ Some row → IsLaunchFor row found.request launch → IsLaunchAt rows found launch
row-launch rows found row launch row_is launches other other_is =
    subst (λ (row : CardRow). IsLaunchFor row found.request launch) (same_Some row other (sym row_is ∙ other_is)) launches
