-- An issuer and its parts, which parts are valid, the keys of a card for a request, and the shard of a card.
use Rattle.std.specs.Prelude.{◌≡◌, ℕ, ◌%◌, true, false, List, Option, None, Some, slice_get}
use Rattle.std.specs.Option.{option_map_or}
use Rattle.issuer_base.specs.declared.request.Request.{Request}
use Rattle.issuer_base.specs.declared.request.Suite.{Suite}
use Rattle.issuer_base.specs.ChipData.{dki, suite_of}
use Rattle.issuer_base.specs.CardNames.{CardName}
use Rattle.key_derive.specs.declared.card.KeySet.{KeySet}
use Rattle.key_derive.specs.declared.card.CardKeys.{CardKeys}
use Rattle.key_derive.specs.CardKey.{card_keys}
use Rattle.decision_table.specs.declared.row.TableRow.{TableRow}
use Rattle.issuer_setup.specs.declared.card.CardInfo.{CardInfo}
use Rattle.issuer_setup.specs.declared.cards.CardsFault.{CardsFault}
use Rattle.issuer_setup.specs.declared.cards.CardsFault.TheVariants.{Card as BadCard, NoMemory as NoRoom}
use Rattle.issuer_setup.specs.declared.issuer.IssuerFault.{IssuerFault}
use Rattle.issuer_setup.specs.declared.issuer.IssuerFault.TheVariants.{Shards, Key, Card, NoMemory}
use Rattle.issuer_setup.specs.Shards.{are_shards}
use Rattle.issuer_setup.specs.KeyList.{bad_key, key_of}
use Rattle.issuer_setup.specs.CardList.{bad_card, number_of}

-- what an issuer has: the number of its shards, its key sets, its cards, and the rows of its decision table
pub record Setup : Type 0 where
  pub shards : ℕ
  pub keys : List KeySet
  pub cards : List CardInfo
  pub table : List TableRow

-- why cards are refused, as a fault of their issuer
abbrev pub fault_of_cards : CardsFault → IssuerFault
fault_of_cards (BadCard index) = Card index
fault_of_cards NoRoom = NoMemory

-- parts are refused at their first bad one: the number of shards, then the key sets, then the cards; or because memory
-- ran out
abbrev pub IsFaultOf : ℕ → List KeySet → List CardInfo → IssuerFault → Type 0
IsFaultOf shards keys cards Shards = are_shards shards ≡ false
IsFaultOf shards keys cards (Key index) = (are_shards shards ≡ true) × (bad_key keys ≡ Some index)
IsFaultOf shards keys cards (Card index) =
    (are_shards shards ≡ true) × (bad_key keys ≡ None) × (bad_card cards ≡ Some index)
IsFaultOf shards keys cards NoMemory = (are_shards shards ≡ true) × (bad_key keys ≡ None)

-- the master keys of a card in a suite, if there are the card and the key set, and the key set has keys of the suite
abbrev pub keys_from : Suite → Option KeySet → Option CardInfo → Option CardKeys
keys_from suite (Some set) (Some card) = card_keys set suite card.pan card.psn
keys_from suite _ _ = None

-- the master keys of the card with this number in the request's suite, from the key set that the request's derivation
-- key index names
abbrev pub keys_of : Setup → ℕ → Request → Option CardKeys
keys_of issuer card request =
    keys_from (suite_of request) (key_of (dki request) issuer.keys) (slice_get issuer.cards card)

-- the shard of a card: its number modulo the number of shards; a name that no card has belongs to shard 0
abbrev pub shard_of : Setup → CardName → ℕ
shard_of issuer name = option_map_or (λ number. number % issuer.shards) (number_of name issuer.cards) 0
