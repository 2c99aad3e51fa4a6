-- The cards' master keys as an issuer holds them: card by card, those of a card in the order of the key sets.
use Rattle.std.specs.Prelude.{ℕ, List, length, map}
use Rattle.std.specs.List.{flat_map}
use Rattle.key_derive.specs.declared.card.KeySet.{KeySet}
use Rattle.key_derive.specs.CardSecret.{BothKeys, secrets_of}
use Rattle.issuer_setup.specs.declared.card.CardInfo.{CardInfo}

-- what the issuer holds: how many key sets there are, and the master keys of each pair of a card and a key set
pub record KeptPairs : Type 0 where
  pub sets : ℕ
  pub pairs : List BothKeys

-- the master keys of a card from each of these key sets, of both suites
abbrev pub pairs_of : List KeySet → CardInfo → List BothKeys
pairs_of keys card = map (λ set. secrets_of set card.pan card.psn) keys

-- what the issuer holds of these key sets and cards: the master keys of each card from each key set
abbrev pub kept_keys : List KeySet → List CardInfo → KeptPairs
kept_keys keys cards = record { sets = length keys; pairs = flat_map (pairs_of keys) cards }
