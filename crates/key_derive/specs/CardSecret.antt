-- The master keys of a card of both suites.
use Rattle.std.specs.Prelude.{ℕ, List, Option, Some}
use Rattle.issuer_base.specs.declared.request.Suite.{Suite}
use Rattle.issuer_base.specs.declared.request.Suite.TheVariants.{TripleDes, Aes}
use Rattle.key_derive.specs.declared.card.KeySet.{KeySet}
use Rattle.key_derive.specs.declared.card.CardKeys.{CardKeys}
use Rattle.key_derive.specs.CardKey.{des_keys, card_keys}

-- the keys with triple DES and, if there are any, those with AES
pub record BothKeys : Type 0 where
  pub des : CardKeys
  pub aes : Option CardKeys

-- those of a card from a key set
abbrev pub secrets_of : KeySet → List ℕ → ℕ → BothKeys
secrets_of set pan psn = record { des = des_keys set pan psn; aes = card_keys set Aes pan psn }

-- those of one suite
abbrev pub keys_in : Suite → BothKeys → Option CardKeys
keys_in TripleDes keys = Some keys.des
keys_in Aes keys = keys.aes
