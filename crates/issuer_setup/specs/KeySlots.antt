-- Where an issuer has the master keys of a card from a key set in one suite.
use Rattle.std.specs.Prelude.{◌≡◌, ℕ, Option, Some, slice_get}
use Rattle.std.specs.Option.{option_and_then}
use Rattle.issuer_base.specs.declared.request.Request.{Request}
use Rattle.key_derive.specs.declared.card.CardKeys.{CardKeys}
use Rattle.key_derive.specs.CardSecret.{keys_in}
use Rattle.issuer_setup.specs.declared.kept_keys.KeySlot.{KeySlot}
use Rattle.issuer_setup.specs.IssuerSetup.{Setup, keys_of}
use Rattle.issuer_setup.specs.KeptKeys.{kept_keys}

-- the master keys in this slot, or none
abbrev pub keys_at : Setup → KeySlot → Option CardKeys
keys_at issuer slot = option_and_then (keys_in slot.suite)
    (slice_get (kept_keys issuer.keys issuer.cards).pairs slot.index)

-- the slot has the master keys of this card in the request's suite, from the key set that the request's derivation key
-- index names
pub record IsSlotOf (issuer : Setup) (card : ℕ) (request : Request) (slot : KeySlot) : Type 0 where
  pub keys : CardKeys
  pub stored : keys_at issuer slot ≡ Some keys
  pub keys_are : keys_of issuer card request ≡ Some keys
