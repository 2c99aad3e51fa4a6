-- What an issuer says of a request's keys and of its cryptogram: a record for each.
use Rattle.std.specs.Prelude.{◌≡◌, ℕ, Some}
use Rattle.issuer_base.specs.declared.request.Request.{Request}
use Rattle.card_history.specs.Records.{card_of}
use Rattle.key_derive.specs.declared.card.CardKeys.{CardKeys}
use Rattle.cryptogram_in.specs.Cryptogram.{application_cryptogram}
use Rattle.issuer_setup.specs.CardList.{number_of}
use Rattle.issuer_setup.specs.IssuerSetup.{Setup, keys_of}

-- the request's card has keys in the request's suite under the key set that the request's derivation key index (DKI)
-- names
pub record HasItsKeys (issuer : Setup) (request : Request) : Type 0 where
  -- the card's number among the issuer's cards, and its master keys from that key set
  pub number : ℕ
  pub keys : CardKeys
  pub number_is : number_of (card_of request) issuer.cards ≡ Some number
  pub keys_are : keys_of issuer number request ≡ Some keys

-- the request's application cryptogram is the one that these keys give over the request: EMV 4.3 Book 2, section 8.1;
-- `is_right` is its test
pub record HasValidAc (issuer : Setup) (request : Request) : Type 0 where
  pub its : HasItsKeys issuer request
  pub ac_is : request.ac ≡ application_cryptogram its.keys request
