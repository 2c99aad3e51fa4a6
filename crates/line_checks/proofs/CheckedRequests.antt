-- A request passes its check exactly where it is for an ARQC, has its keys and has the cryptogram that they give.
use Rattle.std.proofs.Common.{◌≡◌, ◌≢◌, ℕ, Bool, true, false, if◌then◌else◌, refl, ap, ap₂, ◌∙◌}
use Rattle.std.proofs.Common.{Option, None, Some, Result, Ok, Err}
use Rattle.std.proofs.lemmas.Slice.Eq.{bytes_eq-Decides}
use Rattle.issuer_base.specs.declared.request.Request.{Request}
use Rattle.issuer_base.specs.declared.answer.Refusal.{Refusal}
use Rattle.issuer_base.specs.declared.answer.Refusal.TheVariants.{BadCryptogram, NotArqc}
use Rattle.issuer_base.specs.ChipData.{is_arqc}
use Rattle.card_history.specs.declared.decision.Asked.{Asked}
use Rattle.card_history.specs.declared.decision.Asked.TheVariants.{Decide}
use Rattle.card_history.specs.Records.{card_of}
use Rattle.key_derive.specs.declared.card.CardKeys.{CardKeys}
use Rattle.cryptogram_in.specs.Cryptogram.{application_cryptogram}
use Rattle.issuer_setup.specs.CardList.{number_of}
use Rattle.issuer_setup.specs.IssuerSetup.{Setup, keys_of}
use Rattle.line_checks.specs.Reading.{checked, of_card, under_keys, is_right}
use Rattle.line_checks.specs.RequestFacts.{HasItsKeys, HasValidAc}

-- what the check of a request comes to
pub record IsChecked (issuer : Setup) (request : Request) : Type 0 where
  pub is_for_a_cryptogram_request : is_arqc request ≡ true
  pub has_its_keys : HasItsKeys issuer request
  pub has_valid_ac : HasValidAc issuer request

either : Bool → Request → Result Asked Refusal
either right request = if right then Ok (Decide request) else Err BadCryptogram

on_arqc : Bool → Option CardKeys → Request → Result Asked Refusal
on_arqc arqc keys request = if arqc then under_keys keys request else Err NotArqc

-- ---- what passes has each fact

ac-right : (keys : CardKeys) (request : Request) (right : Bool) → is_right keys request ≡ right
    → either right request ≡ Ok (Decide request) → request.ac ≡ application_cryptogram keys request
unfolding either
ac-right keys request true is passes = (bytes_eq-Decides request.ac (application_cryptogram keys request)).0 is
ac-right keys request false is passes = absurd cc

ac-wrong : (keys : CardKeys) (request : Request) (right : Bool) → is_right keys request ≡ right → request.ac ≢ application_cryptogram keys request
    → right ≡ false
ac-wrong keys request true is other = absurd (other ((bytes_eq-Decides request.ac (application_cryptogram keys request)).0 is))
ac-wrong keys request false is other = refl

module _ (issuer : Setup) (request : Request) where
  keys-facts : (number : ℕ) (arqc : Bool) (keys : Option CardKeys)
      → number_of (card_of request) issuer.cards ≡ Some number → is_arqc request ≡ arqc
      → keys_of issuer number request ≡ keys → on_arqc arqc keys request ≡ Ok (Decide request)
      → IsChecked issuer request
  unfolding either on_arqc
  keys-facts number false keys number_is arqc_is keys_are passes = absurd cc
  keys-facts number true None number_is arqc_is keys_are passes = absurd cc
  keys-facts number true (Some keys) number_is arqc_is keys_are passes =
      let its : HasItsKeys issuer request =
      record { number = number; keys = keys; number_is = number_is; keys_are = keys_are } in
      record {
        is_for_a_cryptogram_request = arqc_is;
        has_its_keys = its;
        has_valid_ac = record { its = its; ac_is = ac-right keys request (is_right keys request) refl passes };
      }

  card-facts : (found : Option ℕ) → number_of (card_of request) issuer.cards ≡ found
      → of_card issuer found request ≡ Ok (Decide request) → IsChecked issuer request
  unfolding on_arqc
  card-facts None is passes = absurd cc
  card-facts (Some number) is passes =
      keys-facts number (is_arqc request) (keys_of issuer number request) is refl refl passes

  pub checked-facts : checked issuer request ≡ Ok (Decide request) → IsChecked issuer request
  checked-facts passes = card-facts (number_of (card_of request) issuer.cards) refl passes

  -- ---- and with them it passes

  pub facts-checked : is_arqc request ≡ true → HasValidAc issuer request → checked issuer request ≡ Ok (Decide request)
  unfolding either on_arqc
  facts-checked arqc valid =
      let its = valid.its in
      let right : is_right its.keys request ≡ true =
      (bytes_eq-Decides request.ac (application_cryptogram its.keys request)).1 valid.ac_is in
      ap (λ (found : Option ℕ). of_card issuer found request) its.number_is
      ∙ ap₂ (λ (arqc : Bool) (keys : Option CardKeys). on_arqc arqc keys request) arqc its.keys_are
      ∙ ap (λ (right : Bool). either right request) right

  -- ---- with another cryptogram it doesn't

  pub wrong-checked : (its : HasItsKeys issuer request) → is_arqc request ≡ true → request.ac ≢ application_cryptogram its.keys request
      → checked issuer request ≡ Err BadCryptogram
  unfolding either on_arqc
  wrong-checked its arqc other =
      ap (λ (found : Option ℕ). of_card issuer found request) its.number_is
      ∙ ap₂ (λ (arqc : Bool) (keys : Option CardKeys). on_arqc arqc keys request) arqc its.keys_are
      ∙ ap (λ (right : Bool). either right request) (ac-wrong its.keys request (is_right its.keys request) refl other)
