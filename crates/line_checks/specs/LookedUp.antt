-- What is looked up for a line before its cryptogram is checked.
use Rattle.std.specs.Prelude.{◌≡◌, ◌≢◌, ℕ, List, [], ◌∷◌, ◌++◌, length, Option, None, Some, Result, Ok, Err, true}
use Rattle.std.specs.List.{AllZip}
use Rattle.issuer_base.specs.declared.answer.Refusal.{Refusal}
use Rattle.issuer_base.specs.declared.answer.Refusal.TheVariants.{BadCryptogram}
use Rattle.issuer_base.specs.declared.request.Request.{Request}
use Rattle.issuer_base.specs.declared.request.Suite.TheVariants.{TripleDes}
use Rattle.issuer_base.specs.ChipData.{is_arqc, suite_of}
use Rattle.card_history.specs.Records.{card_of}
use Rattle.card_history.specs.declared.decision.Asked.{Asked}
use Rattle.chip_request.specs.declared.line.LineKind.TheVariants.{Ask}
use Rattle.line_checks.specs.Parsed.{line_of}
use Rattle.chip_request.specs.Reading.{request_of}
use Rattle.des_block.specs.declared.Key16.{Key16}
use Rattle.key_derive.specs.declared.card.CardKeys.{CardKeys}
use Rattle.key_derive.specs.SuiteKey.{SuiteKey}
use Rattle.key_derive.specs.SessionKey.{session_of}
use Rattle.cryptogram_in.specs.Cryptogram.{application_cryptogram}
use Rattle.cryptogram_in.specs.Checks.{DesCheck, check_of}
use Rattle.issuer_setup.specs.IssuerSetup.{Setup}
use Rattle.issuer_setup.specs.KeySlots.{keys_at, IsSlotOf}
use Rattle.line_checks.specs.declared.looked_up.LookedUp.{LookedUp}
use Rattle.line_checks.specs.declared.looked_up.LookedUp.TheVariants.{Request as IsRequest, Order}
use Rattle.line_checks.specs.declared.looked_up.LookedUpRequest.{LookedUpRequest}
use Rattle.line_checks.specs.declared.looked_up.CryptogramVerdict.{CryptogramVerdict}
use Rattle.line_checks.specs.declared.looked_up.CryptogramVerdict.TheVariants.{Unchecked, Right, Wrong}
use Rattle.line_checks.specs.AtHand.{IsCardAtHand, IsOrderAtHand, order_asked}
use Rattle.line_checks.specs.Reading.{reading}

-- the line asks for a decision, and this request is in its chip data
pub record CarriesRequest (line : List ℕ) (request : Request) : Type 0 where
  pub bytes : List ℕ
  pub asks : line_of line ≡ Ok (Ask (record { items = bytes }))
  pub parsed : request_of bytes ≡ Ok request

-- the request's cryptogram is the one that these keys give, under this session key, and has eight bytes
pub record IsRightSession (keys : CardKeys) (request : Request) (session : SuiteKey) : Type 0 where
  pub session_is : session ≡ session_of keys request.atc
  pub ac_is : request.ac ≡ application_cryptogram keys request
  pub eight : length request.ac ≡ 8

-- what is known of the request's cryptogram under these keys: if it is right, this is the session key of triple DES
abbrev pub IsVerdict : CardKeys → Request → CryptogramVerdict → Type 0
IsVerdict keys request Unchecked = Unit {0}
IsVerdict keys request (Right key) = IsRightSession keys request (record { suite = TripleDes; key = key.0 })
IsVerdict keys request Wrong = request.ac ≢ application_cryptogram keys request

-- the verdict of a check that gave this session key, or none
abbrev pub verdict_of : Option Key16 → CryptogramVerdict
verdict_of (Some key) = Right key
verdict_of None = Wrong

-- the request asks to go online; these are its card, and the slot of the card's master keys from the key set that the
-- request names; and what is known of its cryptogram is so under these keys
pub record HasKeysAtHand (issuer : Setup) (sought : LookedUpRequest) : Type 0 where
  pub card_is : IsCardAtHand issuer (card_of sought.request) sought.card
  pub online_is : is_arqc sought.request ≡ true
  pub slot_is : IsSlotOf issuer sought.card sought.request sought.slot
  pub verdict_is : IsVerdict slot_is.keys sought.request sought.verdict

-- what the line asks: a request with its card and keys, or an order that passed every check
abbrev pub IsSought : Setup → List ℕ → LookedUp → Type 0
IsSought issuer line (IsRequest sought) = CarriesRequest line sought.request × HasKeysAtHand issuer sought
IsSought issuer line (Order found) = (reading issuer line ≡ Ok (order_asked found)) × IsOrderAtHand issuer found

-- the order is what is asked, and passed every check
abbrev pub IsOrderSought : Setup → Result Asked Refusal → LookedUp → Type 0
IsOrderSought issuer asked (IsRequest sought) = ⊥
IsOrderSought issuer asked (Order found) = (asked ≡ Ok (order_asked found)) × IsOrderAtHand issuer found

-- this is what the look-up of the line gives: what it asks, or its refusal, which isn't for a bad cryptogram
abbrev pub IsLookUp : Setup → List ℕ → Result LookedUp Refusal → Type 0
IsLookUp issuer line (Ok sought) = IsSought issuer line sought
IsLookUp issuer line (Err refusal) = (reading issuer line ≡ Err refusal) × (refusal ≢ BadCryptogram)

-- so it is of each of these lines
abbrev pub AreLookUps : Setup → List (List ℕ) → List (Result LookedUp Refusal) → Type 0
AreLookUps issuer lines found = AllZip (IsLookUp issuer) lines found

-- a request that was looked up has its card and keys
abbrev pub IsReady : Setup → Result LookedUp Refusal → Type 0
IsReady issuer (Ok (IsRequest sought)) = HasKeysAtHand issuer sought
IsReady issuer _ = Unit {0}

-- the look-up found the same: a request with its card and keys, of whose cryptogram more may be known
pub record IsRequestAgain (issuer : Setup) (old new : LookedUpRequest) : Type 0 where
  pub request_is : new.request ≡ old.request
  pub card_is : new.card ≡ old.card
  pub slot_is : new.slot ≡ old.slot
  pub at_hand : HasKeysAtHand issuer new

-- or an order or a refusal, unchanged
abbrev pub IsLookedUpAgain : Setup → Result LookedUp Refusal → Result LookedUp Refusal → Type 0
IsLookedUpAgain issuer (Ok (IsRequest old)) (Ok (IsRequest new)) = IsRequestAgain issuer old new
IsLookedUpAgain issuer old new = new ≡ old

-- the check is that of the request's cryptogram under its card's key, if this is of triple DES
abbrev pub IsCheckFor : Setup → LookedUpRequest → DesCheck → Type 0
IsCheckFor issuer sought check =
    (keys : CardKeys) → keys_at issuer sought.slot ≡ Some keys → suite_of sought.request ≡ TripleDes
    → check ≡ check_of keys.ac sought.request

-- it is that of a request that was looked up
abbrev pub IsCheckOf : Setup → Result LookedUp Refusal → DesCheck → Type 0
IsCheckOf issuer (Ok (IsRequest sought)) check = IsCheckFor issuer sought check
IsCheckOf issuer _ check = Unit {0}

-- one element more, of which this holds
pub record AppendsOne {A : Type 0} (Holds : A → Type 0) (old new : List A) : Type 0 where
  pub last : A
  pub holds : Holds last
  pub new_is : new ≡ old ++ last ∷ []
