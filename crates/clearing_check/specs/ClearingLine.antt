-- A clearing line: a request with a card's cryptogram at the end of its transaction, and the checks of it.
use Rattle.std.specs.Prelude.{◌≡◌, ℕ, [], Bool, ◌||◌, ◌==◌, List, bit_and, Option, None, Some, Result, Ok, Err, if◌then◌else◌}
use Rattle.std.specs.List.{AllZip}
use Rattle.issuer_base.specs.declared.request.Request.{Request}
use Rattle.issuer_base.specs.declared.answer.Refusal.TheVariants.{BadLine, UnknownCard, UnknownKey, BadCryptogram}
use Rattle.issuer_base.specs.ChipData.{dki}
use Rattle.card_history.specs.Records.{card_of}
use Rattle.chip_request.specs.declared.reading.RequestFault.{RequestFault}
use Rattle.chip_request.specs.declared.line.LineKind.{LineKind}
use Rattle.chip_request.specs.declared.line.LineKind.TheVariants.{Ask, Queue, Set}
use Rattle.line_checks.specs.Parsed.{line_of}
use Rattle.chip_request.specs.Reading.{request_of}
use Rattle.key_derive.specs.declared.card.CardKeys.{CardKeys}
use Rattle.issuer_setup.specs.CardList.{number_of}
use Rattle.issuer_setup.specs.IssuerSetup.{Setup, keys_of}
use Rattle.cryptogram_in.specs.Checks.{DesCheck}
use Rattle.issuer_setup.specs.KeySlots.{IsSlotOf}
use Rattle.line_checks.specs.Reading.{refusal_of, is_right}
use Rattle.line_checks.specs.LookedUp.{IsVerdict, IsCheckFor}
use Rattle.line_checks.specs.declared.looked_up.LookedUpRequest.{LookedUpRequest}
use Rattle.clearing_check.specs.declared.verdict.Verdict.{Verdict}
use Rattle.clearing_check.specs.declared.verdict.Verdict.TheVariants.{Refused, WrongKind}

-- a transaction certificate (TC), the card's approval: bits 8-7 of the cryptogram information data are 01, EMV 4.3
-- Book 3, section 6.5.5
unfoldable pub is_tc : Request → Bool
is_tc request = bit_and request.cid 0xC0 == 0x40

-- an application authentication cryptogram (AAC), the card's decline: these bits are 00
unfoldable pub is_aac : Request → Bool
is_aac request = bit_and request.cid 0xC0 == 0

-- the cryptogram is one that ends a transaction
unfoldable pub is_final : Request → Bool
is_final request = is_tc request || is_aac request

-- a request with the cryptogram that its card made at the end of the transaction, and the number of the card
pub record Presented : Type 0 where
  pub card : ℕ
  pub request : Request

-- a request of a known card under its keys, if there are any: the cryptogram is to be the card's
abbrev pub under_keys : ℕ → Option CardKeys → Request → Result Presented Verdict
under_keys card None request = Err (Refused (UnknownKey (dki request)))
under_keys card (Some keys) request =
    if is_right keys request then Ok (record { card = card; request = request }) else Err (Refused BadCryptogram)

-- a request of this card, if it is known, is to have a cryptogram that ends a transaction
abbrev pub of_card : Setup → Option ℕ → Request → Result Presented Verdict
of_card issuer None request = Err (Refused UnknownCard)
of_card issuer (Some card) request =
    if is_final request then under_keys card (keys_of issuer card request) request else Err WrongKind

-- the request in chip data, checked; or the refusal for a fault in the data
abbrev pub of_data : Setup → Result Request RequestFault → Result Presented Verdict
of_data issuer (Err fault) = Err (Refused (refusal_of fault))
of_data issuer (Ok request) = of_card issuer (number_of (card_of request) issuer.cards) request

-- a line asks with chip data; one of another form is refused from its first byte on
abbrev pub of_form : Setup → Result LineKind ℕ → Result Presented Verdict
of_form issuer (Err column) = Err (Refused (BadLine column))
of_form issuer (Ok (Ask bytes)) = of_data issuer (request_of bytes.items)
of_form issuer (Ok (Queue pan psn bytes)) = Err (Refused (BadLine 1))
of_form issuer (Ok (Set pan psn status)) = Err (Refused (BadLine 1))

-- what a line presents to this issuer, or the verdict where it fails its checks
abbrev pub presented : Setup → List ℕ → Result Presented Verdict
presented issuer line = of_form issuer (line_of line)

-- ---- before the cryptogram is checked

-- the slot has the keys of the request's card, and what is known of its cryptogram is so under them; this is presented,
-- if the cryptogram is right
pub record IsSought (issuer : Setup) (presented : Result Presented Verdict) (sought : LookedUpRequest) : Type 0 where
  pub slot_is : IsSlotOf issuer sought.card sought.request sought.slot
  pub verdict_is : IsVerdict slot_is.keys sought.request sought.verdict
  pub presented_is : presented ≡ under_keys sought.card (Some slot_is.keys) sought.request

-- what is looked up of what a line presents, or the verdict of a check before that of the cryptogram
abbrev pub IsLookUp : Setup → Result Presented Verdict → Result LookedUpRequest Verdict → Type 0
IsLookUp issuer presented (Ok sought) = IsSought issuer presented sought
IsLookUp issuer presented (Err verdict) = presented ≡ Err verdict

-- the check is that of the request's cryptogram, if its card's key is of triple DES
abbrev pub IsCheckOf : Setup → Result LookedUpRequest Verdict → DesCheck → Type 0
IsCheckOf issuer (Ok sought) check = IsCheckFor issuer sought check
IsCheckOf issuer (Err verdict) check = Unit {0}

-- what the look-ups of some lines gave, and the check of each cryptogram
pub record LookUps : Type 0 where
  pub found : List (Result LookedUpRequest Verdict)
  pub checks : List DesCheck

abbrev pub none_ahead : LookUps
none_ahead = record { found = []; checks = [] }

-- they are those of these lines
pub record AreAhead (issuer : Setup) (lines : List (List ℕ)) (ahead : LookUps) : Type 0 where
  pub found_are : AllZip (λ line found. IsLookUp issuer (presented issuer line) found) lines ahead.found
  pub checks_are : AllZip (IsCheckOf issuer) ahead.found ahead.checks
