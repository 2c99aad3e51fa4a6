-- The cards of a run, and the requests that they make.
use Rattle.std.specs.Prelude.{◌≡◌, ℕ, ◌<◌, ◌≤◌, Some, Ok, Err}
use Rattle.issuer_base.specs.declared.answer.Refusal.TheVariants.{BadCryptogram}
use Rattle.issuer_base.specs.declared.request.Parts.{Parts}
use Rattle.card_history.specs.declared.decision.Asked.TheVariants.{Decide}
use Rattle.card_history.specs.Records.{card_of}
use Rattle.journal_rec.specs.Record.{IsRequest}
use Rattle.key_derive.specs.CardKey.{des_keys}
use Rattle.issuer_setup.specs.CardList.{name_of}
use Rattle.issuer_setup.specs.IssuerSetup.{keys_of}
use Rattle.line_checks.specs.Reading.{checked, reading}
use Rattle.terminal_kernel.specs.ChipText.{request_line}
use Rattle.card_model.specs.Application.{CardState}
use Rattle.world_play.specs.Play.{spoiled}
use Rattle.world_play.specs.Setting.{key_set, card_info, issuer}

-- the card is the one with this number: it has what it was issued with, and its count is one that it can say
pub record IsIssued (number : ℕ) (card : CardState) : Type 0 where
  pub pan_is : card.pan ≡ (card_info number).pan
  pub psn_is : card.psn ≡ 0
  pub dki_is : card.dki ≡ 1
  pub method_is : card.method ≡ (card_info number).method
  pub keys_are : card.keys ≡ des_keys key_set (card_info number).pan 0
  pub few : card.count ≤ 15

-- the request is one that this card makes: the issuer decides it, and refuses it with another cryptogram
pub record IsRight (cards number : ℕ) (request : Parts) : Type 0 where
  pub below : number < cards
  pub its : card_of request ≡ name_of (card_info number)
  pub held : IsRequest request
  pub checks : checked (issuer cards) request ≡ Ok (Decide request)
  pub keys_are : keys_of (issuer cards) number request ≡ Some (des_keys key_set (card_info number).pan 0)
  pub read : reading (issuer cards) (request_line request) ≡ Ok (Decide request)
  pub spoils : reading (issuer cards) (request_line (spoiled request)) ≡ Err BadCryptogram
