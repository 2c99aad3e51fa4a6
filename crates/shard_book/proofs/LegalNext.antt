-- What is at hand for a checked line makes its record a valid successor.
use Rattle.std.proofs.Common.{◌≡◌, ◌≤◌, ℕ, ◌%◌, ◌&&◌, List, get_or, sym, ap, subst, ◌∙◌, Bool, IsTrue, Ok}
use Rattle.std.proofs.lemmas.Option.{slice_get_within, get_or_from_slice_get}
use Rattle.issuer_base.specs.declared.limits.TheConstants.{MAX_STATUS}
use Rattle.issuer_base.specs.declared.request.Request.{Request}
use Rattle.issuer_base.specs.declared.command.Command.{Command}
use Rattle.issuer_base.specs.declared.answer.Reply.{Reply}
use Rattle.issuer_base.specs.declared.entry.Entry.{Entry}
use Rattle.issuer_base.specs.ChipData.{is_bcd}
use Rattle.issuer_base.specs.ScriptCommand.{is_command}
use Rattle.card_history.specs.declared.decision.Asked.TheVariants.{Decide}
use Rattle.card_history.specs.LegalRecords.{IsLegalDecision, IsLegalCommand, IsLegalStatus}
use Rattle.issuer_base.specs.CardNames.{CardName}
use Rattle.card_history.specs.Records.{card_of}
use Rattle.card_history.specs.Scripts.{waiting, scripts_of}
use Rattle.card_history.specs.Turns.{IsUnused, decided_for}
use Rattle.script_queue.specs.CommandQueue.{TakesOneMore}
use Rattle.issuer_setup.specs.declared.card.CardInfo.{CardInfo}
use Rattle.issuer_setup.specs.CardList.{name_of}
use Rattle.issuer_setup.specs.IssuerSetup.{Setup}
use Rattle.issuer_setup.proofs.CardListLemmas.{number_of-found}
use Rattle.row_core.specs.Replying.{reply_to}
use Rattle.line_checks.specs.AtHand.{IsCardAtHand}
use Rattle.line_checks.specs.Reading.{checked}
use Rattle.shard_book.specs.ShardRows.{ShardRows, AreRowsOf, IsHome}
use Rattle.shard_book.specs.Steps.{IsCardOf}
use Rattle.shard_book.specs.Grounds.{IsCardOfShard, grounds_now}
use Rattle.shard_book.proofs.LegalDecisions.{legal-own}

module _ (issuer : Setup) (rows : ShardRows) (of_issuer : AreRowsOf issuer rows) (name : CardName) (number : ℕ) (at_hand : IsCardAtHand issuer name number)
    (home : IsHome rows number) where
  -- the card is one of the shard's
  pub card-home : IsCardOfShard issuer rows.shard name
  card-home = record {
    number = number;
    number_is = at_hand.number_is;
    home = ap (λ shards. number % shards) (sym of_issuer.shards_are) ∙ home.home;
  }

  pub legal-decision : (history : List Entry) (request : Request) (reply : Reply) → card_of request ≡ name → checked issuer request ≡ Ok (Decide request)
      → IsUnused (decided_for request history) request → reply ≡ reply_to issuer history request
      → IsLegalDecision (grounds_now issuer) rows.shard history request reply
  legal-decision history request reply its passes unused made =
      legal-own issuer rows.shard history request reply (subst (IsCardOfShard issuer rows.shard) (sym its) card-home) passes unused made

  pub legal-command : (history : List Entry) (command : Command) → IsTrue (is_command command) → TakesOneMore (waiting (scripts_of name history))
      → IsLegalCommand (grounds_now issuer) rows.shard history name command
  legal-command history command form room = record { of_a_card = card-home; form = form; room = room }

  pub legal-status : (status : ℕ) → status ≤ MAX_STATUS → IsLegalStatus (grounds_now issuer) rows.shard name status
  legal-status status within = record { of_a_card = card-home; within = within }

-- the issuer's card of this name, whose sequence number is decimal
pub record IsFound (issuer : Setup) (name : CardName) (number : ℕ) : Type 0 where
  pub card : CardInfo
  pub known : IsCardOf issuer number card
  pub named : name_of card ≡ name
  pub decimal : IsTrue (is_bcd name.psn)

pub card-found : (issuer : Setup) (name : CardName) (number : ℕ) → IsCardAtHand issuer name number → IsFound issuer name number
card-found issuer name number at_hand =
    let found = number_of-found name issuer.cards number at_hand.number_is in
    let within = slice_get_within issuer.cards number found.0 found.1 in
    let decimal : IsTrue (is_bcd (get_or issuer.cards number found.0).psn) = at_hand.valid.decimal number found.0 within in
    let psn_is = ap (λ (card : CardInfo). card.psn) (get_or_from_slice_get issuer.cards number found.0 found.0 found.1) ∙ ap (λ (name : CardName). name.psn)
    found.2 in
    record {
      card = found.0;
      known = record { valid = at_hand.valid; card_is = found.1 };
      named = found.2;
      decimal = subst (λ psn. IsTrue (is_bcd psn)) psn_is decimal;
    }

-- so an entry with these numbers may be written
pub writable : (psn : ℕ) (test : Bool) → IsTrue (is_bcd psn) → IsTrue test → IsTrue (is_bcd psn && test)
writable psn test one other = subst (λ b. IsTrue (b && test)) (sym one) other
