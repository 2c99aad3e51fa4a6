-- An accepted record that is legal is added to the rows, and they stand for it.
use Rattle.std.proofs.Common.{◌≡◌, ℕ, List, length, sym, subst}
use Rattle.issuer_base.specs.declared.answer.Reply.{Reply}
use Rattle.issuer_base.specs.declared.command.Command.{Command}
use Rattle.issuer_base.specs.declared.entry.Entry.{Entry}
use Rattle.issuer_base.specs.declared.request.Request.{Request}
use Rattle.issuer_base.specs.CardNames.{CardName}
use Rattle.card_history.specs.LegalRecords.{IsLegal, IsLegalCommand, IsLegalDecision}
use Rattle.card_history.specs.Records.{card_of, decided}
use Rattle.card_history.specs.Scripts.{waiting, scripts_of}
use Rattle.card_history.specs.Turns.{IsUnused}
use Rattle.script_queue.specs.CommandQueue.{TakesOneMore}
use Rattle.issuer_setup.specs.declared.card.CardInfo.{CardInfo}
use Rattle.issuer_setup.specs.CardList.{name_of}
use Rattle.issuer_setup.specs.IssuerSetup.{Setup}
use Rattle.row_core.specs.Plan.{IsNext}
use Rattle.shard_book.specs.Grounds.{grounds_of}
use Rattle.shard_book.specs.Versions.{grounds_in}
use Rattle.shard_book.specs.declared.replay.Version.{Version}
use Rattle.shard_book.specs.declared.replay.Version.TheVariants.{One, Two}
use Rattle.shard_book.proofs.LegalDecisions.{wider-legal}

-- a valid successor by the window of a journal of any version is one by that of today
pub legal-today : (version : Version) (issuer : Setup) (shard : ℕ) (before : List Entry) (entry : Entry) → IsLegal (grounds_in version issuer) shard before entry
    → IsLegal (grounds_of issuer) shard before entry
legal-today One issuer shard before entry legal = wider-legal issuer shard before entry legal
legal-today Two issuer shard before entry legal = legal

-- a legal decision is the next one of its card
pub next-decision : (issuer : Setup) (shard : ℕ) (history : List Entry) (request : Request) (reply : Reply) (card : CardInfo) (place : ℕ)
    → name_of card ≡ card_of request → IsLegalDecision (grounds_of issuer) shard history request reply → place ≡ length history
    → IsNext card history (record { request = request; reply = reply; place = place })
next-decision issuer shard history request reply card place its legal at_end = record {
  of_card = sym its;
  at_end = at_end;
  unused = subst (λ (name : CardName). IsUnused (decided name history) request) (sym its)
      (record { in_window = legal.in_window; unrecorded = legal.unrecorded });
}

-- the queue of a legal command's card takes it
pub room-for : (issuer : Setup) (shard : ℕ) (history : List Entry) (name : CardName) (command : Command) (card : CardInfo) → name_of card ≡ name
    → IsLegalCommand (grounds_of issuer) shard history name command → TakesOneMore (waiting (scripts_of (name_of card) history))
room-for issuer shard history name command card its legal =
    subst (λ (name : CardName). TakesOneMore (waiting (scripts_of name history))) (sym its) legal.room
