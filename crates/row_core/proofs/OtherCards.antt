-- A row stands for a longer history of its shard where the record is one of another card.
use Rattle.std.proofs.Common.{◌≡◌, ◌≢◌, List, [], ◌∷◌, ◌++◌, ap, sym, ◌∙◌, subst}
use Rattle.issuer_base.specs.declared.entry.Entry.{Entry}
use Rattle.issuer_base.specs.declared.entry.Entry.TheVariants.{Decided, Queued, Status}
use Rattle.card_history.specs.declared.decision.Decision.{Decision}
use Rattle.issuer_base.specs.CardNames.{CardName}
use Rattle.card_history.specs.Records.{card_in, decided, greatest_atc, status_of}
use Rattle.card_history.specs.Scripts.{scripts_of}
use Rattle.card_history.proofs.CardNames.{is_of-other, has_numbers-other}
use Rattle.card_history.proofs.OneMoreRecord.{decided-other}
use Rattle.card_history.proofs.OtherRecords.{status_of-decided, status_of-queued, status_of-status_other, decided-queued, decided-status}
use Rattle.card_history.proofs.ScriptSteps.{scripts-decided_other, scripts-queued_other, scripts-status}
use Rattle.issuer_setup.specs.declared.card.CardInfo.{CardInfo}
use Rattle.issuer_setup.specs.CardList.{name_of}
use Rattle.row_core.specs.CardRow.{CardRow, KeepsWindow, kept_of, StandsFor}

-- two histories have the same decisions, status and scripts of a card
record SaysTheSame (card : CardName) (history longer : List Entry) : Type 0 where
  decisions : decided card longer ≡ decided card history
  status : status_of card longer ≡ status_of card history
  scripts : scripts_of card longer ≡ scripts_of card history

other-says_the_same : (card : CardName) (history : List Entry) (entry : Entry) → card ≢ card_in entry → SaysTheSame card history (history ++ entry ∷ [])
other-says_the_same card history (Decided request reply) other =
    let its : _ = is_of-other card request other in
    record {
      decisions = decided-other card history request reply its;
      status = status_of-decided card history request reply;
      scripts = scripts-decided_other card history request reply its;
    }
other-says_the_same card history (Queued pan psn command) other =
    record {
      decisions = decided-queued card history pan psn command;
      status = status_of-queued card history pan psn command;
      scripts = scripts-queued_other card history pan psn command (has_numbers-other card pan psn other);
    }
other-says_the_same card history (Status pan psn status) other =
    record {
      decisions = decided-status card history pan psn status;
      status = status_of-status_other card history pan psn status (has_numbers-other card pan psn other);
      scripts = scripts-status card history pan psn status;
    }

-- so a row stands for the longer history too
pub stands-other : (card : CardInfo) (row : CardRow) (history : List Entry) (entry : Entry) → name_of card ≢ card_in entry
    → StandsFor card row history → StandsFor card row (history ++ entry ∷ [])
stands-other card row history entry other stands =
    let same = other-says_the_same (name_of card) history entry other in
    record {
      method_is = stands.method_is;
      hi_is = stands.hi_is ∙ ap greatest_atc (sym same.decisions);
      status_is = stands.status_is ∙ sym same.status;
      window_is = subst (λ (decisions : List Decision). KeepsWindow row.slots decisions) (sym same.decisions) stands.window_is;
      scripts_are = stands.scripts_are ∙ ap kept_of (sym same.scripts);
    }
