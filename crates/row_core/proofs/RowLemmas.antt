-- The history that a row stands for: empty at first, and one record more once a decision is stored, a command queued or
-- a status set.
use Rattle.std.proofs.Common.{◌≡◌, ◌≤◌, ℕ, List, [], ◌∷◌, ◌++◌, length, true, Option, None, ap, sym, ◌∙◌, subst}
use Rattle.issuer_base.specs.declared.command.Command.{Command}
use Rattle.issuer_base.specs.declared.entry.Entry.{Entry}
use Rattle.card_history.specs.declared.decision.Decision.{Decision}
use Rattle.issuer_base.specs.CardNames.{CardName}
use Rattle.card_history.specs.Records.{is_of, decided, greatest_atc, status_of}
use Rattle.card_history.specs.Scripts.{Scripts, no_scripts, with_command, with_decision, scripts_of}
use Rattle.card_history.proofs.CardNames.{is_of-card_of, has_numbers-named}
use Rattle.card_history.proofs.OneMoreRecord.{decided-more}
use Rattle.card_history.proofs.OtherRecords.{status_of-decided, status_of-queued, status_of-status, decided-queued, decided-status}
use Rattle.card_history.proofs.ScriptSteps.{scripts-decided, scripts-queued, scripts-status, scripts-hi, scripts-within}
use Rattle.reply_keep.specs.ReplySlots.{none_kept, with_kept}
use Rattle.issuer_setup.specs.declared.card.CardInfo.{CardInfo}
use Rattle.issuer_setup.specs.CardList.{name_of}
use Rattle.row_core.specs.CardRow.{CardRow, kept_of, KeepsScripts, KeepsWindow, StandsFor}
use Rattle.row_core.specs.Launching.{TakesOff}
use Rattle.row_core.specs.Plan.{IsNext, with_record, with_command_for, with_status_for}
use Rattle.row_core.proofs.WindowLemmas.{window-empty, window-more}

-- a row that keeps nothing stands for the history with no record
pub stands-empty : (card : CardInfo) (row : CardRow)
    → row.method ≡ card.method
    → row.hi ≡ None
    → row.status ≡ 0
    → row.slots ≡ none_kept
    → row.scripts ≡ kept_of no_scripts
    → StandsFor card row []
stands-empty card row method hi status slots scripts = record {
  method_is = method;
  hi_is = hi;
  status_is = status;
  window_is = subst (λ (slots : List (Option Decision)). KeepsWindow slots []) (sym slots) window-empty;
  scripts_are = scripts;
}

-- a row that stands for a history keeps its card's scripts
pub keeps-scripts : (card : CardInfo) (row : CardRow) (history : List Entry)
    → StandsFor card row history
    → KeepsScripts row (scripts_of (name_of card) history)
keeps-scripts card row history stands = record {
  hi_is = stands.hi_is ∙ sym (scripts-hi (name_of card) history);
  kept_is = stands.scripts_are;
  within = (scripts-within (name_of card) history).few_done;
}

-- the row with these slots
abbrev pub keeping : List (Option Decision) → CardRow → CardRow
keeping slots row = record { method = row.method; hi = row.hi; status = row.status; slots = slots; scripts = row.scripts }

-- a row that keeps the next decision of its card besides stands for the history with its record
pub stands-next : (card : CardInfo) (before after : CardRow) (history : List Entry) (step : Decision) (slots : List (Option Decision))
    → TakesOff before after step.request
    → slots ≡ with_kept step after.slots
    → StandsFor card before history
    → IsNext card history step
    → StandsFor card (keeping slots after) (with_record history step)
stands-next card before after history step slots takes_off kept stands next =
    let its : is_of (name_of card) step.request ≡ true =
    subst (λ (name : CardName). is_of name step.request ≡ true) next.of_card (is_of-card_of step.request) in
    let grown : decided (name_of card) history ++ step ∷ [] ≡ decided (name_of card) (with_record history step) =
    ap (λ place. decided (name_of card) history ++ record { request = step.request; reply = step.reply; place = place } ∷ []) next.at_end
    ∙ sym (decided-more (name_of card) history step.request step.reply its) in
    let keeps = keeps-scripts card before history stands in
    let scripts_are : with_decision step.request (scripts_of (name_of card) history) ≡ scripts_of (name_of card) (with_record history step) =
    sym (scripts-decided (name_of card) history step.request step.reply its) in
    record {
      method_is = takes_off.method_is ∙ stands.method_is;
      hi_is = takes_off.hi_is _ keeps ∙ ap (λ scripts. scripts.hi) scripts_are ∙ scripts-hi (name_of card) (with_record history step);
      status_is = takes_off.status_is ∙ stands.status_is ∙ sym (status_of-decided (name_of card) history step.request step.reply);
      window_is = subst (λ (slots : List (Option Decision)). KeepsWindow slots (decided (name_of card) (with_record history step)))
          (sym (kept ∙ ap (with_kept step) takes_off.slots_are))
          (subst (λ (decisions : List Decision). KeepsWindow (with_kept step before.slots) decisions) grown
          (window-more before.slots (decided (name_of card) history) step stands.window_is next.unused));
      scripts_are = takes_off.scripts_are _ keeps ∙ ap kept_of scripts_are;
    }

-- a row that stands for a history stands for one with the same decisions, where status and scripts are what that says
stands-again : (card : CardInfo) (before after : CardRow) (history longer : List Entry)
    → after.method ≡ before.method
    → after.hi ≡ before.hi
    → after.slots ≡ before.slots
    → decided (name_of card) longer ≡ decided (name_of card) history
    → after.status ≡ status_of (name_of card) longer
    → after.scripts ≡ kept_of (scripts_of (name_of card) longer)
    → StandsFor card before history
    → StandsFor card after longer
stands-again card before after history longer method hi slots same status scripts stands = record {
  method_is = method ∙ stands.method_is;
  hi_is = hi ∙ stands.hi_is ∙ ap greatest_atc (sym same);
  status_is = status;
  window_is = subst (λ (slots : List (Option Decision)). KeepsWindow slots (decided (name_of card) longer)) (sym slots)
      (subst (λ (decisions : List Decision). KeepsWindow before.slots decisions) (sym same) stands.window_is);
  scripts_are = scripts;
}

-- a row with a command more stands for the history with its record
pub stands-command : (card : CardInfo) (before after : CardRow) (history : List Entry) (command : Command)
    → after.method ≡ before.method
    → after.hi ≡ before.hi
    → after.slots ≡ before.slots
    → after.status ≡ before.status
    → ((scripts : Scripts) → before.scripts ≡ kept_of scripts → scripts.done ≤ length scripts.queue
    → after.scripts ≡ kept_of (with_command command scripts))
    → StandsFor card before history
    → StandsFor card after (with_command_for history card command)
stands-command card before after history command method hi slots status queued stands =
    let name = name_of card in
    let keeps = keeps-scripts card before history stands in
    stands-again card before after history (with_command_for history card command) method hi slots
    (decided-queued name history card.pan card.psn command)
    (status ∙ stands.status_is ∙ sym (status_of-queued name history card.pan card.psn command))
    (queued (scripts_of name history) keeps.kept_is keeps.within
    ∙ ap kept_of (sym (scripts-queued name history card.pan card.psn command (has_numbers-named card.pan card.psn))))
    stands

-- a row with this status stands for the history with its record
pub stands-status : (card : CardInfo) (before after : CardRow) (history : List Entry) (status : ℕ)
    → after.method ≡ before.method
    → after.hi ≡ before.hi
    → after.slots ≡ before.slots
    → after.status ≡ status
    → after.scripts ≡ before.scripts
    → StandsFor card before history
    → StandsFor card after (with_status_for history card status)
stands-status card before after history status method hi slots given scripts stands =
    let name = name_of card in
    stands-again card before after history (with_status_for history card status) method hi slots
    (decided-status name history card.pan card.psn status)
    (given ∙ sym (status_of-status name history card.pan card.psn status (has_numbers-named card.pan card.psn)))
    (scripts ∙ stands.scripts_are ∙ ap kept_of (sym (scripts-status name history card.pan card.psn status)))
    stands
