-- Which row of the decision table approves a request.
use Rattle.std.specs.Prelude.{◌≡◌, ℕ, ◌≤◌, true, List, length, take, slice_get, Some}
use Rattle.issuer_base.specs.ChipData.{amount_value}
use Rattle.issuer_base.specs.declared.answer.Reply.{Reply}
use Rattle.issuer_base.specs.declared.entry.Entry.{Entry}
use Rattle.issuer_base.specs.declared.entry.Entry.TheVariants.{Decided}
use Rattle.issuer_base.specs.declared.request.Request.{Request}
use Rattle.card_history.specs.Records.{card_of, status_of}
use Rattle.decision_table.specs.declared.row.TableRow.{TableRow}
use Rattle.decision_table.specs.Fitting.{IsDecision}

-- the first row of the table that matches a card of this status and the request approves, and the reply has its response
-- code; the amount lies within the row's bounds
pub record IsApprovedByRow (table : List TableRow) (status : ℕ) (request : Request) (reply : Reply) : Type 0 where
  pub row : TableRow
  pub first_match : IsDecision table status request row
  pub approves : row.approve ≡ true
  pub arc_is : reply.arc ≡ row.arc
  pub at_least : row.least ≤ amount_value request
  pub at_most : amount_value request ≤ row.most

-- each approval after the first history is by a row of the table, for the status that the card had at that point
abbrev pub AreApprovedByRows : List TableRow → List Entry → List Entry → Type 0
AreApprovedByRows table first last =
    (place : ℕ) (request : Request) (reply : Reply) → length first ≤ place
    → slice_get last place ≡ Some (Decided request reply) → reply.approve ≡ true
    → IsApprovedByRow table (status_of (card_of request) (take place last)) request reply
