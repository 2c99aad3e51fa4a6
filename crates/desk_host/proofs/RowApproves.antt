-- An approval is by the first row of the decision table that matches, whose bounds the amount is within.
use Rattle.std.proofs.Common.{◌≡◌, ◌≤◌, ℕ, true, false, List, take, refl, sym, ap, subst, ◌∙◌, Option, None, Some, IsTrue}
use Rattle.std.proofs.lemmas.Bool.{and_parts, leb-true}
use Rattle.std.specs.List.{slice_get}
use Rattle.std.specs.Option.{option_map_or}
use Rattle.issuer_base.specs.ChipData.{amount_value}
use Rattle.issuer_base.specs.declared.answer.Reply.{Reply}
use Rattle.issuer_base.specs.declared.entry.Entry.{Entry}
use Rattle.issuer_base.specs.declared.entry.Entry.TheVariants.{Decided}
use Rattle.issuer_base.specs.declared.request.Request.{Request}
use Rattle.card_history.specs.Records.{card_of, status_of}
use Rattle.card_history.specs.Scripts.{scripts_of}
use Rattle.decision_table.specs.declared.row.TableRow.{TableRow}
use Rattle.decision_table.specs.Fitting.{decision, fits}
use Rattle.decision_table.specs.Tables.{is_table}
use Rattle.decision_table.proofs.DecisionLemmas.{decides}
use Rattle.issuer_setup.specs.CardList.{number_of}
use Rattle.issuer_setup.specs.IssuerSetup.{Setup, keys_of}
use Rattle.shard_book.specs.Replying.{no_reply, reply_by, reply_by_row, reply_of_card, reply_to}
use Rattle.one_caller.specs.OneHistory.{LegallyGoesOn}
use Rattle.desk_host.specs.Approvals.{AreApprovedByRows, IsApprovedByRow}

-- ---- the row of an approval

-- the row that decides approves, and the reply has its response code
record IsFound (table : List TableRow) (status : ℕ) (request : Request) (reply : Reply) : Type 0 where
  row : TableRow
  found : decision table status request ≡ Some row
  approves : row.approve ≡ true
  arc_is : reply.arc ≡ row.arc

found-row : (table : List TableRow) (status : ℕ) (request : Request) (reply_of : TableRow → Reply)
    → ((row : TableRow) → (reply_of row).approve ≡ row.approve) → ((row : TableRow) → (reply_of row).arc ≡ row.arc)
    → (found : Option TableRow) → decision table status request ≡ found → (option_map_or reply_of found no_reply).approve ≡ true
    → IsFound table status request (option_map_or reply_of found no_reply)
found-row table status request reply_of approve_is arc_is None is approves = absurd (let no : false ≡ true = approves in cc)
found-row table status request reply_of approve_is arc_is (Some row) is approves =
    record { row = row; found = is; approves = sym (approve_is row) ∙ approves; arc_is = arc_is row }

module _ (issuer : Setup) (before : List Entry) (request : Request) where
  abbrev IsOwn : Reply → Type 0
  IsOwn reply = reply.approve ≡ true → IsFound issuer.table (status_of (card_of request) before) request reply

  found-number : (number : Option ℕ) → IsOwn (reply_of_card issuer number before request)
  found-number None = λ approves. absurd (let no : false ≡ true = approves in cc)
  found-number (Some number) =
      elim (slice_get issuer.cards number) as
      (λ card. IsOwn (reply_by card (keys_of issuer number request) issuer.table before request)) [
        | None ↦ λ approves. absurd (let no : false ≡ true = approves in cc)
        | Some card ↦
            elim (keys_of issuer number request) as (λ keys. IsOwn (reply_by (Some card) keys issuer.table before request)) [
              | None ↦ λ approves. absurd (let no : false ≡ true = approves in cc)
              | Some keys ↦
                  found-row issuer.table (status_of (card_of request) before) request
                  (reply_by_row card.method keys (scripts_of (card_of request) before) request) (λ row. refl) (λ row. refl)
                  (decision issuer.table (status_of (card_of request) before) request) refl
            ]
      ]

  found-own : IsOwn (reply_to issuer before request)
  found-own = found-number (number_of (card_of request) issuer.cards)

-- a row that matches has the amount within its bounds
record IsWithin (request : Request) (row : TableRow) : Type 0 where
  at_least : row.least ≤ amount_value request
  at_most : amount_value request ≤ row.most

fits-within : (status : ℕ) (request : Request) (row : TableRow) → IsTrue (fits status request row) → IsWithin request row
unfolding fits
fits-within status request row fitting =
    let to_most = (and_parts _ _ (and_parts _ _ fitting).0).0 in
    let to_least = (and_parts _ _ to_most).0 in
    record {
      at_least = leb-true row.least (amount_value request) (and_parts _ _ to_least).1;
      at_most = leb-true (amount_value request) row.most (and_parts _ _ to_most).1;
    }

found-approved : (table : List TableRow) (status : ℕ) (request : Request) (reply : Reply) → IsTrue (is_table table) → IsFound table status request reply
    → IsApprovedByRow table status request reply
found-approved table status request reply valid its =
    let first = decides table status request its.row valid its.found in
    let within = fits-within status request its.row first.fitting in
    record {
      row = its.row;
      first_match = first;
      approves = its.approves;
      arc_is = its.arc_is;
      at_least = within.at_least;
      at_most = within.at_most;
    }

pub approvals-within : (issuer : Setup) (shard : ℕ) (first last : List Entry) → IsTrue (is_table issuer.table) → LegallyGoesOn issuer shard first last
    → AreApprovedByRows issuer.table first last
approvals-within issuer shard first last valid on place request reply past is approves =
    let before : List Entry = take place last in
    let own = (on.by_table place (Decided request reply) past is).is_the_issuers_reply in
    found-approved issuer.table (status_of (card_of request) before) request reply valid
    (subst (IsFound issuer.table (status_of (card_of request) before) request) (sym own)
    (found-own issuer before request (ap (λ (r : Reply). r.approve) (sym own) ∙ approves)))
