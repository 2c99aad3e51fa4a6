-- What doesn't depend on the decision table: how a line is read, the answer to a repeat, and which histories load.
use Rattle.std.proofs.Common.{◌≡◌, Bool, ℕ, ◌+◌, List, [], ◌∷◌, ◌++◌, length, length-append, append-nil, arith, inl, refl, sym, ap, ap₂, subst, ◌∙◌, Option, None, Some, Result, Ok, Err}
use Rattle.std.specs.List.{slice_get}
use Rattle.issuer_base.specs.declared.answer.Answer.{Answer}
use Rattle.issuer_base.specs.declared.answer.Answer.TheVariants.{Fresh, Kept, Refused}
use Rattle.issuer_base.specs.declared.answer.Refusal.TheVariants.{Below, Taken, Pending, StoreFault}
use Rattle.issuer_base.specs.declared.answer.Reply.{Reply}
use Rattle.issuer_base.specs.declared.entry.Entry.{Entry}
use Rattle.issuer_base.specs.declared.entry.Entry.TheVariants.{Decided}
use Rattle.issuer_base.specs.declared.request.Request.{Request}
use Rattle.card_history.specs.LegalRecords.{IsLegalHistory}
use Rattle.card_history.specs.Records.{card_of}
use Rattle.card_history.specs.Turns.{IsUsed, decided_for}
use Rattle.card_history.specs.declared.decision.Decision.{Decision}
use Rattle.card_history.proofs.CardNames.{is_of-names}
use Rattle.card_history.proofs.RecordPlaces.{decided-recorded}
use Rattle.chip_request.specs.LineParts.{line_of}
use Rattle.chip_request.specs.Reading.{request_of}
use Rattle.chip_request.specs.declared.line.LineKind.{LineKind}
use Rattle.chip_request.specs.declared.line.LineKind.TheVariants.{Ask, Queue, Set}
use Rattle.chip_request.specs.declared.reading.RequestFault.{RequestFault}
use Rattle.decision_table.specs.declared.row.TableRow.{TableRow}
use Rattle.issuer_setup.specs.CardList.{number_of}
use Rattle.issuer_setup.specs.IssuerSetup.{Setup}
use Rattle.line_checks.specs.Reading.{checked_data, of_card, reading, said_by}
use Rattle.shard_book.specs.Answering.{AnswersClaimed}
use Rattle.shard_book.specs.Grounds.{grounds_of}
use Rattle.shard_book.specs.Histories.{GoesOn, IsLegalSince}
use Rattle.shard_book.proofs.Histories.{goes-none}
use Rattle.journal_rec.specs.RecordText.{journal_text}
use Rattle.one_caller.specs.Restarts.{IsHeld, with_table}
use Rattle.one_caller.proofs.Restarts.{loads-between}
use Rattle.one_caller.proofs.LegalBooks.{once-in}
use Rattle.desk_host.proofs.OneAnswer.{old-in_window, unused-used}

-- ---- how a line is read

module _ (issuer : Setup) (table : List TableRow) where
  card-same : (number : Option ℕ) (request : Request) → of_card (with_table issuer table) number request ≡ of_card issuer number request
  card-same None request = refl
  card-same (Some number) request = refl

  data-same : (parsed : Result Request RequestFault) → checked_data (with_table issuer table) parsed ≡ checked_data issuer parsed
  data-same (Err fault) = refl
  data-same (Ok request) = card-same (number_of (card_of request) issuer.cards) request

  said-same : (said : Result LineKind ℕ) → said_by (with_table issuer table) said ≡ said_by issuer said
  said-same (Err column) = refl
  said-same (Ok (Ask bytes)) = data-same (request_of bytes.items)
  said-same (Ok (Queue pan psn bytes)) = refl
  said-same (Ok (Set pan psn status)) = refl

  pub reading-same : (line : List ℕ) → reading (with_table issuer table) line ≡ reading issuer line
  reading-same line = said-same (line_of line)

-- ---- the answer to a repeat

-- a legal history has one decision on the request's ATC
module _ (issuer : Setup) (shard : ℕ) (history : List Entry) (legal : IsLegalHistory (grounds_of issuer) shard history) (request : Request) where
  record IsSame (one other : Decision) : Type 0 where
    place_is : one.place ≡ other.place
    request_is : one.request ≡ other.request
    reply_is : one.reply ≡ other.reply

  used-same : (one other : Decision) → IsUsed (decided_for request history) request one → IsUsed (decided_for request history) request other → IsSame one other
  used-same one other used too =
      let its = decided-recorded (card_of request) history one used.recorded in
      let the_other = decided-recorded (card_of request) history other too.recorded in
      let card = sym (is_of-names (card_of request) one.request its.1) ∙ is_of-names (card_of request) other.request the_other.1 in
      let place : one.place ≡ other.place =
      once-in issuer shard history legal one.place other.place one.request other.request one.reply other.reply its.0 the_other.0 card
      (used.same_counter ∙ sym too.same_counter) in
      let entries : Some (Decided one.request one.reply) ≡ Some (Decided other.request other.reply) =
      sym its.0 ∙ ap (slice_get history) place ∙ the_other.0 in
      let requests : one.request ≡ other.request = cc in
      let replies : one.reply ≡ other.reply = cc in
      record { place_is = place; request_is = requests; reply_is = replies }

  -- one that is used has a stored reply, and gets it
  module _ (at place : ℕ) (reply : Reply) (at_is : at ≡ shard)
      (used : IsUsed (decided_for request history) request (record { request = request; reply = reply; place = place })) where
    abbrev mine : Decision
    mine = record { request = request; reply = reply; place = place }

    pub kept-same : (replies : List Entry → Request → Reply) (won : Bool) (other : Answer) (after : List Entry)
        → AnswersClaimed shard replies won history request other after → other ≡ Kept at place reply
    kept-same replies won (Fresh other_at other_place other_reply) after (claimed, (unused, at_it, place_is, reply_is, after_is)) =
        absurd (unused-used (decided_for request history) request mine unused used)
    kept-same replies won (Kept other_at other_place other_reply) after (too, other_is, after_is) =
        let theirs : Decision = record { request = request; reply = other_reply; place = other_place } in
        let same = used-same theirs mine too used in
        ap (λ (n : ℕ). Kept n other_place other_reply) (other_is ∙ sym at_is)
        ∙ ap₂ (λ (n : ℕ) (r : Reply). Kept at n r) same.place_is same.reply_is
    kept-same replies won (Refused (Below top)) after (old, after_is) =
        absurd (old-in_window (decided_for request history) request top old used.in_window)
    kept-same replies won (Refused (Taken other_at other_place)) after ((decision, too, place_is, apart), other_is, after_is) =
        absurd (apart (used-same decision mine too used).request_is)
    kept-same replies won (Refused Pending) after (lost, unused, after_is) =
        absurd (unused-used (decided_for request history) request mine unused used)
    kept-same replies won (Refused StoreFault) after (claimed, unused, after_is) =
        absurd (unused-used (decided_for request history) request mine unused used)
    kept-same replies won _ after none = absurd none

-- ---- histories

-- histories that extend each other are the same
both-ways : (one other : List Entry) → GoesOn one other → GoesOn other one → other ≡ one
both-ways one other (more, other_is) (rest, one_is) =
    let long = ap length other_is ∙ length-append one more in
    let too = ap length one_is ∙ length-append other rest in
    elim more as (λ more. other ≡ one ++ more → length other ≡ length one + length more → other ≡ one) [
      | [] ↦ λ is long. is ∙ append-nil one
      | entry ∷ more ↦ λ is long. absurd (omega (arith, long, too))
    ] other_is long

pub held-same : (issuer : Setup) (table : List TableRow) (shard : ℕ) (old history : List Entry) → IsHeld issuer shard old history
    → IsHeld (with_table issuer table) shard old history
held-same issuer table shard old history held =
    let its = loads-between issuer shard old history history (journal_text history) held held.since.goes_on (record {
      between = history;
      from_first = goes-none history;
      to_last = goes-none history;
      image_is = ([], inl refl, (0, sym (append-nil (journal_text history))));
    }) in
    record {
      records = held.records;
      since = subst (λ (between : List Entry). IsLegalSince (with_table issuer table) shard old between)
          (both-ways history its.between its.from_first its.to_last) (its.left table).since;
    }
