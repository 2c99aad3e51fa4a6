-- A decision is a valid successor if its request passes the check, its card is one of the shard's, its ATC is
-- unused, and its reply is the issuer's. The request of a valid successor passes the check.
use Rattle.std.proofs.Common.{◌≡◌, ◌≢◌, ℕ, List, take, Ok, All, arith}
use Rattle.issuer_base.specs.declared.limits.TheConstants.{OLD_WINDOW, WINDOW}
use Rattle.issuer_base.specs.declared.request.Request.{Request}
use Rattle.issuer_base.specs.declared.answer.Reply.{Reply}
use Rattle.issuer_base.specs.declared.entry.Entry.{Entry}
use Rattle.issuer_base.specs.declared.entry.Entry.TheVariants.{Decided, Queued, Status}
use Rattle.card_history.specs.declared.decision.Asked.TheVariants.{Decide}
use Rattle.card_history.specs.LegalRecords.{IsLegal, IsLegalDecision, IsLegalHistory}
use Rattle.card_history.specs.Records.{card_of, greatest_atc, IsBelowBy}
use Rattle.card_history.specs.Turns.{IsUnused, decided_for}
use Rattle.issuer_setup.specs.IssuerSetup.{Setup}
use Rattle.line_checks.specs.Reading.{checked}
use Rattle.line_checks.proofs.CheckedRequests.{checked-facts, facts-checked}
use Rattle.row_core.specs.Replying.{reply_to}
use Rattle.shard_book.specs.Grounds.{IsCardOfShard, grounds_by, grounds_now, grounds_of, grounds_old}
use Rattle.row_core.proofs.AcceptLemmas.{below-narrower}

module _ (issuer : Setup) (window : ℕ) (IsReply : List Entry → Request → Reply → Type 0) (shard : ℕ) (before : List Entry)
    (request : Request) (reply : Reply) where
  pub legal-by : IsCardOfShard issuer shard (card_of request) → checked issuer request ≡ Ok (Decide request)
      → (IsBelowBy window (greatest_atc (decided_for request before)) request.atc → ⊥)
      → All (λ decision. decision.request.atc ≢ request.atc) (decided_for request before) → IsReply before request reply
      → IsLegalDecision (grounds_by issuer window IsReply) shard before request reply
  legal-by home passes in_window unrecorded made =
      let facts = checked-facts issuer request passes in
      record {
        of_a_card = home;
        is_for_a_cryptogram_request = facts.is_for_a_cryptogram_request;
        has_its_keys = facts.has_its_keys;
        has_valid_ac = facts.has_valid_ac;
        unrecorded = unrecorded;
        in_window = in_window;
        is_the_issuers_reply = made;
      }

-- the request of a valid successor passes the check
pub legal-checked : (issuer : Setup) {window : ℕ} {IsReply : List Entry → Request → Reply → Type 0} {shard : ℕ} {before : List Entry}
    {request : Request} {reply : Reply} → IsLegalDecision (grounds_by issuer window IsReply) shard before request reply
    → checked issuer request ≡ Ok (Decide request)
legal-checked issuer {request} legal = facts-checked issuer request legal.is_for_a_cryptogram_request legal.has_valid_ac

-- of this run: the reply is the issuer's own decision
pub legal-own : (issuer : Setup) (shard : ℕ) (before : List Entry) (request : Request) (reply : Reply)
    → IsCardOfShard issuer shard (card_of request) → checked issuer request ≡ Ok (Decide request)
    → IsUnused (decided_for request before) request → reply ≡ reply_to issuer before request
    → IsLegalDecision (grounds_now issuer) shard before request reply
legal-own issuer shard before request reply home passes unused =
    legal-by issuer WINDOW (λ before request reply. reply ≡ reply_to issuer before request) shard before request reply home passes unused.in_window
    unused.unrecorded

-- what is a valid successor by the window of old journals is one by that of today
pub wider-legal : (issuer : Setup) (shard : ℕ) (before : List Entry) (entry : Entry) → IsLegal (grounds_old issuer) shard before entry
    → IsLegal (grounds_of issuer) shard before entry
wider-legal issuer shard before (Decided request reply) legal = record {
  of_a_card = legal.of_a_card;
  is_for_a_cryptogram_request = legal.is_for_a_cryptogram_request;
  has_its_keys = legal.has_its_keys;
  has_valid_ac = legal.has_valid_ac;
  unrecorded = legal.unrecorded;
  in_window = λ below.
      legal.in_window (below-narrower OLD_WINDOW (greatest_atc (decided_for request before)) request.atc (omega arith) below);
  is_the_issuers_reply = legal.is_the_issuers_reply;
}
wider-legal issuer shard before (Queued pan psn command) legal =
    record { of_a_card = legal.of_a_card; form = legal.form; room = legal.room }
wider-legal issuer shard before (Status pan psn status) legal = record { of_a_card = legal.of_a_card; within = legal.within }

-- so a legal history of an old journal is one of a journal of version 2
pub wider-history : (issuer : Setup) (shard : ℕ) (history : List Entry) → IsLegalHistory (grounds_old issuer) shard history
    → IsLegalHistory (grounds_of issuer) shard history
wider-history issuer shard history legal place entry at = wider-legal issuer shard (take place history) entry (legal place entry at)
