-- What a clearing check accounts for: each approval of the journals, once.
use Rattle.std.specs.Prelude.{◌≡◌, ◌↔◌, ℕ, ◌+◌, Bool, true, false, not, ◌&&◌, ◌==◌, List, length, map, filter, Some, Ok}
use Rattle.std.specs.List.{count_by, enumerate_from, flat_map, list_any}
use Rattle.issuer_base.specs.declared.answer.Reply.{Reply}
use Rattle.issuer_base.specs.declared.entry.Entry.{Entry}
use Rattle.issuer_base.specs.declared.entry.Entry.TheVariants.{Decided, Queued, Status}
use Rattle.issuer_base.specs.declared.request.Request.{Request}
use Rattle.card_history.specs.OneReply.{record_at}
use Rattle.card_history.specs.Records.{card_in, card_of}
use Rattle.issuer_setup.specs.CardList.{number_of}
use Rattle.issuer_setup.specs.IssuerSetup.{Setup}
use Rattle.line_checks.specs.RequestFacts.{HasValidAc}
use Rattle.clearing_check.specs.declared.filed.Filed.{Filed}
use Rattle.clearing_check.specs.declared.verdict.Verdict.{Verdict}
use Rattle.clearing_check.specs.declared.verdict.Verdict.TheVariants.{Certified}
use Rattle.clearing_check.specs.ClearText.{after_lines, verdict_text, verdicts_text}
use Rattle.clearing_check.specs.ClearingLine.{Presented, is_tc, presented}
use Rattle.clearing_check.specs.Records.{is_certified, opens, place_of}
use Rattle.clearing_check.specs.Verdicts.{verdict}
use Rattle.journal_reader.specs.Filing.{filed_records}

-- ---- the approvals

-- whether the record is a decision that approves
abbrev pub approves : Entry → Bool
approves (Decided request reply) = reply.approve
approves (Queued pan psn command) = false
approves (Status pan psn status) = false

-- where the approvals of a shard's history are: the shard, and the index of each in its journal
abbrev pub approvals_in : ℕ → List Entry → List (ℕ × ℕ)
approvals_in shard history =
    map (λ numbered. (shard, numbered.0)) (filter (λ numbered. approves numbered.1) (enumerate_from 0 history))

-- where the approvals of all histories are, in the order of the journals
abbrev pub approvals : List (List Entry) → List (ℕ × ℕ)
approvals histories = flat_map (λ numbered. approvals_in numbered.0 numbered.1) (enumerate_from 0 histories)

-- ---- what certifies them

-- whether the verdict certifies the record at this place, a shard and an index in its journal
abbrev pub certifies_at : ℕ × ℕ → Verdict → Bool
certifies_at at (Certified shard place) = shard == at.0 && place == at.1
certifies_at at _ = false

-- whether some line certifies the record at this place, each line judged by the journals' records alone
abbrev pub is_certified_at : Setup → List Filed → List (List ℕ) → ℕ × ℕ → Bool
is_certified_at issuer records lines at = list_any (λ line. certifies_at at (verdict issuer records line)) lines

-- the line presents a transaction certificate (TC) for the approval at this place of the histories
pub record Certifies (issuer : Setup) (histories : List (List Entry)) (line : List ℕ) (shard place : ℕ) : Type 0 where
  -- the record there approves this request
  pub decided : Request
  pub reply : Reply
  pub record_is : record_at histories shard place ≡ Some (Decided decided reply)
  pub approved : reply.approve ≡ true
  -- the line presents this one, with a TC, and the cryptogram is the one that the card makes over it
  pub found : Presented
  pub line_is : presented issuer line ≡ Ok found
  pub tc : is_tc found.request ≡ true
  pub valid : HasValidAc issuer found.request
  -- both are of one card, ATC, amount, currency, date and unpredictable number
  pub card : card_of found.request ≡ card_of decided
  pub atc : found.request.atc ≡ decided.atc
  pub amount : found.request.amount ≡ decided.amount
  pub currency : found.request.currency ≡ decided.currency
  pub date : found.request.date ≡ decided.date
  pub un : found.request.un ≡ decided.un

-- ---- the account

-- each record is of a card that the issuer has
abbrev pub HaveKnownCards : Setup → List (List Entry) → Type 0
HaveKnownCards issuer histories =
    (shard place : ℕ) (entry : Entry) → record_at histories shard place ≡ Some entry
    → (number : ℕ) × (number_of (card_in entry) issuer.cards ≡ Some number)

-- the clearing check of these lines accounts for the approvals of the histories, each once
pub record AccountsFor (issuer : Setup) (histories : List (List Entry)) (lines : List (List ℕ)) : Type 0 where
  -- each line has the verdict that the journals' records give it, whatever lines came before
  pub verdicts : verdicts_text issuer (filed_records issuer histories) lines
      ≡ flat_map (λ line. verdict_text (verdict issuer (filed_records issuer histories) line)) lines
  -- the certified records are the approvals that some line certifies
  pub certified_are :
      map place_of (filter is_certified (after_lines issuer (filed_records issuer histories) lines))
      ≡ filter (is_certified_at issuer (filed_records issuer histories) lines) (approvals histories)
  -- the open ones are the approvals that no line certifies
  pub open_are :
      map place_of (opens (after_lines issuer (filed_records issuer histories) lines))
      ≡ filter (λ at. not (is_certified_at issuer (filed_records issuer histories) lines at)) (approvals histories)
  -- so the two totals together are the number of approvals
  pub total : count_by is_certified (after_lines issuer (filed_records issuer histories) lines)
      + length (opens (after_lines issuer (filed_records issuer histories) lines)) ≡ length (approvals histories)
  -- and a line certifies a record exactly where it presents a TC for that approval
  pub by_lines : (line : List ℕ) (shard place : ℕ)
      → (verdict issuer (filed_records issuer histories) line ≡ Certified shard place)
      ↔ Certifies issuer histories line shard place
