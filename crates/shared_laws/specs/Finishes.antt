-- What finishing what was checked may answer, and what it makes of a pass.
use Rattle.std.specs.Prelude.{◌≡◌, ⊤, Bool, true, false, List, Contains}
use Rattle.issuer_base.specs.declared.answer.Answer.{Answer}
use Rattle.issuer_base.specs.declared.answer.Answer.TheVariants.{Fresh, Kept, Refused}
use Rattle.issuer_base.specs.declared.answer.Refusal.TheVariants.{Below, Taken, StoreFault}
use Rattle.issuer_base.specs.declared.entry.Entry.{Entry}
use Rattle.issuer_base.specs.declared.request.Request.{Request}
use Rattle.card_history.specs.declared.decision.Decision.{Decision}
use Rattle.card_history.specs.Records.{card_of, greatest_atc, IsBelow}
use Rattle.card_history.specs.Turns.{decided_for}
use Rattle.issuer_setup.specs.IssuerSetup.{Setup, shard_of}
use Rattle.claim_words.specs.declared.view.ClaimView.{ClaimView}
use Rattle.claim_words.specs.declared.view.Standing.{Standing}
use Rattle.claim_words.specs.declared.view.Standing.TheVariants.{Kept as IsKept, GivenBack}
use Rattle.claim_words.specs.declared.claim_words.Claim.{Claim}
use Rattle.claim_words.specs.declared.claim_words.Claim.TheVariants.{Won, Lost}
use Rattle.claim_words.specs.ClaimViews.{settled}
use Rattle.turn_book.specs.declared.view.TurnView.{TurnView}
use Rattle.turn_book.specs.Logs.{items_at}
use Rattle.shared_shards.specs.declared.logs.LogItem.{LogItem}
use Rattle.shared_shards.specs.declared.logs.LogHead.{LogHead}
use Rattle.shared_shards.specs.ShardLogs.{records_of}
use Rattle.shared_shards.specs.Turned.{DecidesInTurn, OrdersInTurn}
use Rattle.shared_laws.specs.declared.checked.Checked.{Checked}
use Rattle.shared_laws.specs.declared.checked.Checked.TheVariants.{Decide, Order}

abbrev pub is_won : Claim → Bool
is_won Won = true
is_won Lost = false

-- whether the request was decided now
abbrev pub is_fresh : Answer → Bool
is_fresh (Fresh shard place reply) = true
is_fresh _ = false

-- a won claim is kept where its request was decided, and otherwise given back
abbrev pub standing_by : Answer → Standing
standing_by (Fresh shard place reply) = IsKept
standing_by _ = GivenBack

-- the claims of a pass once this was answered to what was checked with it: only a claim that was won for it changes
abbrev pub claims_after : Checked → Answer → ClaimView → ClaimView
claims_after (Decide found Won) answer claims = settled (standing_by answer) found.card found.request.atc claims
claims_after (Decide found Lost) answer claims = claims
claims_after (Order found) answer claims = claims

-- what was checked is answered at a turn in the shard of its card: a request by whether its claim was won
abbrev pub FinishesInTurn : Setup → Checked → TurnView LogItem LogHead → Answer → TurnView LogItem LogHead → Type 0
FinishesInTurn issuer (Decide found claim) before answer after =
    DecidesInTurn issuer (is_won claim) found.request before answer after
FinishesInTurn issuer (Order found) before answer after = OrdersInTurn issuer found before answer after

-- ---- what a request may count on

-- the records that a pass has seen in the shard of the request's card
abbrev pub seen_for : Setup → Request → TurnView LogItem LogHead → List Entry
seen_for issuer request view = records_of (items_at view.seen (shard_of issuer (card_of request)))

-- whether the answer is a new decision, or that the store failed
abbrev pub is_decided_or_fault : Answer → Bool
is_decided_or_fault (Fresh shard place reply) = true
is_decided_or_fault (Refused StoreFault) = true
is_decided_or_fault _ = false

-- whether it is an answer by a record: the stored reply, or that the ATC is taken or too old
abbrev pub is_by_record : Answer → Bool
is_by_record (Kept shard place reply) = true
is_by_record (Refused (Taken at place)) = true
is_by_record (Refused (Below top)) = true
is_by_record _ = false

-- the decision is at the index of the answer's new record
abbrev pub IsOwn : Answer → Decision → Type 0
IsOwn (Fresh shard place reply) decision = decision.place ≡ place
IsOwn _ decision = ⊥

-- these records have none on the request's ATC but the answer's own, and none that puts the ATC below the window
pub record IsOpenTo (history : List Entry) (request : Request) (answer : Answer) : Type 0 where
  pub in_window : IsBelow (greatest_atc (decided_for request history)) request.atc → ⊥
  pub unrecorded : (decision : Decision) → Contains (decided_for request history) decision
      → decision.request.atc ≡ request.atc → IsOwn answer decision

-- these records have one on the request's ATC
abbrev pub IsRecorded : List Entry → Request → Type 0
IsRecorded history request =
    (decision : Decision) × Contains (decided_for request history) decision × (decision.request.atc ≡ request.atc)

-- a request whose claim was won, and to which the shard's records are open once it is answered, is decided, or the
-- store failed
abbrev pub WonIsDecided : Setup → Checked → Answer → TurnView LogItem LogHead → Type 0
WonIsDecided issuer (Decide found Won) answer after =
    IsOpenTo (seen_for issuer found.request after) found.request answer → is_decided_or_fault answer ≡ true
WonIsDecided issuer (Decide found Lost) answer after = ⊤
WonIsDecided issuer (Order found) answer after = ⊤

-- a request whose ATC the pass had seen recorded is answered by a record
abbrev pub SeenIsAnswered : Setup → Checked → TurnView LogItem LogHead → Answer → Type 0
SeenIsAnswered issuer (Decide found claim) before answer =
    IsRecorded (seen_for issuer found.request before) found.request → is_by_record answer ≡ true
SeenIsAnswered issuer (Order found) before answer = ⊤

-- what was checked is answered so, by a pass that had seen the logs of `before` and has then seen those of `after`
pub record Finishes (issuer : Setup) (checked : Checked) (before : TurnView LogItem LogHead) (answer : Answer)
    (after : TurnView LogItem LogHead) : Type 0 where
  -- it is answered at a turn in the shard of its card
  pub turn : FinishesInTurn issuer checked before answer after
  -- a won request to which the shard's records are open then is decided, or the store failed
  pub won : WonIsDecided issuer checked answer after
  -- a request whose ATC the pass had seen recorded is answered by a record
  pub seen : SeenIsAnswered issuer checked before answer
