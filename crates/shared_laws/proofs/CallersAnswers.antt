-- A run of several callers at one host, each with its pass, and what the laws state of their answers.
use Rattle.std.specs.Prelude.{◌≡◌, ◌≢◌, ◌⊎◌, ℕ, ◌+◌, ◌-◌, ◌^◌, ◌<◌, ◌≤◌, List, [], length, map, slice_get, true, false, Some, Ok}
use Rattle.issuer_base.specs.declared.answer.Answer.{Answer}
use Rattle.issuer_base.specs.declared.answer.Answer.TheVariants.{Fresh, Refused}
use Rattle.issuer_base.specs.declared.answer.Refusal.TheVariants.{Below, Pending, StoreFault}
use Rattle.issuer_base.specs.declared.answer.Reply.{Reply}
use Rattle.issuer_base.specs.declared.limits.TheConstants.{MAX_FAULTS_REPORTED}
use Rattle.issuer_base.specs.declared.request.Request.{Request}
use Rattle.card_history.specs.declared.decision.Asked.{Asked}
use Rattle.card_history.specs.OneReply.{IsOncePerCounter, IsOfItsRecord, reply_in}
use Rattle.issuer_base.specs.CardNames.{CardName}
use Rattle.card_history.specs.Records.{card_of}
use Rattle.issuer_setup.specs.IssuerSetup.{Setup, shard_of}
use Rattle.line_checks.specs.Reading.{reading}
use Rattle.claim_words.specs.declared.layout.TheConstants.{COUNTERS}
use Rattle.claim_words.specs.ClaimViews.{claims_on, times, is_live, is_kept, is_any}
use Rattle.shared_seats.specs.Totals.{total, how_many}
use Rattle.turn_book.specs.declared.logs.Log.{Log}
use Rattle.turn_book.specs.Logs.{heads_of, items_at, IsFront}
use Rattle.turn_book.specs.TurnRule.{between}
use Rattle.turn_book.specs.TurnViews.{times as times_placed}
use Rattle.shared_shards.specs.declared.logs.LogItem.{LogItem}
use Rattle.shared_shards.specs.declared.logs.LogHead.{LogHead}
use Rattle.shared_shards.specs.ShardLogs.{records_of, faults_of, RiseTo}
use Rattle.shared_laws.specs.OpeningLogs.{opened_on}
use Rattle.one_caller.specs.OneHistory.{IsAnswered, LegallyGoesOn}
use Rattle.shared_laws.specs.Callers.{Caller, IsCaller}
use Rattle.shared_laws.specs.Dealing.{every}
use Rattle.shared_laws.specs.Explained.{Explains, AreAnsweredInOrder, IsDecidedOn, history_at, histories_in}
use Rattle.shared_laws.specs.OwnPlaces.{is_record_at, faults_reported, shows_record}
use Rattle.shared_laws.specs.Settled.{is_below_or_pending}
use Rattle.shared_laws.specs.Shares.{Share}

-- the caller's share of the lines
abbrev pub share_of : Caller → Share
share_of caller = record { lines = caller.lines; answers = caller.answers }

abbrev pub shares_of : List Caller → List Share
shares_of callers = map share_of callers

-- these callers shared a host: it began with the opening logs, and these are its logs after all passes were joined and
-- it was closed
pub record AreCallers (issuer : Setup) (opening logs : List (Log LogItem LogHead)) (callers : List Caller) : Type 0 where
  pub some : 0 < issuer.shards
  pub count_is : length opening ≡ issuer.shards
  pub same_count : length logs ≡ length opening
  pub heads : heads_of logs ≡ heads_of opening
  pub each : (index : ℕ) (caller : Caller) → slice_get callers index ≡ Some caller → IsCaller issuer opening caller
  -- what each caller has seen is a prefix of the logs, and so are the opening logs
  pub seen : (index shard : ℕ) (caller : Caller) → slice_get callers index ≡ Some caller
      → IsFront (items_at caller.logs_now.seen shard) (items_at logs shard)
  pub opening_front : (shard : ℕ) → IsFront (items_at opening shard) (items_at logs shard)
  -- the indices of the items after the opening logs are exactly the callers' own, each once
  pub own : (shard place : ℕ) → shard < issuer.shards
      → total (λ caller. times_placed shard place caller.logs_now.mine) callers
      ≡ between (length (items_at opening shard)) (length (items_at logs shard)) place
  -- what a caller lost is recorded in the opening logs, or among some caller's claims
  pub found : (card counter : ℕ) → counter < COUNTERS → 0 < total (λ caller. times card counter caller.claims_now.found) callers
      → 0 < opened_on issuer opening card counter + total (λ caller. claims_on is_any card counter caller.claims_now.claims) callers
  -- what a caller read from a top is recorded in the opening logs, or among some caller's kept claims
  pub tops : (card counter : ℕ) → counter < COUNTERS → 0 < total (λ caller. times card counter caller.claims_now.tops) callers
      → 0 < opened_on issuer opening card counter + total (λ caller. claims_on is_kept card counter caller.claims_now.claims) callers
  -- each ATC of a card occurs at most once: in the opening logs, or as a claim that isn't given back
  pub once : (card counter : ℕ) → counter < COUNTERS
      → opened_on issuer opening card counter + total (λ caller. claims_on is_live card counter caller.claims_now.claims) callers ≤ 1
  -- each history was extended by legal records, each new decision is the table's, and the opening logs have records
  -- alone
  pub goes_on : (shard : ℕ) → shard < issuer.shards → LegallyGoesOn issuer shard (records_of (items_at opening shard)) (records_of (items_at logs shard))
  pub opened_plain : (shard : ℕ) → faults_of (items_at opening shard) ≡ []

-- there are `count` callers, each has the lines and the answers of its turns, and each line has an answer
pub record AreDealtToCallers (count : ℕ) (lines : List (List ℕ)) (answers : List Answer) (callers : List Caller) : Type 0 where
  pub count_is : length callers ≡ count
  pub answered : length answers ≡ length lines
  pub lines_are : (number : ℕ) (caller : Caller) → slice_get callers number ≡ Some caller → caller.lines ≡ every count number lines
  pub answers_are : (number : ℕ) (caller : Caller) → slice_get callers number ≡ Some caller → caller.answers ≡ every count number answers

-- ---- their answers

-- some line of some caller is a request on this ATC of the card, and has this answer
pub record IsCallersAnswerOn (issuer : Setup) (callers : List Caller) (card : CardName) (counter : ℕ) (answer : Answer) : Type 0 where
  pub number : ℕ
  pub caller : Caller
  pub caller_is : slice_get callers number ≡ Some caller
  pub index : ℕ
  pub request : Request
  pub answered : IsAnswered issuer caller.lines caller.answers index request answer
  pub card_is : card_of request ≡ card
  pub counter_is : request.atc ≡ counter

-- what holds of several callers' answers
pub record AreCallersExplained (issuer : Setup) (opening logs : List (Log LogItem LogHead)) (callers : List Caller) : Type 0 where
  -- each line was answered
  pub answered : (index : ℕ) (caller : Caller) → slice_get callers index ≡ Some caller → length caller.answers ≡ length caller.lines
  -- each answer is explained by the histories at opening and at close
  pub explained : (index place : ℕ) (caller : Caller) (line : List ℕ) (answer : Answer) → slice_get callers index ≡ Some caller
      → slice_get caller.lines place ≡ Some line → slice_get caller.answers place ≡ Some answer
      → Explains issuer (history_at opening) (history_at logs) (reading issuer line) answer
  -- each caller's answers are in order
  pub in_order : (index : ℕ) (caller : Caller) → slice_get callers index ≡ Some caller
      → AreAnsweredInOrder issuer (history_at opening) (history_at logs) caller.lines caller.answers
  -- the record that showed a caller that an ATC is too old isn't one that the same caller decided later
  pub below_first : (index place later : ℕ) (caller : Caller) (request other : Request) (top shard at : ℕ) (reply : Reply)
      → slice_get callers index ≡ Some caller → place < later
      → IsAnswered issuer caller.lines caller.answers place request (Refused (Below top))
      → IsAnswered issuer caller.lines caller.answers later other (Fresh shard at reply) → card_of other ≡ card_of request → other.atc ≢ top
  -- no ATC of a card was decided twice, whether in this run or before
  pub once : IsOncePerCounter (histories_in logs)
  -- each reply is that of its record
  pub recorded : (index place : ℕ) (caller : Caller) (request : Request) (answer : Answer) → slice_get callers index ≡ Some caller
      → IsAnswered issuer caller.lines caller.answers place request answer → IsOfItsRecord (histories_in logs) request answer
  -- two replies to the same request are the same reply, for any callers
  pub one_reply : (index other_index place other_place : ℕ) (caller other_caller : Caller) (request : Request) (answer other : Answer)
      (reply other_reply : Reply) → slice_get callers index ≡ Some caller → slice_get callers other_index ≡ Some other_caller
      → IsAnswered issuer caller.lines caller.answers place request answer
      → IsAnswered issuer other_caller.lines other_caller.answers other_place request other
      → reply_in answer ≡ Some reply → reply_in other ≡ Some other_reply → reply ≡ other_reply

-- how many of the callers' answers name a new record at this index of this shard
abbrev pub callers_answers_at : ℕ → ℕ → List Caller → ℕ
callers_answers_at shard place callers = total (λ caller. how_many (is_record_at shard place) caller.answers) callers

-- how many of all callers' answers report that the store of this shard failed
abbrev pub all_callers_faults : Setup → ℕ → List Caller → ℕ
all_callers_faults issuer shard callers = total (λ caller. faults_reported issuer shard caller.lines caller.answers) callers

-- `Pending` is right for the line at this index of a caller, a request that passes the checks: some line on its ATC

-- has another answer, the opening log has no decision on it, and no earlier line of the caller showed one
pub record IsCallersPending (issuer : Setup) (opening : List (Log LogItem LogHead)) (callers : List Caller) (caller : Caller) (index : ℕ) : Type 0 where
  pub request : Request
  pub answered : IsAnswered issuer caller.lines caller.answers index request (Refused Pending)
  pub elsewhere : (answer : Answer) × IsCallersAnswerOn issuer callers (card_of request) request.atc answer × (answer ≢ Refused Pending)
  pub unopened : IsDecidedOn (card_of request) request.atc (history_at opening (shard_of issuer (card_of request))) → ⊥
  pub unshown : (earlier : ℕ) (other : Request) (answer : Answer) → earlier < index
      → IsAnswered issuer caller.lines caller.answers earlier other answer → card_of other ≡ card_of request → other.atc ≡ request.atc
      → shows_record answer ≡ false

-- the line at this index of a caller passes the checks
pub record CallersLinePasses (issuer : Setup) (caller : Caller) (index : ℕ) : Type 0 where
  pub line : List ℕ
  pub line_is : slice_get caller.lines index ≡ Some line
  pub asked : Asked
  pub asked_is : reading issuer line ≡ Ok asked

-- what holds of the callers' answers and the items of the logs
pub record AreCallersOwnPlaces (issuer : Setup) (opening logs : List (Log LogItem LogHead)) (callers : List Caller) : Type 0 where
  -- exactly one answer names each record after the opening log, and none names another index of the shard
  pub places : (shard place : ℕ) → shard < issuer.shards
      → callers_answers_at shard place callers
      ≡ between (length (history_at opening shard)) (length (history_at logs shard)) place
  -- each answer `Pending` is right
  pub pending : (number index : ℕ) (caller : Caller) → slice_get callers number ≡ Some caller → slice_get caller.answers index ≡ Some (Refused Pending)
      → IsCallersPending issuer opening callers caller index
  -- only lines that pass the checks are answered `StoreFault`
  pub passes : (number index : ℕ) (caller : Caller) → slice_get callers number ≡ Some caller → slice_get caller.answers index ≡ Some (Refused StoreFault)
      → CallersLinePasses issuer caller index
  -- each fault in a shard's log is reported, by exactly one answer while the log has fewer faults than its limit
  pub told : (shard : ℕ) → shard < issuer.shards → length (faults_of (items_at logs shard)) ≤ all_callers_faults issuer shard callers
  pub told_once : (shard : ℕ) → shard < issuer.shards → length (faults_of (items_at logs shard)) < MAX_FAULTS_REPORTED
      → all_callers_faults issuer shard callers ≡ length (faults_of (items_at logs shard))

-- some line on this ATC of the card was decided
pub record IsCallersDecidedNow (issuer : Setup) (callers : List Caller) (card : CardName) (counter : ℕ) : Type 0 where
  pub shard : ℕ
  pub place : ℕ
  pub reply : Reply
  pub fresh : IsCallersAnswerOn issuer callers card counter (Fresh shard place reply)

-- each line on this ATC of the card was answered that it is too old or pending, and one of them that it is too old
pub record IsCallersLeft (issuer : Setup) (callers : List Caller) (card : CardName) (counter : ℕ) : Type 0 where
  pub each : (answer : Answer) → IsCallersAnswerOn issuer callers card counter answer → is_below_or_pending answer ≡ true
  pub top : ℕ
  pub below : IsCallersAnswerOn issuer callers card counter (Refused (Below top))

-- what holds of several callers' answers if no log has a fault
pub record AreCallersSettled (issuer : Setup) (opening : List (Log LogItem LogHead)) (callers : List Caller) : Type 0 where
  -- no answer reports that a store failed
  pub no_fault : (number index : ℕ) (caller : Caller) → slice_get callers number ≡ Some caller
      → slice_get caller.answers index ≢ Some (Refused StoreFault)
  -- each ATC that a line asks for was decided before the run or in it, or left as too old
  pub settled : (number index : ℕ) (caller : Caller) (request : Request) (answer : Answer) → slice_get callers number ≡ Some caller
      → IsAnswered issuer caller.lines caller.answers index request answer
      → IsDecidedOn (card_of request) request.atc (history_at opening (shard_of issuer (card_of request)))
      ⊎ IsCallersDecidedNow issuer callers (card_of request) request.atc
      ⊎ IsCallersLeft issuer callers (card_of request) request.atc

-- how many answers all callers had
abbrev pub callers_answers : List Caller → ℕ
callers_answers callers = total (λ caller. length caller.answers) callers

-- if a log's faults rise between two values of its store's counter, the answers that report a fault are at most the
-- increase
abbrev pub AreCallersFaultsCounted : Setup → List (Log LogItem LogHead) → List Caller → Type 0
AreCallersFaultsCounted issuer logs callers =
    (shard was is : ℕ) → shard < issuer.shards → RiseTo was (faults_of (items_at logs shard)) is → is < 2 ^ 64 - 1
    → callers_answers callers < MAX_FAULTS_REPORTED → was + all_callers_faults issuer shard callers ≤ is
