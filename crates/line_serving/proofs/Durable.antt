-- The record of each answer is durable.
use Rattle.std.proofs.Common.{◌≡◌, ℕ, Bool, zero, suc, ◌+◌, ◌-◌, ◌<◌, List, [], ◌∷◌, ◌++◌, length, take, drop, Option, None, Some, Result, Ok, Err}
use Rattle.std.proofs.Common.{refl, sym, ap, subst, ◌∙◌, inl, inr, arith, append_assoc, get_or}
use Rattle.std.specs.Prelude.{IfSome}
use Rattle.std.specs.List.{slice_get}
use Rattle.std.proofs.Math.Seq.{take-append-add}
use Rattle.std.proofs.lemmas.Bool.{cases_lt}
use Rattle.std.proofs.lemmas.List.{take-append-drop, length-map}
use Rattle.std.proofs.lemmas.List.Concat.{flat_map-append}
use Rattle.std.proofs.lemmas.Option.{slice_get_within, slice_get-get_or}
use Rattle.issuer_base.specs.CardNames.{CardName, named}
use Rattle.issuer_base.specs.Stores.{Disk, Moment}
use Rattle.issuer_base.specs.declared.answer.Answer.{Answer}
use Rattle.issuer_base.specs.declared.answer.Answer.TheVariants.{Fresh, Kept, Queued, Set, Refused}
use Rattle.issuer_base.specs.declared.answer.Refusal.{Refusal}
use Rattle.issuer_base.specs.declared.answer.Refusal.TheVariants.{Below}
use Rattle.issuer_base.specs.declared.command.Command.{Command}
use Rattle.issuer_base.specs.declared.entry.Entry.{Entry}
use Rattle.issuer_base.specs.declared.entry.Entry.TheVariants.{Decided, Queued as IsQueued, Status as IsStatus}
use Rattle.issuer_base.specs.declared.outside.store.Store.{Ghosts}
use Rattle.issuer_base.specs.declared.request.Request.{Request}
use Rattle.card_history.specs.declared.decision.Asked.{Asked}
use Rattle.card_history.specs.declared.decision.Asked.TheVariants.{Decide, Queue, Status}
use Rattle.card_history.specs.Records.{card_of}
use Rattle.issuer_setup.specs.IssuerSetup.{Setup, shard_of}
use Rattle.journal_rec.specs.RecordText.{text_of, texts_of, journal_text, version_line}
use Rattle.journal_store.specs.Images.{HasSafeText}
use Rattle.line_checks.specs.Reading.{reading}
use Rattle.shard_book.specs.Answering.{AnswersClaimed, AnswersQueueing, AnswersSetting}
use Rattle.shard_book.specs.Histories.{GoesOn}
use Rattle.shard_book.specs.Replying.{reply_to}
use Rattle.shard_book.specs.Shards.{disk_in}
use Rattle.shard_book.specs.declared.shard.Shard.{Shard}
use Rattle.shard_book.proofs.Histories.{goes-none}
use Rattle.turn_book.specs.declared.logs.Log.{Log}
use Rattle.turn_book.specs.Logs.{items_at, IsFront}
use Rattle.turn_book.specs.Seats.{view_of}
use Rattle.turn_book.specs.declared.view.TurnView.{TurnView}
use Rattle.shared_shards.specs.declared.logs.LogItem.{LogItem}
use Rattle.shared_shards.specs.declared.logs.LogHead.{LogHead}
use Rattle.shared_shards.specs.ShardLogs.{records_of, StandsForLog}
use Rattle.host_loading.proofs.Places.{read-within, read-front, read-behind}
use Rattle.shared_laws.specs.Callers.{Caller, AuthorisesAll}
use Rattle.claim_words.specs.declared.view.ClaimView.{ClaimView}
use Rattle.shared_laws.specs.Dealing.{every}
use Rattle.shared_laws.specs.Explained.{history_at, ExplainsRequest, ExplainsCommand, ExplainsStatus, Sees}
use Rattle.shared_laws.proofs.Explaining.{request-explained, command-explained, status-explained}
use Rattle.shared_laws.proofs.Seen.{records-go_on, lines-in_order}
use Rattle.line_serving.specs.Durable.{record_in, IsRecordOf, IsRecordedAt, IsRecordedIn, HasDurable, IsDurableAt}
use Rattle.line_serving.specs.Durable.{IsDurableBy, OwesDurable}
use Rattle.shared_callers.specs.Lanes.{issuer_in, opening_logs, LanesServe}
use Rattle.shared_callers.specs.OneLane.{HadLines}
use Rattle.shared_callers.specs.declared.lane.Lane.{Lane}
use Rattle.shared_callers.specs.declared.lanes.Lanes.{Lanes}
use Rattle.shared_callers.specs.declared.part.Part.{Part}

-- ---- the text of a durable history

-- the text of the first records and of the others
parted-text : (first more : List Entry) → journal_text (first ++ more) ≡ journal_text first ++ texts_of more
parted-text first more =
    ap (λ text. version_line ++ text) (flat_map-append text_of first more)
    ∙ sym (append_assoc version_line (texts_of first) (texts_of more))

-- the text begins with that of the first records
text-front : (history : List Entry) (count : ℕ) → journal_text history ≡ journal_text (take count history) ++ texts_of (drop count history)
text-front history count =
    ap journal_text (sym (take-append-drop count history)) ∙ parted-text (take count history) (drop count history)

-- a prefix of bytes that are durable is durable
safe-front : (text tail first more : List ℕ) (moment : Moment) → text ≡ first ++ more → HasSafeText text tail moment → HasDurable first moment
safe-front text tail first more moment parts safe =
    let kept : List ℕ = take safe.image.0 tail in
    let beyond : ℕ = moment.safe - length text in
    let long : moment.safe ≡ length text + beyond = let within = safe.safe in omega arith in (
      more ++ take beyond kept,
      ap (take moment.safe) safe.image.1
          ∙ ap (λ count. take count (text ++ kept)) long
          ∙ take-append-add text kept beyond
          ∙ ap (λ text. text ++ take beyond kept) parts
          ∙ append_assoc first more (take beyond kept),
    )

durable-front : (disk : Option Disk) (text tail first more : List ℕ) → text ≡ first ++ more → IfSome disk (λ disk. HasSafeText text tail disk.now)
    → IfSome disk (λ disk. HasDurable first disk.now)
durable-front None text tail first more parts safe = tt
durable-front (Some disk) text tail first more parts safe = safe-front text tail first more disk.now parts safe

-- a record of a history is durable where the history's text is
pub durable-at : (disk : Option Disk) (history : List Entry) (tail : List ℕ) (place : ℕ) (answer : Answer)
    → IfSome disk (λ disk. HasSafeText (journal_text history) tail disk.now) → IsRecordedAt history place answer
    → IsDurableAt disk history place answer
durable-at disk history tail place answer safe recorded = record {
  recorded = recorded;
  durable =
      durable-front disk (journal_text history) tail (journal_text (take (place + 1) history)) (texts_of (drop (place + 1) history))
      (text-front history (place + 1)) safe;
}

-- ---- the record of an answer

-- a record stays where the history is extended
pub recorded-at : (first last : List Entry) (place : ℕ) (answer : Answer) → GoesOn first last → IsRecordedAt first place answer
    → IsRecordedAt last place answer
recorded-at first last place answer on recorded = record {
  entry = recorded.entry;
  entry_is =
      subst (λ (last : List Entry). slice_get last place ≡ Some recorded.entry) (sym on.1)
      (read-front first on.0 place recorded.entry recorded.entry_is);
  its = recorded.its;
}

named-later : (first last : ℕ → List Entry) (answer : Answer) → ((shard : ℕ) → GoesOn (first shard) (last shard)) → (at : Option (ℕ × ℕ))
    → IfSome at (λ spot. IsRecordedAt (first spot.0) spot.1 answer) → IfSome at (λ spot. IsRecordedAt (last spot.0) spot.1 answer)
named-later first last answer on None recorded = tt
named-later first last answer on (Some spot) recorded =
    recorded-at (first spot.0) (last spot.0) spot.1 answer (on spot.0) recorded

pub recorded-later : (first last : ℕ → List Entry) (answer : Answer) → ((shard : ℕ) → GoesOn (first shard) (last shard))
    → IsRecordedIn first answer → IsRecordedIn last answer
recorded-later first last answer on recorded = named-later first last answer on (record_in answer) recorded

-- an answer that the histories explain has its record there
module _ (histories : ℕ → List Entry) (shard : ℕ) (first : List Entry) where
  recorded-there : (at place : ℕ) (answer : Answer) (entry : Entry) → at ≡ shard → slice_get (histories shard) place ≡ Some entry
      → IsRecordOf answer entry → IsRecordedAt (histories at) place answer
  recorded-there at place answer entry at_is there its = record {
    entry = entry;
    entry_is = ap (λ (shard : ℕ). slice_get (histories shard) place) at_is ∙ there;
    its = its;
  }

  pub request-recorded : (request : Request) (answer : Answer) → ExplainsRequest shard first (histories shard) request answer
      → IsRecordedIn histories answer
  request-recorded request (Fresh at place reply) (at_is, later, there) =
      recorded-there at place (Fresh at place reply) (Decided request reply) at_is there (request, refl)
  request-recorded request (Kept at place reply) (at_is, there) =
      recorded-there at place (Kept at place reply) (Decided request reply) at_is there (request, refl)
  request-recorded request (Queued at place) explained = absurd explained
  request-recorded request (Set at place) explained = absurd explained
  request-recorded request (Refused refusal) explained = tt

  pub command-recorded : (card : CardName) (command : Command) (answer : Answer)
      → ExplainsCommand shard first (histories shard) card command answer → IsRecordedIn histories answer
  command-recorded card command (Queued at place) (at_is, later, there) =
      recorded-there at place (Queued at place) (IsQueued card.pan card.psn command) at_is there (card, command, refl)
  command-recorded card command (Fresh at place reply) explained = absurd explained
  command-recorded card command (Kept at place reply) explained = absurd explained
  command-recorded card command (Set at place) explained = absurd explained
  command-recorded card command (Refused refusal) explained = tt

  pub status-recorded : (card : CardName) (status : ℕ) (answer : Answer) → ExplainsStatus shard first (histories shard) card status answer
      → IsRecordedIn histories answer
  status-recorded card status (Set at place) (at_is, later, there) =
      recorded-there at place (Set at place) (IsStatus card.pan card.psn status) at_is there (card, status, refl)
  status-recorded card status (Fresh at place reply) explained = absurd explained
  status-recorded card status (Kept at place reply) explained = absurd explained
  status-recorded card status (Queued at place) explained = absurd explained
  status-recorded card status (Refused refusal) explained = tt

-- so has one that changed the history of its shard
module _ (histories : ℕ → List Entry) (shard : ℕ) (between : List Entry) (answer : Answer) where
  pub claimed-recorded : (issuer : Setup) (won : Bool) (request : Request)
      → AnswersClaimed shard (reply_to issuer) won between request answer (histories shard) → IsRecordedIn histories answer
  claimed-recorded issuer won request changes =
      request-recorded histories shard between request answer
      (request-explained between between (histories shard) (histories shard) (goes-none between) (goes-none (histories shard)) shard
      (reply_to issuer) won request answer changes)

  pub queued-recorded : (card : CardName) (command : Command) → AnswersQueueing shard between card command answer (histories shard)
      → IsRecordedIn histories answer
  queued-recorded card command changes =
      command-recorded histories shard between card command answer
      (command-explained between between (histories shard) (histories shard) (goes-none between) (goes-none (histories shard)) shard card command
      answer changes)

  pub set-recorded : (card : CardName) (status : ℕ) → AnswersSetting shard between card status answer (histories shard)
      → IsRecordedIn histories answer
  set-recorded card status changes =
      status-recorded histories shard between card status answer
      (status-explained between between (histories shard) (histories shard) (goes-none between) (goes-none (histories shard)) shard card status
      answer changes)

-- a refusal has none
pub refused-recorded : (histories : ℕ → List Entry) (answer : Answer) (refusal : Refusal) → answer ≡ Refused refusal → IsRecordedIn histories answer
refused-recorded histories answer refusal is = subst (IsRecordedIn histories) (sym is) tt

-- ---- the answers of one caller

-- the record of an answer is in what its caller has then seen
sees-recorded : (issuer : Setup) (says : Result Asked Refusal) (before : ℕ → List Entry) (answer : Answer) (after : ℕ → List Entry)
    → Sees issuer says before answer after → IsRecordedIn after answer
sees-recorded issuer (Err refusal) before answer after sees = refused-recorded after answer refusal sees.0
sees-recorded issuer (Ok (Decide request)) before answer after (inl told) = refused-recorded after answer (Below told.top) told.answer_is
sees-recorded issuer (Ok (Decide request)) before answer after (inr (won, turn)) =
    claimed-recorded after (shard_of issuer (card_of request)) turn.between answer issuer won request turn.changes
sees-recorded issuer (Ok (Queue pan psn command)) before answer after turn =
    queued-recorded after (shard_of issuer (named pan psn)) turn.between answer (named pan psn) command turn.changes
sees-recorded issuer (Ok (Status pan psn status)) before answer after turn =
    set-recorded after (shard_of issuer (named pan psn)) turn.between answer (named pan psn) status turn.changes

-- a caller has as many answers as lines
answered-all : (issuer : Setup) (lines : List (List ℕ)) (answers : List Answer) (claims : ClaimView) (logs : TurnView LogItem LogHead)
    (claims_now : ClaimView) (logs_now : TurnView LogItem LogHead) → AuthorisesAll issuer lines answers claims logs claims_now logs_now
    → length answers ≡ length lines
answered-all issuer [] [] claims logs claims_now logs_now calls = refl
answered-all issuer [] (answer ∷ answers) claims logs claims_now logs_now calls = absurd calls
answered-all issuer (line ∷ lines) [] claims logs claims_now logs_now calls = absurd calls
answered-all issuer (line ∷ lines) (answer ∷ answers) claims logs claims_now logs_now (claims_then, logs_then, call, calls) =
    omega (arith, answered-all issuer lines answers claims_then logs_then claims_now logs_now calls)

-- the record of each answer is in the logs that the caller has seen
had-recorded : (issuer : Setup) (opening : List (Log LogItem LogHead)) (lane : Lane) (lines : List (List ℕ)) (answers : List Answer)
    → 0 < issuer.shards → length opening ≡ issuer.shards → HadLines issuer opening lane.pass lines answers
    → (place : ℕ) (answer : Answer) → slice_get answers place ≡ Some answer
    → IsRecordedIn (history_at (view_of lane.pass.turns).seen) answer
had-recorded issuer opening lane lines answers some long had place answer answer_is =
    let caller : Caller = had.caller in
    let its = had.caller_is in
    let whole : length caller.logs.seen ≡ issuer.shards = ap (λ (logs : List (Log LogItem LogHead)). length logs) its.opened ∙ long in
    let order = lines-in_order issuer some caller.lines caller.answers caller.claims caller.logs caller.claims_now caller.logs_now its.calls whole in
    let here : slice_get caller.answers place ≡ Some answer = ap (λ (answers : List Answer). slice_get answers place) had.answers_are ∙ answer_is in
    let below : place < length caller.lines =
    let within = slice_get_within caller.answers place answer here in
    let as_many = answered-all issuer caller.lines caller.answers caller.claims caller.logs caller.claims_now caller.logs_now its.calls in
    omega (arith, within, as_many) in
    let line = read-within caller.lines place below in
    let recorded = sees-recorded issuer (reading issuer line.0) (order.seen place) answer (order.seen (suc place))
    (order.sees place line.0 answer line.1 here) in
    subst (λ (logs : TurnView LogItem LogHead). IsRecordedIn (history_at logs.seen) answer) had.logs_are
    (recorded-later (order.seen (suc place)) (history_at caller.logs_now.seen) answer
    (λ shard. order.within (suc place) shard (omega (arith, below))) recorded)

-- ---- that it is durable

module _ {S : Type 0} (G : Ghosts S) where
  -- a record of a log is durable in each shard that stands for a longer one
  stands-durable : (seen : List (Log LogItem LogHead)) (number place : ℕ) (answer : Answer) → IsRecordedAt (history_at seen number) place answer
      → (shard : Shard S G) (head : LogHead) (items : List LogItem) → IsFront (items_at seen number) items
      → StandsForLog shard head items → IsDurableAt (disk_in shard) (records_of items) place answer
  stands-durable seen number place answer recorded shard head items front stands =
      durable-at (disk_in shard) (records_of items) stands.stands.journal_holds.tail place answer stands.stands.journal_holds.holds.disk_is
      (recorded-at (history_at seen number) (records_of items) place answer (records-go_on (items_at seen number) items front) recorded)

  named-durable : (seen : List (Log LogItem LogHead)) (answer : Answer) (at : Option (ℕ × ℕ))
      → IfSome at (λ spot. IsRecordedAt (history_at seen spot.0) spot.1 answer)
      → IfSome at (λ spot. IsRecordedAt (history_at seen spot.0) spot.1 answer
      × ((shard : Shard S G) (head : LogHead) (items : List LogItem) → IsFront (items_at seen spot.0) items
      → StandsForLog shard head items → IsDurableAt (disk_in shard) (records_of items) spot.1 answer))
  named-durable seen answer None recorded = tt
  named-durable seen answer (Some spot) recorded = (recorded, stands-durable seen spot.0 spot.1 answer recorded)

-- ---- the answers of all callers

-- an item of a list is dealt to some lane
pub dealt-to : {A : Type 0} (count : ℕ) (items : List A) (place : ℕ) (item : A) → 0 < count → slice_get items place ≡ Some item
    → (number : ℕ) × (number < count) × (at : ℕ) × (slice_get (every count number items) at ≡ Some item)
dealt-to count [] place item some is = absurd (cc)
dealt-to count (first ∷ items) zero item some is = (0, some, 0, is)
dealt-to {A} count (first ∷ items) (suc place) item some is =
    let later = dealt-to count items place item some is in
    elim (cases_lt (suc later.0) count) [
      | inl more ↦ (suc later.0, more, later.2, later.3)
      | inr last ↦
          let same : count - 1 ≡ later.0 = let below = later.1 in omega (arith, below, last) in
          (0, some, suc later.2, ap (λ number. slice_get (every count number items) later.2) same ∙ later.3)
    ]

module _ {S : Type 0} {G : Ghosts S} (lanes : Lanes S G) where
  -- the record of each answer is durable by the logs that its caller has seen
  answer-durable : (lines : List (List ℕ)) (answers due : List Answer) (waiting : List (List ℕ)) → LanesServe lanes lines answers due waiting
      → (place : ℕ) (answer : Answer) → slice_get answers place ≡ Some answer → IsDurableBy lanes answer
  answer-durable lines answers due waiting served place answer is =
      let lane_room : Lane → ℕ = λ lane. lane.lines.room in
      let part_room : Part → ℕ = λ part. part.lines.room in
      let as_many : length lanes.lanes.items ≡ length lanes.half.parts.items =
      sym (length-map lanes.lanes.items lane_room) ∙ ap (λ (rooms : List ℕ). length rooms) lanes.rooms
      ∙ length-map lanes.half.parts.items part_room in
      let parts : 0 < length lanes.half.parts.items = omega (arith, lanes.half.some, lanes.half.parts.ok.0) in
      let some : 0 < length lanes.lanes.items = omega (arith, as_many, parts) in
      let mine = dealt-to (length lanes.lanes.items) answers place answer some is in
      let lane = read-within lanes.lanes.items mine.0 mine.1 in
      let had = served.dealt.had mine.0 lane.0 lane.1 in
      let recorded = had-recorded (issuer_in lanes) (opening_logs lanes) lane.0 (every (length lanes.lanes.items) mine.0 lines)
      (every (length lanes.lanes.items) mine.0 answers) lanes.shards lanes.host.shards.count_is had mine.2 answer mine.3 in
      record {
        number = mine.0;
        lane = lane.0;
        lane_is = lane.1;
        durable = named-durable G (view_of lane.0.pass.turns).seen answer (record_in answer) recorded;
      }

  -- so it is with those that are due
  pub owes-durable : (lines : List (List ℕ)) (answers due : List Answer) (waiting : List (List ℕ)) → LanesServe lanes lines answers due waiting
      → OwesDurable lanes
  owes-durable lines answers due waiting served = record {
    lines = lines;
    answers = answers;
    due = due;
    waiting = waiting;
    served = served;
    durable = λ place given below.
        answer-durable lines answers due waiting served (length served.dealt.taken + place) (get_or due place given)
        (ap (λ (answers : List Answer). slice_get answers (length served.dealt.taken + place)) served.dealt.answers_are
        ∙ read-behind served.dealt.taken due place ∙ slice_get-get_or due place given below);
  }
