-- What a request is answered whose claim was won, or whose ATC was seen recorded.
use Rattle.std.proofs.Common.{◌≡◌, ◌≢◌, ℕ, List, ◌++◌, Bool, true, Option, refl, sym, ap, ◌∙◌, subst}
use Rattle.std.proofs.lemmas.Bool.{true≢false}
use Rattle.std.proofs.lemmas.List.Elements.{All-contains}
use Rattle.std.specs.List.{Contains}
use Rattle.issuer_base.specs.declared.answer.Answer.{Answer}
use Rattle.issuer_base.specs.declared.answer.Answer.TheVariants.{Fresh, Kept, Refused}
use Rattle.issuer_base.specs.declared.answer.Reply.{Reply}
use Rattle.issuer_base.specs.declared.answer.Refusal.TheVariants.{Below, Taken, Pending, StoreFault}
use Rattle.issuer_base.specs.declared.entry.Entry.{Entry}
use Rattle.issuer_base.specs.declared.request.Request.{Request}
use Rattle.card_history.specs.declared.decision.Decision.{Decision}
use Rattle.issuer_base.specs.CardNames.{CardName}
use Rattle.card_history.specs.Records.{IsBelow, card_of, decided, greatest_atc}
use Rattle.card_history.specs.Turns.{decided_for, IsUnused, IsUsed}
use Rattle.card_history.proofs.RecordPlaces.{decided-recorded, recorded-decided}
use Rattle.issuer_setup.specs.IssuerSetup.{Setup, shard_of}
use Rattle.shard_book.specs.Replying.{reply_to}
use Rattle.shard_book.specs.Answering.{AnswersClaimed}
use Rattle.turn_book.specs.declared.view.TurnView.{TurnView}
use Rattle.turn_book.specs.Logs.{items_at}
use Rattle.turn_book.proofs.LogLemmas.{items-with_same}
use Rattle.shared_shards.specs.declared.logs.LogItem.{LogItem}
use Rattle.shared_shards.specs.declared.logs.LogHead.{LogHead}
use Rattle.shared_shards.specs.ShardLogs.{records_of}
use Rattle.shared_shards.specs.Turned.{log_after, turned, DecidesInTurn}
use Rattle.shared_laws.specs.Finishes.{seen_for, is_decided_or_fault, is_by_record, IsOwn, IsOpenTo, IsRecorded}
use Rattle.host_calls.proofs.Added.{IsHeaded}
use Rattle.host_calls.proofs.Closed.{records-go_on}
use Rattle.host_loading.proofs.Places.{read-front}

-- a decision stays one of a longer history
decided-longer : (card : CardName) (history more : List Entry) (decision : Decision) → Contains (decided card history) decision
    → Contains (decided card (history ++ more)) decision
decided-longer card history more decision there =
    let it = decided-recorded card history decision there in
    recorded-decided card (history ++ more) decision.place decision.request decision.reply (read-front history more decision.place _ it.0) it.1

module _ (shard : ℕ) (reply : List Entry → Request → Reply) (before : List Entry) (request : Request) where
  -- a decision that is on the ATC is the answer's own, where the records are open to the request
  none-used : (answer : Answer) (after : List Entry) (decision : Decision) → after ≡ before → IsOpenTo after request answer
      → IsUsed (decided_for request before) request decision → IsOwn answer decision
  none-used answer after decision same open_to used =
      open_to.unrecorded decision (subst (λ (history : List Entry). Contains (decided_for request history) decision) (sym same) used.recorded)
      used.same_counter

  pub won-by : (answer : Answer) (after : List Entry) → AnswersClaimed shard reply true before request answer after → IsOpenTo after request answer
      → is_decided_or_fault answer ≡ true
  won-by (Fresh at place made) after turn open_to = refl
  won-by (Kept at place made) after (used, at_is, after_is) open_to = absurd (none-used (Kept at place made) after _ after_is open_to used)
  won-by (Refused (Below top)) after (too_old, after_is) open_to =
      absurd (open_to.in_window (subst (λ (history : List Entry). IsBelow (greatest_atc (decided_for request history)) request.atc) (sym after_is)
      (subst (λ (found : Option ℕ). IsBelow found request.atc) (sym too_old.greatest_is) too_old.below)))
  won-by (Refused (Taken at place)) after ((decision, used, place_is, differs), at_is, after_is) open_to =
      absurd (none-used (Refused (Taken at place)) after decision after_is open_to used)
  won-by (Refused Pending) after (lost, unused, after_is) open_to = absurd (true≢false lost)
  won-by (Refused StoreFault) after turn open_to = refl
  won-by _ after turn open_to = absurd turn

  -- an ATC that is recorded isn't unused
  not-unused : (decision : Decision) → Contains (decided_for request before) decision → decision.request.atc ≡ request.atc
      → IsUnused (decided_for request before) request → ⊥
  not-unused decision there same unused =
      All-contains (λ (decision : Decision). decision.request.atc ≢ request.atc) (decided_for request before) decision unused.unrecorded there same

  pub recorded-by : (won : Bool) (answer : Answer) (after : List Entry) (decision : Decision) → Contains (decided_for request before) decision
      → decision.request.atc ≡ request.atc → AnswersClaimed shard reply won before request answer after → is_by_record answer ≡ true
  recorded-by won (Fresh at place made) after decision there same (claimed, (unused, at_is, place_is, made_is, after_is)) =
      absurd (not-unused decision there same unused)
  recorded-by won (Kept at place made) after decision there same turn = refl
  recorded-by won (Refused (Below top)) after decision there same turn = refl
  recorded-by won (Refused (Taken at place)) after decision there same turn = refl
  recorded-by won (Refused Pending) after decision there same (lost, unused, after_is) = absurd (not-unused decision there same unused)
  recorded-by won (Refused StoreFault) after decision there same (claimed, unused, after_is) = absurd (not-unused decision there same unused)
  recorded-by won _ after decision there same turn = absurd turn

-- what the pass has seen at exit of the shard is the log with what was added
exit-items : (issuer : Setup) (shard : ℕ) (between : List LogItem) (added : Option LogItem) (before after : TurnView LogItem LogHead)
    → IsHeaded issuer shard before.seen → after ≡ turned shard between added before → items_at after.seen shard ≡ log_after between added
exit-items issuer shard between added before after headed is =
    ap (λ (view : TurnView LogItem LogHead). items_at view.seen shard) is ∙ items-with_same before.seen shard (log_after between added) headed.0

module _ (issuer : Setup) (request : Request) (before : TurnView LogItem LogHead) (answer : Answer) (after : TurnView LogItem LogHead) where
  -- a request whose claim was won is decided or meets a fault of the store, where the records are open to it once it is answered
  pub won-decides : IsHeaded issuer (shard_of issuer (card_of request)) before.seen → DecidesInTurn issuer true request before answer after
      → IsOpenTo (seen_for issuer request after) request answer → is_decided_or_fault answer ≡ true
  won-decides headed turn open_to =
      let shard : ℕ = shard_of issuer (card_of request) in
      won-by shard (reply_to issuer) (records_of turn.between) request answer (records_of (log_after turn.between turn.added)) turn.changes
      (subst (λ (items : List LogItem). IsOpenTo (records_of items) request answer)
      (exit-items issuer shard turn.between turn.added before after headed turn.after_is) open_to)

  -- a request whose ATC the pass had seen recorded is answered by a record
  pub seen-answers : (won : Bool) → DecidesInTurn issuer won request before answer after → IsRecorded (seen_for issuer request before) request
      → is_by_record answer ≡ true
  seen-answers won turn (decision, there, same) =
      let shard : ℕ = shard_of issuer (card_of request) in
      let goes = records-go_on (items_at before.seen shard) turn.between turn.front in
      let later = decided-longer (card_of request) (seen_for issuer request before) goes.0 decision there in
      let now : Contains (decided_for request (records_of turn.between)) decision =
      subst (λ (history : List Entry). Contains (decided_for request history) decision) (sym goes.1) later in
      recorded-by shard (reply_to issuer) (records_of turn.between) request won answer (records_of (log_after turn.between turn.added)) decision now same
      turn.changes
