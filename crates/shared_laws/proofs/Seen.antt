-- What a caller sees of the histories by each of its lines.
use Rattle.std.proofs.Common.{◌≡◌, ◌≢◌, ◌≤◌, ◌<◌, ℕ, zero, suc, ◌%◌, List, [], ◌∷◌, ◌++◌, length, drop, Bool, Option, None, Some, Result, Ok, Err}
use Rattle.std.proofs.Common.{refl, sym, ap, subst, ◌∙◌, inl, inr, arith, append-nil}
use Rattle.std.proofs.Math.Nat.{mod-lt}
use Rattle.std.proofs.lemmas.Bool.{cases_eq}
use Rattle.std.proofs.lemmas.List.{take-append-drop}
use Rattle.std.specs.List.{slice_get}
use Rattle.std.specs.Option.{option_map_or}
use Rattle.issuer_base.specs.declared.answer.Answer.{Answer}
use Rattle.issuer_base.specs.declared.answer.Answer.TheVariants.{Fresh, Kept, Queued, Set, Refused}
use Rattle.issuer_base.specs.declared.answer.Refusal.{Refusal}
use Rattle.issuer_base.specs.declared.answer.Refusal.TheVariants.{Below, Taken, QueueFull, Pending, StoreFault}
use Rattle.issuer_base.specs.declared.answer.Reply.{Reply}
use Rattle.issuer_base.specs.declared.command.Command.{Command}
use Rattle.issuer_base.specs.declared.entry.Entry.{Entry}
use Rattle.issuer_base.specs.declared.entry.Entry.TheVariants.{Decided, Queued as IsQueued, Status as IsStatus}
use Rattle.issuer_base.specs.declared.request.Request.{Request}
use Rattle.card_history.specs.declared.decision.Asked.{Asked}
use Rattle.card_history.specs.declared.decision.Asked.TheVariants.{Decide, Queue, Status}
use Rattle.issuer_base.specs.CardNames.{CardName, named}
use Rattle.card_history.specs.Records.{card_of, IsBelow}
use Rattle.issuer_setup.specs.CardList.{number_of}
use Rattle.issuer_setup.specs.IssuerSetup.{Setup, shard_of}
use Rattle.shard_book.specs.Replying.{reply_to}
use Rattle.line_checks.specs.Reading.{reading}
use Rattle.claim_words.specs.declared.view.ClaimView.{ClaimView}
use Rattle.turn_book.specs.declared.view.TurnView.{TurnView}
use Rattle.turn_book.specs.Logs.{items_at, with_items, IsFront}
use Rattle.turn_book.proofs.LogLemmas.{items-with_same, items-with_other, heads-with, heads-length}
use Rattle.shard_book.specs.Answering.{AnswersClaimed, AnswersQueueing, AnswersSetting}
use Rattle.shared_shards.specs.declared.logs.LogItem.{LogItem}
use Rattle.shared_shards.specs.declared.logs.LogItem.TheVariants.{Record, Fault}
use Rattle.shared_shards.specs.declared.logs.LogHead.{LogHead}
use Rattle.shared_shards.specs.ShardLogs.{records_of}
use Rattle.shared_shards.specs.Turned.{log_after, AnswersInTurn}
use Rattle.shard_book.specs.Histories.{GoesOn}
use Rattle.shard_book.proofs.Histories.{goes-then}
use Rattle.shared_laws.specs.Authorising.{EndsIn, Authorises}
use Rattle.shared_laws.specs.Finishes.{FinishesInTurn, is_won}
use Rattle.shared_laws.specs.PreChecks.{asked_of, PreChecks}
use Rattle.shared_laws.specs.declared.checked.Checked.{Checked}
use Rattle.line_checks.specs.declared.checked.CheckedOrder.TheVariants.{Command as Queues, Status as Sets}
use Rattle.shared_laws.specs.declared.checked.Checked.TheVariants.{Decide as Decides, Order as Orders}
use Rattle.shared_laws.specs.Callers.{AuthorisesAll}
use Rattle.shared_laws.specs.Explained.{history_at, SeesTurn, Sees, AreAnsweredInOrder}

-- ---- histories that go on

records-append : (items more : List LogItem) → records_of (items ++ more) ≡ records_of items ++ records_of more
records-append [] more = refl
records-append (Record entry ∷ items) more = λ i. entry ∷ records-append items more i
records-append (Fault count ∷ items) more = records-append items more

-- the records of a log go on where its items do
pub records-go_on : (first last : List LogItem) → IsFront first last → GoesOn (records_of first) (records_of last)
records-go_on first last front =
    let rest : List LogItem = drop (length first) last in
    let parts : first ++ rest ≡ last = ap (λ (front : List LogItem). front ++ rest) (sym front) ∙ take-append-drop (length first) last in
    (records_of rest, ap records_of (sym parts) ∙ records-append first rest)

-- the same history goes on with nothing
pub goes-same : (first last : List Entry) → last ≡ first → GoesOn first last
goes-same first last same = ([], same ∙ sym (append-nil first))

claimed-goes_on : (shard : ℕ) (reply_to : List Entry → Request → Reply) (won : Bool) (before : List Entry) (request : Request) (answer : Answer)
    (after : List Entry) → AnswersClaimed shard reply_to won before request answer after → GoesOn before after
claimed-goes_on shard reply_to won before request (Fresh at place reply) after (claimed, (unused, at_is, place_is, reply_is, after_is)) =
    (Decided request reply ∷ [], after_is)
claimed-goes_on shard reply_to won before request (Kept at place reply) after (used, at_is, after_is) = goes-same before after after_is
claimed-goes_on shard reply_to won before request (Refused (Below top)) after (too_old, after_is) = goes-same before after after_is
claimed-goes_on shard reply_to won before request (Refused (Taken at place)) after (taken, at_is, after_is) = goes-same before after after_is
claimed-goes_on shard reply_to won before request (Refused Pending) after (lost, unused, after_is) = goes-same before after after_is
claimed-goes_on shard reply_to won before request (Refused StoreFault) after (claimed, unused, after_is) = goes-same before after after_is
claimed-goes_on shard reply_to won before request _ after turn = absurd turn

queueing-goes_on : (shard : ℕ) (before : List Entry) (name : CardName) (command : Command) (answer : Answer) (after : List Entry)
    → AnswersQueueing shard before name command answer after → GoesOn before after
queueing-goes_on shard before name command (Queued at place) after (room, at_is, place_is, after_is) =
    (IsQueued name.pan name.psn command ∷ [], after_is)
queueing-goes_on shard before name command (Refused QueueFull) after (full, after_is) = goes-same before after after_is
queueing-goes_on shard before name command (Refused StoreFault) after (room, after_is) = goes-same before after after_is
queueing-goes_on shard before name command _ after turn = absurd turn

setting-goes_on : (shard : ℕ) (before : List Entry) (name : CardName) (status : ℕ) (answer : Answer) (after : List Entry)
    → AnswersSetting shard before name status answer after → GoesOn before after
setting-goes_on shard before name status (Set at place) after (at_is, place_is, after_is) = (IsStatus name.pan name.psn status ∷ [], after_is)
setting-goes_on shard before name status (Refused StoreFault) after after_is = goes-same before after after_is
setting-goes_on shard before name status _ after turn = absurd turn

-- ---- what is seen at a turn

-- a turn goes on in its shard, and stays in the others
turn-goes_on : (shard : ℕ) (Changes : List Entry → List Entry → Type 0) (before after : ℕ → List Entry)
    → ((old new : List Entry) → Changes old new → GoesOn old new) → SeesTurn shard Changes before after → (other : ℕ) → GoesOn (before other) (after other)
turn-goes_on shard Changes before after on turn other =
    elim (cases_eq other shard) [
      | inl same ↦
          subst (λ other. GoesOn (before other) (after other)) (sym same)
          (goes-then (before shard) turn.between (after shard) turn.goes_on (on turn.between (after shard) turn.changes))
      | inr apart ↦ goes-same (before other) (after other) (turn.others other apart)
    ]

-- what a caller sees only goes on
pub sees-goes_on : (issuer : Setup) (says : Result Asked Refusal) (before : ℕ → List Entry) (answer : Answer) (after : ℕ → List Entry)
    → Sees issuer says before answer after → (shard : ℕ) → GoesOn (before shard) (after shard)
sees-goes_on issuer (Err refusal) before answer after sees shard = goes-same (before shard) (after shard) (sees.1 shard)
sees-goes_on issuer (Ok (Decide request)) before answer after (inl told) shard = goes-same (before shard) (after shard) (told.same shard)
sees-goes_on issuer (Ok (Decide request)) before answer after (inr (won, turn)) shard =
    turn-goes_on (shard_of issuer (card_of request)) _ before after
    (λ old new. claimed-goes_on (shard_of issuer (card_of request)) (reply_to issuer) won old request answer new) turn shard
sees-goes_on issuer (Ok (Queue pan psn command)) before answer after turn shard =
    turn-goes_on (shard_of issuer (named pan psn)) _ before after
    (λ old new. queueing-goes_on (shard_of issuer (named pan psn)) old (named pan psn) command answer new) turn shard
sees-goes_on issuer (Ok (Status pan psn status)) before answer after turn shard =
    turn-goes_on (shard_of issuer (named pan psn)) _ before after
    (λ old new. setting-goes_on (shard_of issuer (named pan psn)) old (named pan psn) status answer new) turn shard

module _ (issuer : Setup) (shard : ℕ) (Changes : List Entry → List Entry → Type 0) (before : TurnView LogItem LogHead) (answer : Answer)
    (after : TurnView LogItem LogHead) (below : shard < length before.seen) (turn : AnswersInTurn issuer shard Changes before answer after) where
  turn-there : history_at after.seen shard ≡ records_of (log_after turn.between turn.added)
  turn-there =
      ap (λ (view : TurnView LogItem LogHead). history_at view.seen shard) turn.after_is
      ∙ ap records_of (items-with_same before.seen shard (log_after turn.between turn.added) below)

  turn-elsewhere : (other : ℕ) → other ≢ shard → history_at after.seen other ≡ history_at before.seen other
  turn-elsewhere other apart =
      ap (λ (view : TurnView LogItem LogHead). history_at view.seen other) turn.after_is
      ∙ ap records_of (items-with_other before.seen shard other (log_after turn.between turn.added) apart)

  pub turn-sees : SeesTurn shard Changes (history_at before.seen) (history_at after.seen)
  turn-sees = record {
    between = records_of turn.between;
    goes_on = records-go_on (items_at before.seen shard) turn.between turn.front;
    changes = subst (Changes (records_of turn.between)) (sym turn-there) turn.changes;
    others = turn-elsewhere;
  }

  turn-long : length after.seen ≡ length before.seen
  turn-long =
      ap (λ (view : TurnView LogItem LogHead). length view.seen) turn.after_is
      ∙ heads-length (with_items before.seen shard (log_after turn.between turn.added)) before.seen
      (heads-with before.seen shard (log_after turn.between turn.added))

-- ---- what is seen by a line

-- a card's shard is one of the issuer's
pub home-below : (shards : ℕ) (found : Option ℕ) → 0 < shards → option_map_or (λ number. number % shards) found 0 < shards
home-below shards None some = some
home-below shards (Some number) some = mod-lt number some

-- the logs that a caller has seen are those of all shards
abbrev pub IsWhole : Setup → TurnView LogItem LogHead → Type 0
IsWhole issuer logs = length logs.seen ≡ issuer.shards

module _ (issuer : Setup) (some : 0 < issuer.shards) (answer : Answer) (logs logs_now : TurnView LogItem LogHead) (whole : IsWhole issuer logs) where
  pub home-there : (name : CardName) → shard_of issuer name < length logs.seen
  home-there name = let below = home-below issuer.shards (number_of name issuer.cards) some in omega (arith, below, whole)

  pub finish-sees : (checked : Checked) → FinishesInTurn issuer checked logs answer logs_now
      → Sees issuer (Ok (asked_of checked)) (history_at logs.seen) answer (history_at logs_now.seen) × IsWhole issuer logs_now
  finish-sees (Decides found claim) turn = (
    inr (is_won claim, turn-sees issuer (shard_of issuer (card_of found.request)) _ logs answer logs_now (home-there (card_of found.request)) turn),
    turn-long issuer (shard_of issuer (card_of found.request)) _ logs answer logs_now (home-there (card_of found.request)) turn ∙ whole,
  )
  finish-sees (Orders (Queues found)) turn = (
    turn-sees issuer (shard_of issuer (named found.pan found.psn)) _ logs answer logs_now (home-there (named found.pan found.psn)) turn,
    turn-long issuer (shard_of issuer (named found.pan found.psn)) _ logs answer logs_now (home-there (named found.pan found.psn)) turn ∙ whole,
  )
  finish-sees (Orders (Sets found)) turn = (
    turn-sees issuer (shard_of issuer (named found.pan found.psn)) _ logs answer logs_now (home-there (named found.pan found.psn)) turn,
    turn-long issuer (shard_of issuer (named found.pan found.psn)) _ logs answer logs_now (home-there (named found.pan found.psn)) turn ∙ whole,
  )

  unseen : logs_now ≡ logs → (shard : ℕ) → history_at logs_now.seen shard ≡ history_at logs.seen shard
  unseen same shard = ap (λ (view : TurnView LogItem LogHead). history_at view.seen shard) same

  ends-see : (says : Result Asked Refusal) (checked : Result Checked Refusal) (claims between claims_now : ClaimView)
      → PreChecks issuer says claims checked between → EndsIn issuer says checked between logs answer claims_now logs_now
      → Sees issuer says (history_at logs.seen) answer (history_at logs_now.seen) × IsWhole issuer logs_now
  ends-see says (Ok checked) claims between claims_now checks ends =
      let seen = finish-sees checked ends.1 in
      (subst (λ (says : Result Asked Refusal). Sees issuer says (history_at logs.seen) answer (history_at logs_now.seen)) ends.0 seen.0, seen.1)
  ends-see (Err refusal) (Err other) claims between claims_now checks ends =
      let same : other ≡ refusal = let e : Err other ≡ Err refusal = checks.0 in cc in (
        (ends.0 ∙ ap (λ (refusal : Refusal). Refused refusal) same, unseen ends.2),
        ap (λ (view : TurnView LogItem LogHead). length view.seen) ends.2 ∙ whole,
      )
  ends-see (Ok (Decide request)) (Err other) claims between claims_now (card, number_is, check) ends =
      let told = check.claims in (
        inl (record {
          top = told.0;
          answer_is = ends.0 ∙ ap (λ (refusal : Refusal). Refused refusal) told.4;
          below = subst (λ (top : Option ℕ). IsBelow top request.atc) told.1 told.3;
          same = unseen ends.2;
        }),
        ap (λ (view : TurnView LogItem LogHead). length view.seen) ends.2 ∙ whole,
      )
  ends-see (Ok (Queue pan psn command)) (Err other) claims between claims_now checks ends = absurd (let never = checks.0 in cc)
  ends-see (Ok (Status pan psn status)) (Err other) claims between claims_now checks ends = absurd (let never = checks.0 in cc)

  pub line-sees : (says : Result Asked Refusal) (claims claims_now : ClaimView) → Authorises issuer says claims logs answer claims_now logs_now
      → Sees issuer says (history_at logs.seen) answer (history_at logs_now.seen) × IsWhole issuer logs_now
  line-sees says claims claims_now line = ends-see says line.checked claims line.between claims_now line.checks line.ends

-- ---- all lines of a caller

-- what was seen first, and then what was seen after each line
then-seen : (ℕ → List Entry) → (ℕ → ℕ → List Entry) → ℕ → ℕ → List Entry
then-seen first later zero = first
then-seen first later (suc count) = later count

module _ (issuer : Setup) (some : 0 < issuer.shards) where
  pub lines-in_order : (lines : List (List ℕ)) (answers : List Answer) (claims : ClaimView) (logs : TurnView LogItem LogHead) (claims_now : ClaimView)
      (logs_now : TurnView LogItem LogHead) → AuthorisesAll issuer lines answers claims logs claims_now logs_now → IsWhole issuer logs
      → AreAnsweredInOrder issuer (history_at logs.seen) (history_at logs_now.seen) lines answers
  unfolding then-seen
  lines-in_order [] [] claims logs claims_now logs_now (claims_same, logs_same) whole = record {
    seen = λ count. history_at logs.seen;
    begins = refl;
    goes_on = λ count shard below. absurd (omega arith);
    within = λ count shard below.
        goes-same (history_at logs.seen shard) (history_at logs_now.seen shard)
        (ap (λ (view : TurnView LogItem LogHead). history_at view.seen shard) logs_same);
    sees = λ index line answer is. absurd (cc);
  }
  lines-in_order [] (answer ∷ answers) claims logs claims_now logs_now calls whole = absurd calls
  lines-in_order (line ∷ lines) [] claims logs claims_now logs_now calls whole = absurd calls
  lines-in_order (line ∷ lines) (answer ∷ answers) claims logs claims_now logs_now (claims_then, logs_then, call, calls) whole =
      let now = line-sees issuer some answer logs logs_then whole (reading issuer line) claims claims_then call in
      let later = lines-in_order lines answers claims_then logs_then claims_now logs_now calls now.1 in
      let first : ℕ → List Entry = history_at logs.seen in
      let sees : Sees issuer (reading issuer line) first answer (later.seen 0) =
      subst (Sees issuer (reading issuer line) first answer) (sym later.begins) now.0 in
      let on : (shard : ℕ) → GoesOn (first shard) (later.seen 0 shard) =
      sees-goes_on issuer (reading issuer line) first answer (later.seen 0) sees in
      record {
        seen = then-seen first later.seen;
        begins = refl;
        goes_on = λ count. elim count as (λ count. (shard : ℕ) → count < length (line ∷ lines)
            → GoesOn (then-seen first later.seen count shard) (then-seen first later.seen (suc count) shard)) [
              | zero ↦ λ shard below. on shard
              | suc count ↦ λ shard below. later.goes_on count shard (omega arith)
            ];
        within = λ count. elim count as (λ count. (shard : ℕ) → count ≤ length (line ∷ lines)
            → GoesOn (then-seen first later.seen count shard) (history_at logs_now.seen shard)) [
              | zero ↦ λ shard below.
                  goes-then (first shard) (later.seen 0 shard) (history_at logs_now.seen shard) (on shard) (later.within 0 shard (omega arith))
              | suc count ↦ λ shard below. later.within count shard (omega arith)
            ];
        sees = λ index. elim index as (λ index. (other : List ℕ) (given : Answer) → slice_get (line ∷ lines) index ≡ Some other
            → slice_get (answer ∷ answers) index ≡ Some given
            → Sees issuer (reading issuer other) (then-seen first later.seen index) given (then-seen first later.seen (suc index))) [
              | zero ↦ λ other given is given_is.
                  let same_line : line ≡ other = let e : Some line ≡ Some other = is in cc in
                  let same_answer : answer ≡ given = let e : Some answer ≡ Some given = given_is in cc in
                  subst (λ (line : List ℕ). Sees issuer (reading issuer line) first given (later.seen 0)) same_line
                  (subst (λ (answer : Answer). Sees issuer (reading issuer line) first answer (later.seen 0)) same_answer sees)
              | suc index ↦ λ other given is given_is. later.sees index other given is given_is
            ];
      }
