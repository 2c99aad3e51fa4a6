-- A card's own records leave one answer to what is asked of it.
use Rattle.std.proofs.Common.{◌≡◌, ◌≢◌, ℕ, Bool, true, false, List, map, Contains, get_or, refl, sym, ap, ap₂, subst, ◌∙◌, Some}
use Rattle.std.proofs.lemmas.Bool.{true≢false}
use Rattle.std.proofs.lemmas.List.Elements.{All-contains, Contains-get_or}
use Rattle.std.proofs.lemmas.Option.{same_Some}
use Rattle.std.specs.List.{slice_get}
use Rattle.issuer_base.specs.CardNames.{CardName, named}
use Rattle.issuer_base.specs.declared.answer.Answer.{Answer}
use Rattle.issuer_base.specs.declared.answer.Answer.TheVariants.{Fresh, Kept, Queued, Set, Refused}
use Rattle.issuer_base.specs.declared.answer.Refusal.TheVariants.{Below, Taken, Pending, QueueFull, StoreFault}
use Rattle.issuer_base.specs.declared.answer.Reply.{Reply}
use Rattle.issuer_base.specs.declared.command.Command.{Command}
use Rattle.issuer_base.specs.declared.entry.Entry.{Entry}
use Rattle.issuer_base.specs.declared.entry.Entry.TheVariants.{Decided, Queued as IsQueued, Status as IsStatus}
use Rattle.issuer_base.specs.declared.request.Request.{Request}
use Rattle.card_history.specs.LegalRecords.{IsLegalHistory}
use Rattle.card_history.specs.Records.{IsBelow, card_of, greatest_atc}
use Rattle.card_history.specs.Scripts.{scripts_of, waiting}
use Rattle.card_history.specs.Turns.{IsTooOld, IsUnused, IsUsed, decided_for}
use Rattle.card_history.specs.declared.decision.Asked.{Asked}
use Rattle.card_history.specs.declared.decision.Asked.TheVariants.{Decide, Queue, Status}
use Rattle.card_history.specs.declared.decision.Decision.{Decision}
use Rattle.card_history.proofs.CardNames.{has_numbers-other, is_of-card_of, is_of-names, is_of-other}
use Rattle.card_history.proofs.RecordPlaces.{decided-recorded, recorded-decided}
use Rattle.script_queue.specs.CommandQueue.{CommandQueue, TakesOneMore}
use Rattle.issuer_setup.specs.IssuerSetup.{Setup}
use Rattle.shard_book.specs.Answering.{AnswersClaimed, AnswersQueueing, AnswersSetting, is_store_fault}
use Rattle.shard_book.specs.Grounds.{grounds_of}
use Rattle.shard_book.specs.Histories.{GoesOn}
use Rattle.shard_book.specs.Replying.{reply_to}
use Rattle.host_loading.proofs.Places.{read-front}
use Rattle.one_caller.specs.Turns.{AnswersAsked, card_asked}
use Rattle.one_caller.proofs.LegalBooks.{once-in}
use Rattle.desk_host.specs.Isolation.{IsUndecided, is_pending, own_records, unplaced}
use Rattle.desk_host.proofs.OwnRecords.{core, contains-same, decided-same, greatest-same, other-added, reply-same, scripts-same}

-- ---- requests

-- no two of the decisions are on one ATC
abbrev AreOnce : List Decision → Type 0
AreOnce decisions =
    (one other : Decision) → Contains decisions one → Contains decisions other → one.request.atc ≡ other.request.atc
    → (one.request ≡ other.request) × (one.reply ≡ other.reply)

-- what is told to a request, by its card's decisions and the reply that a new one gets
abbrev IsTold : List Decision → Reply → Request → Answer → Type 0
IsTold decisions new request (Fresh at place reply) = IsUnused decisions request × (reply ≡ new)
IsTold decisions new request (Kept at place reply) =
    (decision : Decision) × IsUsed decisions request decision × (decision.request ≡ request) × (decision.reply ≡ reply)
IsTold decisions new request (Refused (Below top)) = IsTooOld decisions request top
IsTold decisions new request (Refused (Taken at place)) =
    (decision : Decision) × IsUsed decisions request decision × (decision.request ≢ request)
IsTold decisions new request _ = ⊥

-- a claim that was lost may leave the answer pending
claimed-told : (shard : ℕ) (replies : List Entry → Request → Reply) (won : Bool) (before : List Entry) (request : Request)
    (answer : Answer) (after : List Entry) → is_store_fault answer ≡ false → (won ≡ false → is_pending answer ≡ false)
    → AnswersClaimed shard replies won before request answer after
    → IsTold (decided_for request before) (replies before request) request answer
claimed-told shard replies won before request (Fresh at place reply) after fine held (its, (unused, at_is, place_is, reply_is, after_is)) =
    (unused, reply_is)
claimed-told shard replies won before request (Kept at place reply) after fine held (used, at_is, after_is) =
    (record { request = request; reply = reply; place = place }, used, refl, refl)
claimed-told shard replies won before request (Refused (Below top)) after fine held (too_old, after_is) = too_old
claimed-told shard replies won before request (Refused (Taken at place)) after fine held ((decision, used, place_is, other), at_is, after_is) =
    (decision, used, other)
claimed-told shard replies won before request (Refused Pending) after fine held (lost, unused, after_is) = absurd (true≢false (held lost))
claimed-told shard replies won before request (Refused StoreFault) after fine held turn = absurd (true≢false fine)
claimed-told shard replies won before request _ after fine held turn = absurd turn

module _ (decisions : List Decision) (request : Request) where
  pub unused-used : (decision : Decision) → IsUnused decisions request → IsUsed decisions request decision → ⊥
  unused-used decision unused used =
      All-contains (λ (d : Decision). d.request.atc ≢ request.atc) decisions decision unused.unrecorded used.recorded used.same_counter

  pub old-in_window : (top : ℕ) → IsTooOld decisions request top → (IsBelow (greatest_atc decisions) request.atc → ⊥) → ⊥
  old-in_window top old within = within (subst (λ greatest. IsBelow greatest request.atc) (sym old.greatest_is) old.below)

  module _ (once : AreOnce decisions) where
    used-one : (one other : Decision) → IsUsed decisions request one → IsUsed decisions request other
        → (one.request ≡ other.request) × (one.reply ≡ other.reply)
    used-one one other used too = once one other used.recorded too.recorded (used.same_counter ∙ sym too.same_counter)

    told-one : (new : Reply) (answer other : Answer) → IsTold decisions new request answer → IsTold decisions new request other
        → unplaced answer ≡ unplaced other
    told-one new (Fresh at place reply) (Fresh at2 place2 reply2) (unused, is) (unused2, is2) = ap (λ (r : Reply). Fresh 0 0 r) (is ∙ sym is2)
    told-one new (Fresh at place reply) (Kept at2 place2 reply2) (unused, is) (decision, used, same, reply_is) =
        absurd (unused-used decision unused used)
    told-one new (Fresh at place reply) (Refused (Below top)) (unused, is) old = absurd (old-in_window top old unused.in_window)
    told-one new (Fresh at place reply) (Refused (Taken at2 place2)) (unused, is) (decision, used, other) =
        absurd (unused-used decision unused used)
    told-one new (Fresh at place reply) _ told none = absurd none
    told-one new (Kept at place reply) (Fresh at2 place2 reply2) (decision, used, same, reply_is) (unused, is) =
        absurd (unused-used decision unused used)
    told-one new (Kept at place reply) (Kept at2 place2 reply2) (decision, used, same, reply_is) (decision2, used2, same2, reply_is2) =
        ap (λ (r : Reply). Kept 0 0 r) (sym reply_is ∙ (used-one decision decision2 used used2).1 ∙ reply_is2)
    told-one new (Kept at place reply) (Refused (Below top)) (decision, used, same, reply_is) old =
        absurd (old-in_window top old used.in_window)
    told-one new (Kept at place reply) (Refused (Taken at2 place2)) (decision, used, same, reply_is) (decision2, used2, apart) =
        absurd (apart ((used-one decision2 decision used2 used).0 ∙ same))
    told-one new (Kept at place reply) _ told none = absurd none
    told-one new (Refused (Below top)) (Fresh at2 place2 reply2) old (unused, is) = absurd (old-in_window top old unused.in_window)
    told-one new (Refused (Below top)) (Kept at2 place2 reply2) old (decision, used, same, reply_is) =
        absurd (old-in_window top old used.in_window)
    told-one new (Refused (Below top)) (Refused (Below top2)) old old2 =
        ap (λ (n : ℕ). Refused (Below n)) (same_Some top top2 (sym old.greatest_is ∙ old2.greatest_is))
    told-one new (Refused (Below top)) (Refused (Taken at2 place2)) old (decision, used, apart) =
        absurd (old-in_window top old used.in_window)
    told-one new (Refused (Below top)) _ told none = absurd none
    told-one new (Refused (Taken at place)) (Fresh at2 place2 reply2) (decision, used, apart) (unused, is) =
        absurd (unused-used decision unused used)
    told-one new (Refused (Taken at place)) (Kept at2 place2 reply2) (decision, used, apart) (decision2, used2, same, reply_is) =
        absurd (apart ((used-one decision decision2 used used2).0 ∙ same))
    told-one new (Refused (Taken at place)) (Refused (Below top)) (decision, used, apart) old =
        absurd (old-in_window top old used.in_window)
    told-one new (Refused (Taken at place)) (Refused (Taken at2 place2)) told told2 = refl
    told-one new (Refused (Taken at place)) _ told none = absurd none
    told-one new _ other none told = absurd none

-- what is told by decisions that are the same but for their indexes
module _ (card : CardName) (mine theirs : List Decision) (same : map (core card) theirs ≡ map (core card) mine) (request : Request) where
  in_window-move : (IsBelow (greatest_atc theirs) request.atc → ⊥) → IsBelow (greatest_atc mine) request.atc → ⊥
  in_window-move within below =
      within (subst (λ greatest. IsBelow greatest request.atc) (sym (greatest-same card theirs mine same)) below)

  unused-move : IsUnused theirs request → IsUnused mine request
  unused-move unused = record {
    in_window = in_window-move unused.in_window;
    unrecorded = λ k default within counter.
        let my = get_or mine k default in
        let its = contains-same card mine theirs (sym same) my (Contains-get_or mine k default within) in
        All-contains (λ (d : Decision). d.request.atc ≢ request.atc) theirs its.found unused.unrecorded its.there
        (ap (λ (r : Request). r.atc) its.request_is ∙ counter);
  }

  record IsUsedToo (decision : Decision) : Type 0 where
    found : Decision
    used : IsUsed mine request found
    request_is : found.request ≡ decision.request
    reply_is : found.reply ≡ decision.reply

  used-move : (decision : Decision) → IsUsed theirs request decision → IsUsedToo decision
  used-move decision used =
      let its = contains-same card theirs mine same decision used.recorded in record {
        found = its.found;
        used = record {
          in_window = in_window-move used.in_window;
          recorded = its.there;
          same_counter = ap (λ (r : Request). r.atc) its.request_is ∙ used.same_counter;
        };
        request_is = its.request_is;
        reply_is = its.reply_is;
      }

  told-move : (new : Reply) (answer : Answer) → IsTold theirs new request answer → IsTold mine new request answer
  told-move new (Fresh at place reply) (unused, is) = (unused-move unused, is)
  told-move new (Kept at place reply) (decision, used, request_is, reply_is) =
      let its = used-move decision used in
      (its.found, its.used, its.request_is ∙ request_is, its.reply_is ∙ reply_is)
  told-move new (Refused (Below top)) old =
      record { greatest_is = sym (greatest-same card theirs mine same) ∙ old.greatest_is; below = old.below }
  told-move new (Refused (Taken at place)) (decision, used, apart) =
      let its = used-move decision used in
      (its.found, its.used, λ is. apart (sym its.request_is ∙ is))
  told-move new _ none = absurd none

-- in a legal history no two decisions of a card are on one ATC
legal-once : (issuer : Setup) (shard : ℕ) (history : List Entry) (request : Request) → IsLegalHistory (grounds_of issuer) shard history
    → AreOnce (decided_for request history)
legal-once issuer shard history request legal one other here there counter =
    let its = decided-recorded (card_of request) history one here in
    let the_other = decided-recorded (card_of request) history other there in
    let card = sym (is_of-names (card_of request) one.request its.1) ∙ is_of-names (card_of request) other.request the_other.1 in
    let place : one.place ≡ other.place =
    once-in issuer shard history legal one.place other.place one.request other.request one.reply other.reply its.0 the_other.0 card counter in
    let entries : Some (Decided one.request one.reply) ≡ Some (Decided other.request other.reply) =
    sym its.0 ∙ ap (slice_get history) place ∙ the_other.0 in
    let requests : one.request ≡ other.request = cc in
    let replies : one.reply ≡ other.reply = cc in
    (requests, replies)

-- ---- orders

abbrev IsQueueTold : CommandQueue → Answer → Type 0
IsQueueTold waits (Queued at place) = TakesOneMore waits
IsQueueTold waits (Refused QueueFull) = TakesOneMore waits → ⊥
IsQueueTold waits _ = ⊥

queueing-told : (shard : ℕ) (before : List Entry) (card : CardName) (command : Command) (answer : Answer) (after : List Entry)
    → is_store_fault answer ≡ false → AnswersQueueing shard before card command answer after
    → IsQueueTold (waiting (scripts_of card before)) answer
queueing-told shard before card command (Queued at place) after fine (room, at_is, place_is, after_is) = room
queueing-told shard before card command (Refused QueueFull) after fine (full, after_is) = full
queueing-told shard before card command (Refused StoreFault) after fine turn = absurd (true≢false fine)
queueing-told shard before card command _ after fine turn = absurd turn

queue-one : (waits : CommandQueue) (answer other : Answer) → IsQueueTold waits answer → IsQueueTold waits other → unplaced answer ≡ unplaced other
queue-one waits (Queued at place) (Queued at2 place2) room room2 = refl
queue-one waits (Queued at place) (Refused QueueFull) room full = absurd (full room)
queue-one waits (Queued at place) _ room none = absurd none
queue-one waits (Refused QueueFull) (Queued at2 place2) full room = absurd (full room)
queue-one waits (Refused QueueFull) (Refused QueueFull) full full2 = refl
queue-one waits (Refused QueueFull) _ full none = absurd none
queue-one waits _ other none told = absurd none

setting-set : (shard : ℕ) (before : List Entry) (card : CardName) (status : ℕ) (answer : Answer) (after : List Entry)
    → is_store_fault answer ≡ false → AnswersSetting shard before card status answer after → unplaced answer ≡ Set 0 0
setting-set shard before card status (Set at place) after fine turn = refl
setting-set shard before card status (Refused StoreFault) after fine turn = absurd (true≢false fine)
setting-set shard before card status _ after fine turn = absurd turn

-- ---- one answer

module _ (issuer : Setup) (shard other_shard : ℕ) (one other one_after other_after : List Entry) (answer other_answer : Answer)
    (fine : is_store_fault answer ≡ false) (other_fine : is_store_fault other_answer ≡ false) where
  pub request-same : (request : Request) (won other_won : Bool) → (won ≡ false → is_pending answer ≡ false)
      → (other_won ≡ false → is_pending other_answer ≡ false)
      → own_records (card_of request) one ≡ own_records (card_of request) other
      → IsLegalHistory (grounds_of issuer) shard one → AnswersClaimed shard (reply_to issuer) won one request answer one_after
      → AnswersClaimed other_shard (reply_to issuer) other_won other request other_answer other_after
      → unplaced answer ≡ unplaced other_answer
  request-same request won other_won held other_held same legal turn other_turn =
      let told = claimed-told shard (reply_to issuer) won one request answer one_after fine held turn in
      let other_told = claimed-told other_shard (reply_to issuer) other_won other request other_answer other_after other_fine other_held other_turn in
      let moved = told-move (card_of request) (decided_for request one) (decided_for request other)
      (decided-same (card_of request) other one (sym same)) request (reply_to issuer other request) other_answer other_told in
      told-one (decided_for request one) request (legal-once issuer shard one request legal) (reply_to issuer one request) answer other_answer told
      (subst (λ (reply : Reply). IsTold (decided_for request one) reply request other_answer) (reply-same issuer request other one (sym same)) moved)

  pub answer-same : (asked : Asked) → own_records (card_asked asked) one ≡ own_records (card_asked asked) other
      → IsLegalHistory (grounds_of issuer) shard one → AnswersAsked issuer asked answer shard one one_after
      → AnswersAsked issuer asked other_answer other_shard other other_after → unplaced answer ≡ unplaced other_answer
  answer-same (Decide request) same legal turn other_turn =
      request-same request true true (λ lost. absurd (true≢false lost)) (λ lost. absurd (true≢false lost)) same legal turn other_turn
  answer-same (Queue pan psn command) same legal turn other_turn =
      queue-one (waiting (scripts_of (named pan psn) one)) answer other_answer
      (queueing-told shard one (named pan psn) command answer one_after fine turn)
      (subst (λ scripts. IsQueueTold (waiting scripts) other_answer) (scripts-same (named pan psn) other one (sym same))
      (queueing-told other_shard other (named pan psn) command other_answer other_after other_fine other_turn))
  answer-same (Status pan psn status) same legal turn other_turn =
      setting-set shard one (named pan psn) status answer one_after fine turn
      ∙ sym (setting-set other_shard other (named pan psn) status other_answer other_after other_fine other_turn)

-- ---- a repeat

-- a decision of a history stays at its index as the history is extended
stays-at : (first last : List Entry) (place : ℕ) (entry : Entry) → GoesOn first last → slice_get first place ≡ Some entry
    → slice_get last place ≡ Some entry
stays-at first last place entry more is =
    subst (λ (history : List Entry). slice_get history place ≡ Some entry) (sym more.1) (read-front first more.0 place entry is)

module _ (issuer : Setup) (shard place : ℕ) (old first history after : List Entry) (request : Request) (reply : Reply) (won : Bool)
    (migrated : GoesOn old first) (goes_on : GoesOn first history) (legal : IsLegalHistory (grounds_of issuer) shard history)
    (is : slice_get old place ≡ Some (Decided request reply))
    (within : IsBelow (greatest_atc (decided_for request history)) request.atc → ⊥) where
  at-place : slice_get history place ≡ Some (Decided request reply)
  at-place = stays-at first history place _ goes_on (stays-at old first place _ migrated is)

  abbrev the_record : Decision
  the_record = record { request = request; reply = reply; place = place }

  is-used : IsUsed (decided_for request history) request the_record
  is-used = record {
    in_window = within;
    recorded = recorded-decided (card_of request) history place request reply at-place (is_of-card_of request);
    same_counter = refl;
  }

  pub repeat-kept : (answer : Answer) → AnswersClaimed shard (reply_to issuer) won history request answer after
      → answer ≡ Kept shard place reply
  repeat-kept (Fresh at index other) (claim, (unused, at_is, place_is, reply_is, after_is)) =
      absurd (unused-used (decided_for request history) request the_record unused is-used)
  repeat-kept (Kept at index other) (used_too, at_is, after_is) =
      let same = used-one (decided_for request history) request (legal-once issuer shard history request legal)
      (record { request = request; reply = other; place = index }) the_record used_too is-used in
      let kept = decided-recorded (card_of request) history (record { request = request; reply = other; place = index })
      used_too.recorded in
      let index_is : index ≡ place = once-in issuer shard history legal index place request request other reply kept.0 at-place refl refl in
      ap₂ (λ (s i : ℕ). Kept s i other) at_is index_is ∙ ap (Kept shard place) same.1
  repeat-kept (Refused (Below top)) (old_atc, after_is) =
      absurd (old-in_window (decided_for request history) request top old_atc within)
  repeat-kept (Refused (Taken at index)) ((decision, used_too, place_is, apart), at_is, after_is) =
      absurd (apart (used-one (decided_for request history) request (legal-once issuer shard history request legal) decision
      the_record used_too is-used).0)
  repeat-kept (Refused Pending) (lost, unused, after_is) = absurd (unused-used (decided_for request history) request the_record unused is-used)
  repeat-kept (Refused StoreFault) (claim, unused, after_is) =
      absurd (unused-used (decided_for request history) request the_record unused is-used)
  repeat-kept _ turn = absurd turn

-- ---- an ATC that no record decides

claimed-unused : (shard : ℕ) (replies : List Entry → Request → Reply) (won : Bool) (before : List Entry) (request : Request)
    (answer : Answer) (after : List Entry) → IsUndecided answer → AnswersClaimed shard replies won before request answer after
    → IsUnused (decided_for request before) request
claimed-unused shard replies won before request (Fresh at place reply) after is (its, (unused, at_is, place_is, reply_is, after_is)) = unused
claimed-unused shard replies won before request (Refused Pending) after is (lost, unused, after_is) = unused
claimed-unused shard replies won before request (Refused StoreFault) after is (its, unused, after_is) = unused
claimed-unused shard replies won before request _ after is turn = absurd is

unused-undecided : (shard : ℕ) (replies : List Entry → Request → Reply) (won : Bool) (before : List Entry) (request : Request)
    (answer : Answer) (after : List Entry) → IsUnused (decided_for request before) request
    → AnswersClaimed shard replies won before request answer after → IsUndecided answer
unused-undecided shard replies won before request (Fresh at place reply) after unused turn = tt
unused-undecided shard replies won before request (Refused Pending) after unused turn = tt
unused-undecided shard replies won before request (Refused StoreFault) after unused turn = tt
unused-undecided shard replies won before request (Kept at place reply) after unused (used, at_is, after_is) =
    absurd (unused-used (decided_for request before) request (record { request = request; reply = reply; place = place }) unused used)
unused-undecided shard replies won before request (Refused (Below top)) after unused (old, after_is) =
    absurd (old-in_window (decided_for request before) request top old unused.in_window)
unused-undecided shard replies won before request (Refused (Taken at place)) after unused ((decision, used, place_is, other), at_is, after_is) =
    absurd (unused-used (decided_for request before) request decision unused used)
unused-undecided shard replies won before request _ after unused turn = absurd turn

pub undecided-same : (issuer : Setup) (request : Request) (shard other_shard : ℕ) (won other_won : Bool)
    (one other one_after other_after : List Entry) (answer other_answer : Answer)
    → own_records (card_of request) one ≡ own_records (card_of request) other
    → AnswersClaimed shard (reply_to issuer) won one request answer one_after
    → AnswersClaimed other_shard (reply_to issuer) other_won other request other_answer other_after
    → IsUndecided answer → IsUndecided other_answer
undecided-same issuer request shard other_shard won other_won one other one_after other_after answer other_answer same turn other_turn is =
    unused-undecided other_shard (reply_to issuer) other_won other request other_answer other_after
    (unused-move (card_of request) (decided_for request other) (decided_for request one)
    (decided-same (card_of request) one other same) request
    (claimed-unused shard (reply_to issuer) won one request answer one_after is turn)) other_turn

-- ---- the records of other cards

module _ (card : CardName) (shard : ℕ) (before after : List Entry) where
  stays : after ≡ before → own_records card after ≡ own_records card before
  stays same = ap (own_records card) same

  pub claimed-stays : (replies : List Entry → Request → Reply) (won : Bool) (request : Request) (answer : Answer)
      → card ≢ card_of request → AnswersClaimed shard replies won before request answer after
      → own_records card after ≡ own_records card before
  claimed-stays replies won request (Fresh at place reply) apart (its, (unused, at_is, place_is, reply_is, after_is)) =
      ap (own_records card) after_is ∙ other-added card before (Decided request reply) (is_of-other card request apart)
  claimed-stays replies won request (Kept at place reply) apart (used, at_is, after_is) = stays after_is
  claimed-stays replies won request (Refused (Below top)) apart (old, after_is) = stays after_is
  claimed-stays replies won request (Refused (Taken at place)) apart (taken, at_is, after_is) = stays after_is
  claimed-stays replies won request (Refused Pending) apart (lost, unused, after_is) = stays after_is
  claimed-stays replies won request (Refused StoreFault) apart (its, unused, after_is) = stays after_is
  claimed-stays replies won request _ apart turn = absurd turn

  queueing-stays : (pan : List ℕ) (psn : ℕ) (command : Command) (answer : Answer) → card ≢ named pan psn
      → AnswersQueueing shard before (named pan psn) command answer after → own_records card after ≡ own_records card before
  queueing-stays pan psn command (Queued at place) apart (room, at_is, place_is, after_is) =
      ap (own_records card) after_is ∙ other-added card before (IsQueued pan psn command) (has_numbers-other card pan psn apart)
  queueing-stays pan psn command (Refused QueueFull) apart (full, after_is) = stays after_is
  queueing-stays pan psn command (Refused StoreFault) apart (room, after_is) = stays after_is
  queueing-stays pan psn command _ apart turn = absurd turn

  setting-stays : (pan : List ℕ) (psn status : ℕ) (answer : Answer) → card ≢ named pan psn
      → AnswersSetting shard before (named pan psn) status answer after → own_records card after ≡ own_records card before
  setting-stays pan psn status (Set at place) apart (at_is, place_is, after_is) =
      ap (own_records card) after_is ∙ other-added card before (IsStatus pan psn status) (has_numbers-other card pan psn apart)
  setting-stays pan psn status (Refused StoreFault) apart after_is = stays after_is
  setting-stays pan psn status _ apart turn = absurd turn

  pub others-stay : (issuer : Setup) (asked : Asked) (answer : Answer) → card ≢ card_asked asked
      → AnswersAsked issuer asked answer shard before after → own_records card after ≡ own_records card before
  others-stay issuer (Decide request) answer apart turn = claimed-stays (reply_to issuer) true request answer apart turn
  others-stay issuer (Queue pan psn command) answer apart turn = queueing-stays pan psn command answer apart turn
  others-stay issuer (Status pan psn status) answer apart turn = setting-stays pan psn status answer apart turn
