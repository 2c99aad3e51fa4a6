-- A card gets its commands in order: each batch is a prefix of the undone commands at the time.
use Rattle.std.proofs.Common.{◌≡◌, ℕ, ◌≤◌, ◌<◌, true, Option, Some, List, [], ◌∷◌, ◌++◌, length, take, drop}
use Rattle.std.proofs.Common.{ap, sym, ◌∙◌, subst, inl, inr, arith, append-nil, append_assoc}
use Rattle.std.proofs.lemmas.Bool.{cond-true, cond_both, cases_lt}
use Rattle.std.proofs.lemmas.List.{length-take-le, take-append-drop}
use Rattle.std.specs.Option.{option_map_or}
use Rattle.issuer_base.specs.declared.command.Command.{Command}
use Rattle.issuer_base.specs.declared.request.Request.{Request}
use Rattle.issuer_base.specs.declared.answer.Reply.{Reply}
use Rattle.issuer_base.specs.declared.entry.Entry.{Entry}
use Rattle.issuer_base.specs.declared.entry.Entry.TheVariants.{Decided, Queued, Status}
use Rattle.cvr_settle.specs.declared.settlement.Flight.{Flight}
use Rattle.issuer_base.specs.CardNames.{CardName}
use Rattle.card_history.specs.Records.{is_of, has_numbers, queue}
use Rattle.card_history.specs.Scripts.{Scripts, undone, in_flight, with_command, with_newest, is_newest, with_decision, after_record, scripts_of}
use Rattle.card_history.specs.Scripts.{batch_of, first_of}
use Rattle.card_history.specs.ScriptOrder.{IsSentAt, IsSent, AreInOrder}
use Rattle.card_history.proofs.LongerHistories.{stays-push, slice_get-push, before-push, before-last, every-history}
use Rattle.card_history.proofs.OtherRecords.{queue-append}
use Rattle.card_history.proofs.Batches.{batch_of-front}
use Rattle.card_history.proofs.ScriptSteps.{scripts-more, scripts-queue, with_newest-done, with_newest-within, scripts-within}

module _ (card : CardName) where
  -- each batch is a front of the queue from its first number on
  sent-front : (history : List Entry) (place first : ℕ) (commands : List Command) → IsSentAt card history place first commands
      → commands ≡ take (length commands) (drop first (queue card history))
  sent-front history place first commands sent =
      let before = take place history in
      let later = queue card (drop place history) in
      let scripts = scripts_of card before in
      let batch = batch_of sent.request scripts in
      let whole : scripts.queue ++ later ≡ queue card history =
      ap (λ (queued : List Command). queued ++ later) (scripts-queue card before)
      ∙ sym (queue-append card before (drop place history))
      ∙ ap (queue card) (take-append-drop place history) in
      subst (λ (commands : List Command). commands ≡ take (length commands) (drop first (queue card history))) (sym sent.commands_are)
      (batch_of-front sent.request scripts later (scripts-within card before)
      ∙ ap (λ (queued : List Command). take (length batch) (drop (first_of sent.request scripts) queued)) whole
      ∙ ap (λ (n : ℕ). take (length batch) (drop n (queue card history))) (sym sent.first_is))

  -- what was sent stays so with one more record
  sent-push : (history : List Entry) (entry : Entry) (place first : ℕ) (commands : List Command) → IsSentAt card history place first commands
      → IsSentAt card (history ++ entry ∷ []) place first commands
  sent-push history entry place first commands sent =
      let same = sym (before-push history entry place (Decided sent.request sent.reply) sent.record_is) in
      record {
        request = sent.request;
        reply = sent.reply;
        record_is = stays-push history entry place (Decided sent.request sent.reply) sent.record_is;
        its = sent.its;
        first_is = sent.first_is ∙ ap (λ (before : List Entry). first_of sent.request (scripts_of card before)) same;
        commands_are = sent.commands_are ∙ ap (λ (before : List Entry). batch_of sent.request (scripts_of card before)) same;
      }

  -- the commands of a flight were sent, the first of them under this number
  record IsFlying (history : List Entry) (first : ℕ) (flight : Flight) : Type 0 where
    place : ℕ
    commands : List Command
    sent : IsSentAt card history place first commands
    size_is : length commands ≡ flight.size

  -- each command that counts as done was sent, and so were those in flight, from the first one on that isn't done
  record AreSent (history : List Entry) (scripts : Scripts) : Type 0 where
    each : (number : ℕ) → number < scripts.done → IsSent card history number
    flying : (flight : Flight) → scripts.flight ≡ Some flight → IsFlying history scripts.done flight

  more-sent : (history : List Entry) (entry : Entry) (scripts : Scripts) → AreSent history scripts → AreSent (history ++ entry ∷ []) scripts
  more-sent history entry scripts sent = record {
    each = λ number below.
        let was = sent.each number below in
        (was.0, was.1, was.2, sent-push history entry was.0 was.1 was.2 was.3, was.4, was.5);
    flying = λ flight is.
        let was = sent.flying flight is in
        record {
          place = was.place;
          commands = was.commands;
          sent = sent-push history entry was.place scripts.done was.commands was.sent;
          size_is = was.size_is;
        };
  }

  newest-sent : (before : List Entry) (request : Request) (reply : Reply) → is_of card request ≡ true
      → is_newest request.atc (scripts_of card before).hi ≡ true
      → AreSent (before ++ Decided request reply ∷ []) (scripts_of card before)
      → AreSent (before ++ Decided request reply ∷ []) (with_newest request (scripts_of card before))
  newest-sent before request reply its newest sent =
      let scripts = scripts_of card before in
      let after = with_newest request scripts in
      let here = sym (before-last before (Decided request reply)) in
      record {
        each = λ number below.
            elim (with_newest-done request scripts) [
              | inl same ↦ sent.each number (omega arith)
              | inr (flight, is, above, under) ↦
                  elim (cases_lt number scripts.done) [
                    | inl old ↦ sent.each number old
                    | inr new ↦
                        let flying = sent.flying flight is in
                        let size = flying.size_is in
                        (flying.place, scripts.done, flying.commands, flying.sent, new, omega arith)
                  ]
            ];
        flying = λ flight is.
            record {
              place = length before;
              commands = batch_of request scripts;
              sent = record {
                request = request;
                reply = reply;
                record_is = slice_get-push before (Decided request reply);
                its = its;
                first_is = ap (λ (before : List Entry). first_of request (scripts_of card before)) here;
                commands_are = ap (λ (before : List Entry). batch_of request (scripts_of card before)) here;
              };
              size_is = ap (λ (commands : List Command). length commands) (cond-true _ (in_flight after) [] newest)
                  ∙ ap (λ (flown : Option Flight). length (option_map_or (λ flight. take flight.size (undone after)) flown [])) is
                  ∙ length-take-le flight.size (undone after) ((with_newest-within request scripts (scripts-within card before)).few_fly flight is);
            };
      }

  record-sent : (before : List Entry) (entry : Entry) → AreSent (before ++ entry ∷ []) (scripts_of card before)
      → AreSent (before ++ entry ∷ []) (after_record card (scripts_of card before) entry)
  record-sent before (Decided request reply) sent =
      let scripts = scripts_of card before in
      cond_both (is_of card request) (with_decision request scripts) scripts (AreSent (before ++ Decided request reply ∷ []))
      (λ its. cond_both (is_newest request.atc scripts.hi) (with_newest request scripts) scripts (AreSent (before ++ Decided request reply ∷ []))
      (λ newest. newest-sent before request reply its newest sent) (λ old. sent))
      (λ other. sent)
  record-sent before (Queued pan psn command) sent =
      let scripts = scripts_of card before in
      cond_both (has_numbers card pan psn) (with_command command scripts) scripts (AreSent (before ++ Queued pan psn command ∷ []))
      (λ its. record { each = sent.each; flying = sent.flying }) (λ other. sent)
  record-sent before (Status pan psn status) sent = sent

  all-sent : (history : List Entry) → AreSent history (scripts_of card history)
  all-sent =
      every-history (λ history. AreSent history (scripts_of card history))
      (record { each = λ number below. absurd (omega arith); flying = λ flight is. absurd (cc) })
      (λ before entry sent. subst (AreSent (before ++ entry ∷ [])) (sym (scripts-more card before entry))
      (record-sent before entry (more-sent before entry (scripts_of card before) sent)))

  -- no record makes fewer commands done
  record-rises : (scripts : Scripts) (entry : Entry) → scripts.done ≤ (after_record card scripts entry).done
  record-rises scripts (Decided request reply) =
      cond_both (is_of card request) (with_decision request scripts) scripts (λ (after : Scripts). scripts.done ≤ after.done)
      (λ its. cond_both (is_newest request.atc scripts.hi) (with_newest request scripts) scripts (λ (after : Scripts). scripts.done ≤ after.done)
      (λ newest. elim (with_newest-done request scripts) [
        | inl same ↦ omega arith
        | inr (flight, is, above, under) ↦ above
      ])
      (λ old. omega arith))
      (λ other. omega arith)
  record-rises scripts (Queued pan psn command) =
      cond_both (has_numbers card pan psn) (with_command command scripts) scripts (λ (after : Scripts). scripts.done ≤ after.done)
      (λ its. omega arith) (λ other. omega arith)
  record-rises scripts (Status pan psn status) = omega arith

  later-rises : (before after : List Entry) → (scripts_of card before).done ≤ (scripts_of card (before ++ after)).done
  later-rises before =
      every-history (λ after. (scripts_of card before).done ≤ (scripts_of card (before ++ after)).done)
      (let same : (scripts_of card (before ++ [])).done ≡ (scripts_of card before).done =
      ap (λ (history : List Entry). (scripts_of card history).done) (append-nil before) in omega arith)
      (λ after entry so_far.
      let longer : (scripts_of card (before ++ (after ++ entry ∷ []))).done ≡ (after_record card (scripts_of card (before ++ after)) entry).done =
      ap (λ (history : List Entry). (scripts_of card history).done) (sym (append_assoc before after (entry ∷ [])))
      ∙ ap (λ (scripts : Scripts). scripts.done) (scripts-more card (before ++ after) entry) in
      let rises = record-rises (scripts_of card (before ++ after)) entry in
      omega arith)

  -- the law, over every history
  pub in_order : (history : List Entry) → AreInOrder card history
  in_order history = record {
    fronts = λ place first commands sent. sent-front history place first commands sent;
    sent = (all-sent history).each;
    rises = λ place. subst (λ (records : List Entry). (scripts_of card (take place history)).done ≤ (scripts_of card records).done)
        (take-append-drop place history) (later-rises (take place history) (drop place history));
    within = subst (λ (queued : List Command). (scripts_of card history).done ≤ length queued) (scripts-queue card history)
        (scripts-within card history).few_done;
  }
