-- How one more record of a shard changes a card's scripts, and what holds of them after every history.
use Rattle.std.proofs.Common.{◌≡◌, ℕ, ◌+◌, ◌≤◌, max, nat_lt, nat_le, ◌&&◌, ◌==◌, true, false, cond, Option, None, Some}
use Rattle.std.proofs.Common.{List, [], ◌∷◌, ◌++◌, length, refl, ap, sym, ◌∙◌, subst, inl, inr, ◌⊎◌, arith}
use Rattle.std.proofs.lemmas.Bool.{cond-true, cond-false, cond_both, and_parts, leb-true, ltb-true, ltb-false}
use Rattle.std.proofs.lemmas.List.{length-append, length-drop}
use Rattle.std.proofs.lemmas.List.Sums.{fold-append}
use Rattle.std.proofs.lemmas.Option.{same_Some}
use Rattle.std.specs.Option.{option_map_or}
use Rattle.issuer_base.specs.declared.command.Command.{Command}
use Rattle.issuer_base.specs.declared.request.Request.{Request}
use Rattle.issuer_base.specs.declared.answer.Reply.{Reply}
use Rattle.issuer_base.specs.declared.entry.Entry.{Entry}
use Rattle.issuer_base.specs.declared.entry.Entry.TheVariants.{Decided, Queued, Status}
use Rattle.issuer_base.specs.ChipData.{script_count, last_online}
use Rattle.cvr_settle.specs.declared.settlement.Flight.{Flight}
use Rattle.cvr_settle.specs.declared.settlement.Settled.{Settled}
use Rattle.cvr_settle.specs.declared.settlement.Settled.TheVariants.{Ran, Nothing, Halt}
use Rattle.cvr_settle.specs.Settlement.{settled}
use Rattle.script_queue.specs.ScriptTemplate.{fitting_front}
use Rattle.script_queue.proofs.FittingFronts.{fitting_front-within}
use Rattle.issuer_base.specs.CardNames.{CardName}
use Rattle.card_history.specs.Records.{is_of, has_numbers, decided, greatest_atc, queue}
use Rattle.card_history.specs.Scripts.{Scripts, no_scripts, undone, with_command, settled_by, launched, with_newest, is_newest}
use Rattle.card_history.specs.Scripts.{with_decision, after_record, scripts_of}
use Rattle.card_history.proofs.OneMoreRecord.{decided-more, decided-other, greatest-more}
use Rattle.card_history.proofs.OtherRecords.{queue-decided, queue-queued, queue-queued_other, queue-status, decided-queued, decided-status}
use Rattle.card_history.proofs.LongerHistories.{every-history}

module _ (card : CardName) (history : List Entry) where
  -- a card's scripts after one more record
  pub scripts-more : (entry : Entry) → scripts_of card (history ++ entry ∷ []) ≡ after_record card (scripts_of card history) entry
  scripts-more entry = fold-append (after_record card) no_scripts history (entry ∷ [])

  -- after a decided record of the card
  pub scripts-decided : (request : Request) (reply : Reply) → is_of card request ≡ true
      → scripts_of card (history ++ Decided request reply ∷ []) ≡ with_decision request (scripts_of card history)
  scripts-decided request reply its = scripts-more (Decided request reply) ∙ cond-true (is_of card request) _ _ its

  -- after one of another card
  pub scripts-decided_other : (request : Request) (reply : Reply) → is_of card request ≡ false
      → scripts_of card (history ++ Decided request reply ∷ []) ≡ scripts_of card history
  scripts-decided_other request reply other = scripts-more (Decided request reply) ∙ cond-false (is_of card request) _ _ other

  -- after a command that is queued for the card
  pub scripts-queued : (pan : List ℕ) (psn : ℕ) (command : Command) → has_numbers card pan psn ≡ true
      → scripts_of card (history ++ Queued pan psn command ∷ []) ≡ with_command command (scripts_of card history)
  scripts-queued pan psn command its = scripts-more (Queued pan psn command) ∙ cond-true (has_numbers card pan psn) _ _ its

  -- after one for another card
  pub scripts-queued_other : (pan : List ℕ) (psn : ℕ) (command : Command) → has_numbers card pan psn ≡ false
      → scripts_of card (history ++ Queued pan psn command ∷ []) ≡ scripts_of card history
  scripts-queued_other pan psn command other = scripts-more (Queued pan psn command) ∙ cond-false (has_numbers card pan psn) _ _ other

  -- after a status
  pub scripts-status : (pan : List ℕ) (psn status : ℕ)
      → scripts_of card (history ++ Status pan psn status ∷ []) ≡ scripts_of card history
  scripts-status pan psn status = scripts-more (Status pan psn status)

-- settlement leaves the queue
settled_by-queue : (outcome : Settled) (scripts : Scripts) → (settled_by outcome scripts).queue ≡ scripts.queue
settled_by-queue (Ran count) scripts = refl
settled_by-queue Nothing scripts = refl
settled_by-queue Halt scripts = refl

-- and so does a decision
pub with_newest-queue : (request : Request) (scripts : Scripts) → (with_newest request scripts).queue ≡ scripts.queue
with_newest-queue request scripts = settled_by-queue _ scripts

pub with_decision-queue : (request : Request) (scripts : Scripts) → (with_decision request scripts).queue ≡ scripts.queue
with_decision-queue request scripts =
    cond_both (is_newest request.atc scripts.hi) (with_newest request scripts) scripts (λ after. after.queue ≡ scripts.queue)
    (λ newest. with_newest-queue request scripts) (λ kept. refl)

queue-step : (card : CardName) (history : List Entry) (entry : Entry) → (scripts_of card history).queue ≡ queue card history
    → (after_record card (scripts_of card history) entry).queue ≡ queue card (history ++ entry ∷ [])
queue-step card history (Decided request reply) so_far =
    cond_both (is_of card request) (with_decision request (scripts_of card history)) (scripts_of card history)
    (λ after. after.queue ≡ queue card (history ++ Decided request reply ∷ []))
    (λ its. with_decision-queue request (scripts_of card history) ∙ so_far ∙ sym (queue-decided card history request reply))
    (λ other. so_far ∙ sym (queue-decided card history request reply))
queue-step card history (Queued pan psn command) so_far =
    cond_both (has_numbers card pan psn) (with_command command (scripts_of card history)) (scripts_of card history)
    (λ after. after.queue ≡ queue card (history ++ Queued pan psn command ∷ []))
    (λ its. ap (λ commands. commands ++ command ∷ []) so_far ∙ sym (queue-queued card history pan psn command its))
    (λ other. so_far ∙ sym (queue-queued_other card history pan psn command other))
queue-step card history (Status pan psn status) so_far = so_far ∙ sym (queue-status card history pan psn status)

-- the queue is that of the commands that were recorded for the card
pub scripts-queue : (card : CardName) (history : List Entry) → (scripts_of card history).queue ≡ queue card history
scripts-queue card =
    every-history (λ history. (scripts_of card history).queue ≡ queue card history) refl
    (λ before entry so_far. ap (λ scripts. scripts.queue) (scripts-more card before entry) ∙ queue-step card before entry so_far)

newest-hi : (counter : ℕ) (so_far : Option ℕ)
    → cond (is_newest counter so_far) (Some counter) so_far ≡ Some (option_map_or (λ top. max top counter) so_far counter)
newest-hi counter None = refl
newest-hi counter (Some top) =
    cond_both (nat_lt top counter) (Some counter) (Some top) (λ hi. hi ≡ Some (max top counter))
    (λ above. let below = ltb-true top counter above in let same : counter ≡ max top counter = omega arith in ap Some same)
    (λ under. let above = ltb-false top counter under in let same : top ≡ max top counter = omega arith in ap Some same)

-- a decision raises the greatest counter, or leaves it
pub with_decision-hi : (request : Request) (scripts : Scripts)
    → (with_decision request scripts).hi ≡ Some (option_map_or (λ top. max top request.atc) scripts.hi request.atc)
with_decision-hi request scripts =
    let newest = is_newest request.atc scripts.hi in
    cond_both newest (with_newest request scripts) scripts
    (λ after. after.hi ≡ Some (option_map_or (λ top. max top request.atc) scripts.hi request.atc))
    (λ is. sym (cond-true newest (Some request.atc) scripts.hi is) ∙ newest-hi request.atc scripts.hi)
    (λ not. sym (cond-false newest (Some request.atc) scripts.hi not) ∙ newest-hi request.atc scripts.hi)

hi-step : (card : CardName) (history : List Entry) (entry : Entry) → (scripts_of card history).hi ≡ greatest_atc (decided card history)
    → (after_record card (scripts_of card history) entry).hi ≡ greatest_atc (decided card (history ++ entry ∷ []))
hi-step card history (Decided request reply) so_far =
    cond_both (is_of card request) (with_decision request (scripts_of card history)) (scripts_of card history)
    (λ after. after.hi ≡ greatest_atc (decided card (history ++ Decided request reply ∷ [])))
    (λ its. with_decision-hi request (scripts_of card history)
    ∙ ap (λ hi. Some (option_map_or (λ top. max top request.atc) hi request.atc)) so_far
    ∙ sym (greatest-more (decided card history) (record { request = request; reply = reply; place = length history }))
    ∙ ap greatest_atc (sym (decided-more card history request reply its)))
    (λ other. so_far ∙ ap greatest_atc (sym (decided-other card history request reply other)))
hi-step card history (Queued pan psn command) so_far =
    cond_both (has_numbers card pan psn) (with_command command (scripts_of card history)) (scripts_of card history)
    (λ after. after.hi ≡ greatest_atc (decided card (history ++ Queued pan psn command ∷ [])))
    (λ its. so_far ∙ ap greatest_atc (sym (decided-queued card history pan psn command)))
    (λ other. so_far ∙ ap greatest_atc (sym (decided-queued card history pan psn command)))
hi-step card history (Status pan psn status) so_far = so_far ∙ ap greatest_atc (sym (decided-status card history pan psn status))

-- the greatest counter is that of the card's decisions
pub scripts-hi : (card : CardName) (history : List Entry) → (scripts_of card history).hi ≡ greatest_atc (decided card history)
scripts-hi card =
    every-history (λ history. (scripts_of card history).hi ≡ greatest_atc (decided card history)) refl
    (λ before entry so_far. ap (λ scripts. scripts.hi) (scripts-more card before entry) ∙ hi-step card before entry so_far)

-- where the card ran commands, they are of the flight
abbrev pub RanWithin : Option Flight → Settled → Type 0
RanWithin flown outcome = (count : ℕ) → outcome ≡ Ran count → (flight : Flight) × (flown ≡ Some flight) × (count ≤ flight.size)

pub settled-within : (flown : Option Flight) (register count : ℕ) → RanWithin flown (settled flown register count)
settled-within None register count = λ ran is. absurd (cc)
settled-within (Some flight) register count =
    cond_both (register == flight.counter && nat_le count flight.size) (Ran count) (cond (nat_lt register flight.counter) Nothing Halt)
    (RanWithin (Some flight))
    (λ both ran is.
    let same : count ≡ ran = cc in
    let few : count ≤ flight.size = leb-true count flight.size (and_parts (register == flight.counter) _ both).1 in
    (flight, refl, omega arith))
    (λ neither. cond_both (nat_lt register flight.counter) Nothing Halt (RanWithin (Some flight)) (λ _ ran is. absurd (cc)) (λ _ ran is. absurd (cc)))

-- so many commands are done after the flight: as many as before, or some of the flight more
abbrev pub IsDoneBy : Scripts → ℕ → Type 0
IsDoneBy scripts done =
    (done ≡ scripts.done)
    ⊎ ((flight : Flight) × (scripts.flight ≡ Some flight) × (scripts.done ≤ done) × (done ≤ scripts.done + flight.size))

settled_by-done : (outcome : Settled) (scripts : Scripts) → RanWithin scripts.flight outcome → IsDoneBy scripts (settled_by outcome scripts).done
settled_by-done (Ran count) scripts ran = let of = ran count refl in inr (of.0, of.1, omega arith, omega (arith, of.2))
settled_by-done Nothing scripts ran = inl refl
settled_by-done Halt scripts ran = inl refl

-- a newest decision has the flight's commands done that ran
pub with_newest-done : (request : Request) (scripts : Scripts) → IsDoneBy scripts (with_newest request scripts).done
with_newest-done request scripts =
    settled_by-done _ scripts (settled-within scripts.flight (last_online request) (script_count request))

-- no more commands are done than were queued, no more are in flight than aren't done, and nothing flies where the scripts are halted
pub record IsWithin (scripts : Scripts) : Type 0 where
  pub few_done : scripts.done ≤ length scripts.queue
  pub few_fly : (flight : Flight) → scripts.flight ≡ Some flight → flight.size ≤ length (undone scripts)
  pub grounded : scripts.halted ≡ true → scripts.flight ≡ None

launched-within : (counter : ℕ) (scripts : Scripts) → scripts.done ≤ length scripts.queue → IsWithin (launched counter scripts)
launched-within counter scripts few = record {
  few_done = few;
  few_fly = λ flight.
      cond_both scripts.halted None (Some (record { counter = counter; size = length (fitting_front (undone scripts)) }))
      (λ (flown : Option Flight). flown ≡ Some flight → flight.size ≤ length (undone scripts)) (λ _ is. absurd (cc))
      (λ _ is. subst (λ (flight : Flight). flight.size ≤ length (undone scripts)) (same_Some _ _ is) (fitting_front-within (undone scripts)));
  grounded = λ halted. cond-true scripts.halted None _ halted;
}

pub with_newest-within : (request : Request) (scripts : Scripts) → IsWithin scripts → IsWithin (with_newest request scripts)
with_newest-within request scripts within =
    let settled_scripts = settled_by (settled scripts.flight (last_online request) (script_count request)) scripts in
    let queue_is : length settled_scripts.queue ≡ length scripts.queue = ap (λ (queue : List Command). length queue) (with_newest-queue request scripts) in
    launched-within request.atc settled_scripts (elim (with_newest-done request scripts) [
      | inl same ↦ omega (arith, within.few_done, same, queue_is)
      | inr (flight, is, above, below) ↦
          let left = within.few_fly flight is in
          let length_is = length-drop scripts.done scripts.queue in
          omega (arith, within.few_done, left, length_is, above, below, queue_is)
    ])

with_command-within : (command : Command) (scripts : Scripts) → IsWithin scripts → IsWithin (with_command command scripts)
with_command-within command scripts within =
    let longer = length-append scripts.queue (command ∷ []) in record {
      few_done = omega (arith, within.few_done);
      few_fly = λ flight is.
          let left = within.few_fly flight is in
          omega (arith, length-drop scripts.done scripts.queue, length-drop scripts.done (scripts.queue ++ command ∷ []));
      grounded = within.grounded;
    }

record-within : (card : CardName) (scripts : Scripts) (entry : Entry) → IsWithin scripts → IsWithin (after_record card scripts entry)
record-within card scripts (Decided request reply) within =
    cond_both (is_of card request) (with_decision request scripts) scripts IsWithin
    (λ its. cond_both (is_newest request.atc scripts.hi) (with_newest request scripts) scripts IsWithin
    (λ newest. with_newest-within request scripts within) (λ kept. within))
    (λ other. within)
record-within card scripts (Queued pan psn command) within =
    cond_both (has_numbers card pan psn) (with_command command scripts) scripts IsWithin
    (λ its. with_command-within command scripts within) (λ other. within)
record-within card scripts (Status pan psn status) within = within

-- it is so after every history
pub scripts-within : (card : CardName) (history : List Entry) → IsWithin (scripts_of card history)
scripts-within card =
    every-history (λ history. IsWithin (scripts_of card history))
    (record { few_done = omega arith; few_fly = λ flight is. absurd (cc); grounded = λ halted. refl })
    (λ before entry within. subst IsWithin (sym (scripts-more card before entry)) (record-within card (scripts_of card before) entry within))
