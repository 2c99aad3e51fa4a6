-- More records of a card's shard preserve the invariant of a genuine run for the card.
use Rattle.std.proofs.Common.{◌≡◌, ◌≢◌, ℕ, ◌+◌, ◌≤◌, ◌<◌, true, false, cond, ◌&&◌, ◌==◌, nat_le}
use Rattle.std.proofs.Common.{nat_lt, List, [], ◌∷◌, ◌++◌, length, take, drop, Option, Some, None}
use Rattle.std.proofs.Common.{refl, ap, sym, ◌∙◌, subst, inl, inr, arith}
use Rattle.std.proofs.lemmas.Bool.{cases_Bool, cases_lt, cond-true, cond-false, and_from, and_left, eq-eqb, ne_eqb, le-leb, lt-ltb, ltb-true}
use Rattle.std.proofs.lemmas.List.{take-append-le, drop-append-le, length-drop}
use Rattle.std.proofs.lemmas.Option.{none-some, same_Some}
use Rattle.issuer_base.specs.ChipData.{script_count, last_online}
use Rattle.issuer_base.specs.declared.command.Command.{Command}
use Rattle.issuer_base.specs.declared.request.Request.{Request}
use Rattle.issuer_base.specs.declared.answer.Reply.{Reply}
use Rattle.issuer_base.specs.declared.entry.Entry.{Entry}
use Rattle.issuer_base.specs.declared.entry.Entry.TheVariants.{Decided, Queued, Status}
use Rattle.cvr_settle.specs.declared.settlement.Flight.{Flight}
use Rattle.cvr_settle.specs.declared.settlement.Settled.{Settled}
use Rattle.cvr_settle.specs.declared.settlement.Settled.TheVariants.{Ran, Nothing, Halt}
use Rattle.cvr_settle.specs.Settlement.{settled}
use Rattle.script_queue.specs.ScriptTemplate.{fitting_front}
use Rattle.script_queue.proofs.FittingFronts.{fitting_front-front}
use Rattle.issuer_base.specs.CardNames.{CardName}
use Rattle.card_history.specs.Records.{card_in, card_of, is_of, has_numbers, decided}
use Rattle.card_history.specs.Scripts.{Scripts, undone, with_command, settled_by, with_newest, is_newest, scripts_of, batch_of}
use Rattle.card_history.specs.Turns.{IsUnused}
use Rattle.card_history.proofs.Batches.{batch_of-newest, in_flight-newest}
use Rattle.card_history.proofs.CardNames.{is_of-names, is_of-other, has_numbers-other}
use Rattle.card_history.proofs.ScriptSteps.{scripts-decided, scripts-decided_other, scripts-queued, scripts-queued_other, scripts-status, with_newest-queue}
use Rattle.card_model.specs.Application.{CardState}
use Rattle.world_net.proofs.Batches.{batch-was, cases_top, unused-apart, unused-top}
use Rattle.world_net.proofs.CardKeeps.{newest-above}
use Rattle.world_net.proofs.CardLaw.{IsUntouched, IsKept, flying-within}

-- what settlement makes of a flight whose commands the card ran: as many as the count
settled-took : (top size register count : ℕ) → register ≡ top → count ≤ size
    → settled (Some (record { counter = top; size = size })) register count ≡ Ran count
settled-took top size register count took few =
    cond-true (register == top && nat_le count size) (Ran count) (cond (nat_lt register top) Nothing Halt)
    (and_from _ _ (eq-eqb register top took) (le-leb count size few))

-- and of one whose reply never reached the card: nothing
settled-lost : (top size register count : ℕ) → register < top
    → settled (Some (record { counter = top; size = size })) register count ≡ Nothing
settled-lost top size register count below =
    cond-false (register == top && nat_le count size) (Ran count) (cond (nat_lt register top) Nothing Halt)
    (and_left _ _ (ne_eqb register top (λ same. omega arith)))
    ∙ cond-true (nat_lt register top) Nothing Halt (lt-ltb register top below)

-- the scripts settle by what the card tells: they go on, and the card ran just what is done then; its register is below the request's counter
record Settles (card : CardState) (request : Request) (scripts : Scripts) : Type 0 where
  goes_on : (with_newest request scripts).halted ≡ false
  ran_is : card.ran ≡ take (with_newest request scripts).done scripts.queue
  below : card.register < request.atc

settles-by : (card : CardState) (request : Request) (scripts : Scripts) (outcome : Settled)
    → settled scripts.flight (last_online request) (script_count request) ≡ outcome
    → (settled_by outcome scripts).halted ≡ false → card.ran ≡ take (settled_by outcome scripts).done scripts.queue → card.register < request.atc
    → Settles card request scripts
settles-by card request scripts outcome is goes_on ran_is below = record {
  goes_on = ap (λ (outcome : Settled). (settled_by outcome scripts).halted) is ∙ goes_on;
  ran_is = ran_is ∙ ap (λ (outcome : Settled). take (settled_by outcome scripts).done scripts.queue) (sym is);
  below = below;
}

module _ (name : CardName) (card : CardState) (Made : Request → Type 0) (history : List Entry) (kept : IsKept name card Made history) where
  -- so they do for a request that the card made, on a counter above the greatest
  settles : (request : Request) → Made request → is_newest request.atc (scripts_of name history).hi ≡ true → Settles card request (scripts_of name history)
  settles request made newest =
      let scripts = scripts_of name history in
      let carries = kept.present request made newest in
      let counter = kept.requests.counters request made in
      let told : (flown : Option Flight) → settled flown (last_online request) (script_count request) ≡ settled flown card.register card.count =
      λ flown. ap (λ n. settled flown n (script_count request)) carries.register_is ∙ ap (settled flown card.register) carries.count_is in
      elim (cases_top scripts.hi) [
        | inl none ↦
            let it = kept.untouched none in
            let outcome : settled scripts.flight (last_online request) (script_count request) ≡ Nothing =
            ap (λ flown. settled flown (last_online request) (script_count request)) it.none_fly in
            let register = it.register_is in
            let above = counter.0 in
            settles-by card request scripts Nothing outcome it.goes_on
            (it.ran_is ∙ ap (λ n. take n scripts.queue) (sym it.none_done)) (omega arith)
        | inr (top, top_is) ↦
            let it = kept.flying top top_is in
            let above = newest-above request.atc top scripts.hi top_is newest in
            let outcome = told scripts.flight ∙ ap (λ flown. settled flown card.register card.count) it.flight_is in
            elim (cases_lt card.register top) [
              | inl lower ↦
                  settles-by card request scripts Nothing (outcome ∙ settled-lost top it.size card.register card.count lower) it.goes_on
                  (it.ran_below lower) (omega arith)
              | inr other ↦
                  let same : card.register ≡ top = let took = it.took in omega arith in
                  settles-by card request scripts (Ran card.count) (outcome ∙ settled-took top it.size card.register card.count same (it.few same)) it.goes_on
                  (it.ran_here same) (omega arith)
            ]
      ]

  -- the counters below the greatest stay so with a greater one
  newest-before : (counter other : ℕ) (hi : Option ℕ) → is_newest counter hi ≡ true → counter < other → is_newest other hi ≡ true
  newest-before counter other None newest above = refl
  newest-before counter other (Some top) newest above = lt-ltb top other (let below = ltb-true top counter newest in omega arith)

  module _ (request : Request) (reply : Reply) (made : Made request) (its : is_of name request ≡ true) (unused : IsUnused (decided name history) request) where
    -- a decision on the newest counter
    decided-newest : is_newest request.atc (scripts_of name history).hi ≡ true
        → scripts_of name (history ++ Decided request reply ∷ []) ≡ with_newest request (scripts_of name history)
        → IsKept name card Made (history ++ Decided request reply ∷ [])
    decided-newest newest after_is =
        let scripts = scripts_of name history in
        let after = with_newest request scripts in
        let longer = history ++ Decided request reply ∷ [] in
        let settled_so = settles request made newest in
        let size = length (fitting_front (undone after)) in
        let flies : after.flight ≡ Some (record { counter = request.atc; size = size }) =
        cond-false after.halted None (Some (record { counter = request.atc; size = size })) settled_so.goes_on in
        let hi_is : (scripts_of name longer).hi ≡ Some request.atc = ap (λ (s : Scripts). s.hi) after_is in
        let queue_is : after.queue ≡ scripts.queue = with_newest-queue request scripts in
        record {
          requests = kept.requests;
          untouched = λ none. absurd (none-some request.atc (sym none ∙ hi_is));
          flying = λ top top_is.
              let same : request.atc ≡ top = same_Some _ _ (sym hi_is ∙ top_is) in
              let below = settled_so.below in
              record {
                goes_on = ap (λ (s : Scripts). s.halted) after_is ∙ settled_so.goes_on;
                size = size;
                flight_is = ap (λ (s : Scripts). s.flight) after_is ∙ flies ∙ ap (λ n. Some (record { counter = n; size = size })) same;
                took = omega arith;
                known = let known = (kept.requests.counters request made).1 in omega arith;
                batch = λ other commands has at.
                    elim (batch-was name history (Decided request reply) other commands has) [
                      | inl old ↦ absurd (unused-apart name history request other commands unused old (at ∙ sym same))
                      | inr added ↦
                          let same_request : request ≡ other = cc in
                          added.batch_is
                          ∙ ap (λ (q : Request). batch_of q scripts) (sym same_request)
                          ∙ batch_of-newest request scripts newest
                          ∙ in_flight-newest request scripts settled_so.goes_on
                          ∙ sym (fitting_front-front (undone after))
                          ∙ ap (λ (s : Scripts). take size (drop s.done s.queue)) (sym after_is)
                    ];
                few = λ here. absurd (omega arith);
                ran_here = λ here. absurd (omega arith);
                ran_below = λ lower.
                    settled_so.ran_is
                    ∙ ap (take after.done) (sym queue_is)
                    ∙ ap (λ (s : Scripts). take s.done s.queue) (sym after_is);
              };
          present = λ other other_made above.
              let higher = newest-above other.atc request.atc (scripts_of name longer).hi hi_is above in
              kept.present other other_made (newest-before request.atc other.atc scripts.hi newest higher);
        }

    -- a decision on a counter below the greatest
    decided-older : is_newest request.atc (scripts_of name history).hi ≡ false
        → scripts_of name (history ++ Decided request reply ∷ []) ≡ scripts_of name history
        → IsKept name card Made (history ++ Decided request reply ∷ [])
    decided-older older after_is = record {
      requests = kept.requests;
      untouched = λ none.
          subst (IsUntouched card) (sym after_is) (kept.untouched (ap (λ (s : Scripts). s.hi) (sym after_is) ∙ none));
      flying = λ top top_is.
          let was : (scripts_of name history).hi ≡ Some top = ap (λ (s : Scripts). s.hi) (sym after_is) ∙ top_is in
          let it = kept.flying top was in
          record {
            goes_on = ap (λ (s : Scripts). s.halted) after_is ∙ it.goes_on;
            size = it.size;
            flight_is = ap (λ (s : Scripts). s.flight) after_is ∙ it.flight_is;
            took = it.took;
            known = it.known;
            batch = λ other commands has at.
                elim (batch-was name history (Decided request reply) other commands has) [
                  | inl old ↦ it.batch other commands old at ∙ ap (λ (s : Scripts). take it.size (drop s.done s.queue)) (sym after_is)
                  | inr added ↦
                      let same_request : request ≡ other = cc in
                      absurd (unused-top name history request top unused was (ap (λ (q : Request). q.atc) same_request ∙ at))
                ];
            few = it.few;
            ran_here = λ here. it.ran_here here ∙ ap (λ (s : Scripts). take (s.done + card.count) s.queue) (sym after_is);
            ran_below = λ lower. it.ran_below lower ∙ ap (λ (s : Scripts). take s.done s.queue) (sym after_is);
          };
      present = λ other other_made newest.
          kept.present other other_made (ap (λ (s : Scripts). is_newest other.atc s.hi) (sym after_is) ∙ newest);
    }

    -- a decision of a request that the card made
    pub kept-decided : IsKept name card Made (history ++ Decided request reply ∷ [])
    kept-decided =
        let scripts = scripts_of name history in
        let after_is = scripts-decided name history request reply its in
        elim (cases_Bool (is_newest request.atc scripts.hi)) [
          | inl newest ↦ decided-newest newest (after_is ∙ cond-true _ (with_newest request scripts) scripts newest)
          | inr older ↦ decided-older older (after_is ∙ cond-false _ (with_newest request scripts) scripts older)
        ]

  -- a record that says nothing of the card's scripts, and doesn't decide a request of the card
  kept-apart : (entry : Entry) → scripts_of name (history ++ entry ∷ []) ≡ scripts_of name history
      → ((request : Request) (reply : Reply) → entry ≡ Decided request reply → is_of name request ≡ true → ⊥)
      → IsKept name card Made (history ++ entry ∷ [])
  kept-apart entry after_is apart = record {
    requests = kept.requests;
    untouched = λ none.
        subst (IsUntouched card) (sym after_is) (kept.untouched (ap (λ (s : Scripts). s.hi) (sym after_is) ∙ none));
    flying = λ top top_is.
        let was : (scripts_of name history).hi ≡ Some top = ap (λ (s : Scripts). s.hi) (sym after_is) ∙ top_is in
        let it = kept.flying top was in
        record {
          goes_on = ap (λ (s : Scripts). s.halted) after_is ∙ it.goes_on;
          size = it.size;
          flight_is = ap (λ (s : Scripts). s.flight) after_is ∙ it.flight_is;
          took = it.took;
          known = it.known;
          batch = λ other commands has at.
              elim (batch-was name history entry other commands has) [
                | inl old ↦ it.batch other commands old at ∙ ap (λ (s : Scripts). take it.size (drop s.done s.queue)) (sym after_is)
                | inr added ↦ absurd (apart other added.reply added.entry_is added.its)
              ];
          few = it.few;
          ran_here = λ here. it.ran_here here ∙ ap (λ (s : Scripts). take (s.done + card.count) s.queue) (sym after_is);
          ran_below = λ lower. it.ran_below lower ∙ ap (λ (s : Scripts). take s.done s.queue) (sym after_is);
        };
    present = λ other other_made newest.
        kept.present other other_made (ap (λ (s : Scripts). is_newest other.atc s.hi) (sym after_is) ∙ newest);
  }

  -- a record of another card
  pub kept-other : (entry : Entry) → name ≢ card_in entry → IsKept name card Made (history ++ entry ∷ [])
  kept-other (Decided request reply) other =
      kept-apart (Decided request reply) (scripts-decided_other name history request reply (is_of-other name request other))
      (λ another given is its. let same : request ≡ another = cc in
      other (is_of-names name another its ∙ ap card_of (sym same)))
  kept-other (Queued pan psn command) other =
      kept-apart (Queued pan psn command) (scripts-queued_other name history pan psn command (has_numbers-other name pan psn other))
      (λ another given is its. cc)
  kept-other (Status pan psn status) other = kept-apart (Status pan psn status) (scripts-status name history pan psn status) (λ another given is its. cc)

  -- a status of any card
  pub kept-status : (pan : List ℕ) (psn status : ℕ) → IsKept name card Made (history ++ Status pan psn status ∷ [])
  kept-status pan psn status = kept-apart (Status pan psn status) (scripts-status name history pan psn status) (λ another given is its. cc)

  -- a command for the card
  pub kept-queued : (pan : List ℕ) (psn : ℕ) (command : Command) → has_numbers name pan psn ≡ true
      → IsKept name card Made (history ++ Queued pan psn command ∷ [])
  kept-queued pan psn command its =
      let scripts = scripts_of name history in
      let after_is : scripts_of name (history ++ Queued pan psn command ∷ []) ≡ with_command command scripts =
      scripts-queued name history pan psn command its in
      record {
        requests = kept.requests;
        untouched = λ none.
            let it = kept.untouched (ap (λ (s : Scripts). s.hi) (sym after_is) ∙ none) in
            subst (IsUntouched card) (sym after_is) (record {
              none_done = it.none_done;
              none_fly = it.none_fly;
              goes_on = it.goes_on;
              register_is = it.register_is;
              count_is = it.count_is;
              ran_is = it.ran_is;
            });
        flying = λ top top_is.
            let was : scripts.hi ≡ Some top = ap (λ (s : Scripts). s.hi) (sym after_is) ∙ top_is in
            let it = kept.flying top was in
            let within = flying-within name card history top it in
            let longer : (n : ℕ) → n ≤ length scripts.queue → take n scripts.queue ≡ take n (scripts.queue ++ command ∷ []) =
            λ n few. sym (take-append-le n scripts.queue (command ∷ []) few) in
            record {
              goes_on = ap (λ (s : Scripts). s.halted) after_is ∙ it.goes_on;
              size = it.size;
              flight_is = ap (λ (s : Scripts). s.flight) after_is ∙ it.flight_is;
              took = it.took;
              known = it.known;
              batch = λ other commands has at.
                  elim (batch-was name history (Queued pan psn command) other commands has) [
                    | inl old ↦
                        it.batch other commands old at
                        ∙ sym (take-append-le it.size (drop scripts.done scripts.queue) (command ∷ [])
                        (let left = length-drop scripts.done scripts.queue in omega arith))
                        ∙ ap (take it.size) (sym (drop-append-le scripts.done scripts.queue (command ∷ []) (omega arith)))
                        ∙ ap (λ (s : Scripts). take it.size (drop s.done s.queue)) (sym after_is)
                    | inr added ↦ absurd (let no : Queued pan psn command ≡ Decided other added.reply = added.entry_is in cc)
                  ];
              few = it.few;
              ran_here = λ here.
                  it.ran_here here
                  ∙ longer (scripts.done + card.count) (let few = it.few here in omega arith)
                  ∙ ap (λ (s : Scripts). take (s.done + card.count) s.queue) (sym after_is);
              ran_below = λ lower.
                  it.ran_below lower
                  ∙ longer scripts.done (omega arith)
                  ∙ ap (λ (s : Scripts). take s.done s.queue) (sym after_is);
            };
        present = λ other other_made newest.
            kept.present other other_made (ap (λ (s : Scripts). is_newest other.atc s.hi) (sym after_is) ∙ newest);
      }
