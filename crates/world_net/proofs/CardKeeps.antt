-- The steps of a card preserve the invariant of a genuine run for it.
use Rattle.std.proofs.Common.{◌≡◌, ℕ, ◌+◌, ◌≤◌, ◌<◌, true, List, [], ◌∷◌, ◌++◌, length, take}
use Rattle.std.proofs.Common.{drop, Option, Some, None, refl, ap, sym, ◌∙◌, subst, inl, inr, ◌⊎◌}
use Rattle.std.proofs.Common.{arith, get_or}
use Rattle.std.proofs.lemmas.Bool.{ltb-true}
use Rattle.std.proofs.lemmas.List.{length-take, get_or-take, get_or-drop, take_more}
use Rattle.std.proofs.lemmas.Option.{none-some, same_Some, slice_get_within, get_or_from_slice_get}
use Rattle.std.specs.List.{slice_get}
use Rattle.issuer_base.specs.declared.command.Command.{Command}
use Rattle.issuer_base.specs.declared.request.Request.{Request}
use Rattle.issuer_base.specs.declared.answer.Reply.{Reply}
use Rattle.issuer_base.specs.declared.entry.Entry.{Entry}
use Rattle.issuer_base.specs.declared.entry.Entry.TheVariants.{Decided}
use Rattle.issuer_base.specs.CardNames.{CardName}
use Rattle.card_history.specs.Records.{card_of, is_of}
use Rattle.card_history.specs.Scripts.{is_newest, scripts_of}
use Rattle.card_history.proofs.CardNames.{is_of-card_of}
use Rattle.card_model.specs.Application.{CardState}
use Rattle.card_model.specs.CardSteps.{with_open, with_answer, with_command, with_failure}
use Rattle.world_net.proofs.Batches.{HasBatch, recorded-top}
use Rattle.world_net.proofs.CardLaw.{Carries, IsKept, flying-within}

-- a request that is above the greatest counter is above this one, if it is the greatest
pub newest-above : (counter top : ℕ) (hi : Option ℕ) → hi ≡ Some top → is_newest counter hi ≡ true → top < counter
newest-above counter top hi is newest =
    ltb-true top counter (subst (λ (hi : Option ℕ). is_newest counter hi ≡ true) is newest)

module _ (name : CardName) (card : CardState) (history : List Entry) where
  -- a tap: the request that was made is on the next counter, and carries the register and the count
  pub kept-tap : (request : Request) (Made Made' : Request → Type 0) → request.atc ≡ card.atc + 1 → card_of request ≡ name
      → Carries card.register card.count request → ((other : Request) → Made' other → Made other ⊎ (request ≡ other))
      → IsKept name card Made history → IsKept name (with_open card request) Made' history
  unfolding with_open
  kept-tap request Made Made' counter its carries cases kept = record {
    requests = record {
      counters = λ other made. elim (cases other made) [
        | inl old ↦ let it = kept.requests.counters other old in (it.0, let below = it.1 in omega arith)
        | inr same ↦ let at : request.atc ≡ other.atc = ap (λ (q : Request). q.atc) same in (omega arith, omega arith)
      ];
      opened = λ other is.
          let same : request ≡ other = same_Some _ _ is in
          (ap card_of (sym same) ∙ its, ap (λ (q : Request). q.atc) (sym same) ∙ counter);
      answered = λ chain is. absurd (none-some chain is);
      unanswered = λ other is unchained. let within = kept.requests.within in omega arith;
      within = let within = kept.requests.within in omega arith;
    };
    untouched = λ none.
        let it = kept.untouched none in
        record {
          none_done = it.none_done;
          none_fly = it.none_fly;
          goes_on = it.goes_on;
          register_is = it.register_is;
          count_is = it.count_is;
          ran_is = it.ran_is;
        };
    flying = λ top is.
        let it = kept.flying top is in
        record {
          goes_on = it.goes_on;
          size = it.size;
          flight_is = it.flight_is;
          took = it.took;
          known = let known = it.known in omega arith;
          batch = it.batch;
          few = it.few;
          ran_here = it.ran_here;
          ran_below = it.ran_below;
        };
    present = λ other made newest. elim (cases other made) [
      | inl old ↦ kept.present other old newest
      | inr same ↦ subst (Carries card.register card.count) same carries
    ];
  }

  -- nothing that the card does of itself: fewer requests count as made
  pub kept-fewer : (Made Made' : Request → Type 0) → ((other : Request) → Made' other → Made other)
      → IsKept name card Made history → IsKept name card Made' history
  kept-fewer Made Made' fewer kept = record {
    requests = record {
      counters = λ other made. kept.requests.counters other (fewer other made);
      opened = kept.requests.opened;
      answered = kept.requests.answered;
      unanswered = kept.requests.unanswered;
      within = kept.requests.within;
    };
    untouched = kept.untouched;
    flying = kept.flying;
    present = λ other made newest. kept.present other (fewer other made) newest;
  }

  module _ (Made : Request → Type 0) (kept : IsKept name card Made history) where
    -- a refused command
    pub kept-failure : IsKept name (with_failure card) Made history
    unfolding with_failure
    kept-failure = record {
      requests = record {
        counters = kept.requests.counters;
        opened = kept.requests.opened;
        answered = kept.requests.answered;
        unanswered = kept.requests.unanswered;
        within = kept.requests.within;
      };
      untouched = λ none.
          let it = kept.untouched none in
          record {
            none_done = it.none_done;
            none_fly = it.none_fly;
            goes_on = it.goes_on;
            register_is = it.register_is;
            count_is = it.count_is;
            ran_is = it.ran_is;
          };
      flying = λ top is.
          let it = kept.flying top is in
          record {
            goes_on = it.goes_on;
            size = it.size;
            flight_is = it.flight_is;
            took = it.took;
            known = it.known;
            batch = it.batch;
            few = it.few;
            ran_here = it.ran_here;
            ran_below = it.ran_below;
          };
      present = kept.present;
    }

    module _ (request : Request) (opened : card.open_request ≡ Some request) where
      -- the counter of the open request, once it was decided, is the greatest
      open-top : (place : ℕ) (reply : Reply) → slice_get history place ≡ Some (Decided request reply)
          → (top : ℕ) × ((scripts_of name history).hi ≡ Some top) × (card.atc ≡ top)
      open-top place reply is =
          let its : is_of name request ≡ true =
          subst (λ (name : CardName). is_of name request ≡ true) (kept.requests.opened request opened).0 (is_of-card_of request) in
          let at : request.atc ≡ card.atc = (kept.requests.opened request opened).1 in
          let found = recorded-top name history place request reply is its in
          let known : found.0 ≤ card.atc = (kept.flying found.0 found.1).known in
          let below : request.atc ≤ found.0 = found.2 in
          (found.0, found.1, omega arith)

      -- the issuer's answer to a decided request
      pub kept-answer : (place : ℕ) (reply : Reply) → slice_get history place ≡ Some (Decided request reply) → card.chain ≡ None
          → IsKept name (with_answer card request) Made history
      unfolding with_answer
      kept-answer place reply is unchained =
          let found = open-top place reply is in
          let greatest : card.atc ≡ found.0 = found.2 in
          let before : card.register < card.atc = kept.requests.unanswered request opened unchained in
          record {
            requests = record {
              counters = kept.requests.counters;
              opened = kept.requests.opened;
              answered = λ chain chained. refl;
              unanswered = λ other other_is none. absurd (none-some request.ac (sym none));
              within = omega arith;
            };
            untouched = λ none. absurd (none-some found.0 (sym none ∙ found.1));
            flying = λ top top_is.
                let same : top ≡ found.0 = same_Some _ _ (sym top_is ∙ found.1) in
                let it = kept.flying top top_is in
                record {
                  goes_on = it.goes_on;
                  size = it.size;
                  flight_is = it.flight_is;
                  took = omega arith;
                  known = it.known;
                  batch = it.batch;
                  few = λ here. omega arith;
                  ran_here = λ here.
                      it.ran_below (omega arith)
                      ∙ ap (λ n. take n (scripts_of name history).queue)
                      (let none : (scripts_of name history).done ≡ (scripts_of name history).done + 0 = omega arith in none);
                  ran_below = λ below. absurd (omega arith);
                };
            present = λ other made newest.
                let above = newest-above other.atc found.0 (scripts_of name history).hi found.1 newest in
                let below : other.atc ≤ card.atc = (kept.requests.counters other made).1 in
                absurd (omega arith);
          }

      -- a command of the batch in the record of the open request, that with the number of those that the card ran since it was answered
      pub kept-command : (batch : List Command) (command : Command) (chain next : List ℕ) → HasBatch name history request batch
          → slice_get batch card.count ≡ Some command → card.chain ≡ Some chain → IsKept name (with_command card command next) Made history
      unfolding with_command
      kept-command batch command chain next has command_is chained =
          let found = open-top has.place has.reply has.record_is in
          let greatest : card.atc ≡ found.0 = found.2 in
          let took_it : card.register ≡ card.atc = kept.requests.answered chain chained in
          let at : request.atc ≡ card.atc = (kept.requests.opened request opened).1 in
          record {
            requests = record {
              counters = kept.requests.counters;
              opened = kept.requests.opened;
              answered = λ _ _. took_it;
              unanswered = λ other other_is none. absurd (none-some next (sym none));
              within = kept.requests.within;
            };
            untouched = λ none. absurd (none-some found.0 (sym none ∙ found.1));
            flying = λ top top_is.
                let same : top ≡ found.0 = same_Some _ _ (sym top_is ∙ found.1) in
                let scripts = scripts_of name history in
                let it = kept.flying top top_is in
                let batch_is : batch ≡ take it.size (drop scripts.done scripts.queue) = it.batch request batch has (omega arith) in
                let here : card.register ≡ top = omega arith in
                let within = flying-within name card history top it in
                let inside : card.count < length batch = slice_get_within batch card.count command command_is in
                let long : length batch ≤ it.size =
                (let taken = length-take it.size (drop scripts.done scripts.queue) in
                let length_is : length batch ≡ length (take it.size (drop scripts.done scripts.queue)) = ap (λ (l : List Command). length l) batch_is in
                omega arith) in
                let command_here : get_or scripts.queue (scripts.done + card.count) command ≡ command =
                sym (get_or-take it.size (drop scripts.done scripts.queue) card.count command (omega arith)
                ∙ get_or-drop scripts.done scripts.queue card.count command)
                ∙ ap (λ (l : List Command). get_or l card.count command) (sym batch_is)
                ∙ get_or_from_slice_get batch card.count command command command_is in
                record {
                  goes_on = it.goes_on;
                  size = it.size;
                  flight_is = it.flight_is;
                  took = it.took;
                  known = it.known;
                  batch = it.batch;
                  few = λ _. omega arith;
                  ran_here = λ _.
                      ap (λ (ran : List Command). ran ++ command ∷ []) (it.ran_here here)
                      ∙ ap (λ (last : Command). take (scripts.done + card.count) scripts.queue ++ last ∷ []) (sym command_here)
                      ∙ sym (take_more scripts.queue (scripts.done + card.count) command (omega arith))
                      ∙ ap (λ n. take n scripts.queue) (let more : scripts.done + card.count + 1 ≡ scripts.done + (card.count + 1) = omega arith in more);
                  ran_below = λ below. absurd (omega arith);
                };
            present = λ other made newest.
                let above = newest-above other.atc found.0 (scripts_of name history).hi found.1 newest in
                let below : other.atc ≤ card.atc = (kept.requests.counters other made).1 in
                absurd (omega arith);
          }
