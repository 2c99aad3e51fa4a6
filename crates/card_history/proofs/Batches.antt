-- What goes with a reply: the longest prefix that fits of the undone commands, so a part of the queue without a gap.
use Rattle.std.proofs.Common.{◌≡◌, ◌≤◌, true, false, Option, None, Some, List, [], ◌++◌, length, take, drop}
use Rattle.std.proofs.Common.{refl, ap, sym, ◌∙◌, subst}
use Rattle.std.proofs.lemmas.Bool.{cond-true, cond-false, cond_both}
use Rattle.std.proofs.lemmas.List.{length-take-le, take-append-le, drop-append-le}
use Rattle.std.specs.Option.{option_map_or}
use Rattle.issuer_base.specs.declared.command.Command.{Command}
use Rattle.issuer_base.specs.declared.request.Request.{Request}
use Rattle.cvr_settle.specs.declared.settlement.Flight.{Flight}
use Rattle.script_queue.specs.ScriptTemplate.{fitting_front}
use Rattle.script_queue.proofs.FittingFronts.{fitting_front-front}
use Rattle.card_history.specs.Scripts.{Scripts, undone, in_flight, with_newest, is_newest, batch_of, first_of}
use Rattle.card_history.proofs.ScriptSteps.{with_newest-queue, IsWithin, with_newest-within}

module _ (request : Request) (scripts : Scripts) where
  -- on the newest counter the flight's commands go with it
  pub batch_of-newest : is_newest request.atc scripts.hi ≡ true → batch_of request scripts ≡ in_flight (with_newest request scripts)
  batch_of-newest newest = cond-true (is_newest request.atc scripts.hi) (in_flight (with_newest request scripts)) [] newest

  -- which are the longest front that fits of what isn't done after settlement
  pub in_flight-newest : (with_newest request scripts).halted ≡ false
      → in_flight (with_newest request scripts) ≡ fitting_front (undone (with_newest request scripts))
  in_flight-newest flying =
      let after = with_newest request scripts in
      let flight : Flight = record { counter = request.atc; size = length (fitting_front (undone after)) } in
      ap (λ (flown : Option Flight). option_map_or (λ flight. take flight.size (undone after)) flown [])
      (cond-false after.halted None (Some flight) flying)
      ∙ fitting_front-front (undone after)

-- what flies is a front of what isn't done, whatever is queued later
flown-front : (flown : Option Flight) (scripts : Scripts) (more : List Command) → scripts.done ≤ length scripts.queue
    → ((flight : Flight) → flown ≡ Some flight → flight.size ≤ length (undone scripts))
    → option_map_or (λ flight. take flight.size (undone scripts)) flown []
    ≡ take (length (option_map_or (λ flight. take flight.size (undone scripts)) flown [])) (drop scripts.done (scripts.queue ++ more))
flown-front None scripts more few_done few_fly = refl
flown-front (Some flight) scripts more few_done few_fly =
    let size : length (take flight.size (undone scripts)) ≡ flight.size = length-take-le flight.size (undone scripts) (few_fly flight refl) in
    sym (ap (λ n. take n (drop scripts.done (scripts.queue ++ more))) size
    ∙ ap (take flight.size) (drop-append-le scripts.done scripts.queue more few_done)
    ∙ take-append-le flight.size (undone scripts) more (few_fly flight refl))

-- so is a batch, from its first number on
pub batch_of-front : (request : Request) (scripts : Scripts) (more : List Command) → IsWithin scripts
    → batch_of request scripts ≡ take (length (batch_of request scripts)) (drop (first_of request scripts) (scripts.queue ++ more))
batch_of-front request scripts more within =
    let after = with_newest request scripts in
    let later = with_newest-within request scripts within in
    cond_both (is_newest request.atc scripts.hi) (in_flight after) []
    (λ (commands : List Command). commands ≡ take (length commands) (drop after.done (scripts.queue ++ more)))
    (λ newest. subst (λ (queued : List Command). in_flight after ≡ take (length (in_flight after)) (drop after.done (queued ++ more)))
    (with_newest-queue request scripts) (flown-front after.flight after more later.few_done later.few_fly))
    (λ old. refl)
