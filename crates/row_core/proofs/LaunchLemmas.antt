-- How settlement and the next flight change what a row holds of a card's scripts.
use Rattle.std.proofs.Common.{◌≡◌, ℕ, ◌+◌, ◌≤◌, Bool, true, false, cond, List, length, take, drop, None, Some, refl, ap, sym, ◌∙◌, subst, add-zero, arith, []}
use Rattle.std.specs.Option.{option_map_or}
use Rattle.std.proofs.lemmas.List.{length-drop, length-take-le, drop-drop}
use Rattle.issuer_base.specs.declared.command.Command.{Command}
use Rattle.issuer_base.specs.declared.limits.TheConstants.{MAX_TEMPLATE_BYTES}
use Rattle.issuer_base.specs.declared.request.Request.{Request}
use Rattle.issuer_base.specs.ChipData.{script_count, last_online}
use Rattle.issuer_base.specs.ScriptTemplate.{template_size}
use Rattle.cvr_settle.specs.declared.settlement.Flight.{Flight}
use Rattle.cvr_settle.specs.declared.settlement.Settled.{Settled}
use Rattle.cvr_settle.specs.declared.settlement.Settled.TheVariants.{Ran, Nothing, Halt}
use Rattle.cvr_settle.specs.Settlement.{settled}
use Rattle.script_queue.specs.ScriptTemplate.{fitting_front}
use Rattle.script_queue.proofs.FittingFronts.{fitting_front-size}
use Rattle.card_history.specs.Scripts.{Scripts, undone, settled_by, launched, in_flight}
use Rattle.row_core.specs.CardRow.{KeptScripts, kept_of}
use Rattle.row_core.specs.Launching.{IsLaunch, launched_from, carried}
use Rattle.row_core.specs.declared.scripts.Launch.{Launch}

-- how many commands ran, and whether the scripts are halted now, where they were before or not
abbrev pub told : Settled → Bool → ℕ × Bool
told (Ran count) halted = (count, halted)
told Nothing halted = (0, halted)
told Halt halted = (0, true)

-- the scripts after settlement, where so many commands ran
record IsSettled (scripts after : Scripts) (ran : ℕ) (halted : Bool) : Type 0 where
  queue_is : after.queue ≡ scripts.queue
  done_is : after.done ≡ scripts.done + ran
  halted_is : after.halted ≡ halted

settled_by-told : (outcome : Settled) (scripts : Scripts)
    → IsSettled scripts (settled_by outcome scripts) (told outcome scripts.halted).0 (told outcome scripts.halted).1
settled_by-told (Ran count) scripts = record { queue_is = refl; done_is = refl; halted_is = refl }
settled_by-told Nothing scripts = record { queue_is = refl; done_is = sym (add-zero scripts.done); halted_is = refl }
settled_by-told Halt scripts = record { queue_is = refl; done_is = sym (add-zero scripts.done); halted_is = refl }

-- the launch carries the longest prefix that fits of what is undone after so many
pub record CarriesFitting (commands : List Command) (launch : Launch) : Type 0 where
  pub within : launch.ran + launch.size ≤ length commands
  pub front : take launch.size (drop launch.ran commands) ≡ fitting_front (drop launch.ran commands)
  pub flies : launch.halted ≡ false

module _ (counter : ℕ) (scripts after : Scripts) (launch : Launch)
    (settles : IsSettled scripts after launch.ran launch.halted) (carries : CarriesFitting (undone scripts) launch) where
  undone_is : undone after ≡ drop launch.ran (undone scripts)
  undone_is =
      ap (λ (queue : List Command). drop after.done queue) settles.queue_is
      ∙ ap (λ n. drop n scripts.queue) settles.done_is
      ∙ sym (drop-drop launch.ran scripts.done scripts.queue)

  size_is : length (fitting_front (undone after)) ≡ launch.size
  size_is =
      let left = length-drop launch.ran (undone scripts) in
      ap (λ commands. length (fitting_front commands)) undone_is
      ∙ ap (λ (commands : List Command). length commands) (sym carries.front)
      ∙ length-take-le launch.size (drop launch.ran (undone scripts)) (omega (arith, carries.within, left))

  launched-kept : kept_of (launched counter after) ≡ launched_from (kept_of scripts) counter launch
  launched-kept = λ i. record {
    commands = record { queued = length (settles.queue_is i); undone = undone_is i };
    done = settles.done_is i;
    flight = cond (settles.halted_is i) None (Some (record { counter = counter; size = size_is i }));
    halted = settles.halted_is i;
  }

  launched-carried : in_flight (launched counter after) ≡ carried (kept_of scripts) launch
  launched-carried =
      ap (λ halted. option_map_or (λ (flight : Flight). take flight.size (undone after))
      (cond halted None (Some (record { counter = counter; size = length (fitting_front (undone after)) }))) [])
      (settles.halted_is ∙ carries.flies)
      ∙ (λ i. take (size_is i) (undone_is i))

-- what the register and the count of a request report of the scripts
abbrev pub told_by : Request → KeptScripts → ℕ × Bool
told_by request kept = told (settled kept.flight (last_online request) (script_count request)) kept.halted

-- the settlement of the batch in flight, and the longest prefix that fits, make a launch
pub is-launch : (kept : KeptScripts) (request : Request) (launch : Launch)
    → launch.ran ≡ (told_by request kept).0
    → launch.halted ≡ (told_by request kept).1
    → CarriesFitting kept.commands.undone launch
    → IsLaunch kept request launch
is-launch kept request launch ran halted carries =
    let settles : (scripts : Scripts) → kept ≡ kept_of scripts
    → IsSettled scripts (settled_by (settled scripts.flight (last_online request) (script_count request)) scripts) launch.ran launch.halted =
    λ scripts kept_is.
    let by = settled_by-told (settled scripts.flight (last_online request) (script_count request)) scripts in record {
      queue_is = by.queue_is;
      done_is = by.done_is ∙ ap (λ count. scripts.done + count) (sym (ran ∙ ap (λ kept. (told_by request kept).0) kept_is));
      halted_is = by.halted_is ∙ sym (halted ∙ ap (λ kept. (told_by request kept).1) kept_is);
    } in
    let fitting : (scripts : Scripts) → kept ≡ kept_of scripts → CarriesFitting (undone scripts) launch =
    λ scripts kept_is. subst (λ (kept : KeptScripts). CarriesFitting kept.commands.undone launch) kept_is carries in record {
      within = carries.within;
      fit = subst (λ commands. template_size commands ≤ MAX_TEMPLATE_BYTES) (sym carries.front)
          (fitting_front-size (drop launch.ran kept.commands.undone));
      after = λ scripts kept_is few.
          launched-kept request.atc scripts _ launch (settles scripts kept_is) (fitting scripts kept_is)
          ∙ ap (λ kept. launched_from kept request.atc launch) (sym kept_is);
      batch = λ scripts kept_is few.
          launched-carried request.atc scripts _ launch (settles scripts kept_is) (fitting scripts kept_is)
          ∙ ap (λ kept. carried kept launch) (sym kept_is);
    }
