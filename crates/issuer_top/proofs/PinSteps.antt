-- How a run ends that writes a change of a PIN.
use Rattle.std.proofs.Common.{◌≡◌, ℕ, ◌⊎◌, List, Option, None, Some, inl, inr, ⊎_elim, refl, sym, ap, ◌∙◌}
use Rattle.issuer_base.specs.OutsideFaults.{Rose}
use Rattle.answer_text.specs.declared.stop_line.Stop.{Stop}
use Rattle.answer_text.specs.declared.stop_line.Stop.TheVariants.{Usage, Config, ReadFault, StoreFault, BadJournal}
use Rattle.answer_text.specs.declared.stop_line.Stop.TheVariants.{BadOldJournal, NoMemory, TooLong, BadDol, BadData}
use Rattle.answer_text.specs.declared.stop_line.Stop.TheVariants.{BadFeed, NoKey}
use Rattle.des_block.specs.declared.Key16.{Key16}
use Rattle.issuer_setup.specs.IssuerSetup.{Setup}
use Rattle.command_line.specs.Command.{PinOrder, IsPin}
use Rattle.issuer_top.specs.declared.ending.Ending.{Ending}
use Rattle.issuer_top.specs.declared.ending.Ending.TheVariants.{Done, Stopped, WriteFault}
use Rattle.issuer_top.specs.PinChanges.{change_by, change_status, change_text, changing, smc_for, ways_to_change}
use Rattle.issuer_top.specs.PinChanges.{ChangesBy, IsAnswered, IsChanged, IsOrdered, IsUnread, StopsToChange}
use Rattle.issuer_top.specs.Seen.{Seen}
use Rattle.issuer_top.specs.Status.{status_of}
use Rattle.issuer_top.specs.Stops.{StopsAtConfig}
use Rattle.issuer_top.specs.Ways.{EndsBy}
use Rattle.issuer_top.proofs.EndingSteps.{ends_at_once, ends_by_text}
use Rattle.issuer_top.proofs.PinLines.{reads-change}

-- ---- the ways that a change of a PIN ends

module _ (seen : Seen) (order : PinOrder) (words : List (List ℕ)) (pin : IsPin words order) (issuer : Setup)
    (ordered : IsOrdered order issuer seen) (ending : Ending) where
  ends_by : (smc : Option Key16) → smc_for issuer order ≡ smc
      → ChangesBy (change_by order smc) seen.sink.held_before seen.sink.held_after seen.sink.faults_before
      seen.sink.faults_after ending → EndsBy (ways_to_change order seen) seen ending
  ends_by None is changes =
      ends_at_once (ways_to_change order seen) seen NoKey ending
      (inr (record { issuer = issuer; ordered = ordered; cause = ap (change_by order) is; last = refl }))
      changes
  ends_by (Some smc) is changes =
      let done : IsChanged order seen (change_text order smc) =
      record {
        issuer = issuer;
        ordered = ordered;
        text_is = ap (change_by order) is;
        read = reads-change issuer order words pin (change_text order smc) (ap (change_by order) is);
      } in
      ends_by_text (ways_to_change order seen) seen ending (change_text order smc) done done changes

  pub ends_changing : ChangesBy (changing issuer order) seen.sink.held_before seen.sink.held_after
      seen.sink.faults_before seen.sink.faults_after ending → EndsBy (ways_to_change order seen) seen ending
  ends_changing changes = ends_by (smc_for issuer order) refl changes

-- ---- the status of a run that changes a PIN

module _ (seen : Seen) (order : PinOrder) (status : ℕ) where
  -- without an issuer
  at-config : (stop : Stop) (text : List ℕ) → status ≡ status_of (Stopped stop)
      → StopsAtConfig order.config seen stop text → IsUnread status
  at-config (Config part index) text is stops = inl is
  at-config ReadFault text is stops = inr (inl is)
  at-config NoMemory text is stops = inr (inr is)
  at-config stop text is stops = absurd stops

  -- without the card or its key
  no-key : (stop : Stop) (text : List ℕ) → status ≡ status_of (Stopped stop) → StopsToChange order seen stop text
      → IsAnswered order status seen
  no-key NoKey text is stops = (stops.issuer, stops.ordered.said, is ∙ sym (ap change_status stops.cause))
  no-key stop text is stops = absurd stops

  pub pin-status : (ending : Ending) → status ≡ status_of ending → EndsBy (ways_to_change order seen) seen ending
      → IsUnread status
      ⊎ (IsAnswered order status seen ⊎ ((status ≡ 4) × Rose seen.sink.faults_before seen.sink.faults_after))
  pin-status Done is ends =
      inr (inl (ends.1.issuer, ends.1.ordered.said, is ∙ sym (ap change_status ends.1.text_is)))
  pin-status (Stopped stop) is ends =
      ⊎_elim (λ config. inl (at-config stop ends.0 is config)) (λ key. inr (inl (no-key stop ends.0 is key))) ends.1
  pin-status WriteFault is ends = inr (inr (is, ends.rose))
