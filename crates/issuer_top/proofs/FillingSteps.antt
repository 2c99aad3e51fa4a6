-- How a run ends that fills a DOL.
use Rattle.std.proofs.Common.{◌≡◌, ℕ, ◌⊎◌, List, Ok, Err, inl, inr, refl, sym, ap, ◌∙◌}
use Rattle.std.specs.Prelude.{Result}
use Rattle.arrayvec.specs.ArrayVec.{ArrayVec}
use Rattle.issuer_base.specs.OutsideFaults.{Rose}
use Rattle.answer_text.specs.AnswerText.{bytes_text}
use Rattle.answer_text.specs.StopText.{stop_text}
use Rattle.answer_text.specs.declared.stop_line.Stop.{Stop}
use Rattle.answer_text.specs.declared.stop_line.Stop.TheVariants.{BadDol as StopsAtDol, BadData as StopsAtData}
use Rattle.terminal_kernel.specs.declared.dol.DolEntry.{DolEntry}
use Rattle.terminal_kernel.specs.declared.dol.BadDol.{BadDol}
use Rattle.terminal_kernel.specs.declared.given.BadData.{BadData}
use Rattle.terminal_kernel.specs.Dol.{dol_of}
use Rattle.terminal_kernel.specs.Given.{DataObject, data_of}
use Rattle.terminal_kernel.specs.Filling.{filled}
use Rattle.desk_host.specs.SeenStores.{no_journals}
use Rattle.issuer_top.specs.declared.ending.Ending.{Ending}
use Rattle.issuer_top.specs.declared.ending.Ending.TheVariants.{Done, Stopped, WriteFault}
use Rattle.issuer_top.specs.Filling.{filled_or_stop, filling, fill_status, ways_to_fill, CannotFill, Fills, FillsBy, IsFilled}
use Rattle.issuer_top.specs.Opened.{OpenedNoInput}
use Rattle.issuer_top.specs.Seen.{Seen}
use Rattle.issuer_top.specs.Status.{status_of}
use Rattle.issuer_top.specs.Ways.{EndsBy, Ends}
use Rattle.issuer_top.proofs.EndingSteps.{ends_at_once, ends_by_text}

-- ---- the ways that filling ends

module _ (seen : Seen) (dol given : List ℕ) (opened : OpenedNoInput seen) (none_opened : seen.journals ≡ no_journals)
    (ending : Ending) where
  broken : (stop : Stop) → filling dol given ≡ Err stop → CannotFill dol given seen stop (stop_text stop)
  broken stop cause = record { opened = opened; none_opened = none_opened; cause = cause; last = refl }

  whole : (bytes : List ℕ) → filling dol given ≡ Ok bytes → IsFilled dol given seen (bytes_text bytes)
  whole bytes is = record {
    bytes = bytes;
    opened = opened;
    none_opened = none_opened;
    filled_is = is;
    text_is = refl;
  }

  ends_by : (parsed : Result (ArrayVec DolEntry) BadDol) (objects : Result (List DataObject) BadData)
      → filling dol given ≡ filled_or_stop parsed objects
      → FillsBy (filled_or_stop parsed objects) seen.sink.held_before seen.sink.held_after seen.sink.faults_before
      seen.sink.faults_after ending → EndsBy (ways_to_fill dol given seen) seen ending
  ends_by (Err bad) objects is fills =
      ends_at_once (ways_to_fill dol given seen) seen (StopsAtDol bad.at) ending (broken (StopsAtDol bad.at) is) fills
  ends_by (Ok parsed) (Err bad) is fills =
      ends_at_once (ways_to_fill dol given seen) seen (StopsAtData bad.at) ending (broken (StopsAtData bad.at) is) fills
  ends_by (Ok parsed) (Ok objects) is fills =
      let bytes = filled objects parsed.items in
      let done = whole bytes is in
      ends_by_text (ways_to_fill dol given seen) seen ending (bytes_text bytes) done done fills

  pub ends_filling : FillsBy (filling dol given) seen.sink.held_before seen.sink.held_after seen.sink.faults_before
      seen.sink.faults_after ending → EndsBy (ways_to_fill dol given seen) seen ending
  ends_filling fills = ends_by (dol_of dol) (data_of given) refl fills

-- ---- the status of a run that fills a DOL

module _ (seen : Seen) (dol given : List ℕ) (status : ℕ) where
  by-ending : (ending : Ending) → status ≡ status_of ending → EndsBy (ways_to_fill dol given seen) seen ending
      → (status ≡ fill_status (filling dol given))
      ⊎ ((status ≡ 4) × Rose seen.sink.faults_before seen.sink.faults_after)
  by-ending Done is ends = inl (is ∙ sym (ap fill_status ends.1.filled_is))
  by-ending (Stopped stop) is ends = inl (is ∙ sym (ap fill_status ends.1.cause))
  by-ending WriteFault is ends = inr (is, ends.rose)

  pub fills : Ends (ways_to_fill dol given seen) status seen → Fills dol given status seen
  fills ends = record { ends = ends; status_is = by-ending ends.ending ends.status_is ends.ends_by }
