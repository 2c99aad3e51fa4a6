-- How a configuration is opened, and how a run ends whose configuration gave no issuer.
use Rattle.std.proofs.Common.{◌≡◌, ℕ, ◌⊎◌, false, List, Option, None, Some, Err, Ok, inl, inr, ⊎_elim}
use Rattle.std.proofs.Common.{refl, sym, subst, ap, ◌<◌}
use Rattle.std.specs.Prelude.{is_some, IsSomeAnd}
use Rattle.issuer_base.specs.OutsideFaults.{Rose, CountsFaults}
use Rattle.issuer_base.specs.declared.outside.DeskFault.{DeskFault}
use Rattle.issuer_base.specs.declared.outside.DeskFault.TheVariants.{Fault, NoMemory as NoRoom}
use Rattle.issuer_base.specs.declared.outside.DeskCall.TheVariants.{Read}
use Rattle.issuer_base.specs.Desk.{FailedCall, is_fault, last_after}
use Rattle.issuer_base.proofs.ManyCalls.{Rose-from_none}
use Rattle.answer_text.specs.StopText.{stop_text}
use Rattle.answer_text.specs.declared.stop_line.Stop.{Stop}
use Rattle.answer_text.specs.declared.stop_line.Stop.TheVariants.{Usage, Config, ReadFault, StoreFault, BadJournal}
use Rattle.answer_text.specs.declared.stop_line.Stop.TheVariants.{BadOldJournal, NoMemory, TooLong, BadDol, BadData}
use Rattle.answer_text.specs.declared.stop_line.Stop.TheVariants.{BadFeed, NoKey}
use Rattle.issuer_setup.specs.IssuerSetup.{Setup}
use Rattle.config_read.specs.declared.fault.ConfigFault.{ConfigFault}
use Rattle.config_read.specs.declared.fault.ConfigFault.TheVariants.{NotJson, At, NoMemory as NoTextRoom}
use Rattle.config_read.specs.Faults.{number_of_part}
use Rattle.desk_host.specs.Configuration.{Says, GivesNoIssuer, is_read_stop, config_stop}
use Rattle.desk_host.specs.SeenStores.{no_journals}
use Rattle.issuer_top.specs.declared.ending.Ending.{Ending}
use Rattle.issuer_top.specs.Seen.{Seen, SeenDesk, SeenInput}
use Rattle.issuer_top.specs.Opening.{GivesInput, stop_of, IsConfigured, GivesNoInput, SaysNoIssuer, OpensNoIssuer}
use Rattle.issuer_top.specs.Opened.{OpenedNoInput, OpenedConfigOnly}
use Rattle.issuer_top.specs.Stops.{CannotConfigure, IsConfig, StopsAtConfig, ways_to_give_no_issuer}
use Rattle.issuer_top.specs.Ways.{EndsBy}
use Rattle.issuer_top.proofs.EndingSteps.{told-given, ends_at_once, StopsAtOnce}

-- ---- what was opened

-- what an input says is what the desk tells of its name
pub is-configured : (told : Option (Option (List ℕ))) (left : Option (List ℕ)) (issuer : Setup) → GivesInput told left
    → Says left issuer → IsConfigured told (Ok issuer)
is-configured told left issuer given said = record {
  content = said.content;
  held = told-given told left said.content given said.held;
  says = said.says;
}

-- the desk gave no input
pub no-input : (T : Type 0) (desk : SeenDesk) (name : List ℕ) (other : Option FailedCall) (fault : DeskFault)
    → CountsFaults desk.faults_before desk.faults_after (is_fault {T = T} (Err fault))
    → desk.last_fault ≡ last_after Read name (is_fault {T = T} (Err fault)) other
    → GivesNoInput desk name (stop_of fault)
no-input T desk name other Fault count last = inl (refl, record { rose = count.counted; call_is = last })
no-input T desk name other NoRoom count last = inr (refl, count.counted)

-- the input gave no issuer
pub no-issuer : (T : Type 0) (told : Option (Option (List ℕ))) (input : SeenInput) (left : Option (List ℕ)) (first : ℕ)
    (cause : Stop) → GivesInput told left → GivesNoIssuer left cause → first ≡ 0
    → CountsFaults first input.faults (is_read_stop {T = T} (Err cause)) → SaysNoIssuer told input cause
no-issuer T told input left first (Config part index) given none fresh count =
    inl (
      none.fault,
      record {
        content = none.content;
        held = told-given told left none.content given none.held;
        says = none.broken;
      },
      none.stop_is,
    )
no-issuer T told input left first ReadFault given none fresh count =
    let rose : Rose 0 input.faults = subst (λ (n : ℕ). Rose n input.faults) fresh count.counted in
    inr (inl (refl, Rose-from_none input.faults rose))
no-issuer T told input left first NoMemory given none fresh count = inr (inr refl)
no-issuer T told input left first Usage given none fresh count = absurd none
no-issuer T told input left first (StoreFault shard) given none fresh count = absurd none
no-issuer T told input left first (BadJournal shard line) given none fresh count = absurd none
no-issuer T told input left first (BadOldJournal shard line) given none fresh count = absurd none
no-issuer T told input left first (TooLong line) given none fresh count = absurd none
no-issuer T told input left first (BadDol at) given none fresh count = absurd none
no-issuer T told input left first (BadData at) given none fresh count = absurd none
no-issuer T told input left first (BadFeed line) given none fresh count = absurd none
no-issuer T told input left first NoKey given none fresh count = absurd none

-- ---- the configuration gave no issuer

module _ (config : List ℕ) (seen : Seen) (ending : Ending)
    (no_requests : is_some seen.requests ≡ false) (none_opened : seen.journals ≡ no_journals) where
  -- no memory was left
  lacks : OpenedNoInput seen ⊎ OpenedConfigOnly seen → CannotConfigure seen (stop_text NoMemory)
  lacks opened = record { opened = opened; none_opened = none_opened; last = refl }

  -- the configuration is broken
  is-broken : (fault : ConfigFault) (stop : Stop) → stop ≡ config_stop fault → OpenedConfigOnly seen
      → IsConfigured (seen.desk.tells config) (Err fault) → IsConfig config seen stop (stop_text stop)
  is-broken fault stop stop_is opened said = record {
    fault = fault;
    opened = opened;
    none_opened = none_opened;
    broken = said;
    stop_is = stop_is;
    last = refl;
  }

  broken : (fault : ConfigFault) → OpenedConfigOnly seen → IsConfigured (seen.desk.tells config) (Err fault)
      → StopsAtConfig config seen (config_stop fault) (stop_text (config_stop fault))
  broken NotJson opened said = is-broken NotJson (Config 1 0) refl opened said
  broken (At part index) opened said = is-broken (At part index) (Config (number_of_part part) index) refl opened said
  broken NoTextRoom opened said = lacks (inr opened)

  -- the run stops by a cause that is this one
  ends_for : (stop cause : Stop) → cause ≡ stop → StopsAtConfig config seen stop (stop_text stop)
      → StopsAtOnce seen cause ending → EndsBy (ways_to_give_no_issuer config seen) seen ending
  ends_for stop cause same why stopping =
      ends_at_once (ways_to_give_no_issuer config seen) seen stop ending why
      (subst (λ (s : Stop). StopsAtOnce seen s ending) same stopping)

  -- it stops by the cause for which there is no issuer
  pub ends_unopened : (opened : Option SeenInput) (cause : Stop) → seen.config ≡ opened
      → OpensNoIssuer seen.desk config opened cause → StopsAtOnce seen cause ending
      → EndsBy (ways_to_give_no_issuer config seen) seen ending
  ends_unopened None cause is none stopping =
      ⊎_elim
      (λ fails. ends_for ReadFault cause fails.0
      (inl (record {
        fails = record {
          config_is = ap is_some is;
          requests_is = no_requests;
          rose = fails.1.rose;
          call_is = fails.1.call_is;
        };
        none_opened = none_opened;
        last = refl;
      }))
      stopping)
      (λ full. ends_for NoMemory cause full.0
      (lacks (inl (record { config_is = ap is_some is; requests_is = no_requests; desk_stood = full.1 }))) stopping)
      none
  ends_unopened (Some input) cause is none stopping =
      let opened : OpenedConfigOnly seen =
      record { config_is = ap is_some is; requests_is = no_requests; desk_stood = none.0 } in
      ⊎_elim
      (λ bad. ends_for (config_stop bad.0) cause bad.2 (broken bad.0 opened bad.1) stopping)
      (λ more. ⊎_elim
      (λ failed. ends_for ReadFault cause failed.0
      (inr (record {
        opened = opened;
        failed =
            subst (λ c. IsSomeAnd c (λ (i : SeenInput). 0 < i.faults)) (sym is) failed.1;
        none_opened = none_opened;
        last = refl;
      }))
      stopping)
      (λ full. ends_for NoMemory cause full (lacks (inr opened)) stopping) more)
      none.1
