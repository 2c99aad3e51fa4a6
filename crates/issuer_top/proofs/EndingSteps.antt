-- How a run ends, from what its parts did.
use Rattle.std.proofs.Common.{◌≡◌, ◌⊎◌, ℕ, ◌≤◌, true, false, List, [], ◌++◌, Option, None, Some, Ok}
use Rattle.std.proofs.Common.{inl, inr, ⊎_elim}
use Rattle.std.proofs.Common.{refl, sym, subst, arith}
use Rattle.std.specs.Prelude.{is_some}
use Rattle.std.specs.Io.KnownBytes.{Appends}
use Rattle.std.proofs.KnownBytes.{Appends-nil, Appends-trans}
use Rattle.issuer_base.specs.OutsideFaults.{CountsFaults}
use Rattle.issuer_base.specs.Tells.{Tells}
use Rattle.issuer_base.specs.Desk.{FailedCall}
use Rattle.issuer_base.proofs.ManyCalls.{AppendsFront-after, Rose-since, Tells-from_left}
use Rattle.answer_text.specs.StopText.{stop_text}
use Rattle.answer_text.specs.declared.stop_line.Stop.{Stop}
use Rattle.issuer_setup.specs.IssuerSetup.{Setup}
use Rattle.desk_host.specs.Left.{LeaveJournals}
use Rattle.desk_host.specs.Loading.{GivesNoHost}
use Rattle.desk_host.specs.SeenStores.{SeenJournals, Logged}
use Rattle.issuer_top.specs.declared.ending.Ending.{Ending}
use Rattle.issuer_top.specs.declared.ending.Ending.TheVariants.{Done, Stopped, WriteFault}
use Rattle.issuer_top.specs.Opening.{GivesInput, IsConfigured, SaysIssuer}
use Rattle.issuer_top.specs.Seen.{Seen}
use Rattle.issuer_top.specs.Status.{status_of}
use Rattle.issuer_top.specs.Stopping.{is_broken, GivesStop, GivesText}
use Rattle.issuer_top.specs.Stops.{StopsAtConfig, HasNoHost, ways_to_give_no_issuer}
use Rattle.issuer_top.specs.Ways.{Ways, EndsBy, Ends}

-- an input that a desk gave is one that stands there
pub gives_input : (told : Option (Option (List ℕ))) (left : Option (List ℕ)) → Tells told left
    → (told ≡ Some None → false ≡ true) → GivesInput told left
gives_input told left tells absent =
    record { tells = tells; stands = λ none. (let both : false ≡ true = absent none in cc) }

-- what an input had is what the desk tells of its name
pub told-given : (told : Option (Option (List ℕ))) (left : Option (List ℕ)) (content : List ℕ) → GivesInput told left
    → Tells left content
    → Tells told (Some content)
told-given told left content given had = Tells-from_left told left content given.stands given.tells had

-- what the configuration says is what the desk tells of
pub says-issuer : (seen : Seen) (config : List ℕ) (issuer : Setup)
    → IsConfigured (seen.desk.tells config) (Ok issuer) → SaysIssuer seen config issuer
says-issuer seen config issuer said = record { content = said.content; held = said.held; says = said.says }

-- what a status says of how the run ended
pub ends-as : (ways : Ways) (seen : Seen) (status : ℕ) (ending : Ending) → status ≡ status_of ending
    → EndsBy ways seen ending → Ends ways status seen
ends-as ways seen status ending is ends = record { ending = ending; status_is = is; ends_by = ends }

-- the sink was given the last line of a run that stops at once
abbrev pub StopsAtOnce : Seen → Stop → Ending → Type 0
StopsAtOnce seen stop ending =
    GivesStop seen.sink.held_before seen.sink.held_after seen.sink.faults_before seen.sink.faults_after stop ending

module _ (ways : Ways) (seen : Seen) where
  -- ---- the last line

  -- a run that stops: its answers were written, and then its last line, or a front of it
  pub ends_by_stop : (held : Option (List ℕ)) (faults : ℕ) (stop : Stop) (ending : Ending) (answers : List ℕ)
      → ways.Stops stop (answers ++ stop_text stop) → Appends seen.sink.held_before held answers
      → seen.sink.faults_before ≤ faults
      → GivesStop held seen.sink.held_after faults seen.sink.faults_after stop ending → EndsBy ways seen ending
  ends_by_stop held faults stop ending answers cause written earlier stopping =
      ⊎_elim
      (λ whole.
      subst (EndsBy ways seen) (sym whole.0) (
        answers ++ stop_text stop,
        cause,
        Appends-trans seen.sink.held_before held seen.sink.held_after answers
            (stop_text stop) written whole.1,
      ))
      (λ front.
      let failed : CountsFaults faults seen.sink.faults_after true =
      subst (λ e. CountsFaults faults seen.sink.faults_after (is_broken e)) front.0 stopping.count in
      subst (EndsBy ways seen) (sym front.0)
      (record {
        rose = Rose-since seen.sink.faults_before faults seen.sink.faults_after earlier failed.counted;
        text = answers ++ stop_text stop;
        due = inl (stop, cause);
        front =
            AppendsFront-after seen.sink.held_before held seen.sink.held_after answers (stop_text stop) written front.1;
      }))
      stopping.stops

  -- a run that stops before it answers a line
  pub ends_at_once : (stop : Stop) (ending : Ending) → ways.Stops stop (stop_text stop)
      → StopsAtOnce seen stop ending → EndsBy ways seen ending
  ends_at_once stop ending cause stopping =
      ends_by_stop seen.sink.held_before seen.sink.faults_before stop ending [] cause
      (Appends-nil seen.sink.held_before) (omega arith) stopping

  -- ---- a run that writes one text

  -- the text was written, or a prefix of it
  pub ends_by_text : (ending : Ending) (text : List ℕ) → ways.IsDone text → ways.IsDue text
      → GivesText seen.sink.held_before seen.sink.held_after seen.sink.faults_before seen.sink.faults_after text ending
      → EndsBy ways seen ending
  ends_by_text ending text done due gives =
      ⊎_elim
      (λ whole. subst (EndsBy ways seen) (sym whole.0) (text, done, whole.1))
      (λ prefix.
      let failed : CountsFaults seen.sink.faults_before seen.sink.faults_after true =
      subst (λ e. CountsFaults seen.sink.faults_before seen.sink.faults_after (is_broken e)) prefix.0 gives.count in
      subst (EndsBy ways seen) (sym prefix.0)
      (record { rose = failed.counted; text = text; due = inr due; front = prefix.1 }))
      gives.written

-- ---- a run that gives no issuer

module _ (config : List ℕ) (seen : Seen) (ways : Ways)
    (stops : (stop : Stop) (text : List ℕ) → StopsAtConfig config seen stop text → ways.Stops stop text) where
  by-config : (ending : Ending) → EndsBy (ways_to_give_no_issuer config seen) seen ending → EndsBy ways seen ending
  by-config Done ends = absurd ends.1
  by-config (Stopped stop) ends = (ends.0, stops stop ends.0 ends.1, ends.2)
  by-config WriteFault ends = record {
    rose = ends.rose;
    text = ends.text;
    due = ⊎_elim (λ stopped. inl (stopped.0, stops stopped.0 ends.text stopped.1)) (λ due. absurd due) ends.due;
    front = ends.front;
  }

  -- it is a way to end of each command with this configuration
  pub ends_at_config : (status : ℕ) → Ends (ways_to_give_no_issuer config seen) status seen → Ends ways status seen
  ends_at_config status ends =
      record { ending = ends.ending; status_is = ends.status_is; ends_by = by-config ends.ending ends.ends_by }

-- ---- a run whose journals aren't loaded

-- why there is no host, by what the desk told and counted before
pub no_host-since : (issuer : Setup) (journal : List ℕ) (logs other : Logged) (before mid after : ℕ)
    (last : Option FailedCall) (journals : SeenJournals)
    (cause : Stop) → other ≡ logs → mid ≡ before
    → GivesNoHost issuer journal other (record { before = mid; after = after; last = last }) journals cause
    → GivesNoHost issuer journal logs (record { before = before; after = after; last = last }) journals cause
no_host-since issuer journal logs other before mid after last journals cause told stood none =
    subst (λ (n : ℕ). GivesNoHost issuer journal logs (record { before = n; after = after; last = last }) journals
    cause)
    stood
    (subst (λ (l : Logged). GivesNoHost issuer journal l (record { before = mid; after = after; last = last }) journals
    cause) told none)

-- the journals gave no host, by what the desk told and counted before
pub ends_unloaded : (config journal : List ℕ) (seen : Seen) (ways : Ways)
    → ((stop : Stop) (text : List ℕ) → HasNoHost config journal seen stop text → ways.Stops stop text)
    → (issuer : Setup) (ending : Ending) → SaysIssuer seen config issuer
    → (other : Logged) (mid : ℕ) (journals : SeenJournals) (cause : Stop)
    → is_some seen.config ≡ true → is_some seen.requests ≡ false → seen.journals ≡ journals → other ≡ seen.desk.logs
    → mid ≡ seen.desk.faults_before
    → GivesNoHost issuer journal other (record
    { before = mid; after = seen.desk.faults_after; last = seen.desk.last_fault }) journals cause
    → LeaveJournals journal other journals → StopsAtOnce seen cause ending → EndsBy ways seen ending
ends_unloaded config journal seen ways stops issuer ending said other mid journals cause with_config no_requests same
    told stood none left stopping =
    let logs = seen.desk.logs in
    ends_at_once ways seen cause ending
    (stops cause (stop_text cause) (record {
      issuer = issuer;
      said = said;
      config_is = with_config;
      requests_is = no_requests;
      cause = subst (λ (js : SeenJournals). GivesNoHost issuer journal logs
          (record { before = seen.desk.faults_before; after = seen.desk.faults_after; last = seen.desk.last_fault }) js
          cause) (sym same)
          (no_host-since issuer journal logs other seen.desk.faults_before mid seen.desk.faults_after
          seen.desk.last_fault journals cause told stood none);
      left = subst (LeaveJournals journal logs) (sym same)
          (subst (λ (l : Logged). LeaveJournals journal l journals) told left);
      last = refl;
    }))
    stopping
