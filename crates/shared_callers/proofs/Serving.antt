-- The lines and answers of the lanes' callers after each step, and that their passes stay seated.
use Rattle.std.proofs.Common.{◌≡◌, ℕ, ◌+◌, ◌<◌, List, [], ◌∷◌, ◌++◌, length, take, map, Some}
use Rattle.std.proofs.Common.{All, get_or, refl, sym, ap, subst, ◌∙◌, arith}
use Rattle.std.proofs.lemmas.List.{length-map, map-append, append_cancel_left, take_more}
use Rattle.std.proofs.lemmas.List.Folds.{flat_map-map}
use Rattle.std.proofs.lemmas.Option.{slice_get-get_or, slice_get_within, get_or_from_slice_get}
use Rattle.std.specs.List.{slice_get, flat_map}
use Rattle.issuer_base.specs.declared.answer.Answer.{Answer}
use Rattle.issuer_base.specs.declared.outside.store.Store.{Ghosts}
use Rattle.issuer_setup.specs.IssuerSetup.{Setup}
use Rattle.shared_seats.specs.SeatNames.{IsWhole}
use Rattle.shared_seats.specs.declared.seat_name.SeatName.{SeatName}
use Rattle.shared_seats.proofs.ManySeats.{flat_map-kept}
use Rattle.claim_words.specs.declared.view.ClaimView.{ClaimView}
use Rattle.turn_book.specs.declared.logs.Log.{Log}
use Rattle.turn_book.specs.declared.view.TurnView.{TurnView}
use Rattle.shared_shards.specs.declared.logs.LogItem.{LogItem}
use Rattle.shared_shards.specs.declared.logs.LogHead.{LogHead}
use Rattle.line_checks.specs.Reading.{reading}
use Rattle.shared_laws.specs.Authorising.{Authorises}
use Rattle.answer_text.specs.AnswerText.{printed}
use Rattle.host_calls.specs.Passes.{claims_of, logs_of, IsFree}
use Rattle.host_calls.specs.declared.host.Host.{Host}
use Rattle.host_calls.specs.declared.pass.Pass.{Pass}
use Rattle.host_loading.proofs.Places.{choose, read-within}
use Rattle.shared_laws.specs.Callers.{Caller, AuthorisesAll, IsCaller}
use Rattle.shared_laws.specs.Dealing.{every, HaveTurns}
use Rattle.shared_laws.proofs.Every.{left, every-append}
use Rattle.shared_laws.proofs.HavingTurns.{some-same, turns-answered}
use Rattle.shared_laws.proofs.Merged.{left-alike, merged}
use Rattle.shared_laws.proofs.MoreLines.{calls-more}
use Rattle.shared_callers.specs.OneLane.{waiting_lines, answer_texts, lane_rooms, passes_of, HadLines, HaveAllHad, LaneAnswers, LanesAnswer}
use Rattle.shared_callers.specs.Seated.{AreSeated}
use Rattle.shared_callers.specs.declared.lane.Lane.{Lane}
use Rattle.shared_callers.proofs.Lists.{all-at, at-all, every-map, maps-at, maps-from, maps-long}

-- the lane's pass
abbrev pub pass_of : Lane → Pass
pass_of lane = lane.pass

-- ---- lanes whose passes are the same

-- the lane that had the same pass
lane-before : (old new : List Lane) (number : ℕ) (lane : Lane) → passes_of new ≡ passes_of old → slice_get new number ≡ Some lane
    → (before : Lane) × (slice_get old number ≡ Some before) × (before.pass ≡ lane.pass)
lane-before old new number lane same is = maps-at pass_of pass_of new old same number lane is

pub same-length : (old new : List Lane) → passes_of new ≡ passes_of old → length new ≡ length old
same-length old new same = maps-long pass_of pass_of new old same

pub had-alike : (issuer : Setup) (opening : List (Log LogItem LogHead)) (old new : List Lane) (lines : List (List ℕ)) (answers : List Answer)
    → passes_of new ≡ passes_of old → HaveAllHad issuer opening old lines answers → HaveAllHad issuer opening new lines answers
had-alike issuer opening old new lines answers same had number lane is =
    let before = lane-before old new number lane same is in
    subst (λ (pass : Pass). HadLines issuer opening pass (every (length new) number lines) (every (length new) number answers)) before.2
    (subst (λ count. HadLines issuer opening before.0.pass (every count number lines) (every count number answers)) (sym (same-length old new same))
    (had number before.0 before.1))

module _ {S : Type 0} {G : Ghosts S} (host : Host S G) where
  pub free-alike : (old new : List Lane) → passes_of new ≡ passes_of old → All (λ (lane : Lane). IsFree host lane.pass) old
      → All (λ (lane : Lane). IsFree host lane.pass) new
  free-alike old new same free =
      all-at (λ (lane : Lane). IsFree host lane.pass) new (λ number lane is.
      let before = lane-before old new number lane same is in
      subst (IsFree host) before.2 (at-all (λ (lane : Lane). IsFree host lane.pass) old number before.0 free before.1))

module _ {S : Type 0} {G : Ghosts S} (host : Host S G) (first : Pass) where
  pub seated-alike : (old new : List Lane) → passes_of new ≡ passes_of old → AreSeated host first old → AreSeated host first new
  seated-alike old new same seated =
      let names : Pass → List SeatName = λ pass. (claims_of pass).names in
      let all_names : flat_map (λ (lane : Lane). names lane.pass) old ≡ flat_map (λ (lane : Lane). names lane.pass) new =
      sym (flat_map-map names pass_of old) ∙ ap (flat_map names) (sym same) ∙ flat_map-map names pass_of new in
      record {
        first_free = seated.first_free;
        untouched = seated.untouched;
        opened = seated.opened;
        free = free-alike host old new same seated.free;
        whole = subst (λ (others : List SeatName). IsWhole ((claims_of first).names ++ others)) all_names seated.whole;
      }

  -- ---- lanes that answered

  pub seated-answered : (old new : List Lane) → LanesAnswer host old new → AreSeated host first old → AreSeated host first new
  seated-answered old new answered seated =
      let names : Lane → List SeatName = λ lane. (claims_of lane.pass).names in
      let before : (number : ℕ) (lane : Lane) → slice_get new number ≡ Some lane → LaneAnswers host (get_or old number lane) lane =
      λ number lane is.
      let within = slice_get_within new number lane is in
      answered.each number (get_or old number lane) lane (slice_get-get_or old number lane (omega (arith, within, answered.count_is))) is in
      let all_names : flat_map names new ≡ flat_map names old =
      flat_map-kept names old new answered.count_is (λ number d below.
      (answered.each number (get_or old number d) (get_or new number d) (slice_get-get_or old number d below)
      (slice_get-get_or new number d (omega (arith, below, answered.count_is)))).names) in
      record {
        first_free = seated.first_free;
        untouched = seated.untouched;
        opened = seated.opened;
        free = all-at (λ (lane : Lane). IsFree host lane.pass) new (λ number lane is. (before number lane is).free);
        whole = subst (λ (others : List SeatName). IsWhole ((claims_of first).names ++ others)) (sym all_names) seated.whole;
      }

-- more calls, behind the others
pub calls-join : (issuer : Setup) (lines : List (List ℕ)) (answers : List Answer) (claims : ClaimView) (logs : TurnView LogItem LogHead)
    (claims_then : ClaimView) (logs_then : TurnView LogItem LogHead) (more : List (List ℕ)) (told : List Answer) (claims_now : ClaimView)
    (logs_now : TurnView LogItem LogHead) → AuthorisesAll issuer lines answers claims logs claims_then logs_then
    → AuthorisesAll issuer more told claims_then logs_then claims_now logs_now → AuthorisesAll issuer (lines ++ more) (answers ++ told) claims logs claims_now logs_now
calls-join issuer [] [] claims logs claims_then logs_then more told claims_now logs_now (claims_same, logs_same) calls =
    subst (λ (claims : ClaimView). AuthorisesAll issuer more told claims logs claims_now logs_now) claims_same
    (subst (λ (logs : TurnView LogItem LogHead). AuthorisesAll issuer more told claims_then logs claims_now logs_now) logs_same calls)
calls-join issuer [] (answer ∷ answers) claims logs claims_then logs_then more told claims_now logs_now before calls = absurd before
calls-join issuer (line ∷ lines) [] claims logs claims_then logs_then more told claims_now logs_now before calls = absurd before
calls-join issuer (line ∷ lines) (answer ∷ answers) claims logs claims_then logs_then more told claims_now logs_now
    (claims_first, logs_first, head, before) calls =
    (claims_first, logs_first, head, calls-join issuer lines answers claims_first logs_first claims_then logs_then more told claims_now logs_now before calls)

-- as many answers as lines
pub calls-length : (issuer : Setup) (lines : List (List ℕ)) (answers : List Answer) (claims : ClaimView) (logs : TurnView LogItem LogHead)
    (claims_now : ClaimView) (logs_now : TurnView LogItem LogHead) → AuthorisesAll issuer lines answers claims logs claims_now logs_now
    → length answers ≡ length lines
calls-length issuer [] [] claims logs claims_now logs_now calls = refl
calls-length issuer [] (answer ∷ answers) claims logs claims_now logs_now calls = absurd calls
calls-length issuer (line ∷ lines) [] claims logs claims_now logs_now calls = absurd calls
calls-length issuer (line ∷ lines) (answer ∷ answers) claims logs claims_now logs_now (claims_first, logs_first, head, calls) =
    omega (arith, calls-length issuer lines answers claims_first logs_first claims_now logs_now calls)

-- one line more of those in a list was answered
pub calls-line : (issuer : Setup) (lines : List (List ℕ)) (place : ℕ) (line : List ℕ) (answers all : List Answer)
    (answer : Answer) (claims : ClaimView) (logs : TurnView LogItem LogHead) (claims_then : ClaimView) (logs_then : TurnView LogItem LogHead)
    (claims_now : ClaimView) (logs_now : TurnView LogItem LogHead) → slice_get lines place ≡ Some line
    → all ≡ answers ++ answer ∷ [] → AuthorisesAll issuer (take place lines) answers claims logs claims_then logs_then
    → Authorises issuer (reading issuer line) claims_then logs_then answer claims_now logs_now
    → AuthorisesAll issuer (take (place + 1) lines) all claims logs claims_now logs_now
calls-line issuer lines place line answers all answer claims logs claims_then logs_then claims_now logs_now at grown calls call =
    let lines_are : take (place + 1) lines ≡ take place lines ++ line ∷ [] =
    take_more lines place line (slice_get_within lines place line at)
    ∙ ap (λ (next : List ℕ). take place lines ++ next ∷ []) (get_or_from_slice_get lines place line line at) in
    subst (λ (lines : List (List ℕ)). AuthorisesAll issuer lines all claims logs claims_now logs_now) (sym lines_are)
    (subst (λ (answers : List Answer). AuthorisesAll issuer (take place lines ++ line ∷ []) answers claims logs claims_now logs_now) (sym grown)
    (calls-more issuer (take place lines) answers claims logs claims_then logs_then line answer claims_now logs_now calls call))

-- a caller that answered more
served-more : (issuer : Setup) (opening : List (Log LogItem LogHead)) (old new : Pass) (lines more : List (List ℕ)) (answers told : List Answer)
    → AuthorisesAll issuer more told (claims_of old) (logs_of old) (claims_of new) (logs_of new) → HadLines issuer opening old lines answers
    → HadLines issuer opening new (lines ++ more) (answers ++ told)
served-more issuer opening old new lines more answers told calls served =
    let caller : Caller = served.caller in
    let its : IsCaller issuer opening caller = served.caller_is in
    record {
      caller = record {
        lines = caller.lines ++ more;
        answers = caller.answers ++ told;
        claims = caller.claims;
        claims_now = claims_of new;
        logs = caller.logs;
        logs_now = logs_of new;
      };
      caller_is = record {
        no_claims = its.no_claims;
        no_found = its.no_found;
        no_tops = its.no_tops;
        no_places = its.no_places;
        opened = its.opened;
        calls =
            calls-join issuer caller.lines caller.answers caller.claims caller.logs (claims_of old) (logs_of old) more told (claims_of new) (logs_of new)
            (subst (λ (claims : ClaimView). AuthorisesAll issuer caller.lines caller.answers caller.claims caller.logs claims (logs_of old)) served.claims_are
            (subst (λ (logs : TurnView LogItem LogHead). AuthorisesAll issuer caller.lines caller.answers caller.claims caller.logs caller.claims_now logs)
            served.logs_are its.calls))
            calls;
      };
      lines_are = ap (λ (lines : List (List ℕ)). lines ++ more) served.lines_are;
      answers_are = ap (λ (answers : List Answer). answers ++ told) served.answers_are;
      claims_are = refl;
      logs_are = refl;
    }

-- ---- answers that are dealt in turns as the lines were

-- each lane has so many answers as lines: they are dealt in turns as the lines were
answered-turns : {L A B : Type 0} (items_of : L → List A) (lanes : List L) (told : List (List B)) (before items : List A) (answers : List B)
    → 0 < length lanes → length told ≡ length lanes → length answers ≡ length before
    → ((number : ℕ) (lane : L) (part : List B) → slice_get lanes number ≡ Some lane → slice_get told number ≡ Some part
    → length part ≡ length (items_of lane))
    → HaveTurns items_of lanes before items
    → (more : List B) × (length more ≡ length items) × HaveTurns (λ (part : List B). part) told answers more
answered-turns {L} {A} {B} items_of lanes told before items answers some long as_many same have =
    let count : ℕ = length lanes in
    let parts : ℕ → List B = λ number. get_or told number [] in
    let fit : (number : ℕ) → number < count → length (parts number) ≡ length (every count (left count number answers) items) = λ number below.
    let lane : (lane : L) × (slice_get lanes number ≡ Some lane) = read-within lanes number below in
    let part_is : slice_get told number ≡ Some (parts number) = slice_get-get_or told number [] (omega (arith, below, long)) in
    let mine : every count (left count number before) items ≡ items_of lane.0 =
    append_cancel_left (every count number before) (every count (left count number before) items) (items_of lane.0)
    (sym (every-append count number before items) ∙ have number lane.0 lane.1) in
    same number lane.0 (parts number) lane.1 part_is ∙ sym (ap length mine)
    ∙ ap (λ skip. length (every count skip items)) (sym (left-alike count number answers before as_many)) in
    let all = merged count some items answers parts fit in (
      all.0,
      all.1,
      λ number part part_is.
          let within = slice_get_within told number part part_is in
          let below : number < count = omega (arith, long, within) in
          let here : parts number ≡ part = some-same (parts number) part (sym (slice_get-get_or told number [] within) ∙ part_is) in
          subst (λ count. every count number (answers ++ all.0) ≡ every count number answers ++ part) (sym long)
          (all.2 number below ∙ ap (λ (part : List B). every count number answers ++ part) here),
    )

module _ {S : Type 0} {G : Ghosts S} (host : Host S G) (old new : List Lane) (answered : LanesAnswer host old new) where
  -- these are the lane's answers
  record Told (lane after : Lane) (answers : List Answer) : Type 0 where
    calls : AuthorisesAll host.issuer (waiting_lines lane) answers (claims_of lane.pass) (logs_of lane.pass) (claims_of after.pass) (logs_of after.pass)
    texts_are : answer_texts after ≡ map printed answers

  told-by : (number : ℕ) (lane after : Lane) → slice_get old number ≡ Some lane → slice_get new number ≡ Some after
      → (answers : List Answer) × Told lane after answers
  told-by number lane after lane_is after_is =
      let its = answered.each number lane after lane_is after_is in (its.answers, record { calls = its.calls; texts_are = its.texts_are })

  as-many : (lane after : Lane) (answers : List Answer) → Told lane after answers → length answers ≡ length (waiting_lines lane)
  as-many lane after answers told =
      calls-length host.issuer (waiting_lines lane) answers (claims_of lane.pass) (logs_of lane.pass) (claims_of after.pass) (logs_of after.pass) told.calls

  -- the answers of each lane
  told-lists : (told : List (List Answer)) × (length told ≡ length old)
      × ((number : ℕ) (lane : Lane) (part : List Answer) → slice_get old number ≡ Some lane → slice_get told number ≡ Some part
      → (after : Lane) → slice_get new number ≡ Some after → Told lane after part)
  told-lists = choose old (λ number lane part. (after : Lane) → slice_get new number ≡ Some after → Told lane after part) (λ number lane lane_is.
      let within = slice_get_within old number lane lane_is in
      let now : (after : Lane) × (slice_get new number ≡ Some after) = read-within new number (omega (arith, within, answered.count_is)) in
      let its = told-by number lane now.0 lane_is now.1 in (
        its.0,
        λ after after_is. subst (λ (after : Lane). Told lane after its.0) (some-same now.0 after (sym now.1 ∙ after_is)) its.1,
      ))

  -- the room is as before
  pub rooms-answered : lane_rooms new ≡ lane_rooms old
  rooms-answered = maps-from (λ (lane : Lane). lane.lines.room) (λ (lane : Lane). lane.lines.room) new old answered.count_is
      (λ number after lane after_is lane_is. (answered.each number lane after lane_is after_is).room)

  module _ (some : 0 < length old) (lines waiting : List (List ℕ)) (have : HaveTurns waiting_lines old lines waiting) where
    -- so the texts are
    pub texts-answered : (texts : List (List ℕ)) × (length texts ≡ length waiting) × HaveTurns answer_texts new lines texts
    texts-answered = turns-answered waiting_lines answer_texts old new lines waiting lines some answered.count_is refl
        (λ number lane after lane_is after_is.
        let its = told-by number lane after lane_is after_is in
        ap (λ (texts : List (List ℕ)). length texts) its.1.texts_are ∙ length-map its.0 printed ∙ as-many lane after its.0 its.1) have

    module _ (answers : List Answer) (told : length answers ≡ length lines) where
      merges : (more : List Answer) × (length more ≡ length waiting) × HaveTurns (λ (part : List Answer). part) told-lists.0 answers more
      merges = answered-turns waiting_lines old told-lists.0 lines waiting answers some told-lists.1 told (λ number lane part lane_is part_is.
          let within = slice_get_within old number lane lane_is in
          let now : (after : Lane) × (slice_get new number ≡ Some after) = read-within new number (omega (arith, within, answered.count_is)) in
          as-many lane now.0 part (told-lists.2 number lane part lane_is part_is now.0 now.1)) have

      -- the answers to the lines that waited
      pub more-answers : List Answer
      more-answers = merges.0

      pub more-long : length more-answers ≡ length waiting
      unfolding more-answers
      more-long = merges.1

      -- those of one lane
      lane-told : (number : ℕ) (after : Lane) → slice_get new number ≡ Some after
          → (lane : Lane) × (slice_get old number ≡ Some lane) × (part : List Answer) × Told lane after part
          × (every (length new) number (answers ++ more-answers) ≡ every (length new) number answers ++ part)
      unfolding more-answers
      lane-told number after after_is =
          let within = slice_get_within new number after after_is in
          let lane : (lane : Lane) × (slice_get old number ≡ Some lane) = read-within old number (omega (arith, within, answered.count_is)) in
          let part : (part : List Answer) × (slice_get told-lists.0 number ≡ Some part) =
          read-within told-lists.0 number (omega (arith, within, answered.count_is, told-lists.1)) in (
            lane.0,
            lane.1,
            part.0,
            told-lists.2 number lane.0 part.0 lane.1 part.1 after after_is,
            subst (λ count. every count number (answers ++ more-answers) ≡ every count number answers ++ part.0) (told-lists.1 ∙ sym answered.count_is)
                (merges.2 number part.0 part.1),
          )

      pub more-texts : HaveTurns answer_texts new (map printed answers) (map printed more-answers)
      more-texts number after after_is =
          let its = lane-told number after after_is in
          let count : ℕ = length new in
          ap (every count number) (sym (map-append printed answers more-answers))
          ∙ every-map printed count number (answers ++ more-answers)
          ∙ ap (λ (answers : List Answer). map printed answers) its.4
          ∙ map-append printed (every count number answers) its.2
          ∙ ap (λ (texts : List (List ℕ)). texts ++ map printed its.2) (sym (every-map printed count number answers))
          ∙ ap (λ (texts : List (List ℕ)). every count number (map printed answers) ++ texts) (sym its.3.texts_are)

      pub had-more : (opening : List (Log LogItem LogHead)) → HaveAllHad host.issuer opening old lines answers
          → HaveAllHad host.issuer opening new (lines ++ waiting) (answers ++ more-answers)
      had-more opening had number after after_is =
          let its = lane-told number after after_is in
          let before : Lane = its.0 in
          let all = served-more host.issuer opening before.pass after.pass (every (length old) number lines) (waiting_lines before)
          (every (length old) number answers) its.2 its.3.calls (had number before its.1) in
          let all_lines : every (length old) number lines ++ waiting_lines before ≡ every (length new) number (lines ++ waiting) =
          sym (have number before its.1) ∙ ap (λ count. every count number (lines ++ waiting)) (sym answered.count_is) in
          let all_answers : every (length old) number answers ++ its.2 ≡ every (length new) number (answers ++ more-answers) =
          ap (λ count. every count number answers ++ its.2) (sym answered.count_is) ∙ sym its.4 in
          subst (λ (lines : List (List ℕ)). HadLines host.issuer opening after.pass lines (every (length new) number (answers ++ more-answers))) all_lines
          (subst (HadLines host.issuer opening after.pass (every (length old) number lines ++ waiting_lines before)) all_answers all)
