-- If no log has a fault, each ATC that lines ask for is settled.
use Rattle.std.proofs.Common.{◌≡◌, ◌≢◌, ◌⊎◌, ℕ, zero, suc, ◌%◌, ◌<◌, ◌≤◌, List, [], ◌∷◌, length, true, ◌&&◌, eqb, Some}
use Rattle.std.proofs.Common.{Result, Ok, Err, refl, sym, ap, ◌∙◌, subst, inl, inr, arith}
use Rattle.std.proofs.lemmas.Bool.{cases_Bool, cases_lt, and_from, and_parts, eqb-true, eq-eqb, true≢false, le-leb, lt-ltb}
use Rattle.std.proofs.lemmas.Option.{same_Some, none-some, slice_get_within}
use Rattle.std.specs.List.{slice_get}
use Rattle.issuer_base.specs.declared.answer.Answer.{Answer}
use Rattle.issuer_base.specs.declared.answer.Answer.TheVariants.{Fresh, Kept, Queued, Set, Refused}
use Rattle.issuer_base.specs.declared.answer.Refusal.{Refusal}
use Rattle.issuer_base.specs.declared.answer.Refusal.TheVariants.{Below, Taken, Pending, StoreFault}
use Rattle.issuer_base.specs.declared.answer.Reply.{Reply}
use Rattle.issuer_base.specs.declared.entry.Entry.{Entry}
use Rattle.issuer_base.specs.declared.entry.Entry.TheVariants.{Decided, Queued as IsQueued, Status as IsStatus}
use Rattle.issuer_base.specs.declared.request.Request.{Request}
use Rattle.card_history.specs.declared.decision.Asked.{Asked}
use Rattle.card_history.specs.declared.decision.Asked.TheVariants.{Decide, Queue, Status}
use Rattle.issuer_base.specs.CardNames.{CardName, named}
use Rattle.card_history.specs.Records.{card_of}
use Rattle.issuer_setup.specs.CardList.{number_of}
use Rattle.issuer_setup.specs.IssuerSetup.{Setup, shard_of}
use Rattle.line_checks.specs.Reading.{reading}
use Rattle.shared_seats.specs.Totals.{how_many, one_if}
use Rattle.shard_book.specs.Answering.{is_store_fault}
use Rattle.turn_book.specs.declared.logs.Log.{Log}
use Rattle.turn_book.specs.Logs.{items_at}
use Rattle.turn_book.specs.TurnRule.{between}
use Rattle.shared_shards.specs.declared.logs.LogItem.{LogItem}
use Rattle.shared_shards.specs.declared.logs.LogHead.{LogHead}
use Rattle.shared_shards.specs.ShardLogs.{records_of, faults_of}
use Rattle.shared_laws.specs.OpeningLogs.{is_decided}
use Rattle.one_caller.proofs.Asked.{asks-request}
use Rattle.one_caller.proofs.LegalBooks.{goes-stays}
use Rattle.host_loading.proofs.Places.{read-within}
use Rattle.shared_laws.specs.Callers.{Caller}
use Rattle.shared_laws.specs.Explained.{IsDecidedOn, history_at, Explains}
use Rattle.shared_laws.specs.OwnPlaces.{is_record_at, is_for_shard, faults_reported}
use Rattle.shared_laws.specs.Settled.{TellNoFault, is_below_or_pending}
use Rattle.shared_laws.proofs.CallersAnswers.{AreCallers}
use Rattle.shared_laws.proofs.CallersAnswers.{IsCallersAnswerOn, IsCallersDecidedNow, IsCallersLeft, AreCallersSettled}
use Rattle.shared_laws.proofs.Decisions.{numbered-decided, decided-numbered, numbered-tells, one-true}
use Rattle.shared_laws.proofs.EachPlace.{each-place, each-fault}
use Rattle.shared_laws.proofs.Lists.{part-within, some-part}
use Rattle.shared_laws.proofs.MoreLines.{call-at}
use Rattle.shared_laws.proofs.OneRun.{callers-explained}
use Rattle.shared_laws.proofs.RightlyPending.{rightly-pending, fault-passes}
use Rattle.shared_laws.proofs.Seen.{home-below, records-go_on}

-- ---- no fault

-- an answer that the store failed is one of those that are counted for the shard of its card
told-one : (issuer : Setup) (shard : ℕ) (lines : List (List ℕ)) (answers : List Answer) (index : ℕ) (line : List ℕ) → slice_get lines index ≡ Some line
    → slice_get answers index ≡ Some (Refused StoreFault) → is_for_shard issuer shard (reading issuer line) ≡ true → 0 < faults_reported issuer shard lines answers
told-one issuer shard [] answers index line line_is answer_is its = absurd (none-some line line_is)
told-one issuer shard (first ∷ lines) [] index line line_is answer_is its = absurd (none-some (Refused StoreFault) answer_is)
told-one issuer shard (first ∷ lines) (told ∷ answers) zero line line_is answer_is its =
    let same_line = same_Some first line line_is in
    let same_answer = same_Some told (Refused StoreFault) answer_is in
    let test : (is_for_shard issuer shard (reading issuer first) && is_store_fault told) ≡ true =
    and_from (is_for_shard issuer shard (reading issuer first)) (is_store_fault told)
    (ap (λ (line : List ℕ). is_for_shard issuer shard (reading issuer line)) same_line ∙ its) (ap is_store_fault same_answer) in
    let one = ap one_if test in
    omega (arith, one)
told-one issuer shard (first ∷ lines) (told ∷ answers) (suc index) line line_is answer_is its =
    let later = told-one issuer shard lines answers index line line_is answer_is its in
    omega (arith, later)

-- what passes is for a card of one of the issuer's shards
asked-home : (issuer : Setup) (asked : Asked) → 0 < issuer.shards → (shard : ℕ) × (shard < issuer.shards) × (is_for_shard issuer shard (Ok asked) ≡ true)
asked-home issuer (Decide request) some =
    let home : ℕ = shard_of issuer (card_of request) in
    (home, home-below issuer.shards (number_of (card_of request) issuer.cards) some, eq-eqb home home refl)
asked-home issuer (Queue pan psn command) some =
    let home : ℕ = shard_of issuer (named pan psn) in
    (home, home-below issuer.shards (number_of (named pan psn) issuer.cards) some, eq-eqb home home refl)
asked-home issuer (Status pan psn status) some =
    let home : ℕ = shard_of issuer (named pan psn) in
    (home, home-below issuer.shards (number_of (named pan psn) issuer.cards) some, eq-eqb home home refl)

-- ---- a line by its answer

-- a line whose answer tells of the place of a decision asks for just that decision
record IsFreshFor (says : Result Asked Refusal) (request : Request) (answer : Answer) : Type 0 where
  says_is : says ≡ Ok (Decide request)
  shard : ℕ
  place : ℕ
  reply : Reply
  answer_is : answer ≡ Fresh shard place reply

given-fresh : (answers : List Answer) (index : ℕ) (answer : Answer) (shard place : ℕ) (reply : Reply) → slice_get answers index ≡ Some answer
    → answer ≡ Fresh shard place reply → slice_get answers index ≡ Some (Fresh shard place reply)
given-fresh answers index answer shard place reply is same = is ∙ ap Some same

module _ (issuer : Setup) (first last : ℕ → List Entry) (home place : ℕ) (request : Request) (reply : Reply)
    (there : slice_get (last home) place ≡ Some (Decided request reply)) where
  -- what stands at the place that an answer tells of
  same-entry : (entry : Entry) (shard at here : ℕ) → at ≡ shard → slice_get (last shard) here ≡ Some entry → (eqb at home && eqb here place) ≡ true
      → entry ≡ Decided request reply
  same-entry entry shard at here at_is is its =
      let both = and_parts (eqb at home) (eqb here place) its in
      let same_shard : shard ≡ home = sym at_is ∙ eqb-true at home both.0 in
      let moved : slice_get (last home) place ≡ Some entry =
      subst (λ (here : ℕ). slice_get (last home) here ≡ Some entry) (eqb-true here place both.1)
      (subst (λ (shard : ℕ). slice_get (last shard) here ≡ Some entry) same_shard is) in
      same_Some entry (Decided request reply) (sym moved ∙ there)

  fresh-for : (says : Result Asked Refusal) (answer : Answer) → Explains issuer first last says answer → is_record_at home place answer ≡ true
      → IsFreshFor says request answer
  fresh-for (Err refusal) answer explains its = absurd (true≢false (sym its ∙ ap (is_record_at home place) explains))
  fresh-for (Ok (Decide asked)) (Fresh at here given) (at_is, past, is) its =
      let entry = same-entry (Decided asked given) (shard_of issuer (card_of asked)) at here at_is is its in
      let same : asked ≡ request = let e : Decided asked given ≡ Decided request reply = entry in cc in
      record { says_is = ap (λ (request : Request). Ok (Decide request)) same; shard = at; place = here; reply = given; answer_is = refl }
  fresh-for (Ok (Decide asked)) (Kept at here given) explains its = absurd (true≢false (sym its))
  fresh-for (Ok (Decide asked)) (Queued at here) explains its = absurd explains
  fresh-for (Ok (Decide asked)) (Set at here) explains its = absurd explains
  fresh-for (Ok (Decide asked)) (Refused refusal) explains its = absurd (true≢false (sym its))
  fresh-for (Ok (Queue pan psn command)) (Queued at here) (at_is, past, is) its =
      let entry = same-entry (IsQueued pan psn command) (shard_of issuer (named pan psn)) at here at_is is its in
      absurd (let e : IsQueued pan psn command ≡ Decided request reply = entry in cc)
  fresh-for (Ok (Queue pan psn command)) (Fresh at here given) explains its = absurd explains
  fresh-for (Ok (Queue pan psn command)) (Kept at here given) explains its = absurd explains
  fresh-for (Ok (Queue pan psn command)) (Set at here) explains its = absurd explains
  fresh-for (Ok (Queue pan psn command)) (Refused refusal) explains its = absurd (true≢false (sym its))
  fresh-for (Ok (Status pan psn status)) (Set at here) (at_is, past, is) its =
      let entry = same-entry (IsStatus pan psn status) (shard_of issuer (named pan psn)) at here at_is is its in
      absurd (let e : IsStatus pan psn status ≡ Decided request reply = entry in cc)
  fresh-for (Ok (Status pan psn status)) (Fresh at here given) explains its = absurd explains
  fresh-for (Ok (Status pan psn status)) (Kept at here given) explains its = absurd explains
  fresh-for (Ok (Status pan psn status)) (Queued at here) explains its = absurd explains
  fresh-for (Ok (Status pan psn status)) (Refused refusal) explains its = absurd (true≢false (sym its))

-- a request on whose ATC nothing is decided is told that it is too old or pending, where the store didn't fail
answered-left : (issuer : Setup) (first last : ℕ → List Entry) (request : Request) (answer : Answer) → Explains issuer first last (Ok (Decide request)) answer
    → answer ≢ Refused StoreFault → (IsDecidedOn (card_of request) request.atc (last (shard_of issuer (card_of request))) → ⊥)
    → is_below_or_pending answer ≡ true
answered-left issuer first last request (Fresh at place reply) (at_is, past, is) no_fault none =
    absurd (none (record { place = place; request = request; reply = reply; record_is = is; card_is = refl; counter_is = refl }))
answered-left issuer first last request (Kept at place reply) (at_is, is) no_fault none =
    absurd (none (record { place = place; request = request; reply = reply; record_is = is; card_is = refl; counter_is = refl }))
answered-left issuer first last request (Refused (Taken at place)) (at_is, taken) no_fault none = absurd (none (record {
  place = place;
  request = taken.other;
  reply = taken.reply;
  record_is = taken.record_is;
  card_is = taken.card_is;
  counter_is = taken.counter_is;
}))
answered-left issuer first last request (Refused (Below top)) explains no_fault none = refl
answered-left issuer first last request (Refused Pending) explains no_fault none = refl
answered-left issuer first last request (Refused StoreFault) explains no_fault none = absurd (no_fault refl)
answered-left issuer first last request _ explains no_fault none = absurd explains

left-cases : (answer : Answer) → is_below_or_pending answer ≡ true → ((top : ℕ) × (answer ≡ Refused (Below top))) ⊎ (answer ≡ Refused Pending)
left-cases (Refused (Below top)) is = inl (top, refl)
left-cases (Refused Pending) is = inr refl
left-cases _ is = absurd (cc)

-- ---- all lines

module _ (issuer : Setup) (opening logs : List (Log LogItem LogHead)) (callers : List Caller) (are : AreCallers issuer opening logs callers) where
  explained : (number index : ℕ) (caller : Caller) (line : List ℕ) (answer : Answer) → slice_get callers number ≡ Some caller
      → slice_get caller.lines index ≡ Some line → slice_get caller.answers index ≡ Some answer
      → Explains issuer (history_at opening) (history_at logs) (reading issuer line) answer
  explained = (callers-explained issuer opening logs callers are).explained

  -- the decision at a place past the opening log is some line's
  made-now : (card : CardName) (counter place : ℕ) (request : Request) (reply : Reply)
      → slice_get (history_at logs (shard_of issuer card)) place ≡ Some (Decided request reply) → card_of request ≡ card → request.atc ≡ counter
      → length (history_at opening (shard_of issuer card)) ≤ place → IsCallersDecidedNow issuer callers card counter
  made-now card counter place request reply there card_is counter_is past =
      let home : ℕ = shard_of issuer card in
      let below : home < issuer.shards = home-below issuer.shards (number_of card issuer.cards) are.some in
      let behind = le-leb (length (history_at opening home)) place past in
      let within = lt-ltb place (length (history_at logs home)) (slice_get_within (history_at logs home) place (Decided request reply) there) in
      let once : between (length (history_at opening home)) (length (history_at logs home)) place ≡ 1 = λ i. one_if (behind i && within i) in
      let all = each-place issuer opening logs callers are home below place in
      let (number, caller, caller_is, some) =
      some-part (λ (caller : Caller). how_many (is_record_at home place) caller.answers) callers (omega (arith, all, once)) in
      let (index, answer, answer_is, one) = some-part (λ (answer : Answer). one_if (is_record_at home place answer)) caller.answers some in
      let call = call-at issuer caller.lines caller.answers caller.claims caller.logs caller.claims_now caller.logs_now
      (are.each number caller caller_is).calls index answer answer_is in
      let fresh = fresh-for issuer (history_at opening) (history_at logs) home place request reply there (reading issuer call.line) answer
      (explained number index caller call.line answer caller_is call.line_is answer_is) (one-true (is_record_at home place answer) one) in
      record {
        shard = fresh.shard;
        place = fresh.place;
        reply = fresh.reply;
        fresh = record {
          number = number;
          caller = caller;
          caller_is = caller_is;
          index = index;
          request = request;
          answered = record {
            line = call.line;
            line_is = call.line_is;
            request_is = fresh.says_is;
            answer_is = given-fresh caller.answers index answer fresh.shard fresh.place fresh.reply answer_is fresh.answer_is;
          };
          card_is = card_is;
          counter_is = counter_is;
        };
      }

  -- a decision was made before the run or in it
  decided-when : (card : CardName) (counter : ℕ) → IsDecidedOn card counter (history_at logs (shard_of issuer card))
      → IsDecidedOn card counter (history_at opening (shard_of issuer card)) ⊎ IsCallersDecidedNow issuer callers card counter
  decided-when card counter has =
      let home : ℕ = shard_of issuer card in
      elim (cases_lt has.place (length (history_at opening home))) [
        | inl before ↦
            let it = read-within (history_at opening home) has.place before in
            let on = records-go_on (items_at opening home) (items_at logs home) (are.opening_front home) in
            let stays = goes-stays (history_at opening home) (history_at logs home) on has.place it.0 it.1 in
            let same : it.0 ≡ Decided has.request has.reply = same_Some it.0 (Decided has.request has.reply) (sym stays ∙ has.record_is) in
            inl (record {
              place = has.place;
              request = has.request;
              reply = has.reply;
              record_is = it.1 ∙ ap Some same;
              card_is = has.card_is;
              counter_is = has.counter_is;
            })
        | inr past ↦
            inr (made-now card counter has.place has.request has.reply has.record_is has.card_is has.counter_is (omega (arith, past)))
      ]

  module _ (plain : TellNoFault issuer logs) where
    no-fault : (number index : ℕ) (caller : Caller) → slice_get callers number ≡ Some caller → slice_get caller.answers index ≢ Some (Refused StoreFault)
    no-fault number index caller caller_is is =
        let passes = fault-passes issuer opening caller (are.each number caller caller_is) index is in
        let (shard, below, its) = asked-home issuer passes.asked are.some in
        let one = told-one issuer shard caller.lines caller.answers index passes.line passes.line_is is
        (ap (is_for_shard issuer shard) passes.asked_is ∙ its) in
        let part = part-within (λ (caller : Caller). faults_reported issuer shard caller.lines caller.answers) callers number caller caller_is in
        let none : length (faults_of (items_at logs shard)) ≡ 0 = ap (λ (counts : List ℕ). length counts) (plain shard below) in
        let exact = each-fault issuer opening logs callers are shard below (omega (arith, none)) in
        omega (arith, one, part, none, exact)

    -- where nothing is decided on an ATC, each line on it is told that it is too old or pending
    each-left : (card : CardName) (counter : ℕ) → (IsDecidedOn card counter (history_at logs (shard_of issuer card)) → ⊥) → (answer : Answer)
        → IsCallersAnswerOn issuer callers card counter answer → is_below_or_pending answer ≡ true
    each-left card counter none answer on =
        let explains = subst (λ (says : Result Asked Refusal). Explains issuer (history_at opening) (history_at logs) says answer) on.answered.request_is
        (explained on.number on.index on.caller on.answered.line answer on.caller_is on.answered.line_is on.answered.answer_is) in
        answered-left issuer (history_at opening) (history_at logs) on.request answer explains
        (λ is. no-fault on.number on.index on.caller on.caller_is (on.answered.answer_is ∙ ap Some is))
        (λ has.
        none (subst (λ (card : CardName). IsDecidedOn card counter (history_at logs (shard_of issuer card))) on.card_is
        (subst (λ counter. IsDecidedOn (card_of on.request) counter (history_at logs (shard_of issuer (card_of on.request)))) on.counter_is has)))

    -- and one of them that it is too old
    one-below : (card : CardName) (counter : ℕ) → (IsDecidedOn card counter (history_at logs (shard_of issuer card)) → ⊥) → (answer : Answer)
        → IsCallersAnswerOn issuer callers card counter answer → (top : ℕ) × IsCallersAnswerOn issuer callers card counter (Refused (Below top))
    one-below card counter none answer on =
        elim (left-cases answer (each-left card counter none answer on)) [
          | inl (top, is) ↦ (top, subst (IsCallersAnswerOn issuer callers card counter) is on)
          | inr pending ↦
              let waits = rightly-pending issuer opening logs callers are on.number on.caller on.caller_is on.index (on.answered.answer_is ∙ ap Some pending) in
              let same_line : waits.answered.line ≡ on.answered.line =
              same_Some waits.answered.line on.answered.line (sym waits.answered.line_is ∙ on.answered.line_is) in
              let same : waits.request ≡ on.request =
              let e : Ok (Decide waits.request) ≡ Ok (Decide on.request) =
              sym waits.answered.request_is ∙ ap (reading issuer) same_line ∙ on.answered.request_is in cc in
              let (given, other, apart) = waits.elsewhere in
              let moved : IsCallersAnswerOn issuer callers card counter given =
              subst (λ (card : CardName). IsCallersAnswerOn issuer callers card counter given) (ap card_of same ∙ on.card_is)
              (subst (λ counter. IsCallersAnswerOn issuer callers (card_of waits.request) counter given)
              (ap (λ (request : Request). request.atc) same ∙ on.counter_is) other) in
              elim (left-cases given (each-left card counter none given moved)) [
                | inl (top, is) ↦ (top, subst (IsCallersAnswerOn issuer callers card counter) is moved)
                | inr again ↦ absurd (apart again)
              ]
        ]

    settled : (card : CardName) (counter number : ℕ) (answer : Answer) → number_of card issuer.cards ≡ Some number
        → number % issuer.shards ≡ shard_of issuer card → IsCallersAnswerOn issuer callers card counter answer
        → IsDecidedOn card counter (history_at opening (shard_of issuer card))
        ⊎ IsCallersDecidedNow issuer callers card counter ⊎ IsCallersLeft issuer callers card counter
    settled card counter number answer number_is home on =
        let items : List LogItem = items_at logs (number % issuer.shards) in
        elim (cases_Bool (is_decided issuer items number counter)) [
          | inl is ↦
              let has = numbered-decided issuer number counter card (records_of items) number_is (decided-numbered issuer number counter items is) in
              elim (decided-when card counter (subst (λ shard. IsDecidedOn card counter (history_at logs shard)) home has)) [
                | inl before ↦ inl before
                | inr now ↦ inr (inl now)
              ]
          | inr undecided ↦
              let none : IsDecidedOn card counter (history_at logs (shard_of issuer card)) → ⊥ = λ has.
              let there = subst (λ shard. slice_get (history_at logs shard) has.place ≡ Some (Decided has.request has.reply)) (sym home) has.record_is in
              let tells = numbered-tells issuer number counter items has.place has.request has.reply there
              (ap (λ (name : CardName). number_of name issuer.cards) has.card_is ∙ number_is) has.counter_is in
              true≢false (sym tells ∙ undecided) in
              let below = one-below card counter none answer on in
              inr (inr (record { each = each-left card counter none; top = below.0; below = below.1 }))
        ]

    pub counters-settled : AreCallersSettled issuer opening callers
    counters-settled = record {
      no_fault = no-fault;
      settled = λ number index caller request answer caller_is answered.
          let known = (asks-request issuer answered.line request answered.request_is).home in
          settled (card_of request) request.atc known.number answer known.number_is known.home (record {
            number = number;
            caller = caller;
            caller_is = caller_is;
            index = index;
            request = request;
            answered = answered;
            card_is = refl;
            counter_is = refl;
          });
    }
