-- The answers of a caller that name a record are as many as its own indices with that record.
use Rattle.std.proofs.Common.{◌≡◌, ◌⊎◌, ℕ, ◌+◌, ◌<◌, List, [], ◌∷◌, ◌++◌, length, Bool, true, false, ◌&&◌, eqb, Option, None, Some}
use Rattle.std.proofs.Common.{Result, refl, sym, ap, ◌∙◌, subst, inl, inr, arith, append_assoc}
use Rattle.std.proofs.lemmas.Bool.{cases_eq, ne_eqb, and_left}
use Rattle.issuer_base.specs.declared.answer.Answer.{Answer}
use Rattle.issuer_base.specs.declared.answer.Answer.TheVariants.{Fresh, Kept, Queued, Set, Refused}
use Rattle.issuer_base.specs.declared.answer.Refusal.{Refusal}
use Rattle.issuer_base.specs.declared.answer.Refusal.TheVariants.{StoreFault}
use Rattle.issuer_base.specs.declared.entry.Entry.{Entry}
use Rattle.card_history.specs.declared.decision.Asked.{Asked}
use Rattle.issuer_setup.specs.IssuerSetup.{Setup}
use Rattle.line_checks.specs.Reading.{reading}
use Rattle.shared_seats.specs.Totals.{one_if, how_many}
use Rattle.claim_words.specs.declared.view.ClaimView.{ClaimView}
use Rattle.turn_book.specs.Logs.{items_at, IsFront}
use Rattle.turn_book.specs.TurnViews.{times}
use Rattle.turn_book.proofs.LogLemmas.{front_trans}
use Rattle.shared_shards.specs.declared.logs.LogItem.{LogItem}
use Rattle.shared_shards.specs.declared.logs.LogItem.TheVariants.{Record, Fault}
use Rattle.shared_shards.specs.ShardLogs.{records_of}
use Rattle.shared_shards.specs.Turned.{log_after, mine_after, AddsFault, IsAdded}
use Rattle.shared_laws.specs.Callers.{AuthorisesAll}
use Rattle.shared_laws.specs.OwnPlaces.{is_record_at}
use Rattle.shared_laws.proofs.CallTurns.{ShardView, Tells, TakesTurn, IsTurnedAway, call-turn, call-sees, calls-see, turn-seen}
use Rattle.shared_laws.proofs.RecordSpots.{spot, front-rest, spot-record, spot-fault}

-- an item that was added to a front stands behind it in the whole
pub added-in : (between items : List LogItem) (item : LogItem) → IsFront (log_after between (Some item)) items
    → (more : List LogItem) × (items ≡ between ++ item ∷ more)
added-in between items item front =
    let rest = front-rest (between ++ item ∷ []) items front in
    (rest.0, rest.1 ∙ append_assoc between (item ∷ []) rest.0)

module _ (items : List LogItem) (shard number : ℕ) where
  -- a turn in this shard or another
  module _ (issuer : Setup) (home : ℕ) (between : List LogItem) (mine : List (ℕ × ℕ)) where
    abbrev Counts : Answer → Option LogItem → Type 0
    Counts answer added =
        one_if (is_record_at shard number answer) + times shard (spot items number) mine ≡ times shard (spot items number) (mine_after home between added mine)

    told : (entry : Entry) (at place : ℕ) → (home ≡ shard → IsFront (log_after between (Some (Record entry))) items) → at ≡ home
        → place ≡ length (records_of between) → (eqb at shard && eqb place number) ≡ (eqb home shard && eqb (length between) (spot items number))
    told entry at place seen at_is place_is =
        let first : (eqb at shard && eqb place number) ≡ (eqb home shard && eqb (length (records_of between)) number) =
        (λ i. eqb (at_is i) shard && eqb (place_is i) number) in
        elim (cases_eq home shard) [
          | inl same ↦
              let behind = added-in between items (Record entry) (seen same) in
              let spots : eqb (length between) (spot items number) ≡ eqb (length (records_of between)) number =
              subst (λ (items : List LogItem). eqb (length between) (spot items number) ≡ eqb (length (records_of between)) number) (sym behind.1)
              (spot-record between behind.0 entry number) in
              first ∙ ap (λ is. eqb home shard && is) (sym spots)
          | inr apart ↦
              let other = ne_eqb home shard apart in
              first ∙ and_left (eqb home shard) (eqb (length (records_of between)) number) other
              ∙ sym (and_left (eqb home shard) (eqb (length between) (spot items number)) other)
        ]

    untold : (count : ℕ) → (home ≡ shard → IsFront (log_after between (Some (Fault count))) items)
        → (eqb home shard && eqb (length between) (spot items number)) ≡ false
    untold count seen =
        elim (cases_eq home shard) [
          | inl same ↦
              let behind = added-in between items (Fault count) (seen same) in
              let spots : eqb (length between) (spot items number) ≡ false =
              subst (λ (items : List LogItem). eqb (length between) (spot items number) ≡ false) (sym behind.1) (spot-fault between behind.0 count number) in
              let both : (eqb home shard && eqb (length between) (spot items number)) ≡ (eqb home shard && false) = ap (λ is. eqb home shard && is) spots in
              both ∙ and-false (eqb home shard)
          | inr apart ↦ and_left (eqb home shard) (eqb (length between) (spot items number)) (ne_eqb home shard apart)
        ]
      where
        and-false : (test : Bool) → (test && false) ≡ false
        and-false true = refl
        and-false false = refl

    record-counts : (answer : Answer) (added : Option LogItem) (entry : Entry) (at place : ℕ)
        → is_record_at shard number answer ≡ (eqb at shard && eqb place number)
        → (home ≡ shard → IsFront (log_after between added) items) → added ≡ Some (Record entry) → at ≡ home → place ≡ length (records_of between)
        → Counts answer added
    record-counts answer added entry at place test seen added_is at_is place_is =
        subst (Counts answer) (sym added_is)
        (let same =
        told entry at place (λ here. subst (λ (added : Option LogItem). IsFront (log_after between added) items) added_is (seen here)) at_is place_is in
        ap (λ (is : Bool). one_if is + times shard (spot items number) mine) (test ∙ same))

    none-counts : (answer : Answer) (added : Option LogItem) → is_record_at shard number answer ≡ false → added ≡ None → Counts answer added
    none-counts answer added test none =
        subst (Counts answer) (sym none) (let nothing = ap one_if test in omega (arith, nothing))

    fault-counts : (added : Option LogItem) → (home ≡ shard → IsFront (log_after between added) items)
        → AddsFault between added → Counts (Refused StoreFault) added
    fault-counts None seen adds = omega arith
    fault-counts (Some (Record entry)) seen adds = absurd adds
    fault-counts (Some (Fault count)) seen adds =
        let nothing = ap one_if (untold count seen) in omega (arith, nothing)

    pub turn-counts : (answer : Answer) (added : Option LogItem) → (home ≡ shard → IsFront (log_after between added) items)
        → IsAdded issuer home between answer added → Tells home between answer → Counts answer added
    turn-counts (Fresh at place reply) added seen (entry, added_is, legal) (at_is, place_is) =
        record-counts (Fresh at place reply) added entry at place refl seen added_is at_is place_is
    turn-counts (Queued at place) added seen (entry, added_is, legal) (at_is, place_is) =
        record-counts (Queued at place) added entry at place refl seen added_is at_is place_is
    turn-counts (Set at place) added seen (entry, added_is, legal) (at_is, place_is) =
        record-counts (Set at place) added entry at place refl seen added_is at_is place_is
    turn-counts (Kept at place reply) added seen none tells = none-counts (Kept at place reply) added refl none
    turn-counts (Refused StoreFault) added seen adds tells = fault-counts added seen adds
    turn-counts (Refused refusal) added seen none tells = none-counts (Refused refusal) added refl none

  -- one call
  call-counts : (issuer : Setup) (says : Result Asked Refusal) (before : ShardView) (answer : Answer) (after : ShardView) → shard < length before.seen
      → IsFront (items_at after.seen shard) items → IsTurnedAway says before answer after ⊎ TakesTurn issuer says before answer after
      → one_if (is_record_at shard number answer) + times shard (spot items number) before.mine ≡ times shard (spot items number) after.mine
  call-counts issuer says before answer after below front (inl away) =
      let nothing = ap (λ (answer : Answer). one_if (is_record_at shard number answer)) away.answer_is in
      let same = ap (λ (view : ShardView). times shard (spot items number) view.mine) away.after_is in
      omega (arith, nothing, same)
  call-counts issuer says before answer after below front (inr turn) =
      turn-counts issuer turn.shard turn.between before.mine answer turn.added
      (λ same.
      let seen = turn-seen issuer says before answer after turn (subst (λ (shard : ℕ). shard < length before.seen) (sym same) below) in
      subst (λ (seen : List LogItem). IsFront seen items) seen (subst (λ (shard : ℕ). IsFront (items_at after.seen shard) items) (sym same) front))
      turn.adds turn.tells
      ∙ ap (λ (view : ShardView). times shard (spot items number) view.mine) (sym turn.after_is)

  -- one call after another
  pub calls-count : (issuer : Setup) (lines : List (List ℕ)) (answers : List Answer)
      (claims : ClaimView) (logs : ShardView) (claims_now : ClaimView) (logs_now : ShardView)
      → shard < length logs.seen → IsFront (items_at logs_now.seen shard) items → AuthorisesAll issuer lines answers claims logs claims_now logs_now
      → how_many (is_record_at shard number) answers + times shard (spot items number) logs.mine ≡ times shard (spot items number) logs_now.mine
  calls-count issuer [] [] claims logs claims_now logs_now below front (claims_are, logs_are) =
      let same = ap (λ (view : ShardView). times shard (spot items number) view.mine) logs_are in omega (arith, same)
  calls-count issuer [] (answer ∷ answers) claims logs claims_now logs_now below front calls = absurd calls
  calls-count issuer (line ∷ lines) [] claims logs claims_now logs_now below front calls = absurd calls
  calls-count issuer (line ∷ lines) (answer ∷ answers) claims logs claims_now logs_now below front (next_claims, next_logs, call, rest) =
      let turn = call-turn issuer (reading issuer line) claims logs answer next_claims next_logs call in
      let sees = call-sees issuer (reading issuer line) logs answer next_logs turn in
      let count = sees.count_is in
      let next_below : shard < length next_logs.seen = omega arith in
      let later = calls-see issuer lines answers next_claims next_logs claims_now logs_now rest in
      let next_front = front_trans (items_at next_logs.seen shard) (items_at logs_now.seen shard) items (later.fronts shard next_below) front in
      let one = call-counts issuer (reading issuer line) logs answer next_logs below next_front turn in
      let others = calls-count issuer lines answers next_claims next_logs claims_now logs_now next_below front rest in
      omega (arith, one, others)
