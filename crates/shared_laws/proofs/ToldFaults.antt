-- The answers of a caller that report that a shard's store failed are no fewer than its own indices with a fault, and
-- as many while the log has fewer faults than its limit.
use Rattle.std.proofs.Common.{◌≡◌, ◌⊎◌, ℕ, ◌+◌, ◌<◌, ◌≤◌, List, [], ◌∷◌, length, Bool, true, false, ◌&&◌, eqb, Option, None, Some}
use Rattle.std.proofs.Common.{Result, refl, sym, ap, ◌∙◌, subst, inl, inr, arith}
use Rattle.std.proofs.lemmas.Bool.{cases_eq, ne_eqb, and_left}
use Rattle.issuer_base.specs.declared.answer.Answer.{Answer}
use Rattle.issuer_base.specs.declared.answer.Answer.TheVariants.{Fresh, Kept, Queued, Set, Refused}
use Rattle.issuer_base.specs.declared.answer.Refusal.{Refusal}
use Rattle.issuer_base.specs.declared.answer.Refusal.TheVariants.{StoreFault}
use Rattle.issuer_base.specs.declared.entry.Entry.{Entry}
use Rattle.issuer_base.specs.declared.limits.TheConstants.{MAX_FAULTS_REPORTED}
use Rattle.card_history.specs.declared.decision.Asked.{Asked}
use Rattle.issuer_setup.specs.IssuerSetup.{Setup}
use Rattle.line_checks.specs.Reading.{reading}
use Rattle.shared_seats.specs.Totals.{one_if}
use Rattle.claim_words.specs.declared.view.ClaimView.{ClaimView}
use Rattle.shard_book.specs.Answering.{is_store_fault}
use Rattle.turn_book.specs.Logs.{items_at, IsFront}
use Rattle.turn_book.proofs.LogLemmas.{front_trans}
use Rattle.shared_shards.specs.declared.logs.LogItem.{LogItem}
use Rattle.shared_shards.specs.declared.logs.LogItem.TheVariants.{Record, Fault}
use Rattle.shared_shards.specs.ShardLogs.{faults_of}
use Rattle.shared_shards.specs.Turned.{log_after, mine_after, AddsFault, IsAdded}
use Rattle.shared_laws.specs.Callers.{AuthorisesAll}
use Rattle.shared_laws.specs.OwnPlaces.{is_for_shard, faults_reported}
use Rattle.shared_laws.proofs.CallTurns.{ShardView, TakesTurn, IsTurnedAway, call-turn, call-sees, calls-see, turn-seen}
use Rattle.shared_laws.proofs.FaultPlaces.{is_fault_at, own_faults, fault-at_record, fault-at_fault, faults-front}
use Rattle.shared_laws.proofs.OwnRecords.{added-in}

and-false : (test : Bool) → (test && false) ≡ false
and-false true = refl
and-false false = refl

module _ (items : List LogItem) (shard : ℕ) where
  -- no fewer answers than own places, and as many while the log hasn't as many faults as it may have
  abbrev Agree : ℕ → ℕ → Type 0
  Agree own told = (own ≤ told) × (length (faults_of items) < MAX_FAULTS_REPORTED → told ≡ own)

  agree : (own told : ℕ) → told ≡ own → Agree own told
  agree own told same = (omega (arith, same), λ few. same)

  module _ (issuer : Setup) (home : ℕ) (between : List LogItem) (mine : List (ℕ × ℕ)) where
    abbrev Counts : Answer → Option LogItem → Type 0
    Counts answer added =
        Agree (own_faults shard items (mine_after home between added mine))
        (one_if (eqb home shard && is_store_fault answer) + own_faults shard items mine)

    untold : (answer : Answer) → is_store_fault answer ≡ false → one_if (eqb home shard && is_store_fault answer) ≡ 0
    untold answer quiet =
        let first : (eqb home shard && is_store_fault answer) ≡ (eqb home shard && false) = ap (λ is. eqb home shard && is) quiet in
        ap one_if (first ∙ and-false (eqb home shard))

    elsewhere : (test : Bool) → (home ≡ shard → ⊥) → one_if (eqb home shard && test) ≡ 0
    elsewhere test apart = ap one_if (and_left (eqb home shard) test (ne_eqb home shard apart))

    none-counts : (answer : Answer) (added : Option LogItem) → is_store_fault answer ≡ false → added ≡ None → Counts answer added
    none-counts answer added quiet none = subst (Counts answer) (sym none) (agree _ _ (omega (arith, untold answer quiet)))

    record-counts : (answer : Answer) (added : Option LogItem) (entry : Entry) → is_store_fault answer ≡ false
        → (home ≡ shard → IsFront (log_after between added) items) → added ≡ Some (Record entry) → Counts answer added
    record-counts answer added entry quiet seen added_is =
        subst (Counts answer) (sym added_is)
        (let nothing : one_if (eqb home shard && is_fault_at items (length between)) ≡ 0 =
        elim (cases_eq home shard) [
          | inl same ↦
              let behind =
              added-in between items (Record entry) (subst (λ (added : Option LogItem). IsFront (log_after between added) items) added_is (seen same)) in
              let none : is_fault_at items (length between) ≡ false =
              subst (λ (items : List LogItem). is_fault_at items (length between) ≡ false) (sym behind.1) (fault-at_record between behind.0 entry) in
              let both : (eqb home shard && is_fault_at items (length between)) ≡ (eqb home shard && false) = ap (λ is. eqb home shard && is) none in
              ap one_if (both ∙ and-false (eqb home shard))
          | inr apart ↦ elsewhere (is_fault_at items (length between)) apart
        ] in
        agree _ _ (omega (arith, nothing, untold answer quiet)))

    fault-counts : (added : Option LogItem) → (home ≡ shard → IsFront (log_after between added) items) → AddsFault between added
        → Counts (Refused StoreFault) added
    fault-counts None seen adds =
        elim (cases_eq home shard) [
          | inl same ↦ (
            omega arith,
            λ few. absurd (let more = faults-front between items (seen same) in omega (arith, more, few, adds)),
          )
          | inr apart ↦ agree _ _ (omega (arith, elsewhere true apart))
        ]
    fault-counts (Some (Record entry)) seen adds = absurd adds
    fault-counts (Some (Fault count)) seen adds =
        elim (cases_eq home shard) [
          | inl same ↦
              let behind = added-in between items (Fault count) (seen same) in
              let there : is_fault_at items (length between) ≡ true =
              subst (λ (items : List LogItem). is_fault_at items (length between) ≡ true) (sym behind.1) (fault-at_fault between behind.0 count) in
              let both : one_if (eqb home shard && is_fault_at items (length between)) ≡ one_if (eqb home shard && true) =
              ap (λ is. one_if (eqb home shard && is)) there in
              agree _ _ (omega (arith, both))
          | inr apart ↦ agree _ _ (omega (arith, elsewhere true apart, elsewhere (is_fault_at items (length between)) apart))
        ]

    turn-counts : (answer : Answer) (added : Option LogItem) → (home ≡ shard → IsFront (log_after between added) items)
        → IsAdded issuer home between answer added → Counts answer added
    turn-counts (Fresh at place reply) added seen (entry, added_is, legal) = record-counts (Fresh at place reply) added entry refl seen added_is
    turn-counts (Queued at place) added seen (entry, added_is, legal) = record-counts (Queued at place) added entry refl seen added_is
    turn-counts (Set at place) added seen (entry, added_is, legal) = record-counts (Set at place) added entry refl seen added_is
    turn-counts (Kept at place reply) added seen none = none-counts (Kept at place reply) added refl none
    turn-counts (Refused StoreFault) added seen adds = fault-counts added seen adds
    turn-counts (Refused refusal) added seen none = none-counts (Refused refusal) added refl none

  -- a call that is turned away tells no fault of a shard
  away-counts : (issuer : Setup) (says : Result Asked Refusal) (before : ShardView) (answer : Answer) (after : ShardView)
      → IsTurnedAway says before answer after → one_if (is_for_shard issuer shard says && is_store_fault answer) ≡ 0
  away-counts issuer says before answer after away =
      elim away.why [
        | inl read ↦
            ap one_if (and_left (is_for_shard issuer shard says) (is_store_fault answer) (ap (is_for_shard issuer shard) read))
        | inr old ↦
            let quiet : is_store_fault answer ≡ false = ap is_store_fault (away.answer_is ∙ ap (λ (refusal : Refusal). Refused refusal) old.1) in
            let both : (is_for_shard issuer shard says && is_store_fault answer) ≡ (is_for_shard issuer shard says && false) =
            ap (λ is. is_for_shard issuer shard says && is) quiet in
            ap one_if (both ∙ and-false (is_for_shard issuer shard says))
      ]

  -- one call
  call-faults : (issuer : Setup) (says : Result Asked Refusal) (before : ShardView) (answer : Answer) (after : ShardView) → shard < length before.seen
      → IsFront (items_at after.seen shard) items → IsTurnedAway says before answer after ⊎ TakesTurn issuer says before answer after
      → Agree (own_faults shard items after.mine) (one_if (is_for_shard issuer shard says && is_store_fault answer) + own_faults shard items before.mine)
  call-faults issuer says before answer after below front (inl away) =
      let nothing = away-counts issuer says before answer after away in
      let same = ap (λ (view : ShardView). own_faults shard items view.mine) away.after_is in
      agree _ _ (omega (arith, nothing, same))
  call-faults issuer says before answer after below front (inr turn) =
      let counts = turn-counts issuer turn.shard turn.between before.mine answer turn.added
      (λ same.
      let seen = turn-seen issuer says before answer after turn (subst (λ (shard : ℕ). shard < length before.seen) (sym same) below) in
      subst (λ (seen : List LogItem). IsFront seen items) seen (subst (λ (shard : ℕ). IsFront (items_at after.seen shard) items) (sym same) front))
      turn.adds in
      let same = ap (λ (view : ShardView). own_faults shard items view.mine) turn.after_is in
      let test = ap (λ is. one_if (is && is_store_fault answer)) (turn.home shard) in
      (omega (arith, counts.0, same, test), λ few. let exact = counts.1 few in omega (arith, exact, same, test))

  -- one call after another
  pub calls-fault : (issuer : Setup) (lines : List (List ℕ)) (answers : List Answer)
      (claims : ClaimView) (logs : ShardView) (claims_now : ClaimView) (logs_now : ShardView)
      → shard < length logs.seen → IsFront (items_at logs_now.seen shard) items → AuthorisesAll issuer lines answers claims logs claims_now logs_now
      → Agree (own_faults shard items logs_now.mine) (faults_reported issuer shard lines answers + own_faults shard items logs.mine)
  calls-fault issuer [] [] claims logs claims_now logs_now below front (claims_are, logs_are) =
      let same = ap (λ (view : ShardView). own_faults shard items view.mine) logs_are in agree _ _ (omega (arith, same))
  calls-fault issuer [] (answer ∷ answers) claims logs claims_now logs_now below front calls = absurd calls
  calls-fault issuer (line ∷ lines) [] claims logs claims_now logs_now below front calls = absurd calls
  calls-fault issuer (line ∷ lines) (answer ∷ answers) claims logs claims_now logs_now below front (next_claims, next_logs, call, rest) =
      let turn = call-turn issuer (reading issuer line) claims logs answer next_claims next_logs call in
      let sees = call-sees issuer (reading issuer line) logs answer next_logs turn in
      let count = sees.count_is in
      let next_below : shard < length next_logs.seen = omega arith in
      let later = calls-see issuer lines answers next_claims next_logs claims_now logs_now rest in
      let next_front = front_trans (items_at next_logs.seen shard) (items_at logs_now.seen shard) items (later.fronts shard next_below) front in
      let one = call-faults issuer (reading issuer line) logs answer next_logs below next_front turn in
      let others = calls-fault issuer lines answers next_claims next_logs claims_now logs_now next_below front rest in (
        omega (arith, one.0, others.0),
        λ few. let first = one.1 few in let second = others.1 few in omega (arith, first, second),
      )
