-- The steps at the records of a message settle each journal.
use Rattle.std.proofs.Common.{◌≡◌, ℕ, ◌+◌, ◌<◌, ◌==◌, Bool, true, false, List, [], ◌∷◌, ◌++◌, length, take, refl, ap, sym, ◌∙◌, subst, append_assoc, inl, inr, arith, if◌then◌else◌, replicate, zero, suc}
use Rattle.std.proofs.lemmas.Bool.{cond-true, cond_both, eqb-true, eqb-false, eq-eqb, and_parts, and_from}
use Rattle.std.proofs.lemmas.List.{append-nil, append_cancel_left, length_push, take_at, get_or-set_same, get_or-set_other, length-set}
use Rattle.std.proofs.lemmas.List.Elements.{All-head, All-tail}
use Rattle.std.specs.List.{All}
use Rattle.one_history.specs.Prefixes.{IsPrefix}
use Rattle.one_history.specs.Streams.{Text, Indexed, is_word, with_record, with_records}
use Rattle.one_history.specs.Events.{IsSettled}
use Rattle.one_history.proofs.Prefixed.{prefix-refl, prefix-trans, prefix-length, prefix-one}
use Rattle.one_history.proofs.Counts.{records-grow}
use Rattle.one_history.proofs.Words.{word-same, word-apart}
use Rattle.bridge_rule.specs.declared.log.Step.{Step}
use Rattle.bridge_rule.specs.declared.log.Step.TheVariants.{Skips, Stays, Puts, Replaces}
use Rattle.bridge_rule.specs.Logs.{LogState, new_log, taken_log, step_of, step_at, beyond_after, applied}
use Rattle.bridge_rule.specs.Bridges.{with_taken, all_taken, steps_of, log_at, performed, is_quiet, are_quiet}

-- a log has a history that counts, and all of a journal
pub record HasAll (log : LogState) (history journal : List Text) : Type 0 where
  pub count_is : log.count ≡ length history
  pub journal_is : journal ≡ history ++ log.beyond

-- a journal is settled by what counts, and the log has all of it
pub record Settles (log : LogState) (history old new : List Text) : Type 0 where
  pub has : HasAll log history new
  pub settled : IsSettled history old new

-- settled by more that counts, after it was settled by less
pub settled-more : (less more old between new : List Text) → IsPrefix less more → IsSettled less old between → IsSettled more between new
    → IsSettled more old new
settled-more less more old between new longer first second = elim first [
  | inl stays ↦ subst (λ (journal : List Text). IsSettled more journal new) stays.1 second
  | inr becomes ↦
      let not_more : IsPrefix more old → ⊥ = λ prefix. becomes.0 (prefix-trans less more old longer prefix) in
      elim second [
        | inl stays ↦
            let short = prefix-length more between stays.0 in
            let long = prefix-length less more longer in
            let same = ap (λ (l : List Text). length l) becomes.1 in
            let all : more ≡ between =
            prefix-one more between between stays.0 (prefix-refl between) (omega arith) in
            inr (not_more, stays.1 ∙ sym all)
        | inr becomes_more ↦ inr (not_more, becomes_more.1)
      ]
]

-- one more text isn't in a journal that has another one there
other-text : (history more : List Text) (known text : Text) → IsPrefix (history ++ text ∷ []) (history ++ known ∷ more) → known ≡ text
other-text history more known text prefix =
    let same : text ∷ prefix.remainder ≡ known ∷ more =
    append_cancel_left history (text ∷ prefix.remainder) (known ∷ more) (sym (append_assoc history (text ∷ []) prefix.remainder) ∙ prefix.is) in
    cc

-- nor in one that ends there
no-text : (history journal : List Text) (text : Text) → journal ≡ history ++ [] → IsPrefix (history ++ text ∷ []) journal → ⊥
no-text history journal text is prefix =
    let short : length journal ≡ length history = ap (λ (l : List Text). length l) (is ∙ append-nil history) in
    let long = length_push history text in
    let within = prefix-length (history ++ text ∷ []) journal prefix in
    omega arith

module _ (count room index : ℕ) (history journal : List Text) (text : Text) (count_is : count ≡ length history) (here : index ≡ count) where
  more-counts : count + 1 ≡ length (history ++ text ∷ [])
  more-counts = let long = length_push history text in omega arith

  -- a record that counts, and whose text the log knows or doesn't
  known-counts : (known : Text) (more : List Text) → journal ≡ history ++ known ∷ more → (is : Bool) → is_word known text ≡ is
      → Settles (record { count = count + 1; beyond = if is then more else []; room = room }) (history ++ text ∷ []) journal
      (applied (if is then Stays else Replaces) index text journal)
  known-counts known more journal_is true same =
      let has : journal ≡ (history ++ text ∷ []) ++ more =
      journal_is ∙ ap (λ (t : Text). history ++ t ∷ more) (word-same known text same) ∙ sym (append_assoc history (text ∷ []) more) in
      record {
        has = record { count_is = more-counts; journal_is = has };
        settled = inl (record { remainder = more; is = sym has }, refl);
      }
  known-counts known more journal_is false other =
      let new : take index journal ++ text ∷ [] ≡ history ++ text ∷ [] =
      ap (λ (l : List Text). l ++ text ∷ []) (ap (take index) journal_is ∙ take_at history (known ∷ more) index (sym count_is ∙ sym here)) in
      record {
        has = record { count_is = more-counts; journal_is = new ∙ sym (append-nil (history ++ text ∷ [])) };
        settled = inr (
          λ prefix. word-apart known text other
              (other-text history more known text (subst (IsPrefix (history ++ text ∷ [])) journal_is prefix)),
          new,
        );
      }

  -- a record that counts
  counts-settle : (beyond : List Text) → journal ≡ history ++ beyond
      → Settles (record { count = count + 1; beyond = beyond_after beyond text; room = room }) (history ++ text ∷ []) journal
      (applied (step_at beyond text) index text journal)
  counts-settle [] journal_is =
      let new : journal ++ text ∷ [] ≡ history ++ text ∷ [] = ap (λ (l : List Text). l ++ text ∷ []) (journal_is ∙ append-nil history) in
      record {
        has = record { count_is = more-counts; journal_is = new ∙ sym (append-nil (history ++ text ∷ [])) };
        settled = inr (no-text history journal text journal_is, new);
      }
  counts-settle (known ∷ more) journal_is = known-counts known more journal_is (is_word known text) refl

  -- if the journal has it, the step is a quiet one
  known-quiet : (known : Text) (more : List Text) → journal ≡ history ++ known ∷ more → IsPrefix (history ++ text ∷ []) journal
      → (is : Bool) → is_word known text ≡ is → is_quiet (if is then Stays else Replaces) ≡ true
  known-quiet known more journal_is prefix true same = refl
  known-quiet known more journal_is prefix false other =
      absurd (word-apart known text other (other-text history more known text (subst (IsPrefix (history ++ text ∷ [])) journal_is prefix)))

  counts-quiet : (beyond : List Text) → journal ≡ history ++ beyond → IsPrefix (history ++ text ∷ []) journal
      → is_quiet (step_at beyond text) ≡ true
  counts-quiet [] journal_is prefix = absurd (no-text history journal text journal_is prefix)
  counts-quiet (known ∷ more) journal_is prefix = known-quiet known more journal_is prefix (is_word known text) refl

-- the history of a log's shard, after a record of that shard
abbrev pub with_index : List Text → ℕ → Text → List Text
with_index history index text = if index == length history then history ++ text ∷ [] else history

module _ (log : LogState) (history journal : List Text) (index : ℕ) (text : Text) (all : HasAll log history journal) where
  -- a record of the log's own shard
  index-settles : (is : Bool) → (index == log.count) ≡ is
      → Settles (if is then record { count = log.count + 1; beyond = beyond_after log.beyond text; room = log.room } else log)
      (if is then history ++ text ∷ [] else history) journal (applied (if is then step_at log.beyond text else Skips) index text journal)
  index-settles true same =
      counts-settle log.count log.room index history journal text all.count_is (eqb-true index log.count same) log.beyond all.journal_is
  index-settles false other =
      record { has = all; settled = inl (record { remainder = log.beyond; is = sym all.journal_is }, refl) }

  pub shard-settles : Settles (taken_log log index text) (with_index history index text) journal
      (applied (step_of log index text) index text journal)
  shard-settles =
      subst (λ (n : ℕ). Settles (taken_log log index text) (if index == n then history ++ text ∷ [] else history) journal
      (applied (step_of log index text) index text journal)) all.count_is (index-settles (index == log.count) refl)

  index-quiet : (is : Bool) → (index == log.count) ≡ is → IsPrefix (if is then history ++ text ∷ [] else history) journal
      → is_quiet (if is then step_at log.beyond text else Skips) ≡ true
  index-quiet true same prefix =
      counts-quiet log.count log.room index history journal text all.count_is (eqb-true index log.count same) log.beyond all.journal_is prefix
  index-quiet false other prefix = refl

  pub shard-quiet : IsPrefix (with_index history index text) journal → is_quiet (step_of log index text) ≡ true
  shard-quiet prefix =
      index-quiet (index == log.count) refl
      (subst (λ (n : ℕ). IsPrefix (if index == n then history ++ text ∷ [] else history) journal) (sym all.count_is) prefix)

-- a journal after the step at a record, of any shard
abbrev pub stepped : List LogState → ℕ → Indexed → List Text → List Text
stepped logs shard one journal =
    if one.shard == shard then applied (step_of (log_at logs one.shard) one.index one.text) one.index one.text journal else journal

module _ (logs : List LogState) (shard : ℕ) (history journal : List Text) (one : Indexed) (within : one.shard < length logs) where
  taken-here : log_at (with_taken logs one) one.shard ≡ taken_log (log_at logs one.shard) one.index one.text
  taken-here = get_or-set_same logs one.shard (taken_log (log_at logs one.shard) one.index one.text) (new_log 0 0) within

  one-settled : HasAll (log_at logs shard) history journal → (is : Bool) → (one.shard == shard) ≡ is
      → Settles (log_at (with_taken logs one) shard) (if is then with_index history one.index one.text else history) journal
      (if is then applied (step_of (log_at logs one.shard) one.index one.text) one.index one.text journal else journal)
  one-settled all true same =
      subst (λ (s : ℕ). HasAll (log_at logs s) history journal
      → Settles (log_at (with_taken logs one) s) (with_index history one.index one.text) journal
      (applied (step_of (log_at logs one.shard) one.index one.text) one.index one.text journal)) (eqb-true one.shard shard same)
      (λ here. subst (λ (log : LogState). Settles log (with_index history one.index one.text) journal
      (applied (step_of (log_at logs one.shard) one.index one.text) one.index one.text journal)) (sym taken-here)
      (shard-settles (log_at logs one.shard) history journal one.index one.text here)) all
  one-settled all false other =
      let stays : log_at (with_taken logs one) shard ≡ log_at logs shard =
      get_or-set_other logs one.shard shard (taken_log (log_at logs one.shard) one.index one.text) (new_log 0 0)
      (λ same. eqb-false one.shard shard other (sym same)) in
      subst (λ (log : LogState). Settles log history journal journal) (sym stays)
      (record { has = all; settled = inl (record { remainder = (log_at logs shard).beyond; is = sym all.journal_is }, refl) })

  pub one-settles : HasAll (log_at logs shard) history journal
      → Settles (log_at (with_taken logs one) shard) (with_record shard history one) journal (stepped logs shard one journal)
  one-settles all = one-settled all (one.shard == shard) refl

-- the steps at all records of a message
pub all-settle : (logs : List LogState) (shard : ℕ) (history journal : List Text) (records : List Indexed)
    → All (λ one. one.shard < length logs) records → HasAll (log_at logs shard) history journal
    → Settles (log_at (all_taken logs records) shard) (with_records shard history records) journal
    (performed shard records (steps_of logs records) journal)
all-settle logs shard history journal [] within all =
    record { has = all; settled = inl (record { remainder = (log_at logs shard).beyond; is = sym all.journal_is }, refl) }
all-settle logs shard history journal (one ∷ records) within all =
    let first = one-settles logs shard history journal one (All-head (λ one. one.shard < length logs) one records within) all in
    let long = length-set logs one.shard (taken_log (log_at logs one.shard) one.index one.text) in
    let more = all-settle (with_taken logs one) shard (with_record shard history one) (stepped logs shard one journal) records
    (subst (λ (n : ℕ). All (λ one. one.shard < n) records) (sym long) (All-tail (λ one. one.shard < length logs) one records within))
    first.has in
    record {
      has = more.has;
      settled = settled-more (with_record shard history one) (with_records shard history (one ∷ records)) journal (stepped logs shard one journal)
          (performed shard (one ∷ records) (steps_of logs (one ∷ records)) journal)
          (records-grow shard (with_record shard history one) records) first.settled more.settled;
    }

-- quiet steps leave the journals as they are
quiet-step : (step : Step) (index : ℕ) (text : Text) (journal : List Text) → is_quiet step ≡ true → applied step index text journal ≡ journal
quiet-step Skips index text journal quiet = refl
quiet-step Stays index text journal quiet = refl
quiet-step Puts index text journal quiet = cc
quiet-step Replaces index text journal quiet = cc

pub quiet-stays : (shard : ℕ) (records : List Indexed) (steps : List Step) (journal : List Text) → are_quiet steps ≡ true
    → performed shard records steps journal ≡ journal
quiet-stays shard [] steps journal quiet = refl
quiet-stays shard (one ∷ records) [] journal quiet = refl
quiet-stays shard (one ∷ records) (step ∷ steps) journal quiet =
    let parts = and_parts (is_quiet step) (are_quiet steps) quiet in
    ap (performed shard records steps)
    (cond_both (one.shard == shard) (applied step one.index one.text journal) journal (λ (other : List Text). other ≡ journal)
    (λ here. quiet-step step one.index one.text journal parts.0) (λ elsewhere. refl))
    ∙ quiet-stays shard records steps journal parts.1

-- where each journal has what counts with a message, its steps are quiet
pub all-quiet : (logs : List LogState) (histories journals : ℕ → List Text) (records : List Indexed)
    → All (λ one. one.shard < length logs) records → ((shard : ℕ) → HasAll (log_at logs shard) (histories shard) (journals shard))
    → ((shard : ℕ) → IsPrefix (with_records shard (histories shard) records) (journals shard))
    → are_quiet (steps_of logs records) ≡ true
all-quiet logs histories journals [] within all prefix = refl
all-quiet logs histories journals (one ∷ records) within all prefix =
    let shard = one.shard in
    let below : one.shard < length logs = All-head (λ one. one.shard < length logs) one records within in
    let here : with_index (histories shard) one.index one.text ≡ with_record shard (histories shard) one =
    sym (cond-true (one.shard == shard) (with_index (histories shard) one.index one.text) (histories shard) (eq-eqb one.shard shard refl)) in
    let quiet : is_quiet (step_of (log_at logs shard) one.index one.text) ≡ true =
    shard-quiet (log_at logs shard) (histories shard) (journals shard) one.index one.text (all shard)
    (subst (λ (l : List Text). IsPrefix l (journals shard)) (sym here)
    (prefix-trans (with_record shard (histories shard) one) (with_records shard (histories shard) (one ∷ records)) (journals shard)
    (records-grow shard (with_record shard (histories shard) one) records) (prefix shard))) in
    let long = length-set logs one.shard (taken_log (log_at logs one.shard) one.index one.text) in
    let stays : (other : ℕ) → stepped logs other one (journals other) ≡ journals other =
    λ other. cond_both (one.shard == other)
    (applied (step_of (log_at logs one.shard) one.index one.text) one.index one.text (journals other)) (journals other)
    (λ (l : List Text). l ≡ journals other)
    (λ same. quiet-step (step_of (log_at logs one.shard) one.index one.text) one.index one.text (journals other) quiet) (λ elsewhere. refl) in
    and_from (is_quiet (step_of (log_at logs shard) one.index one.text)) (are_quiet (steps_of (with_taken logs one) records)) quiet
    (all-quiet (with_taken logs one) (λ other. with_record other (histories other) one) journals records
    (subst (λ (n : ℕ). All (λ one. one.shard < n) records) (sym long) (All-tail (λ one. one.shard < length logs) one records within))
    (λ other. subst (HasAll (log_at (with_taken logs one) other) (with_record other (histories other) one)) (stays other)
    (one-settles logs other (histories other) (journals other) one below (all other)).has)
    prefix)

-- skips are quiet
pub skips-quiet : (count : ℕ) → are_quiet (replicate count Skips) ≡ true
skips-quiet zero = refl
skips-quiet (suc count) = skips-quiet count
