-- What counts, from one place of a stream to another.
use Rattle.std.proofs.Common.{◌≡◌, ◌≢◌, ℕ, ◌+◌, ◌<◌, ◌≤◌, false, List, [], ◌∷◌, ◌++◌, length, take, drop, Some, refl, ap, sym, ◌∙◌, subst, arith}
use Rattle.std.proofs.Common.{get_or, inl, inr, ◌==◌, if◌then◌else◌}
use Rattle.std.specs.List.{slice_get, All}
use Rattle.std.proofs.lemmas.Bool.{cond_both, cond-false, cases_lt, eqb-true}
use Rattle.std.proofs.lemmas.List.{take-append-drop, take-take, take_all, take_more, take-append-le, length_push}
use Rattle.std.proofs.lemmas.List.Elements.{All-head, All-tail}
use Rattle.one_history.specs.Prefixes.{IsPrefix}
use Rattle.one_history.specs.Streams.{Text, Barrier, Indexed, Message, OfBarrier, OfRecords, OfMark, OfNothing, Count, is_word, is_next, opens}
use Rattle.one_history.specs.Streams.{last_barrier, with_record, with_records, next_history, next_count, counted, count_in, first_count}
use Rattle.one_history.proofs.Prefixed.{prefix-refl, prefix-trans, prefix-append, prefix-more, prefix-length, prefix-is_take}

-- a history of its own shard, after one more record
abbrev with_index : List Text → Indexed → List Text
with_index history one = if one.index == length history then history ++ one.text ∷ [] else history

-- a history only grows
record-grows : (shard : ℕ) (history : List Text) (one : Indexed) → IsPrefix history (with_record shard history one)
record-grows shard history one =
    cond_both (one.shard == shard) (with_index history one) history (IsPrefix history)
    (λ here. cond_both (one.index == length history) (history ++ one.text ∷ []) history (IsPrefix history)
    (λ next. prefix-append history (one.text ∷ [])) (λ other. prefix-refl history))
    (λ elsewhere. prefix-refl history)

pub records-grow : (shard : ℕ) (history : List Text) (records : List Indexed) → IsPrefix history (with_records shard history records)
records-grow shard history [] = prefix-refl history
records-grow shard history (one ∷ records) =
    prefix-trans history (with_record shard history one) (with_records shard history (one ∷ records))
    (record-grows shard history one) (records-grow shard (with_record shard history one) records)

pub history-grows : (last : Barrier) (shard : ℕ) (history : List Text) (message : Message)
    → IsPrefix history (next_history last shard history message)
history-grows last shard history (OfBarrier barrier) = prefix-refl history
history-grows last shard history (OfRecords name records) =
    cond_both (is_word name last.name) (with_records shard history records) history (IsPrefix history)
    (λ own. records-grow shard history records) (λ other. prefix-refl history)
history-grows last shard history (OfMark word) = prefix-refl history
history-grows last shard history OfNothing = prefix-refl history

-- and a number only rises
number-rises : (last : Barrier) (message : Message) → last.number ≤ (last_barrier last message).number
number-rises last (OfBarrier barrier) =
    cond_both (is_next last barrier) barrier last (λ (other : Barrier). last.number ≤ other.number)
    (λ next. let more = eqb-true barrier.number (last.number + 1) next in omega arith) (λ other. omega arith)
number-rises last (OfRecords name records) = omega arith
number-rises last (OfMark word) = omega arith
number-rises last OfNothing = omega arith

-- a message that is no barrier that counts leaves the last one as it is
pub last-stays : (last : Barrier) (message : Message) → opens last message ≡ false → last_barrier last message ≡ last
last-stays last (OfBarrier barrier) other = cond-false (is_next last barrier) barrier last other
last-stays last (OfRecords name records) other = refl
last-stays last (OfMark word) other = refl
last-stays last OfNothing other = refl

counted-grows : (count : Count) (messages : List Message) (shard : ℕ) → IsPrefix (count.histories shard) ((counted count messages).histories shard)
counted-grows count [] shard = prefix-refl (count.histories shard)
counted-grows count (message ∷ messages) shard =
    prefix-trans (count.histories shard) ((next_count count message).histories shard) ((counted count (message ∷ messages)).histories shard)
    (history-grows count.barrier shard (count.histories shard) message) (counted-grows (next_count count message) messages shard)

counted-rises : (count : Count) (messages : List Message) → count.barrier.number ≤ (counted count messages).barrier.number
counted-rises count [] = omega arith
counted-rises count (message ∷ messages) =
    let once = number-rises count.barrier message in
    let more = counted-rises (next_count count message) messages in
    omega arith

counted-append : (count : Count) (messages more : List Message) → counted count (messages ++ more) ≡ counted (counted count messages) more
counted-append count [] more = refl
counted-append count (message ∷ messages) more = counted-append (next_count count message) messages more

module _ (base : ℕ → List Text) (stream : List Message) where
  -- what counts at a later place, from what counts at an earlier one
  count-later : (first second : ℕ) → first ≤ second
      → count_in base stream second ≡ counted (count_in base stream first) (drop first (take second stream))
  count-later first second later =
      ap (counted (first_count base)) (sym (ap (λ (l : List Message). l ++ drop first (take second stream)) (sym (take-take first second stream later))
      ∙ take-append-drop first (take second stream)))
      ∙ counted-append (first_count base) (take first stream) (drop first (take second stream))

  pub histories-later : (first second shard : ℕ) → first ≤ second
      → IsPrefix ((count_in base stream first).histories shard) ((count_in base stream second).histories shard)
  histories-later first second shard later =
      subst (λ (count : Count). IsPrefix ((count_in base stream first).histories shard) (count.histories shard)) (sym (count-later first second later))
      (counted-grows (count_in base stream first) (drop first (take second stream)) shard)

  number-later : (first second : ℕ) → first ≤ second
      → (count_in base stream first).barrier.number ≤ (count_in base stream second).barrier.number
  number-later first second later =
      subst (λ (count : Count). (count_in base stream first).barrier.number ≤ count.barrier.number) (sym (count-later first second later))
      (counted-rises (count_in base stream first) (drop first (take second stream)))

  -- beyond the stream's end the same counts as at its end
  pub count-past : (place : ℕ) → length stream ≤ place → count_in base stream place ≡ count_in base stream (length stream)
  count-past place past =
      ap (counted (first_count base)) (take_all place stream past ∙ sym (take_all (length stream) stream (omega arith)))

  -- no barrier has a greater number than the last one of the stream that counts
  pub number-last : (place : ℕ) → (count_in base stream place).barrier.number ≤ (count_in base stream (length stream)).barrier.number
  number-last place = elim (cases_lt place (length stream)) [
    | inl within ↦ number-later place (length stream) (omega arith)
    | inr past ↦ let same = ap (λ (count : Count). count.barrier.number) (count-past place past) in omega arith
  ]

  -- one more message is read
  pub count-next : (place : ℕ) → place < length stream
      → count_in base stream (place + 1) ≡ next_count (count_in base stream place) (get_or stream place OfNothing)
  count-next place within =
      ap (counted (first_count base)) (take_more stream place OfNothing within)
      ∙ counted-append (first_count base) (take place stream) (get_or stream place OfNothing ∷ [])

  -- one more message is written: what counted before it counts still
  pub count-before : (message : Message) (place : ℕ) → place ≤ length stream
      → count_in base (stream ++ message ∷ []) place ≡ count_in base stream place
  count-before message place within = ap (counted (first_count base)) (take-append-le place stream (message ∷ []) within)

  -- and with it counts what it adds
  pub count-written : (message : Message) (place : ℕ) → length stream < place
      → count_in base (stream ++ message ∷ []) place ≡ next_count (count_in base stream (length stream)) message
  count-written message place past =
      let long = length_push stream message in
      ap (counted (first_count base)) (take_all place (stream ++ message ∷ []) (omega arith))
      ∙ counted-append (first_count base) stream (message ∷ [])
      ∙ ap (λ (l : List Message). next_count (counted (first_count base) l) message) (sym (take_all (length stream) stream (omega arith)))

-- what counts in a stream is a prefix of what counts in a longer one
pub stream-grows : (base : ℕ → List Text) (old new : List Message) → IsPrefix old new → (shard : ℕ)
    → IsPrefix ((count_in base old (length old)).histories shard) ((count_in base new (length new)).histories shard)
stream-grows base old new prefix shard =
    let longer = prefix-length old new prefix in
    let same : count_in base new (length old) ≡ count_in base old (length old) =
    ap (counted (first_count base)) (prefix-is_take old new prefix ∙ sym (take_all (length old) old (omega arith))) in
    subst (λ (count : Count). IsPrefix (count.histories shard) ((count_in base new (length new)).histories shard)) same
    (histories-later base new (length old) (length new) shard longer)

-- a history that is a prefix of its shard's log grows along the log, if the log has each record at its index
record-along : (log : ℕ → List Text) (shard : ℕ) (history : List Text) (one : Indexed) → IsPrefix history (log shard)
    → slice_get (log one.shard) one.index ≡ Some one.text → IsPrefix (with_record shard history one) (log shard)
record-along log shard history one prefix is =
    cond_both (one.shard == shard) (with_index history one) history (λ (l : List Text). IsPrefix l (log shard))
    (λ here. cond_both (one.index == length history) (history ++ one.text ∷ []) history (λ (l : List Text). IsPrefix l (log shard))
    (λ next. prefix-more history (log shard) one.text prefix
    (subst (λ (index : ℕ). slice_get (log shard) index ≡ Some one.text) (eqb-true one.index (length history) next)
    (subst (λ (other : ℕ). slice_get (log other) one.index ≡ Some one.text) (eqb-true one.shard shard here) is)))
    (λ other. prefix))
    (λ elsewhere. prefix)

pub records-along : (log : ℕ → List Text) (shard : ℕ) (history : List Text) (records : List Indexed) → IsPrefix history (log shard)
    → All (λ one. slice_get (log one.shard) one.index ≡ Some one.text) records → IsPrefix (with_records shard history records) (log shard)
records-along log shard history [] prefix all = prefix
records-along log shard history (one ∷ records) prefix all =
    records-along log shard (with_record shard history one) records
    (record-along log shard history one prefix (All-head (λ one. slice_get (log one.shard) one.index ≡ Some one.text) one records all))
    (All-tail (λ one. slice_get (log one.shard) one.index ≡ Some one.text) one records all)

-- a record at another index than the next one of its shard changes no history
record-nothing : (shard : ℕ) (history : List Text) (one : Indexed) → (one.shard ≡ shard → one.index ≢ length history)
    → with_record shard history one ≡ history
record-nothing shard history one other =
    cond_both (one.shard == shard) (with_index history one) history (λ (l : List Text). l ≡ history)
    (λ here. cond_both (one.index == length history) (history ++ one.text ∷ []) history (λ (l : List Text). l ≡ history)
    (λ next. absurd (other (eqb-true one.shard shard here) (eqb-true one.index (length history) next))) (λ apart. refl))
    (λ elsewhere. refl)

pub records-nothing : (histories : ℕ → List Text) (shard : ℕ) (records : List Indexed)
    → All (λ one. one.index ≢ length (histories one.shard)) records → with_records shard (histories shard) records ≡ histories shard
records-nothing histories shard [] all = refl
records-nothing histories shard (one ∷ records) all =
    let stays : with_record shard (histories shard) one ≡ histories shard =
    record-nothing shard (histories shard) one
    (λ here same. All-head (λ one. one.index ≢ length (histories one.shard)) one records all
    (same ∙ ap (λ (n : ℕ). length (histories n)) (sym here))) in
    ap (λ (l : List Text). with_records shard l records) stays
    ∙ records-nothing histories shard records (All-tail (λ one. one.index ≢ length (histories one.shard)) one records all)
