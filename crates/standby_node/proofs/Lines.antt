-- A line makes one list of histories of others, or it is bad.
use Rattle.std.proofs.Common.{◌≡◌, ℕ, List, [], ◌∷◌, ◌++◌, length, set, inl, inr, sym, ap, subst, ◌∙◌, arith, append-nil}
use Rattle.std.proofs.lemmas.Option.{same_Some, slice_get_within}
use Rattle.std.specs.List.{slice_get}
use Rattle.issuer_base.specs.declared.entry.Entry.{Entry}
use Rattle.issuer_setup.specs.IssuerSetup.{Setup}
use Rattle.journal_rec.specs.RecordText.{text_of}
use Rattle.journal_rec.proofs.TextLaws.{text_of-no_front}
use Rattle.feed_text.proofs.Heads.{head-apart}
use Rattle.standby_node.specs.FeedLines.{AddsRecord, IsBadLine, IsFor, IsLegalLine, IsPassedOver, TakesLine}

-- a line is for one shard, index and history
pub for-one : (histories : List (List Entry)) (line : List ℕ) (shard place : ℕ) (rest : List ℕ) (history : List Entry)
    (other_shard other_place : ℕ) (other_rest : List ℕ) (other : List Entry)
    → IsFor histories line shard place rest history → IsFor histories line other_shard other_place other_rest other
    → (shard ≡ other_shard) × (place ≡ other_place) × (rest ≡ other_rest) × (history ≡ other)
for-one histories line shard place rest history other_shard other_place other_rest other one two =
    let heads = head-apart line shard place rest other_shard other_place other_rest one.head two.head in (
      heads.0,
      heads.1,
      heads.2,
      same_Some history other (sym one.history_is ∙ ap (slice_get histories) heads.0 ∙ two.history_is),
    )

-- a text is the line of one record
pub record-one : (entry other : Entry) (text : List ℕ) (issuer other_issuer : Setup) (shard other_shard : ℕ) (history other_history : List Entry)
    → IsLegalLine issuer shard history text entry → IsLegalLine other_issuer other_shard other_history text other → entry ≡ other
record-one entry other text issuer other_issuer shard other_shard history other_history one two =
    (text_of-no_front entry other [] one.line_is.0 two.line_is.0
    (append-nil (text_of entry) ∙ one.line_is.1 ∙ sym two.line_is.1)).0

module _ (issuer : Setup) (histories : List (List Entry)) (line : List ℕ) where
  -- a line that is passed over adds no record
  passed-adds : (after : List (List Entry)) → IsPassedOver histories line → AddsRecord issuer histories line after → ⊥
  passed-adds after passed adds =
      let same = for-one histories line _ _ _ _ _ _ _ _ passed.is_for adds.next.is_for in
      passed.elsewhere (same.1 ∙ sym (ap length same.3))

  adds-one : (after other : List (List Entry)) → AddsRecord issuer histories line after → AddsRecord issuer histories line other → after ≡ other
  adds-one after other one two =
      let same = for-one histories line _ _ _ _ _ _ _ _ one.next.is_for two.next.is_for in
      let its : IsLegalLine issuer one.shard one.history two.next.rest one.entry =
      subst (λ (text : List ℕ). IsLegalLine issuer one.shard one.history text one.entry) same.2 one.next.legal_line in
      let entry = record-one one.entry two.entry two.next.rest issuer issuer one.shard two.shard one.history two.history its two.next.legal_line in
      one.after_is
      ∙ ap (λ (shard : ℕ). set histories shard (one.history ++ one.entry ∷ [])) same.0
      ∙ ap (λ (history : List Entry). set histories two.shard (history ++ one.entry ∷ [])) same.3
      ∙ ap (λ (entry : Entry). set histories two.shard (two.history ++ entry ∷ [])) entry
      ∙ sym two.after_is

  pub takes-one : (after other : List (List Entry)) → TakesLine issuer histories line after → TakesLine issuer histories line other → after ≡ other
  takes-one after other (inl (one, same)) (inl (two, other_same)) = same ∙ sym other_same
  takes-one after other (inl (one, same)) (inr two) = absurd (passed-adds other one two)
  takes-one after other (inr one) (inl (two, same)) = absurd (passed-adds after two one)
  takes-one after other (inr one) (inr two) = adds-one after other one two

  -- a line that is for a shard, and has a record or another index, isn't bad
  for-bad : (shard place : ℕ) (rest : List ℕ) (history : List Entry) → IsFor histories line shard place rest history
      → ((other : List Entry) → place ≡ length other → history ≡ other
      → ((entry : Entry) → IsLegalLine issuer shard other rest entry → ⊥) → ⊥)
      → IsBadLine issuer histories line → ⊥
  for-bad shard place rest history is_for fine (inl long) = let short = is_for.short in omega (arith, long, short)
  for-bad shard place rest history is_for fine (inr (inl none)) = none shard place rest is_for.head
  for-bad shard place rest history is_for fine (inr (inr (inl none))) =
      let same = head-apart line shard place rest none.shard none.place none.rest is_for.head none.head in
      let within = slice_get_within histories shard history is_for.history_is in
      let few = none.none in
      omega (arith, within, few, same.0)
  for-bad shard place rest history is_for fine (inr (inr (inr none))) =
      let same = for-one histories line _ _ _ _ _ _ _ _ is_for none.is_for in
      fine none.history same.1 same.3 (λ entry legal. none.none entry
      (subst (λ (text : List ℕ). IsLegalLine issuer none.shard none.history text entry) same.2
      (subst (λ (shard : ℕ). IsLegalLine issuer shard none.history rest entry) same.0 legal)))

  pub takes-bad : (after : List (List Entry)) → TakesLine issuer histories line after → IsBadLine issuer histories line → ⊥
  takes-bad after (inl (passed, same)) =
      for-bad passed.shard passed.place passed.rest passed.history passed.is_for
      (λ other place_is same none. passed.elsewhere (place_is ∙ sym (ap length same)))
  takes-bad after (inr adds) =
      for-bad adds.shard (length adds.history) adds.next.rest adds.history adds.next.is_for
      (λ other place_is same none. none adds.entry
      (subst (λ (history : List Entry). IsLegalLine issuer adds.shard history adds.next.rest adds.entry) same adds.next.legal_line))
