-- A standby that is fed with a primary's records follows it.
use Rattle.std.proofs.Common.{◌≡◌, ℕ, ◌+◌, ◌<◌, List, [], ◌∷◌, ◌++◌, length, take, set, All, Some, inl, inr, refl, sym, ap, subst, ◌∙◌, arith, append_assoc, append-nil}
use Rattle.std.proofs.lemmas.Bool.{cases_eq}
use Rattle.std.proofs.lemmas.List.{same_from_push, take_at}
use Rattle.std.proofs.lemmas.List.Elements.{All-head, All-tail}
use Rattle.std.proofs.lemmas.Option.{same_Some, slice_get_within, none-some}
use Rattle.std.proofs.Math.ListN.{length-set}
use Rattle.std.specs.List.{slice_get}
use Rattle.issuer_base.specs.declared.entry.Entry.{Entry}
use Rattle.card_history.specs.LegalRecords.{IsLegal}
use Rattle.issuer_setup.specs.IssuerSetup.{Setup}
use Rattle.journal_rec.specs.Record.{IsLineOf, IsRecord}
use Rattle.journal_rec.specs.RecordText.{newline, text_of}
use Rattle.journal_rec.proofs.TextLaws.{text_of-IsLine, text_of-no_front}
use Rattle.feed_text.specs.FeedText.{HasHead, headed}
use Rattle.feed_text.proofs.Heads.{head-apart, length-feed_line}
use Rattle.shard_book.specs.Grounds.{grounds_of}
use Rattle.shard_book.specs.Histories.{GoesOn}
use Rattle.host_loading.proofs.Places.{all-at, read-behind, read-other, read-written}
use Rattle.standby_node.specs.FeedLines.{IsBadLine, IsFor, TakesLine}
use Rattle.standby_node.specs.Primary.{AreLegal, ArePrefixes, IsPrimary, IsPrimaryLine}
use Rattle.standby_node.specs.Streams.{TakesLines}

-- a text with a newline at its end, and what it is headed with
headed-more : (shard place : ℕ) (front : List ℕ) → headed shard place (front ++ newline ∷ []) ≡ headed shard place front ++ newline ∷ []
headed-more shard place front = sym (simp append_assoc)

-- what a primary's line is parsed as
record IsHeaded (line : List ℕ) (shard place : ℕ) (entry : Entry) : Type 0 where
  rest : List ℕ
  head : HasHead line shard place rest
  line_is : IsLineOf entry rest

module _ (primary : List (List Entry)) (is_primary : IsPrimary primary) (line : List ℕ) (its : IsPrimaryLine primary line) where
  record_is : IsRecord its.entry
  record_is = all-at IsRecord its.history (is_primary.records its.shard its.history its.history_is) its.place its.entry its.entry_is

  shard_within : its.shard < length primary
  shard_within = slice_get_within primary its.shard its.history its.history_is

  line-headed : IsHeaded line its.shard its.place its.entry
  line-headed =
      let front = text_of-IsLine its.entry record_is in
      let whole : line ++ newline ∷ [] ≡ headed its.shard its.place front.0 ++ newline ∷ [] =
      its.text_is ∙ ap (headed its.shard its.place) front.2 ∙ headed-more its.shard its.place front.0 in
      let few = is_primary.few in
      let within = shard_within in
      record {
        rest = front.0;
        head = record {
          line_is = (same_from_push line (headed its.shard its.place front.0) newline newline whole).0;
          shard_fits = omega (arith, few, within);
          place_fits = its.within;
        };
        line_is = (record_is, front.2);
      }

  -- a line that is for a shard has the primary's record at its index
  module _ (histories : List (List Entry)) (before : ArePrefixes histories primary) (shard place : ℕ) (rest : List ℕ) (mine : List Entry)
      (is_for : IsFor histories line shard place rest mine) where
    heads : (its.shard ≡ shard) × (its.place ≡ place) × (line-headed.rest ≡ rest)
    heads = head-apart line its.shard its.place line-headed.rest shard place rest line-headed.head is_for.head

    goes_on : GoesOn mine its.history
    goes_on = before.each shard mine its.history is_for.history_is (subst (λ (n : ℕ). slice_get primary n ≡ Some its.history) heads.0 its.history_is)

    line-of : IsLineOf its.entry rest
    line-of = subst (IsLineOf its.entry) heads.2 line-headed.line_is

    -- at the next index what follows begins with it
    follows : place ≡ length mine → (more : List Entry) × (its.history ≡ mine ++ its.entry ∷ more)
    follows next =
        let at : slice_get goes_on.0 0 ≡ Some its.entry =
        sym (read-behind mine goes_on.0 0) ∙ sym (ap (λ (l : List Entry). slice_get l (length mine + 0)) goes_on.1)
        ∙ ap (slice_get its.history) (let same = heads.1 in omega (arith, same, next)) ∙ its.entry_is in
        let split = begins goes_on.0 at in
        (split.0, goes_on.1 ∙ ap (λ (l : List Entry). mine ++ l) split.1)
      where
        begins : (more : List Entry) → slice_get more 0 ≡ Some its.entry → (ahead : List Entry) × (more ≡ its.entry ∷ ahead)
        begins [] at = absurd (none-some its.entry at)
        begins (entry ∷ ahead) at = (ahead, ap (λ (e : Entry). e ∷ ahead) (same_Some entry its.entry at))

-- a history that is a prefix stays one where its next record is added
prefixes-set : (primary histories : List (List Entry)) (shard : ℕ) (mine : List Entry) → ArePrefixes histories primary
    → shard < length histories → ((theirs : List Entry) → slice_get primary shard ≡ Some theirs → GoesOn mine theirs)
    → ArePrefixes (set histories shard mine) primary
prefixes-set primary histories shard mine before within at = record {
  count_is = length-set histories shard mine ∙ before.count_is;
  each = λ number found theirs found_is theirs_is.
      elim (cases_eq number shard) [
        | inl same ↦
            let its : mine ≡ found = same_Some mine found (sym (read-written histories shard mine within)
            ∙ subst (λ (n : ℕ). slice_get (set histories shard mine) n ≡ Some found) same found_is) in
            subst (λ (l : List Entry). GoesOn l theirs) its (at theirs (subst (λ (n : ℕ). slice_get primary n ≡ Some theirs) same theirs_is))
        | inr apart ↦ before.each number found theirs (sym (read-other histories shard mine number apart) ∙ found_is) theirs_is
      ];
}

module _ (issuer : Setup) (primary : List (List Entry)) (is_primary : IsPrimary primary) where
  line-follows : (histories after : List (List Entry)) (line : List ℕ) → IsPrimaryLine primary line → ArePrefixes histories primary
      → TakesLine issuer histories line after → ArePrefixes after primary
  line-follows histories after line its before (inl (passed, same)) = subst (λ (h : List (List Entry)). ArePrefixes h primary) (sym same) before
  line-follows histories after line its before (inr adds) =
      let is_for = adds.next.is_for in
      let next = follows primary is_primary line its histories before adds.shard (length adds.history) adds.next.rest adds.history is_for refl in
      let read = line-of primary is_primary line its histories before adds.shard (length adds.history) adds.next.rest adds.history is_for in
      let found = heads primary is_primary line its histories before adds.shard (length adds.history) adds.next.rest adds.history is_for in
      let entry : its.entry ≡ adds.entry =
      (text_of-no_front its.entry adds.entry [] read.0 adds.next.legal_line.line_is.0
      (append-nil (text_of its.entry) ∙ read.1 ∙ sym adds.next.legal_line.line_is.1)).0 in
      let longer : its.history ≡ (adds.history ++ adds.entry ∷ []) ++ next.0 =
      next.1 ∙ ap (λ (e : Entry). adds.history ++ e ∷ next.0) entry ∙ sym (append_assoc adds.history (adds.entry ∷ []) next.0) in
      subst (λ (h : List (List Entry)). ArePrefixes h primary) (sym adds.after_is)
      (prefixes-set primary histories adds.shard (adds.history ++ adds.entry ∷ []) before
      (slice_get_within histories adds.shard adds.history is_for.history_is)
      (λ theirs theirs_is.
      let same : its.history ≡ theirs = same_Some its.history theirs
      (sym its.history_is ∙ ap (slice_get primary) found.0 ∙ theirs_is) in
      (next.0, sym same ∙ longer)))

  pub lines-follow : (opening histories : List (List Entry)) (lines : List (List ℕ)) → All (IsPrimaryLine primary) lines
      → ArePrefixes opening primary → TakesLines issuer opening lines histories → ArePrefixes histories primary
  lines-follow opening histories [] all before same = subst (λ (h : List (List Entry)). ArePrefixes h primary) (sym same) before
  lines-follow opening histories (line ∷ lines) all before (between, takes, more) =
      lines-follow between histories lines (All-tail (IsPrimaryLine primary) line lines all)
      (line-follows opening between line (All-head (IsPrimaryLine primary) line lines all) before takes) more

  pub none-bad : AreLegal issuer primary → (histories : List (List Entry)) (line : List ℕ) → IsPrimaryLine primary line
      → ArePrefixes histories primary → IsBadLine issuer histories line → ⊥
  none-bad legal histories line its before (inl long) =
      let few = is_primary.few in
      let within = shard_within primary is_primary line its in
      let most = length-feed_line its.shard its.place its.entry (record_is primary is_primary line its) (omega (arith, few, within)) its.within in
      let same = ap length its.text_is in
      omega (arith, long, most, same)
  none-bad legal histories line its before (inr (inl none)) =
      let read = line-headed primary is_primary line its in none its.shard its.place read.rest read.head
  none-bad legal histories line its before (inr (inr (inl none))) =
      let read = line-headed primary is_primary line its in
      let same = head-apart line its.shard its.place read.rest none.shard none.place none.rest read.head none.head in
      let within = shard_within primary is_primary line its in
      let few = none.none in
      let count = before.count_is in
      omega (arith, within, few, count, same.0)
  none-bad legal histories line its before (inr (inr (inr none))) =
      let next = follows primary is_primary line its histories before none.shard (length none.history) none.rest none.history none.is_for refl in
      let found = heads primary is_primary line its histories before none.shard (length none.history) none.rest none.history none.is_for in
      let at : IsLegal (grounds_of issuer) its.shard (take its.place its.history) its.entry =
      legal its.shard its.history its.history_is its.place its.entry its.entry_is in
      let taken : take its.place its.history ≡ none.history =
      ap (take its.place) next.1 ∙ take_at none.history (its.entry ∷ next.0) its.place (sym found.1) in
      none.none its.entry (record {
        line_is = line-of primary is_primary line its histories before none.shard (length none.history) none.rest none.history none.is_for;
        legal =
            subst (λ (shard : ℕ). IsLegal (grounds_of issuer) shard none.history its.entry) found.0
            (subst (λ (history : List Entry). IsLegal (grounds_of issuer) its.shard history its.entry) taken at);
      })
