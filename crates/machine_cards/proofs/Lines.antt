-- The lines of records, one by one.
use Rattle.std.proofs.Common.{◌≡◌, ℕ, ◌+◌, ◌<◌, ◌≤◌, List, [], ◌∷◌, ◌++◌, length, take, get_or, Some, refl, ap, sym, ◌∙◌, subst, arith, inl, inr, zero, suc}
use Rattle.std.specs.List.{slice_get, All}
use Rattle.std.proofs.lemmas.Bool.{cases_lt}
use Rattle.std.proofs.lemmas.List.{take_all, take_more, length_push, take_at}
use Rattle.std.proofs.lemmas.List.Elements.{All-nil, All-cons}
use Rattle.std.proofs.lemmas.Option.{none-some, same_Some, slice_get_within, slice_get-get_or}
use Rattle.issuer_base.specs.declared.entry.Entry.{Entry}
use Rattle.card_history.specs.LegalRecords.{Grounds, IsLegal, IsLegalHistory}
use Rattle.issuer_setup.specs.IssuerSetup.{Setup}
use Rattle.journal_rec.specs.Record.{IsEntry, IsLineOf}
use Rattle.journal_rec.proofs.TextLaws.{text_of-apart}
use Rattle.shard_book.specs.Grounds.{grounds_of}
use Rattle.one_history.specs.Streams.{Text}
use Rattle.one_history.specs.Events.{IsLegal as AreSuccessors}
use Rattle.one_history.proofs.Prefixed.{get-last, get-before, prefix-take_alike, prefix-append}
use Rattle.machine_cards.specs.CardRecords.{AreLines, IsSuccessor}

-- a line is that of one record
pub line-one : (one other : Entry) (text : Text) → IsLineOf one text → IsLineOf other text → one ≡ other
line-one one other text first second =
    (text_of-apart one other [] [] first.0 second.0
    (ap (λ (l : List ℕ). l ++ []) (first.1 ∙ sym second.1))).0

-- and lines are those of one list of records
pub lines-one : (texts : List Text) (some others : List Entry) → AreLines texts some → AreLines texts others → some ≡ others
lines-one [] [] [] first second = refl
lines-one [] [] (entry ∷ entries) first second = absurd second
lines-one [] (entry ∷ entries) others first second = absurd first
lines-one (text ∷ texts) [] others first second = absurd first
lines-one (text ∷ texts) (entry ∷ entries) [] first second = absurd second
lines-one (text ∷ texts) (entry ∷ entries) (other ∷ others) first second =
    λ i. line-one entry other text first.0 second.0 i ∷ lines-one texts entries others first.1 second.1 i

-- one more
lines-push : (texts : List Text) (entries : List Entry) (text : Text) (entry : Entry) → AreLines texts entries → IsLineOf entry text
    → AreLines (texts ++ text ∷ []) (entries ++ entry ∷ [])
lines-push [] [] text entry lines line = (line, tt)
lines-push [] (first ∷ entries) text entry lines line = absurd lines
lines-push (first ∷ texts) [] text entry lines line = absurd lines
lines-push (first ∷ texts) (other ∷ entries) text entry lines line = (lines.0, lines-push texts entries text entry lines.1 line)

-- as many
pub lines-length : (texts : List Text) (entries : List Entry) → AreLines texts entries → length texts ≡ length entries
lines-length [] [] lines = refl
lines-length [] (entry ∷ entries) lines = absurd lines
lines-length (text ∷ texts) [] lines = absurd lines
lines-length (text ∷ texts) (entry ∷ entries) lines = ap suc (lines-length texts entries lines.1)

-- the record at an index, of a text at the index
pub line-at : (texts : List Text) (entries : List Entry) (index : ℕ) (text : Text) (entry : Entry) → AreLines texts entries
    → slice_get texts index ≡ Some text → IsLineOf entry text → slice_get entries index ≡ Some entry
line-at [] entries index text entry lines is line = absurd (none-some text is)
line-at (first ∷ texts) [] index text entry lines is line = absurd lines
line-at (first ∷ texts) (other ∷ entries) zero text entry lines is line =
    ap Some (line-one other entry text (subst (IsLineOf other) (same_Some first text is) lines.0) line)
line-at (first ∷ texts) (other ∷ entries) (suc index) text entry lines is line = line-at texts entries index text entry lines.1 is line

-- each record is a value of its type
lines-held : (texts : List Text) (entries : List Entry) → AreLines texts entries → All IsEntry entries
lines-held [] [] lines = All-nil IsEntry
lines-held [] (entry ∷ entries) lines = absurd lines
lines-held (text ∷ texts) [] lines = absurd lines
lines-held (text ∷ texts) (entry ∷ entries) lines = All-cons IsEntry entry entries lines.0.0.held (lines-held texts entries lines.1)

-- one more legal record
legal-push : (grounds : Grounds) (shard : ℕ) (history : List Entry) (entry : Entry) → IsLegalHistory grounds shard history
    → IsLegal grounds shard history entry → IsLegalHistory grounds shard (history ++ entry ∷ [])
legal-push grounds shard history entry legal follows place other is =
    elim (cases_lt place (length history)) [
      | inl within ↦
          subst (λ (before : List Entry). IsLegal grounds shard before other)
          (prefix-take_alike history (history ++ entry ∷ []) place (prefix-append history (entry ∷ [])) (omega arith))
          (legal place other (get-before history (entry ∷ []) place other within is))
      | inr past ↦
          let long = length_push history entry in
          let below = slice_get_within (history ++ entry ∷ []) place other is in
          let last : place ≡ length history = omega arith in
          let same : entry ≡ other =
          same_Some entry other (sym (get-last history entry) ∙ ap (slice_get (history ++ entry ∷ [])) (sym last) ∙ is) in
          let all : history ≡ take place (history ++ entry ∷ []) = sym (take_at history (entry ∷ []) place (sym last)) in
          subst (λ (before : List Entry). IsLegal grounds shard before other) all (subst (IsLegal grounds shard history) same follows)
    ]

-- the records of legal texts
pub record AreOf (issuer : Setup) (shard : ℕ) (texts : List Text) : Type 0 where
  pub entries : List Entry
  pub lines : AreLines texts entries
  pub legal : IsLegalHistory (grounds_of issuer) shard entries
  pub held : All IsEntry entries

module _ (issuer : Setup) (shard : ℕ) (within : shard < issuer.shards) (texts : List Text) (legal : AreSuccessors (IsSuccessor issuer) shard texts) where
  -- of the first texts
  first-of : (count : ℕ) → count ≤ length texts → AreOf issuer shard (take count texts)
  first-of zero few = record {
    entries = [];
    lines = tt;
    legal = λ place entry is. absurd (none-some entry is);
    held = All-nil IsEntry;
  }
  first-of (suc count) few =
      let below : count < length texts = omega arith in
      let before = first-of count (omega arith) in
      let text = get_or texts count [] in
      let follows = legal count text (slice_get-get_or texts count [] below) within in
      let same : follows.before ≡ before.entries = lines-one (take count texts) follows.before before.entries follows.lines before.lines in
      let more : take count texts ++ text ∷ [] ≡ take (suc count) texts =
      sym (take_more texts count [] below) ∙ ap (λ (n : ℕ). take n texts) (let one : count + 1 ≡ suc count = omega arith in one) in
      let lines = lines-push (take count texts) before.entries text follows.entry before.lines follows.line in
      subst (AreOf issuer shard) more (record {
        entries = before.entries ++ follows.entry ∷ [];
        lines = lines;
        legal = legal-push (grounds_of issuer) shard before.entries follows.entry before.legal
            (subst (λ (entries : List Entry). IsLegal (grounds_of issuer) shard entries follows.entry) same follows.legal);
        held = lines-held (take count texts ++ text ∷ []) (before.entries ++ follows.entry ∷ []) lines;
      })

  -- of all
  pub records-of : AreOf issuer shard texts
  records-of = subst (AreOf issuer shard) (take_all (length texts) texts (omega arith)) (first-of (length texts) (omega arith))
