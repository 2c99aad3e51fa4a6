-- A journal whose bytes are known to be the text of a legal history is filed.
use Rattle.std.proofs.Common.{◌≡◌, ℕ, false, List, [], ◌∷◌, ◌++◌, length, take, Option, IfSome}
use Rattle.std.proofs.Common.{refl, sym, ap, subst, ◌∙◌, ⊎_elim, inl, append-nil}
use Rattle.std.proofs.lemmas.Bool.{false≢true}
use Rattle.std.proofs.lemmas.List.Elements.{All-nil}
use Rattle.issuer_base.specs.declared.entry.Entry.{Entry}
use Rattle.card_history.specs.LegalRecords.{IsLegalHistory}
use Rattle.issuer_setup.specs.IssuerSetup.{Setup}
use Rattle.journal_rec.specs.RecordText.{journal_text}
use Rattle.shard_book.specs.Grounds.{grounds_of}
use Rattle.shard_book.specs.Versions.{bad_line}
use Rattle.shard_book.specs.declared.replay.Version.TheVariants.{Two}
use Rattle.shard_book.proofs.Exactly.{never-stops}
use Rattle.journal_reader.specs.declared.reader.RecordReader.{RecordReader}
use Rattle.journal_reader.specs.declared.reader.RecordFault.{RecordFault}
use Rattle.journal_reader.specs.declared.reader.RecordFault.TheVariants.{StoreFault, BadLine}
use Rattle.journal_reader.specs.Reading.{HasBadLine, HasRead, Stops}
use Rattle.clearing_check.specs.declared.filed.Filed.{Filed}
use Rattle.journal_reader.specs.declared.filing.FilingFault.{FilingFault}
use Rattle.journal_reader.specs.Filing.{AreBefore, HoldsHistory, IsRefused, fault_of, filed_in, fits, is_bad}
use Rattle.journal_reader.proofs.Filed.{fits-legal}
use Rattle.journal_reader.proofs.LegalTexts.{legal-front, legal-next, text-goes_to}

module _ (issuer : Setup) (shard : ℕ) (bytes : Option (List ℕ)) (whole : List Entry)
    (holds : HoldsHistory issuer shard bytes whole) (history : List Entry) (reader : RecordReader)
    (read : HasRead reader bytes history) where
  -- what was read is the first records of the history
  first-records : (more : List Entry) × (whole ≡ history ++ more)
  first-records =
      text-goes_to history whole reader.taken read.records holds.records
      (subst (λ (b : Option (List ℕ)). IfSome b (λ text. take reader.taken text ≡ journal_text history)) holds.bytes_are
      read.front)

  legal-so_far : IsLegalHistory (grounds_of issuer) shard history
  legal-so_far =
      legal-front (grounds_of issuer) shard history first-records.0
      (subst (IsLegalHistory (grounds_of issuer) shard) first-records.1 holds.legal)

  -- no line is bad
  no-bad_line : HasBadLine history (journal_text whole) → ⊥
  no-bad_line bad =
      never-stops Two issuer shard [] whole (journal_text whole) holds.records holds.legal
      (record { rest = []; text_is = sym (append-nil (journal_text whole)); unbroken = All-nil _ })
      (bad_line Two (length history))
      (record {
        history = history;
        goes_on = (history, refl);
        line = bad.line;
        ahead = bad.ahead;
        text_is = bad.text_is;
        unbroken = bad.unbroken;
        records = read.records;
        legal = legal-so_far;
        bad = inl (refl, bad.none);
      })

  pub exact-stop : (fault : RecordFault) → Stops bytes history fault → is_bad (fault_of fault) ≡ false
  exact-stop StoreFault stops = refl
  exact-stop (BadLine line) stops =
      absurd (no-bad_line (subst (λ (b : Option (List ℕ)). IfSome b (HasBadLine history)) holds.bytes_are stops.1))

-- each record may be filed
pub exact-record : (issuer : Setup) (shard : ℕ) (bytes : Option (List ℕ)) (whole : List Entry)
    → HoldsHistory issuer shard bytes whole → (old records : List Filed) → AreBefore issuer shard old
    → (history : List Entry) (entry : Entry) (next : RecordReader)
    → HasRead next bytes (history ++ entry ∷ []) → records ≡ old ++ filed_in issuer shard history
    → (fault : FilingFault) (place : ℕ) → IsRefused place (fits issuer shard records entry) fault
    → is_bad fault ≡ false
exact-record issuer shard bytes whole holds old records before history entry next read filed fault place refused =
    let first = first-records issuer shard bytes whole holds (history ++ entry ∷ []) next read in
    let legal = legal-next (grounds_of issuer) shard history first.0 entry
    (subst (IsLegalHistory (grounds_of issuer) shard) first.1 holds.legal) in
    let fit = ap (λ (l : List Filed). fits issuer shard l entry) filed
    ∙ fits-legal issuer shard old history entry before legal in
    ⊎_elim (λ other. absurd (false≢true (sym other.0 ∙ fit))) (λ memory. ap is_bad memory) refused
