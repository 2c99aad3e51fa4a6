-- The text of a legal history, as it is read again.
use Rattle.std.proofs.Common.{◌≡◌, ℕ, zero, suc, List, [], ◌∷◌, ◌++◌, length, take, drop}
use Rattle.std.proofs.Common.{None, Some, refl, sym, ap, ap₂, subst, ◌∙◌, arith, append_assoc, length-append, All}
use Rattle.std.specs.List.{slice_get}
use Rattle.std.proofs.lemmas.List.{take_at, take-append-le, take-append-drop}
use Rattle.std.proofs.lemmas.List.Elements.{All-head, All-tail}
use Rattle.std.proofs.lemmas.Option.{slice_get_within}
use Rattle.issuer_base.specs.declared.entry.Entry.{Entry}
use Rattle.card_history.specs.LegalRecords.{Grounds, IsLegal, IsLegalHistory}
use Rattle.journal_rec.specs.Record.{IsRecord}
use Rattle.journal_rec.specs.RecordText.{text_of, texts_of, journal_text, version_line}
use Rattle.journal_rec.proofs.TextLaws.{text_of-apart}
use Rattle.shard_book.proofs.Exactly.{longer}

-- records whose text begins another are its first records
goes-to : (front whole : List Entry) (rest : List ℕ) → All IsRecord front → All IsRecord whole
    → texts_of front ++ rest ≡ texts_of whole → (more : List Entry) × (whole ≡ front ++ more)
goes-to [] whole rest all others same = (whole, refl)
goes-to (entry ∷ front) [] rest all others same =
    let some = longer entry (All-head IsRecord entry front all) in
    let none = ap length same in
    let whole = length-append (text_of entry ++ texts_of front) rest in
    let first = length-append (text_of entry) (texts_of front) in
    absurd (omega (arith, some, none, whole, first))
goes-to (entry ∷ front) (other ∷ whole) rest all others same =
    let both = text_of-apart entry other (texts_of front ++ rest) (texts_of whole) (All-head IsRecord entry front all)
    (All-head IsRecord other whole others)
    (sym (append_assoc (text_of entry) (texts_of front) rest) ∙ same) in
    let further = goes-to front whole rest (All-tail IsRecord entry front all) (All-tail IsRecord other whole others)
    both.1 in
    (further.0, ap₂ (λ (e : Entry) (es : List Entry). e ∷ es) (sym both.0) further.1)

-- so it is in a journal
pub text-goes_to : (front whole : List Entry) (taken : ℕ) → All IsRecord front → All IsRecord whole
    → take taken (journal_text whole) ≡ journal_text front → (more : List Entry) × (whole ≡ front ++ more)
text-goes_to front whole taken all others same =
    let parts : version_line ++ (texts_of front ++ drop taken (journal_text whole)) ≡ version_line ++ texts_of whole =
    sym (append_assoc version_line (texts_of front) (drop taken (journal_text whole)))
    ∙ ap (λ l. l ++ drop taken (journal_text whole)) (sym same) ∙ take-append-drop taken (journal_text whole) in
    goes-to front whole (drop taken (journal_text whole)) all others (ap (drop 3) parts)

-- ---- parts of a legal history

get-left : (front more : List Entry) (place : ℕ) (entry : Entry) → slice_get front place ≡ Some entry
    → slice_get (front ++ more) place ≡ Some entry
get-left [] more place entry at = absurd (let e : None ≡ Some entry = at in cc)
get-left (first ∷ front) more zero entry at = at
get-left (first ∷ front) more (suc place) entry at = get-left front more place entry at

get-next : (front more : List Entry) (entry : Entry) → slice_get (front ++ entry ∷ more) (length front) ≡ Some entry
get-next [] more entry = refl
get-next (first ∷ front) more entry = get-next front more entry

module _ (grounds : Grounds) (shard : ℕ) where
  -- its first records are legal
  pub legal-front : (front more : List Entry) → IsLegalHistory grounds shard (front ++ more)
      → IsLegalHistory grounds shard front
  legal-front front more legal place entry at =
      let within = slice_get_within front place entry at in
      subst (λ (before : List Entry). IsLegal grounds shard before entry)
      (take-append-le place front more (omega (arith, within))) (legal place entry (get-left front more place entry at))

  -- and so is the next one
  pub legal-next : (front more : List Entry) (entry : Entry) → IsLegalHistory grounds shard ((front ++ entry ∷ []) ++ more)
      → IsLegal grounds shard front entry
  legal-next front more entry legal =
      let whole : (front ++ entry ∷ []) ++ more ≡ front ++ entry ∷ more = append_assoc front (entry ∷ []) more in
      let there = subst (λ (history : List Entry). IsLegalHistory grounds shard history) whole legal in
      subst (λ (before : List Entry). IsLegal grounds shard before entry) (take_at front (entry ∷ more) (length front) refl)
      (there (length front) entry (get-next front more entry))
