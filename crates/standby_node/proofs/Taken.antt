-- What a shard does with the text at its next index, by what it takes.
use Rattle.std.proofs.Common.{◌≡◌, ℕ, List, [], ◌∷◌, ◌++◌, length, Ok, Err, inr, refl, sym, ap, subst, ◌∙◌, arith}
use Rattle.std.proofs.lemmas.List.Elements.{All-cons, All-nil}
use Rattle.issuer_base.specs.declared.entry.Entry.{Entry}
use Rattle.issuer_base.specs.declared.outside.store.Store.{Ghosts}
use Rattle.card_history.specs.LegalRecords.{IsLegal}
use Rattle.issuer_setup.specs.IssuerSetup.{Setup}
use Rattle.journal_rec.specs.Record.{IsLineOf, IsRecord}
use Rattle.journal_rec.specs.RecordText.{IsUnbroken, text_of}
use Rattle.journal_rec.proofs.TextLaws.{texts_of-one_reading}
use Rattle.shard_book.specs.declared.shard.Shard.{Shard}
use Rattle.shard_book.specs.declared.taking.TakeFault.{TakeFault}
use Rattle.shard_book.specs.declared.taking.TakeFault.TheVariants.{NotLegal, StoreFault}
use Rattle.shard_book.specs.Grounds.{grounds_of}
use Rattle.shard_book.specs.Shards.{number_in, HasTail}
use Rattle.shard_book.specs.Taking.{LeavesTaken, Takes}
use Rattle.standby_node.specs.OneLine.{IsNextOf, TakesAt}

none-broken : IsUnbroken []
none-broken k d within = absurd (omega (arith, within))

-- a line is that of one record
pub one-entry : (entry other : Entry) (text : List ℕ) → IsLineOf entry text → IsLineOf other text → entry ≡ other
one-entry entry other text is other_is =
    let same : text_of entry ≡ text_of other = is.1 ∙ sym other_is.1 in
    let lists : entry ∷ [] ≡ other ∷ [] =
    (texts_of-one_reading (entry ∷ []) (other ∷ []) [] [] (All-cons IsRecord entry [] is.0 (All-nil IsRecord))
    (All-cons IsRecord other [] other_is.0 (All-nil IsRecord)) none-broken none-broken (ap (λ (t : List ℕ). (t ++ []) ++ []) same)).0 in cc

module _ {S : Type 0} {G : Ghosts S} (issuer : Setup) (old new : Shard S G) (history : List Entry) (place : ℕ) (text : List ℕ)
    (place_is : place ≡ length history) where
  -- the text is that of this record alone
  module _ (entry : Entry) (line_is : IsLineOf entry text) (only : (other : Entry) → IsLineOf other text → entry ≡ other) where
    next-of : IsLegal (grounds_of issuer) (number_in old) history entry → IsNextOf issuer old history place text entry
    next-of legal = record { place_is = place_is; legal_line = record { line_is = line_is; legal = legal } }

    pub next-failed : (fault : TakeFault) → Takes issuer old history entry (Err fault) new → (fault ≡ NotLegal → new ≡ old)
        → (HasTail old history [] → LeavesTaken entry history [] (Err fault) new)
        → TakesAt issuer old history place text (Err fault) new
    next-failed NotLegal takes same tail = record {
      place_is = place_is;
      none = λ other legal. takes (subst (IsLegal (grounds_of issuer) (number_in old) history) (sym (only other legal.line_is)) legal.legal);
      same = same refl;
    }
    next-failed StoreFault takes same tail =
        record { entry = entry; next = next-of takes.0; replica = takes.1; in_hand = tail }

    pub next-taken : (at : ℕ) → Takes issuer old history entry (Ok at) new → TakesAt issuer old history place text (Ok tt) new
    next-taken at takes = inr (record { entry = entry; next = next-of takes.0; settled = takes.2 })
