-- A record that is appended to the journal of a shard: what the shard holds then, and what a crash may leave.
use Rattle.std.proofs.Common.{◌≡◌, ◌⊎◌, ℕ, ◌+◌, List, [], ◌∷◌, ◌++◌, length, append-nil, refl, sym, ap, subst, ◌∙◌, inl, inr, ⊎_elim, true, false}
use Rattle.std.proofs.Common.{All, Option, None, Some, Result, Ok, Err, IfSome, IsErr, MatchResult, OnOk, is_err, zero, suc, arith}
use Rattle.std.proofs.lemmas.List.{length_push}
use Rattle.std.proofs.lemmas.List.Elements.{All-push}
use Rattle.std.proofs.lemmas.List.Concat.{flat_map-append}
use Rattle.issuer_base.specs.declared.outside.store.Store.{Ghosts}
use Rattle.issuer_base.specs.declared.entry.Entry.{Entry}
use Rattle.issuer_base.specs.Stores.{Disk, BothTold, LeavesOnly}
use Rattle.issuer_base.proofs.Moments.{LeavesOnly-passes, LeavesOnly-weaker, Passes-no_call}
use Rattle.issuer_base.proofs.ToldTwice.{BothTold-weaker}
use Rattle.card_history.specs.LegalRecords.{Grounds, IsLegal}
use Rattle.issuer_setup.specs.IssuerSetup.{Setup}
use Rattle.shard_book.specs.Answering.{reported_after}
use Rattle.journal_rec.specs.Record.{IsRecord}
use Rattle.journal_rec.specs.RecordText.{text_of, texts_of, journal_text, version_line}
use Rattle.journal_store.specs.declared.journal.Journal.{Journal}
use Rattle.journal_store.specs.Holding.{Holds}
use Rattle.journal_store.specs.Images.{HasSafeText, IsImage, IsEitherImage}
use Rattle.journal_store.proofs.Passing.{leaves-image}
use Rattle.shard_book.specs.declared.shard.Shard.{Shard}
use Rattle.shard_book.specs.ShardRows.{ShardRows, AreSame, RowsStandFor}
use Rattle.shard_book.specs.Grounds.{IsTail, IsImageOf, grounds_now}
use Rattle.shard_book.specs.Shards.{HasTail, HoldsHistory, StandsFor, Adds}

-- the text of one more record
pub texts-more : (history : List Entry) (entry : Entry) → texts_of history ++ text_of entry ≡ texts_of (history ++ entry ∷ [])
texts-more history entry =
    ap (λ l. texts_of history ++ l) (sym (append-nil (text_of entry))) ∙ sym (flat_map-append text_of history (entry ∷ []))

-- and in a journal of version 2
pub journal-more : (history : List Entry) (entry : Entry) → journal_text history ++ text_of entry ≡ journal_text (history ++ entry ∷ [])
journal-more history entry = ap (λ l. version_line ++ l) (texts-more history entry)

module _ {S : Type 0} {G : Ghosts S} (history : List Entry) (entry : Entry) (new : Journal S G) (piece : List ℕ) (its : piece ≡ text_of entry) where
  -- the text with an appended record is that of the history with it
  holds-more : Holds new (length history + 1) (journal_text history ++ piece) [] → Holds new (length (history ++ entry ∷ [])) (journal_text (history ++ entry ∷ [])) []
  holds-more holds =
      subst (λ (n : ℕ). Holds new n (journal_text (history ++ entry ∷ [])) []) (sym (length_push history entry))
      (subst (λ (text : List ℕ). Holds new (length history + 1) text []) (ap (λ l. journal_text history ++ l) its ∙ journal-more history entry) holds)

  -- nothing is after the text with the record; or what was there, or a prefix of the record's
  pub put-tail : {E : Type 0} (tail : List ℕ) (result : Result ℕ E)
      → MatchResult result (λ place. (place ≡ length history) × Holds new (length history + 1) (journal_text history ++ piece) [])
      (λ _. Holds new (length history) (journal_text history) tail ⊎ Holds new (length history) (journal_text history) piece)
      → MatchResult result
      (λ place. (place ≡ length history) × Holds new (length (history ++ entry ∷ [])) (journal_text (history ++ entry ∷ [])) [])
      (λ _. Holds new (length history) (journal_text history) tail ⊎ Holds new (length history) (journal_text history) (text_of entry))
  put-tail tail (Ok place) done = (done.0, holds-more done.1)
  put-tail tail (Err error) failed = ⊎_elim (λ (same : Holds new (length history) (journal_text history) tail). inl same)
      (λ (torn : Holds new (length history) (journal_text history) piece). inr (subst (Holds new (length history) (journal_text history)) its torn))
      failed

-- an appended record is one of the history's
pub put-done : {S : Type 0} {G : Ghosts S} (grounds : Grounds) (number : ℕ) (history : List Entry) (entry : Entry) (new : Journal S G)
    → All IsRecord history → IsRecord entry → Holds new (length (history ++ entry ∷ [])) (journal_text (history ++ entry ∷ [])) []
    → HoldsHistory grounds number new (history ++ entry ∷ [])
put-done grounds number history entry new records valid holds =
    record { tail = []; tail_is = inl refl; records = All-push IsRecord history entry records valid; holds = holds }

module _ {S : Type 0} {G : Ghosts S} (grounds : Grounds) (number : ℕ) (history : List Entry) (entry : Entry) (old new : Journal S G)
    (h : HoldsHistory grounds number old history) (valid : IsRecord entry) where
  -- one that wasn't appended may be in doubt
  pub put-failed : IsLegal grounds number history entry
      → Holds new (length history) (journal_text history) h.tail ⊎ Holds new (length history) (journal_text history) (text_of entry)
      → HoldsHistory grounds number new history
  put-failed legal = ⊎_elim
      (λ (same : Holds new (length history) (journal_text history) h.tail). record { tail = h.tail; tail_is = h.tail_is; records = h.records; holds = same })
      (λ (torn : Holds new (length history) (journal_text history) (text_of entry)). record {
        tail = text_of entry;
        tail_is = inr (entry, valid, legal, refl);
        records = h.records;
        holds = torn;
      })

  -- and a crash leaves the text of the history, and a torn record after it
  pub put-crash : IsLegal grounds number history entry → (a b : Option Disk)
      → BothTold (LeavesOnly (IsEitherImage (journal_text history) h.tail (text_of entry))) a b → BothTold (LeavesOnly (IsImageOf grounds number history)) a b
  put-crash legal a b =
      BothTold-weaker (LeavesOnly (IsEitherImage (journal_text history) h.tail (text_of entry))) (LeavesOnly (IsImageOf grounds number history)) a b
      (λ x y only. LeavesOnly-weaker (IsEitherImage (journal_text history) h.tail (text_of entry)) (IsImageOf grounds number history) x y
      (λ image. ⊎_elim
      (λ (one : IsImage (journal_text history) h.tail image). (h.tail, h.tail_is, one))
      (λ (one : IsImage (journal_text history) (text_of entry) image). (text_of entry, inr (entry, valid, legal, refl), one))) only)

-- no call was made
no_call : (grounds : Grounds) (number : ℕ) (history : List Entry) (tail : List ℕ) → IsTail grounds number history tail → (disk : Option Disk)
    → IfSome disk (λ disk. HasSafeText (journal_text history) tail disk.now) → BothTold (LeavesOnly (IsImageOf grounds number history)) disk disk
no_call grounds number history tail tail_is None is = tt
no_call grounds number history tail tail_is (Some disk) is =
    LeavesOnly-passes (HasSafeText (journal_text history) tail) (IsImageOf grounds number history) disk disk
    (λ moment image safe left. (tail, tail_is, leaves-image (journal_text history) tail moment image safe left)) is
    (Passes-no_call (HasSafeText (journal_text history) tail) disk is)

pub crash-no_call : {S : Type 0} {G : Ghosts S} (grounds : Grounds) (number : ℕ) (journal : Journal S G) (history : List Entry)
    → HoldsHistory grounds number journal history → BothTold (LeavesOnly (IsImageOf grounds number history)) (G.disk journal.store) (G.disk journal.store)
crash-no_call {S} {G} grounds number journal history h = no_call grounds number history h.tail h.tail_is (G.disk journal.store) h.holds.disk_is

-- a shard with the same rows, to whose journal a record wasn't appended, holds the history
pub holds-still : {S : Type 0} {G : Ghosts S} (grounds : Grounds) (old new : Shard S G) (history : List Entry) (entry : Entry)
    → new.rows ≡ old.rows → (h : HoldsHistory grounds old.rows.shard old.journal history) → IsRecord entry
    → IsLegal grounds old.rows.shard history entry
    → HasTail new history h.tail ⊎ HasTail new history (text_of entry) → HoldsHistory grounds new.rows.shard new.journal history
holds-still grounds old new history entry rows h valid legal failed =
    subst (λ (rows : ShardRows). HoldsHistory grounds rows.shard new.journal history) (sym rows)
    (put-failed grounds old.rows.shard history entry old.journal new.journal h valid legal failed)

-- and stands for it
pub stands-still : {S : Type 0} {G : Ghosts S} (issuer : Setup) (old new : Shard S G) (history : List Entry) (entry : Entry)
    → new.rows ≡ old.rows → (stands : StandsFor issuer old history) → IsRecord entry
    → IsLegal (grounds_now issuer) old.rows.shard history entry
    → HasTail new history stands.journal_holds.tail ⊎ HasTail new history (text_of entry) → StandsFor issuer new history
stands-still issuer old new history entry rows stands valid legal failed = record {
  rows_stand = subst (λ (rows : ShardRows). RowsStandFor issuer rows history) (sym rows) stands.rows_stand;
  journal_holds = holds-still (grounds_now issuer) old new history entry rows stands.journal_holds valid legal failed;
}

-- a shard whose journal has the record, and whose rows stand for it, stands for the history with it
pub stands-with : {S : Type 0} {G : Ghosts S} (issuer : Setup) (number : ℕ) (journal : Journal S G) (mid rows : ShardRows) (told : ℕ) (history : List Entry)
    → mid.shard ≡ number → AreSame mid rows → RowsStandFor issuer rows history → HoldsHistory (grounds_now issuer) number journal history
    → let shard : Shard S G = record { journal = journal; rows = rows; reported = told } in StandsFor issuer shard history
stands-with {S} {G} issuer number journal mid rows told history number_is same stands holds = record {
  rows_stand = stands;
  journal_holds = subst (λ number. HoldsHistory (grounds_now issuer) number journal history) (sym (same.shard_is ∙ number_is)) holds;
}

-- a record that wasn't appended isn't added
pub adds-nothing : {S E : Type 0} {G : Ghosts S} (issuer : Setup) (new : Shard S G) (history : List Entry) (entry : Entry) (result : Result ℕ E)
    → IsErr result → StandsFor issuer new history → Adds issuer new history entry result
adds-nothing issuer new history entry (Ok place) failed stands = absurd (let e : false ≡ true = failed in cc)
adds-nothing issuer new history entry (Err error) failed stands = stands

-- one more answer that reported it is counted
told-rises : (told : ℕ) → reported_after told true ≡ 0 → ⊥
told-rises zero none = cc
told-rises (suc told) none = grind arith

-- if no answer reported that the store failed, the last record was appended
pub put-undoubted : {S : Type 0} {G : Ghosts S} {X E : Type 0} (told : ℕ) (new : Journal S G) (result : Result X E) → OnOk result (new.in_doubt ≡ false)
    → reported_after told (is_err result) ≡ 0 → new.in_doubt ≡ false
put-undoubted told new (Ok x) settled none = settled
put-undoubted told new (Err error) settled none = absurd (told-rises told none)
