-- What is sure of the histories that a feed makes of loaded ones.
use Rattle.std.proofs.Common.{◌≡◌, ℕ, ◌≤◌, zero, suc, List, [], ◌∷◌, ◌++◌, length, map, set, All, None, Some}
use Rattle.std.proofs.Common.{inl, inr, ⊎_elim, refl, sym, ap, subst, ◌∙◌, arith}
use Rattle.std.proofs.lemmas.Bool.{cases_eq}
use Rattle.std.proofs.lemmas.List.{length-map}
use Rattle.std.proofs.lemmas.Option.{same_Some, slice_get_within}
use Rattle.std.specs.List.{slice_get}
use Rattle.issuer_base.specs.declared.entry.Entry.{Entry}
use Rattle.card_history.specs.LegalRecords.{IsLegal, IsLegalHistory}
use Rattle.issuer_setup.specs.IssuerSetup.{Setup}
use Rattle.journal_rec.specs.Record.{IsRecord}
use Rattle.shard_book.specs.Grounds.{grounds_of}
use Rattle.shard_book.proofs.Lines.{legal-more}
use Rattle.host_loading.specs.Books.{ShardBook, histories_of}
use Rattle.host_loading.proofs.Places.{read-other, read-written}
use Rattle.standby_node.specs.FeedLines.{TakesLine}
use Rattle.standby_node.specs.Primary.{AreLegal}
use Rattle.standby_node.specs.Streams.{TakesLines}
use Rattle.one_caller.specs.OneHistory.{AreRecorded, GoOnLegally, LegallyGoesOn}
use Rattle.one_caller.proofs.LegalBooks.{legally-none}
use Rattle.line_serving.specs.Following.{TakesFeed}
use Rattle.line_serving.specs.declared.follower.Followed.{Followed}
use Rattle.line_serving.specs.declared.follower.Followed.TheVariants.{All as FollowsAll, ReadFault, WriteFault, TooLong, BadFeed, StoreFault}
use Rattle.desk_host.specs.Configuration.{HasSoundParts}
use Rattle.desk_host.specs.Lawful.{IsLawful}
use Rattle.desk_host.proofs.WorldLaws.{is-lawful}
use Rattle.issuer_top.specs.Standing.{AreLawfulReplicas}

-- ---- legal histories

module _ (issuer : Setup) where
  -- a legal record more in one of them
  set-legal : (histories : List (List Entry)) → AreLegal issuer histories → (shard : ℕ) (history : List Entry)
      (entry : Entry) → slice_get histories shard ≡ Some history → IsLegal (grounds_of issuer) shard history entry
      → AreLegal issuer (set histories shard (history ++ entry ∷ []))
  set-legal histories legal shard history entry history_is next number other other_is =
      elim (cases_eq number shard) [
        | inl same ↦
            let within = slice_get_within histories shard history history_is in
            let its : history ++ entry ∷ [] ≡ other =
            same_Some (history ++ entry ∷ []) other
            (sym (read-written histories shard (history ++ entry ∷ []) within)
            ∙ subst (λ n. slice_get (set histories shard (history ++ entry ∷ [])) n ≡ Some other) same other_is) in
            subst (λ n. IsLegalHistory (grounds_of issuer) n other) (sym same)
            (subst (IsLegalHistory (grounds_of issuer) shard) its
            (legal-more (grounds_of issuer) shard history entry (legal shard history history_is) next))
        | inr apart ↦
            legal number other
            (sym (read-other histories shard (history ++ entry ∷ []) number apart) ∙ other_is)
      ]

  line-legal : (histories after : List (List Entry)) (line : List ℕ) → AreLegal issuer histories
      → TakesLine issuer histories line after → AreLegal issuer after
  line-legal histories after line legal takes =
      ⊎_elim (λ passed. subst (AreLegal issuer) (sym passed.1) legal)
      (λ adds.
      subst (AreLegal issuer) (sym adds.after_is)
      (set-legal histories legal adds.shard adds.history adds.entry adds.next.is_for.history_is
      adds.next.legal_line.legal)) takes

  lines-legal : (opening histories : List (List Entry)) (lines : List (List ℕ)) → AreLegal issuer opening
      → TakesLines issuer opening lines histories → AreLegal issuer histories
  lines-legal opening histories [] legal same = subst (AreLegal issuer) (sym same) legal
  lines-legal opening histories (line ∷ lines) legal (between, one, more) =
      lines-legal between histories lines (line-legal opening between line legal one) more

  -- what a feed makes of legal histories is legal
  feed-legal : (opening histories : List (List Entry)) (file read : List ℕ) (followed : Followed)
      → AreLegal issuer opening → TakesFeed issuer opening file read followed histories → AreLegal issuer histories
  feed-legal opening histories file read FollowsAll legal takes =
      lines-legal opening histories takes.1.taken.lines legal takes.1.taken.taken
  feed-legal opening histories file read WriteFault legal takes =
      lines-legal opening histories takes.1.taken.lines legal takes.1.taken.taken
  feed-legal opening histories file read ReadFault legal takes =
      lines-legal opening histories takes.lines legal takes.taken
  feed-legal opening histories file read (TooLong number) legal takes =
      lines-legal opening histories takes.before legal takes.taken
  feed-legal opening histories file read (BadFeed number) legal takes =
      lines-legal opening histories takes.bad.stops.before legal takes.bad.stops.taken
  feed-legal opening histories file read (StoreFault shard) legal takes =
      lines-legal opening histories takes.stops.before legal takes.stops.taken

-- ---- books of histories

-- a book of a history, of whose store no fault is told
abbrev book_of : List Entry → ShardBook
book_of history = record { history = history; faults = 0; reported = 0 }

books-same : (histories : List (List Entry)) → histories_of (map book_of histories) ≡ histories
books-same [] = refl
books-same (history ∷ histories) = ap (λ hs. history ∷ hs) (books-same histories)

book-history : (histories : List (List Entry)) (shard : ℕ) (book : ShardBook)
    → slice_get (map book_of histories) shard ≡ Some book → slice_get histories shard ≡ Some book.history
book-history [] shard book is = absurd (let e : None ≡ Some book = is in cc)
book-history (history ∷ histories) zero book is =
    ap (λ (b : ShardBook). Some b.history) (same_Some (book_of history) book is)
book-history (history ∷ histories) (suc shard) book is = book-history histories shard book is

pub book-at : (books : List ShardBook) (shard : ℕ) (history : List Entry)
    → slice_get (histories_of books) shard ≡ Some history
    → (book : ShardBook) × (slice_get books shard ≡ Some book) × (book.history ≡ history)
book-at [] shard history at = absurd (let e : None ≡ Some history = at in cc)
book-at (book ∷ books) zero history at = (book, refl, same_Some book.history history at)
book-at (book ∷ books) (suc shard) history at = book-at books shard history at

-- the histories of lawful books are legal
books-legal : (issuer : Setup) (first : List ShardBook) → IsLawful issuer first first
    → AreLegal issuer (histories_of first)
books-legal issuer first lawful shard history at =
    let book = book-at first shard history at in
    subst (IsLegalHistory (grounds_of issuer) shard) book.2
    (lawful.goes_on shard book.0 book.0 book.1 book.1).0.legal

-- so are the histories that a feed makes of them, and all that is sure of a run is sure of them
pub lawful-replicas : (issuer : Setup) → HasSoundParts issuer → (first : List ShardBook) → IsLawful issuer first first
    → (histories : List (List Entry)) → length histories ≡ issuer.shards
    → ((shard : ℕ) (history : List Entry) → slice_get histories shard ≡ Some history → All IsRecord history)
    → (file read : List ℕ) (followed : Followed) → TakesFeed issuer (histories_of first) file read followed histories
    → AreLawfulReplicas issuer histories
lawful-replicas issuer sound first lawful histories count records file read followed takes =
    let legal = feed-legal issuer (histories_of first) histories file read followed (books-legal issuer first lawful)
    takes in
    let books = map book_of histories in
    let on : GoOnLegally issuer books books = λ shard was is was_at is_at.
    let same = same_Some was is (sym was_at ∙ is_at) in
    let its = legally-none issuer shard was.history
    (legal shard was.history (book-history histories shard was was_at)) in (
      subst (λ (b : ShardBook). LegallyGoesOn issuer shard was.history b.history) same its,
      subst (λ (b : ShardBook). was.faults ≤ b.faults) same (omega arith),
    ) in
    let recorded : AreRecorded books = λ shard book at.
    records shard book.history (book-history histories shard book at) in
    let all = is-lawful issuer books books sound (length-map histories book_of ∙ count) refl on recorded in
    subst (AreLawfulReplicas issuer) (books-same histories)
    (record {
      legal = subst (AreLegal issuer) (sym (books-same histories)) legal;
      records = λ shard history at.
          records shard history
          (subst (λ (hs : List (List Entry)). slice_get hs shard ≡ Some history) (books-same histories) at);
      once = all.once;
      in_order = all.in_order;
      worlds = all.worlds;
    })
