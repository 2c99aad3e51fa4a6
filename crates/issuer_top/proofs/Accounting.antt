-- A clearing check accounts for each approval of the journals, where their bytes are observable.
use Rattle.std.proofs.Common.{◌≡◌, ℕ, zero, suc, List, [], ◌∷◌, length, None, Option, Some, IfSome, ap, arith, refl, sym, ◌∙◌}
use Rattle.std.specs.Prelude.{slice_get}
use Rattle.std.proofs.lemmas.List.{length-map}
use Rattle.std.proofs.lemmas.Option.{slice_get_within}
use Rattle.issuer_base.specs.declared.entry.Entry.{Entry}
use Rattle.issuer_base.specs.declared.entry.Entry.TheVariants.{Decided, Queued, Status}
use Rattle.card_history.specs.LegalRecords.{IsLegal}
use Rattle.card_history.specs.Records.{card_in}
use Rattle.issuer_setup.specs.CardList.{number_of}
use Rattle.issuer_setup.specs.IssuerSetup.{Setup}
use Rattle.shard_book.specs.Grounds.{grounds_of}
use Rattle.host_loading.specs.Books.{ShardBook, histories_of}
use Rattle.one_caller.proofs.LegalBooks.{record-in_book}
use Rattle.clearing_check.specs.declared.filed.Filed.{Filed}
use Rattle.journal_reader.specs.Accounts.{HaveKnownCards}
use Rattle.journal_reader.specs.Filing.{filed_records}
use Rattle.journal_reader.proofs.Totals.{accounts-for}
use Rattle.desk_host.specs.Lawful.{IsLawful}
use Rattle.desk_host.specs.SeenStores.{Logged, SeenJournals}
use Rattle.desk_host.proofs.SeenSteps.{at-place}
use Rattle.issuer_top.specs.Clearing.{AccountsForAll, FilesBooks}
use Rattle.issuer_top.specs.InOrder.{AreObservable}
use Rattle.issuer_top.specs.ReadAgain.{AreRead, StayLoaded}
use Rattle.issuer_top.proofs.ReplicaLaws.{book-at}

-- lists that have the same at each place
same-lists : (xs ys : List (List Entry)) → length xs ≡ length ys
    → ((number : ℕ) (x y : List Entry) → slice_get xs number ≡ Some x → slice_get ys number ≡ Some y → x ≡ y) → xs ≡ ys
same-lists [] [] long same = refl
same-lists [] (y ∷ ys) long same = absurd (omega (arith, long))
same-lists (x ∷ xs) [] long same = absurd (omega (arith, long))
same-lists (x ∷ xs) (y ∷ ys) long same =
    ap (λ (first : List Entry). first ∷ xs) (same zero x y refl refl)
    ∙ ap (λ (rest : List (List Entry)). y ∷ rest) (same-lists xs ys (omega (arith, long)) (λ number. same (suc number)))

-- a legal record is of a card that the issuer has
known-one : (issuer : Setup) (shard : ℕ) (before : List Entry) (entry : Entry)
    → IsLegal (grounds_of issuer) shard before entry
    → (number : ℕ) × (number_of (card_in entry) issuer.cards ≡ Some number)
known-one issuer shard before (Decided request reply) legal = (legal.of_a_card.number, legal.of_a_card.number_is)
known-one issuer shard before (Queued pan psn command) legal = (legal.of_a_card.number, legal.of_a_card.number_is)
known-one issuer shard before (Status pan psn status) legal = (legal.of_a_card.number, legal.of_a_card.number_is)

known-all : (issuer : Setup) (books : List ShardBook) → IsLawful issuer books books
    → HaveKnownCards issuer (histories_of books)
known-all issuer books lawful shard place entry at =
    let found = record-in_book books shard place entry at in
    known-one issuer shard _ entry
    ((lawful.goes_on shard found.0 found.0 found.1 found.1).0.legal place entry found.2)

-- what holds of observable bytes holds
observed : (bytes : Option (List ℕ)) (Fact : Type 0) → (bytes ≡ None → ⊥) → IfSome bytes (λ told. Fact) → Fact
observed None Fact told holds = absurd (told refl)
observed (Some bytes) Fact told holds = holds

-- the histories that were read again are those of the books
read-same : (journals : SeenJournals) (books : List ShardBook) (histories : List (List Entry))
    → length books ≡ length journals.stores → AreObservable journals.stores → AreRead journals books histories
    → histories ≡ histories_of books
read-same journals books histories count told read =
    same-lists histories (histories_of books)
    (read.count_is ∙ sym (length-map books (λ (b : ShardBook). b.history)))
    (λ number mine theirs mine_at theirs_at.
    let book = book-at books number theirs theirs_at in
    let within = slice_get_within books number book.0 book.1 in
    let store = at-place journals.stores number (omega (arith, within, count)) in
    observed store.0.bytes (mine ≡ book.0.history) (told number store.0 store.1)
    (read.each number mine mine_at store.0 book.0 store.1 book.1)
    ∙ book.2)

pub accounts-all : (issuer : Setup) (journal : List ℕ) (logs : Logged) (journals : SeenJournals)
    (stay : StayLoaded issuer journal logs journals) (records : List Filed) (asked : List (List ℕ))
    → FilesBooks issuer journals stay.first records → AreObservable journals.stores
    → AccountsForAll issuer stay.first records asked
accounts-all issuer journal logs journals stay records asked filed told =
    let same = read-same journals stay.first filed.histories (stay.kept.first_are ∙ sym stay.kept.stores_are) told
    filed.read in
    record {
      records_are = filed.records_are ∙ ap (filed_records issuer) same;
      accounts = accounts-for issuer (histories_of stay.first) stay.lawful.once (known-all issuer stay.first stay.lawful)
          asked;
    }
