-- What a call of one shard does to the host: the books after it, and what a crash may leave.
use Rattle.std.proofs.Common.{◌≡◌, ◌≢◌, ℕ, ◌<◌, ◌%◌, List, [], length, set, length-set, Some, Result, Ok, Err, refl, sym, ap, subst, ◌∙◌, inl, inr, arith, append-nil}
use Rattle.std.proofs.lemmas.Bool.{cases_eq}
use Rattle.std.proofs.lemmas.Option.{same_Some, slice_get_within}
use Rattle.std.specs.List.{slice_get}
use Rattle.issuer_base.specs.OutsideFaults.{CountsFaults}
use Rattle.issuer_base.specs.Stores.{BothTold, LeavesOnly}
use Rattle.issuer_base.proofs.Moments.{LeavesOnly-weaker}
use Rattle.issuer_base.proofs.ToldTwice.{BothTold-weaker}
use Rattle.issuer_base.specs.declared.outside.store.Store.{Ghosts}
use Rattle.issuer_base.specs.declared.answer.Answer.{Answer}
use Rattle.issuer_base.specs.declared.answer.Refusal.{Refusal}
use Rattle.card_history.specs.declared.decision.Asked.{Asked}
use Rattle.issuer_base.specs.declared.entry.Entry.{Entry}
use Rattle.issuer_base.specs.CardNames.{CardName}
use Rattle.issuer_setup.specs.IssuerSetup.{Setup, shard_of}
use Rattle.journal_rec.specs.RecordText.{journal_text}
use Rattle.journal_store.specs.Holding.{Holds}
use Rattle.shard_book.specs.declared.shard.Shard.{Shard}
use Rattle.shard_book.specs.Answering.{is_store_fault, reported_after, LeavesTail}
use Rattle.shard_book.specs.Calls.{AnswersBy, LeavesImages, KeepsCall}
use Rattle.shard_book.specs.Grounds.{grounds_now, IsImageOf}
use Rattle.shard_book.specs.Shards.{number_in, IsUnder, HasCard, disk_in, faults_in, reported_in, IsUndoubted, HasTail, HoldsHistory, StandsFor}
use Rattle.shard_book.proofs.ShardSteps.{crash-no_call}
use Rattle.shard_book.specs.Histories.{GoesOn, IsImageBetween}
use Rattle.host_loading.specs.Books.{ShardBook}
use Rattle.host_loading.specs.Hosts.{AreShards, StandsForBook, Stand}
use Rattle.one_caller.specs.OwnTails.{record_asked, LeaveTails}
use Rattle.one_caller.specs.Runs.{LeaveBetween, LeavesAnswering}
use Rattle.one_caller.specs.Turns.{card_asked, AnswersIn}
use Rattle.host_loading.proofs.Places.{read-written, read-other, read-within}

-- a history extends itself
pub goes-on_same : (first last : List Entry) → last ≡ first → GoesOn first last
goes-on_same first last same = ([], same ∙ sym (append-nil first))

-- an image of a history is one between it and itself
image-same : (issuer : Setup) (shard : ℕ) (first last : List Entry) (image : List ℕ) → last ≡ first → IsImageOf (grounds_now issuer) shard first image
    → IsImageBetween issuer shard first last image
image-same issuer shard first last image same is =
    record { between = first; from_first = goes-on_same first first refl; to_last = goes-on_same first last same; image_is = is }

module _ {S : Type 0} {G : Ghosts S} where
  -- the shard of a card is called, and answers so on each history that it stands for
  pub record IsCalled (issuer : Setup) (shards : List (Shard S G)) (name : CardName) (home : ℕ) (old new : Shard S G) (answer : Answer)
      (Changes : ℕ → List Entry → List Entry → Type 0) : Type 0 where
    pub home_is : home ≡ shard_of issuer name
    pub old_is : slice_get shards home ≡ Some old
    pub answers : AnswersBy issuer old Changes new
    pub leaves : LeavesImages issuer old new
    pub keeps : KeepsCall issuer old (is_store_fault answer) new

  -- a card's number is that of a card of its shard
  pub card-at_home : (issuer : Setup) (shards : List (Shard S G)) → AreShards issuer shards → (number home : ℕ) (shard : Shard S G)
      → number < length issuer.cards → slice_get shards home ≡ Some shard → home ≡ number % issuer.shards → HasCard shard number
  card-at_home issuer shards are number home shard within is home_is =
      let under = are.under home shard is in
      let cards = under.cards_are in
      record {
        within = omega (arith, cards, within);
        home = ap (λ (shards : ℕ). number % shards) under.shards_are ∙ sym home_is ∙ sym (are.numbers_are home shard is);
      }

  -- a shard that stands for a history stands for its book
  pub stands-for_book : (issuer : Setup) (shard : Shard S G) (history : List Entry) → StandsFor issuer shard history → IsUndoubted shard
      → StandsForBook issuer shard (record { history = history; faults = faults_in shard; reported = reported_in shard })
  stands-for_book issuer shard history stands undoubted = record {
    stands = stands;
    faults_are = refl;
    reported_are = refl;
    settled = λ untold.
        subst (λ (tail : List ℕ). Holds shard.journal (length history) (journal_text history) tail)
        (stands.journal_holds.holds.tail_is (undoubted untold)) stands.journal_holds.holds;
  }

  -- what a crash may leave of a shard that isn't called
  leaves-uncalled : (issuer : Setup) (number : ℕ) (shard : Shard S G) (history : List Entry) → number_in shard ≡ number → StandsFor issuer shard history
      → BothTold (LeavesOnly (IsImageOf (grounds_now issuer) number history)) (disk_in shard) (disk_in shard)
  leaves-uncalled issuer number shard history number_is stands =
      crash-no_call (grounds_now issuer) number shard.journal history
      (subst (λ (number : ℕ). HoldsHistory (grounds_now issuer) number shard.journal history) number_is stands.journal_holds)

  between-same : (issuer : Setup) (number : ℕ) (before after : Shard S G) (first last : List Entry) → last ≡ first
      → BothTold (LeavesOnly (IsImageOf (grounds_now issuer) number first)) (disk_in before) (disk_in after)
      → BothTold (LeavesOnly (IsImageBetween issuer number first last)) (disk_in before) (disk_in after)
  between-same issuer number before after first last same =
      BothTold-weaker (LeavesOnly (IsImageOf (grounds_now issuer) number first)) (LeavesOnly (IsImageBetween issuer number first last))
      (disk_in before) (disk_in after)
      (λ x y only. LeavesOnly-weaker (IsImageOf (grounds_now issuer) number first) (IsImageBetween issuer number first last) x y
      (λ image is. image-same issuer number first last image same is) only)

  -- where no shard is called a crash leaves images of the histories
  pub leave-uncalled : (issuer : Setup) (shards : List (Shard S G)) → AreShards issuer shards → (books : List ShardBook) → Stand issuer shards books
      → LeaveBetween issuer books books shards shards
  leave-uncalled issuer shards are books stand number before after was is before_is after_is was_is is_is =
      let same : before ≡ after = same_Some before after (sym before_is ∙ after_is) in
      let same_book : is.history ≡ was.history = ap (λ (book : ShardBook). book.history) (same_Some is was (sym is_is ∙ was_is)) in
      between-same issuer number before after was.history is.history same_book
      (subst (λ (after : Shard S G). BothTold (LeavesOnly (IsImageOf (grounds_now issuer) number was.history)) (disk_in before) (disk_in after)) same
      (leaves-uncalled issuer number before was.history (are.numbers_are number before before_is) (stand.each number before was before_is was_is).stands))

  -- and so is what is in doubt, where a line is refused before it calls a shard
  pub leaves-uncalled_by : (issuer : Setup) (shards : List (Shard S G)) → AreShards issuer shards → (asked : Result Asked Refusal) (refusal : Refusal)
      → asked ≡ Err refusal → (answer : Answer) (books : List ShardBook) → Stand issuer shards books
      → LeavesAnswering issuer asked answer books shards shards
  leaves-uncalled_by issuer shards are asked refusal asked_is answer books stand =
      subst (λ (asked : Result Asked Refusal). LeavesAnswering issuer asked answer books shards shards) (sym asked_is) (record {
        crash = leave-uncalled issuer shards are books stand;
        tails = λ number before after book tail before_is after_is book_is has.
            subst (λ (shard : Shard S G). HasTail shard book.history tail) (same_Some before after (sym before_is ∙ after_is)) has;
      })

  module _ {issuer : Setup} {shards : List (Shard S G)} (are : AreShards issuer shards) {name : CardName} {home : ℕ} {old new : Shard S G} {answer : Answer}
      {Changes : ℕ → List Entry → List Entry → Type 0} (called : IsCalled issuer shards name home old new answer Changes) where
    within : home < length shards
    within = slice_get_within shards home old called.old_is

    -- what is there once the shard was called
    there : (shard : Shard S G) → slice_get (set shards home new) home ≡ Some shard → new ≡ shard
    there shard is = same_Some new shard (sym (read-written shards home new within) ∙ is)

    there-other : (number : ℕ) (shard : Shard S G) → number ≢ home → slice_get (set shards home new) number ≡ Some shard → slice_get shards number ≡ Some shard
    there-other number shard apart is = sym (read-other shards home new number apart) ∙ is

    -- the shards are the issuer's as before
    pub shards-after : AreShards issuer (set shards home new)
    shards-after = record {
      count_is = length-set shards home new ∙ are.count_is;
      numbers_are = λ number shard is.
          elim (cases_eq number home) [
            | inl same ↦
                let its = there shard (subst (λ number. slice_get (set shards home new) number ≡ Some shard) same is) in
                ap number_in (sym its) ∙ called.keeps.number_is ∙ are.numbers_are home old called.old_is ∙ sym same
            | inr apart ↦ are.numbers_are number shard (there-other number shard apart is)
          ];
      under = λ number shard is.
          elim (cases_eq number home) [
            | inl same ↦
                let its = there shard (subst (λ number. slice_get (set shards home new) number ≡ Some shard) same is) in
                subst (IsUnder issuer) its called.keeps.under
            | inr apart ↦ are.under number shard (there-other number shard apart is)
          ];
      undoubted = λ number shard is.
          elim (cases_eq number home) [
            | inl same ↦
                let its = there shard (subst (λ number. slice_get (set shards home new) number ≡ Some shard) same is) in
                subst IsUndoubted its (called.keeps.undoubted (are.undoubted home old called.old_is))
            | inr apart ↦ are.undoubted number shard (there-other number shard apart is)
          ];
    }

    module _ (books : List ShardBook) (stand : Stand issuer shards books) where
      -- the shards stand for books of which this shard's alone has changed, as the shard answers
      pub turn-after : (after : List ShardBook) × Stand issuer (set shards home new) after × AnswersIn issuer books name answer Changes after
      turn-after =
          let count = stand.count_is in
          let book_within : home < length books = omega (arith, within, count) in
          let found = read-within books home book_within in
          let book : ShardBook = found.0 in
          let its = stand.each home old book called.old_is found.1 in
          let answered = called.answers book.history its.stands in
          let after : ShardBook = record { history = answered.0; faults = faults_in new; reported = reported_in new } in
          let number_is : number_in old ≡ shard_of issuer name = are.numbers_are home old called.old_is ∙ called.home_is in (
            set books home after,
            record {
              count_is = length-set books home after ∙ count ∙ sym (length-set shards home new);
              each = λ number shard other shard_is other_is.
                  elim (cases_eq number home) [
                    | inl same ↦
                        let shard_at = there shard (subst (λ number. slice_get (set shards home new) number ≡ Some shard) same shard_is) in
                        let book_at : after ≡ other = same_Some after other (sym (read-written books home after book_within)
                        ∙ subst (λ number. slice_get (set books home after) number ≡ Some other) same other_is) in
                        subst (λ (other : ShardBook). StandsForBook issuer shard other) book_at
                        (subst (λ (shard : Shard S G). StandsForBook issuer shard after) shard_at
                        (stands-for_book issuer new answered.0 answered.1 (called.keeps.undoubted (are.undoubted home old called.old_is))))
                    | inr apart ↦
                        stand.each number shard other (there-other number shard apart shard_is) (sym (read-other books home after number apart) ∙ other_is)
                  ];
            },
            record {
              old = book;
              new = after;
              old_is = subst (λ number. slice_get books number ≡ Some book) called.home_is found.1;
              changes = subst (λ number. Changes number book.history answered.0) number_is answered.2;
              counts = subst (λ faults. CountsFaults faults (faults_in new) (is_store_fault answer)) its.faults_are called.keeps.counts;
              told_is = called.keeps.told_is ∙ ap (λ told. reported_after told (is_store_fault answer)) its.reported_are;
              after_is = ap (λ number. set books number after) called.home_is;
            },
          )

      -- and a crash leaves images of the histories before the call
      pub crash-after : LeaveBetween issuer books books shards (set shards home new)
      crash-after number before after was is before_is after_is was_is is_is =
          let same_book : is.history ≡ was.history = ap (λ (book : ShardBook). book.history) (same_Some is was (sym is_is ∙ was_is)) in
          elim (cases_eq number home) [
            | inl same ↦
                let old_at : old ≡ before = same_Some old before (sym called.old_is ∙ subst (λ number. slice_get shards number ≡ Some before) same before_is) in
                let new_at = there after (subst (λ number. slice_get (set shards home new) number ≡ Some after) same after_is) in
                let stands = (stand.each number before was before_is was_is).stands in
                let left = called.leaves was.history (subst (λ (shard : Shard S G). StandsFor issuer shard was.history) (sym old_at) stands) in
                let number_is : number_in old ≡ number = are.numbers_are home old called.old_is ∙ sym same in
                between-same issuer number before after was.history is.history same_book
                (subst (λ (before : Shard S G). BothTold (LeavesOnly (IsImageOf (grounds_now issuer) number was.history)) (disk_in before) (disk_in after))
                old_at
                (subst (λ (after : Shard S G). BothTold (LeavesOnly (IsImageOf (grounds_now issuer) number was.history)) (disk_in old) (disk_in after)) new_at
                (subst (λ number. BothTold (LeavesOnly (IsImageOf (grounds_now issuer) number was.history)) (disk_in old) (disk_in new)) number_is left)))
            | inr apart ↦
                leave-uncalled issuer shards are books stand number before after was is before_is (there-other number after apart after_is) was_is is_is
          ]

      -- and what is in doubt is what was, or in the shard that was called what its call leaves
      pub tails-after : (asked : Asked) → name ≡ card_asked asked
          → ((history : List Entry) (tail : List ℕ) → StandsFor issuer old history → HasTail old history tail
          → LeavesTail (record_asked issuer history asked) history tail answer new)
          → LeaveTails issuer (Ok asked) answer books shards (set shards home new)
      tails-after asked name_is leaves number before after book tail before_is after_is book_is has =
          let home_is : home ≡ shard_of issuer (card_asked asked) = called.home_is ∙ ap (shard_of issuer) name_is in
          record {
            home = λ at.
                let same : number ≡ home = sym at ∙ sym home_is in
                let old_at : old ≡ before = same_Some old before (sym called.old_is ∙ subst (λ number. slice_get shards number ≡ Some before) same before_is) in
                let new_at = there after (subst (λ number. slice_get (set shards home new) number ≡ Some after) same after_is) in
                let stands = (stand.each number before book before_is book_is).stands in
                subst (λ (after : Shard S G). LeavesTail (record_asked issuer book.history asked) book.history tail answer after) new_at
                (leaves book.history tail (subst (λ (shard : Shard S G). StandsFor issuer shard book.history) (sym old_at) stands)
                (subst (λ (shard : Shard S G). HasTail shard book.history tail) (sym old_at) has));
            other = λ apart.
                let same : before ≡ after = same_Some before after (sym before_is
                ∙ there-other number after (λ at. apart (sym (at ∙ home_is))) after_is) in
                subst (λ (shard : Shard S G). HasTail shard book.history tail) same has;
          }
