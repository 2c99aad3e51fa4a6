-- The journals of the first shards are filed, and one more.
use Rattle.std.proofs.Common.{◌≡◌, ◌≢◌, ℕ, zero, suc, ◌+◌, ◌<◌, ◌≤◌, Bool, false, ◌&&◌, List, [], ◌∷◌, ◌++◌, length, set, length-set}
use Rattle.std.proofs.Common.{None, Some, Err, refl, sym, ap, subst, ◌∙◌, arith, inl, inr, eq-eqb}
use Rattle.std.specs.List.{slice_get}
use Rattle.std.proofs.lemmas.Bool.{cases_eq, ne_eqb}
use Rattle.std.proofs.lemmas.List.{length_push}
use Rattle.std.proofs.lemmas.List.Elements.{All-nil}
use Rattle.std.proofs.lemmas.Option.{same_Some, slice_get_within}
use Rattle.issuer_base.specs.OutsideFaults.{CountsFaults}
use Rattle.issuer_base.specs.declared.entry.Entry.{Entry}
use Rattle.issuer_base.specs.declared.outside.store.Store.{Ghosts}
use Rattle.issuer_base.proofs.ManyCalls.{CountsFaults-no_call}
use Rattle.issuer_setup.specs.IssuerSetup.{Setup}
use Rattle.shard_book.specs.Loads.{IsOnlyRead}
use Rattle.host_loading.specs.Loading.{AreOnlyRead}
use Rattle.host_loading.proofs.Loads.{none-read}
use Rattle.host_loading.proofs.Places.{read-other, read-written}
use Rattle.clearing_check.specs.declared.filed.Filed.{Filed}
use Rattle.journal_reader.specs.declared.filing.FilingFault.{FilingFault}
use Rattle.journal_reader.specs.declared.filing.NotFiled.{NotFiled}
use Rattle.journal_reader.specs.Filing.{AreBefore, CountAt, FilesBefore, FilesJournal, HasRecords, IsSpared, StopsFiling}
use Rattle.journal_reader.specs.Filing.{HoldsHistory, fails_at, filed_in, filed_records, is_bad, is_store_fault}
use Rattle.journal_reader.proofs.Filed.{all-more}

-- ---- lists with one more, and with one changed

pub get-front : {X : Type 0} (xs ys : List X) (n : ℕ) → n < length xs → slice_get (xs ++ ys) n ≡ slice_get xs n
get-front [] ys n below = absurd (omega arith)
get-front (x ∷ xs) ys zero below = refl
get-front (x ∷ xs) ys (suc n) below = get-front xs ys n (omega arith)

pub get-last : {X : Type 0} (xs : List X) (x : X) → slice_get (xs ++ x ∷ []) (length xs) ≡ Some x
get-last [] x = refl
get-last (first ∷ xs) x = get-last xs x

module _ {S : Type 0} (olds read : List S) (place : ℕ) (old then : S) (count : length read ≡ length olds)
    (old_is : slice_get olds place ≡ Some old) where
  -- what is true of one store, and of each other, is true of each
  pub each-set : (P : ℕ → S → S → Type 0) → P place old then
      → ((number : ℕ) (other other_then : S) → number ≢ place → slice_get olds number ≡ Some other
      → slice_get read number ≡ Some other_then → P number other other_then)
      → (number : ℕ) (other other_then : S) → slice_get olds number ≡ Some other
      → slice_get (set read place then) number ≡ Some other_then → P number other other_then
  each-set P here others number other other_then is then_is =
      elim (cases_eq number place) [
        | inl same ↦
            let within : place < length read = (let below = slice_get_within olds place old old_is in omega (arith, below, count)) in
            let its : old ≡ other = same_Some old other (sym old_is ∙ subst (λ n. slice_get olds n ≡ Some other) same is) in
            let its_then : then ≡ other_then = same_Some then other_then (sym (read-written read place then within)
            ∙ subst (λ n. slice_get (set read place then) n ≡ Some other_then) same then_is) in
            subst (λ n. P n other other_then) (sym same)
            (subst (λ (s : S). P place s other_then) its (subst (λ (s : S). P place old s) its_then here))
        | inr apart ↦ others number other other_then apart is (sym (read-other read place then number apart) ∙ then_is)
      ]

-- ---- the first journals

module _ {S : Type 0} (G : Ghosts S) (issuer : Setup) where
  -- the journals of so many shards are filed, and the other stores weren't read
  pub record AreFiled (olds read : List S) (shard : ℕ) (book : List Filed) : Type 0 where
    pub histories : List (List Entry)
    pub count_is : length histories ≡ shard
    pub each : (number : ℕ) (store : S) (history : List Entry)
        → slice_get olds number ≡ Some store → slice_get histories number ≡ Some history
        → HasRecords (G.bytes store) history
    pub filed_are : book ≡ filed_records issuer histories
    pub before : AreBefore issuer shard book
    pub only : AreOnlyRead G.size G.bytes G.disk G.room olds read
    pub behind : (number : ℕ) → shard ≤ number → slice_get read number ≡ slice_get olds number
    pub counts : (number : ℕ) (was is : S) → slice_get olds number ≡ Some was → slice_get read number ≡ Some is
        → CountsFaults (G.faults was) (G.faults is) false

  pub are-none : (olds : List S) (book : List Filed) → book ≡ [] → AreFiled olds olds 0 book
  are-none olds book none = record {
    histories = [];
    count_is = refl;
    each = λ number store history store_is history_is. absurd (let e : None ≡ Some history = history_is in cc);
    filed_are = none;
    before = subst (AreBefore issuer 0) (sym none) (All-nil _);
    only = none-read G olds;
    behind = λ number past. refl;
    counts = λ number was is was_is is_is.
        subst (λ (s : S). CountsFaults (G.faults was) (G.faults s) false) (same_Some was is (sym was_is ∙ is_is))
        (CountsFaults-no_call (G.faults was));
  }

  module _ (olds read : List S) (shard : ℕ) (book : List Filed) (so_far : AreFiled olds read shard book) (old then : S)
      (old_is : slice_get read shard ≡ Some old) (only : IsOnlyRead G.size G.bytes G.disk G.room old then) where
    pub first_is : slice_get olds shard ≡ Some old
    first_is = sym (so_far.behind shard (omega arith)) ∙ old_is

    -- the stores after the next one was read
    pub only-set : AreOnlyRead G.size G.bytes G.disk G.room olds (set read shard then)
    only-set = record {
      count_is = length-set read shard then ∙ so_far.only.count_is;
      each = each-set olds read shard old then so_far.only.count_is first_is
          (λ number was is. IsOnlyRead G.size G.bytes G.disk G.room was is) only
          (λ number was is apart was_is is_is. so_far.only.each number was is was_is is_is);
    }

    -- the next journal is filed
    pub are-more : (book_then : List Filed) → FilesJournal issuer shard (G.bytes old) book book_then
        → (AreBefore issuer shard book → AreBefore issuer (shard + 1) book_then)
        → CountsFaults (G.faults old) (G.faults then) false
        → AreFiled olds (set read shard then) (shard + 1) book_then
    are-more book_then files before counts = record {
      histories = so_far.histories ++ files.history ∷ [];
      count_is = length_push so_far.histories files.history ∙ ap (λ n. n + 1) so_far.count_is;
      each = λ number store history store_is history_is.
          elim (cases_eq number shard) [
            | inl same ↦
                let its : old ≡ store = same_Some old store (sym first_is ∙ subst (λ n. slice_get olds n ≡ Some store) same store_is) in
                let at : slice_get (so_far.histories ++ files.history ∷ []) number ≡ Some files.history =
                ap (slice_get (so_far.histories ++ files.history ∷ [])) (same ∙ sym so_far.count_is)
                ∙ get-last so_far.histories files.history in
                let its_history : files.history ≡ history = same_Some files.history history (sym at ∙ history_is) in
                subst (λ (s : S). HasRecords (G.bytes s) history) its
                (subst (λ (h : List Entry). HasRecords (G.bytes old) h) its_history files.has)
            | inr apart ↦
                let within = slice_get_within (so_far.histories ++ files.history ∷ []) number history history_is in
                let long = length_push so_far.histories files.history in
                let count = so_far.count_is in
                so_far.each number store history store_is
                (sym (get-front so_far.histories (files.history ∷ []) number (omega (arith, within, long, count, apart)))
                ∙ history_is)
          ];
      filed_are =
          files.filed_are
          ∙ ap (λ l. l ++ filed_in issuer shard files.history) so_far.filed_are
          ∙ ap (λ n. filed_records issuer so_far.histories ++ filed_in issuer n files.history) (sym so_far.count_is)
          ∙ sym (all-more issuer so_far.histories files.history);
      before = before so_far.before;
      only = only-set;
      behind = λ number past.
          read-other read shard then number (λ same. absurd (omega arith))
          ∙ so_far.behind number (omega arith);
      counts = each-set olds read shard old then so_far.only.count_is first_is
          (λ number was is. CountsFaults (G.faults was) (G.faults is) false) counts
          (λ number was is apart was_is is_is. so_far.counts number was is was_is is_is);
    }

    -- or it isn't
    module _ (fault : FilingFault) (none : NotFiled) (none_is : none ≡ record { fault = fault; shard = shard }) where
      pub counts-failed : (failed : Bool) → failed ≡ is_store_fault {X = Unit {0}} (Err fault)
          → CountsFaults (G.faults old) (G.faults then) failed
          → CountAt G.faults olds (set read shard then) (fails_at {X = Unit {0}} (Err none))
      counts-failed failed failed_is counts =
          each-set olds read shard old then so_far.only.count_is first_is
          (λ number was is. CountsFaults (G.faults was) (G.faults is) (fails_at {X = Unit {0}} (Err none) number))
          (subst (CountsFaults (G.faults old) (G.faults then))
          (failed_is ∙ ap (λ b. b && is_store_fault {X = Unit {0}} (Err fault)) (sym (eq-eqb shard shard refl))
          ∙ ap (λ (n : NotFiled). fails_at {X = Unit {0}} (Err n) shard) (sym none_is)) counts)
          (λ number was is apart was_is is_is.
          subst (CountsFaults (G.faults was) (G.faults is))
          (ap (λ b. b && is_store_fault {X = Unit {0}} (Err fault)) (sym (ne_eqb shard number (λ same. apart (sym same))))
          ∙ ap (λ (n : NotFiled). fails_at {X = Unit {0}} (Err n) number) (sym none_is))
          (so_far.counts number was is was_is is_is))

      pub spares : ((history : List Entry) → HoldsHistory issuer shard (G.bytes old) history → AreBefore issuer shard book
          → is_bad fault ≡ false) → IsSpared G.bytes issuer olds shard fault
      spares exact = λ store history store_is holds.
          let its : store ≡ old = same_Some store old (sym store_is ∙ first_is) in
          exact history (subst (λ (s : S). HoldsHistory issuer shard (G.bytes s) history) its holds) so_far.before

      -- those before it are, and its first records
      pub files-before : (new : List Filed) → StopsFiling issuer shard (G.bytes old) book new fault
          → FilesBefore G.bytes issuer olds none new
      files-before new stops =
          subst (λ (n : NotFiled). FilesBefore G.bytes issuer olds n new) (sym none_is)
          (record {
            histories = so_far.histories;
            count_is = so_far.count_is;
            each = so_far.each;
            stops = λ store store_is.
                subst
                (λ (s : S). StopsFiling issuer shard (G.bytes s) (filed_records issuer so_far.histories) new fault)
                (same_Some old store (sym first_is ∙ store_is))
                (subst (λ (l : List Filed). StopsFiling issuer shard (G.bytes old) l new fault) so_far.filed_are stops);
          })
