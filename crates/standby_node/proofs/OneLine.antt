-- What a whole line does to the shards of a node, by what the shard that it names does with its record.
use Rattle.std.proofs.Common.{◌≡◌, ◌≢◌, ℕ, ◌<◌, ◌==◌, ◌||◌, Bool, true, false, List, [], ◌∷◌, ◌++◌, length, set, Some, Ok, Err, Result, MatchBool, ◌⊎◌, inl, inr, refl, sym, subst, ◌∙◌, arith, eq-eqb, length-append}
use Rattle.std.proofs.lemmas.Bool.{ne_eqb}
use Rattle.std.specs.List.{slice_get}
use Rattle.std.proofs.lemmas.Option.{same_Some, slice_get_within}
use Rattle.issuer_base.specs.Stores.{BothTold, LeavesOnly}
use Rattle.issuer_base.specs.declared.entry.Entry.{Entry}
use Rattle.issuer_base.specs.declared.outside.store.Store.{Ghosts}
use Rattle.issuer_setup.specs.IssuerSetup.{Setup}
use Rattle.shard_book.specs.declared.shard.Shard.{Shard}
use Rattle.shard_book.specs.declared.taking.TakeFault.{TakeFault}
use Rattle.shard_book.specs.declared.taking.TakeFault.TheVariants.{NotLegal, StoreFault as StoreFailed}
use Rattle.shard_book.specs.Grounds.{IsImageOf, grounds_of}
use Rattle.journal_rec.specs.RecordText.{text_of}
use Rattle.shard_book.specs.Shards.{HasTail, IsSettled, disk_in, places_in}
use Rattle.shard_book.specs.Taking.{IsReplicaOf, LeavesReplicas}
use Rattle.shard_book.specs.Histories.{GoesOn}
use Rattle.shard_book.proofs.Histories.{goes-none}
use Rattle.feed_text.specs.FeedText.{HasHead}
use Rattle.feed_text.specs.declared.limits.TheConstants.{MOST_FEED_BYTES}
use Rattle.host_loading.specs.Hosts.{AreShards}
use Rattle.host_loading.proofs.Places.{read-within, read-written, write-same}
use Rattle.standby_node.specs.declared.line.FeedFault.{FeedFault}
use Rattle.standby_node.specs.declared.line.FeedFault.TheVariants.{BadFeed, StoreFault}
use Rattle.standby_node.specs.FeedLines.{IsBadLine, IsFor, IsLegalLine, IsNext}
use Rattle.standby_node.specs.OneLine.{Does, IsNextOf, TakesAt}
use Rattle.standby_node.specs.ReadLines.{IsAt, IsBadAnyway, IsBehind, IsNoLine}
use Rattle.standby_node.specs.Standing.{Hold, LeavesBetween}
use Rattle.standby_node.proofs.Shards.{hold-set, leaves-same, leaves-set, replica-by, settled-by}

-- what a line does, and what a crash leaves meanwhile
abbrev pub DoesTo : {S : Type 0} {G : Ghosts S} → Setup → (ℕ → Bool) → List (List Entry) → List (Shard S G) → List ℕ → ℕ
    → Result (Unit {0}) FeedFault → List (Shard S G) → Type 0
DoesTo issuer in_doubt histories shards line number result new =
    (after : List (List Entry)) × Does issuer in_doubt histories line number result new after × LeavesBetween issuer histories after shards new

-- what the shard with this number does with its record, as what the line with the number `bad` does
abbrev pub done_by : ℕ → ℕ → Result (Unit {0}) TakeFault → Result (Unit {0}) FeedFault
done_by bad number (Ok done) = Ok tt
done_by bad number (Err NotLegal) = Err (BadFeed bad)
done_by bad number (Err StoreFailed) = Err (StoreFault number)

-- a flag is raised at one number alone
raised-other : (flags : ℕ → Bool) (number other : ℕ) → other ≢ number → flags other ≡ (flags other || (other == number))
raised-other flags number other apart = by (flags other) (other == number) (ne_eqb other number apart)
  where
    by : (flag test : Bool) → test ≡ false → flag ≡ (flag || test)
    by true test is = refl
    by false test is = sym is

raised-at : (flag : Bool) (number : ℕ) → (flag || (number == number)) ≡ true
raised-at true number = refl
raised-at false number = eq-eqb number number refl

module _ {S : Type 0} {G : Ghosts S} (issuer : Setup) (shards : List (Shard S G)) (are : AreShards issuer shards) (in_doubt : ℕ → Bool)
    (histories : List (List Entry)) (hold : Hold issuer in_doubt shards histories) (line : List ℕ) (bad : ℕ) where
  -- a line that is bad whatever its shard holds
  pub line-bad : IsBadLine issuer histories line → DoesTo issuer in_doubt histories shards line bad (Err (BadFeed bad)) shards
  line-bad is_bad = (histories, (refl, refl, is_bad, hold), leaves-same issuer shards are in_doubt histories hold)

  -- a line for a shard
  module _ (short : length line < MOST_FEED_BYTES) (number place : ℕ) (rest : List ℕ) (head : HasHead line number place rest) (old new : Shard S G)
      (old_is : slice_get shards number ≡ Some old) (crash : LeavesReplicas issuer old new) (history : List Entry)
      (history_is : slice_get histories number ≡ Some history) where
    replica : IsReplicaOf issuer old history
    replica = replica-by issuer old history (in_doubt number) (hold.each number old history old_is history_is)

    is_for : (at : ℕ) → at ≡ place → IsFor histories line number at rest history
    is_for at same = record {
      short = let size = length-append line (10 ∷ []) in omega (arith, size, short);
      head = subst (λ (at : ℕ). HasHead line number at rest) (sym same) head;
      history_is = history_is;
    }

    leaves : (last : List Entry) → GoesOn history last → LeavesBetween issuer histories (set histories number last) shards (set shards number new)
    leaves last on =
        leaves-set issuer shards are in_doubt histories hold number old new history last old_is history_is on
        (subst (λ (n : ℕ). BothTold (LeavesOnly (IsImageOf (grounds_of issuer) n history)) (disk_in old) (disk_in new))
        (are.numbers_are number old old_is) (crash history replica))

    -- the history stays
    stays : set histories number history ≡ histories
    stays = write-same histories number history history history_is refl

    -- the shard is as it was
    hold-same : new ≡ old → Hold issuer in_doubt (set shards number new) (set histories number history)
    hold-same same =
        hold-set issuer shards are number old new old_is histories in_doubt in_doubt history hold (λ other apart. refl)
        (subst (λ (shard : Shard S G). MatchBool (in_doubt number) (IsReplicaOf issuer shard history) (IsSettled issuer shard history)) (sym same)
        (hold.each number old history old_is history_is))

    legal-line : (entry : Entry) → IsNextOf issuer old history place rest entry → IsNext issuer histories line number history entry
    legal-line entry next = record {
      rest = rest;
      is_for = is_for (length history) (sym next.place_is);
      legal_line = subst (λ (n : ℕ). IsLegalLine issuer n history rest entry) (are.numbers_are number old old_is) next.legal_line;
    }

    line-done : TakesAt issuer old history place rest (Ok tt) new → DoesTo issuer in_doubt histories shards line bad (Ok tt) (set shards number new)
    line-done (inl (elsewhere, same)) = (
      set histories number history,
      (
        inl (record { shard = number; place = place; rest = rest; history = history; is_for = is_for place refl; elsewhere = elsewhere }, stays),
        hold-same same,
      ),
      leaves history (goes-none history),
    )
    line-done (inr records) = (
      set histories number (history ++ records.entry ∷ []),
      (
        inr (record { shard = number; history = history; entry = records.entry; next = legal-line records.entry records.next; after_is = refl }),
        hold-set issuer shards are number old new old_is histories in_doubt in_doubt (history ++ records.entry ∷ []) hold (λ other apart. refl)
            (settled-by issuer new (history ++ records.entry ∷ []) (in_doubt number) records.settled),
      ),
      leaves (history ++ records.entry ∷ []) (records.entry ∷ [], refl),
    )

    line-refused : TakesAt issuer old history place rest (Err NotLegal) new
        → DoesTo issuer in_doubt histories shards line bad (Err (BadFeed bad)) (set shards number new)
    line-refused refused = (
      set histories number history,
      (
        refl,
        stays,
        inr (inr (inr (record {
          shard = number;
          history = history;
          rest = rest;
          is_for = is_for (length history) (sym refused.place_is);
          none = λ entry legal. refused.none entry
              (subst (λ (n : ℕ). IsLegalLine issuer n history rest entry) (sym (are.numbers_are number old old_is)) legal);
        }))),
        hold-same refused.same,
      ),
      leaves history (goes-none history),
    )

    line-failed : TakesAt issuer old history place rest (Err StoreFailed) new
        → DoesTo issuer in_doubt histories shards line bad (Err (StoreFault number)) (set shards number new)
    line-failed fails = (
      set histories number history,
      (
        stays,
        record { history = history; entry = fails.entry; next = legal-line fails.entry fails.next },
        hold-set issuer shards are number old new old_is histories in_doubt (λ other. in_doubt other || (other == number)) history hold
            (raised-other in_doubt number)
            (subst (λ (b : Bool). MatchBool b (IsReplicaOf issuer new history) (IsSettled issuer new history))
            (sym (raised-at (in_doubt number) number)) fails.replica),
        λ none shard shard_is.
            let within = slice_get_within shards number old old_is in
            let its : new ≡ shard = same_Some new shard (sym (read-written shards number new within) ∙ shard_is) in
            let settled = subst (λ (b : Bool). MatchBool b (IsReplicaOf issuer old history) (IsSettled issuer old history)) none
            (hold.each number old history old_is history_is) in
            subst (λ (s : Shard S G). HasTail s history [] ⊎ HasTail s history (text_of fails.entry)) its
            (fails.in_hand settled.settled),
      ),
      leaves history (goes-none history),
    )

  pub line-done_by : length line < MOST_FEED_BYTES → (number place : ℕ) (rest : List ℕ) → HasHead line number place rest → (old new : Shard S G)
      → slice_get shards number ≡ Some old → LeavesReplicas issuer old new → (result : Result (Unit {0}) TakeFault)
      → ((history : List Entry) → IsReplicaOf issuer old history → TakesAt issuer old history place rest result new)
      → DoesTo issuer in_doubt histories shards line bad (done_by bad number result) (set shards number new)
  line-done_by short number place rest head old new old_is crash result taken =
      let within = slice_get_within shards number old old_is in
      let count = hold.count_is in
      let found = read-within histories number (omega (arith, within, count)) in
      by found.0 found.1 result
      (taken found.0 (replica short number place rest head old new old_is crash found.0 found.1))
    where
      by : (history : List Entry) → slice_get histories number ≡ Some history → (result : Result (Unit {0}) TakeFault)
          → TakesAt issuer old history place rest result new
          → DoesTo issuer in_doubt histories shards line bad (done_by bad number result) (set shards number new)
      by history history_is (Ok done) = line-done short number place rest head old new old_is crash history history_is
      by history history_is (Err NotLegal) = line-refused short number place rest head old new old_is crash history history_is
      by history history_is (Err StoreFailed) = line-failed short number place rest head old new old_is crash history history_is

  -- a line whose index its shard has
  pub line-behind : IsBehind histories line → DoesTo issuer in_doubt histories shards line bad (Ok tt) shards
  line-behind is =
      let behind = is.behind in (
        histories,
        (
          inl (
            record {
              shard = is.shard;
              place = is.place;
              rest = is.rest;
              history = is.history;
              is_for = is.is_for;
              elsewhere = λ same. omega (arith, same, behind);
            },
            refl,
          ),
          hold,
        ),
        leaves-same issuer shards are in_doubt histories hold,
      )

  pub line-bad_anyway : IsBadAnyway histories line → DoesTo issuer in_doubt histories shards line bad (Err (BadFeed bad)) shards
  line-bad_anyway (inl long) = line-bad (inl long)
  line-bad_anyway (inr (inl none)) = line-bad (inr (inl none))
  line-bad_anyway (inr (inr names)) = line-bad (inr (inr (inl names)))

  -- what follows the index of a line isn't the line of a record that is taken
  module _ (number place : ℕ) (IsRest : List ℕ → Type 0) (at : IsAt histories line number place IsRest) (shard : Shard S G)
      (shard_is : slice_get shards number ≡ Some shard) where
    many : places_in shard ≡ length at.history
    many =
        let replica = replica-by issuer shard at.history (in_doubt number) (hold.each number shard at.history shard_is at.is_for.history_is) in
        replica.journal_holds.holds.count_is

    pub line-elsewhere : place ≢ places_in shard → DoesTo issuer in_doubt histories shards line bad (Ok tt) shards
    line-elsewhere apart = (
      histories,
      (
        inl (
          record {
            shard = number;
            place = place;
            rest = at.rest;
            history = at.history;
            is_for = at.is_for;
            elsewhere = λ same. apart (same ∙ sym many);
          },
          refl,
        ),
        hold,
      ),
      leaves-same issuer shards are in_doubt histories hold,
    )

    pub line-no_record : IsNoLine at.rest → place ≡ places_in shard → DoesTo issuer in_doubt histories shards line bad (Err (BadFeed bad)) shards
    line-no_record none same =
        line-bad (inr (inr (inr (record {
          shard = number;
          history = at.history;
          rest = at.rest;
          is_for = subst (λ (p : ℕ). IsFor histories line number p at.rest at.history) (same ∙ many) at.is_for;
          none = λ entry legal. none entry legal.line_is;
        }))))
