-- What a call of one shard of a node does to its shards: what they hold, and what a crash may leave.
use Rattle.std.proofs.Common.{◌≡◌, ◌≢◌, ℕ, ◌<◌, Bool, true, false, List, length, set, Some, Ok, Err, Result, MatchBool, inl, inr, refl, sym, ap, subst, ◌∙◌, arith, eq-eqb}
use Rattle.std.proofs.lemmas.Bool.{cases_eq, ne_eqb}
use Rattle.std.proofs.lemmas.Option.{same_Some, slice_get_within}
use Rattle.std.proofs.Math.ListN.{length-set}
use Rattle.std.specs.List.{slice_get}
use Rattle.issuer_base.specs.Stores.{BothTold, LeavesOnly}
use Rattle.issuer_base.specs.declared.entry.Entry.{Entry}
use Rattle.issuer_base.specs.declared.outside.store.Store.{Ghosts}
use Rattle.issuer_base.proofs.ManyCalls.{CountsFaults-no_call, CountsFaults-then}
use Rattle.issuer_base.proofs.Moments.{LeavesOnly-then, LeavesOnly-weaker}
use Rattle.issuer_base.proofs.ToldTwice.{BothTold-then, BothTold-weaker}
use Rattle.issuer_setup.specs.IssuerSetup.{Setup}
use Rattle.shard_book.specs.declared.shard.Shard.{Shard}
use Rattle.shard_book.specs.Answering.{reported_after}
use Rattle.shard_book.specs.Calls.{KeepsCall}
use Rattle.shard_book.specs.Grounds.{IsImageOf, grounds_of}
use Rattle.shard_book.specs.Histories.{GoesOn}
use Rattle.shard_book.specs.Shards.{HoldsHistory, IsSettled, IsUnder, IsUndoubted, disk_in, number_in, places_in}
use Rattle.shard_book.specs.Taking.{IsReplicaOf}
use Rattle.shard_book.proofs.Histories.{goes-none, goes-then}
use Rattle.shard_book.proofs.Replicas.{stands-replica}
use Rattle.shard_book.proofs.ShardSteps.{crash-no_call}
use Rattle.host_loading.specs.Hosts.{AreShards}
use Rattle.host_loading.proofs.Places.{read-other, read-within, read-written}
use Rattle.standby_node.specs.declared.line.FeedFault.{FeedFault}
use Rattle.standby_node.specs.declared.line.FeedFault.TheVariants.{StoreFault}
use Rattle.standby_node.specs.Standing.{Hold, IsReplicaBetween, KeepsShards, LeavesBetween, fails_at}

-- an image of a history is one between it and a longer one
image-between : (issuer : Setup) (shard : ℕ) (first last : List Entry) → GoesOn first last → (image : List ℕ)
    → IsImageOf (grounds_of issuer) shard first image → IsReplicaBetween issuer shard first last image
image-between issuer shard first last on image is = record { between = first; from_first = goes-none first; to_last = on; image_is = is }

-- an image between two histories is one between an earlier and a later one
image-wider : (issuer : Setup) (shard : ℕ) (first was is last : List Entry) → GoesOn first was → GoesOn is last → (image : List ℕ)
    → IsReplicaBetween issuer shard was is image → IsReplicaBetween issuer shard first last image
image-wider issuer shard first was is last earlier later image it = record {
  between = it.between;
  from_first = goes-then first was it.between earlier it.from_first;
  to_last = goes-then it.between is last it.to_last later;
  image_is = it.image_is;
}

module _ {S : Type 0} {G : Ghosts S} (issuer : Setup) where
  -- ---- what is kept

  keeps-none : (shard : Shard S G) → IsUnder issuer shard → KeepsCall issuer shard false shard
  keeps-none shard under = record {
    counts = CountsFaults-no_call _;
    told_is = refl;
    undoubted = λ undoubted. undoubted;
    under = under;
    number_is = refl;
  }

  keeps-then : (a b c : Shard S G) (failed : Bool) → KeepsCall issuer a false b → KeepsCall issuer b failed c → KeepsCall issuer a failed c
  keeps-then a b c failed first second = record {
    counts = CountsFaults-then _ _ _ false failed first.counts second.counts;
    told_is = second.told_is ∙ ap (λ (told : ℕ). reported_after told failed) first.told_is;
    undoubted = λ undoubted. second.undoubted (first.undoubted undoubted);
    under = second.under;
    number_is = second.number_is ∙ first.number_is;
  }

  -- no shard is called
  pub shards-same : (shards : List (Shard S G)) (result : Result (Unit {0}) FeedFault) → AreShards issuer shards
      → ((number : ℕ) → fails_at result number ≡ false) → KeepsShards issuer shards result shards
  shards-same shards result are none = record {
    shards = are;
    each = λ number before after before_is after_is.
        subst (λ (failed : Bool). KeepsCall issuer before failed after) (sym (none number))
        (subst (λ (after : Shard S G). KeepsCall issuer before false after) (same_Some before after (sym before_is ∙ after_is))
        (keeps-none before (are.under number before before_is)));
  }

  pub shards-then : (a b c : List (Shard S G)) (result : Result (Unit {0}) FeedFault) → KeepsShards issuer a (Ok tt) b
      → KeepsShards issuer b result c → KeepsShards issuer a result c
  shards-then a b c result first second = record {
    shards = second.shards;
    each = λ number before after before_is after_is.
        let within = slice_get_within c number after after_is in
        let count = first.shards.count_is in
        let last = second.shards.count_is in
        let mid = read-within b number (omega (arith, within, count, last)) in
        keeps-then before mid.0 after (fails_at result number) (first.each number before mid.0 before_is mid.1)
        (second.each number mid.0 after mid.1 after_is);
  }

  module _ (shards : List (Shard S G)) (are : AreShards issuer shards) (number : ℕ) (old new : Shard S G)
      (old_is : slice_get shards number ≡ Some old) where
    within : number < length shards
    within = slice_get_within shards number old old_is

    -- what is there after the call
    there : (shard : Shard S G) → slice_get (set shards number new) number ≡ Some shard → new ≡ shard
    there shard is = same_Some new shard (sym (read-written shards number new within) ∙ is)

    there-other : (other : ℕ) (shard : Shard S G) → other ≢ number → slice_get (set shards number new) other ≡ Some shard
        → slice_get shards other ≡ Some shard
    there-other other shard apart is = sym (read-other shards number new other apart) ∙ is

    at-number : (other : ℕ) (shard : Shard S G) → other ≡ number → slice_get (set shards number new) other ≡ Some shard → new ≡ shard
    at-number other shard same is = there shard (subst (λ (n : ℕ). slice_get (set shards number new) n ≡ Some shard) same is)

    -- the shards are the issuer's as before
    pub shards-set : (result : Result (Unit {0}) FeedFault) → KeepsCall issuer old (fails_at result number) new
        → ((other : ℕ) → other ≢ number → fails_at result other ≡ false) → KeepsShards issuer shards result (set shards number new)
    shards-set result keeps none = record {
      shards = record {
        count_is = length-set shards number new ∙ are.count_is;
        numbers_are = λ other shard is.
            elim (cases_eq other number) [
              | inl same ↦ ap number_in (sym (at-number other shard same is)) ∙ keeps.number_is ∙ are.numbers_are number old old_is ∙ sym same
              | inr apart ↦ are.numbers_are other shard (there-other other shard apart is)
            ];
        under = λ other shard is.
            elim (cases_eq other number) [
              | inl same ↦ subst (IsUnder issuer) (at-number other shard same is) keeps.under
              | inr apart ↦ are.under other shard (there-other other shard apart is)
            ];
        undoubted = λ other shard is.
            elim (cases_eq other number) [
              | inl same ↦ subst IsUndoubted (at-number other shard same is) (keeps.undoubted (are.undoubted number old old_is))
              | inr apart ↦ are.undoubted other shard (there-other other shard apart is)
            ];
      };
      each = λ other before after before_is after_is.
          elim (cases_eq other number) [
            | inl same ↦
                let was : old ≡ before =
                same_Some old before (sym old_is ∙ subst (λ (n : ℕ). slice_get shards n ≡ Some before) same before_is) in
                subst (λ (n : ℕ). KeepsCall issuer before (fails_at result n) after) (sym same)
                (subst (λ (before : Shard S G). KeepsCall issuer before (fails_at result number) after) was
                (subst (λ (after : Shard S G). KeepsCall issuer old (fails_at result number) after) (at-number other after same after_is) keeps))
            | inr apart ↦
                let is = there-other other after apart after_is in
                subst (λ (failed : Bool). KeepsCall issuer before failed after) (sym (none other apart))
                (subst (λ (after : Shard S G). KeepsCall issuer before false after) (same_Some before after (sym before_is ∙ is))
                (keeps-none before (are.under other before before_is)))
          ];
    }

    -- its store failed
    pub shards-failed : KeepsCall issuer old true new → KeepsShards issuer shards (Err (StoreFault number)) (set shards number new)
    shards-failed keeps =
        shards-set (Err (StoreFault number)) (subst (λ (failed : Bool). KeepsCall issuer old failed new) (sym (eq-eqb number number refl)) keeps)
        (λ other apart. ne_eqb other number apart)

    -- what the shards hold after the call
    pub hold-set : (histories : List (List Entry)) (in_doubt doubted : ℕ → Bool) (after : List Entry) → Hold issuer in_doubt shards histories
        → ((other : ℕ) → other ≢ number → in_doubt other ≡ doubted other)
        → MatchBool (doubted number) (IsReplicaOf issuer new after) (IsSettled issuer new after)
        → Hold issuer doubted (set shards number new) (set histories number after)
    hold-set histories in_doubt doubted after hold others holds = record {
      count_is = length-set histories number after ∙ hold.count_is ∙ sym (length-set shards number new);
      each = λ other shard history shard_is history_is.
          let few = within in
          let count = hold.count_is in
          let history_within : number < length histories = omega (arith, few, count) in
          elim (cases_eq other number) [
            | inl same ↦
                let its : after ≡ history = same_Some after history (sym (read-written histories number after history_within)
                ∙ subst (λ (n : ℕ). slice_get (set histories number after) n ≡ Some history) same history_is) in
                subst (λ (n : ℕ). MatchBool (doubted n) (IsReplicaOf issuer shard history) (IsSettled issuer shard history)) (sym same)
                (subst (λ (history : List Entry). MatchBool (doubted number) (IsReplicaOf issuer shard history) (IsSettled issuer shard history)) its
                (subst (λ (shard : Shard S G). MatchBool (doubted number) (IsReplicaOf issuer shard after) (IsSettled issuer shard after))
                (at-number other shard same shard_is) holds))
            | inr apart ↦
                subst (λ (b : Bool). MatchBool b (IsReplicaOf issuer shard history) (IsSettled issuer shard history)) (others other apart)
                (hold.each other shard history (there-other other shard apart shard_is)
                (sym (read-other histories number after other apart) ∙ history_is))
          ];
    }

  -- ---- what a crash may leave

  -- a settled shard is a replica
  pub replica-by : (shard : Shard S G) (history : List Entry) (b : Bool)
      → MatchBool b (IsReplicaOf issuer shard history) (IsSettled issuer shard history) → IsReplicaOf issuer shard history
  replica-by shard history true holds = holds
  replica-by shard history false holds = stands-replica issuer shard history holds.stands

  pub settled-by : (shard : Shard S G) (history : List Entry) (b : Bool) → IsSettled issuer shard history
      → MatchBool b (IsReplicaOf issuer shard history) (IsSettled issuer shard history)
  settled-by shard history true settled = stands-replica issuer shard history settled.stands
  settled-by shard history false settled = settled

  -- a shard has as many records as its history
  pub history-at : (shards : List (Shard S G)) (in_doubt : ℕ → Bool) (histories : List (List Entry)) → Hold issuer in_doubt shards histories
      → (number : ℕ) (shard : Shard S G) → slice_get shards number ≡ Some shard
      → (history : List Entry) × (slice_get histories number ≡ Some history) × (places_in shard ≡ length history)
  history-at shards in_doubt histories hold number shard shard_is =
      let within = slice_get_within shards number shard shard_is in
      let count = hold.count_is in
      let found = read-within histories number (omega (arith, within, count)) in (
        found.0,
        found.1,
        (replica-by shard found.0 (in_doubt number) (hold.each number shard found.0 shard_is found.1)).journal_holds.holds.count_is,
      )

  between : (number : ℕ) (before after : Shard S G) (first last : List Entry) → GoesOn first last
      → BothTold (LeavesOnly (IsImageOf (grounds_of issuer) number first)) (disk_in before) (disk_in after)
      → BothTold (LeavesOnly (IsReplicaBetween issuer number first last)) (disk_in before) (disk_in after)
  between number before after first last on =
      BothTold-weaker (LeavesOnly (IsImageOf (grounds_of issuer) number first)) (LeavesOnly (IsReplicaBetween issuer number first last))
      (disk_in before) (disk_in after)
      (λ x y only. LeavesOnly-weaker (IsImageOf (grounds_of issuer) number first) (IsReplicaBetween issuer number first last) x y
      (λ image is. image-between issuer number first last on image is) only)

  -- a shard that isn't called
  leaves-uncalled : (number : ℕ) (shard : Shard S G) (history : List Entry) → number_in shard ≡ number → IsReplicaOf issuer shard history
      → BothTold (LeavesOnly (IsImageOf (grounds_of issuer) number history)) (disk_in shard) (disk_in shard)
  leaves-uncalled number shard history number_is replica =
      crash-no_call (grounds_of issuer) number shard.journal history
      (subst (λ (n : ℕ). HoldsHistory (grounds_of issuer) n shard.journal history) number_is replica.journal_holds)

  module _ (shards : List (Shard S G)) (are : AreShards issuer shards) (in_doubt : ℕ → Bool) (histories : List (List Entry))
      (hold : Hold issuer in_doubt shards histories) where
    uncalled : (number : ℕ) (before after : Shard S G) (was is : List Entry)
        → slice_get shards number ≡ Some before → slice_get shards number ≡ Some after
        → slice_get histories number ≡ Some was → slice_get histories number ≡ Some is
        → BothTold (LeavesOnly (IsReplicaBetween issuer number was is)) (disk_in before) (disk_in after)
    uncalled number before after was is before_is after_is was_is is_is =
        subst (λ (is : List Entry). BothTold (LeavesOnly (IsReplicaBetween issuer number was is)) (disk_in before) (disk_in after))
        (same_Some was is (sym was_is ∙ is_is))
        (subst (λ (after : Shard S G). BothTold (LeavesOnly (IsReplicaBetween issuer number was was)) (disk_in before) (disk_in after))
        (same_Some before after (sym before_is ∙ after_is))
        (between number before before was was (goes-none was)
        (leaves-uncalled number before was (are.numbers_are number before before_is)
        (replica-by before was (in_doubt number) (hold.each number before was before_is was_is)))))

    same-extended : (number : ℕ) (was is : List Entry) → slice_get histories number ≡ Some was → slice_get histories number ≡ Some is → GoesOn was is
    same-extended number was is was_is is_is = subst (GoesOn was) (same_Some was is (sym was_is ∙ is_is)) (goes-none was)

    -- no shard is called
    pub leaves-same : LeavesBetween issuer histories histories shards shards
    leaves-same = record { count_is = refl; extended = same-extended; leaves = uncalled }

    -- one is
    pub leaves-set : (number : ℕ) (old new : Shard S G) (first last : List Entry) → slice_get shards number ≡ Some old
        → slice_get histories number ≡ Some first → GoesOn first last
        → BothTold (LeavesOnly (IsImageOf (grounds_of issuer) number first)) (disk_in old) (disk_in new)
        → LeavesBetween issuer histories (set histories number last) shards (set shards number new)
    leaves-set number old new first last old_is first_is on leaves =
        let history_within = slice_get_within histories number first first_is in
        record {
          count_is = length-set histories number last;
          extended = λ other was is was_is is_is.
              elim (cases_eq other number) [
                | inl same ↦
                    let ends : last ≡ is = same_Some last is (sym (read-written histories number last history_within)
                    ∙ subst (λ (n : ℕ). slice_get (set histories number last) n ≡ Some is) same is_is) in
                    let begins : first ≡ was = same_Some first was (sym first_is ∙ subst (λ (n : ℕ). slice_get histories n ≡ Some was) same was_is) in
                    subst (λ (was : List Entry). GoesOn was is) begins (subst (GoesOn first) ends on)
                | inr apart ↦ same-extended other was is was_is (sym (read-other histories number last other apart) ∙ is_is)
              ];
          leaves = λ other before after was is before_is after_is was_is is_is.
              elim (cases_eq other number) [
                | inl same ↦
                    let ends : last ≡ is = same_Some last is (sym (read-written histories number last history_within)
                    ∙ subst (λ (n : ℕ). slice_get (set histories number last) n ≡ Some is) same is_is) in
                    let begins : first ≡ was = same_Some first was (sym first_is ∙ subst (λ (n : ℕ). slice_get histories n ≡ Some was) same was_is) in
                    let was_shard : old ≡ before =
                    same_Some old before (sym old_is ∙ subst (λ (n : ℕ). slice_get shards n ≡ Some before) same before_is) in
                    let is_shard = at-number shards are number old new old_is other after same after_is in
                    subst (λ (n : ℕ). BothTold (LeavesOnly (IsReplicaBetween issuer n was is)) (disk_in before) (disk_in after)) (sym same)
                    (subst (λ (was : List Entry). BothTold (LeavesOnly (IsReplicaBetween issuer number was is)) (disk_in before) (disk_in after)) begins
                    (subst (λ (is : List Entry). BothTold (LeavesOnly (IsReplicaBetween issuer number first is)) (disk_in before) (disk_in after)) ends
                    (subst (λ (before : Shard S G). BothTold (LeavesOnly (IsReplicaBetween issuer number first last)) (disk_in before) (disk_in after)) was_shard
                    (subst (λ (after : Shard S G). BothTold (LeavesOnly (IsReplicaBetween issuer number first last)) (disk_in old) (disk_in after)) is_shard
                    (between number old new first last on leaves)))))
                | inr apart ↦
                    uncalled other before after was is before_is (there-other shards are number old new old_is other after apart after_is) was_is
                    (sym (read-other histories number last other apart) ∙ is_is)
              ];
        }

  -- calls, and then more calls
  pub leaves-then : (first mid last : List (List Entry)) (a b c : List (Shard S G)) (in_doubt : ℕ → Bool) → Hold issuer in_doubt b mid
      → LeavesBetween issuer first mid a b → LeavesBetween issuer mid last b c → LeavesBetween issuer first last a c
  leaves-then first mid last a b c in_doubt hold one two =
      let one_count = one.count_is in
      let between_is = λ (number : ℕ) (was : List Entry) (was_is : slice_get first number ≡ Some was).
      read-within mid number (let within = slice_get_within first number was was_is in omega (arith, within, one_count)) in
      record {
        count_is = two.count_is ∙ one.count_is;
        extended = λ number was is was_is is_is.
            let among = between_is number was was_is in
            goes-then was among.0 is (one.extended number was among.0 was_is among.1) (two.extended number among.0 is among.1 is_is);
        leaves = λ number before after was is before_is after_is was_is is_is.
            let among = between_is number was was_is in
            let within = slice_get_within mid number among.0 among.1 in
            let count = hold.count_is in
            let shard = read-within b number (omega (arith, within, count)) in
            let earlier = one.extended number was among.0 was_is among.1 in
            let later = two.extended number among.0 is among.1 is_is in
            BothTold-then (LeavesOnly (IsReplicaBetween issuer number was among.0)) (LeavesOnly (IsReplicaBetween issuer number among.0 is))
            (LeavesOnly (IsReplicaBetween issuer number was is)) (disk_in before) (disk_in shard.0) (disk_in after)
            (λ x y z early late.
            LeavesOnly-then (IsReplicaBetween issuer number was is) x y z
            (LeavesOnly-weaker (IsReplicaBetween issuer number was among.0) (IsReplicaBetween issuer number was is) x y
            (λ image it. image-wider issuer number was was among.0 is (goes-none was) later image it) early)
            (LeavesOnly-weaker (IsReplicaBetween issuer number among.0 is) (IsReplicaBetween issuer number was is) y z
            (λ image it. image-wider issuer number was among.0 is is earlier (goes-none is) image it) late))
            (one.leaves number before shard.0 was among.0 before_is shard.1 was_is among.1)
            (two.leaves number shard.0 after among.0 is shard.1 after_is among.1 is_is);
      }
