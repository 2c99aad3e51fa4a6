-- The shards of a host once they were loaded at once, and the stores that are returned.
use Rattle.std.proofs.Common.{◌≡◌, ℕ, ◌<◌, false, List, [], ◌∷◌, ◌++◌, length, map, reverse, Option, None, Some, Result, Ok, Err, get_or}
use Rattle.std.proofs.Common.{refl, sym, ap, subst, ◌∙◌, inl, inr, arith, append_assoc}
use Rattle.std.specs.Prelude.{All, is_some, IfErr, IfSome, option_and_then, option_map, option_to_list, slice_get}
use Rattle.std.proofs.lemmas.List.{length-map, map-append, reverse-append}
use Rattle.std.proofs.lemmas.List.Elements.{All-pop}
use Rattle.std.proofs.lemmas.Option.{get_or_from_slice_get, same_Some, slice_get_within}
use Rattle.issuer_base.specs.declared.outside.store.Store.{Ghosts}
use Rattle.issuer_setup.specs.IssuerSetup.{Setup}
use Rattle.shard_book.specs.declared.replay.LoadFault.{LoadFault}
use Rattle.shard_book.specs.declared.shard.LoadBack.{LoadBack}
use Rattle.shard_book.specs.declared.shard.Shard.{Shard}
use Rattle.shard_book.specs.Loading.{is_store_failure}
use Rattle.shard_book.specs.Loads.{IsLoadedFrom, IsNotLoaded, IsOnlyRead}
use Rattle.host_loading.specs.declared.loading_together.Slot.{Slot}
use Rattle.host_loading.specs.Loading.{AreLoaded, AreOnlyRead, ComeBackTogether, IsGivenBack, IsLeftByLoad}
use Rattle.host_loading.specs.StoreRoom.{StoresHaveRoom}
use Rattle.host_loading.specs.Slots.{Came, HasEnded, HasTried, HaveTried, IsFirstFailed, fault_in, fault_of, left_in, loaded_as, store_of}
use Rattle.host_loading.proofs.Loads.{given-back}
use Rattle.host_loading.proofs.Places.{read-map, read-mapped, read-within}

-- ---- lists of which one loses its last element and another gains it

module _ {X : Type 0} where
  -- what was taken is the last one
  pub taken : (xs left : List X) (popped : Option X) (x : X) → xs ≡ left ++ option_to_list popped → popped ≡ Some x → xs ≡ left ++ x ∷ []
  taken xs left popped x parts is = parts ∙ ap (λ (popped : Option X). left ++ option_to_list popped) is

  -- and it has what all have
  pub taken-one : (P : X → Type 0) (xs left : List X) (popped : Option X) (x : X) → xs ≡ left ++ option_to_list popped → popped ≡ Some x
      → All P xs → All P left × P x
  taken-one P xs left popped x parts is all =
      let both = All-pop P xs left popped parts all in
      (both.0, subst (λ (popped : Option X). IfSome popped P) is both.1)

  -- what is left before what was taken is all
  pub moved-plain : (xs left : List X) (x : X) (ys new : List X) (all : List X) → xs ≡ left ++ x ∷ [] → new ≡ ys ++ x ∷ []
      → xs ++ reverse ys ≡ all → left ++ reverse new ≡ all
  moved-plain xs left x ys new all xs_are new_is before =
      ap (λ (new : List X). left ++ reverse new) new_is
      ∙ ap (λ (turned : List X). left ++ turned) (reverse-append ys (x ∷ []))
      ∙ sym (append_assoc left (x ∷ []) (reverse ys))
      ∙ ap (λ (xs : List X). xs ++ reverse ys) (sym xs_are) ∙ before

module _ {X Y : Type 0} where
  -- also where it is something else there
  pub moved : (f : Y → X) (xs left : List X) (x : X) (ys new : List Y) (y : Y) (all : List X) → xs ≡ left ++ x ∷ [] → new ≡ ys ++ y ∷ []
      → f y ≡ x → xs ++ map f (reverse ys) ≡ all → left ++ map f (reverse new) ≡ all
  moved f xs left x ys new y all xs_are new_is same before =
      ap (λ (new : List Y). left ++ map f (reverse new)) new_is
      ∙ ap (λ (turned : List Y). left ++ map f turned) (reverse-append ys (y ∷ []))
      ∙ ap (λ (x : X). left ++ x ∷ map f (reverse ys)) same
      ∙ sym (append_assoc left (x ∷ []) (map f (reverse ys)))
      ∙ ap (λ (xs : List X). xs ++ map f (reverse ys)) (sym xs_are) ∙ before

  pub mapped-last : (f : X → Y) (xs left : List X) (x : X) → xs ≡ left ++ x ∷ [] → map f xs ≡ map f left ++ f x ∷ []
  mapped-last f xs left x is = ap (map f) is ∙ map-append f left (x ∷ [])

-- ---- slots

-- the old stores in slots
abbrev pub old_stores : {S : Type 0} {G : Ghosts S} → List (Slot S G) → List S
old_stores slots = map (λ slot. slot.old_store) slots

-- a shard without a fault isn't one that wasn't loaded
pub not-failed : {S : Type 0} {G : Ghosts S} (loaded : Option (Result (Shard S G) (LoadBack S))) (outcome : Result (Shard S G) (LoadBack S))
    (back : LoadBack S) → option_and_then fault_of loaded ≡ None → loaded ≡ Some outcome → outcome ≡ Err back → ⊥
not-failed loaded outcome back none is failed =
    let e : None ≡ Some back.fault = sym none ∙ ap (option_and_then fault_of) (is ∙ ap Some failed) in cc

module _ {S : Type 0} {G : Ghosts S} (issuer : Setup) where
  -- a shard without a fault was loaded, and its store is given back
  given-so : (number : ℕ) (old old_then store after : S) (outcome : Result (Shard S G) (LoadBack S)) → Came issuer number old old_then store outcome
      → fault_of outcome ≡ None → store_of outcome ≡ after
      → IsGivenBack G.bytes G.disk G.faults issuer number old old_then store after
  given-so number old old_then store after (Ok shard) from none same =
      subst (IsGivenBack G.bytes G.disk G.faults issuer number old old_then store) same (given-back issuer number old old_then store shard from)
  given-so number old old_then store after (Err back) from none same = absurd (cc)

  -- one with a fault wasn't
  failed-so : (number : ℕ) (old old_then store after : S) (outcome : Result (Shard S G) (LoadBack S)) (fault : LoadFault)
      → Came issuer number old old_then store outcome → fault_of outcome ≡ Some fault → store_of outcome ≡ after
      → IsNotLoaded G.size G.bytes G.disk G.faults issuer number old store fault old_then after
  failed-so number old old_then store after (Ok shard) fault from is same = absurd (cc)
  failed-so number old old_then store after (Err back) fault from is same =
      subst (λ (fault : LoadFault). IsNotLoaded G.size G.bytes G.disk G.faults issuer number old store fault old_then after) (same_Some back.fault fault is)
      (subst (IsNotLoaded G.size G.bytes G.disk G.faults issuer number old store back.fault old_then) same from)

  -- and one or the other is so
  left-so : (number : ℕ) (old old_then store after : S) (outcome : Result (Shard S G) (LoadBack S)) → Came issuer number old old_then store outcome
      → store_of outcome ≡ after → IsLeftByLoad G.size G.bytes G.disk G.faults issuer number old old_then store after
  left-so number old old_then store after (Ok shard) from same = inl (given-so number old old_then store after (Ok shard) from refl same)
  left-so number old old_then store after (Err back) from same =
      inr (back.fault, failed-so number old old_then store after (Err back) back.fault from refl same)

  loaded-so : (number : ℕ) (old old_then store : S) (outcome : Result (Shard S G) (LoadBack S)) (shard : Shard S G)
      → Came issuer number old old_then store outcome → outcome ≡ Ok shard → IsLoadedFrom issuer number old old_then store shard
  loaded-so number old old_then store outcome shard from is = subst (Came issuer number old old_then store) is from

-- a fault isn't a store's if the stores have room
room-so : {S : Type 0} {G : Ghosts S} (outcome : Result (Shard S G) (LoadBack S)) (fault : LoadFault)
    → IfErr outcome (λ (back : LoadBack S). is_store_failure back.fault ≡ false) → fault_of outcome ≡ Some fault → is_store_failure fault ≡ false
room-so (Ok shard) fault works is = absurd (cc)
room-so (Err back) fault works is = subst (λ (fault : LoadFault). is_store_failure fault ≡ false) (same_Some back.fault fault is) works

module _ {S : Type 0} {G : Ghosts S} (issuer : Setup) (olds stores : List S) (waiting tried : List (Slot S G)) where
  -- the slots have what is left of these stores, each of which had its slot
  pub record AreSlotsOf : Type 0 where
    pub olds_are : map (λ (slot : Slot S G). slot.old_store) waiting ≡ olds
    pub stores_are : map (λ (slot : Slot S G). slot.store) waiting ≡ map (λ (store : S). Some store) stores
    pub count_is : length tried ≡ length waiting
    pub tried_are : HaveTried issuer waiting tried

  -- the slot of these stores
  record IsSlotOf (number : ℕ) (old old_then store : S) : Type 0 where
    slot : Slot S G
    slot_is : slice_get tried number ≡ Some slot
    then_is : slot.old_store ≡ old_then
    has : HasTried issuer number old store slot

  module _ (slots : AreSlotsOf) where
    pub olds-count : length olds ≡ length tried
    olds-count = sym (ap (λ (olds : List S). length olds) slots.olds_are)
        ∙ length-map waiting (λ (slot : Slot S G). slot.old_store) ∙ sym slots.count_is

    pub stores-count : length stores ≡ length tried
    stores-count = sym (length-map stores (λ (store : S). Some store)) ∙ sym (ap (λ (stores : List (Option S)). length stores) slots.stores_are)
        ∙ length-map waiting (λ (slot : Slot S G). slot.store) ∙ sym slots.count_is

    pub read-count : length (old_stores tried) ≡ length tried
    read-count = length-map tried (λ (slot : Slot S G). slot.old_store)

    slot-at : (number : ℕ) (old old_then store : S) → slice_get olds number ≡ Some old → slice_get (old_stores tried) number ≡ Some old_then
        → slice_get stores number ≡ Some store → IsSlotOf number old old_then store
    slot-at number old old_then store old_is then_is is =
        let before = read-mapped (λ (slot : Slot S G). slot.old_store) waiting number old
        (ap (λ (olds : List S). slice_get olds number) slots.olds_are ∙ old_is) in
        let waited = read-mapped (λ (slot : Slot S G). slot.store) waiting number (Some store)
        (ap (λ (stores : List (Option S)). slice_get stores number) slots.stores_are ∙ read-map (λ (store : S). Some store) stores number store is) in
        let after = read-mapped (λ (slot : Slot S G). slot.old_store) tried number old_then then_is in
        let one : waited.0 ≡ before.0 = same_Some waited.0 before.0 (sym waited.1 ∙ before.1) in
        let waits : before.0.store ≡ Some store = sym (ap (λ (slot : Slot S G). slot.store) one) ∙ waited.2 in
        record {
          slot = after.0;
          slot_is = after.1;
          then_is = after.2;
          has = subst (λ (old : S). HasTried issuer number old store after.0) before.2
              (slots.tried_are number before.0 after.0 store before.1 after.1 waits);
        }

    -- each slot is that of some stores
    slot-within : (number : ℕ) → number < length tried → (old old_then store : S) × (slice_get olds number ≡ Some old)
        × (slice_get (old_stores tried) number ≡ Some old_then) × (slice_get stores number ≡ Some store)
    slot-within number below =
        let old = read-within olds number (omega (arith, below, olds-count)) in
        let old_then = read-within (old_stores tried) number (omega (arith, below, read-count)) in
        let store = read-within stores number (omega (arith, below, stores-count)) in
        (old.0, old_then.0, store.0, old.1, old_then.1, store.1)

    -- and its load has ended
    pub have-ended : All (λ (slot : Slot S G). HasEnded slot) tried
    have-ended number d below =
        let there = slot-within number below in
        let its = slot-at number there.0 there.1 there.2 there.3 there.4 there.5 in
        let same : get_or tried number d ≡ its.slot = get_or_from_slice_get tried number its.slot d its.slot_is in
        subst (λ (slot : Slot S G). HasEnded slot) (sym same) (
          its.has.none_waits,
          ap (λ (loaded : Option (Result (Shard S G) (LoadBack S))). is_some loaded) its.has.outcome_is,
        )

    pub are-only_read : AreOnlyRead G.size G.bytes G.disk G.room olds (old_stores tried)
    are-only_read = record {
      count_is = read-count ∙ sym olds-count;
      each = λ number old old_then old_is then_is.
          let below = slice_get_within olds number old old_is in
          let store = read-within stores number (omega (arith, below, olds-count, stores-count)) in
          let its = slot-at number old old_then store.0 old_is then_is store.1 in
          subst (IsOnlyRead G.size G.bytes G.disk G.room old) its.then_is its.has.only;
    }

    -- how the load of a slot's stores came out
    came : (number : ℕ) (old old_then store : S) (its : IsSlotOf number old old_then store) → Came issuer number old old_then store its.has.outcome
    came number old old_then store its = subst (λ (old_then : S). Came issuer number old old_then store its.has.outcome) its.then_is its.has.came

    -- all were loaded
    pub together-loaded : (shards : List (Shard S G)) → map (λ (slot : Slot S G). slot.loaded) tried ≡ map (λ (shard : Shard S G). loaded_as shard) shards
        → AreLoaded issuer olds (old_stores tried) stores shards
    together-loaded shards are = record {
      olds_are = olds-count ∙ sym stores-count;
      read_are = read-count ∙ sym stores-count;
      count_is = sym (length-map shards (λ (shard : Shard S G). loaded_as shard))
          ∙ sym (ap (λ (all : List (Option (Result (Shard S G) (LoadBack S)))). length all) are)
          ∙ length-map tried (λ (slot : Slot S G). slot.loaded) ∙ sym stores-count;
      each = λ number old old_then store shard old_is then_is is shard_is.
          let its = slot-at number old old_then store old_is then_is is in
          let loaded : Some its.slot.loaded ≡ Some (loaded_as shard) =
          sym (read-map (λ (slot : Slot S G). slot.loaded) tried number its.slot its.slot_is)
          ∙ ap (λ (all : List (Option (Result (Shard S G) (LoadBack S)))). slice_get all number) are
          ∙ read-map (λ (shard : Shard S G). loaded_as shard) shards number shard shard_is in
          let outcome : its.has.outcome ≡ Ok shard =
          same_Some its.has.outcome (Ok shard) (sym its.has.outcome_is ∙ same_Some its.slot.loaded (loaded_as shard) loaded) in
          loaded-so issuer number old old_then store its.has.outcome shard (came number old old_then store its) outcome;
    }

    -- why a slot's shard wasn't loaded
    fault-at : (number : ℕ) (old old_then store : S) (its : IsSlotOf number old old_then store) → fault_in its.slot ≡ fault_of its.has.outcome
    fault-at number old old_then store its =
        ap (λ (loaded : Option (Result (Shard S G) (LoadBack S))). option_and_then fault_of loaded) its.has.outcome_is

    -- no shard before the first one that wasn't loaded has a fault
    no-fault : (failed : ℕ) (fault : LoadFault) (number : ℕ) (slot : Slot S G) → IsFirstFailed tried failed fault → number < failed
        → slice_get tried number ≡ Some slot → fault_in slot ≡ None
    no-fault failed fault number slot first below is =
        subst (λ (slot : Slot S G). fault_in slot ≡ None) (get_or_from_slice_get tried number slot slot is)
        (first.before number slot (omega arith) below)

    first-fault : (failed : ℕ) (fault : LoadFault) (slot : Slot S G) → IsFirstFailed tried failed fault
        → slice_get tried failed ≡ Some slot → fault_in slot ≡ Some fault
    first-fault failed fault slot first is =
        subst (λ (slot : Slot S G). fault_in slot ≡ Some fault) (get_or_from_slice_get tried failed slot slot is) (first.at slot)

    -- it isn't a store's if the stores have room
    pub together-room : (failed : ℕ) (fault : LoadFault) → IsFirstFailed tried failed fault
        → StoresHaveRoom G.size G.room (λ _. 0) olds stores → is_store_failure fault ≡ false
    together-room failed fault first have =
        let there = slot-within failed first.within in
        let its = slot-at failed there.0 there.1 there.2 there.3 there.4 there.5 in
        room-so its.has.outcome fault (its.has.room (have.each failed there.0 there.2 there.3 there.5))
        (sym (fault-at failed there.0 there.1 there.2 its) ∙ first-fault failed fault its.slot first its.slot_is)

    -- some weren't, and the stores come back
    module _ (back : List S) (are : map (λ (slot : Slot S G). left_in slot) tried ≡ map (λ (store : S). Some store) back) where
      back-count : length back ≡ length tried
      back-count = sym (length-map back (λ (store : S). Some store)) ∙ sym (ap (λ (all : List (Option S)). length all) are)
          ∙ length-map tried (λ (slot : Slot S G). left_in slot)

      -- the store that a slot's load left
      back-at : (number : ℕ) (old old_then store after : S) (its : IsSlotOf number old old_then store) → slice_get back number ≡ Some after
          → store_of its.has.outcome ≡ after
      back-at number old old_then store after its is =
          let left : left_in its.slot ≡ Some after =
          same_Some (left_in its.slot) (Some after) (sym (read-map (λ (slot : Slot S G). left_in slot) tried number its.slot its.slot_is)
          ∙ ap (λ (all : List (Option S)). slice_get all number) are ∙ read-map (λ (store : S). Some store) back number after is) in
          same_Some (store_of its.has.outcome) after
          (sym (ap (λ (loaded : Option (Result (Shard S G) (LoadBack S))). option_map store_of loaded) its.has.outcome_is) ∙ left)

      pub together-back : (failed : ℕ) (fault : LoadFault) → IsFirstFailed tried failed fault
          → ComeBackTogether G.size G.bytes G.disk G.faults issuer olds (old_stores tried) stores failed fault back
      together-back failed fault first = record {
        olds_are = olds-count ∙ sym stores-count;
        read_are = read-count ∙ sym stores-count;
        count_is = back-count ∙ sym stores-count;
        within = (let below = first.within in omega (arith, below, stores-count));
        before = λ number old old_then store after below old_is then_is is after_is.
            let its = slot-at number old old_then store old_is then_is is in
            given-so issuer number old old_then store after its.has.outcome (came number old old_then store its)
            (sym (fault-at number old old_then store its) ∙ no-fault failed fault number its.slot first below its.slot_is)
            (back-at number old old_then store after its after_is);
        at = λ old old_then store after old_is then_is is after_is.
            let its = slot-at failed old old_then store old_is then_is is in
            failed-so issuer failed old old_then store after its.has.outcome fault (came failed old old_then store its)
            (sym (fault-at failed old old_then store its) ∙ first-fault failed fault its.slot first its.slot_is)
            (back-at failed old old_then store after its after_is);
        behind = λ number old old_then store after past old_is then_is is after_is.
            let its = slot-at number old old_then store old_is then_is is in
            left-so issuer number old old_then store after its.has.outcome (came number old old_then store its)
            (back-at number old old_then store after its after_is);
      }
