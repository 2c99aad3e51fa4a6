-- Calls of two stores: their fault counts, and that a store was only read.
use Rattle.std.proofs.Common.{◌≡◌, ◌≤◌, ◌+◌, ℕ, Bool, true, false, ◌||◌, refl, sym, subst, ◌∙◌, List, Option, Result, Ok, Err, IfOk, IfErr, arith}
use Rattle.issuer_base.specs.OutsideFaults.{CountsFaults}
use Rattle.issuer_base.specs.Stores.{BothTold, Disk, HasRoom, WorksWithin}
use Rattle.issuer_base.specs.declared.outside.store.Store.{Ghosts}
use Rattle.journal_store.specs.Images.{OnlyReads}
use Rattle.issuer_base.proofs.ManyCalls.{CountsFaults-no_call, CountsFaults-then}
use Rattle.journal_store.proofs.ReadSoFar.{reads-none, reads-then}
use Rattle.shard_book.specs.declared.replay.LoadFault.{LoadFault}
use Rattle.shard_book.specs.declared.replay.LoadFault.TheVariants.{NoMemory}
use Rattle.shard_book.specs.Loading.{is_by_store, is_store_failure}
use Rattle.shard_book.specs.Loads.{CountsBoth, IsOnlyRead, MovesText, Reads, ReadsBoth, TakesStores, loaded_size}
use Rattle.shard_book.proofs.LoadStops.{reasons-alike}

-- ---- fault counts

-- no call of either store was made
pub counts-none : (old new : ℕ) → CountsBoth old old new new false
counts-none old new = record {
  first = false;
  second = false;
  first_counts = CountsFaults-no_call old;
  second_counts = CountsFaults-no_call new;
  either = refl;
}

alone : (failed : Bool) → failed ≡ (failed || false)
alone true = refl
alone false = refl

-- a call of one store
pub counts-first : (old old_then new : ℕ) (failed : Bool) → CountsFaults old old_then failed → CountsBoth old old_then new new failed
counts-first old old_then new failed counts = record {
  first = failed;
  second = false;
  first_counts = counts;
  second_counts = CountsFaults-no_call new;
  either = alone failed;
}

pub counts-second : (old new new_then : ℕ) (failed : Bool) → CountsFaults new new_then failed → CountsBoth old old new new_then failed
counts-second old new new_then failed counts = record {
  first = false;
  second = failed;
  first_counts = CountsFaults-no_call old;
  second_counts = counts;
  either = refl;
}

neither : (one other : Bool) → false ≡ (one || other) → (one ≡ false) × (other ≡ false)
neither true other sum = absurd (cc)
neither false true sum = absurd (cc)
neither false false sum = (refl, refl)

-- neither count increased
pub counts-still : (old old_then new new_then : ℕ) → CountsBoth old old_then new new_then false
    → CountsFaults old old_then false × CountsFaults new new_then false
counts-still old old_then new new_then counts =
    let none = neither counts.first counts.second counts.either in (
      subst (CountsFaults old old_then) none.0 counts.first_counts,
      subst (CountsFaults new new_then) none.1 counts.second_counts,
    )

-- calls that didn't fail, and then more calls
pub counts-after : (old mid last new then end : ℕ) (failed : Bool) → CountsBoth old mid new then false → CountsBoth mid last then end failed
    → CountsBoth old last new end failed
counts-after old mid last new then end failed none more =
    let still = counts-still old mid new then none in
    record {
      first = more.first;
      second = more.second;
      first_counts = CountsFaults-then old mid last false more.first still.0 more.first_counts;
      second_counts = CountsFaults-then new then end false more.second still.1 more.second_counts;
      either = more.either;
    }

-- ---- reads alone

module _ {S : Type 0} (size : S → ℕ) (bytes : S → Option (List ℕ)) (disk : S → Option Disk) (room : S → Option ℕ) where
  -- a store is unchanged
  pub only-same : (store : S) → IsOnlyRead size bytes disk room store store
  only-same store = record { size_is = refl; bytes_are = refl; disk_is = reads-none (disk store); room_is = refl }

  -- what the calls say one by one
  pub only-from : (first last : S) → size last ≡ size first → bytes last ≡ bytes first → BothTold OnlyReads (disk first) (disk last)
      → room last ≡ room first → IsOnlyRead size bytes disk room first last
  only-from first last size_is bytes_are disk_is room_is =
      record { size_is = size_is; bytes_are = bytes_are; disk_is = disk_is; room_is = room_is }

  -- reads, and then more reads
  pub only-then : (first mid last : S) → IsOnlyRead size bytes disk room first mid → IsOnlyRead size bytes disk room mid last
      → IsOnlyRead size bytes disk room first last
  only-then first mid last one other = record {
    size_is = other.size_is ∙ one.size_is;
    bytes_are = other.bytes_are ∙ one.bytes_are;
    disk_is = reads-then (disk first) (disk mid) (disk last) one.disk_is other.disk_is;
    room_is = other.room_is ∙ one.room_is;
  }

  -- its room stays
  pub room-later : (spare : ℕ) (first last : S) → IsOnlyRead size bytes disk room first last → HasRoom spare (size first) (room first)
      → HasRoom spare (size last) (room last)
  room-later spare first last only has = record {
    most = has.most;
    told = only.room_is ∙ has.told;
    within = subst (λ (n : ℕ). n + spare ≤ has.most) (sym only.size_is) has.within;
  }

-- ---- what calls of one store and of both do

-- whether a store is the reason doesn't depend on what else the result might have been
pub same-reason : (X Y : Type 0) (fault : LoadFault)
    → let first : Result X LoadFault = Err fault in let second : Result Y LoadFault = Err fault in is_by_store first ≡ is_by_store second
same-reason X Y fault = reasons-alike X fault ∙ sym (reasons-alike Y fault)

module _ {S : Type 0} (G : Ghosts S) where
  -- no call was made
  pub reads-nothing : (store : S) → Reads G.size G.bytes G.disk G.room G.faults false store store
  reads-nothing store = record {
    only = only-same G.size G.bytes G.disk G.room store;
    works = λ has. refl;
    counts = CountsFaults-no_call (G.faults store);
  }

  -- one read
  pub reads-from : (failed : Bool) (first last : S) → G.size last ≡ G.size first → G.bytes last ≡ G.bytes first
      → BothTold OnlyReads (G.disk first) (G.disk last) → WorksWithin 0 failed (G.size first) (G.room first) (G.room last)
      → CountsFaults (G.faults first) (G.faults last) failed → Reads G.size G.bytes G.disk G.room G.faults failed first last
  reads-from failed first last size_is bytes_are disk_is room counts = record {
    only = only-from G.size G.bytes G.disk G.room first last size_is bytes_are disk_is room.stays;
    works = room.works;
    counts = counts;
  }

  -- reads that didn't fail, and then more reads
  pub reads-on : (failed : Bool) (first mid last : S) → Reads G.size G.bytes G.disk G.room G.faults false first mid
      → Reads G.size G.bytes G.disk G.room G.faults failed mid last → Reads G.size G.bytes G.disk G.room G.faults failed first last
  reads-on failed first mid last one other = record {
    only = only-then G.size G.bytes G.disk G.room first mid last one.only other.only;
    works = λ has. other.works (room-later G.size G.bytes G.disk G.room 0 first mid one.only has);
    counts = CountsFaults-then (G.faults first) (G.faults mid) (G.faults last) false failed one.counts other.counts;
  }

  -- reads of the one store, or of the other
  pub both-first : (failed : Bool) (old old_then store : S) → Reads G.size G.bytes G.disk G.room G.faults failed old old_then
      → ReadsBoth G.size G.bytes G.disk G.room G.faults failed old old_then store store
  both-first failed old old_then store read = record {
    old_read = read.only;
    read = only-same G.size G.bytes G.disk G.room store;
    works = λ has had. read.works has;
    counts = counts-first (G.faults old) (G.faults old_then) (G.faults store) failed read.counts;
  }

  pub both-second : (failed : Bool) (old store store_then : S) → Reads G.size G.bytes G.disk G.room G.faults failed store store_then
      → ReadsBoth G.size G.bytes G.disk G.room G.faults failed old old store store_then
  both-second failed old store store_then read = record {
    old_read = only-same G.size G.bytes G.disk G.room old;
    read = read.only;
    works = λ has had. read.works had;
    counts = counts-second (G.faults old) (G.faults store) (G.faults store_then) failed read.counts;
  }

  -- no call was made
  pub both-nothing : (old store : S) → ReadsBoth G.size G.bytes G.disk G.room G.faults false old old store store
  both-nothing old store = both-first false old old store (reads-nothing old)

  -- reads that didn't fail, and then more reads
  pub both-on : (failed : Bool) (old mid last store then end : S) → ReadsBoth G.size G.bytes G.disk G.room G.faults false old mid store then
      → ReadsBoth G.size G.bytes G.disk G.room G.faults failed mid last then end → ReadsBoth G.size G.bytes G.disk G.room G.faults failed old last store end
  both-on failed old mid last store then end one other = record {
    old_read = only-then G.size G.bytes G.disk G.room old mid last one.old_read other.old_read;
    read = only-then G.size G.bytes G.disk G.room store then end one.read other.read;
    works = λ has had. other.works (room-later G.size G.bytes G.disk G.room 0 old mid one.old_read has)
        (room-later G.size G.bytes G.disk G.room 0 store then one.read had);
    counts = counts-after (G.faults old) (G.faults mid) (G.faults last) (G.faults store) (G.faults then) (G.faults end) failed one.counts other.counts;
  }

  -- no call was made
  pub moves-nothing : (most : ℕ) (old store : S) → MovesText G.size G.bytes G.disk G.room G.faults most false old old store store
  moves-nothing most old store = record {
    old_read = only-same G.size G.bytes G.disk G.room old;
    works = λ has had. refl;
    room_is = refl;
    counts = counts-none (G.faults old) (G.faults store);
  }

  -- steps that didn't fail, and then more steps
  pub moves-on : (most : ℕ) (failed : Bool) (old mid last store then end : S)
      → MovesText G.size G.bytes G.disk G.room G.faults most false old mid store then
      → MovesText G.size G.bytes G.disk G.room G.faults most failed mid last then end
      → MovesText G.size G.bytes G.disk G.room G.faults most failed old last store end
  moves-on most failed old mid last store then end one other = record {
    old_read = only-then G.size G.bytes G.disk G.room old mid last one.old_read other.old_read;
    works = λ has had. other.works (room-later G.size G.bytes G.disk G.room 0 old mid one.old_read has)
        (record { most = had.most; told = one.room_is ∙ had.told; within = had.within });
    room_is = other.room_is ∙ one.room_is;
    counts = counts-after (G.faults old) (G.faults mid) (G.faults last) (G.faults store) (G.faults then) (G.faults end) failed one.counts other.counts;
  }

  -- by the reason's other form
  pub both-failed : (X : Type 0) (fault : LoadFault) (old old_then store store_then : S)
      → let result : Result X LoadFault = Err fault in ReadsBoth G.size G.bytes G.disk G.room G.faults (is_by_store result) old old_then store store_then
      → ReadsBoth G.size G.bytes G.disk G.room G.faults (is_store_failure fault) old old_then store store_then
  both-failed X fault old old_then store store_then =
      subst (λ (failed : Bool). ReadsBoth G.size G.bytes G.disk G.room G.faults failed old old_then store store_then) (reasons-alike X fault)

  -- a load that makes no call
  pub takes-nothing : (X : Type 0) (old store : S)
      → let result : Result X LoadFault = Err NoMemory in TakesStores G.size G.bytes G.disk G.room G.faults result old old store store
  takes-nothing X old store = record {
    moves = moves-nothing (loaded_size (G.size old) (G.size store)) old store;
    grown = tt;
    size_is = λ own. refl;
  }

  -- room for what a store may grow to is room for what it has
  room-small : (most size : ℕ) (room : Option ℕ) → size ≤ most → HasRoom 0 most room → HasRoom 0 size room
  room-small most size room small has = record { most = has.most; told = has.told; within = let within = has.within in omega (arith, within, small) }

  -- reads after which the load stops
  pub takes-read : (X : Type 0) (fault : LoadFault) (old old_then store store_then : S)
      → ReadsBoth G.size G.bytes G.disk G.room G.faults (is_store_failure fault) old old_then store store_then
      → let result : Result X LoadFault = Err fault in TakesStores G.size G.bytes G.disk G.room G.faults result old old_then store store_then
  takes-read X fault old old_then store store_then read =
      let small : G.size store ≤ loaded_size (G.size old) (G.size store) = omega arith in
      record {
        moves =
            subst (λ (failed : Bool). MovesText G.size G.bytes G.disk G.room G.faults (loaded_size (G.size old) (G.size store)) failed old old_then store store_then)
            (sym (reasons-alike X fault)) (record {
              old_read = read.old_read;
              works = λ has had. read.works has (room-small (loaded_size (G.size old) (G.size store)) (G.size store) (G.room store) small had);
              room_is = read.read.room_is;
              counts = read.counts;
            });
        grown = tt;
        size_is = λ own. read.read.size_is;
      }

  -- steps up to one size are steps up to a greater one
  pub moves-more : (less most : ℕ) (failed : Bool) (old old_then store store_then : S) → less ≤ most
      → MovesText G.size G.bytes G.disk G.room G.faults less failed old old_then store store_then
      → MovesText G.size G.bytes G.disk G.room G.faults most failed old old_then store store_then
  moves-more less most failed old old_then store store_then small moves = record {
    old_read = moves.old_read;
    works = λ has had. moves.works has (room-small most less (G.room store) small had);
    room_is = moves.room_is;
    counts = moves.counts;
  }

  -- reads of the store alone, after which the load goes on or stops
  pub takes-second : {X : Type 0} (result : Result X LoadFault) (old store store_then : S)
      → Reads G.size G.bytes G.disk G.room G.faults (is_by_store result) store store_then
      → TakesStores G.size G.bytes G.disk G.room G.faults result old old store store_then
  takes-second {X} result old store store_then read =
      let small : G.size store ≤ loaded_size (G.size old) (G.size store) = omega arith in
      let same = read.only.size_is in
      let within : G.size store_then ≤ loaded_size (G.size old) (G.size store) = omega (arith, same, small) in
      record {
        moves = record {
          old_read = only-same G.size G.bytes G.disk G.room old;
          works = λ has had. read.works (room-small (loaded_size (G.size old) (G.size store)) (G.size store) (G.room store) small had);
          room_is = read.only.room_is;
          counts = counts-second (G.faults old) (G.faults store) (G.faults store_then) (is_by_store result) read.counts;
        };
        grown = grown-at result within;
        size_is = size-at result same;
      }
    where
      grown-at : (result : Result X LoadFault) → G.size store_then ≤ loaded_size (G.size old) (G.size store)
          → IfOk result (λ _. G.size store_then ≤ loaded_size (G.size old) (G.size store))
      grown-at (Ok value) within = within
      grown-at (Err fault) within = tt

      size-at : (result : Result X LoadFault) → G.size store_then ≡ G.size store
          → IfErr result (λ fault. is_store_failure fault ≡ false → G.size store_then ≡ G.size store)
      size-at (Ok value) same = tt
      size-at (Err fault) same = λ own. same

  -- reads that didn't fail, and then the load's other calls
  pub takes-after : {X : Type 0} (result : Result X LoadFault) (old mid last store then end : S)
      → ReadsBoth G.size G.bytes G.disk G.room G.faults false old mid store then
      → TakesStores G.size G.bytes G.disk G.room G.faults result mid last then end
      → TakesStores G.size G.bytes G.disk G.room G.faults result old last store end
  takes-after {X} result old mid last store then end read takes =
      let most : loaded_size (G.size mid) (G.size then) ≡ loaded_size (G.size old) (G.size store) =
      rw (read.old_read.size_is, read.read.size_is) refl in
      record {
        moves = record {
          old_read = only-then G.size G.bytes G.disk G.room old mid last read.old_read takes.moves.old_read;
          works = λ has had. takes.moves.works (room-later G.size G.bytes G.disk G.room 0 old mid read.old_read has)
              (let told : G.room then ≡ G.room store = read.read.room_is in
              record { most = had.most; told = told ∙ had.told; within = subst (λ (n : ℕ). n + 0 ≤ had.most) (sym most) had.within });
          room_is = takes.moves.room_is ∙ read.read.room_is;
          counts = counts-after (G.faults old) (G.faults mid) (G.faults last) (G.faults store) (G.faults then) (G.faults end) (is_by_store result)
              read.counts takes.moves.counts;
        };
        grown = grown-by result takes.grown most;
        size_is = size-by result takes.size_is read.read.size_is;
      }
    where
      grown-by : (result : Result X LoadFault) → IfOk result (λ _. G.size end ≤ loaded_size (G.size mid) (G.size then))
          → loaded_size (G.size mid) (G.size then) ≡ loaded_size (G.size old) (G.size store)
          → IfOk result (λ _. G.size end ≤ loaded_size (G.size old) (G.size store))
      grown-by (Ok value) grown most = subst (λ (n : ℕ). G.size end ≤ n) most grown
      grown-by (Err fault) grown most = tt

      size-by : (result : Result X LoadFault) → IfErr result (λ fault. is_store_failure fault ≡ false → G.size end ≡ G.size then)
          → G.size then ≡ G.size store → IfErr result (λ fault. is_store_failure fault ≡ false → G.size end ≡ G.size store)
      size-by (Ok value) is same = tt
      size-by (Err fault) is same = λ own. is own ∙ same
