-- What a crash since a journal was opened may leave of it.
use Rattle.std.proofs.Common.{◌≡◌, ℕ, List, [], ◌∷◌, ◌++◌, length, take, Option, None, Some, sym, ap, ◌∙◌, subst, arith}
use Rattle.std.proofs.Common.{inl, inr, refl}
use Rattle.std.specs.Prelude.{IfSome}
use Rattle.issuer_base.specs.Stores.{BothTold, Disk, MayLeave, Moment, LeavesOnly, LeavesSince, present}
use Rattle.issuer_base.specs.Tells.{Tells}
use Rattle.issuer_base.specs.declared.entry.Entry.{Entry}
use Rattle.issuer_base.specs.declared.outside.store.Store.{Ghosts}
use Rattle.issuer_base.proofs.Moments.{LeavesOnly-passes, LeavesOnly-then, LeavesOnly-weaker}
use Rattle.issuer_base.proofs.ToldTwice.{BothTold-then, BothTold-weaker}
use Rattle.issuer_setup.specs.IssuerSetup.{Setup}
use Rattle.journal_store.specs.Images.{IsKept, OnlyReads}
use Rattle.shard_book.specs.Histories.{IsImageBetween}
use Rattle.shard_book.specs.Shards.{IsLoadImage}
use Rattle.host_loading.specs.Books.{ShardBook}
use Rattle.one_caller.specs.Runs.{HoldsJournal}
use Rattle.desk_host.specs.Journals.{IsOpened}
use Rattle.desk_host.specs.Kept.{IsRunImage, LeavesNow}
use Rattle.desk_host.specs.Left.{CrashSince, StaysAsOpened}
use Rattle.desk_host.specs.SeenStores.{store_seen}

-- a crash that comes after a run leaves an image of the last history
pub leaves-now : (issuer : Setup) (shard : ℕ) (book : ShardBook) (bytes : Option (List ℕ)) (disk : Option Disk)
    → HoldsJournal issuer shard book bytes disk
    → IfSome disk (LeavesNow issuer shard book.history)
leaves-now issuer shard book bytes None holds = tt
leaves-now issuer shard book bytes (Some disk) holds =
    record { leaves = λ image left. (holds.tail, holds.tail_is, holds.leaves image left) }

-- bytes that are told are those that the desk told
pub held-opened : (held bytes : Option (List ℕ)) (content : List ℕ) → IfSome held (λ told. bytes ≡ Some told)
    → bytes ≡ Some content → Tells held content
held-opened None bytes content same is = tt
held-opened (Some told) bytes content same is = let e : Some told ≡ Some content = sym same ∙ is in cc

-- a disk that was opened has been through more moments since
pub crash-since : (P : Moment → List ℕ → Type 0) (held bytes : Option (List ℕ)) (was now : Option Disk)
    → BothTold (λ old new. LeavesOnly (P old.now) old new) was now
    → IfSome was (λ disk. disk.past ≡ []) → IfSome was (λ disk. bytes ≡ Some disk.now.bytes)
    → IfSome held (λ told. bytes ≡ Some told)
    → IfSome now (CrashSince P held)
crash-since P held bytes None None leaves untouched told same = tt
crash-since P held bytes None (Some b) leaves untouched told same = absurd leaves
crash-since P held bytes (Some a) None leaves untouched told same = tt
crash-since P held bytes (Some a) (Some b) leaves untouched told same =
    let none : present a ≡ 0 = ap length untouched in
    record {
      opened = a.now;
      later = leaves.goes_on.added;
      moments =
          leaves.goes_on.grown ∙ ap (λ (past : List Moment). (past ++ a.now ∷ []) ++ leaves.goes_on.added) untouched;
      opened_is = held-opened held bytes a.now.bytes same told;
      leaves = subst (λ (n : ℕ). LeavesSince (P a.now) n b) none leaves.leaves;
    }

-- a load, and then a run
pub crash-run : (issuer : Setup) (shard : ℕ) (old first last : List Entry) (was mid now : Option Disk)
    → BothTold (λ before after. LeavesOnly (IsLoadImage old first before.now) before after) was mid
    → BothTold (LeavesOnly (IsImageBetween issuer shard first last)) mid now
    → BothTold (λ before after. LeavesOnly (IsRunImage issuer shard old first last before.now) before after) was now
crash-run issuer shard old first last was mid now =
    BothTold-then (λ before after. LeavesOnly (IsLoadImage old first before.now) before after)
    (LeavesOnly (IsImageBetween issuer shard first last))
    (λ before after. LeavesOnly (IsRunImage issuer shard old first last before.now) before after) was mid now
    (λ a b c loads runs.
    let P : List ℕ → Type 0 = IsRunImage issuer shard old first last a.now in
    LeavesOnly-then P a b c
    (LeavesOnly-weaker (IsLoadImage old first a.now) P a b (λ image left. inl left) loads)
    (LeavesOnly-weaker (IsImageBetween issuer shard first last) P b c (λ image left. inr left) runs))

-- ---- a store that is only read

-- what a later moment of reads may leave, the first might leave
pub kept-leaves : (old moment : Moment) (image : List ℕ) → IsKept old moment → MayLeave moment image
    → MayLeave old image
kept-leaves old moment image kept left = record {
  has_safe = let least = kept.at_least in let has = left.has_safe in omega arith;
  is_front = left.is_front ∙ ap (take (length image)) kept.holds;
}

-- so reads leave whatever the first moment might, and more
pub crash-reads : (P : Moment → List ℕ → Type 0) → ((moment : Moment) (image : List ℕ) → MayLeave moment image
    → P moment image) → (a b : Option Disk) → BothTold OnlyReads a b
    → BothTold (λ old new. LeavesOnly (P old.now) old new) a b
crash-reads P more a b = BothTold-weaker OnlyReads (λ old new. LeavesOnly (P old.now) old new) a b
    (λ x y reads. LeavesOnly-passes (IsKept x.now) (P x.now) x y
    (λ moment image kept left. more x.now image (kept-leaves x.now moment image kept left))
    (record { holds = refl; at_least = omega arith }) reads)

-- bytes that stay are those that the desk told
still-told : (held bytes now : Option (List ℕ)) → now ≡ bytes → IfSome held (λ told. bytes ≡ Some told)
    → IfSome held (λ told. now ≡ Some told)
still-told None bytes now same told = tt
still-told (Some held) bytes now same told = same ∙ told

module _ {S : Type 0} {G : Ghosts S} (told : (store : S)
    → IfSome (G.disk store) (λ disk. G.bytes store ≡ Some disk.now.bytes)) where
  -- an old journal stays as it was opened
  pub stays-opened : (held : Option (List ℕ)) (store now : S) → IsOpened G held store
      → G.bytes now ≡ G.bytes store → BothTold OnlyReads (G.disk store) (G.disk now)
      → StaysAsOpened held (store_seen G now)
  stays-opened held store now opened same reads = record {
    bytes_are = still-told held (G.bytes store) (G.bytes now) same opened.bytes_are;
    crash = crash-since MayLeave held (G.bytes store) (G.disk store) (G.disk now)
        (crash-reads MayLeave (λ moment image left. left) (G.disk store) (G.disk now) reads) opened.untouched
        (told store) opened.bytes_are;
  }
