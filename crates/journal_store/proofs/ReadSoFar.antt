-- Reading a store in parts.
use Rattle.std.proofs.Common.{◌≡◌, ◌+◌, ◌≤◌, ℕ, List, ◌++◌, length, take, drop, Option, None, Some, IfSome, refl, sym, ap, subst, ◌∙◌, arith}
use Rattle.std.proofs.Math.Seq.{take-add, take-append-add}
use Rattle.std.proofs.lemmas.List.{take-append-le, length-take-le, length-take, length-drop, length-append, drop-drop}
use borrow.Rule.Slice.PartMut.{put_mid, post_of}
use Rattle.issuer_base.specs.Stores.{Disk, BothTold, KeepsDisk, WhileKept}
use Rattle.issuer_base.proofs.Moments.{Passes-no_call, Passes-then, Passes-weaker}
use Rattle.journal_store.specs.Images.{IsKept, OnlyReads}
use Rattle.issuer_base.proofs.ToldTwice.{BothTold-then}

-- the front of the buffer is what stands there in the store
abbrev pub HasRead : ℕ → ℕ → List ℕ → List ℕ → Type 0
HasRead at count into told = take count into ≡ take count (drop at told)

-- no read was made
pub reads-none : (disk : Option Disk) → BothTold OnlyReads disk disk
reads-none None = tt
reads-none (Some disk) = Passes-no_call (IsKept disk.now) disk (record { holds = refl; at_least = omega arith })

-- a read of the store
pub reads-one : (old new : Disk) → KeepsDisk old new → OnlyReads old new
reads-one old new = Passes-weaker (WhileKept old.now) (IsKept old.now) old new (λ moment kept. record { holds = kept.holds; at_least = kept.at_least })

-- reads, and then more reads
pub only-then : (x y z : Disk) → OnlyReads x y → OnlyReads y z → OnlyReads x z
only-then x y z p q = Passes-then (IsKept x.now) x y z p (Passes-weaker (IsKept y.now) (IsKept x.now) y z
    (λ moment kept. record {
      holds = kept.holds ∙ p.last.holds;
      at_least = let one = kept.at_least in let two = p.last.at_least in omega arith;
    }) q)

pub reads-more : (a b c : Option Disk) → BothTold OnlyReads a b → BothTold KeepsDisk b c → BothTold OnlyReads a c
reads-more a b c = BothTold-then OnlyReads KeepsDisk OnlyReads a b c (λ x y z p q. only-then x y z p (reads-one y z q))

pub reads-then : (a b c : Option Disk) → BothTold OnlyReads a b → BothTold OnlyReads b c → BothTold OnlyReads a c
reads-then a b c = BothTold-then OnlyReads OnlyReads OnlyReads a b c only-then

-- what is read follows what was read
read-more : (at count n k : ℕ) (into piece told : List ℕ) → count ≤ length into → n ≤ length piece → HasRead at count into told
    → take n piece ≡ take n (drop (at + count) told) → HasRead at (count + n) (put_mid count k into piece) told
read-more at count n k into piece told within short before read =
    let long : length (take count into) ≡ count = length-take-le count into within in
    ap (λ m. take (m + n) (take count into ++ (piece ++ post_of count k into))) (sym long)
    ∙ take-append-add (take count into) (piece ++ post_of count k into) n
    ∙ ap (λ l. take count into ++ l) (take-append-le n piece (post_of count k into) short ∙ read ∙ ap (take n) (sym (drop-drop count at told)))
    ∙ ap (λ l. l ++ take n (drop count (drop at told))) before
    ∙ sym (take-add count n (drop at told))

pub told-read : (at count n k : ℕ) (into piece : List ℕ) (first now : Option (List ℕ)) → now ≡ first → count ≤ length into → n ≤ length piece
    → IfSome first (HasRead at count into) → IfSome now (λ told. take n piece ≡ take n (drop (at + count) told))
    → IfSome first (HasRead at (count + n) (put_mid count k into piece))
told-read at count n k into piece None now same within short before read = tt
told-read at count n k into piece (Some told) now same within short before read =
    read-more at count n k into piece told within short before
    (subst (λ now. IfSome now (λ told. take n piece ≡ take n (drop (at + count) told))) same read)

-- nothing was read
pub told-nothing : (at : ℕ) (into : List ℕ) (told : Option (List ℕ)) → IfSome told (HasRead at 0 into)
told-nothing at into None = tt
told-nothing at into (Some told) = refl

-- a part that is written again leaves the length
pub put-length : (a k : ℕ) (into piece : List ℕ) → length piece ≡ length (take k (drop a into)) → length (put_mid a k into piece) ≡ length into
put-length a k into piece same =
    let whole = length-append (take a into) (piece ++ post_of a k into) in
    let behind = length-append piece (post_of a k into) in
    let front = length-take a into in
    let part = length-take k (drop a into) in
    let rest = length-drop a into in
    let last = length-drop k (drop a into) in
    omega arith
