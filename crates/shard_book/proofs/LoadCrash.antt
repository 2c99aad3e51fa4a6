-- What a crash leaves while a store is read, migrated, and then truncated to the text of its records.
use Rattle.std.proofs.Common.{◌≡◌, ◌⊎◌, ℕ, List, length, take, refl, ap, sym, subst, ◌∙◌, inl, inr, ⊎_elim, arith, Option, None, Some, IfSome, All}
use Rattle.std.proofs.Common.{length-take}
use Rattle.std.specs.Option.{IsSomeAnd}
use Rattle.std.proofs.lemmas.Bool.{cases_lt}
use Rattle.std.proofs.lemmas.List.{take_all, take_at, take-take}
use Rattle.issuer_base.specs.Stores.{Disk, Moment, MayLeave, BothTold, LeavesOnly}
use Rattle.issuer_base.specs.declared.entry.Entry.{Entry}
use Rattle.issuer_base.proofs.Moments.{LeavesOnly-passes, LeavesOnly-then, LeavesOnly-weaker}
use Rattle.issuer_base.proofs.ToldTwice.{BothTold-then, BothTold-weaker}
use Rattle.journal_rec.specs.Record.{IsRecord}
use Rattle.journal_rec.specs.RecordText.{journal_text}
use Rattle.journal_store.specs.Images.{IsCutImage, IsKept, OnlyReads}
use Rattle.shard_book.specs.declared.replay.Version.TheVariants.{One, Two}
use Rattle.shard_book.specs.Migrating.{IsMoving, PassesMoving}
use Rattle.shard_book.specs.Shards.{IsCutToText, IsFailedImage, IsLoadImage, IsMigrated}
use Rattle.shard_book.specs.Versions.{HasText, IsPartOf}

-- what a later moment of reads may leave, the first might leave
pub kept-leaves : (old moment : Moment) (image : List ℕ) → IsKept old moment → MayLeave moment image → MayLeave old image
kept-leaves old moment image kept left = record {
  has_safe = let least = kept.at_least in let has = left.has_safe in omega arith;
  is_front = left.is_front ∙ ap (take (length image)) kept.holds;
}

-- the store is read alone
pub crash-read : (old_bytes : Option (List ℕ)) (a b : Option Disk) → BothTold OnlyReads a b
    → BothTold (λ before after. LeavesOnly (IsFailedImage old_bytes before.now) before after) a b
crash-read old_bytes a b = BothTold-weaker OnlyReads (λ before after. LeavesOnly (IsFailedImage old_bytes before.now) before after) a b
    (λ x y reads. LeavesOnly-passes (IsKept x.now) (IsFailedImage old_bytes x.now) x y
    (λ moment image kept left. inl (kept-leaves x.now moment image kept left)) (record { holds = refl; at_least = omega arith }) reads)

-- the first bytes of a prefix are a prefix
pub part-part : (text bytes image : List ℕ) (count : ℕ) → IsPartOf text bytes → image ≡ take count bytes → IsPartOf text image
part-part text bytes image count part is =
    elim (cases_lt count part.kept) [
      | inl below ↦ record { kept = count; part_is = is ∙ ap (take count) part.part_is ∙ take-take count part.kept text (omega arith) }
      | inr above ↦ record {
        kept = part.kept;
        part_is = is ∙ take_all count bytes (omega (arith, ap length part.part_is, length-take part.kept text)) ∙ part.part_is;
      }
    ]

-- a crash while the text is appended leaves what it might leave before, or a prefix of the text
abbrev IsMovedImage : List ℕ → Moment → List ℕ → Type 0
IsMovedImage text old image = MayLeave old image ⊎ (IsPartOf text old.bytes × IsPartOf text image)

moving-leaves : (text : List ℕ) (old moment : Moment) (image : List ℕ) → IsMoving text old moment → MayLeave moment image → IsMovedImage text old image
moving-leaves text old moment image is left = ⊎_elim
    (λ (kept : IsKept old moment). inl (kept-leaves old moment image kept left))
    (λ (moved : IsPartOf text old.bytes × IsPartOf text moment.bytes).
    inr (moved.0, part-part text moment.bytes image (length image) moved.1 left.is_front))
    is

at-start : (text : List ℕ) (moment : Moment) → IsMoving text moment moment
at-start text moment = inl (record { holds = refl; at_least = omega arith })

module _ (old history : List Entry) (records : All IsRecord old) (others : All IsRecord history) (old_bytes : Option (List ℕ)) where
  abbrev text : List ℕ
  text = journal_text old

  -- where the load succeeds
  opened-image : (moment : Moment) (image : List ℕ) → IsMovedImage text moment image → IsLoadImage old history moment image
  opened-image moment image = ⊎_elim (λ (left : MayLeave moment image). inl left) (λ moved. inr (inl moved))

  -- and where it fails
  failed-image : IsSomeAnd old_bytes (HasText One old) → (moment : Moment) (image : List ℕ) → IsMovedImage text moment image
      → IsFailedImage old_bytes moment image
  failed-image has moment image = ⊎_elim (λ (left : MayLeave moment image). inl left)
      (λ moved. inr (inl (record { old = old; records = records; old_text_is = has; was = moved.0; now = moved.1 })))

  module _ (sure : ℕ) (sure_is : sure ≡ length (journal_text history)) where
    -- the first bytes of a text and a remainder
    cut-is : (bytes image : List ℕ) → HasText Two history bytes → image ≡ take sure bytes → image ≡ journal_text history
    cut-is bytes image has cut = cut ∙ ap (take sure) has.text_is ∙ take_at (journal_text history) has.rest sure (sym sure_is)

    opened-cut : (first mid : Moment) (image : List ℕ) → IsMoving text first mid → HasText Two history mid.bytes → IsCutImage sure mid image
        → IsLoadImage old history first image
    opened-cut first mid image moving has = ⊎_elim
        (λ (left : MayLeave mid image). opened-image first image (moving-leaves text first mid image moving left))
        (λ (cut : image ≡ take sure mid.bytes). inr (inr (cut-is mid.bytes image has cut)))

    failed-cut : IsSomeAnd old_bytes (HasText One old) → (first mid : Moment) (image : List ℕ) → IsMoving text first mid
        → HasText Two history mid.bytes → IsCutImage sure mid image → IsFailedImage old_bytes first image
    failed-cut known first mid image moving has = ⊎_elim
        (λ (left : MayLeave mid image). failed-image known first image (moving-leaves text first mid image moving left))
        (λ (cut : image ≡ take sure mid.bytes). ⊎_elim
        (λ (kept : IsKept first mid). inr (inr (record {
          history = history;
          records = others;
          text_is = subst (HasText Two history) kept.holds has;
          cut = cut-is mid.bytes image has cut;
        })))
        (λ (moved : IsPartOf text first.bytes × IsPartOf text mid.bytes).
        failed-image known first image (inr (moved.0, part-part text mid.bytes image sure moved.1 cut)))
        moving)

    crash-one : (P : Moment → List ℕ → Type 0) (x y z : Disk)
        → ((image : List ℕ) → IsMovedImage text x.now image → P x.now image)
        → ((image : List ℕ) → IsMoving text x.now y.now → IsCutImage sure y.now image → P x.now image)
        → PassesMoving text x y → LeavesOnly (IsCutImage sure y.now) y z → LeavesOnly (P x.now) x z
    crash-one P x y z moved cut passes cuts =
        LeavesOnly-then (P x.now) x y z
        (LeavesOnly-passes (IsMoving text x.now) (P x.now) x y (λ moment image is left. moved image (moving-leaves text x.now moment image is left))
        (at-start text x.now) passes)
        (LeavesOnly-weaker (IsCutImage sure y.now) (P x.now) y z (λ image is. cut image passes.last is) cuts)

    -- what a crash leaves of a store that was loaded
    pub crash-opened : (mid_bytes : Option (List ℕ)) (a b c : Option Disk) → IfSome b (λ disk. mid_bytes ≡ Some disk.now.bytes)
        → IfSome mid_bytes (HasText Two history) → BothTold (PassesMoving text) a b
        → BothTold (λ old new. LeavesOnly (IsCutImage sure old.now) old new) b c
        → BothTold (λ before after. LeavesOnly (IsLoadImage old history before.now) before after) a c
    crash-opened mid_bytes None None None told has passes cuts = tt
    crash-opened mid_bytes None None (Some z) told has passes cuts = absurd cuts
    crash-opened mid_bytes None (Some y) c told has passes cuts = absurd passes
    crash-opened mid_bytes (Some x) None c told has passes cuts = absurd passes
    crash-opened mid_bytes (Some x) (Some y) None told has passes cuts = absurd cuts
    crash-opened mid_bytes (Some x) (Some y) (Some z) told has passes cuts =
        let here : HasText Two history y.now.bytes = subst (λ (bytes : Option (List ℕ)). IfSome bytes (HasText Two history)) told has in
        crash-one (IsLoadImage old history) x y z (opened-image x.now)
        (λ image moving is. opened-cut x.now y.now image moving here is) passes cuts

    -- and of one whose load failed
    pub crash-failed : (mid_bytes : Option (List ℕ)) (a b c : Option Disk) → IfSome a (λ _. IsSomeAnd old_bytes (HasText One old))
        → IfSome b (λ disk. mid_bytes ≡ Some disk.now.bytes)
        → IfSome mid_bytes (HasText Two history) → BothTold (PassesMoving text) a b
        → BothTold (λ old new. LeavesOnly (IsCutImage sure old.now) old new) b c
        → BothTold (λ before after. LeavesOnly (IsFailedImage old_bytes before.now) before after) a c
    crash-failed mid_bytes None None None known told has passes cuts = tt
    crash-failed mid_bytes None None (Some z) known told has passes cuts = absurd cuts
    crash-failed mid_bytes None (Some y) c known told has passes cuts = absurd passes
    crash-failed mid_bytes (Some x) None c known told has passes cuts = absurd passes
    crash-failed mid_bytes (Some x) (Some y) None known told has passes cuts = absurd cuts
    crash-failed mid_bytes (Some x) (Some y) (Some z) known told has passes cuts =
        let here : HasText Two history y.now.bytes = subst (λ (bytes : Option (List ℕ)). IfSome bytes (HasText Two history)) told has in
        crash-one (IsFailedImage old_bytes) x y z (failed-image known x.now)
        (λ image moving is. failed-cut known x.now y.now image moving here is) passes cuts

  -- what a crash leaves while the text is appended
  pub crash-moving : (a b : Option Disk) → IfSome a (λ _. IsSomeAnd old_bytes (HasText One old)) → BothTold (PassesMoving text) a b
      → BothTold (λ before after. LeavesOnly (IsFailedImage old_bytes before.now) before after) a b
  crash-moving None None known passes = tt
  crash-moving None (Some y) known passes = absurd passes
  crash-moving (Some x) None known passes = absurd passes
  crash-moving (Some x) (Some y) known passes =
      LeavesOnly-passes (IsMoving text x.now) (IsFailedImage old_bytes x.now) x y
      (λ moment image is left. failed-image known x.now image (moving-leaves text x.now moment image is left)) (at-start text x.now) passes

-- reads, and then what a failed load does
kept-image : (old_bytes : Option (List ℕ)) (first mid : Moment) (image : List ℕ) → IsKept first mid → IsFailedImage old_bytes mid image
    → IsFailedImage old_bytes first image
kept-image old_bytes first mid image kept = ⊎_elim
    (λ (left : MayLeave mid image). inl (kept-leaves first mid image kept left))
    (⊎_elim (λ (migrated : IsMigrated old_bytes mid.bytes image).
    inr (inl (subst (λ (bytes : List ℕ). IsMigrated old_bytes bytes image) kept.holds migrated)))
    (λ (cut : IsCutToText mid.bytes image). inr (inr (subst (λ (bytes : List ℕ). IsCutToText bytes image) kept.holds cut))))

pub crash-then : (old_bytes : Option (List ℕ)) (a b c : Option Disk) → BothTold OnlyReads a b
    → BothTold (λ before after. LeavesOnly (IsFailedImage old_bytes before.now) before after) b c
    → BothTold (λ before after. LeavesOnly (IsFailedImage old_bytes before.now) before after) a c
crash-then old_bytes a b c =
    BothTold-then OnlyReads (λ before after. LeavesOnly (IsFailedImage old_bytes before.now) before after)
    (λ before after. LeavesOnly (IsFailedImage old_bytes before.now) before after) a b c
    (λ x y z reads leaves.
    LeavesOnly-then (IsFailedImage old_bytes x.now) x y z
    (LeavesOnly-passes (IsKept x.now) (IsFailedImage old_bytes x.now) x y (λ moment image kept left. inl (kept-leaves x.now moment image kept left))
    (record { holds = refl; at_least = omega arith }) reads)
    (LeavesOnly-weaker (IsFailedImage old_bytes y.now) (IsFailedImage old_bytes x.now) y z
    (λ image. kept-image old_bytes x.now y.now image reads.last) leaves))
