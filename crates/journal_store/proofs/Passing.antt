-- What the moments of a text that is appended to, and of one that is truncated, hold; and what they may leave.
use Rattle.std.proofs.Common.{◌≡◌, ◌⊎◌, ◌≤◌, ℕ, zero, suc, min, Bool, false, true, List, [], ◌++◌, length, take, append-nil, length-take}
use Rattle.std.proofs.Common.{refl, sym, ap, subst, ◌∙◌}
use Rattle.std.proofs.Common.{inl, inr, ⊎_elim, arith, Option, None, Some, IfSome}
use Rattle.std.proofs.lemmas.Bool.{cases_lt}
use Rattle.std.proofs.lemmas.List.{take-take, take_all, take_at}
use Rattle.issuer_base.specs.Stores.{Disk, Moment, MayLeave, Passes, WhileAppended, WhileCut, WhileKept, AppendsToBytes, AppendsToDisk, CutsBytes}
use Rattle.issuer_base.specs.Stores.{CutsDisk, SyncsDisk, BothTold, LeavesOnly, HasSafe}
use Rattle.issuer_base.proofs.Moments.{Passes-no_call, Passes-then, Passes-weaker, LeavesOnly-passes, MayLeave-behind}
use Rattle.issuer_base.proofs.ToldTwice.{BothTold-given, BothTold-second, BothTold-then, BothTold-weaker}
use Rattle.journal_store.specs.Images.{HasSafeText, IsImage, IsEitherImage, IsCutImage}

take-nothing : (kept : ℕ) → take kept (let none : List ℕ = [] in none) ≡ []
take-nothing zero = refl
take-nothing (suc kept) = refl

-- with nothing after it an image is the text
pub image-alone : (text image : List ℕ) → IsImage text [] image → image ≡ text
image-alone text image is = is.1 ∙ ap (λ l. text ++ l) (take-nothing is.0) ∙ append-nil text

-- and the text is an image of any tail
pub image-text : (text tail image : List ℕ) → image ≡ text → IsImage text tail image
image-text text tail image is = (0, is ∙ sym (append-nil text))

module _ (text tail : List ℕ) where
  -- what a crash leaves of a moment
  pub leaves-image : (moment : Moment) (image : List ℕ) → HasSafeText text tail moment → MayLeave moment image → IsImage text tail image
  leaves-image moment image safe left =
      let behind = MayLeave-behind moment text _ image safe.image.1 safe.safe left in
      let most = length-take safe.image.0 tail in
      let short : behind.0 ≤ safe.image.0 = let h = behind.1 in omega arith in
      (behind.0, behind.2 ∙ ap (λ l. text ++ l) (take-take behind.0 safe.image.0 tail short))

  during_append : (old moment : Moment) → HasSafeText text [] old → WhileAppended tail old moment → HasSafeText text tail moment
  during_append old moment is during = record {
    image = (during.0, during.1.holds ∙ ap (λ l. l ++ take during.0 tail) (image-alone text old.bytes is.image));
    safe = let least = during.1.at_least in let safe = is.safe in omega arith;
  }

  during_sync : (old moment : Moment) → HasSafeText text tail old → WhileKept old moment → HasSafeText text tail moment
  during_sync old moment is kept = record {
    image = (is.image.0, kept.holds ∙ is.image.1);
    safe = let least = kept.at_least in let safe = is.safe in omega arith;
  }

  during_cut : (sure : ℕ) (old moment : Moment) → sure ≡ length text → HasSafeText text tail old → WhileCut sure old moment → HasSafeText text tail moment
  during_cut sure old moment sure_is is during =
      ⊎_elim (during_sync old moment is)
      (λ (cut : HasSafe (take sure old.bytes) (min old.safe sure) moment). record {
        image = image-text text tail moment.bytes (cut.holds ∙ ap (take sure) is.image.1 ∙ take_at text (take is.image.0 tail) sure (sym sure_is));
        safe = let least = cut.at_least in let safe = is.safe in omega arith;
      }) during

  -- the moments of an append, of a sync and of a cut
  pub append-passes : (failed : Bool) (old new : Disk) → HasSafeText text [] old.now → AppendsToDisk tail failed old new → Passes (HasSafeText text tail) old
      new
  append-passes failed old new is appends =
      Passes-weaker (WhileAppended tail old.now) (HasSafeText text tail) old new (λ moment. during_append old.now moment is) appends.passes

  pub sync-passes : (failed : Bool) (old new : Disk) → HasSafeText text tail old.now → SyncsDisk failed old new → Passes (HasSafeText text tail) old new
  sync-passes failed old new is syncs =
      Passes-weaker (WhileKept old.now) (HasSafeText text tail) old new (λ moment. during_sync old.now moment is) syncs.passes

  pub cut-passes : (sure : ℕ) (failed : Bool) (old new : Disk) → sure ≡ length text → HasSafeText text tail old.now → CutsDisk sure failed old new
      → Passes (HasSafeText text tail) old new
  cut-passes sure failed old new sure_is is cuts =
      Passes-weaker (WhileCut sure old.now) (HasSafeText text tail) old new (λ moment. during_cut sure old.now moment sure_is is) cuts.passes

told-same : (text tail : List ℕ) (disk : Option Disk) → IfSome disk (λ disk. HasSafeText text tail disk.now)
    → BothTold (Passes (HasSafeText text tail)) disk disk
told-same text tail None is = tt
told-same text tail (Some disk) is = Passes-no_call (HasSafeText text tail) disk is

module _ (text tail : List ℕ) (old new : Option Disk) where
  -- no call was made
  pub told-no_call : IfSome old (λ disk. HasSafeText text tail disk.now) → old ≡ new → BothTold (Passes (HasSafeText text tail)) old new
  told-no_call is same = subst (BothTold (Passes (HasSafeText text tail)) old) same (told-same text tail old is)

  pub told-append : (failed : Bool) → IfSome old (λ disk. HasSafeText text [] disk.now) → BothTold (AppendsToDisk tail failed) old new
      → BothTold (Passes (HasSafeText text tail)) old new
  told-append failed =
      BothTold-given (λ disk. HasSafeText text [] disk.now) (AppendsToDisk tail failed) (Passes (HasSafeText text tail)) old new
      (λ a b is appends. append-passes text tail failed a b is appends)

  pub told-cut : (sure : ℕ) (failed : Bool) → sure ≡ length text → IfSome old (λ disk. HasSafeText text tail disk.now)
      → BothTold (CutsDisk sure failed) old new → BothTold (Passes (HasSafeText text tail)) old new
  told-cut sure failed sure_is =
      BothTold-given (λ disk. HasSafeText text tail disk.now) (CutsDisk sure failed) (Passes (HasSafeText text tail)) old new
      (λ a b is cuts. cut-passes text tail sure failed a b sure_is is cuts)

  -- what is true at each moment is true at the last
  pub told-last : BothTold (Passes (HasSafeText text tail)) old new → IfSome new (λ disk. HasSafeText text tail disk.now)
  told-last = BothTold-second (λ disk. HasSafeText text tail disk.now) (Passes (HasSafeText text tail)) old new (λ a b passes. passes.last)

-- ---- the bytes

cut-bytes : (text tail : List ℕ) (sure : ℕ) (failed : Bool) (old new : List ℕ) → sure ≡ length text → IsImage text tail old → CutsBytes sure failed old new
    → IsImage text tail new
cut-bytes text tail sure false old new sure_is is cut = image-text text tail new (cut ∙ ap (take sure) is.1 ∙ take_at text (take is.0 tail) sure (sym sure_is))
cut-bytes text tail sure true old new sure_is is cut =
    ⊎_elim (λ (same : new ≡ old). (is.0, same ∙ is.1))
    (λ (cut : new ≡ take sure old). image-text text tail new (cut ∙ ap (take sure) is.1 ∙ take_at text (take is.0 tail) sure (sym sure_is))) cut

append-bytes : (text tail : List ℕ) (failed : Bool) (old new : List ℕ) → IsImage text [] old → AppendsToBytes tail failed old new → IsImage text tail new
append-bytes text tail false old new is appended =
    (length tail, appended ∙ ap (λ l. l ++ tail) (image-alone text old is) ∙ ap (λ l. text ++ l) (sym (take_all (length tail) tail (omega arith))))
append-bytes text tail true old new is appended =
    (appended.0, appended.1 ∙ ap (λ l. l ++ take appended.0 tail) (image-alone text old is))

module _ (text tail : List ℕ) where
  -- after a cut, done or not, and after an append, done or not
  pub told-cut_bytes : (sure : ℕ) (failed : Bool) (a b : Option (List ℕ)) → sure ≡ length text → IfSome a (IsImage text tail)
      → BothTold (CutsBytes sure failed) a b → IfSome b (IsImage text tail)
  told-cut_bytes sure failed None None sure_is is told = tt
  told-cut_bytes sure failed None (Some new) sure_is is told = absurd told
  told-cut_bytes sure failed (Some old) None sure_is is told = absurd told
  told-cut_bytes sure failed (Some old) (Some new) sure_is is told = cut-bytes text tail sure failed old new sure_is is told

  pub told-append_bytes : (failed : Bool) (a b c : Option (List ℕ)) → IfSome a (IsImage text []) → BothTold (AppendsToBytes tail failed) a b → c ≡ b
      → IfSome c (IsImage text tail)
  told-append_bytes failed None None c is told same = subst (λ (c : Option (List ℕ)). IfSome c (IsImage text tail)) (sym same) tt
  told-append_bytes failed None (Some new) c is told same = absurd told
  told-append_bytes failed (Some old) None c is told same = absurd told
  told-append_bytes failed (Some old) (Some new) c is told same =
      subst (λ (c : Option (List ℕ)). IfSome c (IsImage text tail)) (sym same) (append-bytes text tail failed old new is told)

-- an appended record ends the text, and nothing follows it
put-image : (text piece old new : List ℕ) → IsImage text [] old → new ≡ old ++ piece → IsImage (text ++ piece) [] new
put-image text piece old new is put = image-text (text ++ piece) [] new (put ∙ ap (λ l. l ++ piece) (image-alone text old is))

pub told-put_bytes : (text piece : List ℕ) (failed : Bool) (a b c : Option (List ℕ)) → failed ≡ false → IfSome a (IsImage text [])
    → BothTold (AppendsToBytes piece failed) a b → c ≡ b → IfSome c (IsImage (text ++ piece) [])
told-put_bytes text piece failed None None c done is told same = subst (λ (c : Option (List ℕ)). IfSome c (IsImage (text ++ piece) [])) (sym same) tt
told-put_bytes text piece failed None (Some new) c done is told same = absurd told
told-put_bytes text piece failed (Some old) None c done is told same = absurd told
told-put_bytes text piece failed (Some old) (Some new) c done is told same =
    subst (λ (c : Option (List ℕ)). IfSome c (IsImage (text ++ piece) [])) (sym same)
    (put-image text piece old new is (subst (λ (failed : Bool). AppendsToBytes piece failed old new) done told))

put-safe : (text piece : List ℕ) (failed second : Bool) (old mid new : Disk) → failed ≡ false → second ≡ false → HasSafeText text [] old.now
    → AppendsToDisk piece failed old mid → SyncsDisk second mid new → HasSafeText (text ++ piece) [] new.now
put-safe text piece failed second old mid new done synced is appends syncs =
    let image = put-image text piece old.now.bytes new.now.bytes is.image (syncs.passes.last.holds ∙ appends.done done) in
    let long = ap length (image-alone (text ++ piece) new.now.bytes image) in
    let safe = syncs.done synced in
    record { image = image; safe = omega arith }

pub told-put : (text piece : List ℕ) (failed second : Bool) (a b c : Option Disk) → failed ≡ false → second ≡ false
    → IfSome a (λ disk. HasSafeText text [] disk.now) → BothTold (AppendsToDisk piece failed) a b → BothTold (SyncsDisk second) b c
    → IfSome c (λ disk. HasSafeText (text ++ piece) [] disk.now)
told-put text piece failed second None None None done synced is appends syncs = tt
told-put text piece failed second None None (Some new) done synced is appends syncs = absurd syncs
told-put text piece failed second None (Some mid) c done synced is appends syncs = absurd appends
told-put text piece failed second (Some old) None c done synced is appends syncs = absurd appends
told-put text piece failed second (Some old) (Some mid) None done synced is appends syncs = absurd syncs
told-put text piece failed second (Some old) (Some mid) (Some new) done synced is appends syncs =
    put-safe text piece failed second old mid new done synced is appends syncs

-- bytes that stay, or that were cut and then stay, are those from before or cut ones
pub told-kept : (sure : ℕ) (a b : Option (List ℕ)) → b ≡ a → BothTold (CutsBytes sure true) a b
told-kept sure None None same = tt
told-kept sure None (Some new) same = absurd (cc)
told-kept sure (Some old) None same = absurd (cc)
told-kept sure (Some old) (Some new) same = inl (let is : new ≡ old = cc in is)

cut-kept : (sure : ℕ) (failed : Bool) (old new : List ℕ) → CutsBytes sure failed old new → CutsBytes sure true old new
cut-kept sure true old new cuts = cuts
cut-kept sure false old new cuts = inr cuts

pub told-cut_kept : (sure : ℕ) (failed : Bool) (a b c : Option (List ℕ)) → BothTold (CutsBytes sure failed) a b → c ≡ b → BothTold (CutsBytes sure true) a c
told-cut_kept sure failed a b c cut same =
    subst (BothTold (CutsBytes sure true) a) (sym same) (BothTold-weaker (CutsBytes sure failed) (CutsBytes sure true) a b (cut-kept sure failed) cut)

-- moments of one kind, and then of another
pub told-then : (P Q R : Moment → Type 0) (a b c : Option Disk) → ((moment : Moment) → P moment → R moment) → ((moment : Moment) → Q moment → R moment)
    → BothTold (Passes P) a b → BothTold (Passes Q) b c → BothTold (Passes R) a c
told-then P Q R a b c first second =
    BothTold-then (Passes P) (Passes Q) (Passes R) a b c
    (λ x y z p q. Passes-then R x y z (Passes-weaker P R x y first p) (Passes-weaker Q R y z second q))

pub told-sync : (text tail : List ℕ) (failed : Bool) (a b c : Option Disk) → BothTold (Passes (HasSafeText text tail)) a b
    → BothTold (SyncsDisk failed) b c → BothTold (Passes (HasSafeText text tail)) a c
told-sync text tail failed a b c =
    BothTold-then (Passes (HasSafeText text tail)) (SyncsDisk failed) (Passes (HasSafeText text tail)) a b c
    (λ x y z p q. Passes-then (HasSafeText text tail) x y z p (sync-passes text tail failed y z p.last q))

-- a moment that holds the text with a front of one tail or of the other
abbrev IsEither : List ℕ → List ℕ → List ℕ → Moment → Type 0
IsEither text tail other moment = HasSafeText text tail moment ⊎ HasSafeText text other moment

module _ (text tail other : List ℕ) (a b c : Option Disk) (is : IfSome a (λ disk. HasSafeText text tail disk.now)) where
  leaves : (old new : Disk) → HasSafeText text tail old.now → Passes (IsEither text tail other) old new → LeavesOnly (IsEitherImage text tail other) old new
  leaves old new first passes =
      LeavesOnly-passes (IsEither text tail other) (IsEitherImage text tail other) old new
      (λ moment image is left. ⊎_elim (λ one. inl (leaves-image text tail moment image one left)) (λ one. inr (leaves-image text other moment image one left))
      is)
      (inl first) passes

  -- what a crash leaves while what is in doubt is cut away
  pub crash-clear : BothTold (Passes (HasSafeText text tail)) a b → BothTold (LeavesOnly (IsEitherImage text tail other)) a b
  crash-clear passes =
      BothTold-given (λ disk. HasSafeText text tail disk.now) (Passes (HasSafeText text tail)) (LeavesOnly (IsEitherImage text tail other)) a b
      (λ x y first p. leaves x y first (Passes-weaker (HasSafeText text tail) (IsEither text tail other) x y (λ moment one. inl one) p)) is passes

  -- and then a record is written
  pub crash-put : BothTold (Passes (HasSafeText text tail)) a b → BothTold (Passes (HasSafeText text other)) b c
      → BothTold (LeavesOnly (IsEitherImage text tail other)) a c
  crash-put first second =
      BothTold-given (λ disk. HasSafeText text tail disk.now) (Passes (IsEither text tail other)) (LeavesOnly (IsEitherImage text tail other)) a c
      (λ x y first p. leaves x y first p) is
      (told-then (HasSafeText text tail) (HasSafeText text other) (IsEither text tail other) a b c (λ moment one. inl one) (λ moment one. inr one) first second)

-- ---- a store that is cut to a text

-- at such a moment the bytes are those of an older one or their first ones, and of those that stay no safe one is lost
abbrev IsCutMoment : ℕ → Moment → Moment → Type 0
IsCutMoment sure old moment =
    ((moment.bytes ≡ old.bytes) × (old.safe ≤ moment.safe)) ⊎ ((moment.bytes ≡ take sure old.bytes) × (min old.safe sure ≤ moment.safe))

leaves-cut : (sure : ℕ) (old moment : Moment) (image : List ℕ) → IsCutMoment sure old moment → MayLeave moment image → IsCutImage sure old image
leaves-cut sure old moment image is left =
    let has = left.has_safe in
    ⊎_elim
    (λ (kept : (moment.bytes ≡ old.bytes) × (old.safe ≤ moment.safe)).
    inl (record { has_safe = let more = kept.1 in omega arith; is_front = left.is_front ∙ ap (take (length image)) kept.0 }))
    (λ (cut : (moment.bytes ≡ take sure old.bytes) × (min old.safe sure ≤ moment.safe)).
    let front : image ≡ take (length image) (take sure old.bytes) = left.is_front ∙ ap (take (length image)) cut.0 in
    elim (cases_lt (length image) sure) [
      | inl below ↦ inl (record { has_safe = let least = cut.1 in omega arith; is_front = front ∙ take-take (length image) sure old.bytes (omega arith) })
      | inr above ↦ inr (front ∙ take_all (length image) (take sure old.bytes) (let most = length-take sure old.bytes in omega arith))
    ])
    is

kept-cut : (sure : ℕ) (old mid moment : Moment) → IsCutMoment sure old mid → WhileKept mid moment → IsCutMoment sure old moment
kept-cut sure old mid moment is kept =
    let least = kept.at_least in
    ⊎_elim
    (λ (one : (mid.bytes ≡ old.bytes) × (old.safe ≤ mid.safe)). inl (kept.holds ∙ one.0, let more = one.1 in omega arith))
    (λ (one : (mid.bytes ≡ take sure old.bytes) × (min old.safe sure ≤ mid.safe)). inr (kept.holds ∙ one.0, let more = one.1 in omega arith))
    is

module _ (sure : ℕ) where
  while-cut : (old moment : Moment) → WhileCut sure old moment → IsCutMoment sure old moment
  while-cut old moment = ⊎_elim
      (λ (kept : HasSafe old.bytes old.safe moment). inl (kept.holds, kept.at_least))
      (λ (cut : HasSafe (take sure old.bytes) (min old.safe sure) moment). inr (cut.holds, cut.at_least))

  at_start : (moment : Moment) → IsCutMoment sure moment moment
  at_start moment = inl (refl, omega arith)

  cut-leaves : (old new : Disk) → Passes (IsCutMoment sure old.now) old new → LeavesOnly (IsCutImage sure old.now) old new
  cut-leaves old new passes =
      LeavesOnly-passes (IsCutMoment sure old.now) (IsCutImage sure old.now) old new (λ moment image is left. leaves-cut sure old.now moment image is left)
      (at_start old.now) passes

  sync-cut : (failed : Bool) (old mid new : Disk) → IsCutMoment sure old.now mid.now → SyncsDisk failed mid new → Passes (IsCutMoment sure old.now) mid new
  sync-cut failed old mid new is syncs =
      Passes-weaker (WhileKept mid.now) (IsCutMoment sure old.now) mid new (λ moment. kept-cut sure old.now mid.now moment is) syncs.passes

  -- a sync alone, and a cut alone
  pub crash-sync : (failed : Bool) (a b : Option Disk) → BothTold (SyncsDisk failed) a b
      → BothTold (λ old new. LeavesOnly (IsCutImage sure old.now) old new) a b
  crash-sync failed a b = BothTold-weaker (SyncsDisk failed) (λ old new. LeavesOnly (IsCutImage sure old.now) old new) a b
      (λ x y syncs. cut-leaves x y (sync-cut failed x x y (at_start x.now) syncs))

  pub crash-cut : (failed : Bool) (a b : Option Disk) → BothTold (CutsDisk sure failed) a b
      → BothTold (λ old new. LeavesOnly (IsCutImage sure old.now) old new) a b
  crash-cut failed a b = BothTold-weaker (CutsDisk sure failed) (λ old new. LeavesOnly (IsCutImage sure old.now) old new) a b
      (λ x y cuts. cut-leaves x y (Passes-weaker (WhileCut sure x.now) (IsCutMoment sure x.now) x y (while-cut x.now) cuts.passes))
