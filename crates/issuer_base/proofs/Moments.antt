-- Laws of the moments of a store: of sequences of calls, and of what a crash may leave.
use Rattle.std.proofs.Common.{◌≡◌, ◌⊎◌, ℕ, ◌+◌, ◌-◌, ◌≤◌, List, [], ◌∷◌, ◌++◌, length, take, drop, sym, ap, subst, ◌∙◌}
use Rattle.std.proofs.Common.{inl, inr, ⊎_elim, All, Contains, arith, append_assoc, append-nil, length-append, length-take}
use Rattle.std.proofs.Math.Seq.{drop-append_seam, take-append-add}
use Rattle.std.proofs.lemmas.List.{drop-append-le, length_push}
use Rattle.std.proofs.lemmas.List.Elements.{All-nil, All-cons, All-append, All-weaker, All-contains}
use Rattle.std.proofs.lemmas.List.Elements.{Contains-append_right, Contains-append_cases}
use Rattle.issuer_base.specs.Stores.{Moment, Disk, GoesOn, LeavesOnly, LeavesSince, MayLeave, MayLeaveSince, Passes, present, timeline}

-- ---- many calls in a row

-- no call was made
pub GoesOn-no_call : (disk : Disk) → GoesOn disk disk
GoesOn-no_call disk = record { added = []; grown = sym (append-nil (timeline disk)) }

-- calls, and then more calls
pub GoesOn-then : (a b c : Disk) → GoesOn a b → GoesOn b c → GoesOn a c
GoesOn-then a b c first second = record {
  added = first.added ++ second.added;
  grown = second.grown ∙ ap (λ l. l ++ second.added) first.grown ∙ append_assoc (timeline a) first.added second.added;
}

-- time goes on
pub GoesOn-later : (old new : Disk) → GoesOn old new → present old ≤ present new
GoesOn-later old new on =
    let counted = ap length on.grown in
    let before = length_push old.past old.now in
    let after = length_push new.past new.now in
    let more = length-append (timeline old) on.added in
    omega arith

-- no call was made
pub Passes-no_call : (P : Moment → Type 0) (disk : Disk) → P disk.now → Passes P disk disk
unfolding GoesOn-no_call
Passes-no_call P disk last = record { goes_on = GoesOn-no_call disk; each = All-nil P; last = last }

-- calls, and then more calls
pub Passes-then : (P : Moment → Type 0) (a b c : Disk) → Passes P a b → Passes P b c → Passes P a c
unfolding GoesOn-then
Passes-then P a b c first second = record {
  goes_on = GoesOn-then a b c first.goes_on second.goes_on;
  each = All-append P first.goes_on.added second.goes_on.added first.each second.each;
  last = second.last;
}

-- what is true of each moment stays so where less is said
pub Passes-weaker : (P Q : Moment → Type 0) (old new : Disk) → ((moment : Moment) → P moment → Q moment) → Passes P old new → Passes Q old new
Passes-weaker P Q old new weaker passes = record {
  goes_on = passes.goes_on;
  each = All-weaker P Q weaker passes.goes_on.added passes.each;
  last = weaker new.now passes.last;
}

-- ---- what a crash since a moment may leave

-- the moments since the present one of old
since_start : (old new : Disk) (on : GoesOn old new) → drop (present old) (timeline new) ≡ old.now ∷ on.added
since_start old new on =
    ap (drop (present old)) (on.grown ∙ append_assoc old.past (old.now ∷ []) on.added) ∙ drop-append_seam old.past (old.now ∷ on.added)

module _ (old new : Disk) (on : GoesOn old new) (number : ℕ) (earlier : number ≤ present old) where
  since : drop number (timeline new) ≡ drop number (timeline old) ++ on.added
  since =
      let long = length_push old.past old.now in
      let within : number ≤ length (timeline old) = omega arith in
      ap (drop number) on.grown ∙ drop-append-le number (timeline old) on.added within

  -- what a crash since an earlier moment may leave after the calls is what it might leave before, or what one since their start may leave
  pub MayLeaveSince-cases : (image : List ℕ) → MayLeaveSince number new image → MayLeaveSince number old image ⊎ MayLeaveSince (present old) new image
  MayLeaveSince-cases image left =
      let at_start = sym (since_start old new on) in
      ⊎_elim (λ before. inl (left.0, before, left.2))
      (λ during. inr (left.0, subst (λ l. Contains l left.0) at_start (Contains-append_right (old.now ∷ []) on.added left.0 during), left.2))
      (Contains-append_cases (drop number (timeline old)) on.added left.0 (subst (λ l. Contains l left.0) since left.1))

  -- what is true of each image before the calls, and of each that they may leave, is true after them
  pub LeavesSince-then : (P : List ℕ → Type 0) → LeavesSince P number old → LeavesSince P (present old) new → LeavesSince P number new
  LeavesSince-then P first second =
      record { each = λ image left. ⊎_elim (first.each image) (second.each image) (MayLeaveSince-cases image left) }

-- ---- what a crash during some calls may leave

-- less is said of each image
pub LeavesOnly-weaker : (P Q : List ℕ → Type 0) (old new : Disk) → ((image : List ℕ) → P image → Q image) → LeavesOnly P old new → LeavesOnly Q old new
LeavesOnly-weaker P Q old new weaker only =
    record { goes_on = only.goes_on; leaves = record { each = λ image left. weaker image (only.leaves.each image left) } }

-- calls, and then more calls
pub LeavesOnly-then : (P : List ℕ → Type 0) (a b c : Disk) → LeavesOnly P a b → LeavesOnly P b c → LeavesOnly P a c
LeavesOnly-then P a b c first second = record {
  goes_on = GoesOn-then a b c first.goes_on second.goes_on;
  leaves = LeavesSince-then b c second.goes_on (present a) (GoesOn-later a b first.goes_on) P first.leaves second.leaves;
}

-- where each moment has P a crash leaves only what a moment that has P may leave
pub LeavesOnly-passes : (P : Moment → Type 0) (Q : List ℕ → Type 0) (old new : Disk)
    → ((moment : Moment) (image : List ℕ) → P moment → MayLeave moment image → Q image) → P old.now → Passes P old new → LeavesOnly Q old new
LeavesOnly-passes P Q old new leaves first passes =
    let added = passes.goes_on.added in
    let moments = drop (present old) (timeline new) in
    let each : All P moments = subst (All P) (sym (since_start old new passes.goes_on)) (All-cons P old.now added first passes.each) in
    record {
      goes_on = passes.goes_on;
      leaves = record { each = λ image left. leaves left.0 image (All-contains P moments left.0 each left.1) left.2 };
    }

-- ---- what a crash at one moment may leave

-- an image is no longer than the bytes
pub MayLeave-length : (moment : Moment) (image : List ℕ) → MayLeave moment image → length image ≤ length moment.bytes
MayLeave-length moment image left =
    let long = ap length left.is_front in
    let most = length-take (length image) moment.bytes in
    omega arith

-- where a text is durable a crash leaves it, and a prefix of what follows it
pub MayLeave-behind : (moment : Moment) (text tail image : List ℕ) → moment.bytes ≡ text ++ tail → length text ≤ moment.safe → MayLeave moment image
    → (kept : ℕ) × (kept ≤ length tail) × (image ≡ text ++ take kept tail)
MayLeave-behind moment text tail image is safe left =
    let has = left.has_safe in
    let long = MayLeave-length moment image left in
    let whole = ap length is in
    let parts = length-append text tail in
    let split : length image ≡ length text + (length image - length text) = omega arith in (
      length image - length text,
      omega arith,
      left.is_front ∙ ap (take (length image)) is ∙ ap (λ n. take n (text ++ tail)) split ∙ take-append-add text tail (length image - length text),
    )
