-- One change more of a disk in memory that records its changes.
use Rattle.std.proofs.Common.{◌≡◌, ◌≤◌, ℕ, List, [], ◌∷◌, ◌++◌, length, refl, sym, ap, ◌∙◌}
use Rattle.issuer_base.specs.Stores.{Moment, Disk}
use Rattle.memory_edge.specs.declared.kept_disk.Change.{Change}
use Rattle.memory_edge.specs.KeptDisk.{all_safe, changed, goes_to, moment_after, moments_before, IsKept}

-- the moment after one change more
pub moment_after-push : (moment : Moment) (changes : List Change) (change : Change)
    → moment_after moment (changes ++ change ∷ []) ≡ changed (moment_after moment changes) change
moment_after-push moment [] change = refl
moment_after-push moment (first ∷ changes) change = moment_after-push (changed moment first) changes change

-- the moments before the changes, and the one before one change more
pub moments_before-push : (moment : Moment) (changes : List Change) (change : Change)
    → moments_before moment (changes ++ change ∷ []) ≡ moments_before moment changes ++ moment_after moment changes ∷ []
moments_before-push moment [] change = refl
moments_before-push moment (first ∷ changes) change = ap (λ l. moment ∷ l) (moments_before-push (changed moment first) changes change)

-- a moment with these bytes, of which so many are safe
abbrev pub moment_of : List ℕ → ℕ → Moment
moment_of bytes safe = record { bytes = bytes; safe = safe }

-- a disk that was opened with these bytes and then changed
abbrev pub kept : List ℕ → List Change → Moment → Disk
kept opening changes moment = record { past = moments_before (all_safe opening) changes; now = moment }

module _ (opening : List ℕ) (changes more : List Change) (change : Change) (old new : Moment) (is : IsKept opening changes old)
    (pushed : more ≡ changes ++ change ∷ []) where
  past_more : moments_before (all_safe opening) more ≡ moments_before (all_safe opening) changes ++ old ∷ []
  past_more =
      ap (moments_before (all_safe opening)) pushed
      ∙ moments_before-push (all_safe opening) changes change
      ∙ ap (λ m. moments_before (all_safe opening) changes ++ m ∷ []) is.leads

  goes_on : kept opening more new ≡ goes_to (kept opening changes old) new
  goes_on = ap (λ (past : List Moment). let disk : Disk = record { past = past; now = new } in disk) past_more

  -- the disk goes on to the moment after the step
  pub kept-more : (disk : Disk) (step : Moment → Moment) → kept opening changes old ≡ disk → new ≡ step old
      → kept opening more new ≡ goes_to disk (step disk.now)
  kept-more disk step viewed next =
      goes_on ∙ ap (goes_to (kept opening changes old)) next ∙ ap (λ (d : Disk). goes_to d (step d.now)) viewed

  -- and its changes lead there
  pub IsKept-more : new ≡ changed old change → new.safe ≤ length new.bytes → IsKept opening more new
  IsKept-more next within = record {
    leads =
        ap (moment_after (all_safe opening)) pushed
        ∙ moment_after-push (all_safe opening) changes change
        ∙ ap (λ m. changed m change) is.leads
        ∙ sym next;
    within = within;
  }
