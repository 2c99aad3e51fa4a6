-- How the calls of a store in memory change its disk.
use Rattle.std.proofs.Common.{◌≡◌, ◌≤◌, ◌-◌, ◌/◌, ℕ, min, Bool, true, false, List, length, sym, ap, subst, ◌∙◌}
use Rattle.issuer_base.specs.Stores.{Disk, AppendsToDisk, CutsDisk, KeepsDisk, SyncsDisk}
use Rattle.memory_edge.specs.KeptDisk.{all_safe, appended, cut_to, goes_to}
use Rattle.memory_edge.specs.MemoryStores.{StoreState, append_fails, taken}
use Rattle.memory_edge.proofs.DiskMoves.{appends, appends_nothing, cuts, cuts_nothing, keeps, syncs, syncs_nothing}

-- a read keeps the disk
pub read-told : (store : StoreState) (disk : Disk) → disk ≡ store.disk → disk.now.safe ≤ length disk.now.bytes → KeepsDisk store.disk disk
read-told store disk held within = subst (λ (d : Disk). KeepsDisk d disk) held (keeps disk within)

module _ (store new : StoreState) (disk left : Disk) (held : disk ≡ store.disk) (within : disk.now.safe ≤ length disk.now.bytes) (ends : new.disk ≡ left) where
  is_within : store.disk.now.safe ≤ length store.disk.now.bytes
  is_within = subst (λ (d : Disk). d.now.safe ≤ length d.now.bytes) held within

  -- the disk of the store went on to a moment that follows from the one before
  goes_on : (step : Disk → Disk) → left ≡ step disk → new.disk ≡ step store.disk
  goes_on step moved = ends ∙ moved ∙ ap step held

  -- an append that found memory
  pub append-told : (piece front : List ℕ) (failed fails : Bool) → fails ≡ append_fails store piece → failed ≡ fails → front ≡ taken store piece
      → left ≡ goes_to disk (appended front disk.now) → AppendsToDisk piece failed store.disk new.disk
  append-told piece front failed fails due is_due took moved =
      let most = min (length piece / 2) (store.room - length store.disk.now.bytes) in
      let told = appends store.disk is_within piece most (append_fails store piece) in
      let next = goes_on (λ (d : Disk). goes_to d (appended front d.now)) moved ∙ ap (λ (f : List ℕ). goes_to store.disk (appended f store.disk.now)) took in
      subst (λ (f : Bool). AppendsToDisk piece f store.disk new.disk) (sym (is_due ∙ due))
      (subst (λ (d : Disk). AppendsToDisk piece (append_fails store piece) store.disk d) (sym next) told)

  -- an append that found none
  pub append_starved-told : (piece : List ℕ) (failed : Bool) → failed ≡ true → left ≡ disk → AppendsToDisk piece failed store.disk new.disk
  append_starved-told piece failed fails stays =
      let next = goes_on (λ (d : Disk). d) stays in
      subst (λ (f : Bool). AppendsToDisk piece f store.disk new.disk) (sym fails)
      (subst (λ (d : Disk). AppendsToDisk piece true store.disk d) (sym next) (appends_nothing store.disk is_within piece))

  -- a cut that was made
  pub cut-told : (len : ℕ) (failed : Bool) → len ≤ length store.disk.now.bytes → failed ≡ false → left ≡ goes_to disk (cut_to len disk.now)
      → CutsDisk len failed store.disk new.disk
  cut-told len failed short fails moved =
      let next = goes_on (λ (d : Disk). goes_to d (cut_to len d.now)) moved in
      subst (λ (f : Bool). CutsDisk len f store.disk new.disk) (sym fails)
      (subst (λ (d : Disk). CutsDisk len false store.disk d) (sym next) (cuts store.disk is_within len short))

  -- a sync that was made
  pub sync-told : (failed : Bool) → failed ≡ false → left ≡ goes_to disk (all_safe disk.now.bytes) → SyncsDisk failed store.disk new.disk
  sync-told failed fails moved =
      let next = goes_on (λ (d : Disk). goes_to d (all_safe d.now.bytes)) moved in
      subst (λ (f : Bool). SyncsDisk f store.disk new.disk) (sym fails)
      (subst (λ (d : Disk). SyncsDisk false store.disk d) (sym next) (syncs store.disk is_within))

  -- a cut that failed
  pub cut_failed-told : (len : ℕ) (failed : Bool) → failed ≡ true → left ≡ disk → CutsDisk len failed store.disk new.disk
  cut_failed-told len failed fails stays =
      let next = goes_on (λ (d : Disk). d) stays in
      subst (λ (f : Bool). CutsDisk len f store.disk new.disk) (sym fails)
      (subst (λ (d : Disk). CutsDisk len true store.disk d) (sym next) (cuts_nothing store.disk is_within len))

  -- a sync that failed
  pub sync_failed-told : (failed : Bool) → failed ≡ true → left ≡ disk → SyncsDisk failed store.disk new.disk
  sync_failed-told failed fails stays =
      let next = goes_on (λ (d : Disk). d) stays in
      subst (λ (f : Bool). SyncsDisk f store.disk new.disk) (sym fails)
      (subst (λ (d : Disk). SyncsDisk true store.disk d) (sym next) (syncs_nothing store.disk is_within))
