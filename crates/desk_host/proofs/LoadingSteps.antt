-- Why opened journals gave no host.
use Rattle.std.proofs.Common.{◌≡◌, ℕ, ◌<◌, List, [], length, Option, None, Some, Err, refl, sym, ap, ◌∙◌, subst, arith, inl, inr}
use Rattle.std.proofs.Common.{⊎_elim}
use Rattle.std.specs.Prelude.{slice_get, map, IfSome, ◌⊎◌, ◌||◌, true, false}
use Rattle.std.specs.Option.{option_map}
use Rattle.std.proofs.lemmas.Option.{slice_get-map}
use Rattle.issuer_base.specs.Desk.{FailedCall, last_after}
use Rattle.issuer_base.specs.OutsideFaults.{Rose, CountsFaults}
use Rattle.issuer_base.specs.declared.outside.DeskCall.TheVariants.{Log}
use Rattle.issuer_base.specs.declared.outside.Desk.{Ghosts as Desk}
use Rattle.issuer_base.specs.declared.outside.store.Store.{Ghosts}
use Rattle.issuer_base.proofs.ManyCalls.{Rose-from_none}
use Rattle.issuer_setup.specs.IssuerSetup.{Setup}
use Rattle.shard_book.specs.declared.replay.LoadFault.{LoadFault}
use Rattle.shard_book.specs.declared.replay.LoadFault.TheVariants.{OldLine, OldRecord, BadLine, BadRecord}
use Rattle.shard_book.specs.declared.replay.LoadFault.TheVariants.{StoreFault, NoMemory}
use Rattle.shard_book.specs.Loading.{StopsJournal, StopsText}
use Rattle.shard_book.specs.Loads.{CountsBoth, IsNotLoaded}
use Rattle.host_loading.specs.declared.loading.HostBack.{HostBack}
use Rattle.host_loading.specs.Loading.{IsGivenBack, ComeBackBy}
use Rattle.desk_host.specs.SeenStores.{Logged, store_seen, journals_seen}
use Rattle.desk_host.specs.Journals.{old_name, journal_name, IsOpened, AreOpened, HasAllOpened}
use Rattle.desk_host.specs.Loading.{CannotOpen, DeskFaults, FailsAt, GivesNoHost, HasOpenedAll, HasLoaded}
use Rattle.desk_host.specs.Loading.{HaveLoadedBelow, IsBadAt, IsBadLine, IsBadOldLine, IsUnopened, faults_seen}
use Rattle.desk_host.specs.Loading.{is_log_fault, stop_of_load}
use Rattle.desk_host.proofs.SeenSteps.{at-place, journal-held, mapped, seen-store, told-held}

-- so it is where both stores' bytes count
both-held : (issuer : Setup) (shard : ℕ) (old_held held old_bytes bytes : Option (List ℕ)) (fault : LoadFault)
    → IfSome old_held (λ told. old_bytes ≡ Some told) → IfSome held (λ told. bytes ≡ Some told)
    → IfSome old_bytes (λ old_text. IfSome bytes (λ text. StopsJournal issuer shard old_text text fault))
    → IfSome old_held (λ old_text. IfSome held (λ text. StopsJournal issuer shard old_text text fault))
both-held issuer shard None held old_bytes bytes fault old_same same stops = tt
both-held issuer shard (Some old_text) held old_bytes bytes fault old_same same stops =
    told-held (λ text. StopsJournal issuer shard old_text text fault) held bytes same
    (subst (λ (b : Option (List ℕ)). IfSome b (λ old_text. IfSome bytes (λ text.
    StopsJournal issuer shard old_text text fault))) old_same stops)

-- why a load stops by the bytes of its stores it does by what the desk told of them
stops-held : (issuer : Setup) (shard : ℕ) (old_held held old_bytes bytes : Option (List ℕ)) (fault : LoadFault)
    → IfSome old_held (λ told. old_bytes ≡ Some told) → IfSome held (λ told. bytes ≡ Some told)
    → StopsText issuer shard old_bytes bytes fault → StopsText issuer shard old_held held fault
stops-held issuer shard old_held held old_bytes bytes StoreFault old_same same stops = stops
stops-held issuer shard old_held held old_bytes bytes NoMemory old_same same stops = stops
stops-held issuer shard old_held held old_bytes bytes (OldLine line) old_same same stops =
    told-held _ old_held old_bytes old_same stops
stops-held issuer shard old_held held old_bytes bytes (OldRecord line) old_same same stops =
    told-held _ old_held old_bytes old_same stops
stops-held issuer shard old_held held old_bytes bytes (BadLine line) old_same same stops =
    both-held issuer shard old_held held old_bytes bytes (BadLine line) old_same same stops
stops-held issuer shard old_held held old_bytes bytes (BadRecord line) old_same same stops =
    both-held issuer shard old_held held old_bytes bytes (BadRecord line) old_same same stops

-- a shard that was loaded from new stores, and is given back
loaded-given : {S : Type 0} (G : Ghosts S) (issuer : Setup) (shard : ℕ) (old_held held : Option (List ℕ))
    (old old_then store back : S) → IsOpened G old_held old → IsOpened G held store
    → IsGivenBack G.bytes G.disk G.faults issuer shard old old_then store back
    → HasLoaded issuer shard old_held held (store_seen G old_then) (store_seen G back)
loaded-given G issuer shard old_held held old old_then store back old_opened opened given = record {
  old = given.old_history;
  history = given.history;
  journal_is =
      journal-held issuer shard old_held held (G.bytes old) (G.bytes store) given.old_history given.history
      old_opened.bytes_are opened.bytes_are given.journal_is;
  old_no_fault = given.old_counts.counted ∙ old_opened.new;
  no_fault = given.counts.counted ∙ opened.new;
}

-- of two new stores that both count, one of which failed, one has counted a fault
one-failed : (old old_then new new_then : ℕ) → old ≡ 0 → new ≡ 0 → CountsBoth old old_then new new_then true
    → (0 < old_then) ⊎ (0 < new_then)
one-failed old old_then new new_then old_new new_new counts =
    elim counts.first as
    (λ b. CountsFaults old old_then b → true ≡ (b || counts.second) → (0 < old_then) ⊎ (0 < new_then)) [
      | true ↦ λ first either. inl (Rose-from_none old_then
          (subst (λ (n : ℕ). Rose n old_then) old_new first.counted))
      | false ↦ λ first either.
          let second : CountsFaults new new_then true = subst (CountsFaults new new_then) (sym either)
          counts.second_counts in
          inr (Rose-from_none new_then (subst (λ (n : ℕ). Rose n new_then) new_new second.counted))
    ] counts.first_counts counts.either

module _ {S : Type 0} (G : Ghosts S) (issuer : Setup) (prefix : List ℕ) (logs : Logged) (desk : DeskFaults)
    (olds read stores back : List S) (failed : ℕ)
    (opened : HasAllOpened G issuer prefix logs olds stores) (stood : desk.after ≡ desk.before) where
  module _ (fault : LoadFault) {Behind : ℕ → S → S → S → S → Type 0}
      (come : ComeBackBy G.size G.bytes G.disk G.faults Behind issuer olds read stores failed fault back) where
    all-opened : HasOpenedAll issuer desk (journals_seen G read back)
    all-opened = record {
      olds_are = mapped (store_seen G) read ∙ come.read_are ∙ opened.stores_count;
      stores_are = mapped (store_seen G) back ∙ come.count_is ∙ opened.stores_count;
      desk_stood = stood;
    }

    within : failed < issuer.shards
    within = (let w = come.within in let c = opened.stores_count in omega (arith, w, c))

    -- the stores of the shard that failed, before and after
    before : (store : S) × (slice_get stores failed ≡ Some store)
    before = at-place stores failed come.within

    after : (store : S) × (slice_get back failed ≡ Some store)
    after = at-place back failed (let w = come.within in let c = come.count_is in omega (arith, w, c))

    old-before : (store : S) × (slice_get olds failed ≡ Some store)
    old-before = at-place olds failed (let w = come.within in let c = come.olds_are in omega (arith, w, c))

    old-after : (store : S) × (slice_get read failed ≡ Some store)
    old-after = at-place read failed (let w = come.within in let c = come.read_are in omega (arith, w, c))

    not-loaded : IsNotLoaded G.size G.bytes G.disk G.faults issuer failed old-before.0 before.0 fault old-after.0 after.0
    not-loaded =
        come.at old-before.0 old-after.0 before.0 after.0 old-before.1 old-after.1 before.1 after.1

    log : IsOpened G (logs (journal_name prefix failed)) before.0
    log = opened.stores_are failed before.0 before.1

    old-log : IsOpened G (logs (old_name prefix failed)) old-before.0
    old-log = opened.olds_are failed old-before.0 old-before.1

    seen-after : slice_get (map (store_seen G) back) failed ≡ Some (store_seen G after.0)
    seen-after = slice_get-map (store_seen G) back failed ∙ ap (option_map (store_seen G)) after.1

    old-seen_after : slice_get (map (store_seen G) read) failed ≡ Some (store_seen G old-after.0)
    old-seen_after = slice_get-map (store_seen G) read failed ∙ ap (option_map (store_seen G)) old-after.1

    -- the shards before it were loaded
    loaded-below : HaveLoadedBelow issuer prefix logs (journals_seen G read back) failed
    loaded-below lower old_seen seen below old_is is =
        let old_held = logs (old_name prefix lower) in
        let held = logs (journal_name prefix lower) in
        let here = seen-store G back lower seen is in
        let old_here = seen-store G read lower old_seen old_is in
        let w = come.within in
        let store = at-place stores lower (omega (arith, w, below)) in
        let old = at-place olds lower (let c = come.olds_are in omega (arith, w, below, c)) in
        subst (λ s. HasLoaded issuer lower old_held held old_seen s) here.2
        (subst (λ s. HasLoaded issuer lower old_held held s (store_seen G here.0)) old_here.2
        (loaded-given G issuer lower old_held held old.0 old_here.0 store.0 here.0 (opened.olds_are lower old.0 old.1)
        (opened.stores_are lower store.0 store.1)
        (come.before lower old.0 old_here.0 store.0 here.0 below old.1 old_here.1 store.1 here.1)))

    -- the shard's journals are bad
    bad-at : (IsSuch : LoadFault → Type 0) → IsSuch fault
        → IsBadAt issuer prefix logs desk (journals_seen G read back) failed IsSuch
    bad-at IsSuch such = record {
      opened = all-opened;
      within = within;
      before = loaded-below;
      fault = fault;
      fault_is = such;
      stops =
          stops-held issuer failed (logs (old_name prefix failed)) (logs (journal_name prefix failed))
          (G.bytes old-before.0) (G.bytes before.0) fault old-log.bytes_are log.bytes_are not-loaded.stops;
    }

  pub gives-no_host : (fault : LoadFault) {Behind : ℕ → S → S → S → S → Type 0}
      → ComeBackBy G.size G.bytes G.disk G.faults Behind issuer olds read stores failed fault back
      → GivesNoHost issuer prefix logs desk (journals_seen G read back) (stop_of_load fault failed)
  gives-no_host StoreFault come =
      let new = log StoreFault come in
      let old_new = old-log StoreFault come in
      let not = not-loaded StoreFault come in
      inr (inr (record {
        opened = all-opened StoreFault come;
        within = within StoreFault come;
        before = loaded-below StoreFault come;
        old = store_seen G (old-after StoreFault come).0;
        store = store_seen G (after StoreFault come).0;
        old_is = old-seen_after StoreFault come;
        store_is = seen-after StoreFault come;
        failed = one-failed _ _ _ _ old_new.new new.new not.counts;
      }))
  gives-no_host (OldLine line) come = bad-at (OldLine line) come (IsBadOldLine line) (inl refl)
  gives-no_host (OldRecord line) come = bad-at (OldRecord line) come (IsBadOldLine line) (inr refl)
  gives-no_host (BadLine line) come = bad-at (BadLine line) come (IsBadLine line) (inl refl)
  gives-no_host (BadRecord line) come = bad-at (BadRecord line) come (IsBadLine line) (inr refl)
  gives-no_host NoMemory come = stood

-- ---- journals that can't be opened

module _ {D I J : Type 0} (desk : Desk D I J) (G : Ghosts J) (issuer : Setup) (prefix : List ℕ) (before now : D) where
  -- an old one stops it, once those of the shards before were opened
  pub gives-unopened_old : (back : HostBack J) (stores : List J) → stores ≡ []
      → CannotOpen desk G (old_name prefix) issuer.shards before now back
      → GivesNoHost issuer prefix (desk.logs before) (faults_seen desk before now)
      (journals_seen G back.stores.items stores) (stop_of_load back.fault back.shard)
  gives-unopened_old back stores none_opened cannot =
      let P : LoadFault → Type 0 =
      λ fault. GivesNoHost issuer prefix (desk.logs before) (faults_seen desk before now)
      (journals_seen G back.stores.items stores) (stop_of_load fault back.shard) in
      ⊎_elim
      (λ failed. subst P (sym failed.0) (inl (record {
        within = cannot.within;
        olds_are = mapped (store_seen G) back.stores.items ∙ cannot.stores_are;
        no_stores = ap (map (store_seen G)) none_opened;
        fails = failed.1;
      })))
      (λ none. subst P (sym none.0) none.1)
      cannot.why

  -- a journal stops it, once all old ones and those of the shards before were opened
  pub gives-unopened : (mid : D) (olds : List J) (back : HostBack J) → length olds ≡ issuer.shards
      → desk.faults mid ≡ desk.faults before → CannotOpen desk G (journal_name prefix) issuer.shards mid now back
      → GivesNoHost issuer prefix (desk.logs before) (faults_seen desk before now)
      (journals_seen G olds back.stores.items) (stop_of_load back.fault back.shard)
  gives-unopened mid olds back count stood cannot =
      let P : LoadFault → Type 0 =
      λ fault. GivesNoHost issuer prefix (desk.logs before) (faults_seen desk before now)
      (journals_seen G olds back.stores.items) (stop_of_load fault back.shard) in
      ⊎_elim
      (λ failed. subst P (sym failed.0) (inr (inl (record {
        within = cannot.within;
        olds_are = mapped (store_seen G) olds ∙ count;
        stores_are = mapped (store_seen G) back.stores.items ∙ cannot.stores_are;
        fails = record {
          rose = subst (λ (n : ℕ). Rose n (desk.faults now)) stood failed.1.rose;
          call_is = failed.1.call_is;
        };
      }))))
      (λ none. subst P (sym none.0) (none.1 ∙ stood))
      cannot.why

-- a journal that can't be opened stops the opening of all, once those of the shards before were opened
pub cannot-open : {D I J : Type 0} (desk : Desk D I J) (G : Ghosts J) (name : ℕ → List ℕ) (shards : ℕ)
    (before mid now : D) (back : HostBack J) (was : Option FailedCall) → back.shard < shards
    → length back.stores.items ≡ back.shard → AreOpened G name (desk.logs before) back.stores.items
    → desk.faults mid ≡ desk.faults before → IsUnopened back.fault
    → CountsFaults (desk.faults mid) (desk.faults now) (is_log_fault {T = Unit {0}} (Err back.fault))
    → desk.last_fault now ≡ last_after Log (name back.shard) (is_log_fault {T = Unit {0}} (Err back.fault)) was
    → CannotOpen desk G name shards before now back
cannot-open desk G name shards before mid now back was within count opened stood unopened counts last = record {
  within = within;
  stores_are = count;
  opened = opened;
  why =
      let P : LoadFault → Type 0 =
      λ fault. CountsFaults (desk.faults mid) (desk.faults now) (is_log_fault {T = Unit {0}} (Err fault))
      → desk.last_fault now ≡ last_after Log (name back.shard) (is_log_fault {T = Unit {0}} (Err fault)) was
      → ((fault ≡ StoreFault) × FailsAt (faults_seen desk before now) (name back.shard))
      ⊎ ((fault ≡ NoMemory) × (desk.faults now ≡ desk.faults before)) in
      ⊎_elim
      (λ (failed : back.fault ≡ StoreFault).
      subst P (sym failed)
      (λ counts last. inl (
        refl,
        record { rose = subst (λ (n : ℕ). Rose n (desk.faults now)) stood counts.counted; call_is = last },
      )))
      (λ (none : back.fault ≡ NoMemory). subst P (sym none) (λ counts last. inr (refl, counts.counted ∙ stood)))
      unopened counts last;
}
