-- Why opened journals gave no host of several callers, and what is left of them.
use Rattle.std.proofs.Common.{◌≡◌, ℕ, List, Some, sym, subst, arith, ⊎_elim}
use Rattle.std.specs.Prelude.{IfSome}
use Rattle.std.proofs.lemmas.Option.{slice_get_within}
use Rattle.issuer_base.specs.declared.outside.store.Store.{Ghosts}
use Rattle.issuer_setup.specs.IssuerSetup.{Setup}
use Rattle.shard_book.specs.declared.replay.LoadFault.{LoadFault}
use Rattle.host_loading.specs.Loading.{AreOnlyRead}
use Rattle.shared_laws.specs.OpeningLogs.{AllComeBack, HostComesBackTogether}
use Rattle.desk_host.specs.SeenStores.{Logged, journals_seen}
use Rattle.desk_host.specs.Journals.{old_name, journal_name, HasAllOpened}
use Rattle.desk_host.specs.Left.{LeavesJournal, LeaveJournals}
use Rattle.desk_host.specs.Loading.{DeskFaults, GivesNoHost, stop_of_load}
use Rattle.desk_host.proofs.SeenSteps.{at-place, seen-store}
use Rattle.desk_host.proofs.LeftSteps.{given-left, back-left_together, olds-left}
use Rattle.desk_host.proofs.LoadingSteps.{gives-no_host}

module _ {S : Type 0} (G : Ghosts S) (told : (store : S)
    → IfSome (G.disk store) (λ disk. G.bytes store ≡ Some disk.now.bytes)) (prefix : List ℕ)
    (logs : Logged) (issuer : Setup) (olds read stores : List S) (opened : HasAllOpened G issuer prefix logs olds stores)
    (only : AreOnlyRead G.size G.bytes G.disk G.room olds read) where
  -- all were loaded, and come back
  pub all-left : (failed : ℕ) (fault : LoadFault) (back : List S)
      → AllComeBack G.bytes G.disk G.faults issuer olds read stores failed fault back
      → LeaveJournals prefix logs (journals_seen G read back)
  all-left failed fault back come = record {
    olds = olds-left G told prefix logs olds read opened.olds_are only;
    stores = λ number seen is.
        let here = seen-store G back number seen is in
        let below = slice_get_within back number here.0 here.1 in
        let count = come.count_is in
        let olds_count = come.olds_are in
        let read_count = come.read_are in
        let before = at-place stores number (omega (arith, below, count)) in
        let old = at-place olds number (omega (arith, below, count, olds_count)) in
        let read_at = at-place read number (omega (arith, below, count, read_count)) in
        subst (LeavesJournal (logs (old_name prefix number)) (logs (journal_name prefix number))) here.2
        (given-left told (logs (old_name prefix number)) (logs (journal_name prefix number)) old.0 before.0
        (opened.olds_are number old.0 old.1) (opened.stores_are number before.0 before.1) issuer number read_at.0 here.0
        (come.each number old.0 read_at.0 before.0 here.0 old.1 read_at.1 before.1 here.1));
  }

  pub host-left : (failed : ℕ) (fault : LoadFault) (back : List S)
      → HostComesBackTogether G.size G.bytes G.disk G.faults issuer olds read stores failed fault back
      → LeaveJournals prefix logs (journals_seen G read back)
  host-left failed fault back come =
      ⊎_elim
      (back-left_together G told prefix logs olds stores opened.olds_are opened.stores_are issuer failed fault read back only)
      (all-left failed fault back) come

module _ {S : Type 0} (G : Ghosts S) (issuer : Setup) (prefix : List ℕ) (logs : Logged) (desk : DeskFaults)
    (olds read stores back : List S) (failed : ℕ)
    (opened : HasAllOpened G issuer prefix logs olds stores) (stood : desk.after ≡ desk.before) where
  pub gives-no_shared : (fault : LoadFault)
      → HostComesBackTogether G.size G.bytes G.disk G.faults issuer olds read stores failed fault back
      → GivesNoHost issuer prefix logs desk (journals_seen G read back) (stop_of_load fault failed)
  gives-no_shared fault come =
      ⊎_elim (gives-no_host G issuer prefix logs desk olds read stores back failed opened stood fault)
      (λ all. subst (λ (f : LoadFault). GivesNoHost issuer prefix logs desk (journals_seen G read back)
      (stop_of_load f failed)) (sym all.fault_is) stood)
      come
