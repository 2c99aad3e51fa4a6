-- One more record is filed, or none is left, or one isn't filed.
use Rattle.std.proofs.Common.{◌+◌, ◌++◌, ◌∷◌, [], List, ℕ, Option, sym, ap, subst, ◌∙◌}
use Rattle.issuer_base.proofs.ManyCalls.{CountsFaults-then}
use Rattle.shard_book.proofs.BothStores.{only-then}
use Rattle.journal_reader.specs.Reading.{Gives, HasRead, IsWithin, Stops}
use Rattle.journal_reader.specs.Filing.{AreBefore, StopsFiling, is_bad}
use Rattle.journal_reader.specs.declared.filing.FilingFault.{FilingFault}
use Rattle.clearing_check.specs.declared.filed.Filed.{Filed}
use Rattle.journal_reader.proofs.Exact.{exact-record, exact-stop}
use Rattle.journal_reader.proofs.Filed.{before-more, filed-next}
use Rattle.journal_reader.proofs.FilingStops.{stops-begun, stops-read, stops-refused}
use Rattle.journal_reader.proofs.filing.file_journal.Given.{Over}
use Rattle.journal_reader.proofs.filing.file_journal.Goals.{After-file_record}
use Rattle.journal_reader.proofs.filing.file_journal.Goals as goal

-- the record that was read follows those before it
read-next : (g : Over) (c : After-file_record g)
    → HasRead c.next_record.new.self (g.S.Store.bytes c.args.store.now)
    (c.records.invariant.filed.history ++ c.in-Ok-Some.entry ∷ [])
read-next g c =
    let so_far = c.records.invariant.filed in
    let same = c.records.invariant.only_read.bytes_are in
    let given = c.in-Ok-Some.ensures.given so_far.history
    (subst (λ (b : Option (List ℕ)). HasRead c.records.reader b so_far.history) (sym same) so_far.read) in
    subst (λ (b : Option (List ℕ)). HasRead c.next_record.new.self b (so_far.history ++ c.in-Ok-Some.entry ∷ [])) same
    (subst (Gives c.next_record.new.self (g.S.Store.bytes c.records.store) so_far.history) c.in-Ok-Some.field-0-is given)

pub records-preserved : goal.records-preserved
records-preserved g c =
    let so_far = c.records.invariant.filed in
    let filed = c.in-Ok-file_record.ensures.filed in
    record {
      filed = filed-next _ _ _ _ _ _ _ so_far c.in-Ok-Some.entry c.next_record.new.self c.file_record.new.book
          (read-next g (goal.at.records-preserved g c).After-file_record) filed;
      within = subst (IsWithin c.next_record.new.self) c.records.invariant.only_read.size_is
          c.in-Ok-Some.ensures.within;
      before = λ first.
          subst (AreBefore c.args.issuer.now (c.args.shard + 1)) (sym filed)
          (before-more c.args.issuer.now c.args.shard c.records.book c.records.place c.in-Ok-Some.entry c.records.book
          c.in-Ok-file_record.ensures.fit (c.records.invariant.before first));
      only_read = only-then _ _ _ _ _ _ _ c.records.invariant.only_read c.in-Ok-Some.ensures.only_read;
      counts = CountsFaults-then _ _ _ _ _ c.records.invariant.counts c.in-Ok-Some.ensures.count;
    }

pub returns-in-Err-file_record-clause-exact : goal.returns-in-Err-file_record-clause-exact
returns-in-Err-file_record-clause-exact g c whole holds before =
    let so_far = c.records.invariant.filed in
    exact-record _ _ _ whole holds c.args.book.now c.records.book before so_far.history c.in-Ok-Some.entry
    c.next_record.new.self
    (read-next g (goal.at.returns-in-Err-file_record-clause-exact g c).After-file_record) so_far.filed_are
    c.in-Err-file_record.fault c.records.place c.in-Err-file_record.ensures.refused

pub returns-in-Err-clause-stopped : goal.returns-in-Err-clause-stopped
returns-in-Err-clause-stopped g c =
    subst
    (λ (f : FilingFault). StopsFiling c.args.issuer.now c.args.shard (g.S.Store.bytes c.args.store.now) c.args.book.now
    c.args.book.now f) (sym c.fault_of.ensures)
    (stops-begun c.args.issuer.now c.args.shard _ c.args.book.now c.in-Err.fault c.in-Err.ensures.stopped)

pub returns-in-Err-next_record-clause-stopped : goal.returns-in-Err-next_record-clause-stopped
returns-in-Err-next_record-clause-stopped g c =
    let so_far = c.records.invariant.filed in
    let same = c.records.invariant.only_read.bytes_are in
    let stops = c.in-Err-next_record.ensures.stopped so_far.history
    (subst (λ (b : Option (List ℕ)). HasRead c.records.reader b so_far.history) (sym same) so_far.read) in
    subst
    (λ (f : FilingFault). StopsFiling c.args.issuer.now c.args.shard (g.S.Store.bytes c.args.store.now) c.args.book.now
    c.records.book f) (sym c.fault_of-in-Err-next_record.ensures)
    (stops-read _ _ _ _ _ _ _ so_far c.in-Err-next_record.fault
    (subst (λ (b : Option (List ℕ)). Stops b so_far.history c.in-Err-next_record.fault) same stops))

pub returns-in-Err-file_record-clause-stopped : goal.returns-in-Err-file_record-clause-stopped
returns-in-Err-file_record-clause-stopped g c =
    let so_far = c.records.invariant.filed in
    subst
    (λ (l : List Filed). StopsFiling c.args.issuer.now c.args.shard (g.S.Store.bytes c.args.store.now) c.args.book.now l
    c.in-Err-file_record.fault) (sym c.in-Err-file_record.ensures.kept)
    (stops-refused _ _ _ _ _ _ _ so_far c.in-Ok-Some.entry c.next_record.new.self
    (read-next g (goal.at.returns-in-Err-file_record-clause-stopped g c).After-file_record) c.in-Err-file_record.fault
    c.in-Err-file_record.ensures.refused)

pub returns-in-Err-file_record-clause-only_read : goal.returns-in-Err-file_record-clause-only_read
returns-in-Err-file_record-clause-only_read g c =
    only-then _ _ _ _ _ _ _ c.records.invariant.only_read c.next_record.ensures.only_read

pub returns-in-Ok-None-clause-only_read : goal.returns-in-Ok-None-clause-only_read
returns-in-Ok-None-clause-only_read g c =
    only-then _ _ _ _ _ _ _ c.records.invariant.only_read c.next_record.ensures.only_read

pub returns-in-Err-next_record-clause-only_read : goal.returns-in-Err-next_record-clause-only_read
returns-in-Err-next_record-clause-only_read g c =
    only-then _ _ _ _ _ _ _ c.records.invariant.only_read c.next_record.ensures.only_read

pub returns-in-Err-next_record-clause-exact : goal.returns-in-Err-next_record-clause-exact
returns-in-Err-next_record-clause-exact g c whole holds before =
    let so_far = c.records.invariant.filed in
    let same = c.records.invariant.only_read.bytes_are in
    let stops = c.in-Err-next_record.ensures.stopped so_far.history
    (subst (λ (b : Option (List ℕ)). HasRead c.records.reader b so_far.history) (sym same) so_far.read) in
    ap is_bad c.fault_of-in-Err-next_record.ensures
    ∙ exact-stop _ _ _ whole holds so_far.history c.records.reader so_far.read c.in-Err-next_record.fault
    (subst (λ (b : Option (List ℕ)). Stops b so_far.history c.in-Err-next_record.fault) same stops)
