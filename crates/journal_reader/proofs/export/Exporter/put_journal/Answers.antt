-- One more record is put, or none is left, or the store or the sink failed.
use Rattle.std.proofs.Common.{◌≡◌, ◌+◌, ◌++◌, ◌∷◌, [], List, ℕ, Ok, Option, IfSome, sym, subst, refl, inl, inr, arith}
use Rattle.issuer_base.specs.declared.entry.Entry.{Entry}
use Rattle.shard_book.specs.Versions.{HasText}
use Rattle.shard_book.specs.declared.replay.Version.TheVariants.{Two}
use Rattle.issuer_base.proofs.ManyCalls.{CountsFaults-then}
use Rattle.shard_book.proofs.BothStores.{only-then}
use Rattle.journal_reader.specs.Reading.{Gives, HasRead, IsWithin, Stops, read_by}
use Rattle.journal_reader.proofs.Exact.{exact-stop}
use Rattle.journal_reader.proofs.Exported.{exported-front, exported-next, first-none, first-read, last-record, put-none}
use Rattle.journal_reader.proofs.export.Exporter.put_journal.Given.{Over}
use Rattle.journal_reader.proofs.export.Exporter.put_journal.Goals.{After-put_record}
use Rattle.journal_reader.proofs.export.Exporter.put_journal.Goals as goal

-- the record that was read follows those before it
read-next : (g : Over) (c : After-put_record g)
    → HasRead c.next_record.new.self (g.S.Store.bytes c.args.store.now)
    (c.records.invariant.exported.history ++ c.in-Ok-Some.entry ∷ [])
read-next g c =
    let so_far = c.records.invariant.exported in
    let same = c.records.invariant.only_read.bytes_are in
    let given = c.in-Ok-Some.ensures.given so_far.history
    (subst (λ (b : Option (List ℕ)). HasRead c.records.self.reader b so_far.history) (sym same) so_far.read) in
    subst (λ (b : Option (List ℕ)). HasRead c.next_record.new.self b (so_far.history ++ c.in-Ok-Some.entry ∷ [])) same
    (subst (Gives c.next_record.new.self (g.S.Store.bytes c.records.store) so_far.history) c.in-Ok-Some.field-0-is given)

pub returns-in-Err-clause-put : goal.returns-in-Err-clause-put
returns-in-Err-clause-put g c =
    (refl, ([], first-none _, c.in-Err.ensures.none, inr (refl, c.in-Err.ensures.stopped), put-none _ _))

pub put_record-requires : goal.put_record-requires
put_record-requires g c =
    let so_far = c.records.invariant.exported in
    let same = c.records.invariant.only_read.bytes_are in
    let given = c.in-Ok-Some.ensures.given so_far.history
    (subst (λ (b : Option (List ℕ)). HasRead c.records.self.reader b so_far.history) (sym same) so_far.read) in
    let read = subst (Gives c.next_record.new.self (g.S.Store.bytes c.records.store) so_far.history)
    c.in-Ok-Some.field-0-is given in
    (last-record so_far.history c.in-Ok-Some.entry read.records).may_stand

pub records-preserved : goal.records-preserved
records-preserved g c =
    let so_far = c.records.invariant.exported in
    record {
      exported = exported-next _ _ _ _ _ _ _ _ so_far c.in-Ok-Some.entry c.next_record.new.self _ _
          (read-next g (goal.at.records-preserved g c).After-put_record) c.in-Ok-put_record.ensures.put;
      within = subst (IsWithin c.next_record.new.self) c.records.invariant.only_read.size_is
          c.in-Ok-Some.ensures.within;
      only_read = only-then _ _ _ _ _ _ _ c.records.invariant.only_read c.in-Ok-Some.ensures.only_read;
      counts = CountsFaults-then _ _ _ _ _ c.records.invariant.counts c.in-Ok-Some.ensures.count;
      stood = CountsFaults-then _ _ _ _ _ c.records.invariant.stood c.in-Ok-put_record.ensures.count;
    }

pub returns-in-Err-put_record-clause-put : goal.returns-in-Err-put_record-clause-put
returns-in-Err-put_record-clause-put g c =
    let so_far = c.records.invariant.exported in
    let read = read-next g (goal.at.returns-in-Err-put_record-clause-put g c).After-put_record in (
      so_far.history ++ c.in-Ok-Some.entry ∷ [],
      first-read c.next_record.new.self _ _ read,
      exported-front _ _ _ _ _ _ _ _ so_far c.in-Ok-Some.entry _ c.in-Err-put_record.ensures.put,
    )

pub returns-in-Err-put_record-clause-only_read : goal.returns-in-Err-put_record-clause-only_read
returns-in-Err-put_record-clause-only_read g c =
    only-then _ _ _ _ _ _ _ c.records.invariant.only_read c.next_record.ensures.only_read

pub returns-in-Ok-None-clause-only_read : goal.returns-in-Ok-None-clause-only_read
returns-in-Ok-None-clause-only_read g c =
    only-then _ _ _ _ _ _ _ c.records.invariant.only_read c.next_record.ensures.only_read

pub returns-in-Err-next_record-clause-only_read : goal.returns-in-Err-next_record-clause-only_read
returns-in-Err-next_record-clause-only_read g c =
    only-then _ _ _ _ _ _ _ c.records.invariant.only_read c.next_record.ensures.only_read

pub returns-in-Err-next_record-clause-put : goal.returns-in-Err-next_record-clause-put
returns-in-Err-next_record-clause-put g c =
    let so_far = c.records.invariant.exported in
    let same = c.records.invariant.only_read.bytes_are in
    let stops = c.in-Err-next_record.ensures.stopped so_far.history
    (subst (λ (b : Option (List ℕ)). HasRead c.records.self.reader b so_far.history) (sym same) so_far.read) in
    let count = so_far.read.count_is in (
      refl,
      (
        so_far.history,
        first-read c.records.self.reader _ so_far.history so_far.read,
        omega (arith, count, c.in-Err-next_record.ensures.counted),
        inl (subst (λ (b : Option (List ℕ)). Stops b so_far.history c.in-Err-next_record.fault) same stops),
        so_far.put,
      ),
    )

pub returns-in-Ok-None-clause-put : goal.returns-in-Ok-None-clause-put
returns-in-Ok-None-clause-put g c =
    let so_far = c.records.invariant.exported in
    let same = c.records.invariant.only_read.bytes_are in
    let given = c.in-Ok-None.ensures.given so_far.history
    (subst (λ (b : Option (List ℕ)). HasRead c.records.self.reader b so_far.history) (sym same) so_far.read) in
    let ends = subst (Gives c.next_record.new.self (g.S.Store.bytes c.records.store) so_far.history)
    c.in-Ok-None.field-0-is given in
    let count = so_far.read.count_is in
    let counted = subst
    (λ (found : Option Entry). c.next_record.new.self.records ≡ c.records.self.reader.records + read_by (Ok found))
    c.in-Ok-None.field-0-is c.in-Ok-None.ensures.counted in (
      so_far.history,
      record {
        records = ends.0;
        text_is = subst (λ (b : Option (List ℕ)). IfSome b (HasText Two so_far.history)) same ends.1;
      },
      omega (arith, count, counted),
      so_far.put,
    )

pub returns-in-Err-next_record-clause-exact : goal.returns-in-Err-next_record-clause-exact
returns-in-Err-next_record-clause-exact g c issuer whole holds =
    let so_far = c.records.invariant.exported in
    let same = c.records.invariant.only_read.bytes_are in
    let stops = c.in-Err-next_record.ensures.stopped so_far.history
    (subst (λ (b : Option (List ℕ)). HasRead c.records.self.reader b so_far.history) (sym same) so_far.read) in
    exact-stop issuer c.args.shard _ whole holds so_far.history c.records.self.reader so_far.read
    c.in-Err-next_record.fault
    (subst (λ (b : Option (List ℕ)). Stops b so_far.history c.in-Err-next_record.fault) same stops)
