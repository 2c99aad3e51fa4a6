-- Both stores are read.
use Rattle.std.proofs.Common.{[], false, refl, sym, subst, Option, List, ℕ, IfSome}
use Rattle.journal_rec.specs.RecordText.{journal_text}
use Rattle.journal_store.proofs.ReadSoFar.{reads-none}
use Rattle.shard_book.specs.declared.replay.TakenOver.{TakenOver}
use Rattle.shard_book.specs.declared.replay.Version.TheVariants.{One}
use Rattle.shard_book.specs.Loading.{ReadsText}
use Rattle.shard_book.specs.Loads.{ReadsBoth}
use Rattle.shard_book.specs.Migrating.{Agree, IsTextAfter}
use Rattle.shard_book.proofs.BothStores.{both-failed, both-first, both-on, takes-after, takes-read}
use Rattle.shard_book.proofs.Continuing.{ends-from, reads-later, reads-start, text-after}
use Rattle.shard_book.proofs.LoadStops.{stops-differ, stops-old, stops-read}
use Rattle.shard_book.proofs.Migration.{after-later}
use Rattle.shard_book.proofs.loading.take_both.Given.{Over}
use Rattle.shard_book.proofs.loading.take_both.Goals.{In-Ok, In-Ok-check_text}
use Rattle.shard_book.proofs.loading.take_both.Goals as goal

-- what was read of the old store
reads : (g : Over) (c : In-Ok g) → ReadsText One c.args.issuer.now c.args.rows.shard [] (g.S.Store.bytes c.args.old.now) c.in-Ok.over.rows c.in-Ok.over.taken
reads g c =
    c.in-Ok.ensures.ends [] (reads-start c.args.issuer.now c.args.rows.shard (g.S.Store.bytes c.args.old.now) c.args.rows c.requires.rows)

-- its text, stated of the old store afterwards
after : (g : Over) (c : In-Ok g) → IsTextAfter (g.S.Store.bytes c.take_text.new.store) c.in-Ok.over.taken.bytes (journal_text (reads g c).history)
after g c =
    after-later (g.S.Store.bytes c.args.old.now) (g.S.Store.bytes c.take_text.new.store) c.in-Ok.over.taken.bytes _ c.in-Ok.ensures.read.only.bytes_are
    (text-after c.args.issuer.now c.args.rows.shard c.in-Ok.over.rows c.in-Ok.over.taken (g.S.Store.bytes c.args.old.now) (reads g c))

pub returns-in-Err-clause-ends : goal.returns-in-Err-clause-ends
returns-in-Err-clause-ends g c =
    stops-read c.args.issuer.now c.args.rows.shard _ _ _ _ _ c.in-Err.fault
    (stops-old c.args.issuer.now c.args.rows.shard _ _ c.in-Err.fault
    (c.in-Err.ensures.ends [] (reads-start c.args.issuer.now c.args.rows.shard (g.S.Store.bytes c.args.old.now) c.args.rows c.requires.rows)))
    refl (reads-none _)

pub returns-in-Err-clause-stores : goal.returns-in-Err-clause-stores
returns-in-Err-clause-stores g c = takes-read g.S.Store TakenOver c.in-Err.fault _ _ _ _
    (both-failed g.S.Store TakenOver c.in-Err.fault _ _ _ _ (both-first g.S.Store _ _ _ _ c.in-Err.ensures.read))

-- both stores were read, and they agree
both-read : (g : Over) (c : In-Ok-check_text g)
    → ReadsBoth g.S.Store.size g.S.Store.bytes g.S.Store.disk g.S.Store.room g.S.Store.faults false c.args.old.now c.check_text.new.old c.args.store.now
    c.check_text.new.store
both-read g c = both-on g.S.Store false _ _ _ _ _ _ (both-first g.S.Store false _ _ _ c.in-Ok.ensures.read) c.in-Ok-check_text.ensures.read

pub returns-in-Ok-check_text-clause-ends : goal.returns-in-Ok-check_text-clause-ends
returns-in-Ok-check_text-clause-ends g c =
    let one = (goal.at.returns-in-Ok-check_text-clause-ends g c).In-Ok in
    let both = both-read g (goal.at.returns-in-Ok-check_text-clause-ends g c).In-Ok-check_text in
    let its = reads-later c.args.issuer.now c.args.rows.shard c.in-Ok.over.rows.shard (g.S.Store.bytes c.args.old.now) (g.S.Store.bytes c.check_text.new.old)
    c.in-Ok.over.rows c.in-Ok.over.taken c.in-Ok.ensures.same.shard_is both.old_read.bytes_are (reads g one) in
    ends-from c.args.issuer.now c.args.rows.shard c.in-Ok.over.rows.shard _ _ _ _ _ _ _ _ c.continue_journal.result c.in-Ok.ensures.same.shard_is
    both.old_read.bytes_are both.read.bytes_are both.read.disk_is
    (c.continue_journal.ensures.ends (record {
      reads = its;
      agree =
          subst (λ (bytes : Option (List ℕ)). IfSome bytes (Agree (journal_text (reads g one).history))) (sym both.read.bytes_are)
          (c.in-Ok-check_text.ensures.agree (journal_text (reads g one).history) (after g one));
    }))

pub returns-in-Ok-check_text-clause-stores : goal.returns-in-Ok-check_text-clause-stores
returns-in-Ok-check_text-clause-stores g c =
    takes-after g.S.Store c.continue_journal.result _ _ _ _ _ _ (both-read g (goal.at.returns-in-Ok-check_text-clause-stores g c).In-Ok-check_text)
    c.continue_journal.ensures.stores

pub returns-in-Err-check_text-clause-ends : goal.returns-in-Err-check_text-clause-ends
returns-in-Err-check_text-clause-ends g c =
    let one = (goal.at.returns-in-Err-check_text-clause-ends g c).In-Ok in
    let its = reads g one in
    let both = c.in-Err-check_text.ensures.read in
    stops-read c.args.issuer.now c.args.rows.shard _ _ _ _ _ c.in-Err-check_text.fault
    (stops-differ c.args.issuer.now c.args.rows.shard its.history its.records its.legal _ _ c.in-Err-check_text.fault
    (g.met.S.Store.told_alike c.args.old.now c.args.store.now) its.text_is
    (c.in-Err-check_text.ensures.differ (journal_text its.history) (after g one)))
    both.read.bytes_are both.read.disk_is

pub returns-in-Err-check_text-clause-stores : goal.returns-in-Err-check_text-clause-stores
returns-in-Err-check_text-clause-stores g c =
    takes-read g.S.Store TakenOver c.in-Err-check_text.fault _ _ _ _
    (both-failed g.S.Store (Unit {0}) c.in-Err-check_text.fault _ _ _ _
    (both-on g.S.Store _ _ _ _ _ _ _ (both-first g.S.Store false _ _ _ c.in-Ok.ensures.read) c.in-Err-check_text.ensures.read))
