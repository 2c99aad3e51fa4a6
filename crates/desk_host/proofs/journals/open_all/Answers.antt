-- One journal more is opened, or not.
use Rattle.std.proofs.Common.{◌+◌, sym, ap, subst, ◌∙◌, arith, rules, length}
use Rattle.desk_host.specs.Journals.{file_name, AreOpened}
use Rattle.desk_host.proofs.LoadingSteps.{cannot-open}
use Rattle.desk_host.proofs.JournalSteps.{names-apart, opened-more, length-more}
use Rattle.desk_host.proofs.journals.open_all.Goals as goal

pub loop-shard-preserved : goal.loop-shard-preserved
loop-shard-preserved g c =
    let before = c.loop-shard.invariant in
    let name = file_name c.args.ending.now c.args.prefix.now in
    let named = before.ahead c.loop-shard.shard (omega arith) in
    record {
      count =
          ap length c.push_reserved.ensures.items ∙ length-more g.D.Journal.Store c.loop-shard.stores.items
          c.in-Ok-open_journal.store
          ∙ ap (λ n. n + 1) before.count;
      room = c.push_reserved.ensures.capacity ∙ before.room;
      opened =
          subst (AreOpened g.D.Journal.Store name (g.D.Desk.logs c.args.desk.now))
          (sym c.push_reserved.ensures.items)
          (opened-more g.D.Journal.Store name (g.D.Desk.logs c.args.desk.now) c.loop-shard.stores.items
          c.in-Ok-open_journal.store
          c.loop-shard.shard (g.D.Desk.logs c.loop-shard.desk (name c.loop-shard.shard))
          before.opened (sym before.count) named
          c.in-Ok-open_journal.ensures.opened);
      stood = c.in-Ok-open_journal.ensures.count.counted ∙ before.stood;
      kept = c.open_journal.ensures.elsewhere.holds_are ∙ before.kept;
      ahead = λ shard later.
          c.open_journal.ensures.elsewhere.logs_are (name shard) (λ same.
          let twice = names-apart c.args.ending.now c.args.prefix.now shard c.loop-shard.shard same in
          omega (arith, twice, later)) ∙ before.ahead shard (omega (arith, later));
      elsewhere = λ other apart.
          c.open_journal.ensures.elsewhere.logs_are other (apart c.loop-shard.shard) ∙ before.elsewhere other apart;
    }

pub returns-in-Err-clause-none : goal.returns-in-Err-clause-none
returns-in-Err-clause-none g c =
    cannot-open g.D.Desk g.D.Journal.Store (file_name c.args.ending.now c.args.prefix.now) c.args.shards
    c.args.desk.now c.loop-shard.desk _ _ _ (search rules) c.loop-shard.invariant.count c.loop-shard.invariant.opened
    c.loop-shard.invariant.stood c.in-Err.ensures.fault c.in-Err.ensures.count c.in-Err.ensures.last
