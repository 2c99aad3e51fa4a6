-- The row of the command's card stands for it, and the others for the record of another card.
use Rattle.std.proofs.Common.{refl, sym, subst}
use Rattle.issuer_base.specs.declared.entry.Entry.{Entry}
use Rattle.issuer_base.specs.declared.entry.Entry.TheVariants.{Queued}
use Rattle.script_queue.specs.CommandQueue.{TakesOneMore}
use Rattle.shard_book.proofs.Marks.{unmarked}
use Rattle.shard_book.proofs.RowsAfter.{ok-then, is-read, queue-inside, step-more}
use Rattle.shard_book.proofs.rows.Rows.push.Goals as goal

pub returns-clause-queued : goal.returns-clause-queued
returns-clause-queued c issuer card history stands known takes =
    let entry : Entry = Queued card.pan card.psn c.args.command in
    let read = is-read c.self.view_is c.self.invariant c.requires.home c.index_of.ensures c.index_mut.ensures.value in
    let ok = c.push.ensures.taken.1 (subst TakesOneMore (sym (queue-inside issuer read card history stands known)) takes) in
    step-more issuer read card history stands known entry c.push.new.self c.self.inside.bits refl
    (unmarked c.self.inside.bits c.index_of.result entry (λ counter. refl)) (ok-then c.push.result _ c.push.ensures.queued ok card history)
