-- The row of the card stands for its status, and the others for the record of another card.
use Rattle.std.proofs.Common.{refl}
use Rattle.issuer_base.specs.declared.entry.Entry.{Entry}
use Rattle.issuer_base.specs.declared.entry.Entry.TheVariants.{Status}
use Rattle.shard_book.proofs.Marks.{unmarked}
use Rattle.shard_book.proofs.RowsAfter.{is-read, step-more}
use Rattle.shard_book.proofs.rows.Rows.set_status.Goals as goal

pub returns-clause-set : goal.returns-clause-set
returns-clause-set c issuer card history stands known =
    let entry : Entry = Status card.pan card.psn c.args.status in
    let read = is-read c.self.view_is c.self.invariant c.requires.home c.index_of.ensures c.index_mut.ensures.value in
    step-more issuer read card history stands known entry c.set_status.new.self c.self.inside.bits refl
    (unmarked c.self.inside.bits c.index_of.result entry (λ counter. refl)) (c.set_status.ensures card history)
