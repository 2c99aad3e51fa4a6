-- The row of the decided card stands for its decision, and the others for the record of another card.
use Rattle.std.proofs.Common.{◌≡◌, ℕ, ◌/◌, ◌&&◌, ◌||◌, eqb, Some, ap, subst}
use Rattle.std.specs.List.{slice_get}
use Rattle.counter_bits.specs.CounterSets.{has}
use Rattle.issuer_base.specs.declared.entry.Entry.TheVariants.{Decided}
use Rattle.issuer_base.specs.declared.request.Request.{Request}
use Rattle.card_history.specs.declared.decision.Decision.{Decision}
use Rattle.shard_book.specs.ShardRows.{ShardRows}
use Rattle.shard_book.proofs.RowsAfter.{is-read, step-more}
use Rattle.shard_book.proofs.rows.Rows.apply.Goals as goal

pub apply-requires : goal.apply-requires
apply-requires c =
    let read = is-read c.self.view_is c.self.invariant c.requires.home c.index_of-index.ensures c.index_mut.ensures.value in
    c.requires.launch c.index_mut.result.now
    (subst (λ (rows : ShardRows). slice_get rows.rows (c.args.found.now.card / rows.shards) ≡ Some c.index_mut.result.now) read.view read.row_is)

pub returns-clause-applied : goal.returns-clause-applied
returns-clause-applied c issuer card history stands known next its =
    let decision : Decision = record { request = c.args.found.now.request; reply = c.args.reply.now; place = c.args.place } in
    let read = is-read c.self.view_is c.self.invariant c.requires.home c.index_of-index.ensures c.index_mut.ensures.value in
    let on_counter : c.parts.result.now.atc ≡ c.args.found.now.request.atc = ap (λ (request : Request). request.atc) c.parts.ensures.same in
    let marks = subst (λ (atc : ℕ). (other counter : ℕ)
    → has c.add.new.self other counter ≡ (has c.self.inside.bits other counter || (eqb other c.index_of-index.result && eqb counter atc)))
    on_counter c.add.ensures.added in
    step-more issuer read card history stands known (Decided decision.request decision.reply) c.apply.new.self c.add.new.self next.of_card marks
    (λ before. c.apply.ensures card history before next)
