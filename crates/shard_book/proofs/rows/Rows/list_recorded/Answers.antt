-- The ATCs of one more card are listed.
use Rattle.std.proofs.Common.{ℕ, ◌+◌, ◌&&◌, eqb, ap, ◌∙◌, arith}
use Rattle.counter_bits.specs.CounterSets.{times, one_if, has}
use Rattle.counter_bits.proofs.Listing.{kept-more}
use Rattle.shard_book.proofs.Recorded.{number-within, lists-more}
use Rattle.shard_book.proofs.rows.Rows.list_recorded.Goals as goal

pub number_at-card-requires : goal.number_at-card-requires
number_at-card-requires c =
    let below = c.loop-index-test.true in
    let count = c.cards-index-end.ensures in
    let within = number-within _ c.self.invariant c.loop-index.index (omega (arith, below, count)) in
    let small = c.self.invariant.small in
    omega (arith, within, small)

pub loop-index-preserved : goal.loop-index-preserved
loop-index-preserved c = record {
  kept =
      kept-more c.args.list.now.items c.loop-index.list.items c.list_into.new.list.items c.loop-index.invariant.kept c.in_ok-list_into.ensures.kept;
  listed = λ number counter.
      let before = c.loop-index.invariant.listed number counter in
      let one = c.in_ok-list_into.ensures.listed number counter ∙ ap (λ (card : ℕ). times number counter c.loop-index.list.items
      + one_if (eqb card number && has c.self.inside.bits c.loop-index.index counter)) c.number_at-card.ensures in
      let more = lists-more _ c.self.invariant c.loop-index.index number counter in
      omega (arith, before, one, more);
}
