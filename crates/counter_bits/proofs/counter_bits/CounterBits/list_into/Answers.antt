-- The ATCs of one more word are appended.
use Rattle.std.proofs.Common.{◌+◌, ◌/◌, ◌&&◌, Bool, ap, ◌∙◌, eqb, arith}
use Rattle.counter_bits.specs.declared.counter_bits.TheConstants.{WORD_COUNTERS}
use Rattle.counter_bits.specs.CounterSets.{times, has, one_if}
use Rattle.counter_bits.proofs.Listing.{below-more, below-all, kept-more}
use Rattle.counter_bits.proofs.counter_bits.CounterBits.list_into.Goals as goal

pub loop-block-preserved : goal.loop-block-preserved
loop-block-preserved c = record {
  kept =
      kept-more c.args.list.now.items c.loop-block.list.items c.list_word.new.list.items c.loop-block.invariant.kept c.in_ok-list_word.ensures.kept;
  listed = λ other counter.
      let before = c.loop-block.invariant.listed other counter in
      let word = c.in_ok-list_word.ensures.listed other counter in
      let more =
      below-more (eqb c.args.number other) (has c.args.self.now c.args.index counter) (counter / WORD_COUNTERS) c.loop-block.block in
      omega (arith, before, word, more);
}

pub returns-clause-listed : goal.returns-clause-listed
returns-clause-listed c other counter =
    c.loop-block.invariant.listed other counter
    ∙ ap (λ (there : Bool). times other counter c.args.list.now.items + one_if (eqb c.args.number other && there))
    (below-all c.args.self.now c.args.index counter c.loop-block.block
    (let past = c.loop-block-test.false in let end = c.loop-block.auto.block-end in omega (arith, past, end)))
