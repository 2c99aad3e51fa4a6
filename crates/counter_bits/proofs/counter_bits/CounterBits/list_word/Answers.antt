-- One more ATC of the word is appended if it is in the set.
use Rattle.std.proofs.Common.{◌≡◌, ◌+◌, ◌/◌, ◌&&◌, Bool, ap, ◌∙◌, eqb, arith}
use Rattle.counter_bits.specs.declared.counter_bits.TheConstants.{WORD_COUNTERS}
use Rattle.counter_bits.specs.CounterSets.{times, has, one_if}
use Rattle.counter_bits.proofs.Listing.{below-more, in-word-none, in-word-here, in-word-all, in-word-empty, none-added, kept-same, kept-more}
use Rattle.counter_bits.proofs.counter_bits.CounterBits.list_word.Goals as goal

pub returns-then-is_empty-clause-listed : goal.returns-then-is_empty-clause-listed
returns-then-is_empty-clause-listed c other counter =
    let none =
    in-word-empty c.args.self.now c.args.index c.args.block counter (eqb c.args.number other) (c.is_empty.ensures c.if-is_empty.true) in
    omega (arith, none)

pub loop-counter-init : goal.loop-counter-init
loop-counter-init c = record {
  kept = kept-same c.args.list.now.items;
  listed = λ other counter.
      none-added (times other counter c.args.list.now.items) (eqb c.args.number other)
      (in-word-none (has c.args.self.now c.args.index counter) c.args.block counter);
}

pub loop-counter-preserved : goal.loop-counter-preserved
loop-counter-preserved c = record {
  kept =
      kept-more c.args.list.now.items c.loop-counter.list.items c.list_one.new.list.items c.loop-counter.invariant.kept c.in_ok-list_one.ensures.kept;
  listed = λ other counter.
      let its = eqb c.args.number other in
      let has_it = has c.args.self.now c.args.index counter in
      let before = c.loop-counter.invariant.listed other counter in
      let one = c.in_ok-list_one.ensures.listed other counter in
      let within : c.loop-counter.counter / WORD_COUNTERS ≡ c.args.block = omega arith in
      let here = in-word-here its has_it c.args.block c.loop-counter.counter counter within in
      let more = below-more its (eqb c.args.block (counter / WORD_COUNTERS) && has_it) counter c.loop-counter.counter in
      omega (arith, before, one, here, more);
}

pub returns-clause-listed : goal.returns-clause-listed
returns-clause-listed c other counter =
    c.loop-counter.invariant.listed other counter
    ∙ ap (λ (there : Bool). times other counter c.args.list.now.items + one_if (eqb c.args.number other && there))
    (in-word-all (has c.args.self.now c.args.index counter) c.args.block counter c.loop-counter.counter
    (let past = c.loop-counter-test.false in let end = c.loop-counter.auto.counter-end in omega (arith, past, end)))
