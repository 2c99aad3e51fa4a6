-- An ATC that is in the set is appended.
use Rattle.std.proofs.Common.{ℕ, ◌+◌, ap, sym, ◌∙◌, eqb}
use Rattle.counter_bits.specs.CounterSets.{times}
use Rattle.counter_bits.proofs.Listing.{times-push, counted-listed}
use Rattle.counter_bits.proofs.counter_bits.CounterBits.list_one.Goals as goal

pub returns-in_ok-push-clause-listed : goal.returns-in_ok-push-clause-listed
returns-in_ok-push-clause-listed c other other_counter =
    ap (times other other_counter) c.in_ok-push.ensures.items
    ∙ times-push other other_counter c.args.list.now.items (c.args.number, c.args.counter)
    ∙ ap (λ (n : ℕ). times other other_counter c.args.list.now.items + n)
    (sym (counted-listed c.args.self.now c.args.index c.args.counter other_counter (eqb c.args.number other) (sym c.has.ensures ∙ c.if-has.true)))
