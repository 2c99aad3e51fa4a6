-- One bit is set.
use Rattle.std.proofs.Common.{◌≡◌, ◌+◌, ◌-◌, ◌*◌, ◌<◌, ◌%◌, ◌^◌, arith, ap, sym, ◌∙◌, subst, set, get_or, bit_or, ℕ, eqb, ◌&&◌, ◌||◌, length, refl}
use Rattle.counter_bits.specs.CounterSets.{CounterSets, has}
use Rattle.counter_bits.proofs.Bits.{added, opened-within}
use Rattle.counter_bits.proofs.counter_bits.CounterBits.add.Goals as goal

pub returns-clause-added : goal.returns-clause-added
returns-clause-added c =
    let sets : CounterSets = record { cards = c.self.inside.cards; words = c.self.inside.opened.items } in
    let opened = c.open_to.new.opened.items in
    let place = c.word_of-word.ensures.place in
    let new : CounterSets = record {
      cards = c.self.inside.cards;
      words = set opened c.word_of-word.result (bit_or c.index_mut.result.now (1 * 2 ^ (c.args.counter % 64) % 2 ^ 64));
    } in
    let known = subst (λ (sets : CounterSets). c.args.index < sets.cards) (sym c.self.view_is) c.requires in
    let within = opened-within sets.words opened c.word_of-word.result c.open_to.ensures.grown in
    subst (λ (old : CounterSets). (other_index other : ℕ)
    → has new other_index other ≡ (has old other_index other || (eqb other_index c.args.index && eqb other c.args.counter))) c.self.view_is
    (added sets new opened (c.word_of-word.result + 1 - length sets.words) c.args.index c.args.counter c.index_mut.result.now known (omega arith) refl
    c.open_to.ensures.grown (subst (λ (i : ℕ). i < length opened) place within)
    (c.index_mut.ensures.value ∙ ap (λ (i : ℕ). get_or opened i c.index_mut.result.now) place)
    (ap (λ (i : ℕ). set opened i (bit_or c.index_mut.result.now (1 * 2 ^ (c.args.counter % 64) % 2 ^ 64))) place))
