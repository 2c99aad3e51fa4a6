-- One bit is read.
use Rattle.std.proofs.Common.{◌<◌, arith, subst, sym, ap, ◌∙◌, get_or}
use Rattle.counter_bits.specs.CounterSets.{CounterSets, has}
use Rattle.counter_bits.proofs.Bits.{tested}
use Rattle.counter_bits.proofs.counter_bits.CounterBits.has.Goals as goal

pub returns : goal.returns
returns c =
    let sets : CounterSets = record { cards = c.self.inside.cards; words = c.self.inside.opened.items } in
    let known = subst (λ (sets : CounterSets). c.args.index < sets.cards) (sym c.self.view_is) c.requires in
    tested sets c.args.index c.args.counter c.word_at-word.result known (omega arith)
    (c.word_at-word.ensures ∙ ap (λ words. get_or words c.word_of.result 0) c.as_slice.ensures.value ∙ ap (λ i. get_or sets.words i 0) c.word_of.ensures.place)
    ∙ ap (λ (sets : CounterSets). has sets c.args.index c.args.counter) c.self.view_is
