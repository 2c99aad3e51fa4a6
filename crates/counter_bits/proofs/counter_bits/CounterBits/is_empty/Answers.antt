-- A word that is 0 has no ATC.
use Rattle.std.proofs.Common.{ℕ, ◌*◌, ◌+◌, List, ap, sym, ◌∙◌, get_or}
use Rattle.counter_bits.specs.CounterSets.{CounterSets, has}
use Rattle.counter_bits.proofs.Bits.{no-counter}
use Rattle.std.proofs.lemmas.Bool.{eqb-true}
use Rattle.counter_bits.proofs.counter_bits.CounterBits.is_empty.Goals as goal

pub returns : goal.returns
returns c = λ zero counter same.
    let sets : CounterSets = record { cards = c.self.inside.cards; words = c.self.inside.opened.items } in
    sym (ap (λ (sets : CounterSets). has sets c.args.index counter) c.self.view_is)
    ∙ no-counter sets c.args.index counter c.word_at.result
    (c.word_at.ensures ∙ ap (λ (words : List ℕ). get_or words (c.args.block * c.self.inside.cards + c.args.index) 0) c.as_slice.ensures.value
    ∙ ap (λ (block : ℕ). get_or sets.words (block * c.self.inside.cards + c.args.index) 0) (sym same)) (eqb-true c.word_at.result 0 zero)
