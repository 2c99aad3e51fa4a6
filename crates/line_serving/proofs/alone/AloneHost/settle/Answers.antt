-- Where no line waits, none has to be answered.
use Rattle.std.proofs.Common.{refl, sym, ◌∙◌, eqb-true}
use Rattle.std.proofs.lemmas.List.{nil_from_length}
use Rattle.line_serving.proofs.AloneSteps.{settling-none, settles-alone}
use Rattle.line_serving.proofs.alone.AloneHost.settle.Goals as goal

pub returns-then-is_empty-clause-answered : goal.returns-then-is_empty-clause-answered
returns-then-is_empty-clause-answered g c = λ first lines text waiting so_far.
    let host = c.args.self.now in
    let due = c.args.block.now.text.items in
    let none = nil_from_length host.ahead (eqb-true _ _ (sym c.is_empty.ensures ∙ c.if-is_empty.true)) in
    settles-alone first host _ refl none none due due lines text waiting
    (settling-none first host host refl (λ lines looked_up. looked_up) due lines text waiting so_far)
