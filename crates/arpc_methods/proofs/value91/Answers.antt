-- By either method the value of tag 91 is the ARPC, followed by the data that it authenticates.
use Rattle.std.proofs.Common.{◌++◌, sym, ap, ◌∙◌}
use Rattle.arpc_methods.specs.Arpc.{value91}
use Rattle.arpc_methods.proofs.value91.Goals as goal

pub returns-in-One : goal.returns-in-One
unfolding value91
returns-in-One c =
    c.joined.ensures ∙ ap (λ arpc. arpc ++ c.args.arc) c.method1.ensures
    ∙ sym (ap (λ method. value91 c.args.suite method c.args.key.now.0 c.args.ac.now c.args.arc c.args.csu) c.in-One.is)

pub returns-in-Two : goal.returns-in-Two
unfolding value91
returns-in-Two c =
    c.joined-in-Two.ensures ∙ ap (λ arpc. arpc ++ c.args.csu) c.method2.ensures
    ∙ sym (ap (λ method. value91 c.args.suite method c.args.key.now.0 c.args.ac.now c.args.arc c.args.csu) c.in-Two.is)
