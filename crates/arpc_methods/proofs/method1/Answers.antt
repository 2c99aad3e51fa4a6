-- The first method's cryptogram enciphers the request's, whose first two bytes carry the response code.
use Rattle.std.proofs.Common.{ap, ◌∙◌}
use Rattle.arpc_methods.specs.Arpc.{eight_of, method1}
use Rattle.arpc_methods.proofs.method1.Goals as goal

pub returns : goal.returns
unfolding method1
returns c = c.enciphered.ensures ∙ ap (eight_of c.args.suite c.args.key.now.0) c.with_code.ensures
