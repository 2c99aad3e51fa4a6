-- The second method's cryptogram is the first four bytes of a MAC over the request's cryptogram and the status update.
use Rattle.std.proofs.Common.{◌≡◌, length, take, ap, ◌∙◌, arith, rules}
use Rattle.key_derive.specs.SuiteMac.{mac_of}
use Rattle.arpc_methods.specs.Arpc.{method2}
use Rattle.arpc_methods.proofs.Blocks.{first-four}
use Rattle.arpc_methods.proofs.method2.Goals as goal

pub returns : goal.returns
unfolding method2
returns c =
    let suite = c.args.suite in
    let key = c.args.key.now.0 in
    let long : length c.mac.result ≡ 8 = search rules in
    first-four c.mac.result (omega arith)
    ∙ ap (take 4) (c.mac.ensures suite key c.new.ensures ∙ ap (mac_of suite key) c.text_of.ensures)
