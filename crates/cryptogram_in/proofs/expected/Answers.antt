-- The expected cryptogram is the MAC of the request's input under the session key.
use Rattle.std.proofs.Common.{ap, ap₂, ◌∙◌}
use Rattle.key_derive.specs.SuiteMac.{mac_of}
use Rattle.cryptogram_in.specs.Cryptogram.{cryptogram_under}
use Rattle.cryptogram_in.proofs.expected.Goals as goal

pub returns : goal.returns
unfolding cryptogram_under
returns c =
    let session = c.args.session.now in
    c.mac.ensures c.suite.result c.key.result.now.0 c.new.ensures
    ∙ ap₂ (λ suite key. mac_of suite key c.input.result) c.suite.ensures c.key.ensures
    ∙ ap (mac_of session.suite session.key) c.input.ensures
