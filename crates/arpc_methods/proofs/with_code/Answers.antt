-- The first two bytes are changed in place.
use Rattle.std.proofs.Common.{◌≡◌, length, rules}
use Rattle.arpc_methods.proofs.Blocks.{first-two-xored}
use Rattle.arpc_methods.proofs.with_code.Goals as goal

pub returns : goal.returns
returns c =
    let two : length c.args.arc ≡ 2 = search rules in
    first-two-xored c.args.ac.now c.args.arc c.told-ac two
