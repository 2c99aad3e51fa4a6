-- Five bytes are changed in place.
use Rattle.std.proofs.Common.{◌≡◌, length, rules}
use Rattle.arpc_methods.proofs.ArpcBlocks.{update-xored}
use Rattle.arpc_methods.proofs.ahead.with_update.Goals as goal

pub returns : goal.returns
returns c =
    let eight : length c.args.block ≡ 8 = search rules in
    let four : length c.args.csu ≡ 4 = search rules in
    update-xored c.args.block c.args.csu eight four
