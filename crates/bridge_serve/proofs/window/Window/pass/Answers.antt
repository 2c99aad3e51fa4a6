-- The first bytes are left out.
use Rattle.std.proofs.Common.{sym}
use Rattle.bridge_serve.proofs.Parts.{drop-between}
use Rattle.bridge_serve.proofs.window.Window.pass.Goals as goal

pub returns : goal.returns
returns c = let w = c.args.self.now in sym (drop-between w.bytes.items w.start w.end c.args.count)
