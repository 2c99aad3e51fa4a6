-- The text under the MAC is the request's cryptogram, followed by the status update.
use Rattle.arpc_methods.proofs.Blocks.{parts-joined}
use Rattle.arpc_methods.proofs.text_of.Goals as goal

pub returns : goal.returns
returns c = parts-joined c.args.ac.now c.args.csu c.copy_from_slice.new.self c.copy_from_slice-2.new.self c.copy_from_slice.ensures.len
    c.copy_from_slice.ensures.after c.copy_from_slice-2.ensures.after
