-- The bytes are the chip data, which say the request.
use Rattle.std.proofs.Common.{◌≡◌, arith}
use Rattle.std.proofs.lemmas.Grind.{common_steps}
use Rattle.terminal_kernel.specs.Requested.{chip_data}
use Rattle.terminal_kernel.proofs.RequestRead.{request_of-chip_data, length-chip_data}
use Rattle.terminal_kernel.proofs.requested.request_objects.Goals as goal

pub returns-clause-size : goal.returns-clause-size
returns-clause-size c =
    let text : c.try_extend_from_slice.new.self.items ≡ chip_data c.args.request.now = grind (arith, common_steps) in
    rw text (omega (arith, (length-chip_data c.args.request.now c.chip_data.ensures.held).1))

pub returns-clause-read : goal.returns-clause-read
returns-clause-read c =
    let text : c.try_extend_from_slice.new.self.items ≡ chip_data c.args.request.now = grind (arith, common_steps) in
    rw text (request_of-chip_data c.args.request.now c.chip_data.ensures.held)
