-- The chip data of a request say it, and its line asks for their check.
use Rattle.std.proofs.Common.{arith}
use Rattle.terminal_kernel.proofs.LineRequestRead.{request_of-chip_data, length-chip_data}
use Rattle.terminal_kernel.proofs.LineRead.{line_of-request_line}
use Rattle.terminal_kernel.proofs.law.what_is_written_is_read.Goals as goal

pub returns-clause-read : goal.returns-clause-read
returns-clause-read c = request_of-chip_data

pub returns-clause-short : goal.returns-clause-short
returns-clause-short c request held = omega (arith, (length-chip_data request held).1)

pub returns-clause-asked : goal.returns-clause-asked
returns-clause-asked c = line_of-request_line
