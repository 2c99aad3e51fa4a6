-- The chip data of a request that a journal may have say it.
use Rattle.std.proofs.Common.{◌≡◌, ◌≤◌, length, Ok}
use Rattle.hex.specs.Hex.{IsBytes}
use Rattle.issuer_base.specs.declared.request.Parts.{Parts}
use Rattle.chip_request.specs.Reading.{request_of}
use Rattle.journal_rec.specs.Record.{IsRequest}
use Rattle.terminal_kernel.specs.Requested.{chip_data}
use Rattle.terminal_kernel.proofs.RequestRead as held_read
use Rattle.terminal_kernel.proofs.FieldsOf.{held_request}

-- they have 1 to 125 bytes
pub length-chip_data : (request : Parts) → IsRequest request → (1 ≤ length (chip_data request)) × (length (chip_data request) ≤ 125)
length-chip_data request held = held_read.length-chip_data request (held_request request held)

pub IsBytes-chip_data : (request : Parts) → IsRequest request → IsBytes (chip_data request)
IsBytes-chip_data request held = held_read.IsBytes-chip_data request (held_request request held)

-- and are read as the request
pub request_of-chip_data : (request : Parts) → IsRequest request → request_of (chip_data request) ≡ Ok request
request_of-chip_data request held = held_read.request_of-chip_data request (held_request request held)
