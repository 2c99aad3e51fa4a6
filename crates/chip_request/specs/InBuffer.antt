-- What a line asks for, with its data in a buffer.
use Rattle.std.specs.Prelude.{ℕ, Bool, List, take, nat_le}
use Rattle.issuer_base.specs.declared.limits.TheConstants.{MAX_CHIP_BYTES}
use Rattle.chip_request.specs.declared.line.TheConstants.{MAX_QUEUE_BYTES}
use Rattle.chip_request.specs.declared.line.LineForm.{LineForm}
use Rattle.chip_request.specs.declared.line.LineForm.TheVariants.{Ask as IsAsk, Queue as IsQueue, Set as IsSet}
use Rattle.chip_request.specs.declared.line.LineKind.{LineKind}
use Rattle.chip_request.specs.declared.line.LineKind.TheVariants.{Ask, Queue, Set}

-- the line's kind with its data, which are a prefix of the buffer
abbrev pub kind_in : List ℕ → LineForm → LineKind
kind_in buffer (IsAsk count) = Ask (record { items = take count buffer })
kind_in buffer (IsQueue pan psn count) = Queue pan psn (record { items = take count buffer })
kind_in buffer (IsSet pan psn status) = Set pan psn status

-- the data are within the limit of their form, and a status has one digit
abbrev pub is_within : LineForm → Bool
is_within (IsAsk count) = nat_le count MAX_CHIP_BYTES
is_within (IsQueue pan psn count) = nat_le count MAX_QUEUE_BYTES
is_within (IsSet pan psn status) = nat_le status 9
