-- The line that asks for a request's check.
use Rattle.std.specs.Prelude.{List, [], ◌∷◌, ℕ, codes}
use Rattle.hex.specs.Hex.{encode_lower}
use Rattle.issuer_base.specs.declared.request.Parts.{Parts}
use Rattle.chip_request.specs.Lines.{spaced}
use Rattle.terminal_kernel.specs.Requested.{chip_data}

-- the line that asks for its check: `A`, a space, and the chip data in hexadecimal
unfoldable pub request_line : Parts → List ℕ
request_line request = spaced (codes "A" ∷ encode_lower (chip_data request) ∷ [])
