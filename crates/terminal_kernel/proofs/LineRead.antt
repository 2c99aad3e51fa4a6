-- The line of a request asks for the check of its chip data.
use Rattle.std.proofs.Common.{◌≡◌, ℕ, suc, ◌/◌, ◌%◌, ◌<◌, List, [], ◌∷◌, slice_index, Ok, refl, arith}
use Rattle.hex.specs.Hex.{IsBytes, encode_with, encode_lower, lower_digits}
use Rattle.hex.proofs.HexLemmas.{IsDigits-lower_digits}
use Rattle.issuer_base.specs.declared.request.Parts.{Parts}
use Rattle.chip_request.specs.Lines.{Spells, SpellsByte, Says}
use Rattle.chip_request.specs.LineParts.{line_of}
use Rattle.chip_request.specs.declared.line.LineKind.TheVariants.{Ask}
use Rattle.chip_request.proofs.LineLaws.{line_reads, reads_once}
use Rattle.journal_rec.specs.Record.{IsRequest}
use Rattle.terminal_kernel.specs.Requested.{chip_data}
use Rattle.terminal_kernel.specs.ChipText.{request_line}
use Rattle.terminal_kernel.proofs.LineRequestRead.{length-chip_data, IsBytes-chip_data}

-- two digits in lower case spell a byte
spells_byte : (byte : ℕ) → byte < 256 → SpellsByte (slice_index lower_digits (byte / 16)) (slice_index lower_digits (byte % 16)) byte
spells_byte byte below = record {
  high_value = byte / 16;
  low_value = byte % 16;
  is_high = IsDigits-lower_digits (byte / 16) (omega arith);
  is_low = IsDigits-lower_digits (byte % 16) (omega arith);
  joined = omega arith;
}

-- the hexadecimal text of bytes spells them
pub spells-encode_lower : (bytes : List ℕ) → IsBytes bytes → Spells (encode_lower bytes) bytes
unfolding encode_with
spells-encode_lower [] fits = tt
spells-encode_lower (byte ∷ bytes) fits = (spells_byte byte (fits 0), spells-encode_lower bytes (λ i. fits (suc i)))

-- the line of a request says its chip data
says-request_line : (request : Parts) → IsRequest request → Says (request_line request) (Ask (record { items = chip_data request }))
unfolding request_line
says-request_line request held =
    let size = length-chip_data request held in (
      encode_lower (chip_data request),
      refl,
      record {
        spelled = spells-encode_lower (chip_data request) (IsBytes-chip_data request held);
        some = size.0;
        within = omega (arith, size.1);
      },
    )

-- and is read so
pub line_of-request_line : (request : Parts) → IsRequest request → line_of (request_line request) ≡ Ok (Ask (record { items = chip_data request }))
line_of-request_line request held =
    reads_once (request_line request) (line_of (request_line request)) (Ok (Ask (record { items = chip_data request })))
    (line_reads (request_line request)) (says-request_line request held)
