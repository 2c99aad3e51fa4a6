-- The chip data of a request say it.
use Rattle.std.proofs.Common.{◌≡◌, ℕ, ◌+◌, ◌*◌, ◌/◌, ◌%◌, ◌^◌, ◌<◌, ◌≤◌, ◌==◌, true, List, [], ◌∷◌, length, None, Ok, eq-eqb}
use Rattle.std.proofs.Common.{refl, sym, ap, subst, ◌∙◌, lit<, arith}
use Rattle.std.specs.Int.{w16, to_be_bytes}
use Rattle.hex.specs.Hex.{IsBytes}
use Rattle.tlv_objects.specs.Tlv.{TlvText, objects_of}
use Rattle.issuer_base.specs.declared.request.Parts.{Parts}
use Rattle.issuer_base.proofs.CardNumberLemmas.{length-pan}
use Rattle.issuer_base.proofs.ChipDataLemmas.{psn-request, amount-request, iad-request}
use Rattle.chip_request.specs.Fields.{fields}
use Rattle.chip_request.specs.Reading.{values_of, is_missing, is_misformed, is_repeated, first_wrong, parts_of, request_of}
use Rattle.chip_request.proofs.Meaning.{takes_request}
use Rattle.terminal_kernel.specs.Held.{HasBytes, IsHeld}
use Rattle.terminal_kernel.specs.Requested.{number_bytes, request_objects, chip_data}
use Rattle.terminal_kernel.proofs.Bytes.{IsBytes-one, IsBytes-two}
use Rattle.terminal_kernel.proofs.NumberRead.{digits-pan, leading_digits-number_bytes, has_account_number-number_bytes, length-number_bytes, IsBytes-number_bytes}
use Rattle.terminal_kernel.proofs.ObjectsRead.{AreShort, ◌&◌, short_object, placed, objects_from-text, length-objects_text, IsBytes-objects_text}

one_byte : (byte : ℕ) → byte < 2 ^ 8 → HasBytes 1 (byte ∷ [])
one_byte byte below = record { size = refl; bytes = IsBytes-one byte (omega arith) }

-- the objects of a request are short
short_objects : (request : Parts) → IsHeld request → AreShort (request_objects request)
short_objects request held =
    let number = length-number_bytes request.pan in
    let digits = length-pan request.pan held.pan in
    let pan : HasBytes (length (number_bytes request.pan)) (number_bytes request.pan) =
    record { size = refl; bytes = IsBytes-number_bytes request.pan (digits-pan request.pan held.pan) } in
    let atc : HasBytes 2 (to_be_bytes w16 request.atc) =
    record { size = refl; bytes = IsBytes-two (request.atc / 256 % 256) (request.atc % 256) (omega arith) (omega arith) } in
    short_object 0x5A (length (number_bytes request.pan)) _ refl (lit< tt) (omega (arith, number.1, digits.1)) pan
    & short_object 0x5F34 1 _ refl (lit< tt) (lit< tt) (one_byte request.psn held.psn)
    & short_object 0x82 2 _ refl (lit< tt) (lit< tt) held.aip
    & short_object 0x95 5 _ refl (lit< tt) (lit< tt) held.tvr
    & short_object 0x9A 3 _ refl (lit< tt) (lit< tt) held.date
    & short_object 0x9C 1 _ refl (lit< tt) (lit< tt) (one_byte request.kind held.kind)
    & short_object 0x9F02 6 _ refl (lit< tt) (lit< tt) held.amount
    & short_object 0x9F03 6 _ refl (lit< tt) (lit< tt) held.other
    & short_object 0x9F10 32 _ refl (lit< tt) (lit< tt) held.iad
    & short_object 0x9F1A 2 _ refl (lit< tt) (lit< tt) held.country
    & short_object 0x5F2A 2 _ refl (lit< tt) (lit< tt) held.currency
    & short_object 0x9F26 8 _ refl (lit< tt) (lit< tt) held.ac
    & short_object 0x9F27 1 _ refl (lit< tt) (lit< tt) (one_byte request.cid held.cid)
    & short_object 0x9F36 2 _ refl (lit< tt) (lit< tt) atc
    & short_object 0x9F37 4 _ refl (lit< tt) (lit< tt) held.un
    & tt

-- the chip data are read as these objects
objects_of-chip_data : (request : Parts) → IsHeld request → objects_of (chip_data request)
    ≡ record { objects = placed 0 (request_objects request); torn = None }
unfolding chip_data
objects_of-chip_data request held = objects_from-text (request_objects request) 0 (short_objects request held)

-- they have 1 to 125 bytes
pub length-chip_data : (request : Parts) → IsHeld request → (1 ≤ length (chip_data request)) × (length (chip_data request) ≤ 125)
unfolding chip_data
length-chip_data request held =
    let size = length-objects_text (request_objects request) (short_objects request held) in
    let number = length-number_bytes request.pan in
    let digits = length-pan request.pan held.pan in (
      omega (arith, size),
      omega (
        arith,
        size,
        number.1,
        digits.1,
        held.aip.size,
        held.tvr.size,
        held.date.size,
        held.amount.size,
        held.other.size,
        held.country.size,
        held.currency.size,
        held.un.size,
        held.iad.size,
        held.ac.size,
      ),
    )

pub IsBytes-chip_data : (request : Parts) → IsHeld request → IsBytes (chip_data request)
unfolding chip_data
IsBytes-chip_data request held = IsBytes-objects_text (request_objects request) (short_objects request held)

-- the value of a field of so many bytes has its form
sized : (size : ℕ) (value : List ℕ) → HasBytes size value → (length value == size) ≡ true
sized size value field = eq-eqb (length value) size field.size

-- no field is missing
none_missing : (request : Parts) → first_wrong is_missing (placed 0 (request_objects request)) fields ≡ None
unfolding first_wrong values_of
none_missing request = refl

-- none is repeated
none_repeated : (request : Parts) → first_wrong is_repeated (placed 0 (request_objects request)) fields ≡ None
unfolding first_wrong values_of
none_repeated request = refl

-- and each has its form
none_misformed : (request : Parts) → IsHeld request → first_wrong is_misformed (placed 0 (request_objects request)) fields ≡ None
unfolding first_wrong values_of
none_misformed request held =
    rw (
      has_account_number-number_bytes request.pan held.pan,
      psn-request request held.has_form,
      sized 2 request.aip held.aip,
      sized 5 request.tvr held.tvr,
      sized 3 request.date held.date,
      sized 6 request.amount held.amount,
      amount-request request held.has_form,
      sized 6 request.other held.other,
      sized 32 request.iad held.iad,
      iad-request request held.has_form,
      sized 2 request.country held.country,
      sized 2 request.currency held.currency,
      sized 8 request.ac held.ac,
      sized 4 request.un held.un,
    ) refl

-- the objects say the request
parts_of-objects : (request : Parts) → IsHeld request → parts_of (placed 0 (request_objects request)) ≡ request
unfolding parts_of values_of
parts_of-objects request held =
    let atc : 256 * (request.atc / 256 % 256) + request.atc % 256 ≡ request.atc = omega (arith, held.atc) in
    rw (leading_digits-number_bytes request.pan (digits-pan request.pan held.pan), atc) refl

-- the chip data say the request
pub request_of-chip_data : (request : Parts) → IsHeld request → request_of (chip_data request) ≡ Ok request
request_of-chip_data request held =
    let text = objects_of-chip_data request held in
    let back : (P : TlvText → Type 0) → P (record { objects = placed 0 (request_objects request); torn = None }) → P (objects_of (chip_data request)) =
    λ P there. subst P (sym text) there in
    takes_request (chip_data request)
    (back (λ read. read.torn ≡ None) refl)
    (back (λ read. first_wrong is_missing read.objects fields ≡ None) (none_missing request))
    (back (λ read. first_wrong is_misformed read.objects fields ≡ None) (none_misformed request held))
    (back (λ read. first_wrong is_repeated read.objects fields ≡ None) (none_repeated request))
    ∙ ap (λ (read : TlvText). Ok (parts_of read.objects)) text
    ∙ ap Ok (parts_of-objects request held)
