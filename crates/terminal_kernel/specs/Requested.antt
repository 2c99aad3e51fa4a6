-- The data objects of a request, as text: EMV 4.3 Book 3, Annexes A and B.
use Rattle.std.specs.Prelude.{ℕ, ◌+◌, ◌*◌, List, [], ◌∷◌}
use Rattle.std.specs.Int.{w16, to_be_bytes}
use Rattle.std.specs.List.{flat_map}
use Rattle.tlv_objects.specs.Writing.{object_text}
use Rattle.issuer_base.specs.declared.request.Parts.{Parts}
use Rattle.terminal_kernel.specs.Given.{DataObject, data_object}

-- an account number in bytes: two digits a byte, the first in the high half, and a nibble F after an odd last one
unfoldable pub number_bytes : List ℕ → List ℕ
number_bytes [] = []
number_bytes (digit ∷ []) = (16 * digit + 0xF) ∷ []
number_bytes (high ∷ low ∷ digits) = (16 * high + low) ∷ number_bytes digits

-- the objects in their order, each in its shortest form
abbrev pub objects_text : List DataObject → List ℕ
objects_text objects = flat_map (λ object. object_text object.tag object.value) objects

-- the objects of a request
abbrev pub request_objects : Parts → List DataObject
request_objects request =
    data_object 0x5A (number_bytes request.pan)  -- primary account number
    ∷ data_object 0x5F34 (request.psn ∷ [])  -- its sequence number
    ∷ data_object 0x82 request.aip  -- application interchange profile
    ∷ data_object 0x95 request.tvr  -- terminal verification results
    ∷ data_object 0x9A request.date  -- transaction date
    ∷ data_object 0x9C (request.kind ∷ [])  -- transaction type
    ∷ data_object 0x9F02 request.amount  -- amount authorised
    ∷ data_object 0x9F03 request.other  -- amount other
    ∷ data_object 0x9F10 request.iad  -- issuer application data
    ∷ data_object 0x9F1A request.country  -- terminal country code
    ∷ data_object 0x5F2A request.currency  -- transaction currency code
    ∷ data_object 0x9F26 request.ac  -- application cryptogram
    ∷ data_object 0x9F27 (request.cid ∷ [])  -- cryptogram information data
    ∷ data_object 0x9F36 (to_be_bytes w16 request.atc)  -- application transaction counter
    ∷ data_object 0x9F37 request.un  -- unpredictable number
    ∷ []

-- the chip data of a request
unfoldable pub chip_data : Parts → List ℕ
chip_data request = objects_text (request_objects request)
