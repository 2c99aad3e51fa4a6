-- The text of a journal: one line for each record.
use Rattle.std.specs.Prelude.{◌≡◌, ◌≢◌, ℕ, ◌+◌, ◌-◌, ◌*◌, if◌then◌else◌, List, [], ◌∷◌, ◌++◌, length, replicate, codes, All}
use Rattle.std.specs.List.{concat, flat_map, join_with_byte}
use Rattle.std.specs.Fmt.{decimal}
use Rattle.std.specs.Int.{w16, to_be_bytes}
use Rattle.hex.specs.Hex.{encode_lower}
use Rattle.issuer_base.specs.ScriptCommand.{command_bytes}
use Rattle.issuer_base.specs.declared.request.Parts.{Parts}
use Rattle.issuer_base.specs.declared.entry.Entry.{Entry}
use Rattle.issuer_base.specs.declared.entry.Entry.TheVariants.{Decided, Queued, Status}
use Rattle.journal_rec.specs.declared.limits.TheConstants.{PAN_DIGITS}

-- a space
abbrev pub space : ℕ
space = 32

-- a newline
abbrev pub newline : ℕ
newline = 10

-- nibbles in bytes, two a byte, the higher first
unfoldable pub packed : List ℕ → List ℕ
packed [] = []
packed (nibble ∷ []) = []
packed (high ∷ low ∷ nibbles) = (16 * high + low) ∷ packed nibbles

-- an account number in ten bytes: its digits, padded at the end with nibbles F: EMV 4.3 Book 3, Annex A, tag 5A
unfoldable pub pan_bytes : List ℕ → List ℕ
pan_bytes pan = packed (pan ++ replicate (PAN_DIGITS - length pan) 0x0F)

-- the fields of a request in the order of a line
abbrev pub request_fields : Parts → List (List ℕ)
request_fields parts =
    pan_bytes parts.pan
    ∷ (parts.psn ∷ [])
    ∷ parts.aip
    ∷ to_be_bytes w16 parts.atc
    ∷ parts.tvr
    ∷ parts.date
    ∷ (parts.kind ∷ [])
    ∷ parts.amount
    ∷ parts.other
    ∷ parts.country
    ∷ parts.currency
    ∷ parts.un
    ∷ (parts.cid ∷ [])
    ∷ parts.iad
    ∷ parts.ac
    ∷ []

-- a request as bytes
abbrev pub request_bytes : Parts → List ℕ
request_bytes parts = concat (request_fields parts)

-- the words of a record's line
abbrev pub words_of : Entry → List (List ℕ)
words_of (Decided request reply) =
    codes "d" ∷ encode_lower (request_bytes request) ∷ encode_lower reply.arc
    ∷ (if reply.approve then codes "1" else codes "0") ∷ encode_lower reply.bytes.items ∷ []
words_of (Queued pan psn command) =
    codes "q" ∷ encode_lower (pan_bytes pan) ∷ encode_lower (psn ∷ []) ∷ encode_lower (command_bytes command) ∷ []
words_of (Status pan psn status) =
    codes "s" ∷ encode_lower (pan_bytes pan) ∷ encode_lower (psn ∷ []) ∷ decimal status ∷ []

-- the text of a record: its words, separated by one space, and a newline
unfoldable pub text_of : Entry → List ℕ
text_of entry = join_with_byte space (words_of entry) ++ newline ∷ []

-- the text of records one after another
abbrev pub texts_of : List Entry → List ℕ
texts_of entries = flat_map text_of entries

-- the first line of a journal of version 2
abbrev pub version_line : List ℕ
version_line = codes "v2" ++ newline ∷ []

-- the text of a journal of version 2 with these records; that of a journal of version 1 has the records alone
abbrev pub journal_text : List Entry → List ℕ
journal_text entries = version_line ++ texts_of entries

-- a text without a newline
abbrev pub IsUnbroken : List ℕ → Type 0
IsUnbroken text = All (λ byte. byte ≢ newline) text

-- one line: a newline at its end, and none before
abbrev pub IsLine : List ℕ → Type 0
IsLine text = (front : List ℕ) × IsUnbroken front × (text ≡ front ++ newline ∷ [])
