-- What the host prints of an answer: one line of words.
use Rattle.std.specs.Prelude.{◌≡◌, ◌≢◌, ℕ, Bool, if◌then◌else◌, List, [], ◌∷◌, ◌++◌, codes, All}
use Rattle.std.specs.List.{join_with_byte}
use Rattle.std.specs.Fmt.{decimal}
use Rattle.hex.specs.Hex.{encode_lower}
use Rattle.tlv_objects.specs.Writing.{tag_bytes}
use Rattle.issuer_base.specs.declared.answer.Answer.{Answer}
use Rattle.issuer_base.specs.declared.answer.Answer.TheVariants.{Fresh, Kept, Queued, Set, Refused}
use Rattle.issuer_base.specs.declared.answer.Refusal.{Refusal}
use Rattle.issuer_base.specs.declared.answer.Refusal.TheVariants.{BadLine, BadTlv, Missing, BadField, Repeated, UnknownCard, NotArqc, UnknownKey}
use Rattle.issuer_base.specs.declared.answer.Refusal.TheVariants.{BadCryptogram, Below, Taken, Pending, QueueFull, BadCommand, StoreFault}
use Rattle.issuer_base.specs.declared.answer.Reply.{Reply}

-- a newline
abbrev pub newline : ℕ
newline = 10

-- the line of these words: they are separated by one space, 32, and a newline ends it
abbrev pub line_of : List (List ℕ) → List ℕ
line_of words = join_with_byte 32 words ++ newline ∷ []

-- a line has one newline, at its end
abbrev pub IsLine : List ℕ → Type 0
IsLine text = (front : List ℕ) × (text ≡ front ++ newline ∷ []) × All (λ byte. byte ≢ newline) front

-- the line of bytes in hexadecimal digits
abbrev pub bytes_text : List ℕ → List ℕ
bytes_text bytes = line_of (encode_lower bytes ∷ [])

-- whether the issuer approves, as a word
abbrev pub yes_or_no : Bool → List ℕ
yes_or_no approve = if approve then codes "yes" else codes "no"

-- a reply: whether the issuer approves, the response code, and the bytes that go to the card
abbrev pub reply_words : Reply → List (List ℕ)
reply_words reply = yes_or_no reply.approve ∷ encode_lower reply.arc ∷ encode_lower reply.bytes.items ∷ []

-- a refusal: its number, and its details
unfoldable pub refusal_words : Refusal → List (List ℕ)
refusal_words (BadLine column) = codes "1" ∷ decimal column ∷ []
refusal_words (BadTlv offset) = codes "2" ∷ decimal offset ∷ []
refusal_words (Missing tag) = codes "3" ∷ encode_lower (tag_bytes tag) ∷ []
refusal_words (BadField tag) = codes "4" ∷ encode_lower (tag_bytes tag) ∷ []
refusal_words (Repeated tag) = codes "5" ∷ encode_lower (tag_bytes tag) ∷ []
refusal_words UnknownCard = codes "6" ∷ []
refusal_words NotArqc = codes "7" ∷ []
refusal_words (UnknownKey dki) = codes "8" ∷ encode_lower (dki ∷ []) ∷ []
refusal_words BadCryptogram = codes "9" ∷ []
refusal_words (Below greatest) = codes "10" ∷ decimal greatest ∷ []
refusal_words (Taken shard place) = codes "11" ∷ decimal shard ∷ decimal place ∷ []
refusal_words Pending = codes "12" ∷ []
refusal_words QueueFull = codes "13" ∷ []
refusal_words BadCommand = codes "14" ∷ []
refusal_words StoreFault = codes "15" ∷ []

-- an answer: what was done, the shard and index of its record, and the reply; or that and why it was refused
unfoldable pub answer_words : Answer → List (List ℕ)
answer_words (Fresh shard place reply) = codes "fresh" ∷ decimal shard ∷ decimal place ∷ reply_words reply
answer_words (Kept shard place reply) = codes "kept" ∷ decimal shard ∷ decimal place ∷ reply_words reply
answer_words (Queued shard place) = codes "queued" ∷ decimal shard ∷ decimal place ∷ []
answer_words (Set shard place) = codes "set" ∷ decimal shard ∷ decimal place ∷ []
answer_words (Refused refusal) = codes "refused" ∷ refusal_words refusal

-- what is printed of an answer
unfoldable pub printed : Answer → List ℕ
printed answer = line_of (answer_words answer)
