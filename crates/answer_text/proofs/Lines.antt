-- What is printed is one line: no word has a newline.
use Rattle.std.proofs.Common.{◌≡◌, ℕ, ◌+◌, zero, suc, ◌/◌, ◌%◌, ◌==◌, Bool, true, false, not, if◌then◌else◌, List, [], ◌∷◌, codes, get_or, refl, ◌∙◌, arith}
use Rattle.std.proofs.lemmas.Bool.{and_from, and_parts}
use Rattle.std.proofs.lemmas.List.Folds.{list_all-append}
use Rattle.std.proofs.lemmas.List.Sums.{AllPass-from_list_all}
use Rattle.std.specs.List.{join_with_byte, list_all}
use Rattle.std.specs.Fmt.{decimal, digit_glyph, digits, digits_onto}
use Rattle.hex.specs.Hex.{encode_with, encode_lower}
use Rattle.issuer_base.specs.declared.answer.Answer.{Answer}
use Rattle.issuer_base.specs.declared.answer.Answer.TheVariants.{Fresh, Kept, Queued, Set, Refused}
use Rattle.issuer_base.specs.declared.answer.Refusal.{Refusal}
use Rattle.issuer_base.specs.declared.answer.Refusal.TheVariants.{BadLine, BadTlv, Missing, BadField, Repeated, UnknownCard, NotArqc, UnknownKey}
use Rattle.issuer_base.specs.declared.answer.Refusal.TheVariants.{BadCryptogram, Below, Taken, Pending, QueueFull, BadCommand, StoreFault}
use Rattle.answer_text.specs.AnswerText.{newline, line_of, IsLine, yes_or_no, refusal_words, answer_words, printed, bytes_text}
use Rattle.issuer_base.specs.ChipData.{digits_of}
use Rattle.issuer_base.specs.ScriptCommand.{command_bytes}
use Rattle.issuer_base.specs.declared.command.Command.{Command}
use Rattle.chip_request.specs.Lines.{digits_text}
use Rattle.answer_text.specs.CountText.{count_text}
use Rattle.answer_text.specs.QueueText.{queue_text}
use Rattle.answer_text.specs.StopText.{stop_words, stop_text}
use Rattle.answer_text.specs.declared.stop_line.Stop.{Stop}
use Rattle.answer_text.specs.declared.stop_line.Stop.TheVariants.{Usage, Config, ReadFault, BadJournal, BadOldJournal, NoMemory}
use Rattle.answer_text.specs.declared.stop_line.Stop.TheVariants.{TooLong, BadDol, BadData, BadFeed, NoKey}
use Rattle.answer_text.specs.declared.stop_line.Stop.TheVariants.{StoreFault as JournalFault}

-- a byte is no newline
abbrev pub is_inner : ℕ → Bool
is_inner byte = not (byte == newline)

-- a text has no newline
abbrev pub has_no_newline : List ℕ → Bool
has_no_newline text = list_all is_inner text

digit-inner : (d : ℕ) → is_inner (digit_glyph false d) ≡ true
digit-inner d = grind arith

digits_onto-inner : (k n : ℕ) (acc : List ℕ) → has_no_newline acc ≡ true → has_no_newline (digits_onto k 10 false n acc) ≡ true
digits_onto-inner zero n acc h = h
digits_onto-inner (suc k) n acc h =
    let more : has_no_newline (digit_glyph false (n % 10) ∷ acc) ≡ true = rw (digit-inner (n % 10)) h in
    elim (n / 10 == 0) as
    (λ b. has_no_newline (if b then digit_glyph false (n % 10) ∷ acc else digits_onto k 10 false (n / 10) (digit_glyph false (n % 10) ∷ acc)) ≡ true) [
      | true ↦ more
      | false ↦ digits_onto-inner k (n / 10) (digit_glyph false (n % 10) ∷ acc) more
    ]

-- the digits of a number
pub decimal-inner : (n : ℕ) → has_no_newline (decimal n) ≡ true
unfolding digits
decimal-inner n = digits_onto-inner 64 n [] refl

get_or-inner : (text : List ℕ) (k : ℕ) → has_no_newline text ≡ true → is_inner (get_or text k 0) ≡ true
get_or-inner [] k h = refl
get_or-inner (x ∷ xs) zero h = grind arith
get_or-inner (x ∷ xs) (suc k) h = get_or-inner xs k (grind arith)

-- the digits of bytes
pub encode_lower-inner : (bytes : List ℕ) → has_no_newline (encode_lower bytes) ≡ true
unfolding encode_with
encode_lower-inner [] = refl
encode_lower-inner (byte ∷ bytes) = rw (get_or-inner _ (byte / 16) refl, get_or-inner _ (byte % 16) refl) (encode_lower-inner bytes)

yes_or_no-inner : (approve : Bool) → has_no_newline (yes_or_no approve) ≡ true
yes_or_no-inner true = refl
yes_or_no-inner false = refl

-- words parted by a space
join-inner : (words : List (List ℕ)) → list_all has_no_newline words ≡ true → has_no_newline (join_with_byte 32 words) ≡ true
join-inner [] h = refl
join-inner (word ∷ []) h = (and_parts _ _ h).0
join-inner (word ∷ next ∷ words) h =
    let parts = and_parts _ _ h in
    list_all-append is_inner word (32 ∷ join_with_byte 32 (next ∷ words)) ∙ and_from _ _ parts.0 (join-inner (next ∷ words) parts.1)

-- a line of words that have no newline
pub line_of-IsLine : (words : List (List ℕ)) → list_all has_no_newline words ≡ true → IsLine (line_of words)
line_of-IsLine words h =
    let inner = AllPass-from_list_all is_inner (join_with_byte 32 words) (join-inner words h) in
    (join_with_byte 32 words, refl, λ k d below. let passes = inner k d below in grind arith)

refusal_words-inner : (refusal : Refusal) → list_all has_no_newline (refusal_words refusal) ≡ true
unfolding refusal_words
refusal_words-inner (BadLine column) = simp decimal-inner
refusal_words-inner (BadTlv offset) = simp decimal-inner
refusal_words-inner (Missing tag) = simp encode_lower-inner
refusal_words-inner (BadField tag) = simp encode_lower-inner
refusal_words-inner (Repeated tag) = simp encode_lower-inner
refusal_words-inner UnknownCard = refl
refusal_words-inner NotArqc = refl
refusal_words-inner (UnknownKey dki) = simp encode_lower-inner
refusal_words-inner BadCryptogram = refl
refusal_words-inner (Below greatest) = simp decimal-inner
refusal_words-inner (Taken shard place) = simp decimal-inner
refusal_words-inner Pending = refl
refusal_words-inner QueueFull = refl
refusal_words-inner BadCommand = refl
refusal_words-inner StoreFault = refl

answer_words-inner : (answer : Answer) → list_all has_no_newline (answer_words answer) ≡ true
unfolding answer_words
answer_words-inner (Fresh shard place reply) = simp (decimal-inner, yes_or_no-inner, encode_lower-inner)
answer_words-inner (Kept shard place reply) = simp (decimal-inner, yes_or_no-inner, encode_lower-inner)
answer_words-inner (Queued shard place) = simp decimal-inner
answer_words-inner (Set shard place) = simp decimal-inner
answer_words-inner (Refused refusal) = refusal_words-inner refusal

-- the text of an answer is one line
pub printed-IsLine : (answer : Answer) → IsLine (printed answer)
unfolding printed
printed-IsLine answer = line_of-IsLine (answer_words answer) (answer_words-inner answer)

stop_words-inner : (stop : Stop) → list_all has_no_newline (stop_words stop) ≡ true
unfolding stop_words
stop_words-inner Usage = simp decimal-inner
stop_words-inner (Config part index) = simp decimal-inner
stop_words-inner ReadFault = simp decimal-inner
stop_words-inner (JournalFault shard) = simp decimal-inner
stop_words-inner (BadJournal shard line) = simp decimal-inner
stop_words-inner (BadOldJournal shard line) = simp decimal-inner
stop_words-inner NoMemory = simp decimal-inner
stop_words-inner (TooLong line) = simp decimal-inner
stop_words-inner (BadDol at) = simp decimal-inner
stop_words-inner (BadData at) = simp decimal-inner
stop_words-inner (BadFeed line) = simp decimal-inner
stop_words-inner NoKey = simp decimal-inner

-- the text of a stop is one line
pub stop_text-IsLine : (stop : Stop) → IsLine (stop_text stop)
unfolding stop_text
stop_text-IsLine stop = line_of-IsLine (codes "stop" ∷ stop_words stop) (stop_words-inner stop)

-- the text of a shard's number of records is one line
pub count_text-IsLine : (shard count : ℕ) → IsLine (count_text shard count)
unfolding count_text
count_text-IsLine shard count = line_of-IsLine (decimal shard ∷ decimal count ∷ []) (simp decimal-inner)

-- the text of bytes is one line
pub bytes_text-IsLine : (bytes : List ℕ) → IsLine (bytes_text bytes)
bytes_text-IsLine bytes = line_of-IsLine (encode_lower bytes ∷ []) (simp encode_lower-inner)

-- the text of decimal digits
digits_text-inner : (digits : List ℕ) → has_no_newline (digits_text digits) ≡ true
digits_text-inner [] = refl
digits_text-inner (digit ∷ digits) = let here : is_inner (48 + digit) ≡ true = grind arith in rw here (digits_text-inner digits)

-- the text that queues a command is one line
pub queue_text-IsLine : (pan : List ℕ) (psn : ℕ) (command : Command) → IsLine (queue_text pan psn command)
unfolding queue_text
queue_text-IsLine pan psn command =
    line_of-IsLine (codes "Q" ∷ digits_text pan ∷ digits_text (digits_of psn) ∷ encode_lower (command_bytes command) ∷ [])
    (simp (digits_text-inner pan, digits_text-inner (digits_of psn), encode_lower-inner))
