-- The text of each record is one line, and different records have different texts.
use Rattle.std.proofs.Common.{◌≡◌, ℕ, zero, suc, ◌+◌, ◌*◌, ◌/◌, ◌%◌, ◌<◌, ◌≤◌, ◌==◌, Bool, true, false, not, leb, List, [], ◌∷◌, ◌++◌}
use Rattle.std.proofs.Common.{length, get_or, map, Some, All, refl, sym, ap, ap₂, ◌∙◌, append_assoc, length-append, arith}
use Rattle.std.proofs.lemmas.Bool.{and_from, and_parts, leb-true}
use Rattle.std.proofs.lemmas.Fmt.{decimal_digit}
use Rattle.std.proofs.lemmas.List.{append-nil, append_cancel_left, get_or_at}
use Rattle.std.proofs.lemmas.List.Elements.{All-head, All-tail}
use Rattle.std.proofs.lemmas.List.Folds.{list_all-append}
use Rattle.std.proofs.lemmas.List.Sums.{AllPass-from_list_all}
use Rattle.std.proofs.lemmas.Option.{same_Some}
use Rattle.std.specs.Fmt.{decimal}
use Rattle.std.specs.List.{concat, join_with_byte, list_all}
use Rattle.hex.specs.Hex.{encode_lower, encode_with, lower_digits}
use Rattle.hex.proofs.HexLemmas.{length-encode_with}
use Rattle.issuer_base.specs.ChipData.{is_bcd}
use Rattle.issuer_base.specs.ScriptCommand.{command_bytes}
use Rattle.issuer_base.specs.declared.command.Command.{Command}
use Rattle.issuer_base.specs.declared.entry.Entry.{Entry}
use Rattle.issuer_base.specs.declared.entry.Entry.TheVariants.{Decided, Queued, Status}
use Rattle.issuer_base.specs.declared.request.Parts.{Parts}
use Rattle.journal_rec.specs.RecordText.{IsLine, IsUnbroken, newline, pan_bytes, request_bytes, request_fields, space, text_of, texts_of, words_of}
use Rattle.journal_rec.specs.Record.{IsRecord, request_sizes}
use Rattle.journal_rec.specs.Reading.{entry_at}
use Rattle.journal_rec.specs.declared.limits.TheConstants.{LEAST_RECORD_BYTES, MOST_QUEUED_BYTES, MOST_RECORD_BYTES}
use Rattle.journal_rec.proofs.PanText.{length-pan_bytes}
use Rattle.journal_rec.proofs.Records.{approval_text, exact_entry, line_of}

-- ---- no newline stands in a line

-- a byte is no newline
abbrev is_inner : ℕ → Bool
is_inner byte = not (byte == newline)

-- a text has no newline
abbrev has_no_newline : List ℕ → Bool
has_no_newline text = list_all is_inner text

get_or-inner : (text : List ℕ) (k : ℕ) → has_no_newline text ≡ true → is_inner (get_or text k 0) ≡ true
get_or-inner [] k inner = refl
get_or-inner (x ∷ xs) zero inner = (and_parts _ _ inner).0
get_or-inner (x ∷ xs) (suc k) inner = get_or-inner xs k (and_parts _ _ inner).1

encode_lower-inner : (bytes : List ℕ) → has_no_newline (encode_lower bytes) ≡ true
unfolding encode_with
encode_lower-inner [] = refl
encode_lower-inner (byte ∷ bytes) =
    rw (get_or-inner lower_digits (byte / 16) refl, get_or-inner lower_digits (byte % 16) refl) (encode_lower-inner bytes)

approval-inner : (approve : Bool) → has_no_newline (approval_text approve) ≡ true
approval-inner true = refl
approval-inner false = refl

digit-inner : (status : ℕ) → status ≤ 9 → has_no_newline (decimal status) ≡ true
digit-inner status small = rw (decimal_digit status (omega arith)) (above_newline (48 + status) (omega arith))
  where
    above_newline : (byte : ℕ) → 10 < byte → has_no_newline (byte ∷ []) ≡ true
    above_newline byte above = grind arith

-- words parted by a space
join-inner : (words : List (List ℕ)) → list_all has_no_newline words ≡ true → has_no_newline (join_with_byte space words) ≡ true
join-inner [] inner = refl
join-inner (word ∷ []) inner = (and_parts _ _ inner).0
join-inner (word ∷ next ∷ words) inner =
    let parts = and_parts _ _ inner in
    list_all-append is_inner word (space ∷ join_with_byte space (next ∷ words)) ∙ and_from _ _ parts.0 (join-inner (next ∷ words) parts.1)

words-inner : (entry : Entry) → IsRecord entry → list_all has_no_newline (words_of entry) ≡ true
words-inner (Decided request reply) record_is =
    rw (encode_lower-inner (request_bytes request), encode_lower-inner reply.arc, approval-inner reply.approve, encode_lower-inner reply.bytes.items) refl
words-inner (Queued pan psn command) record_is =
    rw (encode_lower-inner (pan_bytes pan), encode_lower-inner (psn ∷ []), encode_lower-inner (command_bytes command)) refl
words-inner (Status pan psn status) record_is =
    let form = and_parts (is_bcd psn) (leb status 9) record_is.may_stand in
    rw (encode_lower-inner (pan_bytes pan), encode_lower-inner (psn ∷ []), digit-inner status (leb-true status 9 form.1)) refl

line-inner : (entry : Entry) → IsRecord entry → has_no_newline (line_of entry) ≡ true
line-inner entry record_is = join-inner (words_of entry) (words-inner entry record_is)

-- the text of a record is one line
pub text_of-IsLine : (entry : Entry) → IsRecord entry → IsLine (text_of entry)
unfolding text_of
text_of-IsLine entry record_is =
    let inner = AllPass-from_list_all is_inner (line_of entry) (line-inner entry record_is) in
    (line_of entry, (λ k d below. let passes = inner k d below in grind arith), refl)

-- ---- texts differ

inner_newline : (byte : ℕ) → byte ≡ newline → is_inner byte ≡ true → ⊥
inner_newline byte is inner = grind arith

-- two lines before anything
lines_apart : (front other rest behind : List ℕ) → has_no_newline front ≡ true → has_no_newline other ≡ true
    → front ++ newline ∷ rest ≡ other ++ newline ∷ behind → (front ≡ other) × (rest ≡ behind)
lines_apart [] [] rest behind inner other_inner same = (refl, append_cancel_left (newline ∷ []) rest behind same)
lines_apart [] (byte ∷ other) rest behind inner other_inner same =
    let is : newline ≡ byte = cc in
    let not_newline = (and_parts (is_inner byte) _ other_inner).0 in
    absurd (inner_newline byte (sym is) not_newline)
lines_apart (byte ∷ front) [] rest behind inner other_inner same =
    let is : byte ≡ newline = cc in
    let not_newline = (and_parts (is_inner byte) _ inner).0 in
    absurd (inner_newline byte is not_newline)
lines_apart (byte ∷ front) (first ∷ other) rest behind inner other_inner same =
    let heads : byte ≡ first = cc in
    let tails : front ++ newline ∷ rest ≡ other ++ newline ∷ behind = cc in
    let both = lines_apart front other rest behind (and_parts (is_inner byte) _ inner).1 (and_parts (is_inner first) _ other_inner).1 tails in
    (ap₂ (λ b (bs : List ℕ). b ∷ bs) heads both.0, both.1)

-- a line is that of one record
line_of-same : (entry other : Entry) → IsRecord entry → IsRecord other → line_of entry ≡ line_of other → entry ≡ other
line_of-same entry other record_is other_is same =
    let first = exact_entry.again entry [] record_is refl in
    let second = exact_entry.again other [] other_is refl in
    let both : Some (entry, []) ≡ Some (other, []) = sym first ∙ ap (λ (l : List ℕ). entry_at (l ++ [])) same ∙ second in
    ap (λ (p : Entry × List ℕ). p.0) (same_Some _ _ both)

-- whatever follows two texts, they are alike only where the records are, and what follows them
pub text_of-apart : (entry other : Entry) (rest behind : List ℕ) → IsRecord entry → IsRecord other
    → text_of entry ++ rest ≡ text_of other ++ behind → (entry ≡ other) × (rest ≡ behind)
unfolding text_of
text_of-apart entry other rest behind record_is other_is same =
    let whole : line_of entry ++ newline ∷ rest ≡ line_of other ++ newline ∷ behind =
    sym (append_assoc (line_of entry) (newline ∷ []) rest) ∙ same ∙ append_assoc (line_of other) (newline ∷ []) behind in
    let both = lines_apart (line_of entry) (line_of other) rest behind (line-inner entry record_is) (line-inner other other_is) whole in
    (line_of-same entry other record_is other_is both.0, both.1)

pub text_of-no_front : (entry other : Entry) (rest : List ℕ) → IsRecord entry → IsRecord other
    → text_of entry ++ rest ≡ text_of other → (entry ≡ other) × (rest ≡ [])
text_of-no_front entry other rest record_is other_is same =
    text_of-apart entry other rest [] record_is other_is (same ∙ sym (append-nil (text_of other)))

-- ---- a text of records

-- a text with a newline is not unbroken
broken : (front behind text : List ℕ) → IsUnbroken text → text ≡ (front ++ newline ∷ []) ++ behind → ⊥
broken front behind text unbroken whole =
    let moved : text ≡ front ++ newline ∷ behind = whole ∙ append_assoc front (newline ∷ []) behind in
    let within : length front < length text = omega (arith, ap length moved, length-append front (newline ∷ behind)) in
    let at : get_or text (length front) 0 ≡ newline =
    ap (λ (t : List ℕ). get_or t (length front) 0) moved ∙ get_or_at front newline behind 0 (length front) refl in
    unbroken (length front) 0 within at

-- records and a torn line behind them have one reading
pub texts_of-one_reading : (entries others : List Entry) (rest other_rest : List ℕ) → All IsRecord entries → All IsRecord others
    → IsUnbroken rest → IsUnbroken other_rest → texts_of entries ++ rest ≡ texts_of others ++ other_rest → (entries ≡ others) × (rest ≡ other_rest)
texts_of-one_reading [] [] rest other_rest all others_all torn other_torn same = (refl, same)
texts_of-one_reading [] (other ∷ others) rest other_rest all others_all torn other_torn same =
    let line = text_of-IsLine other (All-head IsRecord other others others_all) in
    let whole : rest ≡ (line.0 ++ newline ∷ []) ++ (texts_of others ++ other_rest) =
    same ∙ append_assoc (text_of other) (texts_of others) other_rest ∙ ap (λ (t : List ℕ). t ++ (texts_of others ++ other_rest)) line.2 in
    absurd (broken line.0 (texts_of others ++ other_rest) rest torn whole)
texts_of-one_reading (entry ∷ entries) [] rest other_rest all others_all torn other_torn same =
    let line = text_of-IsLine entry (All-head IsRecord entry entries all) in
    let whole : other_rest ≡ (line.0 ++ newline ∷ []) ++ (texts_of entries ++ rest) =
    sym same ∙ append_assoc (text_of entry) (texts_of entries) rest ∙ ap (λ (t : List ℕ). t ++ (texts_of entries ++ rest)) line.2 in
    absurd (broken line.0 (texts_of entries ++ rest) other_rest other_torn whole)
texts_of-one_reading (entry ∷ entries) (other ∷ others) rest other_rest all others_all torn other_torn same =
    let whole : text_of entry ++ (texts_of entries ++ rest) ≡ text_of other ++ (texts_of others ++ other_rest) =
    sym (append_assoc (text_of entry) (texts_of entries) rest) ∙ same ∙ append_assoc (text_of other) (texts_of others) other_rest in
    let first = text_of-apart entry other (texts_of entries ++ rest) (texts_of others ++ other_rest)
    (All-head IsRecord entry entries all) (All-head IsRecord other others others_all) whole in
    let more_all = All-tail IsRecord entry entries all in
    let more_others_all = All-tail IsRecord other others others_all in
    let more = texts_of-one_reading entries others rest other_rest more_all more_others_all torn other_torn first.1 in
    (ap₂ (λ (e : Entry) (es : List Entry). e ∷ es) first.0 more.0, more.1)

-- ---- how long a text is

abbrev total : List ℕ → ℕ
total [] = 0
total (n ∷ ns) = n + total ns

length-concat : (lists : List (List ℕ)) → length (concat lists) ≡ total (map length lists)
length-concat [] = refl
length-concat (list ∷ lists) = length-append list (concat lists) ∙ ap (λ n. length list + n) (length-concat lists)

length-encode_lower : (bytes : List ℕ) → length (encode_lower bytes) ≡ 2 * length bytes
length-encode_lower bytes = length-encode_with lower_digits bytes

length-approval : (approve : Bool) → length (approval_text approve) ≡ 1
length-approval true = refl
length-approval false = refl

-- a request has 85 bytes
length-request_bytes : (parts : Parts) → map length (request_fields parts) ≡ request_sizes → length (request_bytes parts) ≡ 85
length-request_bytes parts sizes = length-concat (request_fields parts) ∙ ap total sizes

length-five : (a b c d : List ℕ)
    → length ((100 ∷ space ∷ (a ++ (space ∷ (b ++ (space ∷ (c ++ (space ∷ d))))))) ++ newline ∷ []) ≡ length a + length b + length c + length d + 6
length-five a b c d = simp length-append (omega arith)

length-four : (letter : ℕ) (a b c : List ℕ)
    → length ((letter ∷ space ∷ (a ++ (space ∷ (b ++ (space ∷ c))))) ++ newline ∷ []) ≡ length a + length b + length c + 5
length-four letter a b c = simp length-append (omega arith)

-- the text of a queued command has 28 bytes at least and 163 at most
pub length-text_of-queued : (pan : List ℕ) (psn : ℕ) (command : Command) → IsRecord (Queued pan psn command)
    → (LEAST_RECORD_BYTES ≤ length (text_of (Queued pan psn command))) × (length (text_of (Queued pan psn command)) ≤ MOST_QUEUED_BYTES)
unfolding text_of
length-text_of-queued pan psn command record_is =
    let whole = length-four 113 (encode_lower (pan_bytes pan)) (encode_lower (psn ∷ [])) (encode_lower (command_bytes command)) in
    let held = record_is.held in
    let a = length-encode_lower (pan_bytes pan) in
    let ten : length (pan_bytes pan) ≡ 10 = length-pan_bytes pan held.0 in
    let b : length (encode_lower (psn ∷ [])) ≡ 2 = length-encode_lower (psn ∷ []) in
    let c = length-encode_lower (command_bytes command) in
    let few : length command.body.items ≤ 64 = held.2.size in
    (omega arith, omega arith)

-- the text of a record has 28 bytes at least and 501 at most
pub length-text_of : (entry : Entry) → IsRecord entry → (LEAST_RECORD_BYTES ≤ length (text_of entry)) × (length (text_of entry) ≤ MOST_RECORD_BYTES)
unfolding text_of
length-text_of (Decided request reply) record_is =
    let whole = length-five (encode_lower (request_bytes request)) (encode_lower reply.arc) (approval_text reply.approve) (encode_lower reply.bytes.items) in
    let held = record_is.held in
    let sizes : length (request_bytes request) ≡ 85 = length-request_bytes request held.0.sizes in
    let a = length-encode_lower (request_bytes request) in
    let b = length-encode_lower reply.arc in
    let c = length-approval reply.approve in
    let d = length-encode_lower reply.bytes.items in
    let two : length reply.arc ≡ 2 = held.1.arc_size in
    let few : length reply.bytes.items ≤ 160 = held.1.size in
    (omega arith, omega arith)
length-text_of (Queued pan psn command) record_is =
    let its = length-text_of-queued pan psn command record_is in
    (its.0, omega (arith, its.1))
length-text_of (Status pan psn status) record_is =
    let whole = length-four 115 (encode_lower (pan_bytes pan)) (encode_lower (psn ∷ [])) (decimal status) in
    let held = record_is.held in
    let form = and_parts (is_bcd psn) (leb status 9) record_is.may_stand in
    let small : status ≤ 9 = leb-true status 9 form.1 in
    let a = length-encode_lower (pan_bytes pan) in
    let ten : length (pan_bytes pan) ≡ 10 = length-pan_bytes pan held.0 in
    let b : length (encode_lower (psn ∷ [])) ≡ 2 = length-encode_lower (psn ∷ []) in
    let c : length (decimal status) ≡ 1 = ap length (decimal_digit status (omega arith)) in
    (omega arith, omega arith)
