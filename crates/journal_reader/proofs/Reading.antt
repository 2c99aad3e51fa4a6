-- How a reader goes on in a text, a line at a time.
use Rattle.std.proofs.Common.{◌≡◌, ◌≢◌, ℕ, ◌+◌, ◌-◌, ◌≤◌, List, [], ◌∷◌, ◌++◌, length, take, drop}
use Rattle.std.proofs.Common.{Option, None, Some, IfSome, sym, ap, subst, ◌∙◌, arith, append_assoc, length-append}
use Rattle.std.specs.List.{slice_range}
use Rattle.std.proofs.Math.Seq.{take-add}
use Rattle.std.proofs.lemmas.List.{drop-drop, drop-take, length-drop, length-take, length-take-le, take-append-drop, take-take}
use Rattle.std.proofs.lemmas.List.Elements.{All-append}
use Rattle.issuer_base.specs.declared.entry.Entry.{Entry}
use Rattle.journal_rec.specs.Record.{IsLineOf}
use Rattle.journal_rec.specs.RecordText.{newline, text_of, journal_text, version_line, IsUnbroken}
use Rattle.journal_rec.specs.declared.limits.TheConstants.{MOST_RECORD_BYTES}
use Rattle.journal_rec.proofs.TextLaws.{length-text_of}
use Rattle.shard_book.specs.LineAhead.{IsLineAhead, HasLineAhead}
use Rattle.shard_book.specs.Versions.{HasText}
use Rattle.shard_book.specs.declared.replay.Version.TheVariants.{Two}
use Rattle.shard_book.proofs.ShardSteps.{journal-more}
use Rattle.journal_reader.specs.declared.reader.RecordReader.{RecordReader}
use Rattle.journal_reader.specs.Reading.{ahead_of, HasBadLine}

-- ---- a part of the buffer

sliced-length : (xs : List ℕ) (s e : ℕ) → s ≤ e → e ≤ length xs → length (slice_range xs s e) ≡ e - s
sliced-length xs s e order within = omega (arith, length-take (e - s) (drop s xs), length-drop s xs)

-- how many bytes are in memory
pub ahead-length : (reader : RecordReader) → length (ahead_of reader) ≡ reader.end - reader.start
ahead-length reader =
    sliced-length reader.buffer.items reader.start reader.end reader.in_order
    (omega (arith, reader.in_bounds, reader.buffer.ok.0))

-- the buffer's part from further on
pub sliced-later : (xs : List ℕ) (s k e : ℕ) → s + k ≤ e → slice_range xs (s + k) e ≡ drop k (slice_range xs s e)
sliced-later xs s k e within =
    let same : k + (e - (s + k)) ≡ e - s = omega arith in
    ap (take (e - (s + k))) (sym (drop-drop k s xs))
    ∙ sym (drop-take k (e - (s + k)) (drop s xs))
    ∙ ap (λ n. drop k (take n (drop s xs))) same

module _ (text part : List ℕ) (at : ℕ) (part_is : part ≡ take (length part) (drop at text)) where
  -- what is after its first bytes is of the text further on
  pub part-later : (k : ℕ) → k ≤ length part → drop k part ≡ take (length (drop k part)) (drop (at + k) text)
  part-later k within =
      let long : length part ≡ k + length (drop k part) = omega (arith, length-drop k part) in
      ap (drop k) (part_is ∙ ap (λ n. take n (drop at text)) long)
      ∙ drop-take k (length (drop k part)) (drop at text)
      ∙ ap (take (length (drop k part))) (drop-drop k at text)

  -- and the first bytes are those of the text
  pub part-front : (k : ℕ) → k ≤ length part → take k part ≡ take k (drop at text)
  part-front k within = ap (take k) part_is ∙ take-take k (length part) (drop at text) within

  -- a part without a newline
  part-unbroken : IsUnbroken part → IsUnbroken (take (length part) (drop at text))
  part-unbroken = subst IsUnbroken part_is

pub told-later : (bytes : Option (List ℕ)) (part later : List ℕ) (at k : ℕ) → k ≤ length part → later ≡ drop k part
    → IfSome bytes (λ text. part ≡ take (length part) (drop at text))
    → IfSome bytes (λ text. later ≡ take (length later) (drop (at + k) text))
told-later None part later at k within later_is is = tt
told-later (Some text) part later at k within later_is is =
    subst (λ (l : List ℕ). l ≡ take (length l) (drop (at + k) text)) (sym later_is) (part-later text part at is k within)

-- a part at the end of the text is all that is after what was read
pub told-unbroken : (bytes : Option (List ℕ)) (part : List ℕ) (at : ℕ)
    → IfSome bytes (λ text. part ≡ take (length part) (drop at text)) → IsUnbroken part
    → IfSome bytes (λ text. IsUnbroken (take (length part) (drop at text)))
told-unbroken None part at is unbroken = tt
told-unbroken (Some text) part at is unbroken = part-unbroken text part at is unbroken

-- after the records nothing but a torn last line
pub told-whole : (bytes : Option (List ℕ)) (at : ℕ) (history : List Entry)
    → IfSome bytes (λ text. take at text ≡ journal_text history) → IfSome bytes (λ text. IsUnbroken (drop at text))
    → IfSome bytes (HasText Two history)
told-whole None at history front rest = tt
told-whole (Some text) at history front rest = record {
  rest = drop at text;
  text_is = sym (take-append-drop at text) ∙ ap (λ l. l ++ drop at text) front;
  unbroken = rest;
}

-- ---- one more line

module _ (history : List Entry) (part : List ℕ) (at count : ℕ) (ahead : IsLineAhead part count) where
  pub within : count + 1 ≤ length part
  within = let w = ahead.within in omega arith

  -- it is that of a record
  pub front-more : (bytes : Option (List ℕ)) (entry : Entry) → IsLineOf entry (take count part)
      → IfSome bytes (λ text. take at text ≡ journal_text history)
      → IfSome bytes (λ text. part ≡ take (length part) (drop at text))
      → IfSome bytes (λ text. take (at + (count + 1)) text ≡ journal_text (history ++ entry ∷ []))
  front-more None entry line front is = tt
  front-more (Some text) entry line front is =
      take-add at (count + 1) text
      ∙ ap (λ l. l ++ take (count + 1) (drop at text)) front
      ∙ ap (λ l. journal_text history ++ l)
      (sym (part-front text part at is (count + 1) within) ∙ ahead.ends ∙ sym line.1)
      ∙ journal-more history entry

  -- or of none
  pub bad-line : (bytes : Option (List ℕ)) → ((entry : Entry) → IsLineOf entry (take count part) → ⊥)
      → IfSome bytes (λ text. take at text ≡ journal_text history)
      → IfSome bytes (λ text. part ≡ take (length part) (drop at text))
      → IfSome bytes (HasBadLine history)
  bad-line None none front is = tt
  bad-line (Some text) none front is =
      let behind = drop (count + 1) (drop at text) in
      record {
        line = take count part;
        ahead = behind;
        text_is =
            sym (take-append-drop at text)
            ∙ ap (λ l. l ++ drop at text) front
            ∙ ap (λ l. journal_text history ++ l)
            (sym (take-append-drop (count + 1) (drop at text))
            ∙ ap (λ l. l ++ behind) (sym (part-front text part at is (count + 1) within) ∙ ahead.ends)
            ∙ append_assoc (take count part) (newline ∷ []) behind)
            ∙ sym (append_assoc (journal_text history) (take count part) (newline ∷ behind));
        unbroken = ahead.unbroken;
        none = none;
      }

-- ---- a line that is longer than the buffer

-- a line that is longer than any record is that of none
long-line : (line : List ℕ) → MOST_RECORD_BYTES ≤ length line → (entry : Entry) → IsLineOf entry line → ⊥
long-line line long entry is =
    let most = (length-text_of entry is.0).1 in
    let whole : length (text_of entry) ≡ length line + 1 = ap length is.1 ∙ length-append line (newline ∷ []) in
    absurd (omega arith)

pub long-bad : (bytes : Option (List ℕ)) (history : List Entry) (at room size : ℕ)
    → IfSome bytes (λ text. take at text ≡ journal_text history)
    → IfSome bytes (λ text. size ≡ length text) → at + room ≤ size → MOST_RECORD_BYTES ≤ room
    → IfSome bytes (λ text. IsUnbroken (take room (drop at text)))
    → IfSome bytes (λ text. HasLineAhead (drop (at + room) text)) → IfSome bytes (HasBadLine history)
long-bad None history at room size front sized long most unbroken line = tt
long-bad (Some text) history at room size front sized long most unbroken line =
    let ahead = drop at text in
    let count : ℕ = line.0 in
    let its : IsLineAhead (drop room ahead) count =
    subst (λ (l : List ℕ). IsLineAhead l count) (sym (drop-drop room at text)) line.1 in
    let whole = take room ahead ++ take count (drop room ahead) in
    let behind = drop (count + 1) (drop room ahead) in
    let room_is : length (take room ahead) ≡ room =
    length-take-le room ahead (omega (arith, length-drop at text, sized)) in
    let parts : ahead ≡ whole ++ newline ∷ behind =
    sym (take-append-drop room ahead)
    ∙ ap (λ l. take room ahead ++ l)
    (sym (take-append-drop (count + 1) (drop room ahead)) ∙ ap (λ l. l ++ behind) its.ends
    ∙ append_assoc (take count (drop room ahead)) (newline ∷ []) behind)
    ∙ sym (append_assoc (take room ahead) (take count (drop room ahead)) (newline ∷ behind)) in
    record {
      line = whole;
      ahead = behind;
      text_is =
          sym (take-append-drop at text) ∙ ap (λ l. l ++ ahead) front ∙ ap (λ l. journal_text history ++ l) parts
          ∙ sym (append_assoc (journal_text history) whole (newline ∷ behind));
      unbroken = All-append (λ byte. byte ≢ newline) (take room ahead) (take count (drop room ahead)) unbroken its.unbroken;
      none =
          long-line whole (omega (arith, length-append (take room ahead) (take count (drop room ahead)), room_is));
    }

-- ---- the first line

-- the text begins with `v2`
pub version-front : (bytes : Option (List ℕ)) (part : List ℕ) (rest : List ℕ) → part ≡ version_line ++ rest
    → IfSome bytes (λ text. part ≡ take (length part) text) → IfSome bytes (λ text. take 3 text ≡ journal_text [])
version-front None part rest starts is = tt
version-front (Some text) part rest starts is =
    let long : 3 ≤ length part = omega (arith, ap length starts, length-append version_line rest) in
    sym (take-take 3 (length part) text long) ∙ ap (take 3) (sym is ∙ starts)
