-- The feed lines of records, one more at a time.
use Rattle.std.proofs.Common.{◌≡◌, ℕ, ◌+◌, List, [], ◌∷◌, ◌++◌, length, drop, Option, None, Some, All}
use Rattle.std.proofs.Common.{refl, sym, ap, subst, ◌∙◌, inl, inr, append-nil, append_assoc, arith}
use Rattle.std.proofs.KnownBytes.{Appends-nil, Appends-trans}
use Rattle.std.proofs.lemmas.List.{length_push, take-append-drop}
use Rattle.std.proofs.lemmas.List.Elements.{All-nil}
use Rattle.std.proofs.Math.Seq.{get_or-append_seam}
use Rattle.issuer_base.specs.Sink.{AppendsFront}
use Rattle.issuer_base.specs.declared.entry.Entry.{Entry}
use Rattle.issuer_base.proofs.ManyCalls.{AppendsFront-after}
use Rattle.journal_rec.specs.Record.{IsRecord}
use Rattle.feed_text.specs.FeedText.{feed_line}
use Rattle.journal_reader.specs.declared.reader.RecordReader.{RecordReader}
use Rattle.journal_reader.specs.Reading.{HasRead}
use Rattle.journal_reader.specs.Filing.{HasFirstRecords}
use Rattle.journal_reader.proofs.Filed.{map-push}
use Rattle.journal_reader.specs.Exporting.{IsPut, feed_in, feed_text}

-- ---- text that is put

pub put-none : (held : Option (List ℕ)) (due : List ℕ) → IsPut held held due due []
put-none held due = record { early = []; written = Appends-nil held; joined = sym (append-nil due) }

module _ (first mid now : Option (List ℕ)) (due left text : List ℕ) (put : IsPut first mid due left text) where
  -- a line more
  pub put-more : (line more : List ℕ) → IsPut mid now left more line → IsPut first now due more (text ++ line)
  put-more line more then = record {
    early = put.early ++ then.early;
    written = Appends-trans first mid now put.early then.early put.written then.written;
    joined =
        append_assoc put.early then.early more
        ∙ ap (λ l. put.early ++ l) then.joined
        ∙ sym (append_assoc put.early left line)
        ∙ ap (λ l. l ++ line) put.joined
        ∙ append_assoc due text line;
  }

  -- the sink failed at it
  pub put-front : (line : List ℕ) → AppendsFront mid now (left ++ line) → AppendsFront first now (due ++ (text ++ line))
  put-front line front =
      subst (AppendsFront first now)
      (sym (append_assoc put.early left line) ∙ ap (λ l. l ++ line) put.joined ∙ append_assoc due text line)
      (AppendsFront-after first mid now put.early (left ++ line) put.written front)

-- ---- one record more, one history more

pub feed-more : (shard : ℕ) (history : List Entry) (entry : Entry)
    → feed_in shard (history ++ entry ∷ []) ≡ feed_in shard history ++ feed_line shard (length history) entry
feed-more shard history entry = map-push (λ (numbered : ℕ × Entry). feed_line shard numbered.0 numbered.1) history entry

pub feed-all-more : (histories : List (List Entry)) (history : List Entry)
    → feed_text (histories ++ history ∷ []) ≡ feed_text histories ++ feed_in (length histories) history
feed-all-more histories history =
    map-push (λ (numbered : ℕ × List Entry). feed_in numbered.0 numbered.1) histories history

-- the last of some records is one
pub last-record : (history : List Entry) (entry : Entry) → All IsRecord (history ++ entry ∷ []) → IsRecord entry
last-record history entry records =
    let size = length_push history entry in
    subst IsRecord (get_or-append_seam history entry [] entry) (records (length history) entry (omega (arith, size)))

-- ---- the first records of a store

pub first-none : (bytes : Option (List ℕ)) → HasFirstRecords bytes []
first-none None = record { records = All-nil _; front = tt }
first-none (Some text) = record { records = All-nil _; front = inl refl }

pub first-read : (reader : RecordReader) (bytes : Option (List ℕ)) (history : List Entry) → HasRead reader bytes history
    → HasFirstRecords bytes history
first-read reader None history read = record { records = read.records; front = tt }
first-read reader (Some text) history read = record {
  records = read.records;
  front = inr (
    drop reader.taken text,
    sym (take-append-drop reader.taken text) ∙ ap (λ l. l ++ drop reader.taken text) read.front,
  );
}

-- ---- a journal

-- the records that were read of a journal are put
pub record HasExported (shard : ℕ) (bytes before now : Option (List ℕ)) (due left : List ℕ) (reader : RecordReader)
    (place : ℕ) : Type 0 where
  pub history : List Entry
  pub read : HasRead reader bytes history
  pub place_is : place ≡ length history
  pub put : IsPut before now due left (feed_in shard history)

module _ (shard : ℕ) (bytes before now : Option (List ℕ)) (due left : List ℕ) (reader : RecordReader) (place : ℕ)
    (so_far : HasExported shard bytes before now due left reader place) (entry : Entry) where
  line-is : feed_line shard place entry ≡ feed_line shard (length so_far.history) entry
  line-is = ap (λ n. feed_line shard n entry) so_far.place_is

  -- one more
  pub exported-next : (next : RecordReader) (then : Option (List ℕ)) (more : List ℕ)
      → HasRead next bytes (so_far.history ++ entry ∷ []) → IsPut now then left more (feed_line shard place entry)
      → HasExported shard bytes before then due more next (place + 1)
  exported-next next then more read put = record {
    history = so_far.history ++ entry ∷ [];
    read = read;
    place_is = ap (λ n. n + 1) so_far.place_is ∙ sym (length_push so_far.history entry);
    put = subst (IsPut before then due more)
        (ap (λ l. feed_in shard so_far.history ++ l) line-is ∙ sym (feed-more shard so_far.history entry))
        (put-more before now then due left (feed_in shard so_far.history) so_far.put (feed_line shard place entry) more
        put);
  }

  -- the sink failed at it
  pub exported-front : (then : Option (List ℕ)) → AppendsFront now then (left ++ feed_line shard place entry)
      → AppendsFront before then (due ++ feed_in shard (so_far.history ++ entry ∷ []))
  exported-front then front =
      subst (λ l. AppendsFront before then (due ++ l))
      (ap (λ l. feed_in shard so_far.history ++ l) line-is ∙ sym (feed-more shard so_far.history entry))
      (put-front before now then due left (feed_in shard so_far.history) so_far.put (feed_line shard place entry) front)
