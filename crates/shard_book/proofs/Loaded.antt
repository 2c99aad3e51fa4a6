-- What is known of a store's text once a part of its bytes is read, and once all are.
use Rattle.std.proofs.Common.{◌≡◌, ◌≢◌, ◌+◌, ◌-◌, ◌<◌, ◌≤◌, ℕ, min, Bool, true, false, List, [], ◌∷◌, ◌++◌, length, take, drop, refl, sym, ap, subst, ◌∙◌}
use Rattle.std.proofs.Common.{arith, inl, inr, Option, None, Some, IfSome, Result}
use Rattle.std.proofs.Common.{Err, MatchOption, MatchBool, append_assoc, length-append, length-drop, length-take, All}
use Rattle.std.proofs.Math.Seq.{take-add}
use Rattle.std.proofs.lemmas.Bool.{cases_lt}
use Rattle.std.proofs.lemmas.List.{take_all, take-append-drop, length-take-le, take-take, drop-drop}
use Rattle.std.proofs.lemmas.List.Concat.{flat_map-append}
use Rattle.std.proofs.lemmas.List.Elements.{All-nil, All-append}
use Rattle.std.specs.Option.{is_some}
use Rattle.issuer_base.specs.declared.entry.Entry.{Entry}
use Rattle.issuer_setup.specs.IssuerSetup.{Setup}
use Rattle.journal_rec.specs.Record.{IsRecord, IsLineOf}
use Rattle.journal_rec.specs.RecordText.{newline, text_of, texts_of, version_line, IsUnbroken}
use Rattle.journal_rec.specs.declared.limits.TheConstants.{MOST_RECORD_BYTES}
use Rattle.journal_rec.proofs.TextLaws.{length-text_of}
use Rattle.shard_book.specs.declared.replay.LoadFault.{LoadFault}
use Rattle.shard_book.specs.declared.replay.LoadFault.TheVariants.{OldLine, OldRecord, BadLine, BadRecord, StoreFault, NoMemory}
use Rattle.shard_book.specs.declared.replay.Taken.{Taken}
use Rattle.shard_book.specs.LineAhead.{IsLineAhead, HasLineAhead}
use Rattle.shard_book.specs.ShardRows.{ShardRows}
use Rattle.shard_book.specs.Loading.{StopsAt, StopsLines, StopsReplay, TakesLines, ReadsFront, ReadsText, is_by_store, is_store_failure}
use Rattle.shard_book.specs.Histories.{GoesOn}
use Rattle.shard_book.specs.Versions.{bad_line, text_in}
use Rattle.shard_book.specs.declared.replay.Version.{Version}
use Rattle.shard_book.specs.declared.replay.Version.TheVariants.{One, Two}
use Rattle.shard_book.proofs.Histories.{goes-then}

-- the text of more records
pub text_in-more : (version : Version) (history entries : List Entry) → text_in version history ++ texts_of entries ≡ text_in version (history ++ entries)
text_in-more One history entries = sym (flat_map-append text_of history entries)
text_in-more Two history entries = ap (λ l. version_line ++ l) (sym (flat_map-append text_of history entries))

-- ---- texts without a newline, and the next line

unbroken-both : (front back : List ℕ) → IsUnbroken front → IsUnbroken back → IsUnbroken (front ++ back)
unbroken-both front back = All-append (λ byte. byte ≢ newline) front back

-- texts without a newline have none together
pub unbroken-later : (bytes : List ℕ) (at count : ℕ) → IsUnbroken (take at bytes) → IsUnbroken (take count (drop at bytes))
    → IsUnbroken (take (at + count) bytes)
unbroken-later bytes at count front more =
    subst IsUnbroken (sym (take-add at count bytes)) (unbroken-both (take at bytes) (take count (drop at bytes)) front more)

-- a line after a text without a newline is the end of a longer line
pub line-later : (bytes : List ℕ) (at count n : ℕ) → IsUnbroken (take at bytes) → at ≤ length bytes
    → IsLineAhead (take count (drop at bytes)) n → IsLineAhead bytes (at + n)
line-later bytes at count n front within ahead =
    let long = length-take count (drop at bytes) in
    let rest = length-drop at bytes in
    let below = ahead.within in
    let short : n ≤ count = omega arith in
    let whole : n + 1 ≤ count = omega arith in
    let line : take n (take count (drop at bytes)) ≡ take n (drop at bytes) = take-take n count (drop at bytes) short in
    let ended : take (n + 1) (take count (drop at bytes)) ≡ take (n + 1) (drop at bytes) = take-take (n + 1) count (drop at bytes) whole in
    record {
      within = omega arith;
      unbroken = unbroken-later bytes at n front (subst IsUnbroken line ahead.unbroken);
      ends =
          ap (λ m. take m bytes) (let e : at + n + 1 ≡ at + (n + 1) = omega arith in e)
          ∙ take-add at (n + 1) bytes
          ∙ ap (λ l. take at bytes ++ l) (sym ended ∙ ahead.ends ∙ ap (λ l. l ++ newline ∷ []) line)
          ∙ sym (append_assoc (take at bytes) (take n (drop at bytes)) (newline ∷ []))
          ∙ ap (λ l. l ++ newline ∷ []) (sym (take-add at n bytes));
    }

-- ---- searching for a newline

module _ (from at count size : ℕ) (into : List ℕ) (above : from ≤ at) where
  ahead-of : (text : List ℕ) → drop at text ≡ drop (at - from) (drop from text)
  ahead-of text = ap (λ n. drop n text) (let e : at ≡ from + (at - from) = omega arith in e) ∙ sym (drop-drop (at - from) from text)

  -- a part without a newline was passed
  pub passed-part : (first now : Option (List ℕ)) → now ≡ first → IfSome first (λ text. IsUnbroken (take (at - from) (drop from text)))
      → IfSome now (λ text. take count into ≡ take count (drop at text)) → IsUnbroken (take count into)
      → IfSome first (λ text. IsUnbroken (take (at + count - from) (drop from text)))
  passed-part None now same passed given none = tt
  passed-part (Some text) now same passed given none =
      let read : take count into ≡ take count (drop at text) = subst (λ now. IfSome now (λ text. take count into ≡ take count (drop at text))) same given in
      let part : take count into ≡ take count (drop (at - from) (drop from text)) = read ∙ ap (take count) (ahead-of text) in
      subst (λ n. IsUnbroken (take n (drop from text))) (let e : (at - from) + count ≡ at + count - from = omega arith in e)
      (unbroken-later (drop from text) (at - from) count passed (subst IsUnbroken part none))

  -- a part with one was read
  pub found-part : (first now : Option (List ℕ)) → now ≡ first → IfSome now (λ text. size ≡ length text) → at ≤ size
      → IfSome first (λ text. IsUnbroken (take (at - from) (drop from text)))
      → IfSome now (λ text. take count into ≡ take count (drop at text)) → HasLineAhead (take count into)
      → IfSome first (λ text. HasLineAhead (drop from text))
  found-part None now same sized within passed given line = tt
  found-part (Some text) now same sized within passed given line =
      let size_is : size ≡ length text = subst (λ now. IfSome now (λ text. size ≡ length text)) same sized in
      let read : take count into ≡ take count (drop at text) = subst (λ now. IfSome now (λ text. take count into ≡ take count (drop at text))) same given in
      let part : take count into ≡ take count (drop (at - from) (drop from text)) = read ∙ ap (take count) (ahead-of text) in
      let short : at - from ≤ length (drop from text) = omega (arith, length-drop from text, size_is) in
      (at - from + line.0, line-later (drop from text) (at - from) count line.0 passed short (subst (λ (l : List ℕ). IsLineAhead l line.0) part line.1))

  -- the end of the store is reached
  pub passed-all : (first now : Option (List ℕ)) → now ≡ first → IfSome now (λ text. size ≡ length text) → size ≤ at
      → IfSome first (λ text. IsUnbroken (take (at - from) (drop from text))) → IfSome first (λ text. IsUnbroken (drop from text))
  passed-all None now same sized done passed = tt
  passed-all (Some text) now same sized done passed =
      let size_is : size ≡ length text = subst (λ now. IfSome now (λ text. size ≡ length text)) same sized in
      let whole : length (drop from text) ≤ at - from = omega (arith, length-drop from text, size_is) in
      subst IsUnbroken (take_all (at - from) (drop from text) whole) passed

-- ---- whether a newline was found

pub ahead-there : (bytes : List ℕ) (found : Option ℕ) → is_some found ≡ true → MatchOption found (IsUnbroken bytes) (IsLineAhead bytes) → HasLineAhead bytes
ahead-there bytes None is ahead = absurd (cc)
ahead-there bytes (Some count) is ahead = (count, ahead)

pub none-there : (bytes : List ℕ) (found : Option ℕ) → is_some found ≡ false → MatchOption found (IsUnbroken bytes) (IsLineAhead bytes) → IsUnbroken bytes
none-there bytes None is ahead = ahead
none-there bytes (Some count) is ahead = absurd (cc)

pub found-as : (bytes : Option (List ℕ)) (from : ℕ) (found want : Bool) → found ≡ want
    → IfSome bytes (λ text. MatchBool found (HasLineAhead (drop from text)) (IsUnbroken (drop from text)))
    → IfSome bytes (λ text. MatchBool want (HasLineAhead (drop from text)) (IsUnbroken (drop from text)))
found-as bytes from found want is told =
    subst (λ (found : Bool). IfSome bytes (λ text. MatchBool found (HasLineAhead (drop from text)) (IsUnbroken (drop from text)))) is told

-- ---- what is after the replayed lines

-- nothing is after the end
pub rest-none : (bytes : Option (List ℕ)) (at room size : ℕ) → IfSome bytes (λ text. size ≡ length text) → size ≤ at
    → IfSome bytes (λ text. IsUnbroken (take room (drop at text)))
rest-none None at room size sized done = tt
rest-none (Some text) at room size sized done =
    let rest = length-drop at text in
    let none = length-take room (drop at text) in
    λ k default within. absurd (omega (arith, within, none, rest, sized))

-- no read is required at the end
pub passed-none : (bytes : Option (List ℕ)) (from : ℕ) → IfSome bytes (λ text. IsUnbroken (take (from - from) (drop from text)))
passed-none None from = tt
passed-none (Some text) from =
    subst (λ n. IsUnbroken (take n (drop from text))) (let e : 0 ≡ from - from = omega arith in e) (All-nil (λ byte. byte ≢ newline))

-- it fits the buffer
pub rest-short : (bytes : Option (List ℕ)) (at room size : ℕ) → IfSome bytes (λ text. size ≡ length text) → size - at ≤ room
    → IfSome bytes (λ text. IsUnbroken (take room (drop at text))) → IfSome bytes (λ text. IsUnbroken (drop at text))
rest-short None at room size sized short front = tt
rest-short (Some text) at room size sized short front =
    let whole : length (drop at text) ≤ room = omega (arith, length-drop at text, sized) in
    subst IsUnbroken (take_all room (drop at text) whole) front

-- or more than the buffer holds was searched
pub rest-long : (bytes : Option (List ℕ)) (at room : ℕ) → IfSome bytes (λ text. IsUnbroken (take room (drop at text)))
    → IfSome bytes (λ text. IsUnbroken (drop (at + room) text)) → IfSome bytes (λ text. IsUnbroken (drop at text))
rest-long None at room front back = tt
rest-long (Some text) at room front back =
    subst IsUnbroken (take-append-drop room (drop at text))
    (unbroken-both (take room (drop at text)) (drop room (drop at text)) front (subst IsUnbroken (sym (drop-drop room at text)) back))

-- the line of a record has a byte
pub line-long : (line : List ℕ) (entry : Entry) → IsLineOf entry line → 0 < length line
line-long line entry is =
    let least = (length-text_of entry is.0).0 in
    let whole : length (text_of entry) ≡ length line + 1 = ap length is.1 ∙ length-append line (newline ∷ []) in
    omega (arith, least, whole)

-- a line that is longer than any record is that of none
long-line : (line : List ℕ) → MOST_RECORD_BYTES ≤ length line → (entry : Entry) → IsLineOf entry line → ⊥
long-line line long entry is =
    let most = (length-text_of entry is.0).1 in
    let whole : length (text_of entry) ≡ length line + 1 = ap length is.1 ∙ length-append line (newline ∷ []) in
    absurd (omega arith)

module _ (version : Version) (issuer : Setup) (shard : ℕ) (first : List Entry) where
  -- a newline after more bytes than any record has ends a bad line
  pub stops-long : (bytes : Option (List ℕ)) (rows : ShardRows) (taken : Taken) (room size : ℕ) → ReadsFront version issuer shard first bytes rows taken
      → IfSome bytes (λ text. size ≡ length text) → room < size - taken.bytes → MOST_RECORD_BYTES ≤ room
      → IfSome bytes (λ text. IsUnbroken (take room (drop taken.bytes text))) → IfSome bytes (λ text. HasLineAhead (drop (taken.bytes + room) text))
      → StopsReplay version issuer shard first bytes (bad_line version taken.records)
  stops-long None rows taken room size reads sized long most front line = inr tt
  stops-long (Some text) rows taken room size reads sized long most front line =
      let ahead = drop taken.bytes text in
      let back : drop room ahead ≡ drop (taken.bytes + room) text = drop-drop room taken.bytes text in
      let count : ℕ = line.0 in
      let its : IsLineAhead (drop room ahead) count = subst (λ (l : List ℕ). IsLineAhead l count) (sym back) line.1 in
      let whole = take room ahead ++ take count (drop room ahead) in
      let behind = drop (count + 1) (drop room ahead) in
      let room_is : length (take room ahead) ≡ room = length-take-le room ahead (omega (arith, length-drop taken.bytes text, sized)) in
      let parts : ahead ≡ whole ++ newline ∷ behind =
      sym (take-append-drop room ahead)
      ∙ ap (λ l. take room ahead ++ l)
      (sym (take-append-drop (count + 1) (drop room ahead)) ∙ ap (λ l. l ++ behind) its.ends
      ∙ append_assoc (take count (drop room ahead)) (newline ∷ []) behind)
      ∙ sym (append_assoc (take room ahead) (take count (drop room ahead)) (newline ∷ behind)) in
      inr (record {
        history = reads.history;
        goes_on = reads.goes_on;
        line = whole;
        ahead = behind;
        text_is =
            sym (take-append-drop taken.bytes text) ∙ ap (λ l. l ++ ahead) reads.front_is ∙ ap (λ l. text_in version reads.history ++ l) parts
            ∙ sym (append_assoc (text_in version reads.history) whole (newline ∷ behind));
        unbroken = unbroken-both (take room ahead) (take count (drop room ahead)) front its.unbroken;
        records = reads.records;
        legal = reads.legal;
        bad = inl (
          ap (bad_line version) reads.count_is,
          long-line whole (omega (arith, length-append (take room ahead) (take count (drop room ahead)), room_is)),
        );
      })

  -- ---- replaying part by part

  module _ (at : Taken) (count : ℕ) (chunk : List ℕ) where
    front-grows : (bytes : Option (List ℕ)) (history entries : List Entry) (more : Taken) → IfSome bytes (λ text. take at.bytes text ≡ text_in version history)
        → IfSome bytes (λ text. chunk ≡ take count (drop at.bytes text)) → more.bytes ≤ count → take more.bytes chunk ≡ texts_of entries
        → IfSome bytes (λ text. take (at.bytes + more.bytes) text ≡ text_in version (history ++ entries))
    front-grows None history entries more front read within takes = tt
    front-grows (Some text) history entries more front read within takes =
        take-add at.bytes more.bytes text
        ∙ ap (λ l. l ++ take more.bytes (drop at.bytes text)) front
        ∙ ap (λ l. text_in version history ++ l) (sym (take-take more.bytes count (drop at.bytes text) within) ∙ ap (take more.bytes) (sym read) ∙ takes)
        ∙ text_in-more version history entries

    -- the records of the lines of one more part
    pub reads-more : (bytes : Option (List ℕ)) (old new : ShardRows) (more : Taken) (front : ReadsFront version issuer shard first bytes old at)
        → IfSome bytes (λ text. chunk ≡ take count (drop at.bytes text)) → more.bytes ≤ length chunk → length chunk ≤ count
        → TakesLines version issuer shard front.history chunk more new
        → ReadsFront version issuer shard first bytes new (record { records = at.records + more.records; bytes = at.bytes + more.bytes })
    reads-more bytes old new more front read within short takes =
        let taken : more.bytes ≡ length (texts_of takes.entries) = sym (length-take-le more.bytes chunk within) ∙ ap length takes.text_is in
        record {
          history = front.history ++ takes.entries;
          goes_on = goes-then first front.history (front.history ++ takes.entries) front.goes_on (takes.entries, refl);
          front_is = front-grows bytes front.history takes.entries more front.front_is read (omega arith) takes.text_is;
          records = All-append IsRecord front.history takes.entries front.records takes.records;
          legal = takes.legal;
          stands = takes.stands;
          count_is = let whole = length-append front.history takes.entries in omega (arith, whole, front.count_is, takes.count_is);
          sure_is =
              let whole = ap length (sym (text_in-more version front.history takes.entries))
              ∙ length-append (text_in version front.history) (texts_of takes.entries) in
              omega (arith, whole, front.sure_is, taken);
        }

    stops-later : (text : List ℕ) (history : List Entry) (fault : LoadFault) → GoesOn first history → take at.bytes text ≡ text_in version history
        → All IsRecord history → chunk ≡ take count (drop at.bytes text)
        → StopsLines version issuer shard history chunk fault → StopsAt version issuer shard first text fault
    stops-later text history fault goes_on front records read stops =
        let rest = drop count (drop at.bytes text) in
        let behind = stops.line ++ newline ∷ stops.ahead in
        record {
          history = history ++ stops.entries;
          goes_on = goes-then first history (history ++ stops.entries) goes_on (stops.entries, refl);
          line = stops.line;
          ahead = stops.ahead ++ rest;
          text_is =
              sym (take-append-drop at.bytes text)
              ∙ ap (λ l. l ++ drop at.bytes text) front
              ∙ ap (λ l. text_in version history ++ l)
              (sym (take-append-drop count (drop at.bytes text)) ∙ ap (λ l. l ++ rest)
              (sym read ∙ stops.text_is ∙ append_assoc (texts_of stops.entries) stops.line (newline ∷ stops.ahead))
              ∙ append_assoc (texts_of stops.entries) behind rest
              ∙ ap (λ l. texts_of stops.entries ++ l) (append_assoc stops.line (newline ∷ stops.ahead) rest))
              ∙ sym (append_assoc (text_in version history) (texts_of stops.entries) (stops.line ++ newline ∷ (stops.ahead ++ rest)))
              ∙ ap (λ l. l ++ (stops.line ++ newline ∷ (stops.ahead ++ rest))) (text_in-more version history stops.entries)
              ∙ sym (append_assoc (text_in version (history ++ stops.entries)) stops.line (newline ∷ (stops.ahead ++ rest)));
          unbroken = stops.unbroken;
          records = All-append IsRecord history stops.entries records stops.records;
          legal = stops.legal;
          bad = stops.bad;
        }

    -- a bad line in one more part
    pub stops-more : (bytes : Option (List ℕ)) (rows : ShardRows) (fault : LoadFault) (front : ReadsFront version issuer shard first bytes rows at)
        → IfSome bytes (λ text. chunk ≡ take count (drop at.bytes text)) → StopsLines version issuer shard front.history chunk fault
        → StopsReplay version issuer shard first bytes fault
    stops-more None rows fault front read stops = inr tt
    stops-more (Some text) rows fault front read stops =
        inr (stops-later text front.history fault front.goes_on front.front_is front.records read stops)

  -- all parts were read, and what is after the records has no newline
  pub reads-all : (bytes : Option (List ℕ)) (rows : ShardRows) (taken : Taken) → ReadsFront version issuer shard first bytes rows taken
      → IfSome bytes (λ text. IsUnbroken (drop taken.bytes text)) → ReadsText version issuer shard first bytes rows taken
  reads-all None rows taken front unbroken = record {
    history = front.history;
    goes_on = front.goes_on;
    text_is = tt;
    records = front.records;
    legal = front.legal;
    stands = front.stands;
    count_is = front.count_is;
    sure_is = front.sure_is;
  }
  reads-all (Some text) rows taken front unbroken = record {
    history = front.history;
    goes_on = front.goes_on;
    text_is = record {
      rest = drop taken.bytes text;
      text_is = sym (take-append-drop taken.bytes text) ∙ ap (λ l. l ++ drop taken.bytes text) front.front_is;
      unbroken = unbroken;
    };
    records = front.records;
    legal = front.legal;
    stands = front.stands;
    count_is = front.count_is;
    sure_is = front.sure_is;
  }

-- a part that was read
pub part-read : (bytes : Option (List ℕ)) (at count : ℕ) (into : List ℕ) → IfSome bytes (λ text. take count into ≡ take count (drop at text))
    → (chunk : List ℕ) → chunk ≡ take count into → IfSome bytes (λ text. chunk ≡ take count (drop at text))
part-read None at count into given chunk is = tt
part-read (Some text) at count into given chunk is = is ∙ given

-- a part without a whole line has no newline as far as the buffer goes
pub part-unbroken : (bytes : Option (List ℕ)) (at count room size : ℕ) (chunk : List ℕ) → IfSome bytes (λ text. size ≡ length text)
    → count ≡ min room (size - at) → IfSome bytes (λ text. chunk ≡ take count (drop at text)) → IsUnbroken chunk
    → IfSome bytes (λ text. IsUnbroken (take room (drop at text)))
part-unbroken None at count room size chunk sized all read unbroken = tt
part-unbroken (Some text) at count room size chunk sized all read unbroken =
    let rest = length-drop at text in
    elim (cases_lt room (size - at)) [
      | inl below ↦
          let full : count ≡ room = omega (arith, all) in
          subst (λ n. IsUnbroken (take n (drop at text))) full (subst IsUnbroken read unbroken)
      | inr above ↦
          let to_end : length (drop at text) ≤ count = omega (arith, all, sized, rest) in
          let fits : length (drop at text) ≤ room = omega (arith, sized, rest) in
          subst IsUnbroken (read ∙ take_all count (drop at text) to_end ∙ sym (take_all room (drop at text) fits)) unbroken
    ]

-- what one more part adds, stated of the first store and shard
pub front-step : (version : Version) (issuer : Setup) (shard other : ℕ) (first : List Entry) (bytes now : Option (List ℕ)) (old new : ShardRows)
    (taken more : Taken) → other ≡ shard → now ≡ bytes
    → (ReadsFront version issuer other first now old taken → ReadsFront version issuer other first now new more)
    → ReadsFront version issuer shard first bytes old taken → ReadsFront version issuer shard first bytes new more
front-step version issuer shard other first bytes now old new taken more shard_is bytes_are step front =
    subst (λ (bytes : Option (List ℕ)). ReadsFront version issuer shard first bytes new more) bytes_are
    (subst (λ (shard : ℕ). ReadsFront version issuer shard first now new more) shard_is
    (step (subst (λ (shard : ℕ). ReadsFront version issuer shard first now old taken) (sym shard_is)
    (subst (λ (bytes : Option (List ℕ)). ReadsFront version issuer shard first bytes old taken) (sym bytes_are) front))))

-- and where it stops
pub stops-step : (version : Version) (issuer : Setup) (shard other : ℕ) (first : List Entry) (bytes now : Option (List ℕ)) (old : ShardRows)
    (taken : Taken) (fault : LoadFault) → other ≡ shard → now ≡ bytes
    → (ReadsFront version issuer other first now old taken → StopsReplay version issuer other first now fault)
    → ReadsFront version issuer shard first bytes old taken → StopsReplay version issuer shard first bytes fault
stops-step version issuer shard other first bytes now old taken fault shard_is bytes_are step front =
    subst (λ (bytes : Option (List ℕ)). StopsReplay version issuer shard first bytes fault) bytes_are
    (subst (λ (shard : ℕ). StopsReplay version issuer shard first now fault) shard_is
    (step (subst (λ (shard : ℕ). ReadsFront version issuer shard first now old taken) (sym shard_is)
    (subst (λ (bytes : Option (List ℕ)). ReadsFront version issuer shard first bytes old taken) (sym bytes_are) front))))

-- what was read of the remainder
pub rest-step : (bytes now : Option (List ℕ)) (at room other : ℕ) → now ≡ bytes → other ≡ room
    → (IfSome now (λ text. IsUnbroken (take other (drop at text))) → IfSome now (λ text. IsUnbroken (drop at text)))
    → IfSome bytes (λ text. IsUnbroken (take room (drop at text))) → IfSome bytes (λ text. IsUnbroken (drop at text))
rest-step bytes now at room other bytes_are room_is step front =
    subst (λ (bytes : Option (List ℕ)). IfSome bytes (λ text. IsUnbroken (drop at text))) bytes_are
    (step (subst (λ (room : ℕ). IfSome now (λ text. IsUnbroken (take room (drop at text)))) (sym room_is)
    (subst (λ (bytes : Option (List ℕ)). IfSome bytes (λ text. IsUnbroken (take room (drop at text)))) (sym bytes_are) front)))

-- a newline after what was read of the remainder
pub rest-stops : (version : Version) (issuer : Setup) (shard : ℕ) (first : List Entry) (bytes now : Option (List ℕ)) (rows : ShardRows) (taken : Taken)
    (room other : ℕ) (fault : LoadFault) → now ≡ bytes → other ≡ room
    → (ReadsFront version issuer shard first now rows taken → IfSome now (λ text. IsUnbroken (take other (drop taken.bytes text)))
    → StopsReplay version issuer shard first now fault)
    → ReadsFront version issuer shard first bytes rows taken → IfSome bytes (λ text. IsUnbroken (take room (drop taken.bytes text)))
    → StopsReplay version issuer shard first bytes fault
rest-stops version issuer shard first bytes now rows taken room other fault bytes_are room_is step front rest =
    subst (λ (bytes : Option (List ℕ)). StopsReplay version issuer shard first bytes fault) bytes_are
    (step (subst (λ (bytes : Option (List ℕ)). ReadsFront version issuer shard first bytes rows taken) (sym bytes_are) front)
    (subst (λ (room : ℕ). IfSome now (λ text. IsUnbroken (take room (drop taken.bytes text)))) (sym room_is)
    (subst (λ (bytes : Option (List ℕ)). IfSome bytes (λ text. IsUnbroken (take room (drop taken.bytes text)))) (sym bytes_are) rest)))

-- a fault that isn't the store's is counted by none
pub own-count : (fault : LoadFault) → is_store_failure fault ≡ false → let failed : Result Taken LoadFault = Err fault in is_by_store failed ≡ false
own-count StoreFault own = absurd (cc)
own-count NoMemory own = refl
own-count (OldLine number) own = refl
own-count (OldRecord number) own = refl
own-count (BadLine number) own = refl
own-count (BadRecord number) own = refl
