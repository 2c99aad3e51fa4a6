-- A text of records has one reading: which history the texts of the stores load as, and that legal ones are loaded.
use Rattle.std.proofs.Common.{◌≡◌, ◌≢◌, ◌⊎◌, ◌<◌, ◌≤◌, ◌+◌, ℕ, List, [], ◌∷◌, ◌++◌, length, take, drop, get_or, refl, sym, ap, ap₂, subst, ◌∙◌, inl, inr, ⊎_elim, arith}
use Rattle.std.proofs.Common.{Option, None, Some, Result, Ok, Err, IfOk, IfErr, IsSomeAnd, MatchResult, All}
use Rattle.std.proofs.Common.{append_assoc, append-nil, length-append, length-take}
use Rattle.std.proofs.lemmas.Bool.{cases_lt}
use Rattle.std.proofs.lemmas.List.{take_all, take-append-le, take-take, get_or-take, get_or_at}
use Rattle.std.proofs.lemmas.List.Concat.{flat_map-append}
use Rattle.std.proofs.lemmas.List.Elements.{All-nil, All-head, All-tail, All-take, All-drop, All-push}
use Rattle.std.proofs.Math.Seq.{drop-append_seam}
use Rattle.std.specs.List.{slice_get}
use Rattle.issuer_base.specs.declared.entry.Entry.{Entry}
use Rattle.issuer_base.specs.declared.outside.store.Store.{Ghosts}
use Rattle.card_history.specs.LegalRecords.{IsLegal, IsLegalHistory}
use Rattle.issuer_setup.specs.IssuerSetup.{Setup}
use Rattle.journal_rec.specs.Record.{IsRecord, IsLineOf}
use Rattle.journal_rec.specs.RecordText.{newline, text_of, texts_of, journal_text, version_line, IsUnbroken}
use Rattle.journal_rec.proofs.TextLaws.{length-text_of, text_of-apart, text_of-IsLine, texts_of-one_reading}
use Rattle.journal_store.specs.Holding.{Holds}
use Rattle.shard_book.specs.declared.replay.LoadFault.{LoadFault}
use Rattle.shard_book.specs.declared.replay.LoadFault.TheVariants.{OldLine, OldRecord, BadLine, BadRecord, StoreFault, NoMemory}
use Rattle.shard_book.specs.declared.shard.Shard.{Shard}
use Rattle.shard_book.specs.declared.shard.LoadBack.{LoadBack}
use Rattle.shard_book.specs.declared.replay.Version.{Version}
use Rattle.shard_book.specs.declared.replay.Version.TheVariants.{One, Two}
use Rattle.shard_book.specs.Grounds.{grounds_of}
use Rattle.shard_book.specs.Histories.{GoesOn}
use Rattle.shard_book.specs.Loading.{DiffersAt, IsOldText, IsOutside, StopsAt, StopsJournal, StopsText}
use Rattle.shard_book.specs.Shards.{IsImageLeft, IsJournalOf, IsLoaded, IsSettled, IsTakenFor, IsTextOf, StandsFor, StandsForLeft}
use Rattle.shard_book.specs.Versions.{bad_line, bad_record, grounds_in, text_in, HasText, IsPartOf}
use Rattle.shard_book.proofs.Histories.{goes-then}
use Rattle.shard_book.proofs.Lines.{legal-more}
use Rattle.shard_book.proofs.ShardSteps.{journal-more}

-- ---- lines before anything

-- a text without a newline is no line with something after it
no-line : (text front behind : List ℕ) → IsUnbroken text → text ≡ front ++ newline ∷ behind → ⊥
no-line [] [] behind unbroken same = absurd (let no : [] ≡ newline ∷ behind = same in cc)
no-line [] (byte ∷ front) behind unbroken same = absurd (let no : [] ≡ byte ∷ (front ++ newline ∷ behind) = same in cc)
no-line (byte ∷ text) [] behind unbroken same =
    let is : byte ≡ newline = cc in
    All-head (λ byte. byte ≢ newline) byte text unbroken is
no-line (byte ∷ text) (first ∷ front) behind unbroken same =
    let tails : text ≡ front ++ newline ∷ behind = cc in
    no-line text front behind (All-tail (λ byte. byte ≢ newline) byte text unbroken) tails

-- two first lines of one text are the same line
same-line : (front other rest behind : List ℕ) → IsUnbroken front → IsUnbroken other → front ++ newline ∷ rest ≡ other ++ newline ∷ behind → front ≡ other
same-line [] [] rest behind unbroken other_unbroken same = refl
same-line [] (byte ∷ other) rest behind unbroken other_unbroken same =
    let is : byte ≡ newline = cc in
    absurd (All-head (λ byte. byte ≢ newline) byte other other_unbroken is)
same-line (byte ∷ front) [] rest behind unbroken other_unbroken same =
    let is : byte ≡ newline = cc in
    absurd (All-head (λ byte. byte ≢ newline) byte front unbroken is)
same-line (byte ∷ front) (first ∷ other) rest behind unbroken other_unbroken same =
    let heads : byte ≡ first = cc in
    let tails : front ++ newline ∷ rest ≡ other ++ newline ∷ behind = cc in
    let more = same-line front other rest behind (All-tail (λ byte. byte ≢ newline) byte front unbroken)
    (All-tail (λ byte. byte ≢ newline) first other other_unbroken) tails in
    ap₂ (λ (b : ℕ) (bs : List ℕ). b ∷ bs) heads more

-- ---- a line after some of the records of a text

-- the history's next record after these has the line as its text
record HasNext (entries history : List Entry) (line : List ℕ) : Type 0 where
  next : Entry
  at : slice_get history (length entries) ≡ Some next
  front : take (length entries) history ≡ entries
  valid : IsRecord next
  line_is : text_of next ≡ line ++ newline ∷ []

next-record : (entries history : List Entry) (line ahead rest : List ℕ) → All IsRecord entries → All IsRecord history → IsUnbroken line → IsUnbroken rest
    → texts_of entries ++ (line ++ newline ∷ ahead) ≡ texts_of history ++ rest → HasNext entries history line
next-record [] [] line ahead rest all others unbroken torn same = absurd (no-line rest line ahead torn (sym same))
next-record [] (entry ∷ history) line ahead rest all others unbroken torn same =
    let valid = All-head IsRecord entry history others in
    let its = text_of-IsLine entry valid in
    let whole : line ++ newline ∷ ahead ≡ its.0 ++ newline ∷ (texts_of history ++ rest) =
    same ∙ append_assoc (text_of entry) (texts_of history) rest ∙ ap (λ (l : List ℕ). l ++ (texts_of history ++ rest)) its.2
    ∙ append_assoc its.0 (newline ∷ []) (texts_of history ++ rest) in
    let line_is = same-line line its.0 ahead (texts_of history ++ rest) unbroken its.1 whole in
    record {
      next = entry;
      at = refl;
      front = refl;
      valid = valid;
      line_is = its.2 ∙ ap (λ (l : List ℕ). l ++ newline ∷ []) (sym line_is);
    }
next-record (entry ∷ entries) [] line ahead rest all others unbroken torn same =
    let its = text_of-IsLine entry (All-head IsRecord entry entries all) in
    let behind = texts_of entries ++ (line ++ newline ∷ ahead) in
    let whole : rest ≡ its.0 ++ newline ∷ behind =
    sym same ∙ append_assoc (text_of entry) (texts_of entries) (line ++ newline ∷ ahead) ∙ ap (λ (l : List ℕ). l ++ behind) its.2
    ∙ append_assoc its.0 (newline ∷ []) behind in
    absurd (no-line rest its.0 behind torn whole)
next-record (entry ∷ entries) (other ∷ history) line ahead rest all others unbroken torn same =
    let behind = texts_of entries ++ (line ++ newline ∷ ahead) in
    let whole : text_of entry ++ behind ≡ text_of other ++ (texts_of history ++ rest) =
    sym (append_assoc (text_of entry) (texts_of entries) (line ++ newline ∷ ahead)) ∙ same ∙ append_assoc (text_of other) (texts_of history) rest in
    let both =
    text_of-apart entry other behind (texts_of history ++ rest) (All-head IsRecord entry entries all) (All-head IsRecord other history others) whole in
    let more =
    next-record entries history line ahead rest (All-tail IsRecord entry entries all) (All-tail IsRecord other history others) unbroken torn both.1 in
    record {
      next = more.next;
      at = more.at;
      front = ap₂ (λ (e : Entry) (es : List Entry). e ∷ es) (sym both.0) more.front;
      valid = more.valid;
      line_is = more.line_is;
    }

-- ---- texts of one version, and prefixes of them

-- a record's text has a byte
pub longer : (entry : Entry) → IsRecord entry → 0 < length (text_of entry)
longer entry valid = let least = (length-text_of entry valid).0 in omega (arith, least)

-- records without text are none
none-short : (entries : List Entry) → All IsRecord entries → length (texts_of entries) ≡ 0 → entries ≡ []
none-short [] records none = refl
none-short (entry ∷ entries) records none =
    let first = longer entry (All-head IsRecord entry entries records) in
    let whole = length-append (text_of entry) (texts_of entries) in
    absurd (omega (arith, none, first, whole))

-- what follows the first line, if there is one
pub past-line : (version : Version) (one other : List Entry) (rest behind : List ℕ) → text_in version one ++ rest ≡ text_in version other ++ behind
    → texts_of one ++ rest ≡ texts_of other ++ behind
past-line One one other rest behind same = same
past-line Two one other rest behind same = ap (drop 3) same

-- bytes are the text of one history
pub same-text : (version : Version) (one other : List Entry) (bytes : List ℕ) → All IsRecord one → All IsRecord other
    → HasText version one bytes → HasText version other bytes → one ≡ other
same-text version one other bytes records others first second =
    (texts_of-one_reading one other first.rest second.rest records others first.unbroken second.unbroken
    (past-line version one other first.rest second.rest (sym first.text_is ∙ second.text_is))).0

-- the text of a longer history is as much longer as the text of its further records
longer-text : (old more : List Entry) → length (journal_text (old ++ more)) ≡ length (journal_text old) + length (texts_of more)
longer-text old more =
    let whole = ap length (flat_map-append text_of old more) ∙ length-append (texts_of old) (texts_of more) in
    omega (arith, whole)

-- what has the whole text of a longer history is no part of that of the first one, but where they are the same
pub part-whole : (old history : List Entry) (bytes : List ℕ) → GoesOn old history → All IsRecord history → IsPartOf (journal_text old) bytes
    → HasText Two history bytes → history ≡ old
part-whole old history bytes on records part whole =
    let others : All IsRecord (old ++ on.0) = subst (All IsRecord) on.1 records in
    let more : All IsRecord on.0 = subst (All IsRecord) (drop-append_seam old on.0) (All-drop IsRecord (length old) (old ++ on.0) others) in
    let short = ap length part.part_is ∙ length-take part.kept (journal_text old) in
    let long = ap length whole.text_is ∙ length-append (journal_text history) whole.rest in
    let grown = ap (λ (h : List Entry). length (journal_text h)) on.1 ∙ longer-text old on.0 in
    let none : length (texts_of on.0) ≡ 0 = omega (arith, short, long, grown) in
    on.1 ∙ ap (λ l. old ++ l) (none-short on.0 more none) ∙ append-nil old

-- bytes are taken for one history
pub taken-same : (old one other : List Entry) (bytes : List ℕ) → GoesOn old one → GoesOn old other → All IsRecord one → All IsRecord other
    → IsTakenFor old one bytes → IsTakenFor old other bytes → one ≡ other
taken-same old one other bytes on other_on records others first second = ⊎_elim
    (λ (part : (one ≡ old) × IsPartOf (journal_text old) bytes). ⊎_elim
    (λ (also : (other ≡ old) × IsPartOf (journal_text old) bytes). part.0 ∙ sym also.0)
    (λ (whole : HasText Two other bytes). part.0 ∙ sym (part-whole old other bytes other_on others part.1 whole)) second)
    (λ (whole : HasText Two one bytes). ⊎_elim
    (λ (also : (other ≡ old) × IsPartOf (journal_text old) bytes). part-whole old one bytes on records also.1 whole ∙ sym also.0)
    (λ (also : HasText Two other bytes). same-text Two one other bytes records others whole also) second)
    first

-- ---- what stops no load

module _ (version : Version) (issuer : Setup) (shard : ℕ) (first history : List Entry) (bytes : List ℕ) (records : All IsRecord history)
    (legal : IsLegalHistory (grounds_in version issuer) shard history) (text : HasText version history bytes) where
  -- the text of a legal history has no bad line
  pub never-stops : (fault : LoadFault) → StopsAt version issuer shard first bytes fault → ⊥
  never-stops fault stops =
      let its = next-record stops.history history stops.line stops.ahead text.rest stops.records records stops.unbroken text.unbroken
      (past-line version stops.history history (stops.line ++ newline ∷ stops.ahead) text.rest
      (sym (append_assoc (text_in version stops.history) stops.line (newline ∷ stops.ahead)) ∙ sym stops.text_is ∙ text.text_is)) in
      let here = legal (length stops.history) its.next its.at in ⊎_elim
      (λ (none : (fault ≡ bad_line version (length stops.history)) × ((entry : Entry) → IsLineOf entry stops.line → ⊥)).
      none.1 its.next (its.valid, its.line_is))
      (λ (one : (fault ≡ bad_record version (length stops.history))
      × ((entry : Entry) × IsLineOf entry stops.line × (IsLegal (grounds_in version issuer) shard stops.history entry → ⊥))).
      let same = text_of-apart its.next one.1.0 [] [] its.valid one.1.1.0 (ap (λ (l : List ℕ). l ++ []) (its.line_is ∙ sym one.1.1.1)) in
      one.1.2 (subst (λ (entry : Entry). IsLegal (grounds_in version issuer) shard stops.history entry) same.0
      (subst (λ (before : List Entry). IsLegal (grounds_in version issuer) shard before its.next) its.front here)))
      stops.bad

-- nor has a part of the text of the old history
part-never-stops : (issuer : Setup) (shard : ℕ) (old : List Entry) (bytes : List ℕ) (fault : LoadFault) → IsPartOf (journal_text old) bytes
    → StopsAt Two issuer shard old bytes fault → ⊥
part-never-stops issuer shard old bytes fault part stops =
    let short = ap length part.part_is ∙ length-take part.kept (journal_text old) in
    let long = ap length stops.text_is ∙ length-append (journal_text stops.history ++ stops.line) (newline ∷ stops.ahead) in
    let both = length-append (journal_text stops.history) stops.line in
    let grown = ap (λ (h : List Entry). length (journal_text h)) stops.goes_on.1 ∙ longer-text old stops.goes_on.0 in
    omega (arith, short, long, both, grown)

-- the byte after a prefix
byte-at : (same : List ℕ) (byte : ℕ) (ahead : List ℕ) → get_or (same ++ byte ∷ ahead) (length same) 0 ≡ byte
byte-at same byte ahead = get_or_at same byte ahead 0 (length same) refl

-- nor do they differ from it
never-differs : (text bytes : List ℕ) (line kept : ℕ) → take kept bytes ≡ take kept text → (length bytes ≤ kept) ⊎ (length text ≤ kept)
    → DiffersAt text bytes line → ⊥
never-differs text bytes line kept alike within differs =
    let at = length differs.same in
    let of_bytes = ap length differs.bytes_are ∙ length-append differs.same (differs.byte ∷ differs.ahead) in
    let of_text = ap length differs.text_is ∙ length-append differs.same (differs.other ∷ differs.other_ahead) in
    let below : at < kept = ⊎_elim (λ (short : length bytes ≤ kept). omega (arith, short, of_bytes))
    (λ (short : length text ≤ kept). omega (arith, short, of_text)) within in
    differs.apart
    (sym (byte-at differs.same differs.byte differs.ahead) ∙ ap (λ (l : List ℕ). get_or l at 0) (sym differs.bytes_are)
    ∙ sym (get_or-take kept bytes at 0 below) ∙ ap (λ (l : List ℕ). get_or l at 0) alike ∙ get_or-take kept text at 0 below
    ∙ ap (λ (l : List ℕ). get_or l at 0) differs.text_is ∙ byte-at differs.same differs.other differs.other_ahead)

-- the text of a longer history begins with that of the first one
begins-alike : (old history : List Entry) (bytes : List ℕ) → GoesOn old history → HasText Two history bytes
    → take (length (journal_text old)) bytes ≡ take (length (journal_text old)) (journal_text old)
begins-alike old history bytes on whole =
    ap (take (length (journal_text old)))
    (whole.text_is ∙ ap (λ (h : List Entry). journal_text h ++ whole.rest) on.1
    ∙ ap (λ l. (version_line ++ l) ++ whole.rest) (flat_map-append text_of old on.0)
    ∙ append_assoc (journal_text old) (texts_of on.0) whole.rest)
    ∙ take-append-le (length (journal_text old)) (journal_text old) (texts_of on.0 ++ whole.rest) (omega arith)

taken-never-differs : (old history : List Entry) (bytes : List ℕ) (line : ℕ) → GoesOn old history → IsTakenFor old history bytes
    → DiffersAt (journal_text old) bytes line → ⊥
taken-never-differs old history bytes line on taken differs = ⊎_elim
    (λ (part : (history ≡ old) × IsPartOf (journal_text old) bytes).
    let kept = part.1.kept in
    let short = ap length part.1.part_is ∙ length-take kept (journal_text old) in
    never-differs (journal_text old) bytes line kept
    (ap (take kept) part.1.part_is ∙ take-take kept kept (journal_text old) (omega arith)) (inl (omega (arith, short))) differs)
    (λ (whole : HasText Two history bytes).
    never-differs (journal_text old) bytes line (length (journal_text old)) (begins-alike old history bytes on whole) (inr (omega arith)) differs)
    taken

-- ---- what is loaded

module _ (issuer : Setup) (shard : ℕ) (old : List Entry) (history : List Entry) where
  -- the journal of both doesn't stop a load
  journal-never-stops : (old_text text : List ℕ) (fault : LoadFault) → IsOldText issuer shard (Some old_text) old
      → IsTextOf issuer shard old (Some text) history → StopsJournal issuer shard old_text text fault → ⊥
  journal-never-stops old_text text fault known is stops =
      let same : stops.old ≡ old = same-text One stops.old old old_text stops.old_is.records known.records stops.old_is.text_is known.text_is in
      let on = is.since.goes_on in ⊎_elim
      (λ (differs : (line : ℕ) × (fault ≡ BadLine line) × DiffersAt (journal_text stops.old) text line).
      taken-never-differs old history text differs.0 on is.text_is
      (subst (λ (old : List Entry). DiffersAt (journal_text old) text differs.0) same differs.2))
      (λ (bad : StopsAt Two issuer shard stops.old text fault). ⊎_elim
      (λ (part : (history ≡ old) × IsPartOf (journal_text old) text).
      part-never-stops issuer shard old text fault part.1 (subst (λ (old : List Entry). StopsAt Two issuer shard old text fault) same bad))
      (λ (whole : HasText Two history text).
      never-stops Two issuer shard stops.old history text is.records is.since.legal whole fault bad)
      is.text_is)
      stops.stops

  -- so nothing but what is outside stops it
  pub stops-outside : (old_bytes bytes : Option (List ℕ)) (fault : LoadFault) → IsOldText issuer shard old_bytes old
      → IsTextOf issuer shard old bytes history → StopsText issuer shard old_bytes bytes fault → IsOutside fault
  stops-outside None bytes fault known is stops = absurd known.text_is
  stops-outside (Some old_text) None fault known is stops = absurd is.text_is
  stops-outside (Some old_text) (Some text) StoreFault known is stops = tt
  stops-outside (Some old_text) (Some text) NoMemory known is stops = tt
  stops-outside (Some old_text) (Some text) (OldLine line) known is stops =
      never-stops One issuer shard [] old old_text known.records known.legal known.text_is (OldLine line) stops
  stops-outside (Some old_text) (Some text) (OldRecord line) known is stops =
      never-stops One issuer shard [] old old_text known.records known.legal known.text_is (OldRecord line) stops
  stops-outside (Some old_text) (Some text) (BadLine line) known is stops =
      journal-never-stops old_text text (BadLine line) known is stops
  stops-outside (Some old_text) (Some text) (BadRecord line) known is stops =
      journal-never-stops old_text text (BadRecord line) known is stops

  -- records that were loaded are the history's
  same-loaded : (old_bytes bytes : Option (List ℕ)) (other_old other : List Entry) → IsOldText issuer shard old_bytes old
      → IsTextOf issuer shard old bytes history → IsJournalOf issuer shard old_bytes bytes other_old other → other ≡ history
  same-loaded None bytes other_old other known is its = absurd known.text_is
  same-loaded (Some old_text) None other_old other known is its = absurd is.text_is
  same-loaded (Some old_text) (Some text) other_old other known is its =
      let same : other_old ≡ old = same-text One other_old old old_text its.old_records known.records its.old_text_is known.text_is in
      taken-same old other history text (subst (λ (old : List Entry). GoesOn old other) same its.since.goes_on) is.since.goes_on its.records is.records
      (subst (λ (old : List Entry). IsTakenFor old other text) same its.text_is) is.text_is

  module _ {S : Type 0} {G : Ghosts S} (old_bytes bytes : Option (List ℕ)) (known : IsOldText issuer shard old_bytes old)
      (text : IsTextOf issuer shard old bytes history) where
    pub loads-settled : (loaded : Shard S G) → IsLoaded issuer shard old_bytes bytes loaded → IsSettled issuer loaded history
    loads-settled loaded is =
        let same = same-loaded old_bytes bytes is.old is.history known text is.journal_is in
        record {
          stands = subst (StandsFor issuer loaded) same is.stands;
          settled = subst (λ (history : List Entry). Holds loaded.journal (length history) (journal_text history) []) same is.settled;
        }

    -- a legal text is loaded, and to its history
    pub loads-exactly : (result : Result (Shard S G) (LoadBack S)) → IfOk result (IsLoaded issuer shard old_bytes bytes)
        → IfErr result (λ back. StopsText issuer shard old_bytes bytes back.fault)
        → MatchResult result (λ loaded. IsSettled issuer loaded history) (λ back. IsOutside back.fault)
    loads-exactly (Ok loaded) is stops = loads-settled loaded is
    loads-exactly (Err back) is stops = stops-outside old_bytes bytes back.fault known text stops

-- ---- images

pub unbroken-front : (entry : Entry) (tail : List ℕ) (kept : ℕ) → IsRecord entry → tail ≡ text_of entry → kept < length tail → IsUnbroken (take kept tail)
unbroken-front entry tail kept valid its below =
    let line = text_of-IsLine entry valid in
    let whole : tail ≡ line.0 ++ newline ∷ [] = its ∙ line.2 in
    let short : kept ≤ length line.0 = omega (arith, ap length whole, length-append line.0 (newline ∷ []), below) in
    subst IsUnbroken (sym (ap (take kept) whole ∙ take-append-le kept line.0 (newline ∷ []) short))
    (All-take (λ byte. byte ≢ newline) kept line.0 line.1)

module _ (issuer : Setup) (shard : ℕ) (old : List Entry) (bytes : Option (List ℕ)) (history : List Entry)
    (left : IsImageLeft issuer shard old bytes history) where
  -- the bytes are the text of the history, or of the history and one record
  abbrev IsTextLeft : Type 0
  IsTextLeft = IsTextOf issuer shard old bytes history
      ⊎ ((entry : Entry) × IsLegal (grounds_of issuer) shard history entry × (bytes ≡ Some (journal_text (history ++ entry ∷ [])))
      × IsTextOf issuer shard old bytes (history ++ entry ∷ []))

  -- the bytes are taken for a history
  taken-for : (other : List Entry) (rest : List ℕ) → left.image ≡ journal_text other ++ rest → IsUnbroken rest
      → IsSomeAnd bytes (IsTakenFor old other)
  taken-for other rest image_is unbroken =
      subst (λ (bytes : Option (List ℕ)). IsSomeAnd bytes (IsTakenFor old other)) (sym left.told)
      (inr (record { rest = rest; text_is = image_is; unbroken = unbroken }))

  -- the remainder is no whole record
  torn : (rest : List ℕ) → left.image ≡ journal_text history ++ rest → IsUnbroken rest → IsTextLeft
  torn rest image_is unbroken = inl (record {
    text_is = taken-for history rest image_is unbroken;
    records = left.records;
    since = left.since;
  })

  -- the remainder is one
  whole : (entry : Entry) → IsRecord entry → IsLegal (grounds_of issuer) shard history entry → left.image ≡ journal_text history ++ text_of entry
      → IsTextLeft
  whole entry valid legal image_is =
      let image_whole : left.image ≡ journal_text (history ++ entry ∷ []) = image_is ∙ journal-more history entry in
      inr (
        entry,
        legal,
        left.told ∙ ap Some image_whole,
        record {
          text_is = taken-for (history ++ entry ∷ []) [] (image_whole ∙ sym (append-nil (journal_text (history ++ entry ∷ []))))
              (All-nil (λ byte. byte ≢ newline));
          records = All-push IsRecord history entry left.records valid;
          since = record {
            goes_on = goes-then old history (history ++ entry ∷ []) left.since.goes_on (entry ∷ [], refl);
            old_legal = left.since.old_legal;
            legal = legal-more (grounds_of issuer) shard history entry left.since.legal legal;
          };
        },
      )

  text-left : IsTextLeft
  text-left =
      let tail = left.left.0 in
      let kept : ℕ = left.left.2.0 in
      let image_is : left.image ≡ journal_text history ++ take kept tail = left.left.2.1 in
      ⊎_elim
      (λ (none : tail ≡ []). torn (take kept tail) image_is (All-take (λ byte. byte ≢ newline) kept tail
      (subst IsUnbroken (sym none) (All-nil (λ byte. byte ≢ newline)))))
      (λ (one : (entry : Entry) × IsRecord entry × IsLegal (grounds_of issuer) shard history entry × (tail ≡ text_of entry)).
      elim (cases_lt kept (length tail)) [
        | inl below ↦ torn (take kept tail) image_is (unbroken-front one.0 tail kept one.1 one.3 below)
        | inr above ↦ whole one.0 one.1 one.2 (image_is ∙ ap (λ l. journal_text history ++ l) (take_all kept tail above ∙ one.3))
      ])
      left.left.1

  module _ (old_bytes : Option (List ℕ)) (known : IsOldText issuer shard old_bytes old) where
    -- nothing but what is outside stops the load of an image
    pub image-outside : (fault : LoadFault) → StopsText issuer shard old_bytes bytes fault → IsOutside fault
    image-outside fault stops = ⊎_elim
        (λ (text : IsTextOf issuer shard old bytes history). stops-outside issuer shard old history old_bytes bytes fault known text stops)
        (λ (one : (entry : Entry) × IsLegal (grounds_of issuer) shard history entry × (bytes ≡ Some (journal_text (history ++ entry ∷ [])))
        × IsTextOf issuer shard old bytes (history ++ entry ∷ [])).
        stops-outside issuer shard old (history ++ one.0 ∷ []) old_bytes bytes fault known one.3 stops)
        text-left

    module _ {S : Type 0} {G : Ghosts S} where
      -- it is loaded to its history, or to it and the record whose text is whole
      settles-image : (loaded : Shard S G) → IsLoaded issuer shard old_bytes bytes loaded → StandsForLeft issuer shard bytes history loaded
      settles-image loaded is = ⊎_elim
          (λ (text : IsTextOf issuer shard old bytes history). inl (loads-settled issuer shard old history old_bytes bytes known text loaded is))
          (λ (one : (entry : Entry) × IsLegal (grounds_of issuer) shard history entry × (bytes ≡ Some (journal_text (history ++ entry ∷ [])))
          × IsTextOf issuer shard old bytes (history ++ entry ∷ [])).
          inr (one.0, one.1, one.2, loads-settled issuer shard old (history ++ one.0 ∷ []) old_bytes bytes known one.3 loaded is))
          text-left

      pub loads-image : (result : Result (Shard S G) (LoadBack S)) → IfOk result (IsLoaded issuer shard old_bytes bytes)
          → IfErr result (λ back. StopsText issuer shard old_bytes bytes back.fault)
          → MatchResult result (StandsForLeft issuer shard bytes history) (λ back. IsOutside back.fault)
      loads-image (Ok loaded) is stops = settles-image loaded is
      loads-image (Err back) is stops = image-outside back.fault stops
