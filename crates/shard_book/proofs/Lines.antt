-- The lines of a journal, replayed one after another.
use Rattle.std.proofs.Common.{◌≡◌, ◌≢◌, ℕ, ◌+◌, ◌<◌, List, [], ◌∷◌, ◌++◌, length, take, drop, get_or, refl, sym, ap, subst, ◌∙◌, inl, inr, arith}
use Rattle.std.proofs.Common.{Option, None, Some, MatchOption, eq-eqb}
use Rattle.std.proofs.Common.{append-nil, append_assoc, length-take}
use Rattle.std.proofs.Math.Seq.{take-add}
use Rattle.std.proofs.lemmas.Bool.{cases_eq, eqb-true}
use Rattle.std.proofs.lemmas.List.{length_push, take_more, take_at, take-append-le, take-append-drop, get_or-take, get_or_append_left, get_or_push}
use Rattle.std.proofs.lemmas.List.{get_or_default}
use Rattle.std.proofs.lemmas.List.Elements.{All-nil, All-push}
use Rattle.std.proofs.lemmas.Option.{slice_get_within, slice_get-get_or, get_or_from_slice_get}
use Rattle.std.specs.List.{slice_get}
use Rattle.memchr.specs.Find.{IsFirstByte, is_byte}
use Rattle.issuer_base.specs.declared.entry.Entry.{Entry}
use Rattle.card_history.specs.LegalRecords.{Grounds, IsLegal, IsLegalHistory}
use Rattle.issuer_setup.specs.IssuerSetup.{Setup}
use Rattle.journal_rec.specs.Record.{IsRecord}
use Rattle.journal_rec.specs.RecordText.{newline, texts_of, IsUnbroken}
use Rattle.shard_book.specs.declared.replay.LoadFault.{LoadFault}
use Rattle.shard_book.specs.declared.replay.Taken.{Taken}
use Rattle.shard_book.specs.ShardRows.{ShardRows, RowsStandFor}
use Rattle.shard_book.specs.Versions.{grounds_in}
use Rattle.shard_book.specs.declared.replay.Version.{Version}
use Rattle.shard_book.specs.LineAhead.{IsLineAhead}
use Rattle.shard_book.specs.Loading.{IsBad, StopsLines, TakesLine, TakesLines}
use Rattle.shard_book.proofs.ShardSteps.{texts-more}

-- no offset has a newline
unbroken-from : (bytes : List ℕ) → ((k : ℕ) → k < length bytes → get_or bytes k 0 ≢ 10) → IsUnbroken bytes
unbroken-from bytes none = λ k default within is. none k within (get_or_default bytes k 0 default within ∙ is)

-- the first newline ends the next line
pub line-found : (bytes : List ℕ) (found : Option ℕ) → IsFirstByte (is_byte 10) bytes found → MatchOption found (IsUnbroken bytes) (IsLineAhead bytes)
line-found bytes None none = unbroken-from bytes (λ k within is. none k (omega arith) within (eq-eqb _ 10 is))
line-found bytes (Some place) found = record {
  within = found.0.high;
  unbroken =
      unbroken-from (take place bytes) (λ k within is.
      let below : k < place = omega (arith, length-take place bytes) in
      found.0.before k (omega arith) below (eq-eqb _ 10 (sym (get_or-take place bytes k 0 below) ∙ is)));
  ends = take_more bytes place 0 found.0.high ∙ ap (λ byte. take place bytes ++ byte ∷ []) (eqb-true _ 10 found.1);
}

-- a legal history extended by a valid successor is legal
pub legal-more : (grounds : Grounds) (shard : ℕ) (history : List Entry) (entry : Entry) → IsLegalHistory grounds shard history
    → IsLegal grounds shard history entry → IsLegalHistory grounds shard (history ++ entry ∷ [])
legal-more grounds shard history entry legal next place other at =
    let within = slice_get_within (history ++ entry ∷ []) place other at in
    let long = length_push history entry in
    let read : get_or (history ++ entry ∷ []) place entry ≡ other = get_or_from_slice_get (history ++ entry ∷ []) place other entry at in
    elim (cases_eq place (length history)) [
      | inl same ↦
          let its : entry ≡ other = sym (get_or_push history entry entry place (sym same)) ∙ read in
          let front : take place (history ++ entry ∷ []) ≡ history = take_at history (entry ∷ []) place (sym same) in
          subst (λ (other : Entry). IsLegal grounds shard (take place (history ++ entry ∷ [])) other) its
          (subst (λ (before : List Entry). IsLegal grounds shard before entry) (sym front) next)
      | inr not_it ↦
          let below : place < length history = omega (arith, within, long, not_it) in
          let found : slice_get history place ≡ Some other =
          slice_get-get_or history place entry below ∙ ap Some (sym (get_or_append_left history (entry ∷ []) entry place below) ∙ read) in
          let front : take place (history ++ entry ∷ []) ≡ take place history =
          take-append-le place history (entry ∷ []) (omega (arith, below)) in
          subst (λ (before : List Entry). IsLegal grounds shard before other) (sym front) (legal place other found)
    ]

-- nothing was taken over
pub takes-none : (version : Version) (issuer : Setup) (shard : ℕ) (history : List Entry) (text : List ℕ) (rows : ShardRows) → RowsStandFor issuer rows history
    → IsLegalHistory (grounds_in version issuer) shard history → TakesLines version issuer shard history text (record { records = 0; bytes = 0 }) rows
takes-none version issuer shard history text rows stands legal = record {
  entries = [];
  count_is = refl;
  text_is = refl;
  records = All-nil IsRecord;
  legal = subst (IsLegalHistory (grounds_in version issuer) shard) (sym (append-nil history)) legal;
  stands = subst (RowsStandFor issuer rows) (sym (append-nil history)) stands;
}

module _ (version : Version) (issuer : Setup) (shard : ℕ) (history : List Entry) (text : List ℕ) (taken : Taken) (mid : ShardRows)
    (before : TakesLines version issuer shard history text taken mid) (count : ℕ) (ahead : IsLineAhead (drop taken.bytes text) count) (line : List ℕ)
    (line_is : line ≡ take count (drop taken.bytes text)) where
  front : take (count + 1) (drop taken.bytes text) ≡ line ++ newline ∷ []
  front = ahead.ends ∙ ap (λ l. l ++ newline ∷ []) (sym line_is)

  -- and then the record of one more line
  pub takes-more : (new : ShardRows) (more : Taken) → more.records ≡ taken.records + 1 → more.bytes ≡ taken.bytes + count + 1
      → TakesLine version issuer shard (history ++ before.entries) line new → TakesLines version issuer shard history text more new
  takes-more new more records_are bytes_are takes =
      let entries = before.entries ++ takes.entry ∷ [] in
      let joined : (history ++ before.entries) ++ takes.entry ∷ [] ≡ history ++ entries = append_assoc history before.entries (takes.entry ∷ []) in
      let whole : more.bytes ≡ taken.bytes + (count + 1) = omega (arith, bytes_are) in
      record {
        entries = entries;
        count_is = records_are ∙ ap (λ n. n + 1) before.count_is ∙ sym (length_push before.entries takes.entry);
        text_is =
            ap (λ n. take n text) whole
            ∙ take-add taken.bytes (count + 1) text
            ∙ ap (λ l. l ++ take (count + 1) (drop taken.bytes text)) before.text_is
            ∙ ap (λ l. texts_of before.entries ++ l) (front ∙ sym takes.line_is.1)
            ∙ texts-more before.entries takes.entry;
        records = All-push IsRecord before.entries takes.entry before.records takes.line_is.0;
        legal =
            subst (IsLegalHistory (grounds_in version issuer) shard) joined
            (legal-more (grounds_in version issuer) shard (history ++ before.entries) takes.entry before.legal takes.legal);
        stands = subst (RowsStandFor issuer new) joined takes.stands;
      }

  -- or a bad line
  pub stops-at : (fault : LoadFault) → IsBad version issuer shard (history ++ before.entries) line fault → StopsLines version issuer shard history text fault
  stops-at fault bad = record {
    entries = before.entries;
    line = line;
    ahead = drop (count + 1) (drop taken.bytes text);
    text_is =
        sym (take-append-drop taken.bytes text)
        ∙ ap (λ l. l ++ drop taken.bytes text) before.text_is
        ∙ ap (λ l. texts_of before.entries ++ l)
        (sym (take-append-drop (count + 1) (drop taken.bytes text)) ∙ ap (λ l. l ++ drop (count + 1) (drop taken.bytes text)) front
        ∙ append_assoc line (newline ∷ []) (drop (count + 1) (drop taken.bytes text)))
        ∙ sym (append_assoc (texts_of before.entries) line (newline ∷ drop (count + 1) (drop taken.bytes text)));
    unbroken = subst IsUnbroken (sym line_is) ahead.unbroken;
    records = before.records;
    legal = before.legal;
    bad = bad;
  }
