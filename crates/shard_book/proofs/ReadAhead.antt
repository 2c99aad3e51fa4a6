-- The records of the next lines of a text, and what was looked up for each.
use Rattle.std.proofs.Common.{◌≡◌, ℕ, ◌+◌, ◌<◌, ◌≤◌, List, [], ◌∷◌, ◌++◌, length, take, drop, get_or, refl, sym, ap, subst, ◌∙◌, inl, inr, arith}
use Rattle.std.proofs.Common.{Result, Ok, Err, All, append-nil, append_assoc, length-append, length-take, length-drop}
use Rattle.std.proofs.Math.Seq.{take-add}
use Rattle.std.proofs.lemmas.Bool.{cases_lt}
use Rattle.std.proofs.lemmas.List.{length_push, take-append-drop, length-take-le, get_or-take, get_or_push, take_more}
use Rattle.std.proofs.lemmas.List.Concat.{flat_map-append}
use Rattle.std.proofs.lemmas.List.Elements.{All-nil, All-cons, All-push, All-append, All-take}
use Rattle.std.proofs.lemmas.Option.{slice_get_within, get_or_from_slice_get}
use Rattle.std.specs.List.{AllZip}
use Rattle.issuer_base.specs.declared.answer.Refusal.{Refusal}
use Rattle.issuer_base.specs.declared.entry.Entry.{Entry}
use Rattle.issuer_base.specs.declared.entry.Entry.TheVariants.{Decided, Queued, Status}
use Rattle.card_history.specs.declared.decision.Asked.TheVariants.{Decide}
use Rattle.card_history.specs.LegalRecords.{IsLegal, IsLegalHistory}
use Rattle.card_history.specs.Records.{card_in}
use Rattle.issuer_base.specs.CardNames.{named}
use Rattle.issuer_setup.specs.IssuerSetup.{Setup}
use Rattle.journal_rec.specs.Record.{IsRecord, IsLineOf}
use Rattle.journal_rec.specs.RecordText.{newline, text_of, texts_of, IsUnbroken}
use Rattle.journal_rec.proofs.TextLaws.{text_of-IsLine}
use Rattle.line_checks.specs.declared.checked.CheckedOrder.{CheckedOrder}
use Rattle.line_checks.specs.AtHand.{IsCardAtHand, number_of_order, record_of}
use Rattle.line_checks.specs.declared.looked_up.LookedUp.{LookedUp}
use Rattle.line_checks.specs.declared.looked_up.LookedUp.TheVariants.{Request as IsRequest, Order}
use Rattle.line_checks.specs.LookedUp.{IsLookedUpAgain, IsReady}
use Rattle.shard_book.specs.declared.replay.LoadFault.{LoadFault}
use Rattle.shard_book.specs.declared.replay.Taken.{Taken}
use Rattle.shard_book.specs.declared.replay.Version.{Version}
use Rattle.shard_book.specs.Grounds.{IsMadeBy}
use Rattle.shard_book.specs.LineAhead.{IsLineAhead}
use Rattle.shard_book.specs.Loading.{StopsLines, TakesLines}
use Rattle.shard_book.specs.ReadAhead.{IsLookedUp, AreNext, StopsWithin, TakesAll}
use Rattle.shard_book.specs.ShardRows.{ShardRows, RowsStandFor}
use Rattle.shard_book.specs.Versions.{bad_record, grounds_in, window_in}
use Rattle.shard_book.proofs.Adopted.{nobody}
use Rattle.shard_book.proofs.LegalDecisions.{legal-checked}
use Rattle.shard_book.proofs.Lines.{legal-more}
use Rattle.shard_book.proofs.Loaded.{line-long}
use Rattle.shard_book.proofs.ShardSteps.{texts-more}

-- ---- the next line

ends-newline : (bytes : List ℕ) (count : ℕ) → IsLineAhead bytes count → get_or bytes count 0 ≡ newline
ends-newline bytes count ahead =
    let within = ahead.within in
    sym (get_or-take (count + 1) bytes count 0 (omega arith)) ∙ ap (λ l. get_or l count 0) ahead.ends
    ∙ get_or_push (take count bytes) newline 0 count (length-take-le count bytes (omega arith))

not-before : (bytes : List ℕ) (a b : ℕ) → IsLineAhead bytes a → IsLineAhead bytes b → a < b → ⊥
not-before bytes a b first second below =
    let within = second.within in
    second.unbroken a 0 (omega (arith, length-take-le b bytes (omega arith))) (get_or-take b bytes a 0 below ∙ ends-newline bytes a first)

-- a text has one next line
pub same-line : (bytes : List ℕ) (a b : ℕ) → IsLineAhead bytes a → IsLineAhead bytes b → a ≡ b
same-line bytes a b first second = elim (cases_lt a b) [
  | inl below ↦ absurd (not-before bytes a b first second below)
  | inr above ↦ elim (cases_lt b a) [
    | inl below ↦ absurd (not-before bytes b a second first below)
    | inr same ↦ omega (arith, above, same)
  ]
]

-- and none where it has no newline
pub no-line : (bytes : List ℕ) (count : ℕ) → IsUnbroken bytes → IsLineAhead bytes count → ⊥
no-line bytes count unbroken ahead = unbroken count 0 ahead.within (ends-newline bytes count ahead)

-- ---- the records of the next lines

pub next-none : (text : List ℕ) (from : ℕ) → from ≤ length text → AreNext text from [] from
next-none text from within = record {
  text_is = sym (append-nil (take from text));
  records = All-nil IsRecord;
  few = omega arith;
  within = within;
}

pub next-more : (text : List ℕ) (from : ℕ) (entries : List Entry) (end count : ℕ) (entry : Entry) (line : List ℕ) → AreNext text from entries end
    → IsLineAhead (drop end text) count → line ≡ take count (drop end text) → IsLineOf entry line → AreNext text from (entries ++ entry ∷ []) (end + count + 1)
next-more text from entries end count entry line next ahead line_is is =
    let more : end + count + 1 ≡ end + (count + 1) = omega arith in
    let whole : take (count + 1) (drop end text) ≡ text_of entry = ahead.ends ∙ ap (λ l. l ++ newline ∷ []) (sym line_is) ∙ sym is.1 in
    let long : length line ≤ count = omega (arith, ap length line_is, length-take count (drop end text)) in
    let some = line-long line entry is in
    let within = ahead.within in
    record {
      text_is =
          ap (λ n. take n text) more
          ∙ take-add end (count + 1) text
          ∙ ap (λ l. l ++ take (count + 1) (drop end text)) next.text_is
          ∙ append_assoc (take from text) (texts_of entries) (take (count + 1) (drop end text))
          ∙ ap (λ l. take from text ++ l) (ap (λ l. texts_of entries ++ l) whole ∙ texts-more entries entry);
      records = All-push IsRecord entries entry next.records is.0;
      few = omega (arith, length_push entries entry, next.few);
      within = omega (arith, length-drop end text, next.within);
    }

-- no records end where they began
pub next-empty : (text : List ℕ) (from : ℕ) (entries : List Entry) (end : ℕ) → from ≤ length text → AreNext text from entries end → entries ≡ [] → end ≡ from
next-empty text from entries end within next none =
    let same : take end text ≡ take from text =
    next.text_is ∙ ap (λ (entries : List Entry). take from text ++ texts_of entries) none ∙ append-nil (take from text) in
    omega (arith, ap length same, length-take-le end text next.within, length-take-le from text within)

pub no-entries : (entries : List Entry) → length entries ≡ 0 → entries ≡ []
no-entries [] none = refl
no-entries (entry ∷ entries) none = absurd (omega (arith, none))

-- ---- what was looked up

pub looked-again : (issuer : Setup) (entry : Entry) (old new : Result LookedUp Refusal) → IsLookedUp issuer entry old → IsLookedUpAgain issuer old new
    → IsLookedUp issuer entry new
looked-again issuer (Decided request reply) (Ok (IsRequest old)) (Ok (IsRequest new)) its again = (again.request_is ∙ its.0, again.at_hand)
looked-again issuer (Decided request reply) (Ok (IsRequest old)) (Ok (Order new)) its again = absurd cc
looked-again issuer (Decided request reply) (Ok (IsRequest old)) (Err refusal) its again = absurd cc
looked-again issuer (Queued pan psn command) (Ok (IsRequest old)) new its again = absurd its
looked-again issuer (Status pan psn status) (Ok (IsRequest old)) new its again = absurd its
looked-again issuer entry (Ok (Order old)) new its again = subst (IsLookedUp issuer entry) (sym again) its
looked-again issuer entry (Err refusal) new its again = subst (IsLookedUp issuer entry) (sym again) its

pub all-again : (issuer : Setup) (entries : List Entry) (old new : List (Result LookedUp Refusal)) → AllZip (IsLookedUp issuer) entries old
    → AllZip (IsLookedUpAgain issuer) old new → AllZip (IsLookedUp issuer) entries new
all-again issuer [] [] [] its again = tt
all-again issuer [] [] (n ∷ new) its again = absurd again
all-again issuer [] (o ∷ old) new its again = absurd its
all-again issuer (entry ∷ entries) [] new its again = absurd its
all-again issuer (entry ∷ entries) (o ∷ old) [] its again = absurd again
all-again issuer (entry ∷ entries) (o ∷ old) (n ∷ new) its again =
    (looked-again issuer entry o n its.0 again.0, all-again issuer entries old new its.1 again.1)

looked-ready : (issuer : Setup) (entry : Entry) (found : Result LookedUp Refusal) → IsLookedUp issuer entry found → IsReady issuer found
looked-ready issuer (Decided request reply) (Ok (IsRequest sought)) its = its.1
looked-ready issuer (Queued pan psn command) (Ok (IsRequest sought)) its = absurd its
looked-ready issuer (Status pan psn status) (Ok (IsRequest sought)) its = absurd its
looked-ready issuer entry (Ok (Order order)) its = tt
looked-ready issuer entry (Err refusal) its = tt

pub all-ready : (issuer : Setup) (entries : List Entry) (found : List (Result LookedUp Refusal)) → AllZip (IsLookedUp issuer) entries found
    → All (IsReady issuer) found
all-ready issuer [] [] its = All-nil (IsReady issuer)
all-ready issuer [] (f ∷ found) its = absurd its
all-ready issuer (entry ∷ entries) [] its = absurd its
all-ready issuer (entry ∷ entries) (f ∷ found) its =
    All-cons (IsReady issuer) f found (looked-ready issuer entry f its.0) (all-ready issuer entries found its.1)

-- an order that was looked up for a record is that of the record
pub order-of : (issuer : Setup) (entry : Entry) (order : CheckedOrder) → IsLookedUp issuer entry (Ok (Order order)) → record_of order ≡ entry
order-of issuer (Decided request reply) order its = its.0
order-of issuer (Queued pan psn command) order its = its.0
order-of issuer (Status pan psn status) order its = its.0

-- and its card is that of the record
pub order-card : (issuer : Setup) (entry : Entry) (order : CheckedOrder) → IsLookedUp issuer entry (Ok (Order order))
    → IsCardAtHand issuer (card_in entry) (number_of_order order)
order-card issuer (Decided request reply) order its = its.1
order-card issuer (Queued pan psn command) order its = its.1
order-card issuer (Status pan psn status) order its = its.1

-- what is refused is no valid successor
pub refused-illegal : (version : Version) (issuer : Setup) (shard : ℕ) (history : List Entry) (entry : Entry) (refusal : Refusal)
    → IsLookedUp issuer entry (Err refusal) → IsLegal (grounds_in version issuer) shard history entry → ⊥
refused-illegal version issuer shard history (Decided request reply) refusal refused legal =
    let passes = legal-checked issuer {window = window_in version} {IsReply = IsMadeBy issuer} {shard = shard} {before = history} {request = request}
    {reply = reply} legal in
    let both : Err refusal ≡ Ok (Decide request) = sym refused ∙ passes in absurd cc
refused-illegal version issuer shard history (Queued pan psn command) refusal refused legal =
    nobody issuer shard (named pan psn) refused legal.of_a_card
refused-illegal version issuer shard history (Status pan psn status) refusal refused legal =
    nobody issuer shard (named pan psn) refused legal.of_a_card

-- ---- replaying them

module _ (version : Version) (issuer : Setup) (shard : ℕ) (history entries : List Entry) where
  pub takes-nothing : (rows : ShardRows) → RowsStandFor issuer rows history → IsLegalHistory (grounds_in version issuer) shard history
      → TakesAll version issuer shard history (take 0 entries) rows
  takes-nothing rows stands legal = record {
    legal = subst (IsLegalHistory (grounds_in version issuer) shard) (sym (append-nil history)) legal;
    stands = subst (RowsStandFor issuer rows) (sym (append-nil history)) stands;
  }

  pub takes-next : (i : ℕ) (entry : Entry) (old new : ShardRows) → i < length entries → entry ≡ get_or entries i entry
      → TakesAll version issuer shard history (take i entries) old → IsLegal (grounds_in version issuer) shard (history ++ take i entries) entry
      → RowsStandFor issuer new ((history ++ take i entries) ++ entry ∷ []) → TakesAll version issuer shard history (take (i + 1) entries) new
  takes-next i entry old new within entry_is before legal stands =
      let joined : (history ++ take i entries) ++ entry ∷ [] ≡ history ++ take (i + 1) entries =
      append_assoc history (take i entries) (entry ∷ [])
      ∙ ap (λ l. history ++ l) (ap (λ (e : Entry). take i entries ++ e ∷ []) entry_is ∙ sym (take_more entries i entry within)) in
      record {
        legal =
            subst (IsLegalHistory (grounds_in version issuer) shard) joined
            (legal-more (grounds_in version issuer) shard (history ++ take i entries) entry before.legal legal);
        stands = subst (RowsStandFor issuer new) joined stands;
      }

module _ (version : Version) (issuer : Setup) (shard : ℕ) (history : List Entry) (text : List ℕ) (taken : Taken) (mid : ShardRows)
    (before : TakesLines version issuer shard history text taken mid) (entries : List Entry) (end : ℕ) (next : AreNext text taken.bytes entries end) where
  joined-text : take end text ≡ texts_of (before.entries ++ entries)
  joined-text = next.text_is ∙ ap (λ l. l ++ texts_of entries) before.text_is ∙ sym (flat_map-append text_of before.entries entries)

  -- with them the records of the text's first lines are replayed
  pub takes-all : (new : ShardRows) (more : Taken) → more.records ≡ taken.records + length entries → more.bytes ≡ end
      → TakesAll version issuer shard (history ++ before.entries) entries new → TakesLines version issuer shard history text more new
  takes-all new more records_are bytes_are takes =
      let joined : (history ++ before.entries) ++ entries ≡ history ++ (before.entries ++ entries) = append_assoc history before.entries entries in
      record {
        entries = before.entries ++ entries;
        count_is = omega (arith, records_are, before.count_is, length-append before.entries entries);
        text_is = ap (λ n. take n text) bytes_are ∙ joined-text;
        records = All-append IsRecord before.entries entries before.records next.records;
        legal = subst (IsLegalHistory (grounds_in version issuer) shard) joined takes.legal;
        stands = subst (RowsStandFor issuer new) joined takes.stands;
      }

  -- or one of them is no valid successor
  pub stops-within : (fault : LoadFault) → StopsWithin version issuer shard (history ++ before.entries) entries fault
      → StopsLines version issuer shard history text fault
  stops-within fault stops =
      let place = stops.place in
      let entry = stops.entry in
      let within : place < length entries = slice_get_within entries place entry stops.entry_is in
      let its : entry ≡ get_or entries place entry = sym (get_or_from_slice_get entries place entry entry stops.entry_is) in
      let is : IsRecord entry = subst IsRecord (sym its) (next.records place entry within) in
      let line = text_of-IsLine entry is in
      let front = before.entries ++ take place entries in
      let parts : entries ≡ take place entries ++ entry ∷ drop (place + 1) entries =
      sym (take-append-drop (place + 1) entries)
      ∙ ap (λ l. l ++ drop (place + 1) entries) (take_more entries place entry within ∙ ap (λ (e : Entry). take place entries ++ e ∷ []) (sym its))
      ∙ append_assoc (take place entries) (entry ∷ []) (drop (place + 1) entries) in
      let ahead = texts_of (drop (place + 1) entries) ++ drop end text in
      let joined : (history ++ before.entries) ++ take place entries ≡ history ++ front = append_assoc history before.entries (take place entries) in
      record {
        entries = front;
        line = line.0;
        ahead = ahead;
        text_is =
            sym (take-append-drop end text)
            ∙ ap (λ l. l ++ drop end text)
            (joined-text ∙ ap (λ (l : List Entry). texts_of (before.entries ++ l)) parts
            ∙ ap (texts_of) (sym (append_assoc before.entries (take place entries) (entry ∷ drop (place + 1) entries)))
            ∙ flat_map-append text_of front (entry ∷ drop (place + 1) entries))
            ∙ append_assoc (texts_of front) (text_of entry ++ texts_of (drop (place + 1) entries)) (drop end text)
            ∙ ap (λ l. texts_of front ++ l)
            (append_assoc (text_of entry) (texts_of (drop (place + 1) entries)) (drop end text)
            ∙ ap (λ l. l ++ ahead) line.2
            ∙ append_assoc line.0 (newline ∷ []) ahead)
            ∙ sym (append_assoc (texts_of front) line.0 (newline ∷ ahead));
        unbroken = line.1;
        records = All-append IsRecord before.entries (take place entries) before.records (All-take IsRecord place entries next.records);
        legal = subst (IsLegalHistory (grounds_in version issuer) shard) joined stops.legal;
        bad = inr (
          stops.fault_is ∙ ap (λ (l : List Entry). bad_record version (length l)) joined,
          (
            entry,
            (is, line.2),
            λ legal. stops.illegal (subst (λ (l : List Entry). IsLegal (grounds_in version issuer) shard l entry) (sym joined) legal),
          ),
        );
      }
