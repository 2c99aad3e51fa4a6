-- What a crash left of a journal is loaded again, under any decision table.
use Rattle.std.proofs.Common.{◌≡◌, ◌≢◌, ℕ, ◌+◌, ◌-◌, ◌<◌, ◌≤◌, List, [], ◌∷◌, ◌++◌, length, take, refl, sym, ap, ap₂, subst, ◌∙◌, inl, inr, ⊎_elim, arith}
use Rattle.std.proofs.Common.{zero, suc, Option, None, Some, All, append_assoc, append-nil, length-append, length-take}
use Rattle.std.proofs.lemmas.Bool.{cases_lt}
use Rattle.std.proofs.lemmas.List.{length-take-le, take_all, take_at, take-append-le, take-take}
use Rattle.std.proofs.lemmas.List.Concat.{flat_map-append}
use Rattle.std.proofs.lemmas.List.Elements.{All-nil, All-head, All-tail, All-take}
use Rattle.std.proofs.lemmas.Option.{slice_get_within}
use Rattle.std.specs.List.{slice_get}
use Rattle.issuer_base.specs.Stores.{MayLeave, Moment}
use Rattle.issuer_base.specs.declared.answer.Reply.{Reply}
use Rattle.issuer_base.specs.declared.entry.Entry.{Entry}
use Rattle.issuer_base.specs.declared.limits.TheConstants.{OLD_WINDOW, WINDOW}
use Rattle.issuer_base.specs.declared.entry.Entry.TheVariants.{Decided, Queued, Status}
use Rattle.issuer_base.specs.declared.request.Request.{Request}
use Rattle.card_history.specs.LegalRecords.{Grounds, IsLegal, IsLegalHistory}
use Rattle.issuer_base.specs.CardNames.{CardName}
use Rattle.card_history.specs.Records.{card_of}
use Rattle.decision_table.specs.declared.row.TableRow.{TableRow}
use Rattle.issuer_setup.specs.IssuerSetup.{Setup}
use Rattle.journal_rec.specs.Record.{IsRecord}
use Rattle.journal_rec.specs.RecordText.{newline, text_of, texts_of, journal_text, version_line, IsUnbroken}
use Rattle.line_checks.specs.RequestFacts.{HasItsKeys}
use Rattle.shard_book.specs.declared.replay.Version.TheVariants.{One, Two}
use Rattle.shard_book.specs.Grounds.{IsCardOfShard, IsMadeBy, IsImageOf, IsTail, grounds_by, grounds_now, grounds_of}
use Rattle.shard_book.specs.Histories.{GoesOn, IsImageBetween, IsLegalSince}
use Rattle.shard_book.specs.Loading.{IsOldText}
use Rattle.one_caller.specs.Restarts.{IsHeld, LoadsBetween, LoadsPrefix, with_table}
use Rattle.shard_book.specs.Shards.{IsCutToText, IsFailedImage, IsLoadImage, IsMigrated, IsTakenFor, IsTextOf}
use Rattle.shard_book.specs.Versions.{HasText, IsPartOf}
use Rattle.shard_book.proofs.Exactly.{longer, part-whole, same-text, unbroken-front}
use Rattle.shard_book.proofs.Histories.{goes-none, goes-then}
use Rattle.shard_book.proofs.OwnDecisions.{legal-then}

-- ---- a prefix of a legal history

read-front : (first more : List Entry) (place : ℕ) (entry : Entry) → slice_get first place ≡ Some entry → slice_get (first ++ more) place ≡ Some entry
read-front [] more place entry is = absurd (cc)
read-front (other ∷ first) more zero entry is = is
read-front (other ∷ first) more (suc place) entry is = read-front first more place entry is

records-prefix : (prefix history : List Entry) → GoesOn prefix history → All IsRecord history → All IsRecord prefix
records-prefix prefix history on all =
    subst (All IsRecord) (ap (take (length prefix)) on.1 ∙ take-append-le (length prefix) prefix on.0 (omega arith) ∙ take_all (length prefix) prefix (omega arith))
    (All-take IsRecord (length prefix) history all)

legal-prefix : (grounds : Grounds) (shard : ℕ) (prefix history : List Entry) → GoesOn prefix history → IsLegalHistory grounds shard history
    → IsLegalHistory grounds shard prefix
legal-prefix grounds shard prefix history on legal place entry at =
    let within = slice_get_within prefix place entry at in
    let whole : slice_get history place ≡ Some entry =
    subst (λ (history : List Entry). slice_get history place ≡ Some entry) (sym on.1) (read-front prefix on.0 place entry at) in
    let before : take place history ≡ take place prefix = ap (take place) on.1 ∙ take-append-le place prefix on.0 (omega arith) in
    subst (λ (before : List Entry). IsLegal grounds shard before entry) before (legal place entry whole)

-- ---- another decision table

module _ (issuer : Setup) (table : List TableRow) where
  same-card : (shard : ℕ) (name : CardName) → IsCardOfShard issuer shard name → IsCardOfShard (with_table issuer table) shard name
  same-card shard name its = record { number = its.number; number_is = its.number_is; home = its.home }

  abbrev same-keys : (request : Request) → HasItsKeys issuer request → HasItsKeys (with_table issuer table) request
  same-keys request its = record { number = its.number; keys = its.keys; number_is = its.number_is; keys_are = its.keys_are }

  same-made : (before : List Entry) (request : Request) (reply : Reply) → IsMadeBy issuer before request reply
      → IsMadeBy (with_table issuer table) before request reply
  same-made before request reply its = record {
    number = its.number;
    card = its.card;
    keys = its.keys;
    number_is = its.number_is;
    card_is = its.card_is;
    keys_are = its.keys_are;
    made = its.made;
  }

  -- a record is legal under each table
  same-legal : (window shard : ℕ) (before : List Entry) (entry : Entry) → IsLegal (grounds_by issuer window (IsMadeBy issuer)) shard before entry
      → IsLegal (grounds_by (with_table issuer table) window (IsMadeBy (with_table issuer table))) shard before entry
  same-legal window shard before (Decided request reply) legal = record {
    of_a_card = same-card shard (card_of request) legal.of_a_card;
    is_for_a_cryptogram_request = legal.is_for_a_cryptogram_request;
    has_its_keys = same-keys request legal.has_its_keys;
    has_valid_ac = record { its = same-keys request legal.has_valid_ac.its; ac_is = legal.has_valid_ac.ac_is };
    unrecorded = legal.unrecorded;
    in_window = legal.in_window;
    is_the_issuers_reply = same-made before request reply legal.is_the_issuers_reply;
  }
  same-legal window shard before (Queued pan psn command) legal =
      record { of_a_card = same-card shard _ legal.of_a_card; form = legal.form; room = legal.room }
  same-legal window shard before (Status pan psn status) legal =
      record { of_a_card = same-card shard _ legal.of_a_card; within = legal.within }

  same-history : (window shard : ℕ) (history : List Entry) → IsLegalHistory (grounds_by issuer window (IsMadeBy issuer)) shard history
      → IsLegalHistory (grounds_by (with_table issuer table) window (IsMadeBy (with_table issuer table))) shard history
  same-history window shard history legal place entry at = same-legal window shard (take place history) entry (legal place entry at)

  -- a history that is legal since the old one is so under each table, and so are its prefixes that extend the old one
  same-since : (shard : ℕ) (old prefix history : List Entry) → GoesOn old prefix → GoesOn prefix history → IsLegalSince issuer shard old history
      → IsLegalSince (with_table issuer table) shard old prefix
  same-since shard old prefix history on more since = record {
    goes_on = on;
    old_legal = same-history OLD_WINDOW shard old since.old_legal;
    legal = same-history WINDOW shard prefix (legal-prefix (grounds_of issuer) shard prefix history more since.legal);
  }

  -- and so is one of this run
  own-tail : (shard : ℕ) (history : List Entry) (tail : List ℕ) → IsTail (grounds_now issuer) shard history tail
      → IsTail (grounds_of (with_table issuer table)) shard history tail
  own-tail shard history tail = ⊎_elim (λ (none : tail ≡ []). inl none)
      (λ (one : (entry : Entry) × IsRecord entry × IsLegal (grounds_now issuer) shard history entry × (tail ≡ text_of entry)).
      inr (one.0, one.1, same-legal WINDOW shard history one.0 (legal-then issuer shard history one.0 one.1 one.2), one.3))

  own-image : (shard : ℕ) (history : List Entry) (image : List ℕ) → IsImageOf (grounds_now issuer) shard history image
      → IsImageOf (grounds_of (with_table issuer table)) shard history image
  own-image shard history image its = (its.0, own-tail shard history its.0 its.1, its.2)

-- what a crash may leave of a shard that answers is what a load takes
pub loads-between : (issuer : Setup) (shard : ℕ) (old first last : List Entry) (image : List ℕ) → IsHeld issuer shard old last → GoesOn old first
    → IsImageBetween issuer shard first last image → LoadsBetween issuer shard old first last image
loads-between issuer shard old first last image held on left = record {
  between = left.between;
  from_first = left.from_first;
  to_last = left.to_last;
  left = λ table. record {
    image = image;
    told = refl;
    left = own-image issuer table shard left.between image left.image_is;
    records = records-prefix left.between last left.to_last held.records;
    since =
        same-since issuer table shard old left.between last (goes-then old first left.between on left.from_first) left.to_last held.since;
  };
}

-- ---- a prefix of the bytes

-- the bytes are the text of a prefix of the history and a torn last line; the prefix has each record whose text they have
record IsTextOfPrefix (history : List Entry) (bytes : List ℕ) : Type 0 where
  prefix : List Entry
  to_history : GoesOn prefix history
  rest : List ℕ
  text_is : bytes ≡ texts_of prefix ++ rest
  unbroken : IsUnbroken rest
  whole : (records : List Entry) → GoesOn records history → length (texts_of records) ≤ length bytes → GoesOn records prefix

-- no record
torn-at_first : (history : List Entry) (bytes : List ℕ) → IsUnbroken bytes
    → ((records : List Entry) → GoesOn records history → length (texts_of records) ≤ length bytes → records ≡ []) → IsTextOfPrefix history bytes
torn-at_first history bytes unbroken none = record {
  prefix = [];
  to_history = (history, refl);
  rest = bytes;
  text_is = refl;
  unbroken = unbroken;
  whole = λ records on short. ([], sym (append-nil records ∙ none records on short));
}

-- the text of a record and then such bytes
one-more : (entry : Entry) (history : List Entry) (bytes : List ℕ) → IsTextOfPrefix history bytes → IsTextOfPrefix (entry ∷ history) (text_of entry ++ bytes)
one-more entry history bytes its = record {
  prefix = entry ∷ its.prefix;
  to_history = (its.to_history.0, ap (λ (l : List Entry). entry ∷ l) its.to_history.1);
  rest = its.rest;
  text_is = ap (λ l. text_of entry ++ l) its.text_is ∙ sym (append_assoc (text_of entry) (texts_of its.prefix) its.rest);
  unbroken = its.unbroken;
  whole = more;
}
  where
    more : (records : List Entry) → GoesOn records (entry ∷ history) → length (texts_of records) ≤ length (text_of entry ++ bytes)
        → GoesOn records (entry ∷ its.prefix)
    more [] on short = (entry ∷ its.prefix, refl)
    more (other ∷ records) on short =
        let same : entry ≡ other = let is : entry ∷ history ≡ other ∷ (records ++ on.0) = on.1 in cc in
        let tails : history ≡ records ++ on.0 = let is : entry ∷ history ≡ other ∷ (records ++ on.0) = on.1 in cc in
        let lengths = ap (λ (e : Entry). length (text_of e)) same in
        let long = length-append (text_of other) (texts_of records) in
        let has = length-append (text_of entry) bytes in
        let rest = its.whole records (on.0, tails) (omega (arith, short, lengths, long, has)) in
        (rest.0, ap₂ (λ (e : Entry) (es : List Entry). e ∷ es) same rest.1)

take-behind : (xs ys : List ℕ) (count more : ℕ) → count ≡ length xs + more → take count (xs ++ ys) ≡ xs ++ take more ys
take-behind [] ys count more is = ap (λ n. take n ys) (let same : count ≡ more = omega (arith, is) in same)
take-behind (x ∷ xs) ys zero more is = absurd (omega (arith, is))
take-behind (x ∷ xs) ys (suc count) more is = ap (λ l. x ∷ l) (take-behind xs ys count more (omega (arith, is)))

-- a part of the first record's text
torn-first : (entry : Entry) (history : List Entry) (behind : List ℕ) (count : ℕ) → IsRecord entry → count < length (text_of entry)
    → IsTextOfPrefix (entry ∷ history) (take count (text_of entry ++ behind))
torn-first entry history behind count valid below =
    subst (IsTextOfPrefix (entry ∷ history)) (sym (take-append-le count (text_of entry) behind (omega (arith, below))))
    (torn-at_first (entry ∷ history) (take count (text_of entry)) (unbroken-front entry (text_of entry) count valid refl below) none)
  where
    none : (records : List Entry) → GoesOn records (entry ∷ history) → length (texts_of records) ≤ length (take count (text_of entry)) → records ≡ []
    none [] on short = refl
    none (other ∷ records) on short =
        let same : entry ≡ other = let is : entry ∷ history ≡ other ∷ (records ++ on.0) = on.1 in cc in
        let lengths = ap (λ (e : Entry). length (text_of e)) same in
        let long = length-append (text_of other) (texts_of records) in
        let cut = length-take-le count (text_of entry) (omega (arith, below)) in
        absurd (omega (arith, short, lengths, long, cut, below))

-- so many of the first bytes of a text
cut-text : (history : List Entry) (rest : List ℕ) (count : ℕ) → All IsRecord history → IsUnbroken rest
    → IsTextOfPrefix history (take count (texts_of history ++ rest))
cut-text [] rest count records unbroken =
    torn-at_first [] (take count rest) (All-take (λ byte. byte ≢ newline) count rest unbroken) nothing
  where
    nothing : (records : List Entry) → GoesOn records [] → length (texts_of records) ≤ length (take count rest) → records ≡ []
    nothing [] on short = refl
    nothing (other ∷ records) on short = absurd (let no : [] ≡ other ∷ (records ++ on.0) = on.1 in cc)
cut-text (entry ∷ history) rest count records unbroken =
    let valid = All-head IsRecord entry history records in
    let whole : texts_of (entry ∷ history) ++ rest ≡ text_of entry ++ (texts_of history ++ rest) = append_assoc (text_of entry) (texts_of history) rest in
    subst (λ (text : List ℕ). IsTextOfPrefix (entry ∷ history) (take count text)) (sym whole)
    (elim (cases_lt count (length (text_of entry))) [
      | inl below ↦ torn-first entry history (texts_of history ++ rest) count valid below
      | inr above ↦
          let more : ℕ = count - length (text_of entry) in
          let its : count ≡ length (text_of entry) + more = omega (arith, above) in
          subst (IsTextOfPrefix (entry ∷ history)) (sym (take-behind (text_of entry) (texts_of history ++ rest) count more its))
          (one-more entry history (take more (texts_of history ++ rest)) (cut-text history rest more (All-tail IsRecord entry history records) unbroken))
    ])

-- of two prefixes of a history the one with the shorter text is a prefix of the other
shorter-prefix : (records old history : List Entry) → All IsRecord records → GoesOn records history → GoesOn old history
    → length (texts_of records) ≤ length (texts_of old) → GoesOn records old
shorter-prefix [] old history all on other short = (old, refl)
shorter-prefix (entry ∷ records) [] history all on other short =
    let least = longer entry (All-head IsRecord entry records all) in
    let whole = length-append (text_of entry) (texts_of records) in
    absurd (omega (arith, short, least, whole))
shorter-prefix (entry ∷ records) (first ∷ old) history all on other short =
    let both : entry ∷ (records ++ on.0) ≡ first ∷ (old ++ other.0) = sym on.1 ∙ other.1 in
    let same : entry ≡ first = cc in
    let lengths = ap (λ (e : Entry). length (text_of e)) same in
    let whole = length-append (text_of entry) (texts_of records) in
    let others = length-append (text_of first) (texts_of old) in
    let rest = shorter-prefix records old (records ++ on.0) (All-tail IsRecord entry records all) (on.0, refl)
    (other.0, (let tails : records ++ on.0 ≡ old ++ other.0 = cc in tails)) (omega (arith, short, lengths, whole, others)) in
    (rest.0, ap₂ (λ (e : Entry) (es : List Entry). e ∷ es) (sym same) rest.1)

-- a prefix of a text that begins with another is a prefix of this one as far as it goes
part-take : (text rest : List ℕ) (count : ℕ) → count ≤ length text → IsPartOf text (take count (text ++ rest))
part-take text rest count within = record { kept = count; part_is = take-append-le count text rest within }

part-part : (text bytes image : List ℕ) (count : ℕ) → IsPartOf text bytes → image ≡ take count bytes → IsPartOf text image
part-part text bytes image count part is =
    elim (cases_lt count part.kept) [
      | inl below ↦ record { kept = count; part_is = is ∙ ap (take count) part.part_is ∙ take-take count part.kept text (omega arith) }
      | inr above ↦ record {
        kept = part.kept;
        part_is = is ∙ take_all count bytes (omega (arith, ap length part.part_is, length-take part.kept text)) ∙ part.part_is;
      }
    ]

-- ---- what is left of a journal that is loaded

module _ (issuer : Setup) (shard : ℕ) (old history : List Entry) (moment : Moment) (image : List ℕ)
    (text : IsTextOf issuer shard old (Some moment.bytes) history) where
  old-records : All IsRecord old
  old-records = records-prefix old history text.since.goes_on text.records

  prefix-text : (table : List TableRow) (prefix : List Entry) → GoesOn old prefix → GoesOn prefix history → IsTakenFor old prefix image
      → IsTextOf (with_table issuer table) shard old (Some image) prefix
  prefix-text table prefix on more taken = record {
    text_is = taken;
    records = records-prefix prefix history more text.records;
    since = same-since issuer table shard old prefix history on more text.since;
  }

  -- a prefix of the old history's text
  old-loads : ((records : List Entry) → GoesOn records history → length (journal_text records) ≤ moment.safe → GoesOn records old)
      → IsPartOf (journal_text old) image → LoadsPrefix issuer shard old history moment.safe image
  old-loads durable part = record {
    prefix = old;
    to_history = text.since.goes_on;
    text = λ table. prefix-text table old (goes-none old) text.since.goes_on (inl (refl, part));
    has_durable = durable;
  }

  -- where the history is the old one
  moved-loads : history ≡ old → IsPartOf (journal_text old) image → LoadsPrefix issuer shard old history moment.safe image
  moved-loads same part = old-loads (λ records on short. subst (GoesOn records) same on) part

  -- the text of the records alone
  text-loads : image ≡ journal_text history → LoadsPrefix issuer shard old history moment.safe image
  text-loads is = record {
    prefix = history;
    to_history = goes-none history;
    text = λ table. prefix-text table history text.since.goes_on (goes-none history) (inr (record {
      rest = [];
      text_is = is ∙ sym (append-nil (journal_text history));
      unbroken = All-nil (λ byte. byte ≢ newline);
    }));
    has_durable = λ records on short. on;
  }

  -- a prefix of the bytes, at least as long as the text of the old history
  behind-loads : (whole : HasText Two history moment.bytes) → MayLeave moment image → length (journal_text old) ≤ length image
      → LoadsPrefix issuer shard old history moment.safe image
  behind-loads whole left above =
      let count : ℕ = length image - 3 in
      let its = cut-text history whole.rest count text.records whole.unbroken in
      let split : length image ≡ length version_line + count = omega (arith, above) in
      let is : image ≡ version_line ++ take count (texts_of history ++ whole.rest) =
      left.is_front ∙ ap (take (length image)) whole.text_is ∙ take-behind version_line (texts_of history ++ whole.rest) (length image) count split in
      let long = ap length is in
      let on = its.whole old text.since.goes_on (omega (arith, above, long)) in
      let safe = left.has_safe in
      record {
        prefix = its.prefix;
        to_history = its.to_history;
        text = λ table. prefix-text table its.prefix on its.to_history (inr (record {
          rest = its.rest;
          text_is = is ∙ ap (λ l. version_line ++ l) its.text_is;
          unbroken = its.unbroken;
        }));
        has_durable = λ records goes short. its.whole records goes (omega (arith, short, safe, long));
      }

  -- a prefix of the bytes
  front-loads : MayLeave moment image → LoadsPrefix issuer shard old history moment.safe image
  front-loads left = ⊎_elim
      (λ (part : (history ≡ old) × IsPartOf (journal_text old) moment.bytes).
      moved-loads part.0 (part-part (journal_text old) moment.bytes image (length image) part.1 left.is_front))
      (λ (whole : HasText Two history moment.bytes). elim (cases_lt (length image) (length (journal_text old))) [
        | inl below ↦
            let safe = left.has_safe in
            let begins : moment.bytes ≡ journal_text old ++ (texts_of text.since.goes_on.0 ++ whole.rest) =
            whole.text_is ∙ ap (λ (h : List Entry). journal_text h ++ whole.rest) text.since.goes_on.1
            ∙ ap (λ l. (version_line ++ l) ++ whole.rest) (flat_map-append text_of old text.since.goes_on.0)
            ∙ append_assoc (journal_text old) (texts_of text.since.goes_on.0) whole.rest in
            old-loads (λ records on short.
            shorter-prefix records old history (records-prefix records history on text.records) on text.since.goes_on (omega (arith, short, safe, below)))
            (subst (IsPartOf (journal_text old)) (sym (left.is_front ∙ ap (take (length image)) begins))
            (part-take (journal_text old) (texts_of text.since.goes_on.0 ++ whole.rest) (length image) (omega (arith, below))))
        | inr above ↦ behind-loads whole left above
      ])
      text.text_is

  -- a migration went on
  part-loads : IsPartOf (journal_text old) moment.bytes → IsPartOf (journal_text old) image → LoadsPrefix issuer shard old history moment.safe image
  part-loads was part = ⊎_elim
      (λ (same : (history ≡ old) × IsPartOf (journal_text old) moment.bytes). moved-loads same.0 part)
      (λ (whole : HasText Two history moment.bytes).
      moved-loads (part-whole old history moment.bytes text.since.goes_on text.records was whole) part)
      text.text_is

  -- what is left while it is loaded
  pub loads-opened : IsLoadImage old history moment image → LoadsPrefix issuer shard old history moment.safe image
  loads-opened = ⊎_elim front-loads (⊎_elim (λ both. part-loads both.0 both.1) text-loads)

  -- the bytes were truncated to the text of their records
  cut-loads : IsCutToText moment.bytes image → LoadsPrefix issuer shard old history moment.safe image
  cut-loads cut = ⊎_elim
      (λ (part : (history ≡ old) × IsPartOf (journal_text old) moment.bytes).
      moved-loads part.0 (part-part (journal_text old) moment.bytes image (length (journal_text cut.history)) part.1
      (cut.cut ∙ sym (ap (take (length (journal_text cut.history))) cut.text_is.text_is
      ∙ take_at (journal_text cut.history) cut.text_is.rest (length (journal_text cut.history)) refl))))
      (λ (whole : HasText Two history moment.bytes).
      let same = same-text Two cut.history history moment.bytes cut.records text.records cut.text_is whole in
      text-loads (cut.cut ∙ ap journal_text same))
      text.text_is

  -- and where its load fails
  migrated-loads : (old_bytes : Option (List ℕ)) → IsOldText issuer shard old_bytes old → IsMigrated old_bytes moment.bytes image
      → LoadsPrefix issuer shard old history moment.safe image
  migrated-loads None known migrated = absurd known.text_is
  migrated-loads (Some old_text) known migrated =
      let same = same-text One migrated.old old old_text migrated.records known.records migrated.old_text_is known.text_is in
      part-loads (subst (λ (old : List Entry). IsPartOf (journal_text old) moment.bytes) same migrated.was)
      (subst (λ (old : List Entry). IsPartOf (journal_text old) image) same migrated.now)

  pub loads-failed : (old_bytes : Option (List ℕ)) → IsOldText issuer shard old_bytes old → IsFailedImage old_bytes moment image
      → LoadsPrefix issuer shard old history moment.safe image
  loads-failed old_bytes known = ⊎_elim front-loads (⊎_elim (migrated-loads old_bytes known) cut-loads)
