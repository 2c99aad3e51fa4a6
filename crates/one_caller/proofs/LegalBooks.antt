-- Histories that are extended legally, record by record, and what holds of legal histories.
use Rattle.std.proofs.Common.{◌≡◌, ◌≤◌, ◌<◌, ℕ, ◌%◌, zero, suc, List, [], ◌∷◌, ◌++◌, length, take, drop, All, Some}
use Rattle.std.proofs.Common.{refl, sym, ap, subst, ◌∙◌, inl, inr, arith, append-nil, length-take}
use Rattle.std.proofs.lemmas.Bool.{cases_lt}
use Rattle.std.proofs.lemmas.List.{length_push, take-append-le, take-append-drop, take_all}
use Rattle.std.proofs.lemmas.List.Elements.{All-contains}
use Rattle.std.proofs.lemmas.Option.{same_Some, none-some, slice_get_within}
use Rattle.std.specs.List.{slice_get}
use Rattle.issuer_base.specs.declared.request.Request.{Request}
use Rattle.issuer_base.specs.declared.answer.Reply.{Reply}
use Rattle.issuer_base.specs.declared.answer.Answer.{Answer}
use Rattle.issuer_base.specs.declared.answer.Answer.TheVariants.{Fresh, Kept, Queued, Set, Refused}
use Rattle.issuer_base.specs.declared.entry.Entry.{Entry}
use Rattle.issuer_base.specs.declared.entry.Entry.TheVariants.{Decided}
use Rattle.card_history.specs.declared.decision.Decision.{Decision}
use Rattle.card_history.specs.LegalRecords.{IsLegal, IsLegalHistory}
use Rattle.card_history.specs.OneReply.{record_at, reply_in, IsOfItsRecord, IsOncePerCounter}
use Rattle.issuer_base.specs.CardNames.{CardName}
use Rattle.card_history.specs.Records.{card_of}
use Rattle.card_history.proofs.CardNames.{is_of-same}
use Rattle.card_history.proofs.LongerHistories.{slice_get-push}
use Rattle.card_history.proofs.RecordPlaces.{recorded-decided}
use Rattle.issuer_setup.specs.IssuerSetup.{Setup}
use Rattle.journal_rec.specs.Record.{IsRecord}
use Rattle.shard_book.specs.Grounds.{IsCardOfShard, grounds_of, grounds_now}
use Rattle.shard_book.proofs.Lines.{legal-more}
use Rattle.shard_book.specs.Histories.{GoesOn}
use Rattle.shard_book.proofs.Histories.{goes-none, goes-then}
use Rattle.host_loading.specs.Books.{ShardBook, histories_of}
use Rattle.one_caller.specs.OneHistory.{LegallyGoesOn, AreLegalBooks, LoadsAgain}
use Rattle.host_loading.proofs.Places.{all-at, read-front, read-alone, read-within}
use Rattle.one_caller.proofs.TurnSteps.{AddsAtMostOne}

-- ---- going on

-- one record more, or none
pub adds-goes_on : (issuer : Setup) (shard : ℕ) (before after : List Entry) → AddsAtMostOne issuer shard before after → GoesOn before after
adds-goes_on issuer shard before after (inl same) = ([], same ∙ sym (append-nil before))
adds-goes_on issuer shard before after (inr (entry, after_is, legal)) = (entry ∷ [], after_is)

-- each record keeps its index, and the records before it are the same
pub goes-stays : (first last : List Entry) → GoesOn first last → (place : ℕ) (entry : Entry) → slice_get first place ≡ Some entry
    → slice_get last place ≡ Some entry
goes-stays first last on place entry is =
    subst (λ (last : List Entry). slice_get last place ≡ Some entry) (sym on.1) (read-front first on.0 place entry is)

goes-before : (first last : List Entry) → GoesOn first last → (place : ℕ) → place ≤ length first → take place last ≡ take place first
goes-before first last on place within = ap (take place) on.1 ∙ take-append-le place first on.0 within

goes-alone : (first last : List Entry) → GoesOn first last → (place : ℕ) (entry : Entry) → place < length first → slice_get last place ≡ Some entry
    → slice_get first place ≡ Some entry
goes-alone first last on place entry within is =
    read-alone first on.0 place entry within (subst (λ (last : List Entry). slice_get last place ≡ Some entry) on.1 is)

module _ (issuer : Setup) (shard : ℕ) where
  pub legally-none : (history : List Entry) → IsLegalHistory (grounds_of issuer) shard history → LegallyGoesOn issuer shard history history
  legally-none history legal = record {
    goes_on = goes-none history;
    legal = legal;
    by_table = λ place entry past is. let within = slice_get_within history place entry is in absurd (omega arith);
  }

  pub legally-one : (before after : List Entry) → LoadsAgain issuer → All IsRecord after → IsLegalHistory (grounds_of issuer) shard before
      → AddsAtMostOne issuer shard before after → LegallyGoesOn issuer shard before after
  legally-one before after again recorded legal (inl same) =
      subst (λ (after : List Entry). LegallyGoesOn issuer shard before after) (sym same) (legally-none before legal)
  legally-one before after again recorded legal (inr (entry, after_is, next)) =
      let last : slice_get after (length before) ≡ Some entry =
      ap (λ (after : List Entry). slice_get after (length before)) after_is ∙ slice_get-push before entry in
      let record_is = all-at IsRecord after recorded (length before) entry last in
      subst (λ (after : List Entry). LegallyGoesOn issuer shard before after) (sym after_is) (record {
        goes_on = (entry ∷ [], refl);
        legal = legal-more (grounds_of issuer) shard before entry legal (again shard before entry record_is next);
        by_table = λ place other past is.
            let within = slice_get_within (before ++ entry ∷ []) place other is in
            let long = length_push before entry in
            let at : place ≡ length before = omega arith in
            let whole : take place (before ++ entry ∷ []) ≡ before =
            ap (λ n. take n (before ++ entry ∷ [])) at ∙ take-append-le (length before) before (entry ∷ []) (omega arith)
            ∙ take_all (length before) before (omega arith) in
            let its : entry ≡ other =
            same_Some entry other (sym (slice_get-push before entry)
            ∙ subst (λ n. slice_get (before ++ entry ∷ []) n ≡ Some other) at is) in
            subst (λ (other : Entry). IsLegal (grounds_now issuer) shard (take place (before ++ entry ∷ [])) other) its
            (subst (λ (records : List Entry). IsLegal (grounds_now issuer) shard records entry) (sym whole) next);
      })

  pub legally-then : (first second third : List Entry) → LegallyGoesOn issuer shard first second → LegallyGoesOn issuer shard second third
      → LegallyGoesOn issuer shard first third
  legally-then first second third on more = record {
    goes_on = goes-then first second third on.goes_on more.goes_on;
    legal = more.legal;
    by_table = λ place entry past is.
        elim (cases_lt place (length second)) [
          | inl within ↦
              subst (λ (records : List Entry). IsLegal (grounds_now issuer) shard records entry)
              (sym (goes-before second third more.goes_on place (omega arith)))
              (on.by_table place entry past (goes-alone second third more.goes_on place entry within is))
          | inr behind ↦ more.by_table place entry behind is
        ];
  }

-- ---- what holds of legal histories

-- the record with an index of a shard is one of its book's
pub record-in_book : (books : List ShardBook) (shard place : ℕ) (entry : Entry) → record_at (histories_of books) shard place ≡ Some entry
    → (book : ShardBook) × (slice_get books shard ≡ Some book) × (slice_get book.history place ≡ Some entry)
record-in_book [] shard place entry is = absurd (cc)
record-in_book (book ∷ books) zero place entry is = (book, refl, is)
record-in_book (book ∷ books) (suc shard) place entry is = record-in_book books shard place entry is

pub record-of_book : (books : List ShardBook) (shard place : ℕ) (entry : Entry) (book : ShardBook) → slice_get books shard ≡ Some book
    → slice_get book.history place ≡ Some entry → record_at (histories_of books) shard place ≡ Some entry
record-of_book [] shard place entry book there is = absurd (cc)
record-of_book (other ∷ books) zero place entry book there is =
    let same : other ≡ book = let e : Some other ≡ Some book = there in cc in
    ap (λ (book : ShardBook). slice_get book.history place) same ∙ is
record-of_book (other ∷ books) (suc shard) place entry book there is = record-of_book books shard place entry book there is

-- an earlier record is one of those before a later one
earlier-taken : (history : List Entry) (place later : ℕ) (entry : Entry) → place < later → slice_get history place ≡ Some entry
    → slice_get (take later history) place ≡ Some entry
earlier-taken history place later entry below is =
    let within = slice_get_within history place entry is in
    let long = length-take later history in
    let taken : place < length (take later history) = omega arith in
    read-alone (take later history) (drop later history) place entry taken
    (subst (λ (history : List Entry). slice_get history place ≡ Some entry) (sym (take-append-drop later history)) is)

module _ (issuer : Setup) (shard : ℕ) (history : List Entry) (legal : IsLegalHistory (grounds_of issuer) shard history) where
  -- a later decision isn't on the ATC of an earlier one of its card
  later-apart : (place later : ℕ) (request other : Request) (reply other_reply : Reply) → place < later
      → slice_get history place ≡ Some (Decided request reply) → slice_get history later ≡ Some (Decided other other_reply)
      → card_of request ≡ card_of other → request.atc ≡ other.atc → ⊥
  later-apart place later request other reply other_reply below is other_is card counter =
      let next = legal later (Decided other other_reply) other_is in
      let taken = earlier-taken history place later (Decided request reply) below is in
      let here = recorded-decided (card_of other) (take later history) place request reply taken (is_of-same other request (sym card)) in
      All-contains (λ (decision : Decision). decision.request.atc ≡ other.atc → ⊥) _ _ next.unrecorded here counter

  pub once-in : (place other_place : ℕ) (request other : Request) (reply other_reply : Reply)
      → slice_get history place ≡ Some (Decided request reply) → slice_get history other_place ≡ Some (Decided other other_reply)
      → card_of request ≡ card_of other → request.atc ≡ other.atc → place ≡ other_place
  once-in place other_place request other reply other_reply is other_is card counter =
      elim (cases_lt place other_place) [
        | inl below ↦ absurd (later-apart place other_place request other reply other_reply below is other_is card counter)
        | inr above ↦
            elim (cases_lt other_place place) [
              | inl below ↦ absurd (later-apart other_place place other request other_reply reply below other_is is (sym card) (sym counter))
              | inr same ↦ omega arith
            ]
      ]

-- a card is one of one shard's
one-home : (issuer : Setup) (shard other : ℕ) (name : CardName) → IsCardOfShard issuer shard name → IsCardOfShard issuer other name → shard ≡ other
one-home issuer shard other name home other_home =
    let same : home.number ≡ other_home.number = same_Some home.number other_home.number (sym home.number_is ∙ other_home.number_is) in
    sym home.home ∙ ap (λ number. number % issuer.shards) same ∙ other_home.home

-- in legal histories each ATC of a card is decided once
pub legal-once : (issuer : Setup) (books : List ShardBook) → AreLegalBooks issuer books → IsOncePerCounter (histories_of books)
legal-once issuer books legal shard other_shard place other_place request other reply other_reply is other_is card counter =
    let one = record-in_book books shard place (Decided request reply) is in
    let two = record-in_book books other_shard other_place (Decided other other_reply) other_is in
    let first = legal shard one.0 one.1 place (Decided request reply) one.2 in
    let second = legal other_shard two.0 two.1 other_place (Decided other other_reply) two.2 in
    let same : shard ≡ other_shard =
    one-home issuer shard other_shard (card_of other) (subst (IsCardOfShard issuer shard) card first.of_a_card) second.of_a_card in
    let book : one.0 ≡ two.0 = same_Some one.0 two.0 (sym one.1 ∙ ap (slice_get books) same ∙ two.1) in
    let there = subst (λ (book : ShardBook). slice_get book.history place ≡ Some (Decided request reply)) book one.2 in
    (same, once-in issuer other_shard two.0.history (legal other_shard two.0 two.1) place other_place request other reply other_reply there two.2 card counter)

-- ---- replies and their records

module _ (before after : List ShardBook) (long : length after ≡ length before)
    (on : (shard : ℕ) (was is : ShardBook) → slice_get before shard ≡ Some was → slice_get after shard ≡ Some is → GoesOn was.history is.history) where
  record-stays : (shard place : ℕ) (entry : Entry) → record_at (histories_of before) shard place ≡ Some entry
      → record_at (histories_of after) shard place ≡ Some entry
  record-stays shard place entry is =
      let was = record-in_book before shard place entry is in
      let below = slice_get_within before shard was.0 was.1 in
      let now = read-within after shard (omega arith) in
      record-of_book after shard place entry now.0 now.1 (goes-stays was.0.history now.0.history (on shard was.0 now.0 was.1 now.1) place entry was.2)

  -- an answer stays that of its record if the histories are extended
  pub recorded-stays : (request : Request) (answer : Answer) → IsOfItsRecord (histories_of before) request answer
      → IsOfItsRecord (histories_of after) request answer
  recorded-stays request (Fresh shard place reply) recorded = record-stays shard place (Decided request reply) recorded
  recorded-stays request (Kept shard place reply) recorded = record-stays shard place (Decided request reply) recorded
  recorded-stays request (Queued shard place) recorded = tt
  recorded-stays request (Set shard place) recorded = tt
  recorded-stays request (Refused refusal) recorded = tt

-- a reply that is that of its record is in a decided record of the request
reply-recorded : (histories : List (List Entry)) (request : Request) (answer : Answer) (reply : Reply) → IsOfItsRecord histories request answer
    → reply_in answer ≡ Some reply → (shard : ℕ) × (place : ℕ) × (record_at histories shard place ≡ Some (Decided request reply))
reply-recorded histories request (Fresh shard place given) reply recorded is =
    (shard, place, recorded ∙ ap (λ reply. Some (Decided request reply)) (same_Some given reply is))
reply-recorded histories request (Kept shard place given) reply recorded is =
    (shard, place, recorded ∙ ap (λ reply. Some (Decided request reply)) (same_Some given reply is))
reply-recorded histories request (Queued shard place) reply recorded is = absurd (none-some reply is)
reply-recorded histories request (Set shard place) reply recorded is = absurd (none-some reply is)
reply-recorded histories request (Refused refusal) reply recorded is = absurd (none-some reply is)

-- so two replies to one request are those of one record
pub one-reply : (histories : List (List Entry)) (request : Request) (answer other : Answer) (reply other_reply : Reply) → IsOncePerCounter histories
    → IsOfItsRecord histories request answer → IsOfItsRecord histories request other → reply_in answer ≡ Some reply → reply_in other ≡ Some other_reply
    → reply ≡ other_reply
one-reply histories request answer other reply other_reply once recorded other_recorded reply_is other_is =
    let first = reply-recorded histories request answer reply recorded reply_is in
    let second = reply-recorded histories request other other_reply other_recorded other_is in
    let same = once first.0 second.0 first.1 second.1 request request reply other_reply first.2 second.2 refl refl in
    let shard : record_at histories first.0 first.1 ≡ record_at histories second.0 first.1 = ap (λ (shard : ℕ). record_at histories shard first.1) same.0 in
    let both : Some (Decided request reply) ≡ Some (Decided request other_reply) =
    sym first.2 ∙ shard ∙ ap (record_at histories second.0) same.1 ∙ second.2 in
    cc
