-- The rows of a shard after one more record: only the row of the record's card changes.
use Rattle.std.proofs.Common.{◌≡◌, ◌≢◌, ℕ, Bool, ◌||◌, ◌/◌, List, [], ◌∷◌, ◌++◌, length, get_or, set, ap, sym, ◌∙◌, subst, inl, inr, Some, Result, Ok, Err}
use Rattle.std.proofs.Common.{IfOk, IsOk, arith, length-set}
use Rattle.std.proofs.lemmas.Bool.{cases_eq, cases_lt, false≢true}
use Rattle.std.proofs.lemmas.List.{get_or-set_same, get_or-set_other}
use Rattle.std.proofs.lemmas.Option.{same_Some, slice_get_within, slice_get-get_or, get_or_from_slice_get}
use Rattle.std.specs.List.{slice_get}
use Rattle.counter_bits.specs.CounterSets.{CounterSets}
use Rattle.issuer_base.specs.declared.entry.Entry.{Entry}
use Rattle.card_history.specs.Records.{card_in}
use Rattle.card_history.specs.Scripts.{waiting, scripts_of}
use Rattle.issuer_setup.specs.declared.card.CardInfo.{CardInfo}
use Rattle.issuer_setup.specs.CardList.{name_of, AreCards}
use Rattle.issuer_setup.specs.IssuerSetup.{Setup}
use Rattle.row_core.specs.CardRow.{CardRow, KeptScripts, StandsFor as RowStandsFor}
use Rattle.row_core.proofs.OtherCards.{stands-other}
use Rattle.shard_book.specs.ShardRows.{ShardRows, IsHome, Covers, RowStands, RowsStandFor, is_decided}
use Rattle.shard_book.specs.Steps.{IsCardOf}
use Rattle.shard_book.proofs.Places.{places-differ}
use Rattle.shard_book.proofs.Marks.{Marks, is_on, marked-there, marked-elsewhere, decided-its, decided-elsewhere}

-- what was written is read again
there : {X : Type 0} (xs : List X) (place : ℕ) (old new : X) → slice_get xs place ≡ Some old → slice_get (set xs place new) place ≡ Some new
there xs place old new old_is =
    let within = slice_get_within xs place old old_is in
    let long : length (set xs place new) ≡ length xs = length-set xs place new in
    slice_get-get_or (set xs place new) place new (omega arith) ∙ ap Some (get_or-set_same xs place new new within)

-- and each other element as it was
elsewhere : {X : Type 0} (xs : List X) (place : ℕ) (new : X) (other : ℕ) (x : X) → other ≢ place → slice_get xs other ≡ Some x
    → slice_get (set xs place new) other ≡ Some x
elsewhere xs place new other x not_it is =
    let within = slice_get_within xs other x is in
    let long : length (set xs place new) ≡ length xs = length-set xs place new in
    slice_get-get_or (set xs place new) other x (omega arith)
    ∙ ap Some (get_or-set_other xs place other new x not_it ∙ get_or_from_slice_get xs other x x is)

-- cards with different numbers have different names
other-name : (cards : List CardInfo) (number other : ℕ) (card other_card : CardInfo) → AreCards cards → slice_get cards number ≡ Some card
    → slice_get cards other ≡ Some other_card → other ≢ number → name_of other_card ≢ name_of card
other-name cards number other card other_card valid card_is other_is not_it same =
    let named : name_of (get_or cards number card) ≡ name_of card = ap name_of (get_or_from_slice_get cards number card card card_is) in
    let other_named : name_of (get_or cards other card) ≡ name_of other_card = ap name_of (get_or_from_slice_get cards other other_card card other_is) in
    let within = slice_get_within cards number card card_is in
    let other_within = slice_get_within cards other other_card other_is in
    elim (cases_lt other number) [
      | inl lower ↦ valid.distinct other number card lower within (other_named ∙ same ∙ sym named)
      | inr higher ↦ valid.distinct number other card (omega arith) other_within (named ∙ sym same ∙ sym other_named)
    ]

-- the rows once the row of this card is another one, and the sets are these
abbrev pub after : ShardRows → ℕ → CardRow → CounterSets → ShardRows
after rows number row bits =
    record { shard = rows.shard; shards = rows.shards; cards = rows.cards; rows = set rows.rows (number / rows.shards) row; bits = bits }

module _ (issuer : Setup) (rows : ShardRows) (history : List Entry) (stands : RowsStandFor issuer rows history) (number : ℕ) (home : IsHome rows number)
    (row : CardRow) (row_is : slice_get rows.rows (number / rows.shards) ≡ Some row) where
  -- the row that was found at a card's place stands for the history
  pub row-there : (card : CardInfo) → slice_get issuer.cards number ≡ Some card → RowStandsFor card row history
  row-there card card_is =
      let found = stands.each number card home card_is in
      subst (λ (row : CardRow). RowStandsFor card row history) (same_Some found.row row (sym found.row_is ∙ row_is)) found.stands

  -- and a card's queue takes a command where its row's queue does
  pub queue-there : (card : CardInfo) → slice_get issuer.cards number ≡ Some card → row.scripts.commands ≡ waiting (scripts_of (name_of card) history)
  queue-there card card_is = ap (λ (scripts : KeptScripts). scripts.commands) (row-there card card_is).scripts_are

  -- where the card's row stands for one record more, the rows do
  pub stands-more : (card : CardInfo) (entry : Entry) (new : CardRow) (bits : CounterSets) → IsCardOf issuer number card → card_in entry ≡ name_of card
      → Marks rows.bits bits (number / rows.shards) entry
      → (RowStandsFor card row history → RowStandsFor card new (history ++ entry ∷ [])) → RowsStandFor issuer (after rows number new bits) (history ++ entry ∷ [])
  stands-more card entry new bits known its marks gains = record {
    of_issuer = record { shards_are = stands.of_issuer.shards_are; cards_are = stands.of_issuer.cards_are };
    each = λ other other_card other_home other_is.
        elim (cases_eq other number) [
          | inl same ↦ subst (λ (other : ℕ). RowStands (after rows number new bits) other other_card (history ++ entry ∷ [])) (sym same) (
              let card_is : card ≡ other_card = same_Some card other_card (sym known.card_is ∙ ap (slice_get issuer.cards) (sym same) ∙ other_is) in
              let gained = gains (row-there card known.card_is) in
              record {
                row = new;
                row_is = there rows.rows (number / rows.shards) row new row_is;
                stands = subst (λ (card : CardInfo). RowStandsFor card new (history ++ entry ∷ [])) card_is gained;
                counters_are = λ counter.
                    let before = stands.each number other_card home (ap (slice_get issuer.cards) (sym same) ∙ other_is) in
                    let name_is : card_in entry ≡ name_of other_card = its ∙ ap name_of card_is in
                    marked-there rows.bits bits (number / rows.shards) entry marks counter
                    ∙ ap (λ (there : Bool). there || is_on entry counter) (before.counters_are counter)
                    ∙ sym (decided-its (name_of other_card) history entry name_is counter);
              })
          | inr not_it ↦
              let found = stands.each other other_card (record { within = other_home.within; home = other_home.home }) other_is in
              let named : name_of other_card ≢ card_in entry =
              λ same. other-name issuer.cards number other card other_card known.valid known.card_is other_is not_it (same ∙ its) in
              let apart = places-differ number other rows.shards rows.shard home.home other_home.home not_it in
              record {
                row = found.row;
                row_is = elsewhere rows.rows (number / rows.shards) new (other / rows.shards) found.row apart found.row_is;
                stands = stands-other other_card found.row history entry named found.stands;
                counters_are = λ counter.
                    marked-elsewhere rows.bits bits (number / rows.shards) (other / rows.shards) entry marks apart counter
                    ∙ found.counters_are counter
                    ∙ ap (is_decided counter) (sym (decided-elsewhere (name_of other_card) history entry named));
              }
        ];
  }

-- a fact of a result at Ok holds if it is Ok
pub ok-then : {X E : Type 0} (result : Result X E) (Q : Type 0) → IfOk result (λ _. Q) → IsOk result → Q
ok-then (Ok x) Q says ok = says
ok-then (Err e) Q says ok = absurd (false≢true ok)

-- the row of the card with this number was read at its index in the rows
pub record IsRead (rows now : ShardRows) (number place : ℕ) (row : CardRow) : Type 0 where
  pub view : rows ≡ now
  pub home : IsHome rows number
  pub place_is : place ≡ number / rows.shards
  pub row_is : slice_get rows.rows (number / rows.shards) ≡ Some row

pub is-read : {rows now : ShardRows} {number place : ℕ} {row : CardRow} → rows ≡ now → Covers rows → IsHome now number → place ≡ number / rows.shards
    → row ≡ get_or rows.rows place row → IsRead rows now number place row
is-read {rows} {now} {number} {place} {row} view covers home place_is row_is =
    let home_inside = subst (λ (rows : ShardRows). IsHome rows number) (sym view) home in
    record {
      view = view;
      home = home_inside;
      place_is = place_is;
      row_is = slice_get-get_or rows.rows (number / rows.shards) row (covers.each number home_inside)
          ∙ ap Some (sym (row_is ∙ ap (λ place. get_or rows.rows place row) place_is));
    }

module _ (issuer : Setup) {rows now : ShardRows} {number place : ℕ} {row : CardRow} (read : IsRead rows now number place row) (card : CardInfo)
    (history : List Entry) (stands : RowsStandFor issuer now history) (known : IsCardOf issuer number card) where
  inside : RowsStandFor issuer rows history
  inside = subst (λ (rows : ShardRows). RowsStandFor issuer rows history) (sym read.view) stands

  -- it stands for the history
  pub row-inside : RowStandsFor card row history
  row-inside = row-there issuer rows history inside number read.home row read.row_is card known.card_is

  -- its queue is the card's
  pub queue-inside : row.scripts.commands ≡ waiting (scripts_of (name_of card) history)
  queue-inside = queue-there issuer rows history inside number read.home row read.row_is card known.card_is

  -- and it is changed so that it stands for one record more
  pub step-more : (entry : Entry) (new : CardRow) (bits : CounterSets) → card_in entry ≡ name_of card → Marks rows.bits bits place entry
      → (RowStandsFor card row history → RowStandsFor card new (history ++ entry ∷ []))
      → RowsStandFor issuer (record { shard = rows.shard; shards = rows.shards; cards = rows.cards; rows = set rows.rows place new; bits = bits })
      (history ++ entry ∷ [])
  step-more entry new bits its marks gains =
      let marks_there : Marks rows.bits bits (number / rows.shards) entry = subst (λ place. Marks rows.bits bits place entry) read.place_is marks in
      subst (λ place. RowsStandFor issuer (record { shard = rows.shard; shards = rows.shards; cards = rows.cards; rows = set rows.rows place new; bits = bits })
      (history ++ entry ∷ []))
      (sym read.place_is) (stands-more issuer rows history inside number read.home row read.row_is card entry new bits known its marks_there gains)
