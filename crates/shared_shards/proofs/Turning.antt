-- A turn at a shard, from the moment that it comes to its end.
use Rattle.std.proofs.Common.{◌≡◌, ℕ, ◌<◌, ◌%◌, ◌/◌, ◌&&◌, ltb, List, length, Option, None, Some, refl, sym, ap, subst, ◌∙◌, arith}
use Rattle.std.specs.List.{slice_get}
use Rattle.std.proofs.lemmas.Option.{same_Some, slice_get_within}
use Rattle.issuer_base.specs.Stores.{Disk}
use Rattle.issuer_base.specs.declared.answer.Answer.{Answer}
use Rattle.issuer_base.specs.declared.entry.Entry.{Entry}
use Rattle.issuer_base.specs.declared.limits.TheConstants.{MAX_FAULTS_REPORTED}
use Rattle.issuer_base.specs.declared.outside.store.Store.{Ghosts}
use Rattle.card_history.specs.declared.card_view.CardView.{CardView}
use Rattle.card_history.specs.CardViews.{card_shown}
use Rattle.issuer_base.specs.CardNames.{CardName}
use Rattle.issuer_setup.specs.declared.card.CardInfo.{CardInfo}
use Rattle.issuer_setup.specs.CardList.{name_of}
use Rattle.issuer_setup.specs.IssuerSetup.{Setup}
use Rattle.issuer_setup.proofs.CardListLemmas.{number_of-found}
use Rattle.line_checks.specs.AtHand.{IsCardAtHand}
use Rattle.shard_book.specs.CardRow.{CardRow, StandsFor as RowStandsFor}
use Rattle.shard_book.specs.declared.shard.Shard.{Shard}
use Rattle.shard_book.specs.Answering.{is_store_fault}
use Rattle.shard_book.specs.Calls.{AnswersBy}
use Rattle.shard_book.specs.Grounds.{IsCardOfShard}
use Rattle.shard_book.specs.Shards.{number_in, HasCard, faults_in, reported_in, StandsFor}
use Rattle.turn_book.specs.declared.logs.Log.{Log}
use Rattle.turn_book.specs.declared.view.TurnView.{TurnView}
use Rattle.turn_book.specs.declared.seat.TurnSeat.{TurnSeat}
use Rattle.turn_book.specs.Seats.{view_of}
use Rattle.turn_book.specs.Logs.{heads_of, items_at, with_items, IsFront, StandsAt}
use Rattle.turn_book.specs.TurnViews.{entered, free}
use Rattle.turn_book.proofs.LogLemmas.{heads-length, stands_below}
use Rattle.shared_shards.specs.declared.locked_shard.LockedShard.{LockedShard}
use Rattle.shared_shards.specs.declared.logs.LogHead.{LogHead}
use Rattle.shared_shards.specs.declared.logs.LogItem.{LogItem}
use Rattle.shared_shards.specs.declared.turns.ShardTurns.{ShardTurns}
use Rattle.shared_shards.specs.Opening.{head_with}
use Rattle.shared_shards.specs.ShardLogs.{records_of, StandsForLog}
use Rattle.shared_shards.specs.ShardSeats.{opening_in, AreTurnsOf, IsSeatOf, StandsIn}
use Rattle.shared_shards.specs.Turned.{AnswersInTurn, ShowsInTurn, log_after, added_by, counted_if, turned}
use Rattle.shared_shards.proofs.Answered.{IsAnsweredBy, IsCalled, log-step, records-after}
use Rattle.shared_shards.proofs.Ending.{turned-is}
use Rattle.shared_shards.proofs.Standing.{held-stands, stands-open, stands-close, head-at}

-- a card's number is within its issuer's cards, and it is one of its shard's
pub card-within : (issuer : Setup) (name : CardName) (card : ℕ) → IsCardAtHand issuer name card → card < length issuer.cards
card-within issuer name card at_hand =
    let found = number_of-found name issuer.cards card at_hand.number_is in
    slice_get_within issuer.cards card found.0 found.1

pub card-of_shard : (issuer : Setup) (name : CardName) (card number : ℕ) → IsCardAtHand issuer name card → number ≡ card % issuer.shards
    → IsCardOfShard issuer number name
card-of_shard issuer name card number at_hand number_is = record { number = card; number_is = at_hand.number_is; home = sym number_is }

module _ {S : Type 0} {G : Ghosts S} where
  -- the shard stands for the log with this number, which is one of this issuer's
  pub record HasFound (issuer : Setup) (logs : List (Log LogItem LogHead)) (number : ℕ) (shard : Shard S G) : Type 0 where
    pub faults : ℕ
    pub first : ℕ
    pub disk : Option Disk
    pub head_is : slice_get (heads_of logs) number ≡ Some (head_with issuer number faults first disk)
    pub stands : StandsForLog shard (head_with issuer number faults first disk) (items_at logs number)
    pub below : number < length logs

  -- so it is when a turn comes
  pub has-found : (issuer : Setup) (turns : ShardTurns S G) → AreTurnsOf issuer turns
      → (logs : List (Log LogItem LogHead)) (number : ℕ) (held : LockedShard S G)
      → heads_of logs ≡ heads_of (opening_in turns)
      → StandsAt (λ (held : LockedShard S G) head items. StandsForLog held.shard head items) held logs number → HasFound issuer logs number held.shard
  has-found issuer turns are logs number held heads here =
      let Stands : Shard S G → LogHead → List LogItem → Type 0 = λ shard head items. StandsForLog shard head items in
      let inside : StandsIn held.shard logs number = held-stands held logs number here in
      let below : number < length logs = stands_below Stands held.shard logs number inside in
      let head = head-at logs number below in
      let same = are.heads_are number head.0 (ap (λ (heads : List LogHead). slice_get heads number) (sym heads) ∙ head.1) in
      let is : slice_get (heads_of logs) number ≡ Some (head_with issuer number head.0.faults head.0.records head.0.opened) = head.1
      ∙ ap (λ (head : LogHead). Some head) same in
      record {
        faults = head.0.faults;
        first = head.0.records;
        disk = head.0.opened;
        head_is = is;
        stands = stands-open Stands held.shard logs number (head_with issuer number head.0.faults head.0.records head.0.opened) is inside;
        below = below;
      }

  -- a seat has seen a log of each of the issuer's shards
  pub seen-below : (issuer : Setup) (turns : ShardTurns S G) → AreTurnsOf issuer turns → (seat : TurnSeat LogItem LogHead) → IsSeatOf turns seat
      → (number : ℕ)
      → number < issuer.shards → number < length (view_of seat).seen
  seen-below issuer turns are seat is number below =
      let count = are.count_is in
      let same = heads-length (view_of seat).seen (opening_in turns) is.of.heads in
      omega (arith, below, count, same)

  -- and it has the cards of its number
  pub has-card : (issuer : Setup) (logs : List (Log LogItem LogHead)) (number : ℕ) (shard : Shard S G) → HasFound issuer logs number shard
      → (card : ℕ) → number ≡ card % issuer.shards → card < length issuer.cards → HasCard shard card
  has-card issuer logs number shard found card number_is within =
      let under = found.stands.under in
      let cards = under.cards_are in
      record {
        within = omega (arith, cards, within);
        home = ap (λ (shards : ℕ). card % shards) under.shards_are ∙ sym number_is ∙ sym found.stands.number_is;
      }

  -- its row of a card shows what its records say, and the turn adds nothing
  pub turn-shows : (issuer : Setup) (logs : List (Log LogItem LogHead)) (number : ℕ) (shard : Shard S G) → HasFound issuer logs number shard
      → (card : ℕ) → number ≡ card % issuer.shards → card < length issuer.cards → (row : CardRow)
      → slice_get shard.rows.rows (card / shard.rows.shards) ≡ Some row
      → (view : CardView)
      → ((info : CardInfo) (history : List Entry) → RowStandsFor info row history → view ≡ card_shown (name_of info) history)
      → (before after : TurnView LogItem LogHead) → IsFront (items_at before.seen number) (items_at logs number)
      → after ≡ free (entered number (items_at logs number) before) → ShowsInTurn issuer card before view after
  turn-shows issuer logs number shard found card number_is within row row_is view shown before after front after_is =
      let home = has-card issuer logs number shard found card number_is within in
      record {
        between = items_at logs number;
        front = subst (λ n. IsFront (items_at before.seen n) (items_at logs number)) number_is front;
        shown = λ info info_is.
            let stands = found.stands.stands.rows_stand.each card info home info_is in
            shown info (records_of (items_at logs number))
            (subst (λ (row : CardRow). RowStandsFor info row (records_of (items_at logs number))) (same_Some stands.row row (sym stands.row_is
            ∙ row_is)) stands.stands);
        after_is = after_is ∙ ap (λ n. turned n (items_at logs number) None before) number_is;
      }

  -- the shard that has the turn is called: it answers so, and gives its log this record, or that the store failed
  pub record IsCalledInTurn (issuer : Setup) (Changes : ℕ → List Entry → List Entry → Type 0) (logs : List (Log LogItem LogHead)) (number : ℕ)
      (old new : Shard S G) (answer : Answer) (entry : Option Entry) (told : ℕ) : Type 0 where
    pub found : HasFound issuer logs number old
    pub called : IsCalled issuer old new answer
    pub answers : AnswersBy issuer old Changes new
    pub recording : (history after : List Entry) → Changes number history after → IsAnsweredBy issuer number history after answer entry
    pub told_is : told ≡ reported_in old

  module _ {issuer : Setup} {Changes : ℕ → List Entry → List Entry → Type 0} {logs : List (Log LogItem LogHead)} {number : ℕ} {old new : Shard S G}
      {answer : Answer} {entry : Option Entry} {told : ℕ}
      (call : IsCalledInTurn issuer Changes logs number old new answer entry told) where
    abbrev items : List LogItem
    items = items_at logs number

    -- what is added, where the shard's answers had reported so many faults before
    abbrev adding : ℕ → Option LogItem
    adding before = added_by entry (is_store_fault answer && ltb before MAX_FAULTS_REPORTED) (faults_in new)

    abbrev said : (after : List Entry) × StandsFor issuer new after × Changes (number_in old) (records_of items) after
    said = call.answers (records_of items) call.found.stands.stands

    changed : Changes number (records_of items) said.0
    changed = subst (λ n. Changes n (records_of items) said.0) call.found.stands.number_is said.2

    answered : IsAnsweredBy issuer number (records_of items) said.0 answer entry
    answered = call.recording (records_of items) said.0 changed

    -- the shard stands for the log with what was added
    pub turn-stands : StandsIn new (with_items logs number (log_after items (adding told))) number
    turn-stands =
        subst (λ (told : ℕ). StandsIn new (with_items logs number (log_after items (adding told))) number) (sym call.told_is)
        (stands-close (λ (shard : Shard S G) head items. StandsForLog shard head items) new logs number
        (head_with issuer number call.found.faults call.found.first call.found.disk) (log_after items (adding (reported_in old))) call.found.head_is
        (log-step issuer number call.found.first call.found.faults call.found.disk old new answer items
        call.found.stands call.called said.0 said.1 entry
        answered))

    -- and the turn answers so, at the shard of the card
    pub turn-answers : (shard : ℕ) → number ≡ shard → (before inside after : TurnView LogItem LogHead) → number < length before.seen
        → IsFront (items_at before.seen number) items → inside ≡ entered number items before
        → after ≡ free (counted_if number (adding told) inside) → AnswersInTurn issuer shard (Changes shard) before answer after
    turn-answers shard number_is before inside after below front inside_is after_is =
        let added : Option LogItem = adding told in
        let answers : AnswersInTurn issuer number (Changes number) before answer after = record {
          between = items;
          added = added;
          front = front;
          changes = subst (Changes number (records_of items))
              (sym (records-after issuer number call.found.first call.found.faults call.found.disk old new answer items
              call.found.stands call.called said.0 said.1 entry
              (is_store_fault answer && ltb told MAX_FAULTS_REPORTED) (faults_in new) answered)) changed;
          adds = answered.adds items told (faults_in new) refl (call.told_is ∙ call.found.stands.told_is);
          after_is = after_is
              ∙ ap (λ (inside : TurnView LogItem LogHead). free (counted_if number added inside)) inside_is
              ∙ turned-is before number items added below;
        } in
        subst (λ n. AnswersInTurn issuer n (Changes n) before answer after) number_is answers
