-- What a turn adds to a shard's log, and that the seats of the pass stay tied by it.
use Rattle.std.proofs.Common.{◌≡◌, ℕ, zero, suc, ◌+◌, ◌<◌, List, [], ◌∷◌, ◌++◌, length, Bool, false, ◌&&◌, eqb, Option, None, Some}
use Rattle.std.proofs.Common.{refl, sym, ap, ◌∙◌, subst, inl, inr, arith}
use Rattle.std.proofs.lemmas.Bool.{cases_eq}
use Rattle.std.proofs.lemmas.List.{length_push}
use Rattle.std.proofs.lemmas.List.Elements.{All-cons}
use Rattle.std.specs.List.{slice_get}
use Rattle.issuer_base.specs.declared.answer.Answer.{Answer}
use Rattle.issuer_base.specs.declared.answer.Answer.TheVariants.{Fresh, Kept, Queued, Set, Refused}
use Rattle.issuer_base.specs.declared.answer.Reply.{Reply}
use Rattle.issuer_base.specs.declared.answer.Refusal.TheVariants.{Below, Taken, QueueFull, Pending, StoreFault}
use Rattle.issuer_base.specs.declared.entry.Entry.{Entry}
use Rattle.issuer_base.specs.declared.entry.Entry.TheVariants.{Decided}
use Rattle.issuer_base.specs.declared.request.Request.{Request}
use Rattle.card_history.specs.Records.{card_of}
use Rattle.issuer_setup.specs.CardList.{number_of}
use Rattle.issuer_setup.specs.IssuerSetup.{Setup}
use Rattle.shared_seats.specs.Totals.{one_if}
use Rattle.claim_words.specs.declared.view.ClaimView.{ClaimView}
use Rattle.claim_words.specs.ClaimViews.{is_pair, claims_on, is_kept}
use Rattle.line_checks.specs.AtHand.{order_asked, record_of}
use Rattle.line_checks.specs.declared.checked.CheckedOrder.{CheckedOrder}
use Rattle.line_checks.specs.declared.checked.CheckedOrder.TheVariants.{Command as IsCommand, Status as IsStatus}
use Rattle.shard_book.specs.Answering.{AnswersClaimed, AnswersOrder}
use Rattle.turn_book.specs.declared.logs.Log.{Log}
use Rattle.turn_book.specs.declared.view.TurnView.{TurnView}
use Rattle.turn_book.specs.Logs.{heads_of, items_at, with_items, IsFront}
use Rattle.turn_book.proofs.LogLemmas.{front_refl, front_append, items-with_same, items-with_other, heads-with}
use Rattle.shared_shards.specs.declared.logs.LogItem.{LogItem}
use Rattle.shared_shards.specs.declared.logs.LogItem.TheVariants.{Record, Fault}
use Rattle.shared_shards.specs.declared.logs.LogHead.{LogHead}
use Rattle.shared_shards.specs.ShardLogs.{records_of}
use Rattle.shared_shards.specs.Turned.{log_after, turned, AddsFault, IsAdded}
use Rattle.shared_laws.specs.Decisions.{is_number, decides, decides_at, AreTied}
use Rattle.shared_laws.specs.Finishes.{is_fresh}
use Rattle.host_calls.proofs.Ties.{decisions-later, within-later}

-- ---- which record was added

records-push : (items : List LogItem) (entry : Entry) → records_of (items ++ Record entry ∷ []) ≡ records_of items ++ entry ∷ []
records-push [] entry = refl
records-push (Record other ∷ items) entry = λ i. other ∷ records-push items entry i
records-push (Fault count ∷ items) entry = records-push items entry

last-same : {X : Type 0} (xs : List X) (x y : X) → xs ++ x ∷ [] ≡ xs ++ y ∷ [] → x ≡ y
last-same [] x y same = cc
last-same (z ∷ xs) x y same = let rest : xs ++ x ∷ [] ≡ xs ++ y ∷ [] = cc in last-same xs x y rest

-- the record that stands behind the others is the one that was added
added-record : (between : List LogItem) (added : Option LogItem) (entry other : Entry) → added ≡ Some (Record other)
    → records_of (log_after between added) ≡ records_of between ++ entry ∷ [] → added ≡ Some (Record entry)
added-record between added entry other is after =
    let there : records_of (log_after between added) ≡ records_of between ++ other ∷ [] =
    ap (λ added. records_of (log_after between added)) is ∙ records-push between other in
    is ∙ ap (λ entry. Some (Record entry)) (last-same (records_of between) other entry (sym there ∙ after))

module _ (issuer : Setup) (shard card counter : ℕ) (between : List LogItem) where
  fault-decides : (added : Option LogItem) → AddsFault between added → decides issuer card counter added ≡ false
  fault-decides None fault = refl
  fault-decides (Some (Record entry)) fault = absurd fault
  fault-decides (Some (Fault count)) fault = refl

  module _ (added : Option LogItem) where
    none-decides : added ≡ None → decides issuer card counter added ≡ false
    none-decides is = ap (decides issuer card counter) is

    -- a turn of a request adds its decision where it is answered by a new one, and else no decision
    pub claimed-decides : (reply_to : List Entry → Request → Reply) (won : Bool) (request : Request) (answer : Answer) (number : ℕ)
        → number_of (card_of request) issuer.cards ≡ Some number
        → AnswersClaimed shard reply_to won (records_of between) request answer (records_of (log_after between added))
        → IsAdded issuer shard between answer added
        → decides issuer card counter added ≡ (is_fresh answer && is_pair card counter number request.atc)
    claimed-decides reply_to won request (Fresh at place reply) number is (claimed, (unused, at_is, place_is, reply_is, after_is)) (entry, added_is, legal) =
        ap (decides issuer card counter) (added-record between added (Decided request reply) entry added_is after_is)
        ∙ ap (λ found. is_number card found && eqb request.atc counter) is
    claimed-decides reply_to won request (Kept at place reply) number is turn none = none-decides none
    claimed-decides reply_to won request (Refused (Below top)) number is turn none = none-decides none
    claimed-decides reply_to won request (Refused (Taken at place)) number is turn none = none-decides none
    claimed-decides reply_to won request (Refused Pending) number is turn none = none-decides none
    claimed-decides reply_to won request (Refused StoreFault) number is turn fault = fault-decides added fault
    claimed-decides reply_to won request _ number is turn other = absurd turn

    -- a request whose claim was lost is not decided
    pub lost-decides : (reply_to : List Entry → Request → Reply) (request : Request) (answer : Answer)
        → AnswersClaimed shard reply_to false (records_of between) request answer (records_of (log_after between added))
        → IsAdded issuer shard between answer added → decides issuer card counter added ≡ false
    lost-decides reply_to request (Fresh at place reply) (claimed, decided) adds = absurd (cc)
    lost-decides reply_to request (Kept at place reply) turn none = none-decides none
    lost-decides reply_to request (Refused (Below top)) turn none = none-decides none
    lost-decides reply_to request (Refused (Taken at place)) turn none = none-decides none
    lost-decides reply_to request (Refused Pending) turn none = none-decides none
    lost-decides reply_to request (Refused StoreFault) turn fault = fault-decides added fault
    lost-decides reply_to request _ turn other = absurd turn

    -- nor does an order decide anything
    pub order-decides : (order : CheckedOrder) (answer : Answer)
        → AnswersOrder shard (records_of between) (order_asked order) answer (records_of (log_after between added))
        → IsAdded issuer shard between answer added → decides issuer card counter added ≡ false
    order-decides (IsCommand found) (Queued at place) (room, at_is, place_is, after_is) (entry, added_is, legal) =
        ap (decides issuer card counter) (added-record between added (record_of (IsCommand found)) entry added_is after_is)
    order-decides (IsCommand found) (Refused QueueFull) turn none = none-decides none
    order-decides (IsCommand found) (Refused StoreFault) turn fault = fault-decides added fault
    order-decides (IsCommand found) _ turn other = absurd turn
    order-decides (IsStatus found) (Set at place) (at_is, place_is, after_is) (entry, added_is, legal) =
        ap (decides issuer card counter) (added-record between added (record_of (IsStatus found)) entry added_is after_is)
    order-decides (IsStatus found) (Refused StoreFault) turn fault = fault-decides added fault
    order-decides (IsStatus found) _ turn other = absurd turn

-- ---- the seats after a turn

push-item : {X : Type 0} (xs : List X) (x : X) → slice_get (xs ++ x ∷ []) (length xs) ≡ Some x
push-item [] x = refl
push-item (y ∷ xs) x = push-item xs x

-- the log of the shard is under the issuer
abbrev pub IsHeaded : Setup → ℕ → List (Log LogItem LogHead) → Type 0
IsHeaded issuer shard logs = (shard < length logs) × ((head : LogHead) → slice_get (heads_of logs) shard ≡ Some head → head.issuer ≡ issuer)

decides-there : (issuer : Setup) (card counter : ℕ) (logs : List (Log LogItem LogHead)) (shard : ℕ) (items : List LogItem) (place : ℕ)
    → IsHeaded issuer shard logs
    → decides_at (with_items logs shard items) card counter shard place ≡ decides issuer card counter (slice_get items place)
decides-there issuer card counter [] shard items place headed = absurd (omega (arith, headed.0))
decides-there issuer card counter (log ∷ logs) zero items place headed =
    ap (λ (issuer : Setup). decides issuer card counter (slice_get items place)) (headed.1 log.head refl)
decides-there issuer card counter (log ∷ logs) (suc shard) items place headed =
    decides-there issuer card counter logs shard items place (omega (arith, headed.0), headed.1)

module _ (issuer : Setup) (shard : ℕ) (between : List LogItem) (claims after : ClaimView) (logs : TurnView LogItem LogHead)
    (headed : IsHeaded issuer shard logs.seen) (front : IsFront (items_at logs.seen shard) between) (names : after.names ≡ claims.names)
    (tied : AreTied claims logs) where
  abbrev later : Option LogItem → List (Log LogItem LogHead)
  later added = with_items logs.seen shard (log_after between added)

  front-after : (added : Option LogItem) → IsFront (items_at logs.seen shard) (log_after between added)
  front-after None = front
  front-after (Some item) = front_append (items_at logs.seen shard) between (item ∷ []) front

  fronts-after : (added : Option LogItem) (other : ℕ) → IsFront (items_at logs.seen other) (items_at (later added) other)
  fronts-after added other =
      elim (cases_eq other shard) [
        | inl same ↦
            subst (λ other. IsFront (items_at logs.seen other) (items_at (later added) other)) (sym same)
            (subst (IsFront (items_at logs.seen shard)) (sym (items-with_same logs.seen shard (log_after between added) headed.0)) (front-after added))
        | inr apart ↦
            subst (IsFront (items_at logs.seen other)) (sym (items-with_other logs.seen shard other (log_after between added) apart))
            (front_refl (items_at logs.seen other))
      ]

  -- the seats of a pass after a turn: its kept claims gained just the decision that was added
  pub tied-turned : (added : Option LogItem)
      → ((card counter : ℕ) → claims_on is_kept card counter after.claims
      ≡ claims_on is_kept card counter claims.claims + one_if (decides issuer card counter added))
      → AreTied after (turned shard between added logs)
  tied-turned None kept = record {
    one_name = names ∙ tied.one_name;
    seen = within-later logs.seen (later None) logs.mine (fronts-after None) tied.seen;
    kept = λ card counter. omega (
      arith,
      kept card counter,
      tied.kept card counter,
      decisions-later card counter logs.seen (later None) logs.mine (heads-with logs.seen shard between) (fronts-after None) tied.seen,
    );
  }
  tied-turned (Some item) kept =
      let there : items_at (later (Some item)) shard ≡ between ++ item ∷ [] = items-with_same logs.seen shard (between ++ item ∷ []) headed.0 in
      let long : length between < length (items_at (later (Some item)) shard) = omega (arith, ap length there, length_push between item) in
      record {
        one_name = names ∙ tied.one_name;
        seen = All-cons (λ (pair : ℕ × ℕ). pair.1 < length (items_at (later (Some item)) pair.0)) (shard, length between) logs.mine long
            (within-later logs.seen (later (Some item)) logs.mine (fronts-after (Some item)) tied.seen);
        kept = λ card counter. omega (
          arith,
          kept card counter,
          tied.kept card counter,
          decisions-later card counter logs.seen (later (Some item)) logs.mine (heads-with logs.seen shard (between ++ item ∷ [])) (fronts-after (Some item))
              tied.seen,
          ap one_if (decides-there issuer card counter logs.seen shard (between ++ item ∷ []) (length between) headed
              ∙ ap (decides issuer card counter) (push-item between item)),
        );
      }
