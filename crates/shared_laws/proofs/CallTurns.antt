-- How one call changes what its caller has seen of the logs, and how calls one after another do.
use Rattle.std.proofs.Common.{◌≡◌, ◌⊎◌, ℕ, ◌<◌, List, [], ◌∷◌, length, Bool, eqb, Option, None, Some}
use Rattle.std.proofs.Common.{Result, Ok, Err, refl, sym, ap, ◌∙◌, subst, inl, inr, arith}
use Rattle.std.proofs.lemmas.Bool.{cases_eq}
use Rattle.issuer_base.specs.declared.answer.Answer.{Answer}
use Rattle.issuer_base.specs.declared.answer.Answer.TheVariants.{Fresh, Kept, Queued, Set, Refused}
use Rattle.issuer_base.specs.declared.answer.Refusal.{Refusal}
use Rattle.issuer_base.specs.declared.answer.Refusal.TheVariants.{Below}
use Rattle.issuer_base.specs.declared.answer.Reply.{Reply}
use Rattle.issuer_base.specs.declared.entry.Entry.{Entry}
use Rattle.issuer_base.specs.declared.request.Request.{Request}
use Rattle.card_history.specs.declared.decision.Asked.{Asked}
use Rattle.card_history.specs.declared.decision.Asked.TheVariants.{Decide as AsksDecision, Queue as AsksQueue, Status as AsksStatus}
use Rattle.card_history.specs.Records.{card_of}
use Rattle.issuer_setup.specs.IssuerSetup.{Setup, shard_of}
use Rattle.line_checks.specs.Reading.{reading}
use Rattle.shard_book.specs.Replying.{reply_to}
use Rattle.claim_words.specs.declared.view.ClaimView.{ClaimView}
use Rattle.line_checks.specs.AtHand.{card_of_order, order_asked}
use Rattle.line_checks.specs.declared.checked.CheckedOrder.{CheckedOrder}
use Rattle.shard_book.specs.Answering.{AnswersClaimed, AnswersOrder}
use Rattle.turn_book.specs.declared.view.TurnView.{TurnView}
use Rattle.turn_book.specs.Logs.{items_at, with_items, IsFront}
use Rattle.turn_book.proofs.LogLemmas.{front_refl, front_append, front_trans, items-with_same, items-with_other, heads-with, heads-length}
use Rattle.shared_shards.specs.declared.logs.LogItem.{LogItem}
use Rattle.shared_shards.specs.declared.logs.LogHead.{LogHead}
use Rattle.shared_shards.specs.ShardLogs.{records_of}
use Rattle.shared_shards.specs.Turned.{log_after, turned, IsAdded}
use Rattle.shared_laws.specs.declared.checked.Checked.{Checked}
use Rattle.line_checks.specs.declared.checked.CheckedOrder.TheVariants.{Command as IsCommand, Status as IsStatus}
use Rattle.shared_laws.specs.declared.checked.Checked.TheVariants.{Decide, Order}
use Rattle.shared_laws.specs.Authorising.{EndsIn, Authorises}
use Rattle.shared_laws.specs.Finishes.{is_won}
use Rattle.shared_laws.specs.PreChecks.{PreChecks}
use Rattle.shared_laws.specs.Callers.{AuthorisesAll}
use Rattle.shared_laws.specs.OwnPlaces.{is_for_shard}

abbrev pub ShardView : Type 0
ShardView = TurnView LogItem LogHead

-- an answer with a new record tells the shard of the turn, and the number of the record
abbrev pub Tells : ℕ → List LogItem → Answer → Type 0
Tells shard between (Fresh at place reply) = (at ≡ shard) × (place ≡ length (records_of between))
Tells shard between (Queued at place) = (at ≡ shard) × (place ≡ length (records_of between))
Tells shard between (Set at place) = (at ≡ shard) × (place ≡ length (records_of between))
Tells shard between (Kept at place reply) = Unit {0}
Tells shard between (Refused refusal) = Unit {0}

-- the call is answered at a turn in the shard of its card
pub record TakesTurn (issuer : Setup) (says : Result Asked Refusal) (before : ShardView) (answer : Answer) (after : ShardView) : Type 0 where
  pub shard : ℕ
  pub home : (other : ℕ) → is_for_shard issuer other says ≡ eqb shard other
  pub between : List LogItem
  pub added : Option LogItem
  pub front : IsFront (items_at before.seen shard) between
  pub adds : IsAdded issuer shard between answer added
  pub tells : Tells shard between answer
  pub after_is : after ≡ turned shard between added before

-- the call is refused before its turn: as its line is read, or for an ATC that is too old
pub record IsTurnedAway (says : Result Asked Refusal) (before : ShardView) (answer : Answer) (after : ShardView) : Type 0 where
  pub refusal : Refusal
  pub answer_is : answer ≡ Refused refusal
  pub after_is : after ≡ before
  pub why : (says ≡ Err refusal) ⊎ ((told : ℕ) × (refusal ≡ Below told))

claimed-tells : (shard : ℕ) (reply_to : List Entry → Request → Reply) (won : Bool)
    (between : List LogItem) (request : Request) (answer : Answer) (after : List Entry)
    → AnswersClaimed shard reply_to won (records_of between) request answer after → Tells shard between answer
claimed-tells shard reply_to won between request (Fresh at place reply) after (claimed, (unused, at_is, place_is, reply_is, after_is)) = (at_is, place_is)
claimed-tells shard reply_to won between request (Kept at place reply) after changes = tt
claimed-tells shard reply_to won between request (Queued at place) after changes = absurd changes
claimed-tells shard reply_to won between request (Set at place) after changes = absurd changes
claimed-tells shard reply_to won between request (Refused refusal) after changes = tt

order-tells : (shard : ℕ) (between : List LogItem) (order : CheckedOrder) (answer : Answer) (after : List Entry)
    → AnswersOrder shard (records_of between) (order_asked order) answer after → Tells shard between answer
order-tells shard between (IsCommand found) (Fresh at place reply) after changes = absurd changes
order-tells shard between (IsCommand found) (Kept at place reply) after changes = tt
order-tells shard between (IsCommand found) (Queued at place) after (room, at_is, place_is, after_is) = (at_is, place_is)
order-tells shard between (IsCommand found) (Set at place) after changes = absurd changes
order-tells shard between (IsCommand found) (Refused refusal) after changes = tt
order-tells shard between (IsStatus found) (Fresh at place reply) after changes = absurd changes
order-tells shard between (IsStatus found) (Kept at place reply) after changes = tt
order-tells shard between (IsStatus found) (Queued at place) after changes = absurd changes
order-tells shard between (IsStatus found) (Set at place) after (at_is, place_is, after_is) = (at_is, place_is)
order-tells shard between (IsStatus found) (Refused refusal) after changes = tt

-- an order is for its card's shard
order-for : (issuer : Setup) (other : ℕ) (order : CheckedOrder)
    → is_for_shard issuer other (Ok (order_asked order)) ≡ eqb (shard_of issuer (card_of_order order)) other
order-for issuer other (IsCommand found) = refl
order-for issuer other (IsStatus found) = refl

module _ (issuer : Setup) (says : Result Asked Refusal) (claims : ClaimView)
    (logs : ShardView) (answer : Answer) (claims_now : ClaimView) (logs_now : ShardView) where
  finished-turn : (checked : Checked) (between : ClaimView) → EndsIn issuer says (Ok checked) between logs answer claims_now logs_now
      → TakesTurn issuer says logs answer logs_now
  finished-turn (Decide found claim) between (says_is, turn, claims_are, won) = record {
    shard = shard_of issuer (card_of found.request);
    home = λ other. ap (is_for_shard issuer other) (sym says_is);
    between = turn.between;
    added = turn.added;
    front = turn.front;
    adds = turn.adds;
    tells = claimed-tells (shard_of issuer (card_of found.request)) (reply_to issuer) (is_won claim) turn.between found.request answer
        (records_of (log_after turn.between turn.added)) turn.changes;
    after_is = turn.after_is;
  }
  finished-turn (Order found) between (says_is, turn, claims_are, won) = record {
    shard = shard_of issuer (card_of_order found);
    home = λ other. ap (is_for_shard issuer other) (sym says_is) ∙ order-for issuer other found;
    between = turn.between;
    added = turn.added;
    front = turn.front;
    adds = turn.adds;
    tells = order-tells (shard_of issuer (card_of_order found)) turn.between found answer (records_of (log_after turn.between turn.added)) turn.changes;
    after_is = turn.after_is;
  }

why-refused : (issuer : Setup) (says : Result Asked Refusal) (claims : ClaimView) (refusal : Refusal) (between : ClaimView)
    → PreChecks issuer says claims (Err refusal) between → (says ≡ Err refusal) ⊎ ((told : ℕ) × (refusal ≡ Below told))
why-refused issuer (Err first) claims refusal between (same, kept) = inl (sym (let e : Err refusal ≡ Err first = same in cc))
why-refused issuer (Ok (AsksDecision request)) claims refusal between (card, number_is, checks) =
    let (told, top_is, bounded, below, refusal_is, kept) = checks.claims in inr (told, refusal_is)
why-refused issuer (Ok (AsksQueue pan psn command)) claims refusal between (ok, kept) = absurd (cc)
why-refused issuer (Ok (AsksStatus pan psn status)) claims refusal between (ok, kept) = absurd (cc)

ended-turn : (issuer : Setup) (says : Result Asked Refusal) (claims : ClaimView)
    (logs : ShardView) (answer : Answer) (claims_now : ClaimView) (logs_now : ShardView)
    (checked : Result Checked Refusal) (between : ClaimView) → PreChecks issuer says claims checked between
    → EndsIn issuer says checked between logs answer claims_now logs_now
    → IsTurnedAway says logs answer logs_now ⊎ TakesTurn issuer says logs answer logs_now
ended-turn issuer says claims logs answer claims_now logs_now (Err refusal) between checks (answer_is, claims_are, logs_are) = inl (record {
  refusal = refusal;
  answer_is = answer_is;
  after_is = logs_are;
  why = why-refused issuer says claims refusal between checks;
})
ended-turn issuer says claims logs answer claims_now logs_now (Ok checked) between checks ends =
    inr (finished-turn issuer says claims logs answer claims_now logs_now checked between ends)

pub call-turn : (issuer : Setup) (says : Result Asked Refusal) (claims : ClaimView)
    (logs : ShardView) (answer : Answer) (claims_now : ClaimView) (logs_now : ShardView)
    → Authorises issuer says claims logs answer claims_now logs_now → IsTurnedAway says logs answer logs_now ⊎ TakesTurn issuer says logs answer logs_now
call-turn issuer says claims logs answer claims_now logs_now call =
    ended-turn issuer says claims logs answer claims_now logs_now call.checked call.between call.checks call.ends

-- ---- what was seen

front-after : (front between : List LogItem) (added : Option LogItem) → IsFront front between → IsFront front (log_after between added)
front-after front between None is = is
front-after front between (Some item) is = front_append front between (item ∷ []) is

-- as many logs are seen, and each as far as before or farther
pub record SeesMore (before after : ShardView) : Type 0 where
  pub count_is : length after.seen ≡ length before.seen
  pub fronts : (shard : ℕ) → shard < length before.seen → IsFront (items_at before.seen shard) (items_at after.seen shard)

sees-same : (before after : ShardView) → after ≡ before → SeesMore before after
sees-same before after same = subst (SeesMore before) (sym same) (record {
  count_is = refl;
  fronts = λ shard below. front_refl (items_at before.seen shard);
})

sees-turned : (before : ShardView) (shard : ℕ) (between : List LogItem) (added : Option LogItem) → IsFront (items_at before.seen shard) between
    → SeesMore before (turned shard between added before)
sees-turned before shard between added front = record {
  count_is = heads-length (with_items before.seen shard (log_after between added)) before.seen (heads-with before.seen shard (log_after between added));
  fronts = λ other below.
      elim (cases_eq other shard) [
        | inl same ↦
            subst (λ (other : ℕ). IsFront (items_at before.seen other) (items_at (with_items before.seen shard (log_after between added)) other)) (sym same)
            (subst (IsFront (items_at before.seen shard))
            (sym (items-with_same before.seen shard (log_after between added) (subst (λ (other : ℕ). other < length before.seen) same below)))
            (front-after (items_at before.seen shard) between added front))
        | inr apart ↦
            subst (IsFront (items_at before.seen other)) (sym (items-with_other before.seen shard other (log_after between added) apart))
            (front_refl (items_at before.seen other))
      ];
}

pub call-sees : (issuer : Setup) (says : Result Asked Refusal) (before : ShardView) (answer : Answer) (after : ShardView)
    → IsTurnedAway says before answer after ⊎ TakesTurn issuer says before answer after → SeesMore before after
call-sees issuer says before answer after (inl away) = sees-same before after away.after_is
call-sees issuer says before answer after (inr turn) =
    subst (SeesMore before) (sym turn.after_is) (sees-turned before turn.shard turn.between turn.added turn.front)

sees-then : (first second third : ShardView) → SeesMore first second → SeesMore second third → SeesMore first third
sees-then first second third one two =
    let count = one.count_is in
    record {
      count_is = two.count_is ∙ count;
      fronts = λ shard below.
          front_trans (items_at first.seen shard) (items_at second.seen shard) (items_at third.seen shard) (one.fronts shard below)
          (two.fronts shard (omega arith));
    }

pub calls-see : (issuer : Setup) (lines : List (List ℕ)) (answers : List Answer)
    (claims : ClaimView) (logs : ShardView) (claims_now : ClaimView) (logs_now : ShardView)
    → AuthorisesAll issuer lines answers claims logs claims_now logs_now → SeesMore logs logs_now
calls-see issuer [] [] claims logs claims_now logs_now (claims_are, logs_are) = sees-same logs logs_now logs_are
calls-see issuer [] (answer ∷ answers) claims logs claims_now logs_now calls = absurd calls
calls-see issuer (line ∷ lines) [] claims logs claims_now logs_now calls = absurd calls
calls-see issuer (line ∷ lines) (answer ∷ answers) claims logs claims_now logs_now (next_claims, next_logs, call, rest) =
    sees-then logs next_logs logs_now
    (call-sees issuer (reading issuer line) logs answer next_logs (call-turn issuer (reading issuer line) claims logs answer next_claims next_logs call))
    (calls-see issuer lines answers next_claims next_logs claims_now logs_now rest)

-- where a turn was taken, the whole log as it was then is seen
pub turn-seen : (issuer : Setup) (says : Result Asked Refusal) (before : ShardView)
    (answer : Answer) (after : ShardView) (turn : TakesTurn issuer says before answer after)
    → turn.shard < length before.seen → items_at after.seen turn.shard ≡ log_after turn.between turn.added
turn-seen issuer says before answer after turn below =
    ap (λ (view : ShardView). items_at view.seen turn.shard) turn.after_is ∙ items-with_same before.seen turn.shard (log_after turn.between turn.added) below
