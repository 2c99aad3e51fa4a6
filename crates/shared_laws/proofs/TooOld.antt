-- A record that showed a caller that an ATC is too old isn't one that the same caller decides later.
use Rattle.std.proofs.Common.{◌≡◌, ◌⊎◌, ◌<◌, ℕ, zero, suc, List, [], ◌∷◌, Bool, true}
use Rattle.std.proofs.Common.{None, Some, Result, Ok, Err, refl, sym, ap, subst, ◌∙◌, inl, inr, arith}
use Rattle.std.proofs.lemmas.List.Elements.{All-contains}
use Rattle.std.proofs.lemmas.Option.{same_Some}
use Rattle.issuer_base.specs.declared.answer.Answer.{Answer}
use Rattle.issuer_base.specs.declared.answer.Answer.TheVariants.{Fresh, Refused}
use Rattle.issuer_base.specs.declared.answer.Refusal.{Refusal}
use Rattle.issuer_base.specs.declared.answer.Refusal.TheVariants.{Below}
use Rattle.issuer_base.specs.declared.answer.Reply.{Reply}
use Rattle.issuer_base.specs.declared.request.Request.{Request}
use Rattle.card_history.specs.declared.decision.Asked.{Asked}
use Rattle.card_history.specs.declared.decision.Asked.TheVariants.{Decide}
use Rattle.card_history.specs.declared.decision.Decision.{Decision}
use Rattle.issuer_base.specs.CardNames.{CardName}
use Rattle.card_history.specs.Records.{card_of, is_of}
use Rattle.card_history.proofs.CardNames.{is_of-card_of}
use Rattle.card_history.proofs.RecordPlaces.{recorded-decided}
use Rattle.issuer_setup.specs.CardList.{number_of}
use Rattle.issuer_setup.specs.IssuerSetup.{Setup, shard_of}
use Rattle.shard_book.specs.Replying.{reply_to}
use Rattle.line_checks.specs.Reading.{reading}
use Rattle.claim_words.specs.declared.claim_words.Claim.{Claim}
use Rattle.claim_words.specs.declared.claim_words.Claim.TheVariants.{Won, Lost}
use Rattle.claim_words.specs.declared.view.ClaimView.{ClaimView}
use Rattle.claim_words.specs.ClaimViews.{times}
use Rattle.turn_book.specs.declared.view.TurnView.{TurnView}
use Rattle.shard_book.specs.Answering.{AnswersClaimed}
use Rattle.shared_shards.specs.declared.logs.LogItem.{LogItem}
use Rattle.shared_shards.specs.declared.logs.LogHead.{LogHead}
use Rattle.shared_laws.specs.Authorising.{EndsIn, Authorises}
use Rattle.shared_laws.specs.Finishes.{FinishesInTurn, is_won}
use Rattle.one_caller.specs.OneHistory.{IsAnswered}
use Rattle.shared_laws.specs.PreChecks.{asked_of, PreChecks}
use Rattle.shared_laws.specs.declared.checked.Checked.{Checked}
use Rattle.line_checks.specs.declared.checked.CheckedOrder.TheVariants.{Command as Queues, Status as Sets}
use Rattle.shared_laws.specs.declared.checked.Checked.TheVariants.{Decide as Decides, Order as Orders}
use Rattle.shared_laws.specs.Callers.{AuthorisesAll}
use Rattle.shared_laws.specs.Explained.{history_at, IsDecidedOn, SeesTurn}
use Rattle.shared_laws.proofs.Decisions.{greatest-decided, decided-stays}
use Rattle.shared_laws.proofs.Seen.{IsWhole, turn-sees, home-there, line-sees, sees-goes_on, goes-same}
use Rattle.shared_laws.proofs.KeptClaims.{top-times, line-keeps}
use Rattle.shared_laws.proofs.Explaining.{told-top}

-- an ATC of the card was told by a top, or a decision on it was seen
abbrev IsShown : Setup → CardName → ℕ → ClaimView → TurnView LogItem LogHead → Type 0
IsShown issuer name counter claims logs =
    ((card : ℕ) × (number_of name issuer.cards ≡ Some card) × (0 < times card counter claims.tops))
    ⊎ IsDecidedOn name counter (history_at logs.seen (shard_of issuer name))

-- what a line says that was checked
abbrev said : Checked → Result Asked Refusal
said checked = Ok (asked_of checked)

-- ---- a request that is too old

module _ (issuer : Setup) (some : 0 < issuer.shards) (logs logs_now : TurnView LogItem LogHead) (whole : IsWhole issuer logs) where
  finish-shows : (checked : Checked) (request : Request) (top : ℕ) (claims : ClaimView) → said checked ≡ Ok (Decide request)
      → FinishesInTurn issuer checked logs (Refused (Below top)) logs_now → IsShown issuer (card_of request) top claims logs_now
  finish-shows (Decides found claim) request top claims says_is turn =
      let same : found.request ≡ request = let e : Ok (Decide found.request) ≡ Ok (Decide request) = says_is in cc in
      let shard : ℕ = shard_of issuer (card_of found.request) in
      let below = home-there issuer some (Refused (Below top)) logs logs_now whole (card_of found.request) in
      let seen = turn-sees issuer shard _ logs (Refused (Below top)) logs_now below turn in
      let too_old = seen.changes in
      let shows : IsDecidedOn (card_of found.request) top (history_at logs_now.seen shard) =
      decided-stays (card_of found.request) top seen.between (history_at logs_now.seen shard)
      (goes-same seen.between (history_at logs_now.seen shard) too_old.1)
      (greatest-decided (card_of found.request) seen.between top too_old.0.greatest_is) in
      inr (subst (λ (request : Request). IsDecidedOn (card_of request) top (history_at logs_now.seen (shard_of issuer (card_of request)))) same shows)
  finish-shows (Orders (Queues found)) request top claims says_is turn = absurd (cc)
  finish-shows (Orders (Sets found)) request top claims says_is turn = absurd (cc)

  ends-show : (checked : Result Checked Refusal) (request : Request) (top : ℕ) (claims between claims_now : ClaimView)
      → PreChecks issuer (Ok (Decide request)) claims checked between
      → EndsIn issuer (Ok (Decide request)) checked between logs (Refused (Below top)) claims_now logs_now
      → IsShown issuer (card_of request) top claims_now logs_now
  ends-show (Ok checked) request top claims between claims_now checks ends = finish-shows checked request top claims_now ends.0 ends.1
  ends-show (Err other) request top claims between claims_now (card, number_is, check) ends =
      let told = check.claims in
      let same : told.0 ≡ top =
      let e : Refused (Below top) ≡ Refused (Below told.0) = ends.0 ∙ ap (λ (refusal : Refusal). Refused refusal) told.4 in cc in
      let stands : 0 < times card told.0 claims_now.tops =
      told-top card told.0 check.top claims claims_now told.1 (ends.1 ∙ told.5) in
      inl (card, number_is, subst (λ top. 0 < times card top claims_now.tops) same stands)

  -- ---- a request on an ATC that was shown isn't decided

  finish-barred : (request : Request) (won : Bool) (at place : ℕ) (reply : Reply)
      → SeesTurn (shard_of issuer (card_of request))
      (λ old new. AnswersClaimed (shard_of issuer (card_of request)) (reply_to issuer) won old request (Fresh at place reply) new) (history_at logs.seen)
      (history_at logs_now.seen)
      → IsDecidedOn (card_of request) request.atc (history_at logs.seen (shard_of issuer (card_of request))) → ⊥
  finish-barred request won at place reply turn shown =
      let made = turn.changes in
      let stays = decided-stays (card_of request) request.atc _ turn.between turn.goes_on shown in
      let its : is_of (card_of request) stays.request ≡ true =
      subst (λ (name : CardName). is_of name stays.request ≡ true) stays.card_is (is_of-card_of stays.request) in
      let here = recorded-decided (card_of request) turn.between stays.place stays.request stays.reply stays.record_is its in
      All-contains (λ (decision : Decision). decision.request.atc ≡ request.atc → ⊥) _ _ made.1.0.unrecorded here stays.counter_is

  won-only : (claim : Claim) → is_won claim ≡ true → claim ≡ Won
  won-only Won is = refl
  won-only Lost is = absurd (cc)

  ends-barred : (checked : Result Checked Refusal) (request : Request) (at place : ℕ) (reply : Reply) (claims between claims_now : ClaimView)
      → PreChecks issuer (Ok (Decide request)) claims checked between
      → EndsIn issuer (Ok (Decide request)) checked between logs (Fresh at place reply) claims_now logs_now
      → IsShown issuer (card_of request) request.atc claims logs → ⊥
  ends-barred (Err other) request at place reply claims between claims_now checks ends shown =
      let never : Fresh at place reply ≡ Refused other = ends.0 in cc
  ends-barred (Ok (Orders (Queues found))) request at place reply claims between claims_now checks ends shown = let never = ends.0 in cc
  ends-barred (Ok (Orders (Sets found))) request at place reply claims between claims_now checks ends shown = let never = ends.0 in cc
  ends-barred (Ok (Decides found claim)) request at place reply claims between claims_now (card, number_is, check) ends shown =
      let same : found.request ≡ request = let e : Ok (Decide found.request) ≡ Ok (Decide request) = ends.0 in cc in
      let shard : ℕ = shard_of issuer (card_of found.request) in
      let below = home-there issuer some (Fresh at place reply) logs logs_now whole (card_of found.request) in
      let turn = turn-sees issuer shard _ logs (Fresh at place reply) logs_now below ends.1 in
      elim shown [
        | inl told ↦
            let card_same : told.0 ≡ card = same_Some told.0 card (sym told.1 ∙ number_is) in
            let claimed = check.claims in
            let new = claimed.3 (won-only claim turn.changes.0) in
            let before : 0 < times card request.atc claims.tops = subst (λ card. 0 < times card request.atc claims.tops) card_same told.2 in
            omega (arith, before, top-times card check.top claims card request.atc, new.1)
        | inr seen ↦
            finish-barred found.request (is_won claim) at place reply turn
            (subst (λ (request : Request). IsDecidedOn (card_of request) request.atc (history_at logs.seen (shard_of issuer (card_of request))))
            (sym same) seen)
      ]

  -- what was shown stays
  shown-stays : (says : Result Asked Refusal) (answer : Answer) (name : CardName) (counter : ℕ) (claims claims_now : ClaimView)
      → Authorises issuer says claims logs answer claims_now logs_now → IsShown issuer name counter claims logs
      → IsShown issuer name counter claims_now logs_now
  shown-stays says answer name counter claims claims_now line (inl (card, number_is, told)) =
      inl (card, number_is, omega (arith, told, (line-keeps issuer some answer logs logs_now whole says claims claims_now line).tops card counter))
  shown-stays says answer name counter claims claims_now line (inr seen) =
      let sees = line-sees issuer some answer logs logs_now whole says claims claims_now line in
      let on = sees-goes_on issuer says (history_at logs.seen) answer (history_at logs_now.seen) sees.0 (shard_of issuer name) in
      inr (decided-stays name counter _ _ on seen)

-- ---- all lines of a caller

module _ (issuer : Setup) (some : 0 < issuer.shards) where
  shown-barred : (lines : List (List ℕ)) (answers : List Answer) (claims : ClaimView) (logs : TurnView LogItem LogHead) (claims_now : ClaimView)
      (logs_now : TurnView LogItem LogHead) → AuthorisesAll issuer lines answers claims logs claims_now logs_now → IsWhole issuer logs
      → (later : ℕ) (other : Request) (at place : ℕ) (reply : Reply) → IsAnswered issuer lines answers later other (Fresh at place reply)
      → IsShown issuer (card_of other) other.atc claims logs → ⊥
  shown-barred [] answers claims logs claims_now logs_now calls whole later other at place reply answered shown =
      let none : None ≡ Some answered.line = answered.line_is in cc
  shown-barred (line ∷ lines) [] claims logs claims_now logs_now calls whole later other at place reply answered shown = calls
  shown-barred (line ∷ lines) (answer ∷ answers) claims logs claims_now logs_now (claims_then, logs_then, call, calls) whole zero other at place reply
      answered shown =
      let same_line : line ≡ answered.line = let is : Some line ≡ Some answered.line = answered.line_is in cc in
      let same_answer : answer ≡ Fresh at place reply = let is : Some answer ≡ Some (Fresh at place reply) = answered.answer_is in cc in
      let read : reading issuer line ≡ Ok (Decide other) = ap (reading issuer) same_line ∙ answered.request_is in
      let its : Authorises issuer (Ok (Decide other)) claims logs (Fresh at place reply) claims_then logs_then =
      subst (λ (answer : Answer). Authorises issuer (Ok (Decide other)) claims logs answer claims_then logs_then) same_answer
      (subst (λ says. Authorises issuer says claims logs answer claims_then logs_then) read call) in
      ends-barred issuer some logs logs_then whole its.checked other at place reply claims its.between claims_then its.checks its.ends shown
  shown-barred (line ∷ lines) (answer ∷ answers) claims logs claims_now logs_now (claims_then, logs_then, call, calls) whole (suc later) other at place reply
      answered shown =
      let sees = line-sees issuer some answer logs logs_then whole (reading issuer line) claims claims_then call in
      shown-barred lines answers claims_then logs_then claims_now logs_now calls sees.1 later other at place reply
      (record { line = answered.line; line_is = answered.line_is; request_is = answered.request_is; answer_is = answered.answer_is })
      (shown-stays issuer some logs logs_then whole (reading issuer line) answer (card_of other) other.atc claims claims_then call shown)

  pub below-first : (lines : List (List ℕ)) (answers : List Answer) (claims : ClaimView) (logs : TurnView LogItem LogHead) (claims_now : ClaimView)
      (logs_now : TurnView LogItem LogHead) → AuthorisesAll issuer lines answers claims logs claims_now logs_now → IsWhole issuer logs
      → (index later : ℕ) (request other : Request) (top at place : ℕ) (reply : Reply) → index < later
      → IsAnswered issuer lines answers index request (Refused (Below top)) → IsAnswered issuer lines answers later other (Fresh at place reply)
      → card_of other ≡ card_of request → other.atc ≡ top → ⊥
  below-first [] answers claims logs claims_now logs_now calls whole index later request other top at place reply before first second card counter =
      let none : None ≡ Some first.line = first.line_is in cc
  below-first (line ∷ lines) [] claims logs claims_now logs_now calls whole index later request other top at place reply before first second card counter =
      calls
  below-first (line ∷ lines) (answer ∷ answers) claims logs claims_now logs_now calls whole index zero request other top at place reply before first second
      card counter =
      omega (arith, before)
  below-first (line ∷ lines) (answer ∷ answers) claims logs claims_now logs_now (claims_then, logs_then, call, calls) whole zero (suc later) request other top
      at place reply before first second card counter =
      let same_line : line ≡ first.line = let is : Some line ≡ Some first.line = first.line_is in cc in
      let same_answer : answer ≡ Refused (Below top) = let is : Some answer ≡ Some (Refused (Below top)) = first.answer_is in cc in
      let read : reading issuer line ≡ Ok (Decide request) = ap (reading issuer) same_line ∙ first.request_is in
      let its : Authorises issuer (Ok (Decide request)) claims logs (Refused (Below top)) claims_then logs_then =
      subst (λ (answer : Answer). Authorises issuer (Ok (Decide request)) claims logs answer claims_then logs_then) same_answer
      (subst (λ says. Authorises issuer says claims logs answer claims_then logs_then) read call) in
      let shown = ends-show issuer some logs logs_then whole its.checked request top claims its.between claims_then its.checks its.ends in
      let sees = line-sees issuer some answer logs logs_then whole (reading issuer line) claims claims_then call in
      shown-barred lines answers claims_then logs_then claims_now logs_now calls sees.1 later other at place reply
      (record { line = second.line; line_is = second.line_is; request_is = second.request_is; answer_is = second.answer_is })
      (subst (λ (name : CardName). IsShown issuer name other.atc claims_then logs_then) (sym card)
      (subst (λ counter. IsShown issuer (card_of request) counter claims_then logs_then) (sym counter) shown))
  below-first (line ∷ lines) (answer ∷ answers) claims logs claims_now logs_now (claims_then, logs_then, call, calls) whole (suc index) (suc later) request
      other top at place reply before first second card counter =
      let sees = line-sees issuer some answer logs logs_then whole (reading issuer line) claims claims_then call in
      below-first lines answers claims_then logs_then claims_now logs_now calls sees.1 index later request other top at place reply (omega (arith, before))
      (record { line = first.line; line_is = first.line_is; request_is = first.request_is; answer_is = first.answer_is })
      (record { line = second.line; line_is = second.line_is; request_is = second.request_is; answer_is = second.answer_is }) card counter
