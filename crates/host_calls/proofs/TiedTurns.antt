-- The seats of a pass stay tied through each kind of turn.
use Rattle.std.proofs.Common.{◌≡◌, ℕ, ◌<◌, ◌%◌, List, length, true, false, Option, None, Some, refl, sym, ap, ◌∙◌, subst, arith}
use Rattle.std.proofs.lemmas.List.{length-map}
use Rattle.std.proofs.Math.Nat.{mod-lt}
use Rattle.std.specs.List.{slice_get}
use Rattle.std.specs.Option.{option_map_or}
use Rattle.issuer_base.specs.declared.answer.Answer.{Answer}
use Rattle.issuer_base.specs.declared.outside.store.Store.{Ghosts}
use Rattle.issuer_base.specs.declared.request.Request.{Request}
use Rattle.issuer_base.specs.CardNames.{CardName}
use Rattle.card_history.specs.Records.{card_of}
use Rattle.issuer_setup.specs.CardList.{number_of}
use Rattle.issuer_setup.specs.IssuerSetup.{Setup, shard_of}
use Rattle.line_checks.specs.AtHand.{card_of_order}
use Rattle.line_checks.specs.declared.checked.CheckedOrder.{CheckedOrder}
use Rattle.shard_book.specs.Replying.{reply_to}
use Rattle.shared_seats.specs.Totals.{one_if}
use Rattle.claim_words.specs.declared.view.ClaimView.{ClaimView}
use Rattle.claim_words.specs.ClaimViews.{HasOpen, settled}
use Rattle.card_history.specs.declared.card_view.CardView.{CardView}
use Rattle.turn_book.specs.declared.logs.Log.{Log}
use Rattle.turn_book.specs.declared.seat.TurnSeat.{TurnSeat}
use Rattle.turn_book.specs.declared.view.TurnView.{TurnView}
use Rattle.turn_book.specs.Logs.{heads_of}
use Rattle.turn_book.specs.Seats.{view_of}
use Rattle.shared_shards.specs.declared.logs.LogItem.{LogItem}
use Rattle.shared_shards.specs.declared.logs.LogHead.{LogHead}
use Rattle.shared_shards.specs.declared.turns.ShardTurns.{ShardTurns}
use Rattle.shared_shards.specs.ShardSeats.{opening_in, AreTurnsOf, IsSeatOf}
use Rattle.shared_shards.specs.Turned.{DecidesInTurn, OrdersInTurn, ShowsInTurn}
use Rattle.shared_laws.specs.Decisions.{AreTied}
use Rattle.shared_laws.specs.Finishes.{standing_by}
use Rattle.host_calls.specs.Passes.{open_in}
use Rattle.host_calls.proofs.Added.{IsHeaded, claimed-decides, lost-decides, order-decides, tied-turned}
use Rattle.host_calls.proofs.Settling.{open-once, kept-settled}

-- a card's shard is one of the issuer's
found-below : (shards : ℕ) (found : Option ℕ) → 0 < shards → option_map_or (λ number. number % shards) found 0 < shards
found-below shards None some = some
found-below shards (Some number) some = mod-lt number some

module _ {S : Type 0} {G : Ghosts S} (issuer : Setup) (turns : ShardTurns S G) (seat : TurnSeat LogItem LogHead) (of : AreTurnsOf issuer turns)
    (seated : IsSeatOf turns seat) where
  -- the log that a seat has seen of a shard is under the issuer
  headed-at : (shard : ℕ) → (0 < issuer.shards → shard < issuer.shards) → IsHeaded issuer shard (view_of seat).seen
  headed-at shard within =
      let head : Log LogItem LogHead → LogHead = λ log. log.head in
      let heads : heads_of (view_of seat).seen ≡ heads_of (opening_in turns) = seated.of.heads in
      let some : 0 < issuer.shards = omega (arith, of.count_is, turns.turns.some_shard) in
      let long : length (view_of seat).seen ≡ issuer.shards =
      sym (length-map (view_of seat).seen head) ∙ ap (λ (heads : List LogHead). length heads) heads ∙ length-map (opening_in turns) head ∙ of.count_is in
      let below = within some in (
        omega (arith, long, below),
        λ its is.
            ap (λ (head : LogHead). head.issuer) (of.heads_are shard its (ap (λ (heads : List LogHead). slice_get heads shard) (sym heads) ∙ is)),
      )

  -- so is that of a card's shard
  pub headed-there : (name : CardName) → IsHeaded issuer (shard_of issuer name) (view_of seat).seen
  headed-there name = headed-at (shard_of issuer name) (found-below issuer.shards (number_of name issuer.cards))

  pub headed-home : (card : ℕ) → IsHeaded issuer (card % issuer.shards) (view_of seat).seen
  headed-home card = headed-at (card % issuer.shards) (mod-lt card)

module _ (issuer : Setup) (claims : ClaimView) (before : TurnView LogItem LogHead) (answer : Answer) (after : TurnView LogItem LogHead)
    (tied : AreTied claims before) where
  pub tied-lost : (request : Request) → IsHeaded issuer (shard_of issuer (card_of request)) before.seen → DecidesInTurn issuer false request before answer after
      → AreTied claims after
  tied-lost request headed turn =
      let shard : ℕ = shard_of issuer (card_of request) in
      subst (AreTied claims) (sym turn.after_is)
      (tied-turned issuer shard turn.between claims claims before headed turn.front refl tied turn.added
      (λ card counter. omega (
        arith,
        ap one_if (lost-decides issuer shard card counter turn.between turn.added (reply_to issuer) request answer turn.changes turn.adds),
      )))

  pub tied-ordered : (order : CheckedOrder) → IsHeaded issuer (shard_of issuer (card_of_order order)) before.seen
      → OrdersInTurn issuer order before answer after → AreTied claims after
  tied-ordered order headed turn =
      let shard : ℕ = shard_of issuer (card_of_order order) in
      subst (AreTied claims) (sym turn.after_is)
      (tied-turned issuer shard turn.between claims claims before headed turn.front refl tied turn.added
      (λ card counter. omega (
        arith,
        ap one_if (order-decides issuer shard card counter turn.between turn.added order answer turn.changes turn.adds),
      )))

  -- a request whose claim was won, which is then kept where the request was decided and else given back
  pub tied-won : (request : Request) (number : ℕ) → number_of (card_of request) issuer.cards ≡ Some number
      → HasOpen number request.atc claims → open_in claims.claims ≡ 1
      → IsHeaded issuer (shard_of issuer (card_of request)) before.seen → DecidesInTurn issuer true request before answer after
      → AreTied (settled (standing_by answer) number request.atc claims) after
  tied-won request number is own alone headed turn =
      let shard : ℕ = shard_of issuer (card_of request) in
      subst (AreTied (settled (standing_by answer) number request.atc claims)) (sym turn.after_is)
      (tied-turned issuer shard turn.between claims (settled (standing_by answer) number request.atc claims) before headed turn.front refl tied turn.added
      (λ card counter. omega (
        arith,
        kept-settled number request.atc claims (open-once number request.atc claims own alone) card counter answer,
        ap one_if (claimed-decides issuer shard card counter turn.between turn.added (reply_to issuer) true request answer number is turn.changes turn.adds),
      )))

-- what is shown adds nothing
pub tied-shown : (issuer : Setup) (claims : ClaimView) (before after : TurnView LogItem LogHead) (card : ℕ) (shown : CardView) → AreTied claims before
    → IsHeaded issuer (card % issuer.shards) before.seen → ShowsInTurn issuer card before shown after → AreTied claims after
tied-shown issuer claims before after card shown tied headed turn =
    subst (AreTied claims) (sym turn.after_is)
    (tied-turned issuer (card % issuer.shards) turn.between claims claims before headed turn.front refl tied None (λ card counter. omega arith))
