-- The steps of a played run, fate by fate.
use Rattle.std.proofs.Common.{◌≡◌, ℕ, ◌+◌, ◌<◌, ◌==◌, Bool, true, false, List, [], ◌∷◌, Option, Some, None, refl, sym, subst, arith}
use Rattle.std.specs.Prelude.{if◌then◌else◌}
use Rattle.issuer_base.specs.declared.request.Request.{Request}
use Rattle.world_net.specs.WorldState.{WorldState}
use Rattle.world_net.specs.WorldRuns.{IsIssuer}
use Rattle.world_play.specs.declared.moves.Move.{Move}
use Rattle.world_play.specs.declared.moves.Move.TheVariants.{Queue, Tap, Ask, AskSpoiled, Hold, TakeHeld, Hand, HandFirst, HandSpoiled}
use Rattle.world_play.specs.declared.setting.Step.{Step}
use Rattle.world_play.specs.Moves.{moves_of}
use Rattle.world_play.specs.Play.{Stage, MakesAll}
use Rattle.world_play.specs.Setting.{issuer}
use Rattle.world_play.proofs.PlayedWorlds.{later-same, later-then}
use Rattle.world_play.proofs.PlayedMoves.{IsIdle, IsAsking, IsTapped, IsReplying, GoesTo, queue-move, tap-move, ask-move, ask-newest, spoil-move, hand-move}
use Rattle.world_play.proofs.PlayedMoves.{first-move, wrong-move, hand-newest, hold-move, take-move, none-held}

-- one after another
and-then : (number : ℕ) (world : WorldState) (Holds Then : WorldState → Type 0) → GoesTo number world Holds
    → ((later : WorldState) → Holds later → GoesTo number later Then) → GoesTo number world Then
and-then number world Holds Then one next =
    let other = next one.0 one.2 in
    (other.0, later-then number world one.0 other.0 one.1 other.1, other.2)

-- by either of two lists of moves
either : (Goal : Type 0) (Holds : List Move → Type 0) (test : Bool) (one other : List Move) → (Holds one → Goal) → (Holds other → Goal)
    → Holds (if test then one else other) → Goal
either Goal Holds true one other first second it = first it
either Goal Holds false one other first second it = second it

module _ (cards number : ℕ) (valid : IsIssuer (issuer cards)) (below : number < cards) (most : ℕ) (few : most < 65535) (step : Step)
    (its : step.card ≡ number) where
  abbrev IdleAt : Stage → WorldState → Type 0
  IdleAt stage world = IsIdle cards number (most + 1) world stage

  abbrev AsksAt : Stage → Request → WorldState → Type 0
  AsksAt stage request world = IsAsking cards number (most + 1) world stage request

  -- the end of the moves
  ends : (world : WorldState) (stage after : Stage) (request : Request) → after ≡ stage → GoesTo number world (AsksAt stage request)
      → GoesTo number world (IdleAt after)
  ends world stage after request is one =
      (one.0, one.1, subst (λ (stage : Stage). IdleAt stage one.0) (sym is) one.2.idle)

  -- moves once a request is in hand
  abbrev Goes : List Move → Type 0
  Goes moves =
      (world : WorldState) (before after : Stage) (request : Request) → AsksAt before request world → MakesAll (issuer cards) step moves before after
      → GoesTo number world (IdleAt after)

  done : Goes []
  done world before after request asking made = ends world before after request made (world, later-same number world, asking)

  asks : (moves : List Move) → Goes moves → Goes (Ask ∷ moves)
  asks moves rest world before after request asking made =
      and-then number world (AsksAt made.0 request) (IdleAt after) (ask-move cards number valid below (most + 1) step world before made.0 request asking made.1)
      (λ later now. rest later made.0 after request now made.2)

  spoils : (moves : List Move) → Goes moves → Goes (AskSpoiled ∷ moves)
  spoils moves rest world before after request asking made =
      and-then number world (AsksAt made.0 request) (IdleAt after) (spoil-move cards number valid below
      (most + 1) step world before made.0 request asking made.1)
      (λ later now. rest later made.0 after request now made.2)

  hands : (moves : List Move) → Goes moves → Goes (Hand ∷ moves)
  hands moves rest world before after request asking made =
      and-then number world (AsksAt made.0 request) (IdleAt after) (hand-move cards number valid below
      (most + 1) step world before made.0 request asking made.1)
      (λ later now. rest later made.0 after request now made.2)

  firsts : (moves : List Move) → Goes moves → Goes (HandFirst ∷ moves)
  firsts moves rest world before after request asking made =
      and-then number world (AsksAt made.0 request) (IdleAt after) (first-move cards number valid below
      (most + 1) step world before made.0 request asking made.1)
      (λ later now. rest later made.0 after request now made.2)

  wrongs : (moves : List Move) → Goes moves → Goes (HandSpoiled ∷ moves)
  wrongs moves rest world before after request asking made =
      and-then number world (AsksAt made.0 request) (IdleAt after) (wrong-move cards number valid below
      (most + 1) step world before made.0 request asking made.1)
      (λ later now. rest later made.0 after request now made.2)

  holds : Goes (Hold ∷ [])
  holds world before after request asking made =
      let held = hold-move cards number valid below (most + 1) step world before made.0 request asking made.1 in
      (held.0, held.1, subst (λ (stage : Stage). IdleAt stage held.0) (sym made.2) held.2)

  -- a step begins with a tap
  abbrev Begins : List Move → Type 0
  Begins moves =
      (world : WorldState) (before after : Stage) → IsIdle cards number most world before → MakesAll (issuer cards) step moves before after
      → GoesTo number world (IdleAt after)

  abbrev TapsAt : Stage → WorldState → Type 0
  TapsAt stage world = (request : Request) × IsTapped cards number valid below (most + 1) world stage request

  taps : (moves : List Move) → Goes moves → Begins (Tap ∷ moves)
  taps moves rest world before after idle made =
      and-then number world (TapsAt made.0) (IdleAt after) (tap-move cards number valid below most step world before made.0 few idle made.1)
      (λ later now. rest later made.0 after now.0 now.1.asking made.2)

  queues : (k : ℕ) (moves : List Move) → k < 256 → Begins moves → Begins (Queue k ∷ moves)
  queues k moves small rest world before after idle made =
      and-then number world (λ later. IsIdle cards number most later made.0) (IdleAt after)
      (queue-move cards number valid below most k step world before made.0 its small idle made.1)
      (λ later now. rest later made.0 after now made.2)

  -- a request that was held back, once the card found an answer right
  abbrev AnsweredAt : Stage → WorldState → Type 0
  AnsweredAt stage world = IdleAt stage world × ((chain : List ℕ) × (stage.player.card.chain ≡ Some chain))

  overtaken : (world : WorldState) (before after : Stage) (held : Option Request) → before.player.held ≡ held → AnsweredAt before world
      → MakesAll (issuer cards) step (TakeHeld ∷ Ask ∷ Hand ∷ []) before after → GoesTo number world (IdleAt after)
  overtaken world before after None held_is now made =
      let idle = none-held cards number valid below (most + 1) step world before made.0 made.2.0 made.2.2.0 now.0 held_is made.1 made.2.1 made.2.2.1 in
      (world, later-same number world, subst (λ (stage : Stage). IdleAt stage world) (sym made.2.2.2) idle)
  overtaken world before after (Some held) held_is now made =
      let asking = take-move cards number valid below (most + 1) step world before made.0 held now.0 now.1.0 now.1.1 held_is made.1 in
      asks (Hand ∷ []) (hands [] done) world made.0 after held asking made.2

  overtakes : Begins (Tap ∷ Ask ∷ Hand ∷ TakeHeld ∷ Ask ∷ Hand ∷ [])
  overtakes world before after idle made =
      and-then number world (TapsAt made.0) (IdleAt after) (tap-move cards number valid below most step world before made.0 few idle made.1)
      (λ later now.
      and-then number later (λ last. IsReplying cards number valid below (most + 1) last made.2.0 now.0) (IdleAt after)
      (ask-newest cards number valid below (most + 1) step later made.0 made.2.0 now.0 now.1 made.2.1)
      (λ later replying.
      and-then number later (AnsweredAt made.2.2.0) (IdleAt after)
      (hand-newest cards number valid below (most + 1) step later made.2.0 made.2.2.0 now.0 replying made.2.2.1)
      (λ later answered. overtaken later made.2.2.0 after made.2.2.0.player.held refl answered made.2.2.2)))

  -- each fate
  pub fated : (fate : ℕ) → Begins (moves_of fate)
  fated fate world before after idle =
      let Goal = GoesTo number world (IdleAt after) in
      let Holds : List Move → Type 0 = λ moves. MakesAll (issuer cards) step moves before after in
      either Goal Holds (fate == 0) (Queue 0 ∷ Queue 1 ∷ Queue 2 ∷ Tap ∷ Ask ∷ []) _
      (queues 0 (Queue 1 ∷ Queue 2 ∷ Tap ∷ Ask ∷ []) (omega arith) (queues 1 (Queue 2 ∷ Tap ∷ Ask ∷ []) (omega arith)
      (queues 2 (Tap ∷ Ask ∷ []) (omega arith) (taps (Ask ∷ []) (asks [] done)))) world before after idle)
      (either Goal Holds (fate == 1) (Tap ∷ []) _ (taps [] done world before after idle)
      (either Goal Holds (fate == 2) (Tap ∷ Ask ∷ HandFirst ∷ []) _ (taps (Ask ∷ HandFirst ∷ [])
      (asks (HandFirst ∷ []) (firsts [] done)) world before after idle)
      (either Goal Holds (fate == 3) (Tap ∷ Ask ∷ Ask ∷ Hand ∷ []) _
      (taps (Ask ∷ Ask ∷ Hand ∷ []) (asks (Ask ∷ Hand ∷ []) (asks (Hand ∷ []) (hands [] done))) world before after idle)
      (either Goal Holds (fate == 4) (Tap ∷ Hold ∷ []) _ (taps (Hold ∷ []) holds world before after idle)
      (either Goal Holds (fate == 5) (Tap ∷ Ask ∷ Hand ∷ TakeHeld ∷ Ask ∷ Hand ∷ []) _ (overtakes world before after idle)
      (either Goal Holds (fate == 6) (Tap ∷ Ask ∷ HandSpoiled ∷ []) (Tap ∷ AskSpoiled ∷ Ask ∷ Hand ∷ [])
      (taps (Ask ∷ HandSpoiled ∷ []) (asks (HandSpoiled ∷ []) (wrongs [] done)) world before after idle)
      (taps (AskSpoiled ∷ Ask ∷ Hand ∷ []) (spoils (Ask ∷ Hand ∷ []) (asks (Hand ∷ []) (hands [] done))) world before after idle)))))))
