-- The turns of a run: each step finds the room of its moves, and place for its counts.
use Rattle.std.proofs.Common.{◌≡◌, ℕ, zero, suc, ◌+◌, ◌*◌, ◌-◌, ◌%◌, ◌<◌, ◌≤◌, ◌==◌, Bool, true, false, List, [], ◌∷◌, length, map, take, None, Some, refl, sym}
use Rattle.std.proofs.Common.{ap, subst, ◌∙◌, inl, inr, arith}
use Rattle.std.specs.Prelude.{if◌then◌else◌, sum_by, slice_get, slice_set}
use Rattle.std.specs.List.{range_with_len}
use Rattle.std.proofs.lemmas.List.Sums.{sum_by-cons}
use Rattle.std.proofs.lemmas.Bool.{cases_eq, cases_lt}
use Rattle.std.proofs.lemmas.Option.{same_Some, slice_get_within, get_or_from_slice_get}
use Rattle.std.proofs.lemmas.List.FromFn.{length-map-range_with_len, get_or-map-range_with_len}
use Rattle.card_model.specs.CardSteps.{new_card}
use Rattle.issuer_base.specs.declared.limits.TheConstants.{MAX_CARDS}
use Rattle.one_caller.specs.Room.{added_at}
use Rattle.host_loading.proofs.Places.{read-written, read-other}
use Rattle.world_play.specs.declared.house.House.{House}
use Rattle.world_play.specs.declared.moves.Move.{Move}
use Rattle.world_play.specs.declared.player.Player.{Player}
use Rattle.world_play.specs.declared.setting.Step.{Step}
use Rattle.world_play.specs.declared.summary.Summary.{Summary}
use Rattle.world_play.specs.Moves.{moves_of}
use Rattle.world_play.specs.Play.{State, new_player}
use Rattle.world_play.specs.Reaching.{IsAt}
use Rattle.world_play.specs.Room.{RoomFor, UsesAtMost, CountsWithin, CountsAtMost, CanCount, moved_bytes, most_counted, step_room, one_of, steps_of, IsOf}
use Rattle.world_play.specs.Room.{StaysOf, IsTurn}
use Rattle.world_play.specs.Setting.{step_of}
use Rattle.world_play.proofs.PlayedCards.{issuer-valid}
use Rattle.world_play.proofs.PlayedRequests.{issued-new}
use Rattle.world_play.proofs.Steps.{sum_next}
use Rattle.world_play.proofs.Using.{less-room, uses-less, uses-then}

-- ---- the moves of a step

-- either of two lists of moves
each-of : (Holds : List Move → Type 0) (test : Bool) (one other : List Move) → Holds one → Holds other → Holds (if test then one else other)
each-of Holds true one other first second = first
each-of Holds false one other first second = second

-- they are few, and within a step's room
pub record IsSmall (moves : List Move) : Type 0 where
  pub few : length moves ≤ 6
  pub within : sum_by moved_bytes moves ≤ step_room

pub fate-small : (fate : ℕ) → IsSmall (moves_of fate)
fate-small fate =
    each-of IsSmall (fate == 0) _ _ (record { few = omega arith; within = omega arith })
    (each-of IsSmall (fate == 1) _ _ (record { few = omega arith; within = omega arith })
    (each-of IsSmall (fate == 2) _ _ (record { few = omega arith; within = omega arith })
    (each-of IsSmall (fate == 3) _ _ (record { few = omega arith; within = omega arith })
    (each-of IsSmall (fate == 4) _ _ (record { few = omega arith; within = omega arith })
    (each-of IsSmall (fate == 5) _ _ (record { few = omega arith; within = omega arith })
    (each-of IsSmall (fate == 6) _ _ (record { few = omega arith; within = omega arith })
    (record { few = omega arith; within = omega arith })))))))

-- ---- the room that is left

-- what is left for the steps from one on
abbrev pub left_from : ℕ → ℕ → ℕ → ℕ → ℕ
left_from cards steps index shard = step_room * (steps_of cards shard steps - steps_of cards shard index)

-- more steps are at least as many of a shard
steps-within : (cards shard index steps : ℕ) → index ≤ steps → steps_of cards shard index ≤ steps_of cards shard steps
steps-within cards shard index zero within =
    let same = ap (steps_of cards shard) (let e : index ≡ zero = omega (arith, within) in e) in
    omega (arith, same)
steps-within cards shard index (suc last) within =
    elim (cases_lt last index) [
      | inl all ↦
          let same = ap (steps_of cards shard) (let e : index ≡ suc last = omega (arith, within, all) in e) in
          omega (arith, same)
      | inr some ↦
          let rest = steps-within cards shard index last some in
          let next : steps_of cards shard (suc last) ≡ steps_of cards shard last + one_of cards shard last = refl in
          omega (arith, rest, next)
    ]

by-test : (test : Bool) (bytes : ℕ) → bytes ≤ step_room → (if test then bytes else 0) ≤ step_room * (if test then 1 else 0)
by-test true bytes within = omega (arith, within)
by-test false bytes within = omega arith

-- a step's room is its card's shard's
at-shard : (cards index bytes : ℕ) → bytes ≤ step_room → (shard : ℕ) → added_at (index % cards % 4) bytes shard ≤ step_room * one_of cards shard index
at-shard cards index bytes within shard = by-test (shard == index % cards % 4) bytes within

-- the room that is left is enough for the next step
pub room-next : (cards steps index bytes : ℕ) (house : House) → index < steps → bytes ≤ step_room → RoomFor (left_from cards steps index) house
    → RoomFor (λ shard. added_at (index % cards % 4) bytes shard + left_from cards steps (index + 1) shard) house
room-next cards steps index bytes house below within have =
    less-room (left_from cards steps index) (λ shard. added_at (index % cards % 4) bytes shard + left_from cards steps (index + 1) shard) house
    (λ shard.
    let here = at-shard cards index bytes within shard in
    let rest = steps-within cards shard (suc index) steps (omega (arith, below)) in
    let next : steps_of cards shard (suc index) ≡ steps_of cards shard index + one_of cards shard index = refl in
    let same : steps_of cards shard (index + 1) ≡ steps_of cards shard (suc index) =
    ap (steps_of cards shard) (let e : index + 1 ≡ suc index = omega arith in e) in
    omega (arith, here, rest, next, same)) have

-- ---- the players

-- each player has the card with its number, and that card's requests
pub record AreOwn (cards : ℕ) (players : List Player) : Type 0 where
  pub each : (number : ℕ) (player : Player) → slice_get players number ≡ Some player → IsOf cards number player

new-own : (cards number : ℕ) → IsOf cards number (new_player number)
unfolding new_card
new-own cards number = record {
  issued = issued-new number;
  counter = omega arith;
  register = omega arith;
  asks = λ parts is. absurd (let e : None ≡ Some parts = is in cc);
  holds = λ parts is. absurd (let e : None ≡ Some parts = is in cc);
}

own-first : (cards : ℕ) (players : List Player) → players ≡ map new_player (range_with_len 0 cards) → AreOwn cards players
own-first cards players made = subst (AreOwn cards) (sym made) (record {
  each = λ number player is.
      let count = length-map-range_with_len new_player 0 cards in
      let within = slice_get_within (map new_player (range_with_len 0 cards)) number player is in
      let below : number < cards = omega (arith, count, within) in
      subst (IsOf cards number) (sym (get_or-map-range_with_len new_player 0 cards number number player below (omega arith))
      ∙ get_or_from_slice_get (map new_player (range_with_len 0 cards)) number player player is) (new-own cards number);
})

-- ---- the moves of a turn

sum-front : {X : Type 0} (f : X → ℕ) (xs : List X) (n : ℕ) → sum_by f (take n xs) ≤ sum_by f xs
sum-front f xs zero = omega arith
sum-front f [] (suc n) = omega arith
sum-front f (x ∷ xs) (suc n) =
    let here = sum_by-cons f x (take n xs) in
    let all = sum_by-cons f x xs in
    let rest = sum-front f xs n in
    omega (arith, here, all, rest)

by-both : (test : Bool) (one other both : ℕ) → one + other ≤ both
    → (if test then one else 0) + (if test then other else 0) ≤ (if test then both else 0)
by-both true one other both within = omega (arith, within)
by-both false one other both within = omega arith

by-less : (test : Bool) (less more : ℕ) → less ≤ more → (if test then less else 0) ≤ (if test then more else 0)
by-less true less more within = omega (arith, within)
by-less false less more within = omega arith

-- so many of the moves were made, within their bytes and counts
pub record IsWithin (step : Step) (moves : List Move) (made : ℕ) (old : House) (before : Player) (new : House) (after : Player) : Type 0 where
  pub own : StaysOf before after
  pub used : UsesAtMost (added_at (step.card % 4) (sum_by moved_bytes (take made moves))) old new
  pub counts : CountsAtMost made old new

counts-more : (less more : ℕ) (tally : Summary) → less ≤ more → CountsWithin less tally → CountsWithin more tally
counts-more less more tally enough all = record {
  taps = omega (arith, all.taps, enough);
  fresh = omega (arith, all.fresh, enough);
  approved = omega (arith, all.approved, enough);
  kept = omega (arith, all.kept, enough);
  refused = omega (arith, all.refused, enough);
  authenticated = omega (arith, all.authenticated, enough);
  unauthenticated = omega (arith, all.unauthenticated, enough);
  queued = omega (arith, all.queued, enough);
}

-- none was made
pub within-begins : (step : Step) (moves : List Move) (house : House) (player : Player) → IsWithin step moves 0 house player house player
within-begins step moves house player = record {
  own = λ cards number valid below own. own;
  used = λ spare have.
      less-room (λ number. added_at (step.card % 4) 0 number + spare number) spare house (λ number. omega arith) have;
  counts = λ most all. counts-more most (most + 0) house.tally (omega arith) all;
}

module _ (step : Step) (moves : List Move) (made : ℕ) (old : House) (before : Player) (now : House) (player : Player)
    (within : IsWithin step moves made old before now player) where
  -- the turn goes on
  pub turn-goes : IsTurn step old before → now.host.issuer ≡ old.host.issuer → IsTurn step now player
  turn-goes turn same = record {
    cards = turn.cards;
    valid = turn.valid;
    below = turn.below;
    issuer_is = same ∙ turn.issuer_is;
    own = within.own turn.cards step.card turn.valid turn.below turn.own;
  }

  both : (next : Move) → slice_get moves made ≡ Some next → (number : ℕ)
      → added_at (step.card % 4) (sum_by moved_bytes (take made moves)) number + added_at (step.card % 4) (moved_bytes next) number
      ≤ added_at (step.card % 4) (sum_by moved_bytes (take (suc made) moves)) number
  both next is number =
      let sum = sum_next moved_bytes moves made next is in
      by-both (number == step.card % 4) (sum_by moved_bytes (take made moves)) (moved_bytes next) (sum_by moved_bytes (take (suc made) moves))
      (omega (arith, sum))

  -- there is room for the next move
  pub room-goes : (next : Move) → slice_get moves made ≡ Some next → RoomFor (added_at (step.card % 4) (sum_by moved_bytes moves)) old
      → RoomFor (added_at (step.card % 4) (moved_bytes next)) now
  room-goes next is have =
      within.used (added_at (step.card % 4) (moved_bytes next))
      (less-room (added_at (step.card % 4) (sum_by moved_bytes moves))
      (λ number. added_at (step.card % 4) (sum_by moved_bytes (take made moves)) number + added_at (step.card % 4) (moved_bytes next) number) old
      (λ number.
      let here = both next is number in
      let all = by-both (number == step.card % 4) (sum_by moved_bytes (take (suc made) moves)) 0 (sum_by moved_bytes moves)
      (let front = sum-front moved_bytes moves (suc made) in omega (arith, front)) in
      omega (arith, here, all)) have)

  -- and place for its counts
  pub counts-go : made ≤ length moves → CanCount (length moves) old.tally → CountsWithin most_counted now.tally
  counts-go few can =
      counts-more (can.most + made) most_counted now.tally (let enough = can.few in omega (arith, enough, few)) (within.counts can.most can.within)

  -- one more is made
  pub within-goes : (next : Move) (new : House) (after : Player) → slice_get moves made ≡ Some next → StaysOf player after
      → UsesAtMost (added_at (step.card % 4) (moved_bytes next)) now new → CountsAtMost 1 now new
      → IsWithin step moves (made + 1) old before new after
  within-goes next new after is own used counts = record {
    own = λ cards number valid below its. own cards number valid below (within.own cards number valid below its);
    used =
        subst (λ made. UsesAtMost (added_at (step.card % 4) (sum_by moved_bytes (take made moves))) old new)
        (let e : suc made ≡ made + 1 = omega arith in e)
        (uses-less
        (λ number. added_at (step.card % 4) (sum_by moved_bytes (take made moves)) number + added_at (step.card % 4) (moved_bytes next) number)
        (added_at (step.card % 4) (sum_by moved_bytes (take (suc made) moves))) old new (both next is)
        (uses-then (added_at (step.card % 4) (sum_by moved_bytes (take made moves)))
        (added_at (step.card % 4) (moved_bytes next)) old now new within.used used));
    counts = λ most all.
        counts-more (most + made + 1) (most + (made + 1)) new.tally (omega arith) (counts (most + made) (within.counts most all));
  }

-- all were made
pub within-ends : (step : Step) (moves : List Move) (made : ℕ) (old : House) (before : Player) (new : House) (after : Player) → made ≡ length moves
    → IsWithin step moves made old before new after
    → UsesAtMost (added_at (step.card % 4) (sum_by moved_bytes moves)) old new × CountsAtMost (length moves) old new
within-ends step moves made old before new after all within = (
  uses-less (added_at (step.card % 4) (sum_by moved_bytes (take made moves))) (added_at (step.card % 4) (sum_by moved_bytes moves)) old new
      (λ number.
      by-less (number == step.card % 4) (sum_by moved_bytes (take made moves)) (sum_by moved_bytes moves) (sum-front moved_bytes moves made)) within.used,
  subst (λ made. CountsAtMost made old new) all within.counts,
)

-- ---- the steps

-- it is the turn of the step's card
pub turn-begins : (cards seed index : ℕ) (house : House) (players : List Player) (player : Player) (step : Step) → 1 ≤ cards → cards ≤ MAX_CARDS
    → IsAt cards seed index house players → AreOwn cards players → slice_get players (index % cards) ≡ Some player → step ≡ step_of index cards seed
    → IsTurn step house player
turn-begins cards seed index house players player step some few at own is step_is =
    let card_is = ap (λ (step : Step). step.card) step_is in
    record {
      cards = cards;
      valid = issuer-valid cards some few;
      below = omega (arith, card_is, some);
      issuer_is = at.issuer_is;
      own = subst (λ number. IsOf cards number player) (sym card_is) (own.each (index % cards) player is);
    }

module _ (cards seed steps index : ℕ) (house : House) (step : Step) (moves : List Move) (fate : ℕ) (below : index < steps)
    (step_is : step ≡ step_of index cards seed) (moves_are : moves ≡ moves_of fate) where
  small : IsSmall moves
  small = subst IsSmall (sym moves_are) (fate-small fate)

  -- with its room the rest is left
  pub room-turn : RoomFor (left_from cards steps index) house
      → RoomFor (λ shard. added_at (step.card % 4) (sum_by moved_bytes moves) shard + left_from cards steps (index + 1) shard) house
  room-turn have =
      subst (λ card. RoomFor (λ shard. added_at (card % 4) (sum_by moved_bytes moves) shard + left_from cards steps (index + 1) shard) house)
      (sym (ap (λ (step : Step). step.card) step_is)) (room-next cards steps index (sum_by moved_bytes moves) house below small.within have)

  -- the moves have their room
  pub room-begins : RoomFor (left_from cards steps index) house → RoomFor (added_at (step.card % 4) (sum_by moved_bytes moves)) house
  room-begins have =
      less-room (λ shard. added_at (step.card % 4) (sum_by moved_bytes moves) shard + left_from cards steps (index + 1) shard)
      (added_at (step.card % 4) (sum_by moved_bytes moves)) house (λ shard. omega arith) (room-turn have)

  -- and their counts a place
  pub counts-begin : steps ≤ 200000 → CountsWithin (6 * index) house.tally → CanCount (length moves) house.tally
  counts-begin most all = record { most = 6 * index; few = let few = small.few in omega (arith, most, below, few); within = all }

  pub counts-next : (new : House) → CountsAtMost (length moves) house new → CountsWithin (6 * index) house.tally → CountsWithin (6 * (index + 1)) new.tally
  counts-next new more all =
      counts-more (6 * index + length moves) (6 * (index + 1)) new.tally (let few = small.few in omega (arith, few)) (more (6 * index) all)

-- a player that stays of its card
pub own-next : (cards : ℕ) (players : List Player) (place : ℕ) (player new : Player) → 1 ≤ cards → cards ≤ MAX_CARDS → length players ≡ cards
    → place < length players → slice_get players place ≡ Some player → AreOwn cards players → StaysOf player new
    → AreOwn cards (slice_set players place new)
own-next cards players place player new some few count within is own stays = record {
  each = λ number other other_is.
      elim (cases_eq number place) [
        | inl same ↦
            let its : new ≡ other = same_Some new other (sym (read-written players place new within)
            ∙ subst (λ number. slice_get (slice_set players place new) number ≡ Some other) same other_is) in
            subst (λ (number : ℕ). IsOf cards number other) (sym same) (subst (IsOf cards place) its
            (stays cards place (issuer-valid cards some few) (omega (arith, within, count)) (own.each place player is)))
        | inr apart ↦ own.each number other (sym (read-other players place new number apart) ∙ other_is)
      ];
}

-- the start
pub own-start : (cards seed : ℕ) (house : House) (players : List Player) → IsAt cards seed 0 house players → AreOwn cards players
own-start cards seed house players at = own-first cards players (ap (λ (state : State). state.players) at.is_after)

pub counts-start : (cards seed : ℕ) (house : House) (players : List Player) → IsAt cards seed 0 house players → CountsWithin 0 house.tally
counts-start cards seed house players at =
    subst (CountsWithin 0) (sym (ap (λ (state : State). state.tally) at.is_after)) (record {
      taps = omega arith;
      fresh = omega arith;
      approved = omega arith;
      kept = omega arith;
      refused = omega arith;
      authenticated = omega arith;
      unauthenticated = omega arith;
      queued = omega arith;
    })

pub room-start : (cards steps : ℕ) (house : House) → RoomFor (λ shard. step_room * steps_of cards shard steps) house → RoomFor (left_from cards steps 0) house
room-start cards steps house have =
    less-room (λ shard. step_room * steps_of cards shard steps) (left_from cards steps 0) house (λ shard. omega arith) have
