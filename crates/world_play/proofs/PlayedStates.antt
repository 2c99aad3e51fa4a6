-- The states of a played run: each is that of a world at the end of a genuine run.
use Rattle.std.proofs.Common.{◌≡◌, ℕ, zero, suc, ◌+◌, ◌*◌, ◌/◌, ◌%◌, ◌<◌, ◌≤◌, List, [], ◌∷◌, length, set, map, replicate, Some}
use Rattle.std.proofs.Common.{refl, ap, sym, ◌∙◌, subst, inl, inr, arith, length-set}
use Rattle.std.proofs.Math.Nat.{div-add-mod}
use Rattle.std.proofs.lemmas.Nat.{mul-le}
use Rattle.std.specs.Prelude.{slice_get}
use Rattle.std.specs.Option.{option_map}
use Rattle.std.proofs.lemmas.Bool.{cases_eq, cases_lt}
use Rattle.std.proofs.lemmas.List.{length-map}
use Rattle.std.proofs.lemmas.List.FromFn.{length-map-range_with_len, get_or-map-range_with_len}
use Rattle.std.proofs.lemmas.Option.{none-some, same_Some, slice_get-map, slice_get_within, get_or_from_slice_get}
use Rattle.issuer_base.specs.declared.request.Request.{Request}
use Rattle.issuer_setup.specs.IssuerSetup.{Setup}
use Rattle.card_model.specs.Application.{CardState}
use Rattle.card_model.specs.CardSteps.{new_card}
use Rattle.host_loading.specs.Books.{histories_of as book_histories}
use Rattle.host_loading.proofs.Places.{read-within, read-other}
use Rattle.world_net.specs.Fate.{fate_of}
use Rattle.world_net.specs.WorldState.{WorldState, ShardState, no_shard, histories_of}
use Rattle.world_net.specs.WorldRuns.{IsIssuer, IsNewWorld}
use Rattle.world_net.proofs.Hosts.{none-at}
use Rattle.world_net.proofs.NewWorlds.{new-world, des_card, des_cards-under}
use Rattle.issuer_base.specs.declared.request.Suite.TheVariants.{TripleDes}
use Rattle.world_net.proofs.Worlds.{put-there}
use Rattle.world_play.specs.declared.player.Player.{Player}
use Rattle.world_play.specs.Genuine.{CanBePlayed, EndsGenuineRun}
use Rattle.world_play.specs.Play.{State, Stage, IsStep, IsAfter, first_state, new_player}
use Rattle.world_play.specs.Setting.{key_set, issuer, step_of}
use Rattle.world_play.proofs.PlayedCards.{issuer-valid, card-at, cards-count}
use Rattle.world_play.specs.Cards.{IsIssued}
use Rattle.world_play.proofs.PlayedRequests.{issued-new}
use Rattle.world_play.proofs.PlayedWorlds.{IsPlayed, played-sound}
use Rattle.world_play.proofs.PlayedMoves.{IsIdle, MadeBy}
use Rattle.world_play.proofs.PlayedFates.{fated}

-- ---- a world and a state

-- the world has the player's card, made the request that it holds back, and its card took no more steps than were its turn
pub record IsPlayerOf (cards steps number : ℕ) (world : WorldState) (player : Player) : Type 0 where
  pub card_is : slice_get world.cards number ≡ Some player.card
  pub held : (request : Request) → player.held ≡ Some request → MadeBy number world request
  pub counter : cards * player.card.atc + number < steps + cards

pub record IsStateOf (cards steps : ℕ) (world : WorldState) (state : State) : Type 0 where
  pub played : IsPlayed cards world
  pub count : length state.players ≡ cards
  pub histories : histories_of world ≡ book_histories state.books
  pub each : (number : ℕ) (player : Player) → slice_get state.players number ≡ Some player → IsPlayerOf cards steps number world player

-- ---- the first state

abbrev first_world : ℕ → WorldState
first_world cards = record {
  issuer = issuer cards;
  cards = map (des_card key_set) (issuer cards).cards;
  made = [];
  shards = replicate 4 no_shard;
  claims = [];
  sent = [];
}

first-new : (cards : ℕ) → IsNewWorld (issuer cards) (first_world cards)
first-new cards =
    new-world (issuer cards) TripleDes (map (des_card key_set) (issuer cards).cards) (replicate 4 no_shard) [] [] []
    (record { set = key_set; first = refl; cards_are = des_cards-under key_set (issuer cards).cards }) refl refl refl refl

first-card : (cards number : ℕ) → number < cards → slice_get (first_world cards).cards number ≡ Some (new_player number).card
first-card cards number below =
    slice_get-map (des_card key_set) (issuer cards).cards number ∙ ap (option_map (des_card key_set)) (card-at cards number below)

first-issued : (cards number : ℕ) (card : CardState) → slice_get (first_world cards).cards number ≡ Some card → IsIssued number card
first-issued cards number card is =
    let within = slice_get_within (first_world cards).cards number card is in
    let count = (first-new cards).count in
    let all = cards-count cards in
    let below : number < cards = omega (arith, within, count, all) in
    subst (IsIssued number) (same_Some _ _ (sym (first-card cards number below) ∙ is)) (issued-new number)

first-played : (cards : ℕ) → IsPlayed cards (first_world cards)
first-played cards = record {
  events = [];
  run = (first_world cards, first-new cards, refl);
  issuer_is = refl;
  claims = refl;
  made = λ number request here. let none = here.1 in absurd (omega (arith, none));
  records = λ shard place entry is.
      absurd (none-some entry (ap (λ (state : ShardState). slice_get state.history place) (sym (none-at 4 shard)) ∙ is));
  issued = first-issued cards;
}

first-player : (cards number : ℕ) (player : Player) → slice_get (first_state cards).players number ≡ Some player
    → (number < cards) × (new_player number ≡ player)
first-player cards number player is =
    let within = slice_get_within (first_state cards).players number player is in
    let count = length-map-range_with_len new_player 0 cards in
    let below : number < cards = omega (arith, within, count) in (
      below,
      sym (get_or-map-range_with_len new_player 0 cards number number player below (omega arith))
          ∙ get_or_from_slice_get (first_state cards).players number player player is,
    )

new-atc : (number : ℕ) → (new_player number).card.atc ≡ 0
unfolding new_card
new-atc number = refl

first-each : (cards number : ℕ) → number < cards → IsPlayerOf cards 0 number (first_world cards) (new_player number)
first-each cards number below = record {
  card_is = first-card cards number below;
  held = λ request is. absurd (none-some request is);
  counter =
      let none : cards * (new_player number).card.atc ≡ 0 = ap (λ n. cards * n) (new-atc number) ∙ omega arith in
      omega (arith, none, below);
}

first-is : (cards : ℕ) → IsStateOf cards 0 (first_world cards) (first_state cards)
first-is cards = record {
  played = first-played cards;
  count = length-map-range_with_len new_player 0 cards;
  histories = refl;
  each = λ number player is.
      let it = first-player cards number player is in
      subst (IsPlayerOf cards 0 number (first_world cards)) it.1 (first-each cards number it.0);
}

-- ---- one step

-- the steps of a card are one a round
rounds : (cards atc steps : ℕ) → 1 ≤ cards → cards * atc + steps % cards < steps + cards → atc ≤ steps / cards
rounds cards atc steps some counter =
    let whole = div-add-mod steps cards in
    elim (cases_lt (steps / cards) atc) [
      | inl above ↦
          let more = mul-le cards (steps / cards + 1) cards atc (omega arith) (omega arith) in
          absurd (omega (arith, whole, more, counter))
      | inr within ↦ within
    ]

few-rounds : (cards steps : ℕ) → 1 ≤ cards → steps < 65535 * cards → steps / cards < 65535
few-rounds cards steps some few =
    let whole = div-add-mod steps cards in
    elim (cases_lt (steps / cards) 65535) [
      | inl below ↦ below
      | inr above ↦
          let more = mul-le cards 65535 cards (steps / cards) (omega arith) above in
          absurd (omega (arith, whole, more, few))
    ]

next-counter : (cards atc next steps : ℕ) → 1 ≤ cards → atc ≤ steps / cards → next ≤ atc + 1 → cards * next + steps % cards < suc steps + cards
next-counter cards atc next steps some within up =
    let whole = div-add-mod steps cards in
    let more = mul-le cards next cards (steps / cards + 1) (omega arith) (omega arith) in
    omega (arith, whole, more)

pub next-state : (cards seed steps : ℕ) → IsIssuer (issuer cards) → 1 ≤ cards → steps < 65535 * cards → (world : WorldState) (before after : State)
    → IsStateOf cards steps world before → IsStep cards seed steps before after → (later : WorldState) × IsStateOf cards (suc steps) later after
next-state cards seed steps valid some few world before after state step =
    let number = steps % cards in
    let below : number < cards = omega arith in
    let player = step.player in
    let last = step.last in
    let it = state.each number player step.player_is in
    let round = rounds cards player.card.atc steps some it.counter in
    let full = few-rounds cards steps some few in
    let first : Stage = record { player = player; books = before.books; tally = before.tally } in
    let idle : IsIdle cards number player.card.atc world first =
    record { played = state.played; card_is = it.card_is; histories = state.histories; held = it.held; counter = omega arith } in
    let done = fated cards number valid below player.card.atc (omega arith) (step_of steps cards seed) refl
    (fate_of steps cards seed) world first last idle step.moves in
    let later = done.0 in
    let now = done.2 in
    let counter = now.counter in
    let own : IsPlayerOf cards (suc steps) number later last.player =
    record { card_is = now.card_is; held = now.held; counter = next-counter cards player.card.atc last.player.card.atc steps some round counter } in
    let within = slice_get_within before.players number player step.player_is in
    let next : State = record { players = set before.players number last.player; books = last.books; tally = last.tally } in (
      later,
      subst (λ (state : State). IsStateOf cards (suc steps) later state) (sym step.after_is) (record {
        played = now.played;
        count = length-set before.players number last.player ∙ state.count;
        histories = now.histories;
        each = λ other found is.
            elim (cases_eq other number) [
              | inl same ↦
                  let there : slice_get (set before.players number last.player) number ≡ Some found =
                  ap (slice_get (set before.players number last.player)) (sym same) ∙ is in
                  subst (λ number. IsPlayerOf cards (suc steps) number later found) (sym same)
                  (subst (IsPlayerOf cards (suc steps) number later) (put-there before.players number last.player found within there) own)
              | inr apart ↦
                  let was = state.each other found (sym (read-other before.players number last.player other apart) ∙ is) in
                  record {
                    card_is = done.1.others other apart ∙ was.card_is;
                    held = λ request held. done.1.made (record { card = other; request = request }) (was.held request held);
                    counter = let c = was.counter in omega (arith, c);
                  }
            ];
      }),
    )

-- ---- all steps

pub states : (cards seed : ℕ) → IsIssuer (issuer cards) → 1 ≤ cards → (steps : ℕ) → steps ≤ 65535 * cards → (state : State)
    → IsAfter cards seed steps state → (world : WorldState) × IsStateOf cards steps world state
states cards seed valid some zero few state is = (first_world cards, subst (IsStateOf cards 0 (first_world cards)) (sym is) (first-is cards))
states cards seed valid some (suc steps) few state (before, is_after, step) =
    let so_far = states cards seed valid some steps (omega arith) before is_after in
    next-state cards seed steps valid some (omega arith) so_far.0 before state so_far.1 step

-- lists with the same elements are the same
same-places : {X : Type 0} (xs ys : List X) → length xs ≡ length ys → ((place : ℕ) (x : X) → slice_get ys place ≡ Some x → slice_get xs place ≡ Some x)
    → xs ≡ ys
same-places [] [] long same = refl
same-places [] (y ∷ ys) long same = absurd (omega (arith, long))
same-places (x ∷ xs) [] long same = absurd (omega (arith, long))
same-places {X} (x ∷ xs) (y ∷ ys) long same =
    let here : x ≡ y = same_Some _ _ (same 0 y refl) in
    let rest = same-places xs ys (omega (arith, long)) (λ place z is. same (suc place) z is) in
    (λ i. here i ∷ rest i)

-- so each state is the end of a genuine run
pub genuine-end : (cards steps : ℕ) (world : WorldState) (state : State) → IsIssuer (issuer cards) → IsStateOf cards steps world state
    → EndsGenuineRun cards state
genuine-end cards steps world state valid it =
    let sound = played-sound cards world valid it.played in
    let count : length world.cards ≡ cards =
    sound.cards.count ∙ ap (λ (setup : Setup). length setup.cards) it.played.issuer_is ∙ cards-count cards in
    let long : length (map (λ (player : Player). player.card) state.players) ≡ length state.players =
    length-map state.players (λ (player : Player). player.card) in
    record {
      events = it.played.events;
      world = world;
      run = it.played.run;
      cards_are = same-places world.cards (map (λ (player : Player). player.card) state.players) (count ∙ sym it.count ∙ sym long)
          (λ place card is.
          let within = slice_get_within (map (λ (player : Player). player.card) state.players) place card is in
          let found = read-within state.players place (omega (arith, within, long)) in
          let its : found.0.card ≡ card = same_Some _ _ (sym (slice_get-map (λ (player : Player). player.card) state.players place
          ∙ ap (option_map (λ (player : Player). player.card)) found.1) ∙ is) in
          (it.each place found.0 found.1).card_is ∙ ap Some its);
      histories_are = it.histories;
    }

pub every-genuine : (cards seed steps : ℕ) (state : State) → CanBePlayed cards steps → IsAfter cards seed steps state → EndsGenuineRun cards state
every-genuine cards seed steps state can is =
    let valid = issuer-valid cards can.some can.few in
    let it = states cards seed valid can.some steps can.counters state is in
    genuine-end cards steps it.0 state valid it.1
