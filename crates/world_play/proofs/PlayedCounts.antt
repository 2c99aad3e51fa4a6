-- What a played run comes to is in order, since its last state is the end of a genuine run.
use Rattle.std.proofs.Common.{◌≡◌, ℕ, suc, ◌%◌, ◌<◌, ◌≤◌, List, [], ◌∷◌, length, get_or, Some, refl, ap, sym, ◌∙◌, subst, arith, Result, IfOk, ◌*◌}
use Rattle.std.proofs.lemmas.Result.{IfOk-weaker}
use Rattle.issuer_base.specs.declared.limits.TheConstants.{MAX_CARDS}
use Rattle.std.specs.Prelude.{slice_get, sum_by}
use Rattle.std.proofs.lemmas.List.Sums.{sum_by-cons}
use Rattle.issuer_base.specs.declared.entry.Entry.{Entry}
use Rattle.issuer_setup.specs.declared.card.CardInfo.{CardInfo}
use Rattle.issuer_setup.specs.CardList.{name_of}
use Rattle.issuer_setup.specs.IssuerSetup.{Setup, shard_of}
use Rattle.issuer_setup.proofs.Shards.{shard_of-known}
use Rattle.host_loading.specs.Books.{histories_of as book_histories}
use Rattle.host_loading.proofs.Places.{read-within}
use Rattle.world_net.specs.WorldState.{WorldState, shard_at}
use Rattle.world_net.specs.WorldRuns.{IsIssuer}
use Rattle.world_net.specs.Safety.{RanInOrder}
use Rattle.world_net.proofs.Hosts.{histories-at}
use Rattle.world_net.proofs.KeptWorlds.{kept-in_order}
use Rattle.world_play.specs.declared.player.Player.{Player}
use Rattle.world_play.specs.declared.summary.Summary.{Summary}
use Rattle.world_play.specs.Genuine.{CanBePlayed, CountsInOrder}
use Rattle.world_play.specs.Play.{State, ComesTo, shown, one_if, summed}
use Rattle.world_play.specs.Setting.{card_info, issuer}
use Rattle.world_play.proofs.PlayedCards.{issuer-valid, card-at, card-is, cards-count, number-known}
use Rattle.world_play.proofs.PlayedWorlds.{played-kept}
use Rattle.world_play.proofs.PlayedStates.{IsStateOf, states}

-- sums of numbers of which each is within another
sums-within : {X Y : Type 0} (f : X → ℕ) (g : Y → ℕ) (xs : List X) (ys : List Y) → length xs ≡ length ys
    → ((place : ℕ) (x : X) (y : Y) → slice_get xs place ≡ Some x → slice_get ys place ≡ Some y → f x ≤ g y) → sum_by f xs ≤ sum_by g ys
sums-within f g [] [] long each = omega arith
sums-within f g [] (y ∷ ys) long each = absurd (omega (arith, long))
sums-within f g (x ∷ xs) [] long each = absurd (omega (arith, long))
sums-within f g (x ∷ xs) (y ∷ ys) long each =
    let here = each 0 x y refl refl in
    let rest = sums-within f g xs ys (omega (arith, long)) (λ place x y is other. each (suc place) x y is other) in
    let one = sum_by-cons f x xs in
    let another = sum_by-cons g y ys in
    omega (arith, here, rest, one, another)

sums-none : {X : Type 0} (f : X → ℕ) (xs : List X) → ((place : ℕ) (x : X) → slice_get xs place ≡ Some x → f x ≡ 0) → sum_by f xs ≡ 0
sums-none f [] each = refl
sums-none f (x ∷ xs) each =
    let here = each 0 x refl in
    let rest = sums-none f xs (λ place x is. each (suc place) x is) in
    let one = sum_by-cons f x xs in
    omega (arith, here, rest, one)

module _ (cards steps : ℕ) (world : WorldState) (state : State) (valid : IsIssuer (issuer cards)) (it : IsStateOf cards steps world state) where
  -- what the host shows of a card is by the history of the card's shard
  shown-history : (number : ℕ) → number < cards
      → get_or (book_histories state.books) (shard_of (issuer cards) (name_of (card_info number))) [] ≡ (shard_at world (number % world.issuer.shards)).history
  shown-history number below =
      let name = name_of (card_info number) in
      let shard = shard_of (issuer cards) name in
      let home : shard ≡ number % world.issuer.shards =
      shard_of-known (issuer cards) name number (number-known cards number valid below)
      ∙ ap (λ (setup : Setup). number % setup.shards) (sym it.played.issuer_is) in
      ap (λ (histories : List (List Entry)). get_or histories shard []) (sym it.histories)
      ∙ histories-at world.shards shard
      ∙ ap (λ shard. (shard_at world shard).history) home

  ran : (number : ℕ) (info : CardInfo) (player : Player) → slice_get (issuer cards).cards number ≡ Some info → slice_get state.players number ≡ Some player
      → RanInOrder (name_of (card_info number)) (get_or (book_histories state.books) (shard_of (issuer cards) (name_of (card_info number))) []) player.card.ran
  ran number info player info_is player_is =
      let known = card-is cards number info info_is in
      let here : slice_get world.issuer.cards number ≡ Some (card_info number) =
      ap (λ (setup : Setup). slice_get setup.cards number) it.played.issuer_is ∙ card-at cards number known.0 in
      subst (λ (history : List Entry). RanInOrder (name_of (card_info number)) history player.card.ran) (sym (shown-history number known.0))
      (kept-in_order world (played-kept cards world valid it.played) number (card_info number) player.card here (it.each number player player_is).card_is)

  done-within : (number : ℕ) (info : CardInfo) (player : Player) → slice_get (issuer cards).cards number ≡ Some info
      → slice_get state.players number ≡ Some player → (shown (issuer cards) state.books info).done ≤ length player.card.ran
  done-within number info player info_is player_is =
      let known = card-is cards number info info_is in
      subst (λ (info : CardInfo). (shown (issuer cards) state.books info).done ≤ length player.card.ran) known.1
      (ran number info player info_is player_is).at_least

  none-halted : (number : ℕ) (info : CardInfo) → slice_get (issuer cards).cards number ≡ Some info
      → one_if (shown (issuer cards) state.books info).halted ≡ 0
  none-halted number info info_is =
      let known = card-is cards number info info_is in
      let count = it.count in
      let player = read-within state.players number (let below = known.0 in omega (arith, below, count)) in
      subst (λ (info : CardInfo). one_if (shown (issuer cards) state.books info).halted ≡ 0) known.1
      (ap one_if (ran number info player.0 info_is player.1).goes_on)

  pub state-order : CountsInOrder (summed (issuer cards) state)
  state-order = record {
    none_halted = sums-none (λ info. one_if (shown (issuer cards) state.books info).halted) (issuer cards).cards none-halted;
    done_ran = sums-within (λ info. (shown (issuer cards) state.books info).done) (λ (player : Player). length player.card.ran)
        (issuer cards).cards state.players
        (cards-count cards ∙ sym it.count) done-within;
  }

-- so what the run comes to is in order
pub every-order : (cards steps seed : ℕ) (summary : Summary) → CanBePlayed cards steps → ComesTo cards steps seed summary → CountsInOrder summary
every-order cards steps seed summary can comes =
    let valid = issuer-valid cards can.some can.few in
    let it = states cards seed valid can.some steps can.counters comes.last comes.is_after in
    subst CountsInOrder (sym comes.summary_is) (state-order cards steps it.0 comes.last valid it.1)

-- whatever is played
pub played-order : {E : Type 0} (result : Result Summary E) (cards steps seed : ℕ) → 1 ≤ cards → cards ≤ MAX_CARDS → steps ≤ 65535 * cards
    → IfOk result (ComesTo cards steps seed) → IfOk result CountsInOrder
played-order result cards steps seed some few counters comes =
    IfOk-weaker result (ComesTo cards steps seed) CountsInOrder
    (λ summary. every-order cards steps seed summary (record { some = some; few = few; counters = counters })) comes
