-- The steps of a run, and the counts at its end.
use Rattle.std.proofs.Common.{◌≡◌, ℕ, zero, suc, ◌+◌, ◌<◌, ◌%◌, List, [], ◌∷◌, length, take, map, replicate, Option, None, Some}
use Rattle.std.proofs.Common.{refl, ap, ap₂, sym, subst, ◌∙◌, arith}
use Rattle.std.specs.Prelude.{slice_get, slice_set, sum_by}
use Rattle.std.specs.Option.{option_map, option_map_or}
use Rattle.std.specs.List.{range_with_len}
use Rattle.std.proofs.lemmas.Option.{slice_get-map, get_or_from_slice_get}
use Rattle.std.proofs.lemmas.List.Sums.{sum_by-cons}
use Rattle.issuer_base.specs.declared.outside.store.Store.{Ghosts}
use Rattle.issuer_base.specs.CardNames.{CardName}
use Rattle.issuer_setup.specs.declared.card.CardInfo.{CardInfo}
use Rattle.issuer_setup.specs.CardList.{name_of, number_of}
use Rattle.issuer_setup.specs.IssuerSetup.{Setup, shard_of}
use Rattle.shard_book.specs.declared.shard.Shard.{Shard}
use Rattle.card_history.specs.declared.card_view.CardView.{CardView}
use Rattle.host_loading.specs.Books.{ShardBook, histories_of}
use Rattle.host_loading.specs.Hosts.{AreShards, Stand}
use Rattle.card_history.specs.CardViews.{card_shown}
use Rattle.host_loading.proofs.Places.{read-within}
use Rattle.world_net.specs.Fate.{fate_of}
use Rattle.world_play.specs.declared.house.House.{House}
use Rattle.world_play.specs.declared.moves.Move.{Move}
use Rattle.world_play.specs.declared.player.Player.{Player}
use Rattle.world_play.specs.declared.setting.Step.{Step}
use Rattle.world_play.specs.Moves.{moves_of}
use Rattle.world_play.specs.Play.{State, Stage, MakesAll, IsAfter, new_player, no_counts, empty_book, shown}
use Rattle.world_play.specs.Reaching.{Reaches, IsAt, stage_at}
use Rattle.world_play.specs.Setting.{issuer, step_of}

-- one step more
pub step_goes : (cards seed index : ℕ) (old new : House) (players : List Player) (player after : Player) (step : Step) (moves : List Move)
    → IsAt cards seed index old players → slice_get players (index % cards) ≡ Some player → step ≡ step_of index cards seed
    → moves ≡ moves_of (fate_of index cards seed) → Reaches (MakesAll old.host.issuer step moves) old player new after
    → IsAt cards seed (index + 1) new (slice_set players (index % cards) after)
step_goes cards seed index old new players player after step moves at player_is step_is moves_are reached =
    let led = reached.leads at.books at.stand in
    let first : Stage = stage_at old player at.books in
    let last : Stage = stage_at new after led.0 in
    let before : State = record { players = players; books = at.books; tally = old.tally } in
    let state : State = record { players = slice_set players (index % cards) after; books = led.0; tally = new.tally } in
    let made = subst (λ (moves : List Move). MakesAll (issuer cards) (step_of index cards seed) moves first last) moves_are
    (subst (λ (step : Step). MakesAll (issuer cards) step moves first last) step_is
    (subst (λ (setup : Setup). MakesAll setup step moves first last) at.issuer_is led.2)) in
    record {
      books = led.0;
      issuer_is = reached.issuer_is ∙ at.issuer_is;
      stand = led.1;
      is_after = subst (λ steps. IsAfter cards seed steps state) (let e : suc index ≡ index + 1 = omega arith in e)
          (before, at.is_after, record { player = player; last = last; player_is = player_is; moves = made; after_is = refl });
    }

-- the start
pub start_at : (cards seed : ℕ) (house : House) (players : List Player) → house.host.issuer ≡ issuer cards
    → Stand house.host.issuer house.host.shards.items (replicate 4 empty_book) → house.tally ≡ no_counts
    → players ≡ map new_player (range_with_len 0 cards) → IsAt cards seed 0 house players
start_at cards seed house players issuer_is stand none made = record {
  books = replicate 4 empty_book;
  issuer_is = issuer_is;
  stand = stand;
  is_after =
      ap₂ (λ (players : List Player) tally. let state : State = record { players = players; books = replicate 4 empty_book; tally = tally } in state) made none;
}

-- ---- the counts at the end

-- the sum over the first things and one more
pub sum_next : {X : Type 0} (f : X → ℕ) (xs : List X) (n : ℕ) (x : X) → slice_get xs n ≡ Some x → sum_by f (take (suc n) xs) ≡ sum_by f (take n xs) + f x
sum_next f [] n x is = absurd (let e : None ≡ Some x = is in cc)
sum_next f (y ∷ xs) zero x is = let e : Some y ≡ Some x = is in let w : y ≡ x = cc in ap (λ z. 0 + f z) w
sum_next f (y ∷ xs) (suc n) x is =
    let here = sum_by-cons f y (take (suc n) xs) in
    let front = sum_by-cons f y (take n xs) in
    let rest = sum_next f xs n x is in
    omega (arith, here, front, rest)

shard-within : (setup : Setup) (name : CardName) → 0 < setup.shards → shard_of setup name < setup.shards
shard-within setup name some =
    elim (number_of name setup.cards) as (λ found. option_map_or (λ number. number % setup.shards) found 0 < setup.shards) [
      | None ↦ some
      | Some number ↦ omega arith
    ]

-- what a host shows of a card is what its shard's book says
pub shown_is : {S : Type 0} {G : Ghosts S} (setup : Setup) (shards : List (Shard S G)) (books : List ShardBook) (info : CardInfo) (view : CardView)
    → AreShards setup shards → Stand setup shards books → 0 < setup.shards
    → ((book : ShardBook) → slice_get books (shard_of setup (name_of info)) ≡ Some book → view ≡ card_shown (name_of info) book.history)
    → view ≡ shown setup books info
shown_is setup shards books info view are stand some shows =
    let below = shard-within setup (name_of info) some in
    let count = stand.count_is in
    let many = are.count_is in
    let within : shard_of setup (name_of info) < length books = omega (arith, below, count, many) in
    let book = read-within books (shard_of setup (name_of info)) within in
    let histories : slice_get (histories_of books) (shard_of setup (name_of info)) ≡ Some book.0.history =
    slice_get-map (λ (b : ShardBook). b.history) books (shard_of setup (name_of info)) ∙ ap (λ (o : Option ShardBook). option_map (λ (b : ShardBook). b.history) o) book.1 in
    let history = get_or_from_slice_get (histories_of books) (shard_of setup (name_of info)) book.0.history [] histories in
    shows book.0 book.1 ∙ ap (card_shown (name_of info)) (sym history)

-- so one more card adds what is shown of it
pub shown_more : {S : Type 0} {G : Ghosts S} (setup : Setup) (shards : List (Shard S G)) (books : List ShardBook) (f : CardView → ℕ) (number : ℕ) (view : CardView)
    (total more : ℕ) → AreShards setup shards → Stand setup shards books → 0 < setup.shards → number < length setup.cards
    → ((info : CardInfo) (book : ShardBook) → slice_get setup.cards number ≡ Some info → slice_get books (shard_of setup (name_of info)) ≡ Some book
    → view ≡ card_shown (name_of info) book.history)
    → total ≡ sum_by (λ info. f (shown setup books info)) (take number setup.cards) → more ≡ f view
    → total + more ≡ sum_by (λ info. f (shown setup books info)) (take (number + 1) setup.cards)
shown_more setup shards books f number view total more are stand some within shows so_far is =
    let found = read-within setup.cards number within in
    let view_is = shown_is setup shards books found.0 view are stand some (λ book at. shows found.0 book found.1 at) in
    let next = sum_next (λ info. f (shown setup books info)) setup.cards number found.0 found.1 in
    ap₂ (λ a b. a + b) so_far (is ∙ ap f view_is)
    ∙ sym next
    ∙ ap (λ n. sum_by (λ info. f (shown setup books info)) (take n setup.cards)) (let e : suc number ≡ number + 1 = omega arith in e)
