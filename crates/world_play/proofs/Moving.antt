-- One move of a step, as the program makes it.
use Rattle.std.proofs.Common.{◌≡◌, ℕ, zero, suc, ◌+◌, List, [], ◌∷◌, length, drop, Option, None, Some, refl, ap, sym, subst, ◌∙◌, arith}
use Rattle.std.specs.Prelude.{slice_get}
use Rattle.issuer_setup.specs.IssuerSetup.{Setup}
use Rattle.issuer_base.specs.declared.request.Parts.{Parts}
use Rattle.card_model.specs.Application.{CardState}
use Rattle.card_model.specs.CardSteps.{CardStep, Tap as TapEvent}
use Rattle.host_loading.specs.Books.{ShardBook}
use Rattle.host_loading.specs.Hosts.{Stand}
use Rattle.world_play.specs.declared.house.House.{House}
use Rattle.world_play.specs.declared.moves.Move.{Move}
use Rattle.world_play.specs.declared.moves.Move.TheVariants.{Tap}
use Rattle.world_play.specs.declared.player.Player.{Player}
use Rattle.world_play.specs.declared.setting.Step.{Step}
use Rattle.world_play.specs.declared.summary.Summary.{Summary}
use Rattle.world_play.specs.Play.{Stage, Makes, MakesAll, with_tap}
use Rattle.world_play.specs.Reaching.{Reaches, stage_at}
use Rattle.world_play.specs.Setting.{terminal_of}

-- behind the first moves the next one stands in front of the rest
drop-suc : {X : Type 0} (xs : List X) (n : ℕ) (x : X) → slice_get xs n ≡ Some x → drop n xs ≡ x ∷ drop (suc n) xs
drop-suc [] n x is = absurd (let e : None ≡ Some x = is in cc)
drop-suc (y ∷ xs) zero x is = let e : Some y ≡ Some x = is in ap (λ z. z ∷ xs) (let w : y ≡ x = cc in w)
drop-suc (y ∷ xs) (suc n) x is = drop-suc xs n x is

drop-next : {X : Type 0} (xs : List X) (n : ℕ) (x : X) → slice_get xs n ≡ Some x → drop n xs ≡ x ∷ drop (n + 1) xs
drop-next xs n x is = subst (λ more. drop n xs ≡ x ∷ drop more xs) (let e : suc n ≡ n + 1 = omega arith in e) (drop-suc xs n x is)

drop-all : {X : Type 0} (xs : List X) → drop (length xs) xs ≡ []
drop-all [] = refl
drop-all (x ∷ xs) = drop-all xs

-- a tap
pub tapped_once : (house : House) (player : Player) (step : Step) (request : Option Parts) (card : CardState) (tally : Summary)
    → CardStep player.card (TapEvent (terminal_of step) request) card → tally ≡ with_tap house.tally request
    → Reaches (Makes house.host.issuer step Tap) house player (record { host = house.host; tally = tally })
    (record { card = card; request = request; reply = None; held = player.held })
unfolding CardStep
tapped_once house player step request card tally moved counted = record {
  issuer_is = refl;
  leads = λ books stand. (
    books,
    stand,
    ap (λ (counts : Summary). record {
      player = record { card = card; request = request; reply = None; held = player.held };
      books = books;
      tally = counts;
    }) counted
        ∙ ap (λ (found : Option Parts × CardState). record {
          player = record player { card = found.1; request = found.0; reply = None };
          books = books;
          tally = with_tap house.tally found.0;
        }) moved,
  );
}

-- so many of the moves were made: from whatever books, the rest lead on from where they led to
pub record IsOnTheWay (step : Step) (moves : List Move) (made : ℕ) (old : House) (before : Player) (new : House) (after : Player) : Type 0 where
  pub issuer_is : new.host.issuer ≡ old.host.issuer
  pub leads : (books : List ShardBook) → Stand old.host.issuer old.host.shards.items books
      → (last : List ShardBook) × Stand new.host.issuer new.host.shards.items last
      × ((end : Stage) → MakesAll old.host.issuer step (drop made moves) (stage_at new after last) end
      → MakesAll old.host.issuer step moves (stage_at old before books) end)

-- none was made
pub way_begins : (step : Step) (moves : List Move) (house : House) (player : Player) → IsOnTheWay step moves 0 house player house player
way_begins step moves house player = record { issuer_is = refl; leads = λ books stand. (books, stand, λ end made. made) }

-- one more is made
pub way_goes : (step : Step) (moves : List Move) (made : ℕ) (next : Move) (old : House) (before : Player) (now : House) (player : Player) (new : House)
    (after : Player) → slice_get moves made ≡ Some next → IsOnTheWay step moves made old before now player
    → Reaches (Makes now.host.issuer step next) now player new after → IsOnTheWay step moves (made + 1) old before new after
way_goes step moves made next old before now player new after is way moved = record {
  issuer_is = moved.issuer_is ∙ way.issuer_is;
  leads = λ books stand.
      let so_far = way.leads books stand in
      let more = moved.leads so_far.0 so_far.1 in (
        more.0,
        more.1,
        λ end rest.
            so_far.2 end (subst (λ (left : List Move). MakesAll old.host.issuer step left (stage_at now player so_far.0) end)
            (sym (drop-next moves made next is)) (
              stage_at new after more.0,
              subst (λ (setup : Setup). Makes setup step next (stage_at now player so_far.0) (stage_at new after more.0)) way.issuer_is more.2,
              rest,
            )),
      );
}

-- all were made
pub way_ends : (step : Step) (moves : List Move) (old : House) (before : Player) (new : House) (after : Player)
    → IsOnTheWay step moves (length moves) old before new after → Reaches (MakesAll old.host.issuer step moves) old before new after
way_ends step moves old before new after way = record {
  issuer_is = way.issuer_is;
  leads = λ books stand.
      let led = way.leads books stand in (
        led.0,
        led.1,
        led.2 (stage_at new after led.0)
            (subst (λ (left : List Move). MakesAll old.host.issuer step left (stage_at new after led.0) (stage_at new after led.0))
            (sym (drop-all moves)) refl),
      );
}
