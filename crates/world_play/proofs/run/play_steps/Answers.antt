-- One step more.
use Rattle.std.proofs.Common.{◌≡◌, ◌<◌, ◌+◌, ◌%◌, ◌∙◌, length, ap, sym, subst, arith, length-set, refl}
use Rattle.std.specs.Prelude.{slice_get, slice_set, Some}
use Rattle.std.proofs.lemmas.Option.{slice_get_read}
use Rattle.world_net.specs.Fate.{fate_of}
use Rattle.world_play.specs.declared.setting.Step.{Step}
use Rattle.world_play.specs.Moves.{moves_of}
use Rattle.world_play.specs.Reaching.{IsAt}
use Rattle.world_play.proofs.Steps.{step_goes}
use Rattle.world_play.proofs.Turns.{left_from, turn-begins, room-begins, room-turn, counts-begin, counts-next, own-next, own-start, room-start, counts-start}
use Rattle.world_play.proofs.run.play_steps.Goals as goal

pub play-requires-clause-turn : goal.play-requires-clause-turn
play-requires-clause-turn c =
    let players = c.loop-index.players.items in
    let place_is : c.step_of-step.result.card ≡ c.loop-index.index % c.args.cards = ap (λ (step : Step). step.card) c.step_of-step.ensures in
    let within : c.step_of-step.result.card < length players = omega (arith, place_is, c.requires.cards.0, c.loop-index.invariant.count) in
    let player_is = slice_get_read players _ c.step_of-step.result.card c.index_mut.result.now refl within c.index_mut.ensures.value in
    turn-begins c.args.cards c.args.seed c.loop-index.index c.loop-index.house players c.index_mut.result.now c.step_of-step.result c.requires.cards.0
    c.requires.cards.1 c.loop-index.invariant.at c.loop-index.invariant.own
    (subst (λ place. slice_get players place ≡ Some c.index_mut.result.now) place_is player_is) c.step_of-step.ensures

pub play-requires-clause-room : goal.play-requires-clause-room
play-requires-clause-room c =
    let moves_are = c.moves_of-moves.ensures ∙ ap moves_of (c.fate.ensures ∙ ap (λ index. fate_of index c.args.cards c.args.seed) c.from.ensures) in
    room-begins c.args.cards c.args.seed c.args.steps c.loop-index.index c.loop-index.house c.step_of-step.result c.moves_of-moves.result.now
    (fate_of c.loop-index.index c.args.cards c.args.seed) (omega arith) c.step_of-step.ensures moves_are c.loop-index.invariant.room

pub play-requires-clause-counts : goal.play-requires-clause-counts
play-requires-clause-counts c =
    let moves_are = c.moves_of-moves.ensures ∙ ap moves_of (c.fate.ensures ∙ ap (λ index. fate_of index c.args.cards c.args.seed) c.from.ensures) in
    counts-begin c.args.cards c.args.seed c.args.steps c.loop-index.index c.loop-index.house c.step_of-step.result c.moves_of-moves.result.now
    (fate_of c.loop-index.index c.args.cards c.args.seed) (omega arith) c.step_of-step.ensures moves_are c.requires.steps c.loop-index.invariant.counts

pub loop-index-preserved : goal.loop-index-preserved
loop-index-preserved c =
    let players = c.loop-index.players.items in
    let step = c.step_of-step.result in
    let moves = c.moves_of-moves.result.now in
    let fate = fate_of c.loop-index.index c.args.cards c.args.seed in
    let place_is : step.card ≡ c.loop-index.index % c.args.cards = ap (λ (step : Step). step.card) c.step_of-step.ensures in
    let within : step.card < length players = omega (arith, place_is, c.requires.cards.0, c.loop-index.invariant.count) in
    let player_is = slice_get_read players _ step.card c.index_mut.result.now refl within c.index_mut.ensures.value in
    let moves_are = c.moves_of-moves.ensures ∙ ap moves_of (c.fate.ensures ∙ ap (λ index. fate_of index c.args.cards c.args.seed) c.from.ensures) in
    record {
      at = subst (λ place. IsAt c.args.cards c.args.seed (c.loop-index.index + 1) c.play.new.house (slice_set players place c.play.new.self)) (sym place_is)
          (step_goes c.args.cards c.args.seed c.loop-index.index c.loop-index.house c.play.new.house players c.index_mut.result.now c.play.new.self
          step moves c.loop-index.invariant.at
          (subst (λ place. slice_get players place ≡ Some c.index_mut.result.now) place_is player_is) c.step_of-step.ensures moves_are
          c.in_ok-play.ensures.reached);
      count = length-set players step.card c.play.new.self ∙ c.loop-index.invariant.count;
      own = own-next c.args.cards players step.card c.index_mut.result.now c.play.new.self c.requires.cards.0 c.requires.cards.1
          c.loop-index.invariant.count within player_is c.loop-index.invariant.own c.in_ok-play.ensures.own;
      room = c.in_ok-play.ensures.used.0 (left_from c.args.cards c.args.steps (c.loop-index.index + 1))
          (room-turn c.args.cards c.args.seed c.args.steps c.loop-index.index c.loop-index.house step moves fate (omega arith) c.step_of-step.ensures moves_are
          c.loop-index.invariant.room);
      counts = counts-next c.args.cards c.args.seed c.args.steps c.loop-index.index c.loop-index.house step moves fate
          (omega arith) c.step_of-step.ensures moves_are
          c.play.new.house c.in_ok-play.ensures.used.1 c.loop-index.invariant.counts;
    }

pub loop-index-init : goal.loop-index-init
loop-index-init c = record {
  at = c.requires.first;
  count = c.requires.players;
  own = own-start c.args.cards c.args.seed c.args.house.now c.args.players.now.items c.requires.first;
  room = room-start c.args.cards c.args.steps c.args.house.now c.requires.room;
  counts = counts-start c.args.cards c.args.seed c.args.house.now c.args.players.now.items c.requires.first;
}
