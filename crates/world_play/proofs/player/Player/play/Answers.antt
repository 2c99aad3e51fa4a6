-- One move more is made, and all are made at the end.
use Rattle.std.proofs.Common.{◌≡◌, length, subst, arith}
use Rattle.std.proofs.lemmas.Option.{slice_get-get_or}
use Rattle.world_play.proofs.Moving.{IsOnTheWay, way_begins, way_goes, way_ends}
use Rattle.world_play.proofs.Turns.{within-begins, turn-goes, room-goes, counts-go, within-goes, within-ends}
use Rattle.world_play.proofs.player.Player.play.Goals as goal

pub make-requires-clause-turn : goal.make-requires-clause-turn
make-requires-clause-turn c =
    turn-goes c.args.step.now c.args.moves.now c.loop-next.next-index c.args.house.now c.args.self.now c.loop-next.house c.loop-next.self
    c.loop-next.invariant.within
    c.requires.turn c.loop-next.invariant.way.issuer_is

pub make-requires-clause-room : goal.make-requires-clause-room
make-requires-clause-room c =
    room-goes c.args.step.now c.args.moves.now c.loop-next.next-index c.args.house.now c.args.self.now c.loop-next.house c.loop-next.self
    c.loop-next.invariant.within
    _ (slice_get-get_or c.args.moves.now c.loop-next.next-index _ (omega arith)) c.requires.room

pub make-requires-clause-counts : goal.make-requires-clause-counts
make-requires-clause-counts c =
    counts-go c.args.step.now c.args.moves.now c.loop-next.next-index c.args.house.now c.args.self.now c.loop-next.house c.loop-next.self
    c.loop-next.invariant.within
    (omega arith) c.requires.counts

pub loop-next-preserved : goal.loop-next-preserved
loop-next-preserved c =
    record {
      way = way_goes c.args.step.now c.args.moves.now c.loop-next.next-index _ c.args.house.now c.args.self.now c.loop-next.house c.loop-next.self
          c.make.new.house
          c.make.new.self (slice_get-get_or c.args.moves.now c.loop-next.next-index _ (omega arith)) c.loop-next.invariant.way c.in_ok-make.ensures.reached;
      within = within-goes c.args.step.now c.args.moves.now c.loop-next.next-index c.args.house.now c.args.self.now c.loop-next.house c.loop-next.self
          c.loop-next.invariant.within _ c.make.new.house c.make.new.self (slice_get-get_or c.args.moves.now c.loop-next.next-index _ (omega arith))
          c.in_ok-make.ensures.own c.in_ok-make.ensures.room c.in_ok-make.ensures.counts;
    }

pub returns-clause-reached : goal.returns-clause-reached
returns-clause-reached c =
    way_ends c.args.step.now c.args.moves.now c.args.house.now c.args.self.now c.loop-next.house c.loop-next.self
    (subst (λ made. IsOnTheWay c.args.step.now c.args.moves.now made c.args.house.now c.args.self.now c.loop-next.house c.loop-next.self)
    (let e : c.loop-next.next-index ≡ length c.args.moves.now = omega arith in e) c.loop-next.invariant.way)

pub returns-clause-own : goal.returns-clause-own
returns-clause-own c = c.loop-next.invariant.within.own

pub returns-clause-used : goal.returns-clause-used
returns-clause-used c =
    within-ends c.args.step.now c.args.moves.now c.loop-next.next-index c.args.house.now c.args.self.now c.loop-next.house c.loop-next.self
    (let e : c.loop-next.next-index ≡ length c.args.moves.now = omega arith in e) c.loop-next.invariant.within

pub loop-next-init : goal.loop-next-init
loop-next-init c = record {
  way = way_begins c.args.step.now c.args.moves.now c.args.house.now c.args.self.now;
  within = within-begins c.args.step.now c.args.moves.now c.args.house.now c.args.self.now;
}
