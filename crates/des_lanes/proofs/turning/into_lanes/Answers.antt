-- Turned, column i of the rows is row i.
use Rattle.std.proofs.Common.{◌≡◌, ℕ, refl, arith, subst, get_or}
use Rattle.des_lanes.proofs.Pairs.{Fills, Fills_none, Fills_more}
use Rattle.des_lanes.proofs.WordLanes.{row_bit, row_step, into_is, lane_word-from_bits}
use Rattle.des_lanes.proofs.turning.into_lanes.Goals as goal

pub loop-i-init : goal.loop-i-init
loop-i-init c = Fills_none _ 64 _ refl

pub loop-i-preserved : goal.loop-i-preserved
loop-i-preserved c =
    Fills_more _ 64 c.loop-i.i c.loop-i.rows _ c.loop-i.invariant (omega arith) (λ lane. row_step c.args.words.now lane c.loop-i.i)

pub returns : goal.returns
returns c = λ lane below.
    let all : c.loop-i.i ≡ 64 = omega arith in
    lane_word-from_bits lane c.turn.new.rows (get_or c.args.words.now lane 0) (c.fits-words lane)
    (into_is c.args.words.now c.loop-i.rows c.turn.new.rows (subst (λ (i : ℕ). Fills (row_bit c.args.words.now) 64 i c.loop-i.rows) all c.loop-i.invariant)
    (omega arith) c.turn.ensures lane below)
