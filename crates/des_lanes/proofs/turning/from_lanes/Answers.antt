-- Turned, row i is column i, and holds two words.
use Rattle.std.proofs.Common.{rules, ◌≡◌, ℕ, refl, arith, subst, get_or, sym}
use Rattle.des_lanes.proofs.WordLanes.{Splits, Splits_none, Splits_more, Splits_fits, from_is, lane_word-from_bits}
use Rattle.des_lanes.proofs.turning.from_lanes.Goals as goal

pub loop-i-init : goal.loop-i-init
loop-i-init c = Splits_none _ _ refl

pub loop-i-preserved : goal.loop-i-preserved
loop-i-preserved c =
    Splits_more c.turn.new.rows c.loop-i.i c.word_of.result c.word_of-in-loop-i.result c.loop-i.words c.loop-i.invariant (omega arith)
    c.word_of.ensures c.word_of-in-loop-i.ensures (search rules) (search rules)

pub returns : goal.returns
returns c = λ lane below.
    let all : c.loop-i.i ≡ 64 = omega arith in
    let done : Splits c.turn.new.rows 64 c.loop-i.words = subst (λ (i : ℕ). Splits c.turn.new.rows i c.loop-i.words) all c.loop-i.invariant in
    sym (lane_word-from_bits lane c.args.pairs.now (get_or c.loop-i.words lane 0) (Splits_fits c.turn.new.rows c.loop-i.words done lane below)
    (sym (from_is c.args.pairs.now c.turn.new.rows c.loop-i.words done
    (omega arith) c.turn.ensures lane below)))
