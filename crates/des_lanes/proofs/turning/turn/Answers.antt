-- One more digit, up to all six.
use Rattle.std.proofs.Common.{◌≡◌, ℕ, arith, subst}
use Rattle.des_lanes.proofs.Turns.{Turns, Turns_none, Turns_more, Turns_all}
use Rattle.des_lanes.proofs.turning.turn.Goals as goal

pub loop-k-init : goal.loop-k-init
loop-k-init c = Turns_none c.args.rows.now

pub loop-k-preserved : goal.loop-k-preserved
loop-k-preserved c = Turns_more c.args.rows.now c.loop-k.k c.loop-k.rows c.exchange.new.rows c.loop-k.invariant (omega arith) c.exchange.ensures

pub returns : goal.returns
returns c =
    let all : c.loop-k.k ≡ 6 = omega arith in
    Turns_all c.args.rows.now c.loop-k.rows (subst (λ (k : ℕ). Turns c.args.rows.now k c.loop-k.rows) all c.loop-k.invariant)
