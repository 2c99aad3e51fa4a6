-- One more pair, up to all 32.
use Rattle.std.proofs.Common.{◌≡◌, ℕ, ◌+◌, ◌*◌, ◌%◌, ◌^◌, ◌<◌, List, [], get_or, ap, ap₂, sym, ◌∙◌, arith, subst}
use Rattle.des_lanes.specs.Lanes.{digit}
use Rattle.des_lanes.proofs.Turns.{Exchanges, Exchanges_none, Exchanges_more, Exchanges_all, row_low, row_high, low_digit, high_digit, next_low, next_high, width_is}
use Rattle.des_lanes.proofs.turning.exchange.Goals as goal

pub loop-pair-init : goal.loop-pair-init
loop-pair-init c = Exchanges_none c.args.rows.now c.args.k (omega arith)

pub loop-pair-preserved : goal.loop-pair-preserved
loop-pair-preserved c =
    let old : List (List ℕ) = c.args.rows.now in
    let k : ℕ = c.args.k in
    let i : ℕ = c.low_row-i.result in
    let w : ℕ = 1 * 2 ^ k % 2 ^ 64 in
    let small : c.loop-pair.pair < 32 = omega arith in
    let ew : w ≡ 2 ^ k = width_is k c.requires in
    let ei = c.low_row-i.ensures.row in
    let is_low : get_or c.loop-pair.rows i [] ≡ get_or old i [] =
    ap (λ i. get_or c.loop-pair.rows i []) ei ∙ next_low old k c.loop-pair.pair c.loop-pair.rows c.loop-pair.invariant c.requires small
    ∙ sym (ap (λ i. get_or old i []) ei) in
    let is_high : get_or c.loop-pair.rows (i + w) [] ≡ get_or old (i + w) [] =
    ap₂ (λ i w. get_or c.loop-pair.rows (i + w) []) ei ew ∙ next_high old k c.loop-pair.pair c.loop-pair.rows c.loop-pair.invariant c.requires small
    ∙ sym (ap₂ (λ i w. get_or old (i + w) []) ei ew) in
    Exchanges_more old k c.loop-pair.pair c.loop-pair.rows i w c.chosen.result c.chosen-in-loop-pair.result c.loop-pair.invariant c.requires small ei ew
    (row_low old i k w _ _ c.moved_right.result c.chosen.result c.requires ew (ap (digit k) ei ∙ low_digit k c.loop-pair.pair c.requires small)
    is_low is_high c.moved_right.ensures c.chosen.ensures)
    (row_high old i k w _ _ c.moved_left.result c.chosen-in-loop-pair.result c.requires ew
    (ap₂ (λ i w. digit k (i + w)) ei ew ∙ high_digit k c.loop-pair.pair c.requires small) is_low is_high c.moved_left.ensures c.chosen-in-loop-pair.ensures)

pub returns : goal.returns
returns c =
    let all : c.loop-pair.pair ≡ 32 = omega arith in
    Exchanges_all c.args.rows.now c.args.k c.loop-pair.rows (subst
    (λ (n : ℕ). Exchanges c.args.rows.now c.args.k n c.loop-pair.rows) all c.loop-pair.invariant) c.requires
