-- The rounds so far, four in a step.
use Rattle.std.proofs.Common.{◌≡◌, ◌+◌, ◌*◌, ℕ, length, map, sym, arith}
use Rattle.std.proofs.lemmas.List.{get_or-map, length-map}
use Rattle.des_block.specs.Keyed.{key_bits}
use Rattle.des_block.proofs.MixedSteps.{Runs_none, Runs_four, Runs_all}
use Rattle.des_block.proofs.rounds.rounds.Goals as goal

pub loop-i-init : goal.loop-i-init
loop-i-init c = Runs_none (map key_bits c.args.keys.now) c.args.halves.0 c.args.halves.1

pub loop-i-preserved : goal.loop-i-preserved
loop-i-preserved c =
    let keys = c.args.keys.now in
    let i : ℕ = c.loop-i.i in
    let len : length (map key_bits keys) ≡ length keys = length-map keys key_bits in
    Runs_four (map key_bits keys) c.args.halves.0 c.args.halves.1 i _ _ _ _ _ _ _ _ _ _ c.loop-i.invariant (omega arith)
    (sym (get_or-map key_bits keys (4 * i) _ _ (omega arith))) (sym (get_or-map key_bits keys (4 * i + 1) _ _ (omega arith)))
    (sym (get_or-map key_bits keys (4 * i + 2) _ _ (omega arith))) (sym (get_or-map key_bits keys (4 * i + 3) _ _ (omega arith)))
    c.two_rounds-middle.ensures c.two_rounds-ready.ensures

pub returns : goal.returns
returns c =
    let len : length (map key_bits c.args.keys.now) ≡ length c.args.keys.now = length-map c.args.keys.now key_bits in
    Runs_all (map key_bits c.args.keys.now) c.args.halves.0 c.args.halves.1 (4 * c.loop-i.i) c.loop-i.ready.0 c.loop-i.ready.1 c.loop-i.invariant (omega arith)
