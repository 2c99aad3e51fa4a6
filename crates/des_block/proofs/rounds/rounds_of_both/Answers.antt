-- The rounds of both blocks so far.
use Rattle.std.proofs.Common.{◌≡◌, ◌+◌, ◌*◌, ℕ, length, map, sym, arith}
use Rattle.std.proofs.lemmas.List.{get_or-map, length-map}
use Rattle.des_block.specs.Keyed.{key_bits}
use Rattle.des_block.proofs.MixedSteps.{Runs_none, Runs_four, Runs_all}
use Rattle.des_block.proofs.rounds.rounds_of_both.Goals as goal

pub loop-i-init : goal.loop-i-init
loop-i-init c =
    let keys = c.args.keys.now in
    (Runs_none (map key_bits keys) c.args.first.0 c.args.first.1, Runs_none (map key_bits keys) c.args.second.0 c.args.second.1)

pub loop-i-preserved : goal.loop-i-preserved
loop-i-preserved c =
    let keys = c.args.keys.now in
    let i : ℕ = c.loop-i.i in
    let len : length (map key_bits keys) ≡ length keys = length-map keys key_bits in (
      Runs_four (map key_bits keys) c.args.first.0 c.args.first.1 i _ _ _ _ _ _ _ _ _ _ c.loop-i.invariant.0 (omega arith)
          (sym (get_or-map key_bits keys (4 * i) _ _ (omega arith))) (sym (get_or-map key_bits keys (4 * i + 1) _ _ (omega arith)))
          (sym (get_or-map key_bits keys (4 * i + 2) _ _ (omega arith))) (sym (get_or-map key_bits keys (4 * i + 3) _ _ (omega arith)))
          c.two_rounds_of_both-middle.ensures.first c.two_rounds_of_both-ready.ensures.first,
      Runs_four (map key_bits keys) c.args.second.0 c.args.second.1 i _ _ _ _ _ _ _ _ _ _ c.loop-i.invariant.1 (omega arith)
          (sym (get_or-map key_bits keys (4 * i) _ _ (omega arith))) (sym (get_or-map key_bits keys (4 * i + 1) _ _ (omega arith)))
          (sym (get_or-map key_bits keys (4 * i + 2) _ _ (omega arith))) (sym (get_or-map key_bits keys (4 * i + 3) _ _ (omega arith)))
          c.two_rounds_of_both-middle.ensures.second c.two_rounds_of_both-ready.ensures.second,
    )

pub returns-clause-first : goal.returns-clause-first
returns-clause-first c =
    let keys = c.args.keys.now in
    let len : length (map key_bits keys) ≡ length keys = length-map keys key_bits in
    Runs_all (map key_bits keys) c.args.first.0 c.args.first.1 (4 * c.loop-i.i) c.loop-i.ready.0.0 c.loop-i.ready.0.1 c.loop-i.invariant.0 (omega arith)

pub returns-clause-second : goal.returns-clause-second
returns-clause-second c =
    let keys = c.args.keys.now in
    let len : length (map key_bits keys) ≡ length keys = length-map keys key_bits in
    Runs_all (map key_bits keys) c.args.second.0 c.args.second.1 (4 * c.loop-i.i) c.loop-i.ready.1.0 c.loop-i.ready.1.1 c.loop-i.invariant.1 (omega arith)
