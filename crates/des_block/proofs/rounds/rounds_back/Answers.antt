-- The rounds so far, four in a step, with the keys in reverse order.
use Rattle.std.proofs.Common.{◌≡◌, ◌+◌, ◌-◌, ◌*◌, ◌<◌, ℕ, length, map, reverse, get_or, [], sym, ap, ◌∙◌, arith}
use Rattle.std.proofs.lemmas.List.{get_or-map, get_or-reverse, length-map, length-reverse}
use Rattle.des_block.specs.Keyed.{key_bits}
use Rattle.des_block.proofs.MixedSteps.{Runs_none, Runs_four, Runs_all}
use Rattle.des_block.proofs.rounds.rounds_back.Goals as goal

pub loop-i-init : goal.loop-i-init
loop-i-init c = Runs_none (reverse (map key_bits c.args.keys.now)) c.args.halves.0 c.args.halves.1

pub loop-i-preserved : goal.loop-i-preserved
loop-i-preserved c =
    let keys = c.args.keys.now in
    let i : ℕ = c.loop-i.i in
    let len : length (map key_bits keys) ≡ 16 = length-map keys key_bits ∙ omega arith in
    let back : length (reverse (map key_bits keys)) ≡ 16 = length-reverse (map key_bits keys) ∙ len in
    let place : (n m : ℕ) → n < 16 → m ≡ 15 - n → get_or (reverse (map key_bits keys)) n [] ≡ get_or (map key_bits keys) m [] =
    λ n m h e. get_or-reverse (map key_bits keys) n [] (omega arith) ∙ ap (λ k. get_or (map key_bits keys) k []) (omega arith) in
    Runs_four (reverse (map key_bits keys)) c.args.halves.0 c.args.halves.1 i _ _ _ _ _ _ _ _ _ _ c.loop-i.invariant (omega arith)
    (sym (place (4 * i) (15 - 4 * i) (omega arith) (omega arith) ∙ get_or-map key_bits keys (15 - 4 * i) _ _ (omega arith)))
    (sym (place (4 * i + 1) (14 - 4 * i) (omega arith) (omega arith) ∙ get_or-map key_bits keys (14 - 4 * i) _ _ (omega arith)))
    (sym (place (4 * i + 2) (13 - 4 * i) (omega arith) (omega arith) ∙ get_or-map key_bits keys (13 - 4 * i) _ _ (omega arith)))
    (sym (place (4 * i + 3) (12 - 4 * i) (omega arith) (omega arith) ∙ get_or-map key_bits keys (12 - 4 * i) _ _ (omega arith))) c.two_rounds-middle.ensures
    c.two_rounds-ready.ensures

pub returns : goal.returns
returns c =
    let len : length (map key_bits c.args.keys.now) ≡ 16 = length-map c.args.keys.now key_bits ∙ omega arith in
    let back : length (reverse (map key_bits c.args.keys.now)) ≡ 16 = length-reverse (map key_bits c.args.keys.now) ∙ len in
    Runs_all (reverse (map key_bits c.args.keys.now)) c.args.halves.0 c.args.halves.1 (4 * c.loop-i.i) c.loop-i.ready.0 c.loop-i.ready.1
    c.loop-i.invariant (omega arith)
