-- The rounds of both blocks so far, with the keys in reverse order.
use Rattle.std.proofs.Common.{◌≡◌, ◌+◌, ◌-◌, ◌*◌, ◌<◌, ℕ, length, map, reverse, get_or, [], sym, ap, ◌∙◌, arith}
use Rattle.std.proofs.lemmas.List.{get_or-map, get_or-reverse, length-map, length-reverse}
use Rattle.des_block.specs.Keyed.{key_bits}
use Rattle.des_block.proofs.MixedSteps.{Runs_none, Runs_four, Runs_all}
use Rattle.des_block.proofs.rounds.rounds_of_both_back.Goals as goal

pub loop-i-init : goal.loop-i-init
loop-i-init c =
    let keys = c.args.keys.now in
    (Runs_none (reverse (map key_bits keys)) c.args.first.0 c.args.first.1, Runs_none (reverse (map key_bits keys)) c.args.second.0 c.args.second.1)

pub loop-i-preserved : goal.loop-i-preserved
loop-i-preserved c =
    let keys = c.args.keys.now in
    let i : ℕ = c.loop-i.i in
    let len : length (map key_bits keys) ≡ 16 = length-map keys key_bits ∙ omega arith in
    let back : length (reverse (map key_bits keys)) ≡ 16 = length-reverse (map key_bits keys) ∙ len in
    let place : (n m : ℕ) → n < 16 → m ≡ 15 - n → get_or (reverse (map key_bits keys)) n [] ≡ get_or (map key_bits keys) m [] =
    λ n m h e. get_or-reverse (map key_bits keys) n [] (omega arith) ∙ ap (λ k. get_or (map key_bits keys) k []) (omega arith) in (
      Runs_four (reverse (map key_bits keys)) c.args.first.0 c.args.first.1 i _ _ _ _ _ _ _ _ _ _ c.loop-i.invariant.0 (omega arith)
          (sym (place (4 * i) (15 - 4 * i) (omega arith) (omega arith) ∙ get_or-map key_bits keys (15 - 4 * i) _ _ (omega arith)))
          (sym (place (4 * i + 1) (14 - 4 * i) (omega arith) (omega arith) ∙ get_or-map key_bits keys (14 - 4 * i) _ _ (omega arith)))
          (sym (place (4 * i + 2) (13 - 4 * i) (omega arith) (omega arith) ∙ get_or-map key_bits keys (13 - 4 * i) _ _ (omega arith)))
          (sym (place (4 * i + 3) (12 - 4 * i) (omega arith) (omega arith) ∙ get_or-map key_bits keys (12 - 4 * i) _ _ (omega arith)))
          c.two_rounds_of_both-middle.ensures.first c.two_rounds_of_both-ready.ensures.first,
      Runs_four (reverse (map key_bits keys)) c.args.second.0 c.args.second.1 i _ _ _ _ _ _ _ _ _ _ c.loop-i.invariant.1 (omega arith)
          (sym (place (4 * i) (15 - 4 * i) (omega arith) (omega arith) ∙ get_or-map key_bits keys (15 - 4 * i) _ _ (omega arith)))
          (sym (place (4 * i + 1) (14 - 4 * i) (omega arith) (omega arith) ∙ get_or-map key_bits keys (14 - 4 * i) _ _ (omega arith)))
          (sym (place (4 * i + 2) (13 - 4 * i) (omega arith) (omega arith) ∙ get_or-map key_bits keys (13 - 4 * i) _ _ (omega arith)))
          (sym (place (4 * i + 3) (12 - 4 * i) (omega arith) (omega arith) ∙ get_or-map key_bits keys (12 - 4 * i) _ _ (omega arith)))
          c.two_rounds_of_both-middle.ensures.second c.two_rounds_of_both-ready.ensures.second,
    )

pub returns-clause-first : goal.returns-clause-first
returns-clause-first c =
    let keys = c.args.keys.now in
    let len : length (map key_bits keys) ≡ 16 = length-map keys key_bits ∙ omega arith in
    let back : length (reverse (map key_bits keys)) ≡ 16 = length-reverse (map key_bits keys) ∙ len in
    Runs_all (reverse (map key_bits keys)) c.args.first.0 c.args.first.1 (4 * c.loop-i.i) c.loop-i.ready.0.0 c.loop-i.ready.0.1
    c.loop-i.invariant.0 (omega arith)

pub returns-clause-second : goal.returns-clause-second
returns-clause-second c =
    let keys = c.args.keys.now in
    let len : length (map key_bits keys) ≡ 16 = length-map keys key_bits ∙ omega arith in
    let back : length (reverse (map key_bits keys)) ≡ 16 = length-reverse (map key_bits keys) ∙ len in
    Runs_all (reverse (map key_bits keys)) c.args.second.0 c.args.second.1 (4 * c.loop-i.i) c.loop-i.ready.1.0 c.loop-i.ready.1.1
    c.loop-i.invariant.1 (omega arith)
