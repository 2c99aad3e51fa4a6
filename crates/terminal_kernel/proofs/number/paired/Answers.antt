-- Each step writes the next pair, and the end the digit that is left.
use Rattle.std.proofs.Common.{◌≡◌, ◌+◌, ◌-◌, ◌*◌, ◌++◌, ◌∷◌, [], List, ℕ, length, drop, get_or, ap, sym, ◌∙◌, append_assoc, append-nil, length-append, arith}
use Rattle.terminal_kernel.specs.Requested.{number_bytes}
use Rattle.terminal_kernel.proofs.NumberBytes.{number_bytes-pair, number_bytes-even, number_bytes-odd}
use Rattle.terminal_kernel.proofs.number.paired.Goals as goal

pub pairs-preserved : goal.pairs-preserved
pairs-preserved c = (
  let pair = number_bytes-pair c.args.digits.now c.pairs.i (omega arith) in
      ap (λ (front : List ℕ). front ++ number_bytes (drop (2 * (c.pairs.i + 1)) c.args.digits.now)) c.push.ensures.items
      ∙ append_assoc c.pairs.bytes.items _ _
      ∙ ap (λ (back : List ℕ). c.pairs.bytes.items ++ back) (sym pair)
      ∙ c.pairs.invariant.0,
  grind (arith, length-append, ap length c.push.ensures.items),
)

pub returns-then-digits-eq1-clause-bytes : goal.returns-then-digits-eq1-clause-bytes
returns-then-digits-eq1-clause-bytes c =
    let digits = c.args.digits.now in
    let last : length digits - 1 ≡ 2 * c.pairs.i = omega arith in
    c.push-then-digits-eq1.ensures.items
    ∙ ap (λ (n : ℕ). c.pairs.bytes.items ++ (16 * get_or digits n 0 + 15) ∷ []) last
    ∙ ap (λ (back : List ℕ). c.pairs.bytes.items ++ back) (sym (number_bytes-odd digits c.pairs.i (omega arith)))
    ∙ c.pairs.invariant.0

pub returns-else-digits-eq1-clause-bytes : goal.returns-else-digits-eq1-clause-bytes
returns-else-digits-eq1-clause-bytes c =
    let none = number_bytes-even c.args.digits.now c.pairs.i (omega arith) in
    sym (append-nil c.pairs.bytes.items)
    ∙ ap (λ (back : List ℕ). c.pairs.bytes.items ++ back) (sym none)
    ∙ c.pairs.invariant.0
