-- Items that begin in the second slice are there; others continue in the second slice where the first ends.
use Rattle.std.proofs.Common.{◌≡◌, ℕ, ◌+◌, ◌-◌, ◌≤◌, List, ◌++◌, length, take, drop, ap, sym, ◌∙◌, arith}
use Rattle.std.proofs.lemmas.List.{drop-append-le, take_rest}
use Rattle.std.proofs.Math.Seq.{take-append-add, drop-append-add}
use Rattle.issuer_base.specs.declared.command.Command.{Command}
use Rattle.script_queue.proofs.queue.between.Goals as goal

-- items that begin behind the first part
behind_first : (first second : List Command) (skip count : ℕ) → length first ≤ skip
    → take (skip - length first + count - (skip - length first)) (drop (skip - length first) second) ≡ take count (drop skip (first ++ second))
behind_first first second skip count behind =
    let start = skip - length first in
    let places : length first + start ≡ skip = omega arith in
    let size : start + count - start ≡ count = omega arith in
    ap (λ n. take n (drop start second)) size
    ∙ ap (take count) (sym (drop-append-add first second start) ∙ ap (λ n. drop n (first ++ second)) places)

-- items that end behind the first part, of which this is left
across : (left second : List Command) (count : ℕ) → length left ≤ count → left ++ take (count - length left) second ≡ take count (left ++ second)
across left second count behind =
    let places : length left + (count - length left) ≡ count = omega arith in
    sym (take-append-add left second (count - length left)) ∙ ap (λ n. take n (left ++ second)) places

pub returns-then-skip-first : goal.returns-then-skip-first
returns-then-skip-first c = behind_first c.args.first.now c.args.second.now c.args.skip c.args.count (omega arith)

pub returns : goal.returns
returns c =
    let first = c.args.first.now in
    let skip = c.args.skip in
    let left : List Command = take (length first - skip) (drop skip first) in
    let left_is : left ≡ drop skip first = take_rest first skip in
    across left c.args.second.now c.args.count (omega arith)
    ∙ ap (take c.args.count) (ap (λ left. left ++ c.args.second.now) left_is ∙ sym (drop-append-le skip first c.args.second.now (omega arith)))
