-- The slots before the requested one are opened.
use Rattle.std.proofs.Common.{ℕ, ◌++◌, replicate, None, ap, ◌∙◌, arith}
use Rattle.reply_keep.proofs.window.open_before.Goals as goal

pub returns-clause-grown : goal.returns-clause-grown
returns-clause-grown c =
    c.loop.invariant.grown
    ∙ ap (λ (n : ℕ). c.args.opened.now.items ++ replicate n None)
    (let past = c.loop-test.false in let end = c.loop.auto.counter-end in omega (arith, past, end))
