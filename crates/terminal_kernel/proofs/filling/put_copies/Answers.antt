-- The first of many copies are copies.
use Rattle.std.proofs.Common.{◌≡◌, ◌++◌, ◌∙◌, List, ℕ, take, replicate, ap, arith}
use Rattle.std.proofs.lemmas.Grind.{common_steps}
use Rattle.std.proofs.lemmas.List.{take-replicate}
use Rattle.terminal_kernel.specs.declared.limits.TheConstants.{MAX_FILLED_BYTES}
use Rattle.terminal_kernel.proofs.filling.put_copies.Goals as goal

pub returns-clause-bytes : goal.returns-clause-bytes
returns-clause-bytes c =
    let text : c.try_extend_from_slice.new.self.items ≡ c.args.out.now.items ++ take c.args.count (replicate MAX_FILLED_BYTES c.args.byte) =
    grind (arith, common_steps) in
    text ∙ ap (λ (xs : List ℕ). c.args.out.now.items ++ xs) (take-replicate c.args.count MAX_FILLED_BYTES c.args.byte (omega arith))
