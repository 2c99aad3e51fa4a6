-- One more write takes the next bytes of the piece.
use Rattle.std.proofs.Common.{arith, ◌∙◌}
use Rattle.std.proofs.lemmas.Grind.{common_steps}
use Rattle.std.proofs.lemmas.List.{take_rest}
use Rattle.issuer_base.proofs.ManyCalls.{Appends-more}
use Rattle.issuer_base.proofs.outside.write_all.Goals as goal

pub loop-written-preserved : goal.loop-written-preserved
loop-written-preserved g c = (
  grind (arith, common_steps),
  Appends-more _ _ _ c.args.piece.now _ _ c.loop-written.invariant.1 (rw take_rest at c.in_ok-written.ensures.bytes),
  c.in_ok-written.ensures.count.counted ∙ c.loop-written.invariant.2,
)
