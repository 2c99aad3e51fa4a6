-- The block has the texts that were due, and they are written.
use Rattle.std.proofs.Common.{subst}
use Rattle.issuer_base.specs.Sink.{WritesAll}
use Rattle.shared_callers.proofs.half_block.HalfBlock.write_due.Goals as goal

pub returns-clause-written : goal.returns-clause-written
returns-clause-written g c =
    λ taken due are.
    let all = c.append_due.ensures.due taken due are in (
      all.0,
      subst (WritesAll (g.W.Sink.held c.args.out.now) (g.W.Sink.held c.write.new.out) c.write.result) all.1 c.write.ensures.written,
    )
