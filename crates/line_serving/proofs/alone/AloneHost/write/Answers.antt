-- The lines that wait are answered, and all answers of the block are written.
use Rattle.std.proofs.Common.{List, ℕ, [], length, ap, arith, subst, sym}
use Rattle.issuer_base.specs.Sink.{WritesAll}
use Rattle.line_checks.specs.LookedUp.{AreLookUps}
use Rattle.line_serving.proofs.DurableAlone.{durable-text, recorded-written}
use Rattle.line_serving.proofs.alone.AloneHost.write.Goals as goal

pub returns-clause-written : goal.returns-clause-written
returns-clause-written g c = λ first lines text waiting so_far.
    let settled = c.settle.ensures.answered first lines text waiting so_far in
    record {
      more = settled.more;
      served = settled.served;
      written =
          subst (λ (t : List ℕ). WritesAll (g.W.Sink.held c.args.out.now) (g.W.Sink.held c.write_durable.new.out) c.write_durable.result t)
          settled.due c.write_durable.ensures.written;
    }

pub write_durable-requires : goal.write_durable-requires
write_durable-requires g c = record {
  durable = durable-text c.settle.new.self.host c.settle.new.block.text.items c.settle.ensures.recorded;
}

pub returns-clause-room : goal.returns-clause-room
returns-clause-room g c =
    let count = c.settle.ensures.count in
    let few = c.requires.few in
    let fit = c.requires.fit in
    let none = ap length c.settle.ensures.none in
    let lines = c.write_durable.ensures.none.1 in
    record {
      may_settle = record {
        waiting = [];
        looked_up = subst (AreLookUps c.settle.new.self.host.issuer []) (sym c.settle.ensures.none) tt;
        few = omega (arith, none);
        fit = omega (arith, none, lines);
        recorded = recorded-written c.settle.new.self.host c.settle.new.block.text.items c.settle.ensures.recorded;
      };
      fits = omega (arith, none, lines);
    }
