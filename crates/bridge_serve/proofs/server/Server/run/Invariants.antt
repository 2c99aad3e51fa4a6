-- It has gone on so far.
use Rattle.std.proofs.Common.{List, ℕ, Option, false}
use Rattle.issuer_base.specs.OutsideFaults.{CountsFaults}
use Rattle.bridge_lines.specs.Acts.{Act}
use Rattle.bridge_serve.specs.Ends.{Serves}
use Rattle.bridge_serve.specs.Reading.{ahead_of}
use Rattle.bridge_serve.proofs.server.Server.run.Given as goal

abbrev pub invariant-loop : goal.invariant-loop
invariant-loop g l = record {
  goes_on : (start : g.row.O.Denot) (before said : List Act) (all : Option (List ℕ))
      → Serves before all (g.S.Source.left l.initial.source) (ahead_of l.initial.self.window) l.initial.self.desk said
      → g.O.Speaker.says start l.initial.out said
      → (now : List Act) × g.O.Speaker.says start l.out now
      × Serves before all (g.S.Source.left l.source) (ahead_of l.self.window) l.self.desk now;
  count : CountsFaults (g.S.Source.faults l.initial.source) (g.S.Source.faults l.source) false;
}
