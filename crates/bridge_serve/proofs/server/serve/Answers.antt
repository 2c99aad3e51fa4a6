-- What was said is written.
use Rattle.std.proofs.Common.{List, ℕ, Option, [], ap, sym, subst, refl, inl}
use Rattle.std.specs.List.{flat_map}
use Rattle.std.proofs.KnownBytes.{Appends-nil}
use Rattle.std.specs.Io.KnownBytes.{Appends}
use Rattle.bridge_lines.specs.ActLines.{lines_of}
use Rattle.bridge_serve.specs.declared.ended.Ended.TheVariants.{NoMemory}
use Rattle.bridge_serve.proofs.Serving.{ends-without-memory}
use Rattle.bridge_serve.proofs.Written.{prints-none, is-written, counts-none, counts-all}
use Rattle.bridge_serve.proofs.server.serve.Goals as goal

pub returns-in-Err-clause-run : goal.returns-in-Err-clause-run
returns-in-Err-clause-run g c =
    let held = g.W.Sink.held in
    record {
      said = [];
      ends = ends-without-memory [] (g.S.Source.left c.args.source.now) NoMemory (inl refl);
      written =
          subst (λ (o : Option (List ℕ)). Appends (held c.args.out) o []) (sym (ap held c.in-Err.ensures.out)) (Appends-nil (held c.args.out));
    }

pub returns-clause-run : goal.returns-clause-run
returns-clause-run g c =
    let held = g.W.Sink.held in
    let printer = c.in-Ok.printer in
    let none = c.in-Ok.ensures.none in
    let works = c.in-Ok.ensures.works in
    let ended = c.serve_to-ended in
    let run = ended.ensures.ends printer [] (
      prints-none (held printer.out) printer.text.items printer.has_failed none works,
      counts-none (g.W.Sink.faults printer.out) printer.has_failed works,
    ) in
    record {
      said = run.0;
      ends = run.2;
      written =
          is-written ended.result (held printer.out) (held ended.new.out.out) (held c.args.out) (held c.into_out-out.result) printer.text.items
          (flat_map lines_of run.0) ended.new.out.text.items printer.has_failed ended.new.out.has_failed (ap held c.in-Ok.ensures.out)
          (ap held c.into_out-out.ensures) none works run.1.0 ended.ensures.passed;
    }

pub returns-clause-writes : goal.returns-clause-writes
returns-clause-writes g c =
    let held = g.W.Sink.held in
    let faults = g.W.Sink.faults in
    let printer = c.in-Ok.printer in
    let none = c.in-Ok.ensures.none in
    let works = c.in-Ok.ensures.works in
    let ended = c.serve_to-ended in
    let run = ended.ensures.ends printer [] (
      prints-none (held printer.out) printer.text.items printer.has_failed none works,
      counts-none (faults printer.out) printer.has_failed works,
    ) in
    counts-all ended.result (faults printer.out) (faults ended.new.out.out) (faults c.args.out) (faults c.into_out-out.result) printer.has_failed
    ended.new.out.has_failed (ap faults c.in-Ok.ensures.out) (ap faults c.into_out-out.ensures) works run.1.1
    (λ other. (ended.ensures.passed other).1) ended.ensures.failed
