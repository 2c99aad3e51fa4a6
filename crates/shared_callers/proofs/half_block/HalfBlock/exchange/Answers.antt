-- The texts were written, and then lines were taken; or the sink failed.
use Rattle.std.proofs.Common.{[], ◌∙◌, arith}
use Rattle.shared_callers.proofs.Writing.{exchanged-failed, same-rooms}
use Rattle.shared_callers.proofs.half_block.HalfBlock.exchange.Goals as goal

pub returns-in_err-write_due-clause-exchanged : goal.returns-in_err-write_due-clause-exchanged
returns-in_err-write_due-clause-exchanged g c =
    let wrote = c.write_due.ensures in
    exchanged-failed c.args.self.now c.write_due.new.self c.args.reader.now (g.W.Sink.held c.args.out.now) (g.W.Sink.held c.write_due.new.out)
    c.write_due.result c.in_err-write_due.field-0.0 c.from_residual.result c.in_err-write_due.was c.from_residual.ensures.0 wrote.written wrote.waiting
    wrote.counts.0 (wrote.counts.1 ∙ c.requires.none) wrote.rooms

pub returns-clause-exchanged : goal.returns-clause-exchanged
returns-clause-exchanged g c =
    let wrote = c.in_ok-write_due.ensures in
    record {
      written = λ taken due are.
          let all = wrote.written taken due are in
          (c.take_lines.ensures.due _ _ all.0, all.1);
      dealt = λ before are.
          let all = c.take_lines.ensures.taken before [] (wrote.waiting before [] are) in
          (all.0, all.1, all.2, tt);
      none_due = c.take_lines.ensures.counts.0 ∙ wrote.counts.0;
      fewer = omega (arith, c.take_lines.ensures.counts.1, wrote.counts.1, c.requires.none);
      read = c.take_lines.ensures.counts.2;
      rooms = same-rooms c.args.self.now c.write_due.new.self c.take_lines.new.self wrote.rooms c.take_lines.ensures.rooms;
    }
