-- A text is written, or the first bytes of it.
use Rattle.bridge_serve.proofs.Written.{prints}
use Rattle.bridge_serve.proofs.printer.write_out.Goals as goal

pub returns-clause-bytes : goal.returns-clause-bytes
returns-clause-bytes g c =
    prints (g.W.Sink.held c.args.out.now) (g.W.Sink.held c.write_all.new.out) c.write_all.result c.args.text.now.items c.as_slice.result.now
    c.args.has_failed c.is_err-failed.result c.as_slice.ensures.value c.if-has_failed.false c.is_err-failed.ensures.value c.write_all.ensures.bytes
