-- Bytes that are taken leave the unread bytes and extend the current line.
use Rattle.std.proofs.Common.{◌≤◌, ◌-◌, length, sym, arith}
use Rattle.line_reader.proofs.Pieces.{drop-between, length-between, line-grown, line-joined}
use Rattle.line_reader.proofs.window.Window.take.Goals as goal

pub returns-clause-ahead : goal.returns-clause-ahead
returns-clause-ahead c = let w = c.args.self.now in sym (drop-between w.bytes.items w.start w.end c.args.count)

pub returns-clause-passed : goal.returns-clause-passed
returns-clause-passed c = λ passed h.
    let w = c.args.self.now in
    let bytes = w.bytes.items in
    let bound : w.end ≤ length bytes = omega (arith, w.bytes.ok.0) in
    let within : c.args.count ≤ w.end - w.start = omega (arith, length-between bytes w.start w.end bound) in
    record {
      in_hand = line-grown bytes w.line_start w.line_end w.start w.end c.args.count c.min.result 2051 passed c.min.ensures w.line_in_order
          (omega arith) within h.joined h.in_hand;
      joined = line-joined bytes w.line_start w.line_end w.start w.end c.args.count c.min.result 2051 passed c.min.ensures w.line_in_order
          (omega arith) bound within h.joined h.in_hand;
    }
