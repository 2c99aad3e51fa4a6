-- The unread bytes have a newline if the last newline that was read ends after the scanned bytes.
use Rattle.std.proofs.Common.{◌≤◌, length, arith}
use Rattle.line_reader.proofs.Pieces.{first_ahead}
use Rattle.line_reader.proofs.window.Window.has_newline.Goals as goal

pub returns : goal.returns
returns c =
    let w = c.args.self.now in
    let bound : w.end ≤ length w.bytes.items = omega (arith, w.bytes.ok.0) in
    first_ahead w.bytes.items w.start w.end w.last_end w.last_within bound w.last_newline w.none_behind
