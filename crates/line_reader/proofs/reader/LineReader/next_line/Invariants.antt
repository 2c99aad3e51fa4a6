-- The bytes scanned are a prefix of one line without its newline, within the limits.
use Rattle.std.proofs.Common.{◌+◌, ◌-◌, length}
use Rattle.line_reader.specs.Window.{ahead_of}
use Rattle.line_reader.proofs.InLine.{InLine}
use Rattle.line_reader.proofs.reader.LineReader.next_line.Given as goal

abbrev pub invariant-loop-count : goal.invariant-loop-count
invariant-loop-count g l =
    let reader = l.self-inside in
    InLine (g.S.Source.left l.initial.source) (g.S.Source.left l.source) (g.S.Source.faults l.initial.source)
    (g.S.Source.faults l.source) l.fn.self reader.window reader.lines reader.bytes l.room l.length

abbrev pub decreases-loop-count : goal.decreases-loop-count
decreases-loop-count g l = l.room + 1 - (l.length + length (ahead_of l.self-inside.window))
