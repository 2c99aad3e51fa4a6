-- The lines are checked and taken, behind the whole lines of the stream.
use Rattle.std.proofs.Common.{◌++◌, refl}
use Rattle.std.specs.List.{flat_map}
use Rattle.line_reader.specs.Lines.{ended}
use Rattle.standby_node.proofs.Ahead.{ahead-same, lines-begun}
use Rattle.standby_node.proofs.Fed.{fed-live}
use Rattle.standby_node.proofs.standby.Standby.take_lines.Goals as goal

pub returns-clause-fed : goal.returns-clause-fed
returns-clause-fed g c in_doubt opening histories stream lines was is =
    let issuer = c.args.issuer.now in
    let begun = lines-begun issuer in_doubt opening stream c.args.self.now _ histories was refl c.clear.ensures refl in
    let taken = c.take_ahead-taken.ensures.fed in_doubt opening histories was.taken.lines lines begun
    (ahead-same histories lines _ _ c.check.ensures.lines is) in (
      taken.0,
      fed-live issuer in_doubt opening (flat_map ended (was.taken.lines ++ lines)) c.take_ahead-taken.result c.take_ahead-taken.new.self _ taken.0 taken.1,
      taken.2,
    )
