-- One more line is read ahead.
use Rattle.std.proofs.Common.{List, [], ◌∷◌, ◌++◌, length, ap, arith, sym, subst}
use Rattle.std.proofs.lemmas.List.{length_push}
use Rattle.std.proofs.lemmas.Slice.Zip.{all_zipped_more}
use Rattle.std.specs.List.{AllZip}
use Rattle.standby_node.specs.declared.line.ReadLine.{ReadLine}
use Rattle.standby_node.specs.ReadLines.{IsReadAs}
use Rattle.standby_node.proofs.Ahead.{each-push}
use Rattle.standby_node.proofs.standby.Standby.read_ahead.Goals as goal

pub returns-clause-read : goal.returns-clause-read
returns-clause-read g c in_doubt histories lines hold is =
    let line = c.args.line.now in
    let before : List ReadLine = c.args.ahead.now.lines.items in
    record {
      whole = each-push lines line is.whole c.requires.line;
      read =
          subst (AllZip (IsReadAs histories) (lines ++ line ∷ [])) (sym c.add.ensures.added)
          (all_zipped_more (IsReadAs histories) lines before line c.read_line-read.result.0 is.read (c.read_line-read.ensures.read in_doubt histories hold));
    }

pub returns-clause-count : goal.returns-clause-count
returns-clause-count g c =
    omega (arith, ap length c.add.ensures.added, length_push c.args.ahead.now.lines.items c.read_line-read.result.0)
