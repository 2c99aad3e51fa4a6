-- The lines of one more action wait.
use Rattle.std.proofs.Common.{List, ℕ, [], ◌++◌, ap, ◌∙◌, subst, append_assoc}
use Rattle.std.specs.List.{flat_map}
use Rattle.std.proofs.lemmas.List.{flat_map_more}
use Rattle.bridge_lines.specs.Acts.{act_of}
use Rattle.bridge_lines.specs.ActLines.{lines_of}
use Rattle.bridge_serve.specs.Printing.{Prints}
use Rattle.bridge_serve.proofs.Written.{prints-more, counts-once}
use Rattle.bridge_serve.proofs.printer.PrinterSpeaker.say.Goals as goal

pub returns : goal.returns
returns g c start said first =
    let act = act_of c.args.action.now in
    let held = g.W.Sink.held in (
      subst (λ (l : List ℕ). Prints (held start.out) (held c.put.new.self.out) l c.put.new.self.text.items start.has_failed c.put.new.self.has_failed)
          (append_assoc start.text.items (flat_map lines_of said) (lines_of act)
          ∙ ap (λ (l : List ℕ). start.text.items ++ l) (flat_map_more lines_of [] said act))
          (prints-more _ _ _ (start.text.items ++ flat_map lines_of said) (lines_of act) c.args.self.now.text.items c.put.new.self.text.items start.has_failed
          c.args.self.now.has_failed c.put.new.self.has_failed first.0 c.put.ensures.lines),
      counts-once _ _ _ start.has_failed c.args.self.now.has_failed c.put.new.self.has_failed first.1 c.put.ensures.count,
    )
