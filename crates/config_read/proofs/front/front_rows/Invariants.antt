-- The rows so far are parsed from the elements before this one.
use Rattle.config_read.specs.Elements.{row_in}
use Rattle.config_read.proofs.FrontLemmas.{HasFront}
use Rattle.config_read.proofs.front.front_rows.Given as goal

abbrev pub invariant-loop-element : goal.invariant-loop-element
invariant-loop-element l = HasFront row_in l.elements l.element-index l.rows.items
