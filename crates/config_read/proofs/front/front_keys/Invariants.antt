-- The key sets so far are parsed from the elements before this one.
use Rattle.config_read.specs.Elements.{key_set_in}
use Rattle.config_read.proofs.FrontLemmas.{HasFront}
use Rattle.config_read.proofs.front.front_keys.Given as goal

abbrev pub invariant-loop-element : goal.invariant-loop-element
invariant-loop-element l = HasFront key_set_in l.elements l.element-index l.keys.items
