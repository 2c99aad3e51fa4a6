-- The cards so far are parsed from the elements before this one, and there is room for all.
use Rattle.std.proofs.Common.{◌≡◌, length, vec_capacity}
use Rattle.config_read.specs.Elements.{card_in}
use Rattle.config_read.proofs.FrontLemmas.{HasFront}
use Rattle.config_read.proofs.front.front_cards.Given as goal

abbrev pub invariant-loop-element : goal.invariant-loop-element
invariant-loop-element l = record {
  said : HasFront card_in l.elements l.element-index l.cards.items;
  room : vec_capacity l.cards ≡ length l.elements;
}
