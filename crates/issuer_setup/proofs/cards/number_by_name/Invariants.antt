-- The map has the numbers of the cards so far, and none of these is refused.
use Rattle.std.proofs.Common.{◌≡◌, [], take, drop}
use Rattle.issuer_setup.specs.CardIds.{AreNumbersOf}
use Rattle.issuer_setup.specs.CardList.{first_bad}
use Rattle.issuer_setup.proofs.cards.number_by_name.Given as goal

abbrev pub invariant-loop-index : goal.invariant-loop-index
invariant-loop-index l = record {
  found : AreNumbersOf (take l.index l.cards) l.numbers;
  rest : first_bad (take l.index l.cards) (drop l.index l.cards) ≡ first_bad [] l.cards;
}
