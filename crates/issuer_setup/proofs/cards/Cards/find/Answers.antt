-- The searched cards are valid.
use Rattle.issuer_setup.proofs.CardListLemmas.{bad_card-none}
use Rattle.issuer_setup.proofs.cards.Cards.find.Goals as goal

pub returns-clause-valid : goal.returns-clause-valid
returns-clause-valid c = rw (← c.self.view_is) (bad_card-none c.self.inside.kept.items c.self.invariant.0)
