-- The stored key sets are valid.
use Rattle.issuer_setup.proofs.KeyListLemmas.{bad_key-none}
use Rattle.issuer_setup.proofs.key_sets.KeySets.as_slice.Goals as goal

pub returns-clause-valid : goal.returns-clause-valid
returns-clause-valid c = rw (← c.self.view_is) (bad_key-none c.self.inside.kept.items (rw c.as_slice.ensures.value at c.as_slice.ensures.fits) c.self.invariant)
