-- A slot that has keys is one of the stored pairs.
use Rattle.issuer_setup.proofs.KeptKeysLemmas.{slot-within}
use Rattle.issuer_setup.proofs.issuer.Issuer.keep.Goals as goal

pub keep-requires : goal.keep-requires
keep-requires c =
    slot-within c.self.inside.keys c.self.inside.cards c.self.inside.kept c.args.slot c.self.invariant (rw (← c.self.view_is) at c.requires)
