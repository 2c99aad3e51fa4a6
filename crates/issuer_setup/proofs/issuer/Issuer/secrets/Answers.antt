-- A slot that has keys is that of a stored pair, which has these keys in the slot's suite.
use Rattle.std.proofs.Common.{sym}
use Rattle.issuer_setup.proofs.KeptKeysLemmas.{slot-within, slot-keys}
use Rattle.issuer_setup.proofs.issuer.Issuer.secrets.Goals as goal

pub secrets-requires : goal.secrets-requires
secrets-requires c =
    slot-within c.self.inside.keys c.self.inside.cards c.self.inside.kept c.args.slot c.self.invariant
    (rw (← c.self.view_is) at c.requires)

pub returns : goal.returns
returns c =
    rw (← c.self.view_is) (sym (
    slot-keys c.self.inside.keys c.self.inside.cards c.self.inside.kept c.args.slot c.secrets.result.now c.self.invariant
    c.secrets.ensures))
