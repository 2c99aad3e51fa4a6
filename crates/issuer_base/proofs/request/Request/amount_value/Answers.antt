-- The amount of a request is decimal.
use Rattle.issuer_base.proofs.ChipDataLemmas.{amount-request}
use Rattle.issuer_base.proofs.request.Request.amount_value.Goals as goal

pub decimal_value-requires : goal.decimal_value-requires
decimal_value-requires c = amount-request c.self.inside.fields c.self.invariant
