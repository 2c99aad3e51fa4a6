-- A byte is a common core identifier if it names a suite.
use Rattle.std.proofs.Common.{Option, ap, ◌∙◌}
use Rattle.std.specs.Option.{is_some}
use Rattle.issuer_base.specs.declared.request.Suite.{Suite}
use Rattle.issuer_base.proofs.ChipDataLemmas.{named-identifier}
use Rattle.issuer_base.proofs.chip_data.is_core_identifier.Goals as goal

pub returns : goal.returns
returns c = c.is_some.ensures ∙ ap (λ (found : Option Suite). is_some found) c.of.ensures ∙ named-identifier c.args.byte
