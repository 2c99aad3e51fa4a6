-- A request's common core identifier names its suite.
use Rattle.issuer_base.proofs.ChipDataLemmas.{named-suite, request-named}
use Rattle.std.proofs.Common.{◌≡◌, refl, sym, subst, ◌∙◌}
use Rattle.issuer_base.specs.declared.request.Parts.{Parts}
use Rattle.issuer_base.specs.ChipData.{suite_of}
use Rattle.issuer_base.proofs.request.Request.suite.Goals as goal

pub unreachable-requires : goal.unreachable-requires
unreachable-requires c = request-named c.self.inside.fields c.self.invariant (sym c.of.ensures ∙ c.in-None.is)

pub returns : goal.returns
returns c =
    subst (λ (parts : Parts). c.in-Some.suite ≡ suite_of parts) c.self.view_is
    (named-suite c.self.inside.fields _ c.in-Some.suite refl (sym c.of.ensures ∙ c.in-Some.is))
