-- One card more is shown, or the sink failed at it.
use Rattle.std.proofs.Common.{◌≡◌, Some, ◌∙◌, subst}
use Rattle.std.specs.Prelude.{slice_get}
use Rattle.issuer_setup.specs.IssuerSetup.{Setup}
use Rattle.desk_host.proofs.ShowSteps.{shown-more, shown-front, shown-line, writes-err}
use Rattle.desk_host.proofs.showing.show.Goals as goal

pub loop-number-preserved : goal.loop-number-preserved
loop-number-preserved g c =
    let is = subst (λ (i : Setup). slice_get i.cards c.loop-number.number ≡ Some c.info-card.result.now)
    c.issuer-issuer.ensures c.info-card.ensures in
    record {
      shown = λ books stand.
          shown-more c.args.host.now.issuer books c.loop-number.number c.info-card.result.now is _ _ _
          c.as_slice.result.now
          (c.as_slice.ensures.value ∙ c.write_card.ensures
          ∙ shown-line c.args.host.now.issuer c.args.host.now.shards.items books c.info-card.result.now c.show.result
          c.args.host.now.are_shards stand
          c.requires (λ book at. c.show.ensures books c.info-card.result.now book stand is at))
          (c.loop-number.invariant.shown books stand) c.in_ok-write_all.ensures.bytes;
      stood = c.in_ok-write_all.ensures.count.counted ∙ c.loop-number.invariant.stood;
    }

pub returns-in_err-write_all-clause-shown : goal.returns-in_err-write_all-clause-shown
returns-in_err-write_all-clause-shown g c = λ books stand.
    let is = subst (λ (i : Setup). slice_get i.cards c.loop-number.number ≡ Some c.info-card.result.now)
    c.issuer-issuer.ensures c.info-card.ensures in
    writes-err _ _ c.from_residual.result _ c.from_residual.ensures.0
    (shown-front c.args.host.now.issuer books c.loop-number.number c.info-card.result.now is _ _ _ c.as_slice.result.now
    (c.as_slice.ensures.value ∙ c.write_card.ensures
    ∙ shown-line c.args.host.now.issuer c.args.host.now.shards.items books c.info-card.result.now c.show.result
    c.args.host.now.are_shards stand
    c.requires (λ book at. c.show.ensures books c.info-card.result.now book stand is at))
    (c.loop-number.invariant.shown books stand) c.in_err-write_all.ensures.bytes)
