-- What the host shows of one card more.
use Rattle.std.proofs.Common.{◌≡◌, ◌<◌, ◌∙◌, length, ap, arith, rules}
use Rattle.issuer_setup.specs.IssuerSetup.{Setup}
use Rattle.world_play.specs.Play.{one_if}
use Rattle.world_play.proofs.Steps.{shown_more}
use Rattle.world_play.proofs.totals.count_shown.Goals as goal

pub loop-number-preserved : goal.loop-number-preserved
loop-number-preserved c =
    let host = c.args.host.now in
    let number = c.loop-number.number in
    let count : c.cards-number-end.result ≡ length host.issuer.cards =
    c.cards-number-end.ensures.count ∙ ap (λ (setup : Setup). length setup.cards) c.issuer.ensures in
    let within : number < length host.issuer.cards = omega (arith, c.loop-number-test.true, count) in
    record {
      done = λ books stand.
          shown_more host.issuer host.shards.items books (λ view. view.done) number c.show-view.result c.loop-number.counts.done c.from.result
          host.are_shards stand c.requires within (λ info book info_is book_is. c.show-view.ensures books info book stand info_is book_is)
          (c.loop-number.invariant.done books stand) c.from.ensures;
      halted = λ books stand.
          shown_more host.issuer host.shards.items books (λ view. one_if view.halted) number c.show-view.result c.loop-number.counts.halted c.one_if.result
          host.are_shards stand c.requires within (λ info book info_is book_is. c.show-view.ensures books info book stand info_is book_is)
          (c.loop-number.invariant.halted books stand) c.one_if.ensures;
      few_done = search rules;
      few_halted = search rules;
    }
