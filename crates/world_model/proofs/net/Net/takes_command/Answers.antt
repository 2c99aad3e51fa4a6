-- The row of the card stands for its queue.
use Rattle.std.proofs.Common.{◌↔◌, IsTrue, ◌∙◌, ap, subst, arith}
use Rattle.script_queue.specs.CommandQueue.{CommandQueue, TakesOneMore}
use Rattle.row_core.specs.CardRow.{KeptScripts}
use Rattle.world_model.proofs.NetRows.{row-there, row-stands}
use Rattle.world_model.proofs.net.Net.takes_command.Goals as goal

pub index-requires : goal.index-requires
index-requires c =
    let within =
    row-there c.args.self.now.issuer c.args.self.now.rows.items c.args.self.now.shards.items c.requires.rows c.args.number c.requires.card in
    omega (arith, within)

pub returns : goal.returns
returns c info info_is =
    let stands =
    row-stands c.args.self.now.issuer c.args.self.now.rows.items c.args.self.now.shards.items c.requires.rows c.args.number info c.index.result.now info_is
    c.index.ensures in
    subst (λ (queue : CommandQueue). IsTrue c.takes_one_more.result ↔ TakesOneMore queue)
    (c.queue.ensures ∙ ap (λ (kept : KeptScripts). kept.commands) stands.scripts_are) c.takes_one_more.ensures
