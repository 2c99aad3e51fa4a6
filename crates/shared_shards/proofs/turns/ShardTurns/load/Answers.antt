-- The shards stand for the logs that they open with.
use Rattle.std.proofs.Common.{List, sym, subst}
use Rattle.std.proofs.lemmas.Result.{IfOk-weaker}
use Rattle.turn_book.specs.declared.logs.Log.{Log}
use Rattle.shared_shards.specs.declared.logs.LogHead.{LogHead}
use Rattle.shared_shards.specs.declared.logs.LogItem.{LogItem}
use Rattle.shared_shards.specs.Opening.{AreOpeningLogs}
use Rattle.shared_shards.proofs.ListLemmas.{held-stand, are-turns_of}
use Rattle.shared_shards.proofs.turns.ShardTurns.load.Goals as goal

pub start-requires-clause-stand : goal.start-requires-clause-stand
start-requires-clause-stand g c =
    held-stand c.args.issuer.now c.args.olds.now.value.items c.args.stores.now.value.items c.args.shards.items c.in-Ok.logs.view
    c.hold_all.new.lists.held.items c.requires c.in-Ok.ensures
    c.hold_all.ensures.shards

pub returns-clause-opening : goal.returns-clause-opening
returns-clause-opening g c =
    IfOk-weaker c.start.result _ _ (λ made same.
    subst (λ (logs : List (Log LogItem LogHead)). AreOpeningLogs c.args.issuer.now c.args.olds.now.value.items c.args.stores.now.value.items c.args.shards.items logs)
    (sym same) c.in-Ok.ensures) c.start.ensures.opening

pub returns-clause-turns : goal.returns-clause-turns
returns-clause-turns g c =
    IfOk-weaker c.start.result _ _ (λ made same.
    are-turns_of c.args.issuer.now c.args.olds.now.value.items c.args.stores.now.value.items c.args.shards.items made.0 c.requires
    (subst (λ (logs : List (Log LogItem LogHead)). AreOpeningLogs c.args.issuer.now c.args.olds.now.value.items c.args.stores.now.value.items c.args.shards.items logs)
    (sym same) c.in-Ok.ensures)) c.start.ensures.opening
