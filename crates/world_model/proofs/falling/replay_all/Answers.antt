-- One more shard is replayed.
use Rattle.std.proofs.Common.{◌≡◌, sym, ap, ◌∙◌, arith, subst}
use Rattle.card_history.specs.LegalRecords.{IsLegalHistory}
use Rattle.shard_book.specs.Grounds.{grounds_of}
use Rattle.world_net.specs.WorldState.{ShardState}
use Rattle.world_net.proofs.Hosts.{at}
use Rattle.world_model.proofs.FallenRows.{stand-none, stand-more, stand-all}
use Rattle.world_model.proofs.NetRows.{shard-read}
use Rattle.world_model.proofs.falling.replay_all.Goals.{After-history}
use Rattle.world_model.proofs.falling.replay_all.Goals as goal

-- the history of the shard in hand
history : (c : After-history) → c.history.result.now ≡ (at c.args.shards.now c.loop-number.number).history
history c =
    c.history.ensures
    ∙ ap (λ (s : ShardState). s.history)
    (shard-read c.args.shards.now c.loop-number.number c.index-shards-number.result c.loop-number-test.true c.index-shards-number.is)

legal : (c : After-history) → IsLegalHistory (grounds_of c.args.issuer.now) c.loop-number.number c.history.result.now
legal c =
    subst (IsLegalHistory (grounds_of c.args.issuer.now) c.loop-number.number) (sym (history c)) (c.requires.legal c.loop-number.number)

pub loop-number-init : goal.loop-number-init
loop-number-init c =
    let size = c.clear_all.ensures.count in
    let enough = c.requires.rows.count in
    record {
      stand = stand-none c.args.issuer.now c.args.rows.now c.clear_all.new.rows c.args.shards.now c.requires.rows c.clear_all.ensures;
      enough = omega (arith, size, enough);
    }

pub replay-requires-clause-legal : goal.replay-requires-clause-legal
replay-requires-clause-legal c = (c.loop-number.number, legal c)

pub loop-number-preserved : goal.loop-number-preserved
loop-number-preserved c =
    let here = (goal.at.loop-number-preserved c).After-history in
    let size = c.replay.ensures.count in
    let enough = c.loop-number.invariant.enough in
    let count = c.requires.count in
    let below = c.loop-number-test.true in
    record {
      stand = stand-more c.args.issuer.now c.loop-number.rows c.replay.new.rows c.args.shards.now c.loop-number.number c.history.result.now
          (omega (arith, count, below)) (history here) (legal here) c.replay.ensures.replayed c.loop-number.invariant.stand;
      enough = omega (arith, size, enough);
    }

pub returns : goal.returns
returns c =
    let count = c.requires.count in
    let past = c.loop-number-test.false in
    stand-all c.args.issuer.now c.loop-number.rows c.args.shards.now c.loop-number.number c.requires.issuer (omega (arith, count, past))
    c.loop-number.invariant.stand
