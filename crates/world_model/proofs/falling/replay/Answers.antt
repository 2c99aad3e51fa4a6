-- One more record is replayed.
use Rattle.std.proofs.Common.{◌≡◌, Some, take, sym, ap, ◌∙◌, arith}
use Rattle.std.specs.List.{slice_get}
use Rattle.std.proofs.lemmas.Option.{slice_get-get_or}
use Rattle.world_model.proofs.FallenRows.{filled-more}
use Rattle.world_model.proofs.falling.replay.Goals as goal

pub replay_record-requires-clause-legal : goal.replay_record-requires-clause-legal
replay_record-requires-clause-legal c =
    let history = c.args.history.now in
    let place = c.loop-place.place in
    let entry = c.index-history-place.result in
    let there : slice_get history place ≡ Some entry =
    slice_get-get_or history place entry c.loop-place-test.true ∙ ap Some (sym c.index-history-place.is) in
    (c.requires.legal.0, take place history, c.requires.legal.1 place entry there)

pub loop-place-preserved : goal.loop-place-preserved
loop-place-preserved c = record {
  replayed = λ shards shard stand count below legal none.
      filled-more c.args.issuer.now c.loop-place.rows c.replay_record.new.rows shards shard c.loop-place.place c.args.history.now
      c.index-history-place.result (omega (arith, below, count)) count c.loop-place-test.true c.index-history-place.is legal
      c.replay_record.ensures.replayed (c.loop-place.invariant.replayed shards shard stand count below legal none);
  count = c.replay_record.ensures.count ∙ c.loop-place.invariant.count;
}
