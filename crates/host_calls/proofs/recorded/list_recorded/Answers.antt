-- One shard more has its recorded ATCs listed.
use Rattle.std.proofs.Common.{◌≡◌, ◌<◌, length, refl, subst, arith}
use Rattle.std.proofs.lemmas.Option.{slice_get_read}
use Rattle.host_calls.specs.RecordedCounters.{AreRecordedOf}
use Rattle.host_calls.proofs.RecordedLists.{recorded-none, recorded-more}
use Rattle.host_calls.proofs.recorded.list_recorded.Goals as goal

pub loop-shard-init : goal.loop-shard-init
loop-shard-init g c = λ issuer standing. rw c.new-list.ensures.items (recorded-none issuer c.args.shards.now standing)

pub loop-shard-preserved : goal.loop-shard-preserved
loop-shard-preserved g c =
    λ issuer standing.
    let below : c.loop-shard.shard-index < length c.args.shards.now = omega arith in
    recorded-more issuer c.args.shards.now standing c.loop-shard.shard-index c.loop-shard.list.items c.recorded.new.list.items c.shard-item.result
    (slice_get_read c.args.shards.now _ c.loop-shard.shard-index c.shard-item.result refl below c.shard-item.is)
    (c.in_ok-recorded.ensures.recorded issuer) (c.loop-shard.invariant issuer standing)

pub returns : goal.returns
returns g c =
    λ issuer standing.
    let all : c.loop-shard.shard-index ≡ length c.args.shards.now = omega arith in
    subst (λ count. AreRecordedOf issuer c.args.shards.now count c.loop-shard.list.items) all (c.loop-shard.invariant issuer standing)
