-- The last pass knows all, and the stores hold their journals.
use Rattle.std.proofs.Common.{◌<◌, length, subst, arith}
use Rattle.shared_seats.specs.SeatNames.{IsWhole}
use Rattle.shared_shards.specs.ShardSeats.{opening_in}
use Rattle.host_calls.specs.Passes.{claims_of, logs_of}
use Rattle.host_calls.proofs.Closed.{as-many, closed-all, settled-all}
use Rattle.host_calls.proofs.host.Host.close.Goals as goal

pub close-requires-2-clause-whole : goal.close-requires-2-clause-whole
close-requires-2-clause-whole g c = subst IsWhole c.args.pass.tied.one_name c.requires.whole

pub take_stores-requires-clause-room : goal.take_stores-requires-clause-room
take_stores-requires-clause-room g c =
    let host = c.args.self in
    let seen = as-many (opening_in host.turns) (logs_of c.args.pass).seen c.requires.free.of.turns_are.of.heads in
    let shards = c.close-2.ensures.shards.count_is in
    let few = host.turns.turns.few in
    omega (arith, seen, shards, few, c.into_list.ensures.1)

pub returns-clause-stores : goal.returns-clause-stores
returns-clause-stores g c =
    let host = c.args.self in
    rw c.take_stores.ensures.stores
    (closed-all host.issuer (opening_in host.turns) (logs_of c.args.pass).seen c.close-2.result.items c.requires.free.of.turns_are.of.heads host.shards.count_is
    host.shards.heads_are host.counted c.close-2.ensures.fronts c.close-2.ensures.shards)

pub returns-clause-places : goal.returns-clause-places
returns-clause-places g c =
    λ shard place below.
    let count = c.args.self.shards.count_is in
    let within : shard < length (opening_in c.args.self.turns) = omega (arith, below, count) in
    c.close-2.ensures.places shard place within

pub returns-clause-claims : goal.returns-clause-claims
returns-clause-claims g c =
    let host = c.args.self in
    settled-all host.issuer (opening_in host.turns) host.claims (claims_of c.args.pass) host.recorded c.close.ensures.found c.close.ensures.tops
    c.close.ensures.once
