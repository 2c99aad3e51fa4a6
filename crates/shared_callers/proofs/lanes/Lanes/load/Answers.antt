-- The lanes begin without lines, or the stores come back.
use Rattle.std.proofs.Common.{◌≡◌, ◌*◌, ◌<◌, ◌≤◌, length, vec_len, inl, rules, sym, subst, ap, ◌∙◌}
use Rattle.std.proofs.Math.Nat.{one-le-mul}
use Rattle.std.proofs.lemmas.Nat.{mul-le}
use Rattle.shared_shards.specs.ShardSeats.{opening_in}
use Rattle.host_loading.proofs.Loads.{come-together, none-loaded, none-read}
use Rattle.shared_callers.specs.Parts.{rooms_of}
use Rattle.shared_callers.specs.declared.half_block.TheConstants.{HALF_LINES}
use Rattle.shared_callers.specs.declared.lane.Lane.{Lane}
use Rattle.shared_callers.specs.declared.part.Part.{Part}
use Rattle.shared_callers.proofs.Lists.{maps-alike}
use Rattle.shared_callers.proofs.Opening.{opened-plain}
use Rattle.shared_callers.proofs.Seating.{seated-none, new-dealt}
use Rattle.shared_callers.proofs.lanes.Lanes.load.Goals as goal

pub returns-in_default-clause-stopped : goal.returns-in_default-clause-stopped
returns-in_default-clause-stopped g c =
    let olds = c.args.olds.now.items in
    let stores = c.args.stores.items in
    inl (come-together g.S.Store c.args.issuer olds olds stores 0 _ stores
    (none-loaded g.S.Store c.args.issuer olds stores (c.requires.count.0 ∙ sym c.requires.count.1) (search rules)))

pub returns-in_default-clause-olds : goal.returns-in_default-clause-olds
returns-in_default-clause-olds g c = none-read g.S.Store c.args.olds.now.items

pub seat_all-lanes-requires-clause-first : goal.seat_all-lanes-requires-clause-first
seat_all-lanes-requires-clause-first g c =
    let made = c.in-Ok-load_together.made in
    let first = c.in-Ok-load_together.ensures.pass in
    seated-none made.0 made.1 first.free first.claims_are first.logs_are

pub new-requires-clause-few : goal.new-requires-clause-few
new-requires-clause-few g c =
    let long : c.from.result ≡ vec_len c.in-Ok.field-0.parts = search rules in
    let few : c.from.result ≤ 16 = search rules in
    subst (λ n. n * c.lines_each-each.result ≤ HALF_LINES) long
    (mul-le c.from.result c.lines_each-each.result 16 512 few c.lines_each-each.ensures.1)

pub invariant_of-result-clause-plain : goal.invariant_of-result-clause-plain
invariant_of-result-clause-plain g c =
    opened-plain g.S.Store.bytes g.S.Store.disk g.S.Store.faults c.args.issuer c.args.olds.now.items _ c.args.stores.items
    (opening_in c.in-Ok-load_together.made.0.turns) c.in-Ok-load_together.ensures.opening

pub invariant_of-result-clause-some_room : goal.invariant_of-result-clause-some_room
invariant_of-result-clause-some_room g c =
    let some : 0 < vec_len c.in-Ok.field-0.parts = search rules in
    subst (λ n. 0 < n) (sym c.new.ensures.parts.1) (one-le-mul some (search rules))

pub invariant_of-result-clause-rooms : goal.invariant_of-result-clause-rooms
invariant_of-result-clause-rooms g c =
    let lanes = c.seat_all-lanes.result in
    let long : length lanes.items ≡ length c.in-Ok.field-0.parts.items = search rules in
    maps-alike (λ (lane : Lane). lane.lines.room) (λ (part : Part). part.lines.room) lanes.items c.in-Ok.field-0.parts.items c.lines_each-each.result long
    (c.seat_all-lanes.ensures.room c.lines_each-each.result c.in-Ok.ensures.count) c.in-Ok.ensures.parts
    ∙ ap rooms_of (sym c.new.ensures.parts.0)

pub returns-clause-loaded : goal.returns-clause-loaded
returns-clause-loaded g c =
    let host = c.in-Ok-load_together.made.0 in
    record {
      issuer_is = c.in-Ok-load_together.ensures.issuer;
      callers_are = search rules;
      opening = c.in-Ok-load_together.ensures.opening;
      served = record {
        dealt = new-dealt host.issuer (opening_in host.turns) c.seat_all-lanes.result.items c.new.result c.new.ensures.none.0 c.new.ensures.none.1
            c.seat_all-lanes.ensures.new;
      };
      none_wait = c.new.ensures.none.0.count_is;
      none_due = c.new.ensures.none.1.count_is;
    }
