-- All others are joined into the first pass, and the close of the host with it says what all callers shared.
use Rattle.std.proofs.Common.{◌∙◌, take}
use Rattle.std.proofs.lemmas.List.{length-map}
use Rattle.issuer_base.specs.declared.limits.TheConstants.{KEPT_BYTES}
use Rattle.shared_shards.specs.ShardSeats.{opening_in}
use Rattle.shared_callers.proofs.Joining.{closed-lanes}
use Rattle.shared_callers.proofs.lanes.Lanes.close.Goals as goal

pub returns : goal.returns
returns g c =
    λ lines answers due has.
    let lanes = c.args.self in
    closed-lanes g.S.Store.bytes g.S.Store.disk g.S.Store.faults lanes.host.issuer (opening_in lanes.host.turns) lanes.first c.join_all.new.first
    lanes.lanes.items lines answers c.close.result.items (record {
      some = lanes.shards;
      count_is = lanes.host.shards.count_is;
      heads = c.join_all.ensures.free.of.turns_are.of.heads;
      plain = lanes.plain;
      untouched = lanes.seated.untouched;
      opened = lanes.seated.opened;
      joined = c.join_all.ensures.joined;
      own = c.close.ensures.places;
      settled = c.close.ensures.claims;
    }) c.close.ensures.stores (has.dealt.answered ∙ length-map lines (take KEPT_BYTES)) has.dealt.had
