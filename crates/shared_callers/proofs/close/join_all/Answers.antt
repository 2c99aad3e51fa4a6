-- A pass into which the last lane's is joined is free, whole with those left, and has what both had.
use Rattle.std.proofs.Common.{◌≡◌, ◌++◌, ◌∷◌, [], List, sym, ap, ◌∙◌, append-nil, append_assoc}
use Rattle.std.proofs.lemmas.List.Elements.{All-pop}
use Rattle.shared_seats.proofs.ManySeats.{whole_popped}
use Rattle.host_calls.specs.Passes.{claims_of, IsFree}
use Rattle.shared_callers.specs.declared.lane.Lane.{Lane}
use Rattle.shared_callers.proofs.Joining.{joined-none, joined-more}
use Rattle.shared_callers.proofs.close.join_all.Goals as goal

pub loop-lane-init : goal.loop-lane-init
loop-lane-init g c = record {
  first = c.requires.first_free;
  free = c.requires.free;
  whole = c.requires.whole;
  joined = ([], sym (append-nil c.args.lanes.items), joined-none c.args.first.now);
}

pub join-requires : goal.join-requires
join-requires g c =
    let popped = All-pop (λ (lane : Lane). IsFree c.args.host.now lane.pass) c.loop-lane.lanes.items c.pop.new.self.items c.pop.result c.pop.ensures.items
    c.loop-lane.invariant.free in
    (c.loop-lane.invariant.first, rw (c.into_pass-pass.ensures) (rw c.in-Some.is at popped.1))

pub loop-lane-preserved : goal.loop-lane-preserved
loop-lane-preserved g c =
    let popped = All-pop (λ (lane : Lane). IsFree c.args.host.now lane.pass) c.loop-lane.lanes.items c.pop.new.self.items c.pop.result c.pop.ensures.items
    c.loop-lane.invariant.free in
    let last : Lane = c.in-Some.lane in
    let before : c.loop-lane.lanes.items ≡ c.pop.new.self.items ++ last ∷ [] = rw c.in-Some.is at c.pop.ensures.items in
    let joined = c.loop-lane.invariant.joined in
    record {
      first = c.join.ensures.pass;
      free = popped.0;
      whole = rw (c.join.ensures.claims, c.into_pass-pass.ensures)
          (whole_popped (λ (lane : Lane). (claims_of lane.pass).names) (claims_of c.loop-lane.first).names c.loop-lane.lanes.items c.pop.new.self.items last
          before c.loop-lane.invariant.whole);
      joined = (
        last ∷ joined.0,
        joined.1 ∙ ap (λ (lanes : List Lane). lanes ++ joined.0) before ∙ append_assoc c.pop.new.self.items (last ∷ []) joined.0,
        joined-more _ c.loop-lane.first c.join.new.pass joined.0 last (rw c.into_pass-pass.ensures at c.join.ensures.claims)
            (rw c.into_pass-pass.ensures at c.join.ensures.logs) (rw c.into_pass-pass.ensures at c.join.ensures.fronts) joined.2,
      );
    }
