-- The rows stand for the histories that are left.
use Rattle.std.proofs.Common.{◌≡◌, List, length, ap, sym, ◌∙◌, subst}
use Rattle.std.proofs.lemmas.List.{take_at}
use Rattle.world_model.specs.FallBack.{CanFallBack, all_truncated}
use Rattle.world_model.specs.Replaying.{AreLegalHistories, AreRowsOf}
use Rattle.world_model.specs.Stepping.{world_of}
use Rattle.world_net.specs.WorldState.{ShardState}
use Rattle.world_model.proofs.FallenRows.{stand-rows, legal-truncated}
use Rattle.world_model.proofs.NetWrites.{reached-sound}
use Rattle.world_model.proofs.Truncated.{truncated-count}
use Rattle.world_model.proofs.net.Net.fall_back.Goals.{After-as_slice}
use Rattle.world_model.proofs.net.Net.fall_back.Goals as goal

can : (c : After-as_slice) → CanFallBack (world_of c.args.self.now) c.args.keep.now
can c = c.can_fall_back.ensures.0 c.if-not-can_fall_back.false

left : (c : After-as_slice) → c.as_slice.result.now ≡ all_truncated c.args.self.now.shards.items c.args.keep.now
left c =
    let world = world_of c.args.self.now in
    let keep = c.args.keep.now in
    let whole : c.truncate_all.new.shards ≡ all_truncated world.shards keep =
    c.truncate_all.ensures ∙ ap (λ (shards : List ShardState). all_truncated shards keep) c.as_mut_slice.ensures.value in
    let long : length c.truncate_all.new.shards ≡ c.args.self.now.shards.len =
    ap (λ (l : List ShardState). length l) whole ∙ truncated-count world.shards keep (can c).one_each
    ∙ ap (λ (l : List ShardState). length l) (sym c.as_mut_slice.ensures.value) ∙ c.as_mut_slice.ensures.len in
    c.as_slice.ensures.value ∙ take_at c.truncate_all.new.shards _ c.args.self.now.shards.len long ∙ whole

pub replay_all-requires-clause-count : goal.replay_all-requires-clause-count
replay_all-requires-clause-count c =
    let world = world_of c.args.self.now in
    ap (λ (l : List ShardState). length l) (left c) ∙ truncated-count world.shards c.args.keep.now (can c).one_each
    ∙ (reached-sound world c.requires.reached).shards.count

pub replay_all-requires-clause-legal : goal.replay_all-requires-clause-legal
replay_all-requires-clause-legal c =
    let world = world_of c.args.self.now in
    subst (AreLegalHistories world.issuer) (sym (left c))
    (legal-truncated world.issuer c.args.keep.now world.shards (can c).one_each (reached-sound world c.requires.reached).shards)

pub replay_all-requires-clause-rows : goal.replay_all-requires-clause-rows
replay_all-requires-clause-rows c =
    let world = world_of c.args.self.now in
    subst (AreRowsOf world.issuer) (sym c.as_mut_slice-2.ensures.value)
    (stand-rows world.issuer c.args.self.now.rows.items world.shards c.requires.rows)
