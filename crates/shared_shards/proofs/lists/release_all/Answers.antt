-- One shard more is taken.
use Rattle.std.proofs.Common.{rules, ◌≡◌, ◌+◌, ◌++◌, ◌∷◌, [], List, map, reverse, refl, sym, ap, ◌∙◌}
use Rattle.std.proofs.Common.{append_assoc}
use Rattle.std.proofs.lemmas.List.{reverse-append}
use Rattle.shared_shards.specs.declared.locked_shard.LockedShard.{LockedShard}
use Rattle.shared_shards.proofs.ListLemmas.{map-push}
use Rattle.shared_shards.proofs.lists.release_all.Goals as goal

-- the last element of a list moves to the end of those that were taken from it
moved : {X Y : Type 0} (f : X → Y) (whole left : List X) (x : X) (y : Y) (out longer : List Y) → whole ≡ left ++ x ∷ [] → f x ≡ y
    → longer ≡ out ++ y ∷ [] → map f left ++ reverse longer ≡ map f whole ++ reverse out
moved f whole left x y out longer whole_is same longer_is =
    ap (λ l. map f left ++ reverse l) longer_is
    ∙ ap (λ r. map f left ++ r) (reverse-append out (y ∷ []))
    ∙ ap (λ z. map f left ++ z ∷ reverse out) (sym same)
    ∙ sym (append_assoc (map f left) (f x ∷ []) (reverse out))
    ∙ ap (λ m. m ++ reverse out) (sym (map-push f left x))
    ∙ ap (λ w. map f w ++ reverse out) (sym whole_is)

pub loop-shard-preserved : goal.loop-shard-preserved
loop-shard-preserved g c = record {
  all = moved (λ (held : LockedShard _ g.S.Store). held.shard) c.loop-shard.held.items c.pop.new.self.items c.in-Some.field-0 c.in-Some.field-0.shard
      c.loop-shard.shards.items c.push_reserved.new.self.items (rw c.in-Some.is at c.pop.ensures.items) refl
      c.push_reserved.ensures.items
      ∙ c.loop-shard.invariant.all;
  room = search rules;
}
