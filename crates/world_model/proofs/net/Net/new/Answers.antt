-- New cards, empty rows, and nothing else.
use Rattle.std.proofs.Common.{◌≡◌, ap, ◌∙◌, replicate, [], rules}
use Rattle.world_net.specs.WorldState.{no_shard}
use Rattle.world_net.proofs.NewWorlds.{new-world}
use Rattle.world_model.proofs.OpeningWorlds.{empty-stand}
use Rattle.world_model.proofs.NetWrites.{held-new}
use Rattle.world_model.proofs.net.Net.new.Goals as goal

pub returns-clause-new : goal.returns-clause-new
returns-clause-new c =
    new-world c.args.issuer c.args.suite c.in_ok-cards.cards.items c.in_ok-shards.shards.items c.new.result.items c.new-2.result.items c.new-3.result.items
    c.in_ok-cards.ensures.first (c.in_ok-shards.ensures ∙ ap (λ n. replicate n no_shard) c.shards.ensures.count)
    (let none : c.new.result.items ≡ [] = search rules in none) (let none : c.new-2.result.items ≡ [] = search rules in none)
    (let none : c.new-3.result.items ≡ [] = search rules in none)

pub returns-clause-held : goal.returns-clause-held
returns-clause-held c =
    held-new c.args.issuer _ (record { shards = c.shards.ensures.valid; cards = c.in_ok-cards.ensures.valid })
    (new-world c.args.issuer c.args.suite c.in_ok-cards.cards.items c.in_ok-shards.shards.items c.new.result.items c.new-2.result.items c.new-3.result.items
    c.in_ok-cards.ensures.first (c.in_ok-shards.ensures ∙ ap (λ n. replicate n no_shard) c.shards.ensures.count)
    (let none : c.new.result.items ≡ [] = search rules in none) (let none : c.new-2.result.items ≡ [] = search rules in none)
    (let none : c.new-3.result.items ≡ [] = search rules in none))
    (empty-stand c.args.issuer c.in_ok-rows.rows.items c.in_ok-shards.shards.items c.in_ok-rows.ensures
    (c.in_ok-shards.ensures ∙ ap (λ n. replicate n no_shard) c.shards.ensures.count))
