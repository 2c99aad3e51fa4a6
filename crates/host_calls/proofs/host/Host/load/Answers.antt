-- A host over the shards that were loaded, or the stores come back.
use Rattle.std.proofs.Common.{inl, inr, rules, sym, ◌∙◌}
use Rattle.std.proofs.lemmas.Result.{MatchResult-weaker}
use Rattle.host_loading.proofs.Loads.{none-loaded, none-read}
use Rattle.host_calls.proofs.host.Host.load.Goals as goal

pub returns-in_default-clause-stopped : goal.returns-in_default-clause-stopped
returns-in_default-clause-stopped g c = inl (none-loaded g.S.Store c.args.issuer c.args.olds.now.items c.args.stores.items (c.requires.0 ∙ sym c.requires.1) (search rules))

pub returns-in_default-clause-olds : goal.returns-in_default-clause-olds
returns-in_default-clause-olds g c = none-read g.S.Store c.args.olds.now.items

pub returns-clause-stopped : goal.returns-clause-stopped
returns-clause-stopped g c =
    MatchResult-weaker c.open.result (rw (c.keep_all.ensures, c.of-old.ensures, c.of-before.ensures) at c.open.ensures.stopped) (λ made any. any)
    (λ back all. inr all)

pub returns-clause-issuer : goal.returns-clause-issuer
returns-clause-issuer g c = rw c.keep_all.ensures at c.open.ensures.issuer

pub returns-clause-opening : goal.returns-clause-opening
returns-clause-opening g c = rw (c.keep_all.ensures, c.of-old.ensures, c.of-before.ensures) at c.open.ensures.opening

pub load_all-requires-clause-lists : goal.load_all-requires-clause-lists
load_all-requires-clause-lists g c =
    (c.in-Ok.ensures.shards.0, search rules, c.in-Ok.ensures.back.0, search rules)
