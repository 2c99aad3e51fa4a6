-- A host whose shards were loaded.
use Rattle.std.proofs.Common.{rules, ap, sym, ◌∙◌}
use Rattle.issuer_setup.specs.IssuerSetup.{Setup}
use Rattle.host_loading.proofs.Loads.{loaded-are, none-loaded, none-read}
use Rattle.host_loading.proofs.StoreRooms.{room-loaded}
use Rattle.one_caller.proofs.solo.Solo.load.Goals as goal

pub invariant_of-result-clause-are_shards : goal.invariant_of-result-clause-are_shards
invariant_of-result-clause-are_shards g c =
    let count = c.requires.1 ∙ ap (λ (issuer : Setup). issuer.shards) (sym c.keep_for_records.ensures) in
    loaded-are c.keep_for_records.new.issuer c.args.olds.now.items c.load_all.new.olds.items c.args.stores.items c.in-Ok-load_all.field-0.shards.items
    count c.in-Ok-load_all.ensures.loaded

pub returns-in_default-clause-stopped : goal.returns-in_default-clause-stopped
returns-in_default-clause-stopped g c =
    none-loaded g.S.Store c.args.issuer c.args.olds.now.items c.args.stores.items (c.requires.0 ∙ sym c.requires.1) (search rules)

pub returns-in_default-clause-olds : goal.returns-in_default-clause-olds
returns-in_default-clause-olds g c = none-read g.S.Store c.args.olds.now.items

pub returns-in-Ok-load_all-clause-room : goal.returns-in-Ok-load_all-clause-room
returns-in-Ok-load_all-clause-room g c spare have =
    room-loaded c.keep_for_records.new.issuer c.args.olds.now.items c.load_all.new.olds.items c.args.stores.items
    c.in-Ok-load_all.field-0.shards.items c.in-Ok-load_all.ensures.loaded spare have
