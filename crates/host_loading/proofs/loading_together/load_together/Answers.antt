-- The shards that were loaded at once, or the stores that come back.
use Rattle.std.proofs.Common.{◌≡◌, ◌∙◌, ◌++◌, ◌<◌, ◌≤◌, List, length, take, drop, map, None, arith, sym, ap, subst}
use Rattle.std.specs.Prelude.{All}
use Rattle.std.proofs.lemmas.List.{take_at}
use Rattle.issuer_base.specs.declared.limits.TheConstants.{MAX_SHARDS}
use Rattle.issuer_setup.proofs.Shards.{are_shards-range}
use Rattle.shard_book.specs.declared.replay.LoadFault.TheVariants.{NoMemory}
use Rattle.host_loading.specs.declared.loading_together.Slot.{Slot}
use Rattle.host_loading.specs.Loading.{AreLoaded, AreOnlyRead, ComeBackTogether}
use Rattle.host_loading.specs.Slots.{HasEnded, HaveTried, IsFirstFailed, IsWaiting, fault_in}
use Rattle.host_loading.proofs.Loads.{come-together, none-loaded, none-read}
use Rattle.host_loading.proofs.Together.{AreSlotsOf, are-only_read, have-ended, together-back, together-loaded, together-room}
use Rattle.host_loading.proofs.loading_together.load_together.Given.{Over}
use Rattle.host_loading.proofs.loading_together.load_together.Goals.{After-as_mut_slice, After-as_slice}
use Rattle.host_loading.proofs.loading_together.load_together.Goals as goal

-- how many slots there are
slots-count : (g : Over) (c : After-as_mut_slice g) → c.fill-slots.result.len ≡ c.args.issuer.now.shards
slots-count g c = c.fill-slots.ensures.count ∙ c.args.stores.ok.0 ∙ c.requires.count.1

few-slots : (g : Over) (c : After-as_mut_slice g) → c.args.issuer.now.shards ≤ MAX_SHARDS
few-slots g c = (are_shards-range c.args.issuer.now.shards c.shards.ensures.valid).1

-- the slots once all loads ended
abbrev slots-now : (g : Over) (c : After-as_slice g) → List (Slot g.row.S.Denot g.S.Store)
slots-now g c = take c.fill-slots.result.len (c.load_slots.new.slots ++ drop (length c.load_slots.new.slots) c.fill-slots.result.items)

back : (g : Over) (c : After-as_slice g) → slots-now g c ≡ c.load_slots.new.slots
back g c = take_at c.load_slots.new.slots (drop (length c.load_slots.new.slots) c.fill-slots.result.items) c.fill-slots.result.len
    (c.load_slots.auto.slots ∙ c.as_mut_slice.ensures.len)

are-slots : (g : Over) (c : After-as_slice g)
    → AreSlotsOf {G = g.S.Store} c.args.issuer.now c.args.olds.now.items c.args.stores.items c.fill-slots.result.items (slots-now g c)
are-slots g c = record {
  olds_are = c.fill-slots.ensures.olds;
  stores_are = c.fill-slots.ensures.stores;
  count_is = ap (λ (slots : List (Slot g.row.S.Denot g.S.Store)). length slots) (back g c) ∙ c.load_slots.auto.slots
      ∙ ap (λ (slots : List (Slot g.row.S.Denot g.S.Store)). length slots) c.as_mut_slice.ensures.value;
  tried_are = subst (HaveTried c.args.issuer.now c.fill-slots.result.items) (sym (back g c))
      (subst (λ (slots : List (Slot g.row.S.Denot g.S.Store)). HaveTried c.args.issuer.now slots c.load_slots.new.slots) c.as_mut_slice.ensures.value
      c.load_slots.ensures);
}

ended : (g : Over) (c : After-as_slice g) → All (λ slot. HasEnded slot) (slots-now g c)
ended g c = have-ended c.args.issuer.now c.args.olds.now.items c.args.stores.items c.fill-slots.result.items (slots-now g c) (are-slots g c)

read : (g : Over) (c : After-as_slice g) → AreOnlyRead g.S.Store.size g.S.Store.bytes g.S.Store.disk g.S.Store.room c.args.olds.now.items
    (map (λ (slot : Slot g.row.S.Denot g.S.Store). slot.old_store) (slots-now g c))
read g c = are-only_read c.args.issuer.now c.args.olds.now.items c.args.stores.items c.fill-slots.result.items (slots-now g c) (are-slots g c)

pub returns-in_default-clause-olds : goal.returns-in_default-clause-olds
returns-in_default-clause-olds g c = none-read g.S.Store c.args.olds.now.items

pub returns-in_default-clause-stopped : goal.returns-in_default-clause-stopped
returns-in_default-clause-stopped g c =
    let issuer = c.args.issuer.now in
    let olds = c.args.olds.now.items in
    let stores = c.args.stores.items in
    let some : 0 < length stores = omega (arith, (are_shards-range issuer.shards c.shards.ensures.valid).0, c.requires.count.1) in
    come-together g.S.Store issuer olds olds stores 0 NoMemory stores
    (none-loaded g.S.Store issuer olds stores (c.requires.count.0 ∙ sym c.requires.count.1) some)

pub load_slots-requires-clause-count : goal.load_slots-requires-clause-count
load_slots-requires-clause-count g c lifetimes outlives = (c.as_mut_slice.ensures.len ∙ slots-count g c, few-slots g c)

pub load_slots-requires-clause-waiting : goal.load_slots-requires-clause-waiting
load_slots-requires-clause-waiting g c lifetimes outlives =
    subst (All (λ slot. IsWaiting slot)) (sym c.as_mut_slice.ensures.value) c.fill-slots.ensures.waiting

pub first_failed-requires : goal.first_failed-requires
first_failed-requires g c =
    let at = (goal.at.first_failed-requires g c).After-as_mut_slice in
    subst (λ count. count ≤ MAX_SHARDS) (sym (c.as_slice.ensures.len ∙ slots-count g at)) (few-slots g at)

pub take_shards-requires-clause-ended : goal.take_shards-requires-clause-ended
take_shards-requires-clause-ended g c =
    let at = (goal.at.take_shards-requires-clause-ended g c).After-as_slice in
    let none = subst (All (λ slot. fault_in slot ≡ None)) c.as_slice.ensures.value c.in-None.ensures in
    λ number d below. (ended g at number d below, none number d below)

pub take_left-requires-clause-ended : goal.take_left-requires-clause-ended
take_left-requires-clause-ended g c = ended g (goal.at.take_left-requires-clause-ended g c).After-as_slice

pub returns-in-None-clause-loaded : goal.returns-in-None-clause-loaded
returns-in-None-clause-loaded g c =
    let at = (goal.at.returns-in-None-clause-loaded g c).After-as_slice in
    subst (λ read. AreLoaded c.args.issuer.now c.args.olds.now.items read c.args.stores.items c.take_shards.result.items) (sym c.take_shards.ensures.olds)
    (together-loaded c.args.issuer.now c.args.olds.now.items c.args.stores.items c.fill-slots.result.items (slots-now g at) (are-slots g at)
    c.take_shards.result.items c.take_shards.ensures.shards)

pub returns-in-None-clause-olds : goal.returns-in-None-clause-olds
returns-in-None-clause-olds g c =
    subst (AreOnlyRead g.S.Store.size g.S.Store.bytes g.S.Store.disk g.S.Store.room c.args.olds.now.items) (sym c.take_shards.ensures.olds)
    (read g (goal.at.returns-in-None-clause-olds g c).After-as_slice)

pub returns-in-Some-clause-olds : goal.returns-in-Some-clause-olds
returns-in-Some-clause-olds g c =
    subst (AreOnlyRead g.S.Store.size g.S.Store.bytes g.S.Store.disk g.S.Store.room c.args.olds.now.items) (sym c.take_left.ensures.olds)
    (read g (goal.at.returns-in-Some-clause-olds g c).After-as_slice)

pub returns-in-Some-clause-room : goal.returns-in-Some-clause-room
returns-in-Some-clause-room g c have =
    let at = (goal.at.returns-in-Some-clause-room g c).After-as_slice in
    let first = subst (λ (slots : List (Slot g.row.S.Denot g.S.Store)). IsFirstFailed slots c.in-Some.shard c.in-Some.fault) c.as_slice.ensures.value
    c.in-Some.ensures in
    together-room c.args.issuer.now c.args.olds.now.items c.args.stores.items c.fill-slots.result.items (slots-now g at) (are-slots g at)
    c.in-Some.shard c.in-Some.fault first have

pub returns-in-Some-clause-stopped : goal.returns-in-Some-clause-stopped
returns-in-Some-clause-stopped g c =
    let at = (goal.at.returns-in-Some-clause-stopped g c).After-as_slice in
    let first = subst (λ (slots : List (Slot g.row.S.Denot g.S.Store)). IsFirstFailed slots c.in-Some.shard c.in-Some.fault) c.as_slice.ensures.value
    c.in-Some.ensures in
    subst (λ read. ComeBackTogether g.S.Store.size g.S.Store.bytes g.S.Store.disk g.S.Store.faults c.args.issuer.now c.args.olds.now.items read
    c.args.stores.items c.in-Some.shard c.in-Some.fault c.take_left.result.items) (sym c.take_left.ensures.olds)
    (together-back c.args.issuer.now c.args.olds.now.items c.args.stores.items c.fill-slots.result.items (slots-now g at) (are-slots g at)
    c.take_left.result.items c.take_left.ensures.left c.in-Some.shard c.in-Some.fault first)
