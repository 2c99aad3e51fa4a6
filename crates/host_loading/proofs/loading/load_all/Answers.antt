-- One more shard is loaded, or the stores are returned.
use Rattle.std.proofs.Common.{◌≡◌, ◌<◌, ◌≤◌, ◌++◌, ◌∷◌, [], List, length, map, set, reverse, subst, sym, ap, ◌∙◌, rules, refl, arith, Some}
use Rattle.std.proofs.lemmas.List.{length-reverse, reverse-reverse}
use Rattle.std.proofs.lemmas.Option.{slice_get_read}
use Rattle.std.specs.List.{slice_get}
use Rattle.shard_book.specs.declared.shard.Shard.{Shard}
use Rattle.shard_book.specs.Shards.{store_in}
use Rattle.shard_book.specs.Loads.{IsLoadedFrom, IsNotLoaded}
use Rattle.host_loading.specs.Loading.{AreOnlyRead, ComeBack}
use Rattle.host_loading.proofs.Loads.{IsLoading, loading-none, loading-more, loading-all, come-back, old-read, next-ahead, none-ahead, some-ahead}
use Rattle.host_loading.proofs.StoreRooms.{room-next}
use Rattle.host_loading.proofs.loading.load_all.Given.{Over}
use Rattle.host_loading.proofs.loading.load_all.Goals.{After-load}
use Rattle.host_loading.proofs.loading.load_all.Goals as goal

-- the shard that is loaded next, its stores, and the old store as it is now
record IsNext (g : Over) (c : After-load g) : Type 0 where
  number_is : length c.loop-number.shards.items ≡ c.from.result
  old_is : slice_get c.loop-number.olds.items (length c.loop-number.shards.items) ≡ Some c.index_mut-old.result.now
  loading : IsLoading {G = g.S.Store} c.args.issuer.now c.args.olds.now.items c.loop-number.olds.items c.args.stores.items c.loop-number.shards.items
      (c.unwrap-store.result ∷ reverse c.pop.new.self.items)

next : (g : Over) (c : After-load g) → IsNext g c
next g c =
    let shards = c.loop-number.shards.items in
    let read = c.loop-number.olds.items in
    let left = next-ahead c.loop-number.ahead.items c.pop.new.self.items c.pop.result c.unwrap-store.result c.pop.ensures.items c.unwrap-store.ensures in
    let loading = subst (λ ahead. IsLoading {G = g.S.Store} c.args.issuer.now c.args.olds.now.items read c.args.stores.items shards ahead) left
    c.loop-number.invariant.loading in
    let number : length shards ≡ c.from.result = c.loop-number.invariant.count ∙ sym c.from.ensures in
    let within : c.from.result < length read =
    omega (arith, c.loop-number-test.true, c.shards-number-end.ensures, c.from.ensures, c.requires.count.0, loading.only.count_is) in
    record {
      number_is = number;
      old_is = subst (λ place. slice_get read place ≡ Some c.index_mut-old.result.now) (sym number)
          (slice_get_read _ _ c.from.result _ refl within c.index_mut-old.ensures.value);
      loading = loading;
    }

-- the old stores after it
pub read-on : (g : Over) (c : After-load g)
    → AreOnlyRead g.S.Store.size g.S.Store.bytes g.S.Store.disk g.S.Store.room c.args.olds.now.items
    (set c.loop-number.olds.items c.from.result c.load.new.old)
read-on g c =
    let its = next g c in
    subst (λ place. AreOnlyRead g.S.Store.size g.S.Store.bytes g.S.Store.disk g.S.Store.room c.args.olds.now.items
    (set c.loop-number.olds.items place c.load.new.old)) its.number_is
    (old-read c.args.issuer.now c.args.olds.now.items c.loop-number.olds.items c.args.stores.items c.loop-number.shards.items c.unwrap-store.result
    (reverse c.pop.new.self.items) its.loading c.index_mut-old.result.now c.load.new.old its.old_is c.load.ensures.old)

pub returns-in-Err-clause-olds : goal.returns-in-Err-clause-olds
returns-in-Err-clause-olds g c = read-on g (goal.at.returns-in-Err-clause-olds g c).After-load

pub returns-in-Err-clause-stopped : goal.returns-in-Err-clause-stopped
returns-in-Err-clause-stopped g c =
    let its = next g (goal.at.returns-in-Err-clause-stopped g c).After-load in
    let issuer = c.args.issuer.now in
    let olds = c.args.olds.now.items in
    let read = c.loop-number.olds.items in
    let stores = c.args.stores.items in
    let shards = c.loop-number.shards.items in
    let left : List _ = reverse c.pop.new.self.items in
    let after = c.in-Err.field-0.store in
    let fault = c.in-Err.field-0.fault in
    let old = c.index_mut-old.result.now in
    let old_then = c.load.new.old in
    let number : length shards ≡ c.loop-number.number = c.loop-number.invariant.count in
    let back =
    come-back issuer olds read stores shards c.unwrap-store.result left its.loading old old_then its.old_is fault after
    (subst (λ number. IsNotLoaded g.S.Store.size g.S.Store.bytes g.S.Store.disk g.S.Store.faults issuer number old c.unwrap-store.result fault old_then after)
    (sym number) c.in-Err.ensures.loaded) in
    subst (λ all. ComeBack g.S.Store.size g.S.Store.bytes g.S.Store.disk g.S.Store.faults issuer olds (set read c.from.result old_then) stores
    c.loop-number.number fault all)
    (sym (c.all_stores.ensures ∙ ap (λ taken. taken ++ after ∷ left) c.take_stores.ensures.stores))
    (subst (λ place. ComeBack g.S.Store.size g.S.Store.bytes g.S.Store.disk g.S.Store.faults issuer olds (set read place old_then) stores
    c.loop-number.number fault (map (λ (shard : Shard _ g.S.Store). store_in shard) shards ++ after ∷ left)) its.number_is
    (subst (λ number. ComeBack g.S.Store.size g.S.Store.bytes g.S.Store.disk g.S.Store.faults issuer olds (set read (length shards) old_then) stores
    number fault (map (λ (shard : Shard _ g.S.Store). store_in shard) shards ++ after ∷ left)) number back))

pub returns-in-Err-clause-room : goal.returns-in-Err-clause-room
returns-in-Err-clause-room g c have =
    let its = next g (goal.at.returns-in-Err-clause-room g c).After-load in
    c.in-Err.ensures.room 0
    (room-next c.args.issuer.now c.args.olds.now.items c.loop-number.olds.items c.args.stores.items c.loop-number.shards.items c.unwrap-store.result
    (reverse c.pop.new.self.items) its.loading c.index_mut-old.result.now its.old_is have)

pub unwrap-store-requires : goal.unwrap-store-requires
unwrap-store-requires g c =
    let loading = c.loop-number.invariant.loading in
    let fewer : length c.loop-number.shards.items < length c.args.stores.items =
    omega (arith, c.loop-number-test.true, c.shards-number-end.ensures, c.loop-number.invariant.count, c.requires.count.1) in
    let some = some-ahead c.args.issuer.now c.args.olds.now.items c.loop-number.olds.items c.args.stores.items c.loop-number.shards.items
    (reverse c.loop-number.ahead.items) loading fewer in
    c.pop.ensures.variant.1 (omega (arith, some, length-reverse c.loop-number.ahead.items))

pub loop-number-init : goal.loop-number-init
loop-number-init g c =
    let issuer = c.args.issuer.now in
    let olds = c.args.olds.now.items in
    let stores = c.args.stores.items in
    record {
      loading =
          subst (λ shards. IsLoading {G = g.S.Store} issuer olds olds stores shards (reverse c.reverse.new.self.items)) (sym c.requires.lists.0)
          (subst (λ ahead. IsLoading {G = g.S.Store} issuer olds olds stores [] ahead) (sym (ap reverse c.reverse.ensures.items ∙ reverse-reverse stores))
          (loading-none issuer olds stores (c.requires.count.0 ∙ sym c.requires.count.1)));
      count = search rules;
      room = search rules;
    }

pub loop-number-preserved : goal.loop-number-preserved
loop-number-preserved g c =
    let its = next g (goal.at.loop-number-preserved g c).After-load in
    let issuer = c.args.issuer.now in
    let olds = c.args.olds.now.items in
    let read = c.loop-number.olds.items in
    let stores = c.args.stores.items in
    let shards = c.loop-number.shards.items in
    let left : List _ = reverse c.pop.new.self.items in
    let old = c.index_mut-old.result.now in
    let old_then = c.load.new.old in
    let number : c.loop-number.number ≡ length shards = sym c.loop-number.invariant.count in
    let more =
    loading-more issuer olds read stores shards c.unwrap-store.result left its.loading old old_then its.old_is c.in-Ok.shard c.load.ensures.old
    (subst (λ number. IsLoadedFrom issuer number old old_then c.unwrap-store.result c.in-Ok.shard) number c.in-Ok.ensures.loaded) in
    record {
      loading = rw c.push_reserved.ensures.items (subst (λ place. IsLoading {G = g.S.Store} issuer olds (set read place old_then) stores
          (shards ++ c.in-Ok.shard ∷ []) left) its.number_is more);
      count = search rules;
      room = search rules;
    }

pub returns-clause-loaded : goal.returns-clause-loaded
returns-clause-loaded g c =
    let issuer = c.args.issuer.now in
    let olds = c.args.olds.now.items in
    let read = c.loop-number.olds.items in
    let stores = c.args.stores.items in
    let shards = c.loop-number.shards.items in
    let loading = c.loop-number.invariant.loading in
    let all : length stores ≤ length shards = omega (arith, c.loop-number-test.false, c.shards-number-end.ensures, c.loop-number.invariant.count, c.requires.count.1) in
    let none = none-ahead issuer olds read stores shards (reverse c.loop-number.ahead.items) loading all in
    loading-all issuer olds read stores shards (subst (λ ahead. IsLoading {G = g.S.Store} issuer olds read stores shards ahead) none loading)

pub returns-clause-olds : goal.returns-clause-olds
returns-clause-olds g c = c.loop-number.invariant.loading.only
