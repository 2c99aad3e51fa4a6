-- The shards of a host while they are loaded one after another, and the stores that are returned.
use Rattle.std.proofs.Common.{◌≡◌, ◌≢◌, ◌⊎◌, ◌<◌, ◌≤◌, ℕ, zero, suc, ◌+◌, false, List, [], ◌∷◌, ◌++◌, length, set, length-set, map, reverse, Option, None, Some, IfSome}
use Rattle.std.proofs.Common.{refl, sym, ap, subst, ◌∙◌, inl, inr, arith, append-nil, append_assoc, length-append, add-zero}
use Rattle.std.proofs.lemmas.Bool.{cases_eq}
use Rattle.std.proofs.lemmas.List.{reverse-append, length_push, length-map}
use Rattle.std.proofs.lemmas.Option.{same_Some, slice_get_within}
use Rattle.std.specs.List.{slice_get}
use Rattle.std.specs.Option.{option_to_list}
use Rattle.issuer_base.specs.OutsideFaults.{CountsFaults}
use Rattle.issuer_base.specs.Tells.{Tells}
use Rattle.issuer_base.specs.declared.outside.store.Store.{Ghosts}
use Rattle.issuer_setup.specs.IssuerSetup.{Setup}
use Rattle.journal_rec.specs.RecordText.{journal_text}
use Rattle.journal_store.specs.Images.{IsImage}
use Rattle.journal_store.proofs.ReadSoFar.{reads-none}
use Rattle.shard_book.specs.declared.replay.LoadFault.{LoadFault}
use Rattle.shard_book.specs.declared.replay.LoadFault.TheVariants.{NoMemory}
use Rattle.shard_book.specs.declared.shard.Shard.{Shard}
use Rattle.shard_book.specs.Shards.{store_in}
use Rattle.shard_book.proofs.LoadCrash.{crash-read}
use Rattle.host_loading.specs.Hosts.{AreShards}
use Rattle.shard_book.specs.Loads.{IsLoadedFrom, IsNotLoaded, IsOnlyRead}
use Rattle.host_loading.specs.Loading.{AreLoaded, AreOnlyRead, IsGivenBack, ComeBack, ComeBackTogether}
use Rattle.host_loading.proofs.Places.{read-written, read-other, read-within, read-front, read-behind, read-map}

-- ---- stores that come back

-- a text with no tail after it
cut-text : (bytes : Option (List ℕ)) (text : List ℕ) → IfSome bytes (IsImage text []) → Tells bytes text
cut-text None text image = tt
cut-text (Some told) text (zero, is) = is ∙ append-nil text
cut-text (Some told) text (suc kept, is) = is ∙ append-nil text

-- what is in a list with one more at its end
push-cases : {X : Type 0} (xs : List X) (x : X) (place : ℕ) (y : X) → slice_get (xs ++ x ∷ []) place ≡ Some y
    → (slice_get xs place ≡ Some y) ⊎ ((place ≡ length xs) × (x ≡ y))
push-cases [] x zero y is = inr (refl, let e : Some x ≡ Some y = is in cc)
push-cases [] x (suc place) y is = absurd (cc)
push-cases (z ∷ xs) x zero y is = inl is
push-cases (z ∷ xs) x (suc place) y is =
    elim (push-cases xs x place y is) [
      | inl before ↦ inl before
      | inr last ↦ inr (ap suc last.0, last.1)
    ]

-- after the index that differs two lists are the same
behind-alike : {X : Type 0} (xs ys : List X) (x y : X) (more : List X) (place : ℕ) → length ys ≡ length xs → length xs < place
    → slice_get (ys ++ y ∷ more) place ≡ slice_get (xs ++ x ∷ more) place
behind-alike [] [] x y more zero same past = absurd (omega arith)
behind-alike [] [] x y more (suc place) same past = refl
behind-alike [] (b ∷ ys) x y more place same past = absurd (omega arith)
behind-alike (a ∷ xs) [] x y more place same past = absurd (omega arith)
behind-alike (a ∷ xs) (b ∷ ys) x y more zero same past = absurd (omega arith)
behind-alike (a ∷ xs) (b ∷ ys) x y more (suc place) same past = behind-alike xs ys x y more place (omega arith) (omega arith)

-- ---- old stores that are only read

-- a store that isn't called is only read
read-none : {S : Type 0} (G : Ghosts S) (store : S) → IsOnlyRead G.size G.bytes G.disk G.room store store
read-none G store = record { size_is = refl; bytes_are = refl; disk_is = reads-none (G.disk store); room_is = refl }

pub none-read : {S : Type 0} (G : Ghosts S) (olds : List S) → AreOnlyRead G.size G.bytes G.disk G.room olds olds
none-read {S} G olds = record {
  count_is = refl;
  each = λ number old old_then is then_is.
      subst (λ (old_then : S). IsOnlyRead G.size G.bytes G.disk G.room old old_then) (same_Some old old_then (sym is ∙ then_is)) (read-none G old);
}

-- one that wasn't called before is read
read-more : {S : Type 0} (G : Ghosts S) (olds read : List S) (place : ℕ) (old old_then : S) → AreOnlyRead G.size G.bytes G.disk G.room olds read
    → slice_get olds place ≡ Some old → IsOnlyRead G.size G.bytes G.disk G.room old old_then
    → AreOnlyRead G.size G.bytes G.disk G.room olds (set read place old_then)
read-more {S} G olds read place old old_then before old_is only = record {
  count_is = length-set read place old_then ∙ before.count_is;
  each = λ number other other_then is then_is.
      elim (cases_eq number place) [
        | inl same ↦
            let count = before.count_is in
            let within : place < length read = (let below = slice_get_within olds place old old_is in omega arith) in
            let its : old ≡ other = same_Some old other (sym old_is ∙ subst (λ number. slice_get olds number ≡ Some other) same is) in
            let its_then : old_then ≡ other_then = same_Some old_then other_then (sym (read-written read place old_then within)
            ∙ subst (λ number. slice_get (set read place old_then) number ≡ Some other_then) same then_is) in
            subst (λ (other : S). IsOnlyRead G.size G.bytes G.disk G.room other other_then) its
            (subst (λ (other_then : S). IsOnlyRead G.size G.bytes G.disk G.room old other_then) its_then only)
        | inr apart ↦ before.each number other other_then is (sym (read-other read place old_then number apart) ∙ then_is)
      ];
}

-- no call was made, so none failed
counts-none : (count : ℕ) → CountsFaults count count false
counts-none count = record { below = λ below. below; never_falls = omega arith; counted = refl }

module _ {S : Type 0} {G : Ghosts S} (issuer : Setup) where
  -- the store of a shard that was loaded
  pub given-back : (number : ℕ) (old old_then store : S) (shard : Shard S G) → IsLoadedFrom issuer number old old_then store shard
      → IsGivenBack G.bytes G.disk G.faults issuer number old old_then store (store_in shard)
  given-back number old old_then store shard from = record {
    old_history = from.loaded.old;
    history = from.loaded.history;
    journal_is = from.loaded.journal_is;
    cut = cut-text (G.bytes (store_in shard)) (journal_text from.loaded.history) from.loaded.settled.bytes_are;
    leaves = from.leaves;
    old_counts = from.old_counts;
    counts = from.counts;
  }

  -- the shards that were loaded are those of the first stores, and these stores are left; the old stores of the others
  -- weren't read
  pub record IsLoading (olds read stores : List S) (shards : List (Shard S G)) (ahead : List S) : Type 0 where
    pub first : List S
    pub stores_are : stores ≡ first ++ ahead
    pub olds_are : length olds ≡ length stores
    pub count_is : length shards ≡ length first
    pub each : (number : ℕ) (old old_then store : S) (shard : Shard S G)
        → slice_get olds number ≡ Some old → slice_get read number ≡ Some old_then
        → slice_get first number ≡ Some store → slice_get shards number ≡ Some shard → IsLoadedFrom issuer number old old_then store shard
    pub only : AreOnlyRead G.size G.bytes G.disk G.room olds read
    pub unread : (number : ℕ) → length shards ≤ number → slice_get read number ≡ slice_get olds number

  pub loading-none : (olds stores : List S) → length olds ≡ length stores → IsLoading olds olds stores [] stores
  loading-none olds stores long = record {
    first = [];
    stores_are = refl;
    olds_are = long;
    count_is = refl;
    each = λ number old old_then store shard old_is then_is is shard_is. absurd (cc);
    only = none-read G olds;
    unread = λ number past. refl;
  }

  module _ (olds read stores : List S) (shards : List (Shard S G)) (store : S) (ahead : List S) (before : IsLoading olds read stores shards (store ∷ ahead))
      (old old_then : S) (old_is : slice_get read (length shards) ≡ Some old) where
    -- it wasn't read before
    pub old-unread : slice_get olds (length shards) ≡ Some old
    old-unread = let past : length shards ≤ length shards = omega arith in sym (before.unread (length shards) past) ∙ old_is

    old-within : length shards < length read
    old-within = slice_get_within read (length shards) old old_is

    -- what is there once it was read
    then-there : (other : S) → slice_get (set read (length shards) old_then) (length shards) ≡ Some other → old_then ≡ other
    then-there other is = same_Some old_then other (sym (read-written read (length shards) old_then old-within) ∙ is)

    -- so the old stores are only read
    pub old-read : IsOnlyRead G.size G.bytes G.disk G.room old old_then
        → AreOnlyRead G.size G.bytes G.disk G.room olds (set read (length shards) old_then)
    old-read only = read-more G olds read (length shards) old old_then before.only old-unread only

    -- one more shard is loaded
    pub loading-more : (shard : Shard S G) → IsOnlyRead G.size G.bytes G.disk G.room old old_then
        → IsLoadedFrom issuer (length shards) old old_then store shard
        → IsLoading olds (set read (length shards) old_then) stores (shards ++ shard ∷ []) ahead
    loading-more shard only from =
        let first = before.first in
        let count = before.count_is in
        record {
          first = first ++ store ∷ [];
          stores_are = before.stores_are ∙ sym (append_assoc first (store ∷ []) ahead);
          olds_are = before.olds_are;
          count_is = length_push shards shard ∙ ap (λ n. n + 1) count ∙ sym (length_push first store);
          each = λ number other_old other_then other other_shard other_old_is other_then_is is shard_is.
              elim (push-cases first store number other is) [
                | inl other_there ↦
                    elim (push-cases shards shard number other_shard shard_is) [
                      | inl shard_there ↦
                          let below = slice_get_within shards number other_shard shard_there in
                          let apart : number ≢ length shards = λ same. absurd (omega (arith, below, same)) in
                          before.each number other_old other_then other other_shard other_old_is
                          (sym (read-other read (length shards) old_then number apart) ∙ other_then_is) other_there shard_there
                      | inr last ↦ let below = slice_get_within first number other other_there in let at = last.0 in absurd (omega arith)
                    ]
                | inr last_store ↦
                    elim (push-cases shards shard number other_shard shard_is) [
                      | inl shard_there ↦
                          let below = slice_get_within shards number other_shard shard_there in let at = last_store.0 in absurd (omega arith)
                      | inr last ↦
                          let its_old : old ≡ other_old =
                          same_Some old other_old (sym old-unread ∙ subst (λ number. slice_get olds number ≡ Some other_old) last.0 other_old_is) in
                          let its_then : old_then ≡ other_then = then-there other_then
                          (subst (λ number. slice_get (set read (length shards) old_then) number ≡ Some other_then) last.0 other_then_is) in
                          subst (λ number. IsLoadedFrom issuer number other_old other_then other other_shard) (sym last.0)
                          (subst (λ (other_old : S). IsLoadedFrom issuer (length shards) other_old other_then other other_shard) its_old
                          (subst (λ (other_then : S). IsLoadedFrom issuer (length shards) old other_then other other_shard) its_then
                          (subst (λ (other_shard : Shard S G). IsLoadedFrom issuer (length shards) old old_then other other_shard) last.1
                          (subst (λ (other : S). IsLoadedFrom issuer (length shards) old old_then other shard) last_store.1 from))))
                    ]
              ];
          only = old-read only;
          unread = λ number past.
              let long = length_push shards shard in
              let apart : number ≢ length shards = λ same. absurd (omega (arith, past, long, same)) in
              read-other read (length shards) old_then number apart ∙ before.unread number (omega (arith, past, long));
        }

    -- one isn't loaded, and the stores come back
    pub come-back : (fault : LoadFault) (after : S) → IsNotLoaded G.size G.bytes G.disk G.faults issuer (length shards) old store fault old_then after
        → ComeBack G.size G.bytes G.disk G.faults issuer olds (set read (length shards) old_then) stores (length shards) fault
        (map (λ (shard : Shard S G). store_in shard) shards ++ after ∷ ahead)
    come-back fault after not_loaded =
        let kept : Shard S G → S = λ shard. store_in shard in
        let first = before.first in
        let count = before.count_is in
        let now : List S = set read (length shards) old_then in
        let mapped : length (map kept shards) ≡ length shards = length-map shards kept in
        let long = length-append first (store ∷ ahead) in
        let whole = ap (λ (stores : List S). length stores) before.stores_are in
        record {
          olds_are = before.olds_are;
          read_are = length-set read (length shards) old_then ∙ before.only.count_is ∙ before.olds_are;
          count_is = length-append (map kept shards) (after ∷ ahead) ∙ ap (λ n. n + length (after ∷ ahead)) (mapped ∙ count)
              ∙ sym (length-append first (store ∷ ahead)) ∙ sym whole;
          within = omega arith;
          before = λ number other_old other_then other given below other_old_is other_then_is is given_is.
              let found = read-within shards number below in
              let there = read-within first number (omega arith) in
              let its : there.0 ≡ other = same_Some there.0 other (sym (read-front first (store ∷ ahead) number there.0 there.1)
              ∙ ap (λ (stores : List S). slice_get stores number) (sym before.stores_are) ∙ is) in
              let its_store : store_in found.0 ≡ given =
              same_Some (store_in found.0) given (sym (read-front (map kept shards) (after ∷ ahead) number (store_in found.0)
              (read-map kept shards number found.0 found.1)) ∙ given_is) in
              let apart : number ≢ length shards = λ same. absurd (omega (arith, below, same)) in
              subst (λ (given : S). IsGivenBack G.bytes G.disk G.faults issuer number other_old other_then other given) its_store
              (given-back number other_old other_then other found.0
              (subst (λ (other : S). IsLoadedFrom issuer number other_old other_then other found.0) its
              (before.each number other_old other_then there.0 found.0 other_old_is
              (sym (read-other read (length shards) old_then number apart) ∙ other_then_is) there.1 found.1)));
          at = λ other_old other_then other given other_old_is other_then_is is given_is.
              let here : slice_get stores (length shards) ≡ Some store =
              ap (λ (stores : List S). slice_get stores (length shards)) before.stores_are
              ∙ ap (slice_get (first ++ store ∷ ahead)) (count ∙ sym (add-zero (length first))) ∙ read-behind first (store ∷ ahead) 0 in
              let here_back : slice_get (map kept shards ++ after ∷ ahead) (length shards) ≡ Some after =
              ap (slice_get (map kept shards ++ after ∷ ahead)) (sym mapped ∙ sym (add-zero (length (map kept shards))))
              ∙ read-behind (map kept shards) (after ∷ ahead) 0 in
              subst (λ (other_old : S). IsNotLoaded G.size G.bytes G.disk G.faults issuer (length shards) other_old other fault other_then given)
              (same_Some old other_old (sym old-unread ∙ other_old_is))
              (subst (λ (other_then : S). IsNotLoaded G.size G.bytes G.disk G.faults issuer (length shards) old other fault other_then given)
              (then-there other_then other_then_is)
              (subst (λ (other : S). IsNotLoaded G.size G.bytes G.disk G.faults issuer (length shards) old other fault old_then given)
              (same_Some store other (sym here ∙ is))
              (subst (λ (given : S). IsNotLoaded G.size G.bytes G.disk G.faults issuer (length shards) old store fault old_then given)
              (same_Some after given (sym here_back ∙ given_is)) not_loaded)));
          behind = λ number other_old other_then other given past other_old_is other_then_is is given_is.
              let apart : number ≢ length shards = λ same. absurd (omega (arith, past, same)) in
              let unread : slice_get now number ≡ slice_get olds number =
              read-other read (length shards) old_then number apart ∙ before.unread number (omega (arith, past)) in
              let uncalled : slice_get (map kept shards ++ after ∷ ahead) number ≡ slice_get stores number =
              behind-alike first (map kept shards) store after ahead number (mapped ∙ count) (omega (arith, count, past))
              ∙ ap (λ (stores : List S). slice_get stores number) (sym before.stores_are) in (
                same_Some other_then other_old (sym other_then_is ∙ unread ∙ other_old_is),
                same_Some given other (sym given_is ∙ uncalled ∙ is),
              );
        }

  -- all are loaded
  pub loading-all : (olds read stores : List S) (shards : List (Shard S G)) → IsLoading olds read stores shards [] → AreLoaded issuer olds read stores shards
  loading-all olds read stores shards done =
      let same : stores ≡ done.first = done.stores_are ∙ append-nil done.first in
      record {
        olds_are = done.olds_are;
        read_are = done.only.count_is ∙ done.olds_are;
        count_is = done.count_is ∙ ap (λ (stores : List S). length stores) (sym same);
        each = λ number old old_then store shard old_is then_is is shard_is.
            done.each number old old_then store shard old_is then_is (ap (λ (stores : List S). slice_get stores number) (sym same) ∙ is) shard_is;
      }

  -- the stores of a shard that was loaded
  pub record IsShardOf (olds read stores : List S) (number : ℕ) (shard : Shard S G) : Type 0 where
    pub old : S
    pub old_then : S
    pub store : S
    pub old_is : slice_get olds number ≡ Some old
    pub then_is : slice_get read number ≡ Some old_then
    pub store_is : slice_get stores number ≡ Some store
    pub from : IsLoadedFrom issuer number old old_then store shard

  pub shard-of : (olds read stores : List S) (shards : List (Shard S G)) → AreLoaded issuer olds read stores shards → (number : ℕ) (shard : Shard S G)
      → slice_get shards number ≡ Some shard → IsShardOf olds read stores number shard
  shard-of olds read stores shards loaded number shard is =
      let below = slice_get_within shards number shard is in
      let count = loaded.count_is in
      let old = read-within olds number (let long = loaded.olds_are in omega arith) in
      let old_then = read-within read number (let long = loaded.read_are in omega arith) in
      let store = read-within stores number (omega arith) in
      record {
        old = old.0;
        old_then = old_then.0;
        store = store.0;
        old_is = old.1;
        then_is = old_then.1;
        store_is = store.1;
        from = loaded.each number old.0 old_then.0 store.0 shard old.1 old_then.1 store.1 is;
      }

  -- the shards that were loaded are the issuer's
  pub loaded-are : (olds read stores : List S) (shards : List (Shard S G)) → length stores ≡ issuer.shards → AreLoaded issuer olds read stores shards
      → AreShards issuer shards
  loaded-are olds read stores shards long loaded = record {
    count_is = loaded.count_is ∙ long;
    numbers_are = λ number shard is. (shard-of olds read stores shards loaded number shard is).from.loaded.number_is;
    under = λ number shard is. (shard-of olds read stores shards loaded number shard is).from.under;
    undoubted = λ number shard is. (shard-of olds read stores shards loaded number shard is).from.undoubted;
  }

-- ---- memory is wanting, and no store was touched

module _ {S : Type 0} (G : Ghosts S) (issuer : Setup) where
  -- stores that weren't touched weren't loaded, for want of memory
  pub untouched : (number : ℕ) (old store : S)
      → IsNotLoaded G.size G.bytes G.disk G.faults issuer number old store NoMemory old store
  untouched number old store = record {
    stops = tt;
    kept = refl;
    still = reads-none (G.disk store);
    size_is = λ works. refl;
    leaves = crash-read (G.bytes old) (G.disk store) (G.disk store) (reads-none (G.disk store));
    counts = record {
      first = false;
      second = false;
      first_counts = counts-none (G.faults old);
      second_counts = counts-none (G.faults store);
      either = refl;
    };
    untouched = λ wanting. (refl, refl);
  }

  -- nor were those that are what they were
  untouched-same : (number : ℕ) (old old_then store after : S) → old_then ≡ old → after ≡ store
      → IsNotLoaded G.size G.bytes G.disk G.faults issuer number old store NoMemory old_then after
  untouched-same number old old_then store after old_same same =
      subst (λ (after : S). IsNotLoaded G.size G.bytes G.disk G.faults issuer number old store NoMemory old_then after) (sym same)
      (subst (λ (old_then : S). IsNotLoaded G.size G.bytes G.disk G.faults issuer number old store NoMemory old_then store) (sym old_same)
      (untouched number old store))

  pub none-loaded : (olds stores : List S) → length olds ≡ length stores → 0 < length stores
      → ComeBack G.size G.bytes G.disk G.faults issuer olds olds stores 0 NoMemory stores
  none-loaded olds stores long some = record {
    olds_are = long;
    read_are = long;
    count_is = refl;
    within = some;
    before = λ number old old_then store after below old_is then_is is after_is. absurd (omega arith);
    at = λ old old_then store after old_is then_is is after_is.
        untouched-same 0 old old_then store after (same_Some old_then old (sym then_is ∙ old_is)) (same_Some after store (sym after_is ∙ is));
    behind = λ number old old_then store after past old_is then_is is after_is. (
      same_Some old_then old (sym then_is ∙ old_is),
      same_Some after store (sym after_is ∙ is),
    );
  }

  -- stores that come back where shards are loaded one after another may also do so where they are loaded at once
  pub come-together : (olds read stores : List S) (failed : ℕ) (fault : LoadFault) (back : List S)
      → ComeBack G.size G.bytes G.disk G.faults issuer olds read stores failed fault back
      → ComeBackTogether G.size G.bytes G.disk G.faults issuer olds read stores failed fault back
  come-together olds read stores failed fault back come = record {
    olds_are = come.olds_are;
    read_are = come.read_are;
    count_is = come.count_is;
    within = come.within;
    before = come.before;
    at = come.at;
    behind = λ number old old_then store after past old_is then_is is after_is.
        let same = come.behind number old old_then store after past old_is then_is is after_is in
        inr (NoMemory, untouched-same number old old_then store after same.0 same.1);
  }

-- the store that was taken from the end is the next one
pub next-ahead : {S : Type 0} (ahead left : List S) (taken : Option S) (store : S) → ahead ≡ left ++ option_to_list taken → taken ≡ Some store
    → reverse ahead ≡ store ∷ reverse left
next-ahead {S} ahead left taken store parts is =
    ap reverse (parts ∙ ap (λ (taken : Option S). left ++ option_to_list taken) is) ∙ reverse-append left (store ∷ [])

-- no store is left once there is a shard for each
pub none-ahead : {S : Type 0} {G : Ghosts S} (issuer : Setup) (olds read stores : List S) (shards : List (Shard S G)) (ahead : List S)
    → IsLoading issuer olds read stores shards ahead → length stores ≤ length shards → ahead ≡ []
none-ahead issuer olds read stores shards [] loading all = refl
none-ahead issuer olds read stores shards (store ∷ ahead) loading all =
    let whole = ap length loading.stores_are in
    let long = length-append loading.first (store ∷ ahead) in
    let count = loading.count_is in
    absurd (omega arith)

-- and one is left before that
pub some-ahead : {S : Type 0} {G : Ghosts S} (issuer : Setup) (olds read stores : List S) (shards : List (Shard S G)) (ahead : List S)
    → IsLoading issuer olds read stores shards ahead → length shards < length stores → 0 < length ahead
some-ahead issuer olds read stores shards ahead loading fewer =
    let whole = ap length loading.stores_are in
    let long = length-append loading.first ahead in
    let count = loading.count_is in
    omega arith
