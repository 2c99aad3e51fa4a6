-- The shards of a world that fell back, one by one.
use Rattle.std.proofs.Common.{◌-◌, drop, Contains, Bool, IsTrue, ◌↔◌}
use Rattle.std.proofs.Common.{◌≡◌, ℕ, zero, suc, ◌≤◌, ◌<◌, List, [], ◌∷◌, ◌++◌, length, take, set, get_or, Some, None}
use Rattle.std.proofs.Common.{◌≢◌, ◌+◌, refl, ap, sym, ◌∙◌, arith, inl, inr, length-set}
use Rattle.std.proofs.lemmas.Bool.{cases_eq, cases_lt}
use Rattle.std.proofs.lemmas.List.{set-get_or, take_all, take-append-le, length_push, ext_get_or, get_or-set_same, get_or-set_other}
use Rattle.std.specs.List.{slice_get}
use Rattle.issuer_base.specs.declared.answer.Reply.{Reply}
use Rattle.issuer_base.specs.declared.entry.Entry.{Entry}
use Rattle.issuer_base.specs.declared.entry.Entry.TheVariants.{Decided}
use Rattle.world_net.specs.declared.parts.Exchange.{Exchange}
use Rattle.world_net.specs.WorldState.{ShardState, no_shard}
use Rattle.world_model.specs.FallBack.{CanTruncate, truncated, all_truncated}
use Rattle.world_net.proofs.Hosts.{at, recorded}

-- each shard is truncated to its number
pub truncated-at : (shards : List ShardState) (keep : List ℕ) (shard : ℕ) → length keep ≡ length shards
    → at (all_truncated shards keep) shard ≡ truncated (at shards shard) (get_or keep shard 0)
truncated-at [] [] shard long = refl
truncated-at [] (count ∷ keep) shard long = absurd (omega (arith, long))
truncated-at (first ∷ shards) [] shard long = absurd (omega (arith, long))
truncated-at (first ∷ shards) (count ∷ keep) zero long = refl
truncated-at (first ∷ shards) (count ∷ keep) (suc shard) long = truncated-at shards keep shard (omega (arith, long))

-- as many shards as before
pub truncated-count : (shards : List ShardState) (keep : List ℕ) → length keep ≡ length shards → length (all_truncated shards keep) ≡ length shards
truncated-count [] [] long = refl
truncated-count [] (count ∷ keep) long = absurd (omega (arith, long))
truncated-count (first ∷ shards) [] long = absurd (omega (arith, long))
truncated-count (first ∷ shards) (count ∷ keep) long = ap suc (truncated-count shards keep (omega (arith, long)))

-- a shard that is put is truncated like the others
pub truncated-set : (shards : List ShardState) (keep : List ℕ) (shard : ℕ) (new : ShardState) → length keep ≡ length shards
    → all_truncated (set shards shard new) keep ≡ set (all_truncated shards keep) shard (truncated new (get_or keep shard 0))
truncated-set [] [] shard new long = refl
truncated-set [] (count ∷ keep) shard new long = absurd (omega (arith, long))
truncated-set (first ∷ shards) [] shard new long = absurd (omega (arith, long))
truncated-set (first ∷ shards) (count ∷ keep) zero new long = refl
truncated-set (first ∷ shards) (count ∷ keep) (suc shard) new long =
    ap (λ (rest : List ShardState). truncated first count ∷ rest) (truncated-set shards keep shard new (omega (arith, long)))

-- one that is put and has the same first records changes nothing
pub truncated-same : (shards : List ShardState) (keep : List ℕ) (shard : ℕ) (new : ShardState) → length keep ≡ length shards
    → take (get_or keep shard 0) new.history ≡ take (get_or keep shard 0) (at shards shard).history
    → all_truncated (set shards shard new) keep ≡ all_truncated shards keep
truncated-same shards keep shard new long same =
    let read = truncated-at shards keep shard long in
    let put : truncated new (get_or keep shard 0) ≡ at (all_truncated shards keep) shard =
    (λ i. record { history = same i; doubt = None }) ∙ sym read in
    truncated-set shards keep shard new long ∙ ap (set (all_truncated shards keep) shard) put ∙ set-get_or (all_truncated shards keep) shard no_shard

-- a record past the number that is kept is lost
pub truncated-lost : (shards : List ShardState) (keep : List ℕ) (shard : ℕ) (entry : Entry) → length keep ≡ length shards
    → get_or keep shard 0 ≤ length (at shards shard).history
    → all_truncated (recorded shards shard entry) keep ≡ all_truncated shards keep
truncated-lost shards keep shard entry long past =
    truncated-same shards keep shard (record { history = (at shards shard).history ++ entry ∷ []; doubt = None }) long
    (take-append-le (get_or keep shard 0) (at shards shard).history (entry ∷ []) past)

-- any other is recorded after the same records
pub truncated-history : (shards : List ShardState) (keep : List ℕ) (shard : ℕ) → length keep ≡ length shards
    → length (at shards shard).history < get_or keep shard 0
    → (at (all_truncated shards keep) shard).history ≡ (at shards shard).history
truncated-history shards keep shard long below =
    ap (λ (s : ShardState). s.history) (truncated-at shards keep shard long)
    ∙ take_all (get_or keep shard 0) (at shards shard).history (omega (arith, below))

pub truncated-kept : (shards : List ShardState) (keep : List ℕ) (shard : ℕ) (entry : Entry) → length keep ≡ length shards
    → length (at shards shard).history < get_or keep shard 0
    → all_truncated (recorded shards shard entry) keep ≡ recorded (all_truncated shards keep) shard entry
truncated-kept shards keep shard entry long below =
    let history = (at shards shard).history in
    let more = history ++ entry ∷ [] in
    let size : length more ≡ length history + 1 = length_push history entry in
    let all : take (get_or keep shard 0) more ≡ more = take_all (get_or keep shard 0) more (omega (arith, size, below)) in
    let same : take (get_or keep shard 0) more ≡ (at (all_truncated shards keep) shard).history ++ entry ∷ [] =
    all ∙ ap (λ (l : List Entry). l ++ entry ∷ []) (sym (truncated-history shards keep shard long below)) in
    truncated-set shards keep shard (record { history = more; doubt = None }) long
    ∙ ap (λ (l : List Entry). set (all_truncated shards keep) shard (record { history = l; doubt = None })) same

-- a record that is left was there before, at the same place
pub take-left : (count : ℕ) (history : List Entry) (place : ℕ) (entry : Entry) → slice_get (take count history) place ≡ Some entry
    → (slice_get history place ≡ Some entry) × (place < count)
take-left zero history place entry is = absurd (cc)
take-left (suc count) [] place entry is = absurd (cc)
take-left (suc count) (first ∷ history) zero entry is = (is, omega arith)
take-left (suc count) (first ∷ history) (suc place) entry is =
    let rec = take-left count history place entry is in
    let below = rec.1 in
    (rec.0, omega arith)

-- and one before the number that is kept is left
pub take-kept : (count : ℕ) (history : List Entry) (place : ℕ) (entry : Entry) → slice_get history place ≡ Some entry → place < count
    → slice_get (take count history) place ≡ Some entry
take-kept zero history place entry is below = absurd (omega (arith, below))
take-kept (suc count) [] place entry is below = absurd (cc)
take-kept (suc count) (first ∷ history) zero entry is below = is
take-kept (suc count) (first ∷ history) (suc place) entry is below = take-kept count history place entry is (omega arith)

-- the first so many shards are truncated
pub record TruncatedTo (keep : List ℕ) (old now : List ShardState) (count : ℕ) : Type 0 where
  pub size : length now ≡ length old
  pub done : (shard : ℕ) → shard < count → at now shard ≡ truncated (at old shard) (get_or keep shard 0)
  pub left : (shard : ℕ) → count ≤ shard → at now shard ≡ at old shard

pub truncated-start : (keep : List ℕ) (old : List ShardState) → TruncatedTo keep old old 0
truncated-start keep old = record { size = refl; done = λ shard below. absurd (omega (arith, below)); left = λ shard above. refl }

pub truncated-more : (keep : List ℕ) (old now : List ShardState) (count number : ℕ) (was new : ShardState) → count < length old
    → was ≡ at now count → number ≡ get_or keep count 0 → new ≡ truncated was number → TruncatedTo keep old now count
    → TruncatedTo keep old (set now count new) (count + 1)
truncated-more keep old now count number was new below was_is number_is new_is to =
    let size = to.size in
    record {
      size = length-set now count new ∙ to.size;
      done = λ shard under. elim (cases_eq shard count) [
        | inl same ↦
            ap (at (set now count new)) same
            ∙ get_or-set_same now count new no_shard (omega (arith, below, size))
            ∙ new_is ∙ ap (λ (s : ShardState). truncated s number) (was_is ∙ to.left count (omega arith))
            ∙ ap (truncated (at old count)) number_is
            ∙ ap (λ n. truncated (at old n) (get_or keep n 0)) (sym same)
        | inr apart ↦ get_or-set_other now count shard new no_shard apart ∙ to.done shard (omega arith)
      ];
      left = λ shard above.
          let apart : shard ≢ count = omega arith in
          get_or-set_other now count shard new no_shard apart ∙ to.left shard (omega arith);
    }

pub truncated-end : (keep : List ℕ) (old now : List ShardState) (count : ℕ) → length keep ≡ length old → length old ≤ count
    → TruncatedTo keep old now count → now ≡ all_truncated old keep
truncated-end keep old now count long past to =
    ext_get_or no_shard now (all_truncated old keep) (to.size ∙ sym (truncated-count old keep long))
    (λ shard below.
    let size = to.size in
    to.done shard (omega (arith, below, size, past)) ∙ sym (truncated-at old keep shard long))

-- what is read after the first records
slice_get-drop : (count : ℕ) (history : List Entry) (place whole : ℕ) → count + place ≡ whole
    → slice_get (drop count history) place ≡ slice_get history whole
slice_get-drop zero history place whole same = let its : place ≡ whole = omega (arith, same) in ap (slice_get history) its
slice_get-drop (suc count) [] place whole same = refl
slice_get-drop (suc count) (first ∷ history) place zero same = absurd (omega (arith, same))
slice_get-drop (suc count) (first ∷ history) place (suc whole) same = slice_get-drop count history place whole (omega (arith, same))

-- a shard may be truncated exactly if no reply to the request of a record after the first was sent
pub lost-unsent : (sent : List Exchange) (shard : ShardState) (count : ℕ) (history : List Entry) (unsent : Bool) → history ≡ shard.history
    → count ≤ length history
    → (IsTrue unsent ↔ ((exchange : Exchange) (place : ℕ) (reply : Reply) → Contains sent exchange
    → slice_get (drop count history) place ≡ Some (Decided exchange.request reply) → ⊥))
    → (IsTrue unsent ↔ CanTruncate sent shard count)
lost-unsent sent shard count history unsent history_is within exact = (
  λ is_unsent. record {
    within = let long = ap (λ (l : List Entry). length l) history_is in omega (arith, within, long);
    unsent = λ exchange place reply here is.
        elim (cases_lt place count) [
          | inl below ↦ below
          | inr past ↦
              let there : slice_get history place ≡ Some (Decided exchange.request reply) = ap (λ (l : List Entry). slice_get l place) history_is ∙ is in
              absurd (exact.0 is_unsent exchange (place - count) reply here
              (slice_get-drop count history (place - count) place (omega (arith, past)) ∙ there))
        ];
  },
  λ can.
      exact.1 (λ exchange place reply here is.
      let there : slice_get shard.history (count + place) ≡ Some (Decided exchange.request reply) =
      ap (λ (l : List Entry). slice_get l (count + place)) (sym history_is) ∙ sym (slice_get-drop count history place (count + place) refl) ∙ is in
      let below = can.unsent exchange (count + place) reply here there in
      omega (arith, below)),
)
