-- Prefixes of lists, and logs that change at one shard.
use Rattle.std.proofs.Common.{◌≡◌, ◌≢◌, ℕ, zero, suc, ◌<◌, ◌≤◌, ◌⊎◌, List, [], ◌∷◌, ◌++◌, length, Bool, true, false, ltb, cond, inl, inr}
use Rattle.std.proofs.Common.{refl, ap, ◌∙◌, subst, arith}
use Rattle.std.proofs.lemmas.Bool.Decides.{nat_tests}
use Rattle.turn_book.specs.declared.logs.Log.{Log}
use Rattle.turn_book.specs.Logs.{heads_of, items_at, with_items, IsFront, StandsAt}
use Rattle.turn_book.specs.TurnViews.{longer, longer_logs}

module _ {I : Type 0} where
  pub front_refl : (xs : List I) → IsFront xs xs
  front_refl [] = refl
  front_refl (x ∷ xs) = λ i. x ∷ front_refl xs i

  pub front_length : (xs ys : List I) → IsFront xs ys → length xs ≤ length ys
  front_length [] ys e = omega arith
  front_length (x ∷ xs) [] e = absurd (cc)
  front_length (x ∷ xs) (y ∷ ys) e = let rest : IsFront xs ys = cc in omega (arith, front_length xs ys rest)

  pub front_append : (xs ys zs : List I) → IsFront xs ys → IsFront xs (ys ++ zs)
  front_append [] ys zs e = refl
  front_append (x ∷ xs) [] zs e = absurd (cc)
  front_append (x ∷ xs) (y ∷ ys) zs e =
      let rest : IsFront xs ys = cc in
      let more : IsFront xs (ys ++ zs) = front_append xs ys zs rest in
      let same : y ≡ x = cc in
      cc

  pub front_trans : (xs ys zs : List I) → IsFront xs ys → IsFront ys zs → IsFront xs zs
  front_trans [] ys zs e d = refl
  front_trans (x ∷ xs) [] zs e d = absurd (cc)
  front_trans (x ∷ xs) (y ∷ ys) [] e d = absurd (cc)
  front_trans (x ∷ xs) (y ∷ ys) (z ∷ zs) e d =
      let rest : IsFront xs ys = cc in
      let more : IsFront ys zs = cc in
      let both : IsFront xs zs = front_trans xs ys zs rest more in
      let same : z ≡ x = cc in
      cc

  -- of two fronts of one list the shorter is a front of the other
  pub front_below : (xs ys zs : List I) → IsFront xs zs → IsFront ys zs → length xs ≤ length ys → IsFront xs ys
  front_below [] ys zs e d le = refl
  front_below (x ∷ xs) [] zs e d le = absurd (omega arith)
  front_below (x ∷ xs) (y ∷ ys) [] e d le = absurd (cc)
  front_below (x ∷ xs) (y ∷ ys) (z ∷ zs) e d le =
      let rest : IsFront xs zs = cc in
      let more : IsFront ys zs = cc in
      let both : IsFront xs ys = front_below xs ys zs rest more (omega arith) in
      let same : y ≡ x = cc in
      cc

  -- a front that is as long is the list
  pub front_whole : (xs ys : List I) → IsFront xs ys → length xs ≡ length ys → xs ≡ ys
  front_whole [] [] e long = refl
  front_whole [] (y ∷ ys) e long = absurd (omega arith)
  front_whole (x ∷ xs) [] e long = absurd (omega arith)
  front_whole (x ∷ xs) (y ∷ ys) e long =
      let rest : IsFront xs ys = cc in
      let same : xs ≡ ys = front_whole xs ys rest (omega arith) in
      let head : y ≡ x = cc in
      cc

module _ {I B : Type 0} where
  pub items-with_same : (logs : List (Log I B)) (shard : ℕ) (items : List I) → shard < length logs → items_at (with_items logs shard items) shard ≡ items
  items-with_same [] shard items below = absurd (omega arith)
  items-with_same (log ∷ logs) zero items below = refl
  items-with_same (log ∷ logs) (suc shard) items below = items-with_same logs shard items (omega arith)

  pub items-with_other : (logs : List (Log I B)) (shard other : ℕ) (items : List I) → other ≢ shard
      → items_at (with_items logs shard items) other ≡ items_at logs other
  items-with_other [] shard other items apart = refl
  items-with_other (log ∷ logs) zero zero items apart = absurd (apart refl)
  items-with_other (log ∷ logs) zero (suc other) items apart = refl
  items-with_other (log ∷ logs) (suc shard) zero items apart = refl
  items-with_other (log ∷ logs) (suc shard) (suc other) items apart = items-with_other logs shard other items (λ e. apart (ap suc e))

  pub heads-with : (logs : List (Log I B)) (shard : ℕ) (items : List I) → heads_of (with_items logs shard items) ≡ heads_of logs
  heads-with [] shard items = refl
  heads-with (log ∷ logs) zero items = refl
  heads-with (log ∷ logs) (suc shard) items = λ i. log.head ∷ heads-with logs shard items i

  pub heads-length : (logs others : List (Log I B)) → heads_of logs ≡ heads_of others → length logs ≡ length others
  heads-length [] [] e = refl
  heads-length [] (other ∷ others) e = absurd (cc)
  heads-length (log ∷ logs) [] e = absurd (cc)
  heads-length (log ∷ logs) (other ∷ others) e = let rest : heads_of logs ≡ heads_of others = cc in omega (arith, heads-length logs others rest)

  -- the longer of two logs, at each shard
  pub longer_cases : (log other : Log I B)
      → ((longer log other ≡ log) × (length other.items ≤ length log.items)) ⊎ ((longer log other ≡ other) × (length log.items ≤ length other.items))
  longer_cases log other =
      let goes : (test : Bool) → ltb (length log.items) (length other.items) ≡ test
      → ((cond test other log ≡ log) × (length other.items ≤ length log.items)) ⊎ ((cond test other log ≡ other) × (length log.items ≤ length other.items)) =
      λ test is. elim test as (λ t. ltb (length log.items) (length other.items) ≡ t
      → ((cond t other log ≡ log) × (length other.items ≤ length log.items)) ⊎ ((cond t other log ≡ other) × (length log.items ≤ length other.items))) [
        | true ↦ λ less. inr (refl, grind (arith, nat_tests))
        | false ↦ λ more. inl (refl, grind (arith, nat_tests))
      ] is in
      goes (ltb (length log.items) (length other.items)) refl

  pub heads-longer : (logs others : List (Log I B)) → heads_of logs ≡ heads_of others → heads_of (longer_logs logs others) ≡ heads_of logs
  heads-longer [] [] e = refl
  heads-longer [] (other ∷ others) e = absurd (cc)
  heads-longer (log ∷ logs) [] e = refl
  heads-longer (log ∷ logs) (other ∷ others) e =
      let rest : heads_of logs ≡ heads_of others = cc in
      let more : heads_of (longer_logs logs others) ≡ heads_of logs = heads-longer logs others rest in
      let same : other.head ≡ log.head = cc in
      let head : (longer log other).head ≡ log.head = elim (longer_cases log other) [
        | inl first ↦ ap (λ (l : Log I B). l.head) first.0
        | inr second ↦ ap (λ (l : Log I B). l.head) second.0 ∙ same
      ] in
      λ i. head i ∷ more i

  pub items-longer : (logs others : List (Log I B)) (shard : ℕ)
      → ((items_at (longer_logs logs others) shard ≡ items_at logs shard) × (length (items_at others shard) ≤ length (items_at logs shard)))
      ⊎ ((items_at (longer_logs logs others) shard ≡ items_at others shard) × (length (items_at logs shard) ≤ length (items_at others shard)))
  items-longer [] others shard = inr (refl, omega arith)
  items-longer (log ∷ logs) [] shard = inl (refl, omega arith)
  items-longer (log ∷ logs) (other ∷ others) zero =
      elim (longer_cases log other) [
        | inl first ↦ inl (ap (λ (l : Log I B). l.items) first.0, first.1)
        | inr second ↦ inr (ap (λ (l : Log I B). l.items) second.0, second.1)
      ]
  items-longer (log ∷ logs) (other ∷ others) (suc shard) = items-longer logs others shard

-- a value stands for a log where it does for one with the same head and items
pub stands_alike : {V I B : Type 0} (stands : V → B → List I → Type 0) (value : V) (logs others : List (Log I B)) (shard : ℕ)
    → heads_of logs ≡ heads_of others → items_at logs shard ≡ items_at others shard → StandsAt stands value logs shard → StandsAt stands value others shard
stands_alike stands value [] others shard heads items here = absurd here
stands_alike stands value (log ∷ logs) [] shard heads items here = absurd (cc)
stands_alike stands value (log ∷ logs) (other ∷ others) zero heads items here =
    let head : log.head ≡ other.head = cc in
    subst (λ (b : _). stands value b other.items) head (subst (stands value log.head) items here)
stands_alike stands value (log ∷ logs) (other ∷ others) (suc shard) heads items here =
    let rest : heads_of logs ≡ heads_of others = cc in
    stands_alike stands value logs others shard rest items here

pub stands_below : {V I B : Type 0} (stands : V → B → List I → Type 0) (value : V) (logs : List (Log I B)) (shard : ℕ)
    → StandsAt stands value logs shard → shard < length logs
stands_below stands value [] shard here = absurd here
stands_below stands value (log ∷ logs) zero here = omega arith
stands_below stands value (log ∷ logs) (suc shard) here = omega (arith, stands_below stands value logs shard here)
