-- The journals of shards: their names, and what is opened under them.
use Rattle.std.proofs.Common.{◌≡◌, ℕ, ◌+◌, zero, suc, List, [], ◌∷◌, ◌++◌, length, Option, None, Some, refl, sym, ap}
use Rattle.std.proofs.Common.{◌∙◌, subst, arith, inl, inr, ⊎_elim}
use Rattle.std.specs.Prelude.{◌/◌, ◌%◌, ◌⊎◌, slice_get}
use Rattle.std.proofs.lemmas.List.{length-append}
use Rattle.issuer_base.specs.declared.outside.store.Store.{Ghosts}
use Rattle.desk_host.specs.SeenStores.{Logged, journals_seen, no_journals}
use Rattle.desk_host.specs.Journals.{file_name, old_name, journal_name, IsOpened, AreOpened}

-- ---- names

-- behind the same front the same stands
same-behind : (prefix first second : List ℕ) → prefix ++ first ≡ prefix ++ second → first ≡ second
same-behind [] first second same = same
same-behind (x ∷ prefix) first second same =
    same-behind prefix first second (let rest : prefix ++ first ≡ prefix ++ second = cc in rest)

-- shards have different names
pub names-apart : (ending prefix : List ℕ) (shard other : ℕ)
    → file_name ending prefix shard ≡ file_name ending prefix other → shard ≡ other
names-apart ending prefix shard other same =
    let digits = same-behind prefix _ _ same in
    let tens : 48 + shard / 10 ≡ 48 + other / 10 = cc in
    let ones : 48 + shard % 10 ≡ 48 + other % 10 = cc in
    omega (arith, tens, ones)

-- no journal has the name of an old one
pub old-apart : (prefix : List ℕ) (shard other : ℕ) → journal_name prefix shard ≡ old_name prefix other → ⊥
old-apart prefix shard other same = let digits = same-behind prefix _ _ same in cc

-- ---- one journal more

module _ {S : Type 0} (G : Ghosts S) where
  -- an element of a longer list is one of the list or the last
  slice_get-more : (xs : List S) (x y : S) (k : ℕ) → slice_get (xs ++ x ∷ []) k ≡ Some y
      → (slice_get xs k ≡ Some y) ⊎ ((k ≡ length xs) × (x ≡ y))
  slice_get-more [] x y zero is = inr (refl, (let e : Some x ≡ Some y = is in cc))
  slice_get-more [] x y (suc k) is = absurd (let e : None ≡ Some y = is in cc)
  slice_get-more (first ∷ xs) x y zero is = inl is
  slice_get-more (first ∷ xs) x y (suc k) is =
      ⊎_elim (λ front. inl front) (λ last. inr (ap suc last.0 ∙ sym (omega arith), last.1)) (slice_get-more xs x y k is)

  pub length-more : (xs : List S) (x : S) → length (xs ++ x ∷ []) ≡ length xs + 1
  length-more xs x = length-append xs (x ∷ [])

  -- one more is
  pub opened-more : (name : ℕ → List ℕ) (logs : Logged) (stores : List S) (store : S) (shard : ℕ) (held : Option (List ℕ))
      → AreOpened G name logs stores
      → shard ≡ length stores → held ≡ logs (name shard) → IsOpened G held store
      → AreOpened G name logs (stores ++ store ∷ [])
  opened-more name logs stores store shard held before place same opened number other is =
      ⊎_elim (λ front. before number other front)
      (λ last.
      let at : shard ≡ number = place ∙ sym last.0 in
      subst (λ (n : ℕ). IsOpened G (logs (name n)) other) at
      (subst (λ (s : S). IsOpened G (logs (name shard)) s) last.1
      (subst (λ (h : Option (List ℕ)). IsOpened G h store) same opened)))
      (slice_get-more stores store other number is)

  -- what the desk told of these names it told before
  pub opened-before : (name : ℕ → List ℕ) (logs before : Logged) (stores : List S)
      → ((shard : ℕ) → logs (name shard) ≡ before (name shard)) → AreOpened G name logs stores
      → AreOpened G name before stores
  opened-before name logs before stores same opened shard store is =
      subst (λ (h : Option (List ℕ)). IsOpened G h store) (same shard) (opened shard store is)

  -- no journal was opened
  pub journals-none : (olds stores : List S) → olds ≡ [] → stores ≡ [] → journals_seen G olds stores ≡ no_journals
  journals-none olds stores no_olds no_stores =
      subst (λ (ss : List S). journals_seen G olds ss ≡ no_journals) (sym no_stores)
      (subst (λ (os : List S). journals_seen G os [] ≡ no_journals) (sym no_olds) refl)
