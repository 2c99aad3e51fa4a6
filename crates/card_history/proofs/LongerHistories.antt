-- A history with one more record at its end: each record keeps its index, and what each step preserves holds of every
-- history.
use Rattle.std.proofs.Common.{◌≡◌, ℕ, zero, suc, List, [], ◌∷◌, ◌++◌, length, take, Some, refl, arith, ap, sym, ◌∙◌, subst, inl, inr, ◌⊎◌}
use Rattle.std.proofs.Common.{append-nil, append_assoc}
use Rattle.std.proofs.lemmas.List.{take-append-le, take_all}
use Rattle.std.proofs.lemmas.Option.{slice_get_within}
use Rattle.std.specs.List.{slice_get}
use Rattle.issuer_base.specs.declared.entry.Entry.{Entry}

-- each record stays at its place
abbrev pub Stays : List Entry → List Entry → Type 0
Stays before after = (place : ℕ) (entry : Entry) → slice_get before place ≡ Some entry → slice_get after place ≡ Some entry

-- a record stays where one is added
pub stays-push : (history : List Entry) (entry : Entry) → Stays history (history ++ entry ∷ [])
stays-push [] entry place other is = absurd (cc)
stays-push (first ∷ history) entry zero other is = is
stays-push (first ∷ history) entry (suc place) other is = stays-push history entry place other is

-- the record that was added stands after the last
pub slice_get-push : (history : List Entry) (entry : Entry) → slice_get (history ++ entry ∷ []) (length history) ≡ Some entry
slice_get-push [] entry = refl
slice_get-push (first ∷ history) entry = slice_get-push history entry

-- and each other record was there before
pub slice_get-push_cases : (history : List Entry) (entry : Entry) (place : ℕ) (other : Entry) → slice_get (history ++ entry ∷ []) place ≡ Some other
    → (slice_get history place ≡ Some other) ⊎ ((place ≡ length history) × (entry ≡ other))
slice_get-push_cases [] entry zero other is = inr (refl, cc)
slice_get-push_cases [] entry (suc place) other is = absurd (cc)
slice_get-push_cases (first ∷ history) entry zero other is = inl is
slice_get-push_cases (first ∷ history) entry (suc place) other is =
    elim (slice_get-push_cases history entry place other is) [
      | inl before ↦ inl before
      | inr last ↦ inr (ap suc last.0, last.1)
    ]

-- the records before one that was there are the same
pub before-push : (history : List Entry) (entry : Entry) (place : ℕ) (other : Entry) → slice_get history place ≡ Some other
    → take place (history ++ entry ∷ []) ≡ take place history
before-push history entry place other is =
    let below = slice_get_within history place other is in
    take-append-le place history (entry ∷ []) (omega (arith, below))

-- and those before the one that was added are all that were there
pub before-last : (history : List Entry) (entry : Entry) → take (length history) (history ++ entry ∷ []) ≡ history
before-last history entry =
    take-append-le (length history) history (entry ∷ []) (omega arith) ∙ take_all (length history) history (omega arith)

grows : (Holds : List Entry → Type 0)
    → ((before : List Entry) (entry : Entry) → Holds before → Holds (before ++ entry ∷ []))
    → (before after : List Entry) → Holds before → Holds (before ++ after)
grows Holds step before [] here = subst Holds (sym (append-nil before)) here
grows Holds step before (entry ∷ after) here =
    subst Holds (append_assoc before (entry ∷ []) after) (grows Holds step (before ++ entry ∷ []) after (step before entry here))

-- what holds of no records, and goes on to hold with one more, holds of every history
pub every-history : (Holds : List Entry → Type 0) → Holds []
    → ((before : List Entry) (entry : Entry) → Holds before → Holds (before ++ entry ∷ []))
    → (history : List Entry) → Holds history
every-history Holds none step history = grows Holds step [] history none
