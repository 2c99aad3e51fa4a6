-- What the definitions of an issuer's key sets state: which lists are valid, and which key set an index names.
use Rattle.std.proofs.Common.{◌≡◌, ◌≢◌, ℕ, zero, suc, ◌+◌, ◌<◌, ◌≤◌, ◌==◌, if◌then◌else◌, true, false, ◌||◌, List, [], ◌∷◌, ◌++◌, length, get_or}
use Rattle.std.proofs.Common.{ap, sym, ◌∙◌, subst, inl, inr, Option, None, Some, append-nil, append_assoc, length-append, arith}
use Rattle.std.proofs.lemmas.Bool.{eqb-false, ltb-true, ltb-false, cond-true, cond-false, cases_Bool}
use Rattle.std.proofs.lemmas.List.Folds.{find_at}
use Rattle.std.proofs.lemmas.List.Quantifiers.{all_pairs_push}
use Rattle.std.proofs.lemmas.Option.{IfSome_then, cond_some, slice_get_past}
use Rattle.std.specs.List.{list_any, AllPairs, position, position_or_len, slice_get}
use Rattle.std.specs.Option.{IfSome}
use Rattle.std.specs.Prelude.{nat_lt}
use Rattle.issuer_base.specs.declared.limits.TheConstants.{MAX_KEY_SETS}
use Rattle.key_derive.specs.declared.card.KeySet.{KeySet}
use Rattle.issuer_setup.specs.KeyList.{has_dki, key_of, first_repeat, bad_key, AreKeys}

-- no key set before has the index
unnamed : (dki : ℕ) (before : List KeySet) → list_any (has_dki dki) before ≡ false → (k : ℕ) (d : KeySet) → k < length before
    → (get_or before k d).dki ≡ dki → ⊥
unnamed dki [] absent k d below same = absurd (omega arith)
unnamed dki (set ∷ before) absent zero d below same =
    elim (cases_Bool (has_dki dki set)) [
      | inl named ↦ let some : true ≡ false = sym (ap (λ b. b || list_any (has_dki dki) before) named) ∙ absent in absurd (cc)
      | inr other ↦ eqb-false set.dki dki other same
    ]
unnamed dki (set ∷ before) absent (suc k) d below same =
    elim (cases_Bool (has_dki dki set)) [
      | inl named ↦ let some : true ≡ false = sym (ap (λ b. b || list_any (has_dki dki) before) named) ∙ absent in absurd (cc)
      | inr other ↦ unnamed dki before (sym (ap (λ b. b || list_any (has_dki dki) before) other) ∙ absent) k d (omega arith) same
    ]

distinct-all : (before keys : List KeySet) → AllPairs (λ first second. first.dki ≢ second.dki) before → first_repeat before keys ≡ None
    → AllPairs (λ first second. first.dki ≢ second.dki) (before ++ keys)
distinct-all before [] distinct none = subst (AllPairs (λ first second. first.dki ≢ second.dki)) (sym (append-nil before)) distinct
distinct-all before (set ∷ keys) distinct none =
    elim (cases_Bool (list_any (has_dki set.dki) before)) [
      | inl repeated ↦ absurd (let some : Some (length before) ≡ None = sym (cond-true (list_any (has_dki set.dki) before) _ _ repeated) ∙ none in cc)
      | inr new ↦
          let rest : first_repeat (before ++ set ∷ []) keys ≡ None = sym (cond-false (list_any (has_dki set.dki) before) _ _ new) ∙ none in
          let more = all_pairs_push (λ first second. first.dki ≢ second.dki) before set distinct (unnamed set.dki before new) in
          subst (AllPairs (λ first second. first.dki ≢ second.dki)) (append_assoc before (set ∷ []) keys) (distinct-all (before ++ set ∷ []) keys more rest)
    ]

-- a list of key sets that is taken is what an issuer's key sets are
pub bad_key-none : (keys : List KeySet) → length keys ≤ MAX_KEY_SETS → bad_key keys ≡ None → AreKeys keys
unfolding bad_key
bad_key-none keys few none =
    elim (cases_Bool (length keys == 0)) [
      | inl empty ↦ absurd (let some : Some 0 ≡ None = sym (cond-true (length keys == 0) _ _ empty) ∙ none in cc)
      | inr some ↦
          let all : first_repeat [] keys ≡ None = sym (cond-false (length keys == 0) _ _ some) ∙ none in
          let there : length keys ≢ 0 = eqb-false (length keys) 0 some in
          record { some = omega (arith, there); few = few; distinct = distinct-all [] keys (λ i j d lower below. absurd (omega arith)) all }
    ]

-- what the first place of an index says
found-parts : (dki : ℕ) (keys : List KeySet) (place : ℕ) → position (has_dki dki) keys ≡ Some place
    → (nat_lt (position_or_len (has_dki dki) keys) (length keys) ≡ true) × (position_or_len (has_dki dki) keys ≡ place)
found-parts dki keys place found =
    cond_some (nat_lt (position_or_len (has_dki dki) keys) (length keys)) (position_or_len (has_dki dki) keys) place found

-- the first key set with an index stands at the first place of the index
pub key_of-place : (dki : ℕ) (keys : List KeySet) (place : ℕ) → position (has_dki dki) keys ≡ Some place → key_of dki keys ≡ slice_get keys place
key_of-place dki keys place found = find_at (has_dki dki) keys ∙ ap (slice_get keys) (found-parts dki keys place found).1

-- and that place is one of the places
pub key_of-within : (dki : ℕ) (keys : List KeySet) (place : ℕ) → position (has_dki dki) keys ≡ Some place → place < length keys
key_of-within dki keys place found =
    let parts = found-parts dki keys place found in
    let within = ltb-true (position_or_len (has_dki dki) keys) (length keys) parts.0 in
    subst (λ (place : ℕ). place < length keys) parts.1 within

-- an index that stands at no place is that of no key set
pub key_of-none : (dki : ℕ) (keys : List KeySet) → position (has_dki dki) keys ≡ None → key_of dki keys ≡ None
key_of-none dki keys absent =
    elim (cases_Bool (nat_lt (position_or_len (has_dki dki) keys) (length keys))) [
      | inl within ↦ absurd (let some : Some (position_or_len (has_dki dki) keys) ≡ None =
          sym (cond-true (nat_lt (position_or_len (has_dki dki) keys) (length keys)) _ _ within) ∙ absent in cc)
      | inr past ↦ find_at (has_dki dki) keys ∙ slice_get_past keys (position_or_len (has_dki dki) keys) (ltb-false _ _ past)
    ]

-- key sets that are some are refused at the first repeat
pub bad_key-some : (keys : List KeySet) → 1 ≤ length keys → bad_key keys ≡ first_repeat [] keys
unfolding bad_key
bad_key-some keys some = cond-false (length keys == 0) (Some 0) (first_repeat [] keys) (grind (arith, some))

-- a repeat is one of the key sets
first_repeat-within : (before keys : List KeySet) → IfSome (first_repeat before keys) (λ place. place < length before + length keys)
first_repeat-within before [] = tt
first_repeat-within before (set ∷ keys) =
    let more = first_repeat-within (before ++ set ∷ []) keys in
    let count : length (before ++ set ∷ []) ≡ length before + 1 = length-append before (set ∷ []) in
    elim (list_any (has_dki set.dki) before) as
    (λ repeated. IfSome (if repeated then Some (length before) else first_repeat (before ++ set ∷ []) keys)
    (λ place. place < length before + length (set ∷ keys))) [
      | true ↦ omega arith
      | false ↦ IfSome_then (first_repeat (before ++ set ∷ []) keys) more (λ place below. omega (arith, below, count))
    ]

if-some : (found : Option ℕ) (place most : ℕ) → IfSome found (λ place. place < most) → found ≡ Some place → place < most
if-some found place most within is = subst (λ found. IfSome found (λ place. place < most)) is within

-- the place at which key sets are refused is below the most key sets
pub bad_key-below : (keys : List KeySet) (place : ℕ) → length keys ≤ MAX_KEY_SETS → bad_key keys ≡ Some place → place < MAX_KEY_SETS
unfolding bad_key
bad_key-below [] place few bad = if-some (Some 0) place MAX_KEY_SETS (omega arith) bad
bad_key-below (set ∷ keys) place few bad =
    if-some (first_repeat [] (set ∷ keys)) place MAX_KEY_SETS
    (IfSome_then (first_repeat [] (set ∷ keys)) (first_repeat-within [] (set ∷ keys)) (λ place below. omega (arith, below)))
    (sym (bad_key-some (set ∷ keys) (omega arith)) ∙ bad)
