-- Prefixes of lists.
use Rattle.std.proofs.Common.{◌≡◌, ℕ, ◌+◌, ◌<◌, ◌≤◌, suc, zero, List, [], ◌∷◌, ◌++◌, length, take, drop, Some, refl, ap, sym, ◌∙◌, subst, arith}
use Rattle.std.proofs.Common.{append_assoc, length-append}
use Rattle.std.proofs.lemmas.List.{append-nil, length-take, take-append-drop, take_at, take-take, take-append-le}
use Rattle.std.proofs.lemmas.Option.{none-some, same_Some}
use Rattle.std.specs.List.{slice_get}
use Rattle.one_history.specs.Prefixes.{IsPrefix}

-- an element of a list is at its index also if more follows
pub get-append : {A : Type 0} → (xs ys : List A) (index : ℕ) (x : A) → slice_get xs index ≡ Some x → slice_get (xs ++ ys) index ≡ Some x
get-append [] ys index x is = absurd (none-some x is)
get-append (y ∷ xs) ys zero x is = is
get-append (y ∷ xs) ys (suc index) x is = get-append xs ys index x is

-- and the other way round, within the list
pub get-before : {A : Type 0} → (xs ys : List A) (index : ℕ) (x : A) → index < length xs → slice_get (xs ++ ys) index ≡ Some x → slice_get xs index ≡ Some x
get-before [] ys index x within is = absurd (omega arith)
get-before (y ∷ xs) ys zero x within is = is
get-before (y ∷ xs) ys (suc index) x within is = get-before xs ys index x (omega arith) is

-- the element after a list
pub get-last : {A : Type 0} → (xs : List A) (x : A) → slice_get (xs ++ x ∷ []) (length xs) ≡ Some x
get-last [] x = refl
get-last (y ∷ xs) x = get-last xs x

module _ {A : Type 0} where
  -- a list is its first elements, the next one, and the others
  get-split : (xs : List A) (index : ℕ) (x : A) → slice_get xs index ≡ Some x → take index xs ++ x ∷ drop (suc index) xs ≡ xs
  get-split [] index x is = absurd (none-some x is)
  get-split (y ∷ xs) zero x is = ap (λ (z : A). z ∷ xs) (sym (same_Some y x is))
  get-split (y ∷ xs) (suc index) x is = ap (λ (l : List A). y ∷ l) (get-split xs index x is)

  pub prefix-refl : (xs : List A) → IsPrefix xs xs
  prefix-refl xs = record { remainder = []; is = append-nil xs }

  pub prefix-same : (xs ys : List A) → xs ≡ ys → IsPrefix xs ys
  prefix-same xs ys same = record { remainder = []; is = append-nil xs ∙ same }

  pub prefix-trans : (xs ys zs : List A) → IsPrefix xs ys → IsPrefix ys zs → IsPrefix xs zs
  prefix-trans xs ys zs first second = record {
    remainder = first.remainder ++ second.remainder;
    is = sym (append_assoc xs first.remainder second.remainder) ∙ ap (λ (l : List A). l ++ second.remainder) first.is ∙ second.is;
  }

  pub prefix-append : (xs ys : List A) → IsPrefix xs (xs ++ ys)
  prefix-append xs ys = record { remainder = ys; is = refl }

  pub prefix-take : (count : ℕ) (xs : List A) → IsPrefix (take count xs) xs
  prefix-take count xs = record { remainder = drop count xs; is = take-append-drop count xs }

  pub prefix-length : (xs ys : List A) → IsPrefix xs ys → length xs ≤ length ys
  prefix-length xs ys prefix =
      let sum : length xs + length prefix.remainder ≡ length ys = sym (length-append xs prefix.remainder) ∙ ap length prefix.is in
      omega arith

  -- a prefix is the first elements of the list
  pub prefix-is_take : (xs ys : List A) → IsPrefix xs ys → take (length xs) ys ≡ xs
  prefix-is_take xs ys prefix = ap (take (length xs)) (sym prefix.is) ∙ take_at xs prefix.remainder (length xs) refl

  -- of two prefixes of one list the shorter one is a prefix of the longer one
  pub prefix-shorter : (xs ys zs : List A) → IsPrefix xs zs → IsPrefix ys zs → length xs ≤ length ys → IsPrefix xs ys
  prefix-shorter xs ys zs first second shorter =
      let same : take (length xs) ys ≡ xs =
      ap (take (length xs)) (sym (prefix-is_take ys zs second)) ∙ take-take (length xs) (length ys) zs shorter ∙ prefix-is_take xs zs first in
      subst (λ (l : List A). IsPrefix l ys) same (prefix-take (length xs) ys)

  -- a prefix within the first elements
  pub prefix-of_take : (count : ℕ) (xs ys : List A) → IsPrefix xs ys → length xs ≤ count → IsPrefix xs (take count ys)
  prefix-of_take count xs ys prefix within =
      let long = length-take count ys in
      let few = prefix-length xs ys prefix in
      prefix-shorter xs (take count ys) ys prefix (prefix-take count ys) (omega arith)

  -- two prefixes of one list with the same length are the same
  pub prefix-one : (xs ys zs : List A) → IsPrefix xs zs → IsPrefix ys zs → length xs ≡ length ys → xs ≡ ys
  prefix-one xs ys zs first second same =
      sym (prefix-is_take xs zs first) ∙ ap (λ (n : ℕ). take n zs) same ∙ prefix-is_take ys zs second

  pub prefix-get : (xs ys : List A) (index : ℕ) (x : A) → IsPrefix xs ys → slice_get xs index ≡ Some x → slice_get ys index ≡ Some x
  prefix-get xs ys index x prefix is =
      subst (λ (l : List A). slice_get l index ≡ Some x) prefix.is (get-append xs prefix.remainder index x is)

  pub prefix-get_before : (xs ys : List A) (index : ℕ) (x : A) → IsPrefix xs ys → index < length xs → slice_get ys index ≡ Some x
      → slice_get xs index ≡ Some x
  prefix-get_before xs ys index x prefix within is =
      get-before xs prefix.remainder index x within (subst (λ (l : List A). slice_get l index ≡ Some x) (sym prefix.is) is)

  -- a prefix and the next element are a prefix
  pub prefix-more : (xs ys : List A) (x : A) → IsPrefix xs ys → slice_get ys (length xs) ≡ Some x → IsPrefix (xs ++ x ∷ []) ys
  prefix-more xs ys x prefix is = record {
    remainder = drop (suc (length xs)) ys;
    is = append_assoc xs (x ∷ []) (drop (suc (length xs)) ys)
        ∙ ap (λ (l : List A). l ++ x ∷ drop (suc (length xs)) ys) (sym (prefix-is_take xs ys prefix))
        ∙ get-split ys (length xs) x is;
  }

  pub prefix-take_alike : (xs ys : List A) (count : ℕ) → IsPrefix xs ys → count ≤ length xs → take count xs ≡ take count ys
  prefix-take_alike xs ys count prefix within =
      sym (take-append-le count xs prefix.remainder within) ∙ ap (take count) prefix.is

  -- the elements up to one are a prefix
  pub prefix-up_to : (xs ys : List A) (x : A) → IsPrefix (xs ++ x ∷ []) ys → slice_get ys (length xs) ≡ Some x
  prefix-up_to xs ys x prefix = prefix-get (xs ++ x ∷ []) ys (length xs) x prefix (get-last xs x)
