-- Lists that are the same where they are read one way, and what is dealt of them in turns.
use Rattle.std.proofs.Common.{◌≡◌, ◌≢◌, ℕ, zero, suc, ◌+◌, ◌-◌, ◌<◌, ◌≤◌, Bool, true, List, [], ◌∷◌, ◌++◌, length, set, map, All, Some, get_or, refl, sym, ap, subst, ◌∙◌, arith, inl, inr}
use Rattle.std.proofs.lemmas.List.{length-map}
use Rattle.std.proofs.lemmas.List.Elements.{All-get_or}
use Rattle.std.proofs.lemmas.Option.{slice_get-get_or, slice_get_within, get_or_from_slice_get}
use Rattle.std.specs.List.{slice_get, list_any}
use Rattle.host_loading.proofs.Places.{read-map, read-mapped, read-other}
use Rattle.shared_laws.specs.Dealing.{every, HaveTurns}
use Rattle.shared_laws.proofs.HavingTurns.{some-same, at-set}

pub all-at : {X : Type 0} (P : X → Type 0) (xs : List X) → ((number : ℕ) (x : X) → slice_get xs number ≡ Some x → P x) → All P xs
all-at P xs each = λ number d below. each number (get_or xs number d) (slice_get-get_or xs number d below)

pub at-all : {X : Type 0} (P : X → Type 0) (xs : List X) (number : ℕ) (x : X) → All P xs → slice_get xs number ≡ Some x → P x
at-all P xs number x all is =
    subst P (get_or_from_slice_get xs number x x is) (All-get_or P xs number x (slice_get_within xs number x is) all)

-- a list of which some item is so has one
pub some-of-any : {X : Type 0} (p : X → Bool) (xs : List X) → list_any p xs ≡ true → 0 < length xs
some-of-any p [] is = absurd (cc)
some-of-any p (x ∷ xs) is = omega arith

-- ---- lists that are the same where they are read one way

module _ {X Y A : Type 0} (f : X → A) (g : Y → A) (xs : List X) (ys : List Y) where
  pub maps-long : map f xs ≡ map g ys → length xs ≡ length ys
  maps-long same = sym (length-map xs f) ∙ ap (λ (items : List A). length items) same ∙ length-map ys g

  -- what is at an index of the one is at that index of the other
  pub maps-at : map f xs ≡ map g ys → (number : ℕ) (x : X) → slice_get xs number ≡ Some x → (y : Y) × (slice_get ys number ≡ Some y) × (g y ≡ f x)
  maps-at same number x is =
      read-mapped g ys number (f x) (ap (λ (items : List A). slice_get items number) (sym same) ∙ read-map f xs number x is)

  -- and so it is with two that are known
  pub maps-both : map f xs ≡ map g ys → (number : ℕ) (x : X) (y : Y) → slice_get xs number ≡ Some x → slice_get ys number ≡ Some y → f x ≡ g y
  maps-both same number x y x_is y_is =
      some-same (f x) (g y)
      (sym (read-map f xs number x x_is) ∙ ap (λ (items : List A). slice_get items number) same ∙ read-map g ys number y y_is)

  -- what was dealt of the one was dealt of the other
  pub turns-moved : {B : Type 0} (h : A → List B) → map f xs ≡ map g ys → (before items : List B) → HaveTurns (λ (x : X). h (f x)) xs before items
      → HaveTurns (λ (y : Y). h (g y)) ys before items
  turns-moved h same before items have number y is =
      let old : (x : X) × (slice_get xs number ≡ Some x) × (f x ≡ g y) =
      read-mapped f xs number (g y) (ap (λ (items : List A). slice_get items number) same ∙ read-map g ys number y is) in
      subst (λ count. every count number (before ++ items) ≡ every count number before ++ h (g y)) (maps-long same)
      (subst (λ (a : A). every (length xs) number (before ++ items) ≡ every (length xs) number before ++ h a) old.2 (have number old.0 old.1))

module _ {X Y A : Type 0} (f : X → A) (g : Y → A) where
  pub maps-from : (xs : List X) (ys : List Y) → length xs ≡ length ys
      → ((number : ℕ) (x : X) (y : Y) → slice_get xs number ≡ Some x → slice_get ys number ≡ Some y → f x ≡ g y) → map f xs ≡ map g ys
  maps-from [] [] long each = refl
  maps-from [] (y ∷ ys) long each = absurd (omega arith)
  maps-from (x ∷ xs) [] long each = absurd (omega arith)
  maps-from (x ∷ xs) (y ∷ ys) long each =
      ap (λ (a : A). a ∷ map f xs) (each 0 x y refl refl)
      ∙ ap (λ (items : List A). g y ∷ items) (maps-from xs ys (omega arith) (λ number. each (suc number)))

  -- each of both is read as the same
  pub maps-alike : (xs : List X) (ys : List Y) (a : A) → length xs ≡ length ys → All (λ (x : X). f x ≡ a) xs → All (λ (y : Y). g y ≡ a) ys
      → map f xs ≡ map g ys
  maps-alike xs ys a long all each =
      maps-from xs ys long (λ number x y x_is y_is.
      at-all (λ (x : X). f x ≡ a) xs number x all x_is ∙ sym (at-all (λ (y : Y). g y ≡ a) ys number y each y_is))

-- ---- what is dealt in turns, read one way

pub every-map : {A B : Type 0} (f : A → B) (count skip : ℕ) (items : List A) → every count skip (map f items) ≡ map f (every count skip items)
every-map f count skip [] = refl
every-map f count zero (item ∷ items) = ap (λ (rest : List _). f item ∷ rest) (every-map f count (count - 1) items)
every-map f count (suc skip) (item ∷ items) = every-map f count skip items

-- ---- one index after another

-- up to this index, the one list is read as the other was
abbrev pub AreMoved : {X Y A : Type 0} → (X → A) → (Y → A) → ℕ → List X → List Y → Type 0
AreMoved {X} {Y} f g index xs ys =
    (number : ℕ) (x : X) (y : Y) → number < index → slice_get xs number ≡ Some x → slice_get ys number ≡ Some y → f x ≡ g y

pub moved-more : {X Y A : Type 0} (f : X → A) (g : Y → A) (index : ℕ) (xs : List X) (ys : List Y) (new : X) (y : Y) → slice_get ys index ≡ Some y
    → f new ≡ g y → AreMoved f g index xs ys → AreMoved f g (index + 1) (set xs index new) ys
moved-more {X} {Y} f g index xs ys new y y_is same moved number x other below x_is other_is =
    elim (at-set xs index new number x x_is) [
      | inl here ↦
          ap f here.1 ∙ same ∙ ap g (some-same y other (sym y_is ∙ ap (slice_get ys) (sym here.0) ∙ other_is))
      | inr there ↦
          let apart : number ≢ index = there.0 in
          moved number x other (omega arith) there.1 other_is
    ]

-- from this index on, a list is as it was
abbrev pub AreLeft : {X : Type 0} → ℕ → List X → List X → Type 0
AreLeft index xs olds = (number : ℕ) → index ≤ number → slice_get xs number ≡ slice_get olds number

pub left-more : {X : Type 0} (index : ℕ) (xs olds : List X) (new : X) → AreLeft index xs olds → AreLeft (index + 1) (set xs index new) olds
left-more index xs olds new left number above =
    read-other xs index new number (λ same. omega (arith, above, same)) ∙ left number (omega (arith, above))
