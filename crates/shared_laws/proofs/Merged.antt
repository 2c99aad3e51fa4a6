-- Lists that were dealt in turns are one list again.
use Rattle.std.proofs.Common.{◌≡◌, ◌≢◌, ℕ, zero, suc, ◌-◌, ◌%◌, ◌<◌, List, [], ◌∷◌, ◌++◌, length, eqb, cond, inl, inr, refl, sym}
use Rattle.std.proofs.Common.{ap, ◌∙◌, append-nil, append_assoc, arith}
use Rattle.std.proofs.lemmas.Bool.Decides.{eqb_tells}
use Rattle.std.proofs.Math.Nat.{mod-lt}
use Rattle.shared_laws.specs.Dealing.{every}
use Rattle.shared_laws.proofs.Every.{left, left-none, left-some, left-here, left-elsewhere, every-none, every-some, every-here, every-elsewhere}

none-left : {A : Type 0} (items : List A) → length items ≡ 0 → items ≡ []
none-left [] long = refl
none-left (item ∷ items) long = absurd (omega arith)

one-left : {A : Type 0} (items : List A) (count : ℕ) → length items ≡ suc count → (item : A) × (rest : List A) × (items ≡ item ∷ rest) × (length rest ≡ count)
one-left [] count long = absurd (omega arith)
one-left (item ∷ items) count long = (item, items, refl, omega arith)

-- what is passed over next depends on how many items there were alone
pub left-alike : {A B : Type 0} (count skip : ℕ) (items : List A) (others : List B) → length items ≡ length others
    → left count skip items ≡ left count skip others
left-alike count skip [] [] long = refl
left-alike count skip [] (other ∷ others) long = absurd (omega arith)
left-alike count skip (item ∷ items) [] long = absurd (omega arith)
left-alike count zero (item ∷ items) (other ∷ others) long = left-alike count (count - 1) items others (omega arith)
left-alike count (suc skip) (item ∷ items) (other ∷ others) long = left-alike count skip items others (omega arith)

-- the parts, of which this one has the rest alone
abbrev without : {B : Type 0} → ℕ → List B → (ℕ → List B) → ℕ → List B
without turn rest parts number = cond (eqb number turn) rest (parts number)

module _ {A B : Type 0} (count : ℕ) (some : 0 < count) where
  -- the parts are as long as what was dealt of the items, behind these
  abbrev pub Fit : List A → List B → (ℕ → List B) → Type 0
  Fit items before parts = (number : ℕ) → number < count → length (parts number) ≡ length (every count (left count number before) items)

  -- the list, and that it is dealt into the parts
  abbrev pub Joins : List A → List B → (ℕ → List B) → Type 0
  Joins items before parts =
      (more : List B) × (length more ≡ length items)
      × ((number : ℕ) → number < count → every count number (before ++ more) ≡ every count number before ++ parts number)

  without-fit : (item : A) (items : List A) (before : List B) (parts : ℕ → List B) (first : B) (rest : List B)
      → parts (length before % count) ≡ first ∷ rest
      → Fit (item ∷ items) before parts → Fit items (before ++ first ∷ []) (without (length before % count) rest parts)
  without-fit item items before parts first rest is fit number below =
      let turn : ℕ = length before % count in
      elim (eqb_tells number turn) [
        | inl here ↦
            let none : left count number before ≡ 0 = left-none count number before below (sym here.1) in
            let old = fit number below in
            let dealt = ap length (every-none count (left count number before) item items none) in
            let next = ap (λ k. length (every count k items)) (left-here count number before first none) in
            let part = ap length (ap parts here.1 ∙ is) in
            ap (λ t. length (cond t rest (parts number))) here.0 ∙ omega (arith, old, dealt, next, part)
        | inr there ↦
            let other : length before % count ≢ number = λ same. there.1 (sym same) in
            let more : 0 < left count number before = left-some count number before below other in
            let old = fit number below in
            let dealt = ap length (every-some count (left count number before) item items more) in
            let next = ap (λ k. length (every count k items)) (left-elsewhere count number before first more) in
            ap (λ t. length (cond t rest (parts number))) there.0 ∙ omega (arith, old, dealt, next)
      ]

  without-joins : (item : A) (items : List A) (before : List B) (parts : ℕ → List B) (first : B) (rest : List B)
      → parts (length before % count) ≡ first ∷ rest
      → Joins items (before ++ first ∷ []) (without (length before % count) rest parts) → Joins (item ∷ items) before parts
  without-joins item items before parts first rest is (more, long, joins) = (
    first ∷ more,
    (omega (arith, long)),
    λ number below.
        let whole : before ++ first ∷ more ≡ (before ++ first ∷ []) ++ more = sym (append_assoc before (first ∷ []) more) in
        let turn : ℕ = length before % count in
        ap (every count number) whole ∙ joins number below ∙ elim (eqb_tells number turn) [
          | inl here ↦
              ap (λ (items : List B). items ++ without turn rest parts number) (every-here count number before first below (sym here.1))
              ∙ ap (λ t. (every count number before ++ first ∷ []) ++ cond t rest (parts number)) here.0
              ∙ append_assoc (every count number before) (first ∷ []) rest
              ∙ ap (λ (part : List B). every count number before ++ part) (sym (ap parts here.1 ∙ is))
          | inr there ↦
              ap (λ (items : List B). items ++ without turn rest parts number)
              (every-elsewhere count number before first below (λ same. there.1 (sym same)))
              ∙ ap (λ t. every count number before ++ cond t rest (parts number)) there.0
        ],
  )

  -- parts that are as long as what was dealt of some items are dealt of one list as long as these
  pub merged : (items : List A) (before : List B) (parts : ℕ → List B) → Fit items before parts → Joins items before parts
  merged [] before parts fit = (
    [],
    refl,
    λ number below.
        ap (every count number) (append-nil before) ∙ sym (append-nil (every count number before))
        ∙ ap (λ (part : List B). every count number before ++ part) (sym (none-left (parts number) (fit number below))),
  )
  merged (item ∷ items) before parts fit =
      let turn : ℕ = length before % count in
      let below : turn < count = mod-lt (length before) some in
      let none : left count turn before ≡ 0 = left-none count turn before below refl in
      let long = ap length (every-none count (left count turn before) item items none) in
      let head = one-left (parts turn) (length (every count (count - 1) items)) (fit turn below ∙ long) in
      without-joins item items before parts head.0 head.1 head.2
      (merged items (before ++ head.0 ∷ []) (without turn head.1 parts) (without-fit item items before parts head.0 head.1 head.2 fit))
