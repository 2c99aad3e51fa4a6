-- What is dealt in turns, item by item.
use Rattle.std.proofs.Common.{◌≡◌, ◌≢◌, ℕ, zero, suc, ◌+◌, ◌-◌, ◌*◌, ◌%◌, ◌<◌, ◌⊎◌, List, [], ◌∷◌, ◌++◌, length, inl, inr, refl, sym, ap}
use Rattle.std.proofs.Common.{◌∙◌, append-nil, arith}
use Rattle.std.proofs.lemmas.Bool.{cases_lt}
use Rattle.std.proofs.Math.Nat.{mod-lt, mod-eq_of_lt, mod_self, suc-mod, mul-suc, mul-zero}
use Rattle.shared_laws.specs.Dealing.{every}

-- whose turn it is behind one more
pub turn-next : (n count : ℕ) → 0 < count
    → ((suc (n % count) < count) × (suc n % count ≡ suc (n % count))) ⊎ ((suc (n % count) ≡ count) × (suc n % count ≡ 0))
turn-next n count some =
    let below : n % count < count = mod-lt n some in
    elim (cases_lt (suc (n % count)) count) [
      | inl more ↦ inl (more, suc-mod n count ∙ mod-eq_of_lt more)
      | inr last ↦
          let whole : suc (n % count) ≡ count = omega arith in
          inr (whole, suc-mod n count ∙ ap (λ m. m % count) whole ∙ mod_self count)
    ]

pred-suc : (n : ℕ) → suc n - 1 ≡ n
pred-suc n = omega arith

times-none : (n : ℕ) → n * 0 ≡ 0
times-none n = mul-zero n

times-suc : (m n : ℕ) → m * suc n ≡ m + m * n
times-suc m n = mul-suc m n ∙ omega arith

module _ {A : Type 0} where
  -- how many are passed over next, behind these items
  abbrev pub left : ℕ → ℕ → List A → ℕ
  left count skip [] = skip
  left count zero (item ∷ items) = left count (count - 1) items
  left count (suc skip) (item ∷ items) = left count skip items

  pub every-append : (count skip : ℕ) (items more : List A) → every count skip (items ++ more)
      ≡ every count skip items ++ every count (left count skip items) more
  every-append count skip [] more = refl
  every-append count zero (item ∷ items) more = ap (λ (rest : List A). item ∷ rest) (every-append count (count - 1) items more)
  every-append count (suc skip) (item ∷ items) more = every-append count skip items more

  pub left-below : (count skip : ℕ) (items : List A) → skip < count → left count skip items < count
  left-below count skip [] below = below
  left-below count zero (item ∷ items) below = left-below count (count - 1) items (omega arith)
  left-below count (suc skip) (item ∷ items) below = left-below count skip items (omega arith)

  -- what is passed over and whose turn it is tell each other
  pub left-turn : (count skip : ℕ) (items : List A) → skip < count
      → (left count skip items + length items % count ≡ skip) ⊎ (left count skip items + length items % count ≡ skip + count)
  left-turn count skip [] below = inl (omega (arith, mod-eq_of_lt {n = 0} {m = count} (omega arith)))
  left-turn count zero (item ∷ items) below =
      let within : left count (count - 1) items < count = left-below count (count - 1) items (omega arith) in
      elim (turn-next (length items) count (omega arith)) [
        | inl more ↦ elim (left-turn count (count - 1) items (omega arith)) [
          | inl one ↦ inr (omega (arith, more.0, more.1, one, within))
          | inr two ↦ inr (omega (arith, more.0, more.1, two, within))
        ]
        | inr last ↦ elim (left-turn count (count - 1) items (omega arith)) [
          | inl one ↦ inl (omega (arith, last.0, last.1, one, within))
          | inr two ↦ inl (omega (arith, last.0, last.1, two, within))
        ]
      ]
  left-turn count (suc skip) (item ∷ items) below =
      let within : left count skip items < count = left-below count skip items (omega arith) in
      elim (turn-next (length items) count (omega arith)) [
        | inl more ↦ elim (left-turn count skip items (omega arith)) [
          | inl one ↦ inl (omega (arith, more.0, more.1, one, within))
          | inr two ↦ inr (omega (arith, more.0, more.1, two, within))
        ]
        | inr last ↦ elim (left-turn count skip items (omega arith)) [
          | inl one ↦ absurd (omega (arith, last.0, last.1, one, within))
          | inr two ↦ inl (omega (arith, last.0, last.1, two, within))
        ]
      ]

  -- none is passed over just for the one whose turn it is
  pub left-none : (count number : ℕ) (items : List A) → number < count → length items % count ≡ number → left count number items ≡ 0
  left-none count number items below turn =
      let within : left count number items < count = left-below count number items below in
      elim (left-turn count number items below) [
        | inl one ↦ omega (arith, one, turn)
        | inr two ↦ absurd (omega (arith, two, turn, within))
      ]

  pub left-some : (count number : ℕ) (items : List A) → number < count → length items % count ≢ number → 0 < left count number items
  left-some count number items below other =
      let turn : length items % count < count = mod-lt (length items) {m = count} (omega arith) in
      elim (cases_lt 0 (left count number items)) [
        | inl some ↦ some
        | inr none ↦ elim (left-turn count number items below) [
          | inl one ↦ absurd (other (omega (arith, one, none)))
          | inr two ↦ absurd (omega (arith, two, none, turn))
        ]
      ]

  pub every-none : (count skip : ℕ) (item : A) (items : List A) → skip ≡ 0 → every count skip (item ∷ items) ≡ item ∷ every count (count - 1) items
  every-none count zero item items none = refl
  every-none count (suc skip) item items none = absurd (omega arith)

  pub every-some : (count skip : ℕ) (item : A) (items : List A) → 0 < skip → every count skip (item ∷ items) ≡ every count (skip - 1) items
  every-some count zero item items some = absurd (omega arith)
  every-some count (suc skip) item items some = ap (λ k. every count k items) (sym (pred-suc skip))

  -- one item more goes to the one whose turn it is
  pub every-here : (count number : ℕ) (items : List A) (item : A) → number < count → length items % count ≡ number
      → every count number (items ++ item ∷ []) ≡ every count number items ++ item ∷ []
  every-here count number items item below turn =
      every-append count number items (item ∷ [])
      ∙ ap (λ (rest : List A). every count number items ++ rest) (every-none count (left count number items) item [] (left-none count number items below turn))

  pub every-elsewhere : (count number : ℕ) (items : List A) (item : A) → number < count → length items % count ≢ number
      → every count number (items ++ item ∷ []) ≡ every count number items
  every-elsewhere count number items item below other =
      every-append count number items (item ∷ [])
      ∙ ap (λ (rest : List A). every count number items ++ rest) (every-some count (left count number items) item [] (left-some count number items below other))
      ∙ append-nil (every count number items)

  -- behind one item more
  pub left-here : (count skip : ℕ) (items : List A) (item : A) → left count skip items ≡ 0 → left count skip (items ++ item ∷ []) ≡ count - 1
  left-here count zero [] item none = refl
  left-here count (suc skip) [] item none = absurd (omega arith)
  left-here count zero (first ∷ items) item none = left-here count (count - 1) items item none
  left-here count (suc skip) (first ∷ items) item none = left-here count skip items item none

  pub left-elsewhere : (count skip : ℕ) (items : List A) (item : A) → 0 < left count skip items
      → left count skip (items ++ item ∷ []) ≡ left count skip items - 1
  left-elsewhere count zero [] item some = absurd (omega arith)
  left-elsewhere count (suc skip) [] item some = sym (pred-suc skip)
  left-elsewhere count zero (first ∷ items) item some = left-elsewhere count (count - 1) items item some
  left-elsewhere count (suc skip) (first ∷ items) item some = left-elsewhere count skip items item some

  -- so many turns each, and those before and behind them, are the items
  pub every-length : (count skip : ℕ) (items : List A) → skip < count → count * length (every count skip items) + skip ≡ length items + left count skip items
  every-length count skip [] below = omega (arith, times-none count)
  every-length count zero (item ∷ items) below = let rest = every-length count (count - 1) items (omega arith) in
      omega (arith, rest, times-suc count (length (every count (count - 1) items)))
  every-length count (suc skip) (item ∷ items) below = let rest = every-length count skip items (omega arith) in omega (arith, rest)

  pub left-append : (count skip : ℕ) (items more : List A) → left count skip (items ++ more) ≡ left count (left count skip items) more
  left-append count skip [] more = refl
  left-append count zero (item ∷ items) more = left-append count (count - 1) items more
  left-append count (suc skip) (item ∷ items) more = left-append count skip items more
