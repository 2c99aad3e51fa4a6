-- Lanes that have their turns of what was dealt: one item more, one taken, and all answered.
use Rattle.std.proofs.Common.{◌≡◌, ◌≢◌, ℕ, zero, suc, ◌-◌, ◌*◌, ◌%◌, ◌<◌, ◌⊎◌, List, [], ◌∷◌, ◌++◌, length, set, Some, get_or, inl, inr, refl, sym}
use Rattle.std.proofs.Common.{ap, subst, ◌∙◌, append-nil, append_assoc, arith}
use Rattle.std.proofs.lemmas.List.{append_cancel_left}
use Rattle.std.proofs.lemmas.Option.{slice_get-get_or}
use Rattle.std.proofs.Math.Nat.{lt_of_mul-lt-mul_left}
use Rattle.std.specs.List.{slice_get}
use Rattle.shared_laws.specs.Dealing.{every, HaveTurns}
use Rattle.shared_laws.proofs.Every.{left, left-none, left-below, every-append, every-here, every-elsewhere, every-length, left-append}
use Rattle.shared_laws.proofs.Merged.{left-alike, merged}

module _ {X : Type 0} where
  pub some-same : (x y : X) → Some x ≡ Some y → x ≡ y
  some-same x y same = cc

  pub length-same : (xs : List X) (place : ℕ) (new : X) → length (set xs place new) ≡ length xs
  length-same [] place new = refl
  length-same (x ∷ xs) zero new = refl
  length-same (x ∷ xs) (suc place) new = omega (arith, length-same xs place new)

  -- what stands in a list of which one place changed
  pub at-set : (xs : List X) (place : ℕ) (new : X) (number : ℕ) (x : X) → slice_get (set xs place new) number ≡ Some x
      → ((number ≡ place) × (x ≡ new)) ⊎ ((number ≢ place) × (slice_get xs number ≡ Some x))
  at-set [] place new number x is = absurd (cc)
  at-set (y ∷ xs) zero new zero x is = inl (refl, sym (some-same new x is))
  at-set (y ∷ xs) zero new (suc number) x is = inr ((λ same. omega arith), is)
  at-set (y ∷ xs) (suc place) new zero x is = inr ((λ same. omega arith), is)
  at-set (y ∷ xs) (suc place) new (suc number) x is = elim (at-set xs place new number x is) [
    | inl here ↦ inl (ap suc here.0, here.1)
    | inr there ↦ let apart = there.0 in inr ((λ same. apart (omega arith)), there.1)
  ]

  pub at-within : (xs : List X) (number : ℕ) (x : X) → slice_get xs number ≡ Some x → number < length xs
  at-within [] number x is = absurd (cc)
  at-within (y ∷ xs) zero x is = omega arith
  at-within (y ∷ xs) (suc number) x is = omega (arith, at-within xs number x is)

  cons-same : (x y : X) (xs ys : List X) → x ∷ xs ≡ y ∷ ys → (x ≡ y) × (xs ≡ ys)
  cons-same x y xs ys same = (cc, cc)

module _ {L A : Type 0} (items_of : L → List A) where
  -- an item more, for the lane whose turn it is
  pub turns-deal : (lanes : List L) (before items : List A) (place : ℕ) (old new : L) (item : A) → slice_get lanes place ≡ Some old
      → place ≡ length (before ++ items) % length lanes → items_of new ≡ items_of old ++ item ∷ []
      → HaveTurns items_of lanes before items → HaveTurns items_of (set lanes place new) before (items ++ item ∷ [])
  turns-deal lanes before items place old new item old_is turn grown have number lane lane_is =
      let count : ℕ = length lanes in
      let whole : before ++ (items ++ item ∷ []) ≡ (before ++ items) ++ item ∷ [] = sym (append_assoc before items (item ∷ [])) in
      let goes : every count number (before ++ (items ++ item ∷ [])) ≡ every count number before ++ items_of lane =
      ap (every count number) whole ∙ elim (at-set lanes place new number lane lane_is) [
        | inl here ↦
            every-here count number (before ++ items) item (let below = at-within lanes place old old_is in omega (arith, here.0, below)) (sym (here.0 ∙ turn))
            ∙ ap (λ (mine : List A). mine ++ item ∷ []) (have number old (ap (slice_get lanes) here.0 ∙ old_is))
            ∙ append_assoc (every count number before) (items_of old) (item ∷ [])
            ∙ ap (λ (mine : List A). every count number before ++ mine) (sym grown ∙ ap items_of (sym here.1))
        | inr there ↦
            every-elsewhere count number (before ++ items) item (at-within lanes number lane there.1) (λ same. there.0 (sym same ∙ sym turn))
            ∙ have number lane there.1
      ] in
      subst (λ count. every count number (before ++ (items ++ item ∷ [])) ≡ every count number before ++ items_of lane) (sym (length-same lanes place new)) goes

  -- what the lane whose turn it is has is the first of what is left, or nothing is left
  turns-first : (lanes : List L) (before items : List A) (place : ℕ) (lane : L) → slice_get lanes place ≡ Some lane
      → place ≡ length before % length lanes → HaveTurns items_of lanes before items → every (length lanes) 0 items ≡ items_of lane
  turns-first lanes before items place lane lane_is turn have =
      let count : ℕ = length lanes in
      let none : left count place before ≡ 0 = left-none count place before (at-within lanes place lane lane_is) (sym turn) in
      append_cancel_left (every count place before) (every count 0 items) (items_of lane)
      (ap (λ skip. every count place before ++ every count skip items) (sym none) ∙ sym (every-append count place before items) ∙ have place lane lane_is)

  pub turns-none : (lanes : List L) (before items : List A) (place : ℕ) (lane : L) → slice_get lanes place ≡ Some lane
      → place ≡ length before % length lanes → HaveTurns items_of lanes before items → items_of lane ≡ [] → items ≡ []
  turns-none lanes before [] place lane lane_is turn have none = refl
  turns-none lanes before (item ∷ items) place lane lane_is turn have none =
      let first = turns-first lanes before (item ∷ items) place lane lane_is turn have ∙ none in absurd (cc)

  -- the first item is taken from the lane whose turn it is
  pub turns-take : (lanes : List L) (before items : List A) (place : ℕ) (old new : L) (item : A) → slice_get lanes place ≡ Some old
      → place ≡ length before % length lanes → items_of old ≡ item ∷ items_of new → HaveTurns items_of lanes before items
      → (rest : List A) × (items ≡ item ∷ rest) × HaveTurns items_of (set lanes place new) (before ++ item ∷ []) rest
  turns-take lanes before [] place old new item old_is turn shrunk have =
      let first = turns-first lanes before [] place old old_is turn have ∙ shrunk in absurd (cc)
  turns-take lanes before (first ∷ rest) place old new item old_is turn shrunk have =
      let count : ℕ = length lanes in
      let same : first ≡ item =
      (cons-same first item (every count (count - 1) rest) (items_of new) (turns-first lanes before (first ∷ rest) place old old_is turn have ∙ shrunk)).0 in (
        rest,
        ap (λ (x : A). x ∷ rest) same,
        λ number lane lane_is.
            let whole : (before ++ item ∷ []) ++ rest ≡ before ++ first ∷ rest =
            append_assoc before (item ∷ []) rest ∙ ap (λ (x : A). before ++ x ∷ rest) (sym same) in
            let goes : every count number ((before ++ item ∷ []) ++ rest) ≡ every count number (before ++ item ∷ []) ++ items_of lane =
            ap (every count number) whole ∙ elim (at-set lanes place new number lane lane_is) [
              | inl here ↦
                  have number old (ap (slice_get lanes) here.0 ∙ old_is)
                  ∙ ap (λ (mine : List A). every count number before ++ mine) shrunk
                  ∙ sym (append_assoc (every count number before) (item ∷ []) (items_of new))
                  ∙ ap (λ (mine : List A). mine ++ items_of new)
                  (sym
                  (every-here count number before item (let below = at-within lanes place old old_is in omega (arith, here.0, below)) (sym (here.0 ∙ turn))))
                  ∙ ap (λ (lane : L). every count number (before ++ item ∷ []) ++ items_of lane) (sym here.1)
              | inr there ↦
                  have number lane there.1
                  ∙ ap (λ (mine : List A). mine ++ items_of lane)
                  (sym (every-elsewhere count number before item (at-within lanes number lane there.1) (λ same. there.0 (sym same ∙ sym turn))))
            ] in
            subst (λ count. every count number ((before ++ item ∷ []) ++ rest) ≡ every count number (before ++ item ∷ []) ++ items_of lane)
            (sym (length-same lanes place new)) goes,
      )

  -- lanes that have the same, one by one
  pub turns-alike : (lanes others : List L) (before items : List A) → length others ≡ length lanes
      → ((number : ℕ) (lane other : L) → slice_get lanes number ≡ Some lane → slice_get others number ≡ Some other → items_of other ≡ items_of lane)
      → HaveTurns items_of lanes before items → HaveTurns items_of others before items
  turns-alike lanes others before items long same have number other other_is =
      let below : number < length lanes = let within = at-within others number other other_is in omega (arith, long, within) in
      let lane_is : slice_get lanes number ≡ Some (get_or lanes number other) = slice_get-get_or lanes number other below in
      subst (λ count. every count number (before ++ items) ≡ every count number before ++ items_of other) (sym long)
      (have number (get_or lanes number other) lane_is
      ∙ ap (λ (mine : List A). every (length lanes) number before ++ mine) (sym (same number (get_or lanes number other) other lane_is other_is)))

  -- one lane changed, and has the same
  pub turns-same : (lanes : List L) (before items : List A) (place : ℕ) (old new : L) → slice_get lanes place ≡ Some old → items_of new ≡ items_of old
      → HaveTurns items_of lanes before items → HaveTurns items_of (set lanes place new) before items
  turns-same lanes before items place old new old_is kept =
      turns-alike lanes (set lanes place new) before items (length-same lanes place new) (λ number lane other lane_is other_is.
      elim (at-set lanes place new number other other_is) [
        | inl here ↦
            ap items_of here.1 ∙ kept ∙ ap items_of (some-same old lane (sym old_is ∙ ap (slice_get lanes) (sym here.0) ∙ lane_is))
        | inr there ↦ ap items_of (some-same other lane (sym there.1 ∙ lane_is))
      ])

  -- nothing is dealt where each has nothing
  pub turns-nothing : (lanes : List L) (before : List A) → ((number : ℕ) (lane : L) → slice_get lanes number ≡ Some lane → items_of lane ≡ [])
      → HaveTurns items_of lanes before []
  turns-nothing lanes before none number lane lane_is =
      ap (every (length lanes) number) (append-nil before) ∙ sym (append-nil (every (length lanes) number before))
      ∙ ap (λ (mine : List A). every (length lanes) number before ++ mine) (sym (none number lane lane_is))

  -- the lane whose turn it is has room while there is room for all
  pub turns-room : (lanes : List L) (before items : List A) (place room : ℕ) (lane : L) → slice_get lanes place ≡ Some lane
      → place ≡ length (before ++ items) % length lanes → HaveTurns items_of lanes before items → length items < length lanes * room
      → length (items_of lane) < room
  turns-room lanes before items place room lane lane_is turn have fits =
      let count : ℕ = length lanes in
      let below : place < count = at-within lanes place lane lane_is in
      let skip : ℕ = left count place before in
      let mine : every count skip items ≡ items_of lane =
      append_cancel_left (every count place before) (every count skip items) (items_of lane)
      (sym (every-append count place before items) ∙ have place lane lane_is) in
      let none : left count place (before ++ items) ≡ 0 = left-none count place (before ++ items) below (sym turn) in
      let long = every-length count skip items (left-below count place before below) in
      let joined : left count skip items ≡ 0 = sym (left-append count place before items) ∙ none in
      let same : length (every count skip items) ≡ length (items_of lane) = ap length mine in
      let most : count * length (every count skip items) < count * room = omega (arith, long, joined, fits) in
      let less = lt_of_mul-lt-mul_left count most in
      omega (arith, less, same)

-- each lane has answered what it had: the answers are dealt in turns as the items were
pub turns-answered : {L A B : Type 0} (items_of : L → List A) (answers_of : L → List B) (lanes others : List L) (before items : List A) (answers : List B)
    → 0 < length lanes → length others ≡ length lanes → length answers ≡ length before
    → ((number : ℕ) (lane other : L) → slice_get lanes number ≡ Some lane → slice_get others number ≡ Some other
    → length (answers_of other) ≡ length (items_of lane))
    → HaveTurns items_of lanes before items
    → (more : List B) × (length more ≡ length items) × HaveTurns answers_of others answers more
turns-answered {L} {A} {B} items_of answers_of [] others before items answers some long told same have = absurd (omega arith)
turns-answered {L} {A} {B} items_of answers_of (first ∷ lanes) others before items answers some long told same have =
    let count : ℕ = length (first ∷ lanes) in
    let parts : ℕ → List B = λ number. answers_of (get_or others number first) in
    let fit : (number : ℕ) → number < count → length (parts number) ≡ length (every count (left count number answers) items) = λ number below.
    let lane : L = get_or (first ∷ lanes) number first in
    let lane_is : slice_get (first ∷ lanes) number ≡ Some lane = slice_get-get_or (first ∷ lanes) number first below in
    let other_is : slice_get others number ≡ Some (get_or others number first) = slice_get-get_or others number first (omega (arith, below, long)) in
    let mine : every count (left count number before) items ≡ items_of lane =
    append_cancel_left (every count number before) (every count (left count number before) items) (items_of lane)
    (sym (every-append count number before items) ∙ have number lane lane_is) in
    same number lane (get_or others number first) lane_is other_is ∙ sym (ap length mine)
    ∙ ap (λ skip. length (every count skip items)) (sym (left-alike count number answers before told)) in
    let all = merged count some items answers parts fit in (
      all.0,
      all.1,
      λ number other other_is.
          let below : number < count = let within = at-within others number other other_is in omega (arith, long, within) in
          let here : get_or others number first ≡ other =
          some-same (get_or others number first) other
          (sym (slice_get-get_or others number first (at-within others number other other_is)) ∙ other_is) in
          subst (λ count. every count number (answers ++ all.0) ≡ every count number answers ++ answers_of other) (sym long)
          (all.2 number below ∙ ap (λ (lane : L). every count number answers ++ answers_of lane) here),
    )
