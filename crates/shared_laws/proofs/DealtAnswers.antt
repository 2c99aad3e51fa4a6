-- How many answers there are in the shares of lines that were dealt.
use Rattle.std.proofs.Common.{◌≡◌, ◌+◌, ◌-◌, ◌<◌, ℕ, zero, suc, List, [], ◌∷◌, length, Some, refl, ap, ◌∙◌, arith}
use Rattle.std.proofs.Common.{add-zero}
use Rattle.std.specs.Prelude.{slice_get}
use Rattle.issuer_base.specs.declared.answer.Answer.{Answer}
use Rattle.shared_laws.specs.FaultCounts.{all_answers}
use Rattle.shared_laws.specs.Dealing.{every}
use Rattle.shared_laws.specs.Shares.{Share, AreDealt}

-- how many items are dealt to so many lanes, from the one with this number on
abbrev dealt_from : {A : Type 0} → ℕ → ℕ → ℕ → List A → ℕ
dealt_from count start zero xs = 0
dealt_from count start (suc lanes) xs = length (every count start xs) + dealt_from count (suc start) lanes xs

-- nothing is dealt of nothing
dealt-none : (A : Type 0) (count start lanes : ℕ) → dealt_from {A = A} count start lanes [] ≡ 0
dealt-none A count start zero = refl
dealt-none A count zero (suc lanes) = let rest = dealt-none A count 1 lanes in omega (arith, rest)
dealt-none A count (suc start) (suc lanes) =
    let rest = dealt-none A count (suc (suc start)) lanes in omega (arith, rest)

module _ {A : Type 0} where
  -- the first item goes to none of the later lanes
  dealt-later : (count start lanes : ℕ) (x : A) (xs : List A)
      → dealt_from count (suc start) lanes (x ∷ xs) ≡ dealt_from count start lanes xs
  dealt-later count start zero x xs = refl
  dealt-later count start (suc lanes) x xs =
      ap (λ n. length (every count start xs) + n) (dealt-later count (suc start) lanes x xs)

  -- one lane more
  dealt-more : (count start lanes : ℕ) (xs : List A)
      → dealt_from count start (suc lanes) xs ≡ dealt_from count start lanes xs
      + length (every count (start + lanes) xs)
  dealt-more count start zero xs =
      let same : length (every count (start + 0) xs)
      ≡ length (every count start xs) = ap (λ n. length (every count n xs)) (add-zero start) in
      omega (arith, same)
  dealt-more count start (suc lanes) xs =
      let rest = dealt-more count (suc start) lanes xs in
      let place : suc start + lanes ≡ start + suc lanes = omega arith in
      let same : length (every count (suc start + lanes) xs)
      ≡ length (every count (start + suc lanes) xs) = ap (λ n. length (every count n xs)) place in
      omega (arith, rest, same)

  -- all lanes together have all items
  dealt-all : (lanes : ℕ) (xs : List A) → dealt_from (suc lanes) 0 (suc lanes) xs ≡ length xs
  dealt-all lanes [] = dealt-none A (suc lanes) 0 (suc lanes)
  dealt-all lanes (x ∷ xs) =
      let rest = dealt-all lanes xs in
      let last = dealt-more (suc lanes) 0 lanes xs in
      let later = dealt-later (suc lanes) 0 lanes x xs in
      let place : suc lanes - 1 ≡ 0 + lanes = omega arith in
      let same : length (every (suc lanes) (suc lanes - 1) xs) ≡ length (every (suc lanes) (0 + lanes) xs) =
      ap (λ n. length (every (suc lanes) n xs)) place in
      let whole : dealt_from (suc lanes) 0 (suc lanes) (x ∷ xs)
      ≡ length (every (suc lanes) 0 (x ∷ xs)) + dealt_from (suc lanes) 1 lanes (x ∷ xs) = refl in
      let first : length (every (suc lanes) 0 (x ∷ xs)) ≡ suc (length (every (suc lanes) (suc lanes - 1) xs)) = refl in
      omega (arith, rest, last, later, same, whole, first)

-- the answers of shares that have those of their turns, from this one on
answers-from : (count start : ℕ) (answers : List Answer) (shares : List Share)
    → ((number : ℕ) (share : Share) → slice_get shares number ≡ Some share
    → share.answers ≡ every count (start + number) answers)
    → all_answers shares ≡ dealt_from count start (length shares) answers
answers-from count start answers [] each = refl
answers-from count start answers (share ∷ shares) each =
    let first : length share.answers ≡ length (every count start answers) =
    ap length (each zero share refl ∙ ap (λ (n : ℕ). every count n answers) (add-zero start)) in
    let rest = answers-from count (suc start) answers shares (λ number other is.
    let place : start + suc number ≡ suc start + number = omega arith in
    each (suc number) other is ∙ ap (λ (n : ℕ). every count n answers) place) in
    omega (arith, first, rest)

-- the shares have as many answers as there are lines
pub answers-dealt : (count : ℕ) (lines : List (List ℕ)) (answers : List Answer) (shares : List Share) → 0 < count
    → AreDealt count lines answers shares → all_answers shares ≡ length lines
answers-dealt zero lines answers shares some dealt = absurd (omega (arith, some))
answers-dealt (suc lanes) lines answers shares some dealt =
    answers-from (suc lanes) 0 answers shares (λ number share is.
    let place : number ≡ 0 + number = omega arith in
    dealt.answers_are number share is ∙ ap (λ (n : ℕ). every (suc lanes) n answers) place)
    ∙ ap (λ (n : ℕ). dealt_from (suc lanes) 0 n answers) dealt.count_is ∙ dealt-all lanes answers ∙ dealt.answered
