-- One more of numbers that follow one another.
use Rattle.std.proofs.Common.{◌≡◌, ℕ, ◌+◌, ◌<◌, ◌≤◌, zero, suc, List, [], ◌∷◌, ◌++◌, length, take, set, map, ap, sym, ◌∙◌, arith, add-one, zero-add}
use Rattle.std.proofs.Common.{append_assoc}
use Rattle.std.specs.List.{flat_map, range_with_len}
use Rattle.std.proofs.lemmas.List.{flat_map_more, take_more_set, take_all}
use Rattle.std.proofs.lemmas.List.FromFn.{map-range_with_len_more}

more : (a n j : ℕ) → a + n ≡ j → range_with_len a (suc n) ≡ range_with_len a n ++ j ∷ []
more a zero j is = let same : a ≡ j = omega arith in ap (λ (k : ℕ). k ∷ []) same
more a (suc n) j is = let next : (a + 1) + n ≡ j = omega arith in ap (λ (l : List ℕ). a ∷ l) (more (a + 1) n j next)

pub range-more : (a n j : ℕ) → a + n ≡ j → range_with_len a (n + 1) ≡ range_with_len a n ++ j ∷ []
range-more a n j is = rw add-one (more a n j is)

-- what is made of each, one after another
pub flat-range-more : {A : Type 0} (f : ℕ → List A) (a n j : ℕ) → a + n ≡ j
    → flat_map f (range_with_len a (n + 1)) ≡ flat_map f (range_with_len a n) ++ f j
flat-range-more f a n j is = ap (flat_map f) (range-more a n j is) ∙ sym (flat_map_more f [] (range_with_len a n) j)

-- a list is filled with what is of each number
pub filled : (f : ℕ → ℕ) (xs : List ℕ) (n at x : ℕ) → at ≡ n → x ≡ f n → n < length xs → take n xs ≡ map f (range_with_len 0 n)
    → take (n + 1) (set xs at x) ≡ map f (range_with_len 0 (n + 1))
filled f xs n at x at_is x_is within first =
    ap (λ (k : ℕ). take (n + 1) (set xs k x)) at_is ∙ take_more_set xs n x within ∙ (λ i. first i ++ x_is i ∷ [])
    ∙ sym (map-range_with_len_more f 0 n n (zero-add n))

-- it is filled
pub all-filled : (f : ℕ → ℕ) (xs : List ℕ) (n m : ℕ) → n ≡ m → length xs ≡ m → take n xs ≡ map f (range_with_len 0 n)
    → xs ≡ map f (range_with_len 0 m)
all-filled f xs n m same long first =
    sym (take_all n xs (let at : length xs ≤ n = omega arith in at)) ∙ first ∙ ap (λ (k : ℕ). map f (range_with_len 0 k)) same

-- what is made of the next number joins what was made of those before
pub joined-more : {A : Type 0} (f : ℕ → List A) (start before after here : List A) (n : ℕ)
    → before ≡ start ++ flat_map f (range_with_len 0 n) → after ≡ before ++ here → here ≡ f n
    → after ≡ start ++ flat_map f (range_with_len 0 (n + 1))
joined-more f start before after here n first next here_is =
    next ∙ (λ i. first i ++ here_is i) ∙ append_assoc start (flat_map f (range_with_len 0 n)) (f n)
    ∙ ap (λ l. start ++ l) (sym (flat-range-more f 0 n n (zero-add n)))
