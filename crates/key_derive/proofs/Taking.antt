-- Digits that are collected from nibbles until there are sixteen.
use Rattle.std.proofs.Common.{◌≡◌, ℕ, zero, suc, ◌+◌, ◌-◌, ◌<◌, ◌≤◌, Bool, true, false, not, cond, List, [], ◌∷◌, ◌++◌, length, get_or, take, refl}
use Rattle.std.proofs.Common.{sym, ap, ◌∙◌, map, filter, append_assoc, arith, le-leb}
use Rattle.std.proofs.lemmas.Bool.{lt-leb}
use Rattle.std.proofs.lemmas.List.{map-append, append-nil, length-take-le, length-append, length-map, take_all, take-append-le}
use Rattle.std.proofs.lemmas.List.Elements.{filter_more}
use Rattle.std.proofs.lemmas.List.Filters.{length-filter_both}
use Rattle.key_derive.specs.Digits.{is_digit, letters}

-- what is left out before more comes is left out of all
pub take-take-append : (n : ℕ) (xs ys : List ℕ) → take n (take n xs ++ ys) ≡ take n (xs ++ ys)
take-take-append zero xs ys = refl
take-take-append (suc n) [] ys = refl
take-take-append (suc n) (x ∷ xs) ys = ap (λ rest. x ∷ rest) (take-take-append n xs ys)

-- sixteen digits have no room for more
pub take-full : (n : ℕ) (digits taken : List ℕ) (digit : ℕ) → 16 ≤ n → length digits ≡ 16 → take n digits ≡ taken → taken ≡ take 16 (taken ++ digit ∷ [])
take-full n digits taken digit full long e =
    let all : taken ≡ digits = sym e ∙ take_all n digits (omega arith) in
    let sixteen : length taken ≡ 16 = ap length all ∙ long in
    sym (take_all 16 taken (omega arith)) ∙ sym (take-append-le 16 taken (digit ∷ []) (omega arith))

-- one more digit after those taken
step_taken : (so_far more taken after : List ℕ) (digit : ℕ) → more ≡ so_far ++ digit ∷ [] → taken ≡ take 16 so_far
    → after ≡ take 16 (taken ++ digit ∷ []) → after ≡ take 16 more
step_taken so_far more taken after digit e before step =
    step ∙ ap (λ front. take 16 (front ++ digit ∷ [])) before ∙ take-take-append 16 so_far (digit ∷ []) ∙ ap (take 16) (sym e)

-- the nibbles that pass a test, after one more that passes or one that does not
filter-passed : (p : ℕ → Bool) (xs : List ℕ) (i : ℕ) → i < length xs → p (get_or xs i 0) ≡ true
    → filter p (take (i + 1) xs) ≡ filter p (take i xs) ++ get_or xs i 0 ∷ []
filter-passed p xs i below passed = filter_more p xs i 0 below ∙ ap (λ b. filter p (take i xs) ++ cond b (get_or xs i 0 ∷ []) []) passed

filter-failed : (p : ℕ → Bool) (xs : List ℕ) (i : ℕ) → i < length xs → p (get_or xs i 0) ≡ false → filter p (take (i + 1) xs) ≡ filter p (take i xs)
filter-failed p xs i below failed = filter_more p xs i 0 below ∙ ap (λ b. filter p (take i xs) ++ cond b (get_or xs i 0 ∷ []) []) failed
    ∙ append-nil (filter p (take i xs))

pub digits-taken : (nibbles taken after : List ℕ) (i : ℕ) → i < length nibbles → get_or nibbles i 0 ≤ 9
    → taken ≡ take 16 (filter is_digit (take i nibbles)) → after ≡ take 16 (taken ++ get_or nibbles i 0 ∷ [])
    → after ≡ take 16 (filter is_digit (take (i + 1) nibbles))
digits-taken nibbles taken after i below small before step =
    step_taken (filter is_digit (take i nibbles)) (filter is_digit (take (i + 1) nibbles)) taken after (get_or nibbles i 0)
    (filter-passed is_digit nibbles i below (le-leb (get_or nibbles i 0) 9 small)) before step

pub digits-passed_over : (nibbles taken : List ℕ) (i : ℕ) → i < length nibbles → 9 < get_or nibbles i 0
    → taken ≡ take 16 (filter is_digit (take i nibbles)) → taken ≡ take 16 (filter is_digit (take (i + 1) nibbles))
digits-passed_over nibbles taken i below large before = before ∙ ap (take 16) (sym (filter-failed is_digit nibbles i below (lt-leb
    (get_or nibbles i 0) 9 large)))

pub letters-taken : (front nibbles taken after : List ℕ) (i : ℕ) → i < length nibbles → 9 < get_or nibbles i 0
    → taken ≡ take 16 (front ++ letters (take i nibbles)) → after ≡ take 16 (taken ++ (get_or nibbles i 0 - 10) ∷ [])
    → after ≡ take 16 (front ++ letters (take (i + 1) nibbles))
letters-taken front nibbles taken after i below large before step =
    let letter : ℕ → Bool = λ nibble. not (is_digit nibble) in
    let passed : letter (get_or nibbles i 0) ≡ true = ap not (lt-leb (get_or nibbles i 0) 9 large) in
    let more : letters (take (i + 1) nibbles) ≡ letters (take i nibbles) ++ (get_or nibbles i 0 - 10) ∷ [] =
    ap (map (λ l. l - 10)) (filter-passed letter nibbles i below passed)
    ∙ map-append (λ l. l - 10) (filter letter (take i nibbles)) (get_or nibbles i 0 ∷ []) in
    step_taken (front ++ letters (take i nibbles)) (front ++ letters (take (i + 1) nibbles)) taken after (get_or nibbles i 0 - 10)
    (ap (λ rest. front ++ rest) more ∙ sym (append_assoc front (letters (take i nibbles)) ((get_or nibbles i 0 - 10) ∷ []))) before step

pub letters-passed_over : (front nibbles taken : List ℕ) (i : ℕ) → i < length nibbles → get_or nibbles i 0 ≤ 9
    → taken ≡ take 16 (front ++ letters (take i nibbles)) → taken ≡ take 16 (front ++ letters (take (i + 1) nibbles))
letters-passed_over front nibbles taken i below small before =
    let letter : ℕ → Bool = λ nibble. not (is_digit nibble) in
    before ∙ ap (λ rest. take 16 (front ++ map (λ l. l - 10) rest)) (sym (filter-failed letter nibbles i below (ap not (le-leb
    (get_or nibbles i 0) 9 small))))

-- the digits and the letters of some nibbles are all of them
pub length-digits-letters : (nibbles : List ℕ) → length (filter is_digit nibbles ++ letters nibbles) ≡ length nibbles
length-digits-letters nibbles =
    let letter : ℕ → Bool = λ nibble. not (is_digit nibble) in
    length-append (filter is_digit nibbles) (letters nibbles)
    ∙ ap (λ n. length (filter is_digit nibbles) + n) (length-map (filter letter nibbles) (λ l. l - 10))
    ∙ length-filter_both is_digit letter (λ _. refl) nibbles

-- sixteen places hold what was taken of at least sixteen digits
pub taken-all : (digits so_far : List ℕ) (count : ℕ) → length digits ≡ 16 → count ≤ 16 → 16 ≤ length so_far → take count digits ≡ take 16 so_far
    → digits ≡ take 16 so_far
taken-all digits so_far count long few enough e =
    let length_front : length (take count digits) ≡ count = length-take-le count digits (omega arith) in
    let length_taken : length (take 16 so_far) ≡ 16 = length-take-le 16 so_far enough in
    let full : count ≡ 16 = sym length_front ∙ ap length e ∙ length_taken in
    sym (take_all count digits (omega arith)) ∙ e
