-- Parts of a buffer: the offset of the first newline, and how the current line grows.
use Rattle.std.proofs.Common.{◌≡◌, ◌≢◌, ℕ, zero, suc, ◌+◌, ◌-◌, ◌<◌, ◌≤◌, min, Bool, true, false, nat_lt, List, [], ◌∷◌, ◌++◌, length, get_or, take, drop}
use Rattle.std.proofs.Common.{Option, None, Some, MatchBool, MatchOption}
use Rattle.std.proofs.Common.{sym, ap, subst, ◌∙◌, ⊎_elim, arith, eq-eqb, eqb, refl, append-nil}
use Rattle.std.proofs.lemmas.List.{length-take, length-drop, length-append, length-take-le, drop-drop, take-take, take_all, take-append-le, take-append-drop}
use Rattle.std.proofs.lemmas.List.{drop_more, get_or-take}
use Rattle.std.proofs.lemmas.List.Edits.{get_or-between}
use Rattle.std.proofs.lemmas.Slice.{between_is}
use Rattle.std.proofs.lemmas.Bool.{cases_lt, eqb-true, eqb-false, ltb-true}
use Rattle.std.proofs.lemmas.Bool.Decides.{nat_tests}
use Rattle.std.proofs.Math.Seq.{take-add, take-append-add}
use Rattle.std.specs.List.{between}
use Rattle.memchr.specs.Find.{IsFirstByte, is_byte}
use Rattle.line_reader.specs.Lines.{IsUnbroken, IsFirstNewline}

-- ---- the first newline

-- no place has a newline
pub IsUnbroken-from_places : (bytes : List ℕ) → ((k : ℕ) → k < length bytes → get_or bytes k 0 ≢ 10) → IsUnbroken bytes
IsUnbroken-from_places [] none = tt
IsUnbroken-from_places (byte ∷ bytes) none = (none 0 (omega arith), IsUnbroken-from_places bytes (λ k within. none (suc k) (omega arith)))

pub IsFirstNewline-from_search : (bytes : List ℕ) (r : Option ℕ) → IsFirstByte (is_byte 10) bytes r → MatchOption r (IsUnbroken bytes) (IsFirstNewline bytes)
IsFirstNewline-from_search bytes None none =
    IsUnbroken-from_places bytes (λ k within is. none k (omega arith) within (eq-eqb _ 10 is))
IsFirstNewline-from_search bytes (Some place) found = record {
  within = found.0.high;
  unbroken =
      IsUnbroken-from_places (take place bytes) (λ k within is.
      let below : k < place = omega (arith, length-take place bytes) in
      found.0.before k (omega arith) below (eq-eqb _ 10 (sym (get_or-take place bytes k 0 below) ∙ is)));
  ends = eqb-true _ 10 found.1;
}

-- ---- parts of a part

pub drop-between : {X : Type 0} (xs : List X) (i j n : ℕ) → drop n (between i j xs) ≡ between (i + n) j xs
drop-between xs i j n = ap (drop n) (between_is xs i j) ∙ drop-drop n i (take j xs) ∙ sym (between_is xs (i + n) j)

pub length-between : {X : Type 0} (xs : List X) (i j : ℕ) → j ≤ length xs → length (between i j xs) ≡ j - i
length-between xs i j within = length-take (j - i) (drop i xs) ∙ omega (arith, length-drop i xs)

pub take-take_min : {X : Type 0} (m n : ℕ) (xs : List X) → take m (take n xs) ≡ take (min n m) xs
take-take_min m n xs =
    ⊎_elim
    (λ (less : m < n). let least : m ≡ min n m = omega arith in take-take m n xs (omega arith) ∙ ap (λ k. take k xs) least)
    (λ (more : n ≤ m).
    let least : n ≡ min n m = omega arith in
    take_all m (take n xs) (omega (arith, length-take n xs)) ∙ ap (λ k. take k xs) least)
    (cases_lt m n)

-- ---- the line in hand

-- a front of two lists joined
pub take-append : {X : Type 0} (n : ℕ) (xs ys : List X) → take n (xs ++ ys) ≡ take n xs ++ take (n - length (take n xs)) ys
take-append n xs ys =
    ⊎_elim
    (λ (less : n < length xs).
    let within : n ≤ length xs = omega arith in
    let none : 0 ≡ n - length (take n xs) = omega (arith, length-take-le n xs within) in
    take-append-le n xs ys within ∙ sym (append-nil (take n xs)) ∙ ap (λ m. take n xs ++ take m ys) none)
    (λ (more : length xs ≤ n).
    let split : n ≡ length xs + (n - length xs) = omega arith in
    ap (λ m. take m (xs ++ ys)) split ∙ take-append-add xs ys (n - length xs) ∙ ap (λ l. l ++ take (n - length l) ys) (sym (take_all n xs more)))
    (cases_lt n (length xs))

-- a part grows by the front of the part after it
pub between-joined : {X : Type 0} (xs : List X) (i j e count room : ℕ) → i ≤ j → count ≤ e - j
    → between i (j + min count room) xs ≡ between i j xs ++ take room (take count (between j e xs))
between-joined xs i j e count room order within =
    let whole : j + min count room - i ≡ (j - i) + min count room = omega arith in
    let back : i + (j - i) ≡ j = omega arith in
    ap (λ n. take n (drop i xs)) whole
    ∙ take-add (j - i) (min count room) (drop i xs)
    ∙ ap (λ l. between i j xs ++ take (min count room) l) (drop-drop (j - i) i xs ∙ ap (λ n. drop n xs) back)
    ∙ ap (λ l. between i j xs ++ l) (sym (take-take_min room count (drop j xs)) ∙ ap (take room) (sym (take-take count (e - j) (drop j xs) within)))

-- the line in hand is full, or what is ahead follows it: it grows by the front of what is passed
pub between-grown : {X : Type 0} (xs : List X) (i j s e count most : ℕ) → i ≤ j → (j - i < most → j ≡ s) → count ≤ e - s
    → between i (j + min count (most - (j - i))) xs ≡ between i j xs ++ take (most - (j - i)) (take count (between s e xs))
between-grown xs i j s e count most order joined within =
    ⊎_elim
    (λ (less : j - i < most).
    let same = joined less in
    between-joined xs i j e count (most - (j - i)) order (omega arith)
    ∙ ap (λ n. between i j xs ++ take (most - (j - i)) (take count (between n e xs))) same)
    (λ (more : most ≤ j - i).
    let full : most - (j - i) ≡ 0 = omega arith in
    let stays : j + min count 0 ≡ j = omega arith in
    ap (λ n. between i (j + min count n) xs) full
    ∙ ap (λ n. between i n xs) stays
    ∙ sym (append-nil (between i j xs))
    ∙ ap (λ n. between i j xs ++ take n (take count (between s e xs))) (sym full))
    (cases_lt (j - i) most)

-- the line in hand, of which so many bytes were passed, after count more: r of them are kept
pub line-grown : (xs : List ℕ) (i j s e count r most : ℕ) (passed : List ℕ) → r ≡ min count (most - (j - i)) → i ≤ j → j ≤ length xs → count ≤ e - s
    → (length passed < most → j ≡ s) → between i j xs ≡ take most passed
    → between i (j + r) xs ≡ take most (passed ++ take count (between s e xs))
line-grown xs i j s e count r most passed least order bound within joined in_hand =
    let more = take count (between s e xs) in
    let size : j - i ≡ length (take most passed) = sym (length-between xs i j bound) ∙ ap length in_hand in
    let follows : j - i < most → j ≡ s = λ less. joined (omega (arith, length-take most passed)) in
    ap (λ n. between i (j + n) xs) least
    ∙ between-grown xs i j s e count most order follows within
    ∙ ap (λ l. l ++ take (most - (j - i)) more) in_hand
    ∙ ap (λ n. take most passed ++ take (most - n) more) size
    ∙ sym (take-append most passed more)

pub line-joined : (xs : List ℕ) (i j s e count r most : ℕ) (passed : List ℕ) → r ≡ min count (most - (j - i)) → i ≤ j → j ≤ length xs → e ≤ length xs
    → count ≤ e - s
    → (length passed < most → j ≡ s) → between i j xs ≡ take most passed
    → length (passed ++ take count (between s e xs)) < most → j + r ≡ s + count
line-joined xs i j s e count r most passed least order bound end within joined in_hand short =
    let size : j - i ≡ length (take most passed) = sym (length-between xs i j bound) ∙ ap length in_hand in
    let all : length (passed ++ take count (between s e xs)) ≡ length passed + count =
    length-append passed (take count (between s e xs))
    ∙ ap (λ n. length passed + n) (length-take-le count (between s e xs) (omega (arith, length-between xs s e end))) in
    let same : j ≡ s = joined (omega arith) in
    omega (arith, length-take most passed)

-- the first newline among the bytes that there is room for
pub record FoundNewline (bytes : List ℕ) (room place : ℕ) : Type 0 where
  pub fits : place < room
  pub within : place < length bytes
  pub unbroken : IsUnbroken (take place bytes)
  pub split : bytes ≡ take place bytes ++ 10 ∷ drop (place + 1) bytes

pub FoundNewline-from_front : (bytes : List ℕ) (room place : ℕ) → IsFirstNewline (take room bytes) place → FoundNewline bytes room place
FoundNewline-from_front bytes room place first =
    let fits : place < room = omega (arith, first.within, length-take room bytes) in
    let within : place < length bytes = omega (arith, first.within, length-take room bytes) in
    let at : get_or bytes place 0 ≡ 10 = sym (get_or-take room bytes place 0 fits) ∙ first.ends in
    record {
      fits = fits;
      within = within;
      unbroken = subst IsUnbroken (take-take place room bytes (omega arith)) first.unbroken;
      split = sym (take-append-drop place bytes) ∙ ap (λ l. take place bytes ++ l) (drop_more bytes place 0 within ∙ ap (λ n. n ∷ drop (place + 1) bytes) at);
    }

-- ---- the last newline

-- where a newline stands, a first one does
pub first_before : (bytes : List ℕ) (k : ℕ) → k < length bytes → get_or bytes k 0 ≡ 10 → (place : ℕ) × IsFirstNewline bytes place
first_before [] k within is = absurd (omega arith)
first_before (byte ∷ bytes) zero within is = (0, record { within = omega arith; unbroken = tt; ends = is })
first_before (byte ∷ bytes) (suc k) within is = first_by (eqb byte 10) refl (first_before bytes k (omega arith) is)
  where
    first_by : (test : Bool) → eqb byte 10 ≡ test → (place : ℕ) × IsFirstNewline bytes place → (place : ℕ) × IsFirstNewline (byte ∷ bytes) place
    first_by true here later = (0, record { within = omega arith; unbroken = tt; ends = eqb-true byte 10 here })
    first_by false other later =
        let h = later.1 in
        (suc later.0, record { within = omega (arith, h.within); unbroken = (eqb-false byte 10 other, h.unbroken); ends = h.ends })

-- a newline stands ahead where the last one ends behind what was passed
pub first_ahead : (bytes : List ℕ) (start end last : ℕ) → last ≤ end → end ≤ length bytes → (start < last → get_or bytes (last - 1) 0 ≡ 10)
    → ((place : ℕ) → last ≤ place → place < end → get_or bytes place 0 ≢ 10)
    → MatchBool (nat_lt start last) ((place : ℕ) × IsFirstNewline (between start end bytes) place) (IsUnbroken (between start end bytes))
first_ahead bytes start end last order bound newline none = by_test (nat_lt start last)
    (λ is.
    let less : start < last = ltb-true start last is in
    first_before (between start end bytes) (last - 1 - start) (omega (arith, length-between bytes start end bound))
    (get_or-between bytes start end (last - 1 - start) 0 (omega arith)
    ∙ ap (λ n. get_or bytes n 0) (omega arith) ∙ newline less))
    (λ is.
    let past : last ≤ start = grind (arith, nat_tests, is) in
    IsUnbroken-from_places (between start end bytes) (λ k within at.
    let below : start + k < end = omega (arith, length-between bytes start end bound) in
    none (start + k) (omega arith) below (sym (get_or-between bytes start end k 0 below) ∙ at)))
  where
    by_test : {A B : Type 0} (b : Bool) → (b ≡ true → A) → (b ≡ false → B) → MatchBool b A B
    by_test true left right = left refl
    by_test false left right = right refl

-- where the last newline of a part ends
pub newline_within : (xs ys : List ℕ) (start end r : ℕ) → ys ≡ xs → r ≤ length (between start end ys) → (0 < r → get_or (between start end ys) (r - 1) 0 ≡ 10)
    → start < start + r → get_or xs (start + r - 1) 0 ≡ 10
newline_within xs ys start end r same within newline some =
    let short : r ≤ end - start = omega (arith, within, length-take (end - start) (drop start ys)) in
    let at : start + r - 1 ≡ start + (r - 1) = omega arith in
    ap (λ n. get_or xs n 0) at ∙ ap (λ l. get_or l (start + (r - 1)) 0) (sym same) ∙ sym (get_or-between ys start end (r - 1) 0 (omega arith))
    ∙ newline (omega arith)

pub none_within : (xs ys : List ℕ) (start end r : ℕ) → ys ≡ xs → end ≤ length ys
    → ((k : ℕ) → r ≤ k → k < length (between start end ys) → get_or (between start end ys) k 0 ≢ 10)
    → (place : ℕ) → start + r ≤ place → place < end → get_or xs place 0 ≢ 10
none_within xs ys start end r same bound none place behind below is =
    let back : start + (place - start) ≡ place = omega arith in
    none (place - start) (omega arith) (omega (arith, length-between ys start end bound))
    (get_or-between ys start end (place - start) 0 (omega arith) ∙ ap (λ n. get_or ys n 0) back ∙ ap (λ l. get_or l place 0) same ∙ is)
