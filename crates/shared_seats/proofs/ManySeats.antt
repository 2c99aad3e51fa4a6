-- The names of a seat and of a list of callers' seats, through splits and joins.
use Rattle.std.proofs.Common.{◌≡◌, ℕ, suc, ◌<◌, List, [], ◌∷◌, ◌++◌, length, take, drop, get_or, leb, ◌&&◌, refl, sym, ap, ap₂, subst, ◌∙◌, append-nil}
use Rattle.std.proofs.Common.{append_assoc, arith}
use Rattle.std.proofs.lemmas.List.{take_all, drop_all}
use Rattle.std.specs.List.{flat_map}
use Rattle.shared_seats.specs.Totals.{total, one_if}
use Rattle.shared_seats.specs.SeatNames.{is_path, after_split, split_off, IsWhole}
use Rattle.shared_seats.specs.declared.seat_name.SeatName.{SeatName}
use Rattle.shared_seats.proofs.Totals.{total-append}
use Rattle.shared_seats.proofs.SeatNameLemmas.{whole_split, whole_alike}

abbrev with_path : List ℕ → SeatName → ℕ
with_path path name = one_if (is_path path name.path)

abbrev with_splits : List ℕ → ℕ → SeatName → ℕ
with_splits path k name = one_if (is_path path name.path && leb k name.splits)

-- the names of a seat that was split are whole with the rest and the new seat's
pub whole_seated : (names rest : List SeatName) → 0 < length names → IsWhole (names ++ rest) → IsWhole (after_split names ++ (rest ++ split_off names))
whole_seated names rest named whole =
    let after : List SeatName = after_split names in
    let off : List SeatName = split_off names in
    whole_split names rest (after ++ (rest ++ off)) named whole
    (λ path. omega (arith, total-append (with_path path) after (rest ++ off), total-append (with_path path) rest off))
    (λ path k. omega (arith, total-append (with_splits path k) after (rest ++ off), total-append (with_splits path k) rest off))

-- the names of two seats that were joined are whole with the rest
pub whole_joined : (names others rest : List SeatName) → IsWhole (names ++ (rest ++ others)) → IsWhole ((names ++ others) ++ rest)
whole_joined names others rest whole =
    let same : (f : SeatName → ℕ) → total f ((names ++ others) ++ rest) ≡ total f (names ++ (rest ++ others)) = λ f. omega (
      arith,
      total-append f (names ++ others) rest,
      total-append f names others,
      total-append f names (rest ++ others),
      total-append f rest others,
    ) in
    whole_alike (names ++ (rest ++ others)) ((names ++ others) ++ rest) (λ path. same (with_path path)) (λ path k. same (with_splits path k)) whole

pub flat_map-snoc : {A B : Type 0} (f : A → List B) (xs : List A) (x : A) → flat_map f (xs ++ x ∷ []) ≡ flat_map f xs ++ f x
flat_map-snoc f [] x = append-nil (f x)
flat_map-snoc f (y ∷ ys) x = ap (λ (zs : List _). f y ++ zs) (flat_map-snoc f ys x) ∙ sym (append_assoc (f y) (flat_map f ys) (f x))

-- callers whose seats keep their names
pub flat_map-kept : {A B : Type 0} (f : A → List B) (xs ys : List A) → length ys ≡ length xs
    → ((i : ℕ) (d : A) → i < length xs → f (get_or ys i d) ≡ f (get_or xs i d)) → flat_map f ys ≡ flat_map f xs
flat_map-kept f [] [] long same = refl
flat_map-kept f [] (y ∷ ys) long same = absurd (omega arith)
flat_map-kept f (x ∷ xs) [] long same = absurd (omega arith)
flat_map-kept f (x ∷ xs) (y ∷ ys) long same =
    ap₂ (λ a b. a ++ b) (same 0 x (omega arith)) (flat_map-kept f xs ys (omega arith) (λ i d below. same (suc i) d (omega arith)))

-- a list that was lent as a slice comes back whole
pub lent_whole : {A : Type 0} (n : ℕ) (part whole : List A) → length part ≡ n → length whole ≡ n → take n (part ++ drop (length part) whole) ≡ part
lent_whole n part whole long also =
    ap (λ rest. take n (part ++ rest)) (drop_all (length part) whole (omega arith)) ∙ ap (take n) (append-nil part) ∙ take_all n part (omega arith)

-- callers whose list was lent as a slice, and whose seats kept their names, are as whole with a seat as they were
pub whole_lent : {A : Type 0} (names_of : A → List SeatName) (names : List SeatName) (count : ℕ) (old lent new : List A) → lent ≡ old
    → length new ≡ count → length old ≡ count
    → ((i : ℕ) (d : A) → i < length lent → names_of (get_or new i d) ≡ names_of (get_or lent i d))
    → IsWhole (names ++ flat_map names_of old) → IsWhole (names ++ flat_map names_of (take count (new ++ drop (length new) old)))
whole_lent {A} names_of names count old lent new is long also same whole =
    let back : take count (new ++ drop (length new) old) ≡ new = lent_whole count new old long also in
    let kept : flat_map names_of new ≡ flat_map names_of old = flat_map-kept names_of old new (omega (arith, long, also))
    (subst (λ (callers : List A). (i : ℕ) (d : A) → i < length callers → names_of (get_or new i d) ≡ names_of (get_or callers i d)) is same) in
    subst (λ (others : List SeatName). IsWhole (names ++ others)) (sym (ap (flat_map names_of) back ∙ kept)) whole

-- a seat that takes over the last caller's is as whole with the callers that are left
pub whole_popped : {A : Type 0} (names_of : A → List SeatName) (names : List SeatName) (callers rest : List A) (last : A) → callers ≡ rest ++ last ∷ []
    → IsWhole (names ++ flat_map names_of callers) → IsWhole ((names ++ names_of last) ++ flat_map names_of rest)
whole_popped names_of names callers rest last split whole =
    whole_joined names (names_of last) (flat_map names_of rest)
    (subst (λ (others : List SeatName). IsWhole (names ++ others)) (ap (flat_map names_of) split ∙ flat_map-snoc names_of rest last) whole)
