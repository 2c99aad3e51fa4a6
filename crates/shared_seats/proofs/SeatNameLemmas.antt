-- A split and a join preserve `AreNamed`, and a whole seat is the only one that holds a name.
use Rattle.std.proofs.Common.{◌≡◌, ◌≢◌, ℕ, ◌+◌, ◌<◌, ◌≤◌, List, [], ◌∷◌, ◌++◌, length, set, Bool, true, false, ◌&&◌, eqb, leb, inl, inr, refl, sym}
use Rattle.std.proofs.Common.{ap, ◌∙◌, subst, arith}
use Rattle.std.proofs.lemmas.Bool.{cases_lt, and_parts, and_from, eqb-true, eqb-false, eq-eqb, true≢false, le-leb, leb-true, lt-leb}
use mathlib.Core.Option.{some}
use lib.ListN.{get_elem?}
use Rattle.shared_seats.specs.Totals.{total, one_if}
use Rattle.shared_seats.specs.SeatNames.{is_path, first_names, after_split, split_off, held, split_from, AreNamed, IsWhole}
use Rattle.shared_seats.specs.declared.seat_name.SeatName.{SeatName}
use Rattle.shared_seats.proofs.Totals.{total-append, total-snoc, total-set, part_le, parts_le, total-le}

pub one_if_le : (test : Bool) → one_if test ≤ 1
one_if_le true = omega arith
one_if_le false = omega arith

one_if_and_le : (a b : Bool) → one_if (a && b) ≤ one_if a
one_if_and_le true b = one_if_le b
one_if_and_le false b = omega arith

-- a test that passes wherever another does counts no less
one_if_mono : (a b c : Bool) → (b ≡ true → c ≡ true) → one_if (a && b) ≤ one_if (a && c)
one_if_mono false b c h = omega arith
one_if_mono true false c h = omega arith
one_if_mono true true c h = let yes : c ≡ true = h refl in rw yes (omega arith)

pub is_path-self : (path : List ℕ) → is_path path path ≡ true
is_path-self [] = refl
is_path-self (k ∷ path) = and_from (eqb k k) (is_path path path) (eq-eqb k k refl) (is_path-self path)

pub is_path-same : (path other : List ℕ) → is_path path other ≡ true → path ≡ other
is_path-same [] [] e = refl
is_path-same [] (l ∷ other) e = cc
is_path-same (k ∷ path) [] e = cc
is_path-same (k ∷ path) (l ∷ other) e =
    let both = and_parts (eqb k l) (is_path path other) e in
    λ i. eqb-true k l both.0 i ∷ is_path-same path other both.1 i

pub split_from_le : (path : List ℕ) (k : ℕ) (names : List SeatName) → split_from path k names ≤ held path names
split_from_le path k names = total-le _ _ (λ (name : SeatName). one_if_and_le (is_path path name.path) (leb k name.splits)) names

-- names with as many of each path and of each number of splits are as good
named_alike : (seats others : List (List SeatName)) → ((path : List ℕ) → total (held path) others ≡ total (held path) seats)
    → ((path : List ℕ) (k : ℕ) → total (split_from path k) others ≡ total (split_from path k) seats) → AreNamed seats → AreNamed others
named_alike seats others helds splits named = record {
  once = λ path. omega (arith, helds path, named.once path);
  split = λ k path held_now. let before = named.split k path (omega (arith, helds (k ∷ path))) in (before.0, omega (arith, splits path k, before.1));
}

pub whole_alike : (names others : List SeatName) → ((path : List ℕ) → held path others ≡ held path names)
    → ((path : List ℕ) (k : ℕ) → split_from path k others ≡ split_from path k names) → IsWhole names → IsWhole others
whole_alike names others helds splits whole = record {
  first = omega (arith, helds [], whole.first);
  parts = λ k path positive parted. omega (arith, helds (k ∷ path), whole.parts k path positive (omega (arith, splits path k)));
}

pub named_first : AreNamed (first_names ∷ [])
named_first = record {
  once = λ path. let few = one_if_le (is_path path []) in omega arith;
  split = λ k path held_now. absurd (omega arith);
}

one_if_and_le_right : (a b : Bool) → one_if (a && b) ≤ one_if b
one_if_and_le_right true b = omega arith
one_if_and_le_right false b = omega arith

pub whole_first : IsWhole first_names
whole_first = record {
  first = omega arith;
  parts = λ k path positive parted.
      let never : leb k 0 ≡ false = lt-leb k 0 positive in
      let none : one_if (is_path path [] && leb k 0) ≤ one_if (leb k 0) = one_if_and_le_right (is_path path []) (leb k 0) in
      absurd (omega (arith, ap one_if never));
}

-- what a split changes: the first name's number of splits, and one new path
module _ (name : SeatName) (rest : List SeatName) where
  abbrev child : List ℕ
  child = (name.splits + 1) ∷ name.path

  held-after_split : (path : List ℕ) → held path (after_split (name ∷ rest)) ≡ held path (name ∷ rest)
  held-after_split path = refl

  held-split_off : (path : List ℕ) → held path (split_off (name ∷ rest)) ≡ one_if (is_path path child)
  held-split_off path = omega arith

  split_from-split_off : (path : List ℕ) (k : ℕ) → split_from path k (split_off (name ∷ rest)) ≡ one_if (is_path path child && leb k 0)
  split_from-split_off path k = omega arith

  split_from-after_split : (path : List ℕ) (k : ℕ) → split_from path k (name ∷ rest) ≤ split_from path k (after_split (name ∷ rest))
  split_from-after_split path k =
      let more = one_if_mono (is_path path name.path) (leb k name.splits) (leb k (name.splits + 1))
      (λ e. le-leb k (name.splits + 1) (let le = leb-true k name.splits e in omega arith)) in
      omega arith

  -- the new path is one that the name was split into
  split_into : (path : List ℕ) (k : ℕ) → is_path (k ∷ path) child ≡ true → (k ≡ name.splits + 1) × (path ≡ name.path)
  split_into path k e =
      let both = and_parts (eqb k (name.splits + 1)) (is_path path name.path) e in
      (eqb-true k (name.splits + 1) both.0, is_path-same path name.path both.1)

  now_split : (k : ℕ) → k ≡ name.splits + 1 → 0 < split_from name.path k (after_split (name ∷ rest))
  now_split k e =
      let yes : (is_path name.path name.path && leb k (name.splits + 1)) ≡ true =
      and_from (is_path name.path name.path) (leb k (name.splits + 1)) (is_path-self name.path) (le-leb k (name.splits + 1) (omega arith)) in
      omega (arith, ap one_if yes)

  module _ (seats : List (List SeatName)) (i : ℕ) (here : get_elem? seats i ≡ some (name ∷ rest)) (named : AreNamed seats) where
    abbrev once : (path : List ℕ) → total (held path) seats ≤ 1
    once = named.once

    -- the only seat with the name's path wasn't split that often yet
    none_split : total (split_from name.path (name.splits + 1)) seats ≡ 0
    none_split =
        let g : List SeatName → ℕ = held name.path in
        let f : List SeatName → ℕ = split_from name.path (name.splits + 1) in
        let same : one_if (is_path name.path name.path) ≡ 1 = ap one_if (is_path-self name.path) in
        let late : leb (name.splits + 1) name.splits ≡ false = lt-leb (name.splits + 1) name.splits (omega arith) in
        let not_here : one_if (is_path name.path name.path && leb (name.splits + 1) name.splits) ≤ one_if (leb (name.splits + 1) name.splits) =
        one_if_and_le_right (is_path name.path name.path) (leb (name.splits + 1) name.splits) in
        let few = split_from_le name.path (name.splits + 1) rest in
        let without = total-le f g (λ (names : List SeatName). split_from_le name.path (name.splits + 1) names) (set seats i []) in
        omega (
          arith,
          ap one_if late,
          once name.path,
          part_le g seats i (name ∷ rest) here,
          total-set g seats i (name ∷ rest) [] here,
          total-set f seats i (name ∷ rest) [] here,
        )

    -- so no seat holds the new path yet
    child_new : total (held child) seats ≡ 0
    child_new = elim (cases_lt 0 (total (held child) seats)) [
      | inl held_now ↦ absurd (omega (arith, (named.split (name.splits + 1) name.path held_now).1, none_split))
      | inr none ↦ omega arith
    ]

    abbrev parted : List (List SeatName)
    parted = set seats i (after_split (name ∷ rest)) ++ split_off (name ∷ rest) ∷ []

    total-parted : (f : List SeatName → ℕ) → total f parted + f (name ∷ rest) ≡ total f seats + f (after_split (name ∷ rest)) + f (split_off (name ∷ rest))
    total-parted f = omega (
      arith,
      total-snoc f (set seats i (after_split (name ∷ rest))) (split_off (name ∷ rest)),
      total-set f seats i (name ∷ rest) (after_split (name ∷ rest)) here,
    )

    once_still : (path : List ℕ) → (test : Bool) → is_path path child ≡ test → total (held path) parted ≤ 1
    once_still path true e =
        let new : path ≡ child = is_path-same path child e in
        omega (arith, ap one_if e, total-parted (held path), ap (λ (p : List ℕ). total (held p) seats) new, child_new)
    once_still path false e = omega (arith, ap one_if e, total-parted (held path), once path)

    split_still : (path : List ℕ) (k : ℕ) → (test : Bool) → is_path (k ∷ path) child ≡ test → 0 < total (held (k ∷ path)) parted
        → (0 < k) × (0 < total (split_from path k) parted)
    split_still path k true e held_now =
        let into = split_into path k e in
        let now : 0 < split_from path k (after_split (name ∷ rest)) =
        subst (λ (p : List ℕ). 0 < split_from p k (after_split (name ∷ rest))) (sym into.1) (now_split k into.0) in
        (omega (arith, into.0), omega (arith, now, total-parted (split_from path k), part_le (split_from path k) seats i (name ∷ rest) here))
    split_still path k false e held_now =
        let before = named.split k path (omega (arith, ap one_if e, total-parted (held (k ∷ path)))) in
        (before.0, omega (arith, before.1, total-parted (split_from path k), split_from-after_split path k))

    named_parted : AreNamed parted
    named_parted = record {
      once = λ path. once_still path (is_path path child) refl;
      split = λ k path held_now. split_still path k (is_path (k ∷ path) child) refl held_now;
    }

-- a split keeps the names
pub named_split : (seats : List (List SeatName)) (i : ℕ) (names : List SeatName) → get_elem? seats i ≡ some names → 0 < length names → AreNamed seats
    → AreNamed (set seats i (after_split names) ++ split_off names ∷ [])
named_split seats i [] here long named = absurd (omega arith)
named_split seats i (name ∷ rest) here long named = named_parted name rest seats i here named

-- a join keeps the names
pub named_join : (seats : List (List SeatName)) (i j : ℕ) (names others : List SeatName) → get_elem? seats i ≡ some names
    → get_elem? (set seats i (names ++ others)) j ≡ some others → AreNamed seats → AreNamed (set (set seats i (names ++ others)) j [])
named_join seats i j names others here there named =
    let f_total : (f : List SeatName → ℕ) → f (names ++ others) ≡ f names + f others → f [] ≡ 0
    → total f (set (set seats i (names ++ others)) j []) ≡ total f seats =
    λ f adds none. omega (arith, adds, none, total-set f seats i names (names ++ others) here, total-set f (set seats i (names ++ others)) j others [] there) in
    named_alike seats _ (λ path. f_total (held path) (total-append _ names others) refl)
    (λ path k. f_total (split_from path k) (total-append _ names others) refl) named

same_late : (k s : ℕ) (test : Bool) → eqb k (s + 1) ≡ test → (eqb k (s + 1) && true) ≡ false → s + 1 ≤ k → one_if (leb k (s + 1)) ≤ one_if (leb k s)
same_late k s true is e after = absurd (true≢false (sym (and_from (eqb k (s + 1)) true is refl) ∙ e))
same_late k s false is e after =
    let apart = eqb-false k (s + 1) is in
    elim (cases_lt (s + 1) k) [
      | inl late ↦ let no : leb k (s + 1) ≡ false = lt-leb k (s + 1) late in omega (arith, ap one_if no)
      | inr same ↦ absurd (apart (omega arith))
    ]

-- where the new path is another, no name counts as split more often than before
same_split : (a : Bool) (k s : ℕ) → (eqb k (s + 1) && a) ≡ false → one_if (a && leb k (s + 1)) ≤ one_if (a && leb k s)
same_split false k s e = omega arith
same_split true k s e =
    elim (cases_lt k (s + 1)) [
      | inl before ↦ let yes : leb k s ≡ true = le-leb k s (omega arith) in let few = one_if_le (leb k (s + 1)) in omega (arith, ap one_if yes)
      | inr after ↦ same_late k s (eqb k (s + 1)) refl e after
    ]

still_whole : (name : SeatName) (more rest others : List SeatName) (k : ℕ) (path : List ℕ) → 0 < k
    → held (k ∷ path) others ≡ held (k ∷ path) (after_split (name ∷ more)) + held (k ∷ path) (split_off (name ∷ more)) + held (k ∷ path) rest
    → split_from path k others ≡ split_from path k (after_split (name ∷ more)) + split_from path k (split_off (name ∷ more)) + split_from path k rest
    → 0 < split_from path k others
    → (0 < split_from path k ((name ∷ more) ++ rest) → 0 < held (k ∷ path) ((name ∷ more) ++ rest))
    → (test : Bool) → is_path (k ∷ path) (child name more) ≡ test → 0 < held (k ∷ path) others
still_whole name more rest others k path positive helds splits parted whole true e = omega (arith, ap one_if e, helds)
still_whole name more rest others k path positive helds splits parted whole false e =
    let same = same_split (is_path path name.path) k name.splits e in
    let off : leb k 0 ≡ false = lt-leb k 0 positive in
    let none = one_if_and_le_right (is_path path (child name more)) (leb k 0) in
    let together = total-append (λ (n : SeatName). one_if (is_path path n.path && leb k n.splits)) (name ∷ more) rest in
    omega (arith, helds, whole (omega (arith, splits, ap one_if off)), total-append (λ (n : SeatName). one_if (is_path (k ∷ path) n.path)) (name ∷ more) rest)

-- the names of a seat that was split and those that were split off are whole together with the rest, where they were before
pub whole_split : (names rest others : List SeatName) → 0 < length names → IsWhole (names ++ rest)
    → ((path : List ℕ) → held path others ≡ held path (after_split names) + held path (split_off names) + held path rest)
    → ((path : List ℕ) (k : ℕ)
    → split_from path k others ≡ split_from path k (after_split names) + split_from path k (split_off names) + split_from path k rest)
    → IsWhole others
whole_split [] rest others long whole helds splits = absurd (omega arith)
whole_split (name ∷ more) rest others long whole helds splits = record {
  first = omega (arith, helds [], whole.first, total-append (λ (n : SeatName). one_if (is_path [] n.path)) (name ∷ more) rest);
  parts = λ k path positive parted.
      still_whole name more rest others k path positive (helds (k ∷ path)) (splits path k) parted (whole.parts k path positive)
      (is_path (k ∷ path) (child name more)) refl;
}

-- each path that some seat holds, a whole seat holds
held_here : (seats : List (List SeatName)) (i : ℕ) (names : List SeatName) → AreNamed seats → get_elem? seats i ≡ some names → IsWhole names
    → (path : List ℕ) → 0 < total (held path) seats → 0 < held path names
held_here seats i names named here whole [] held_now = whole.first
held_here seats i names named here whole (k ∷ path) held_now =
    let from = named.split k path held_now in
    let f : List SeatName → ℕ = split_from path k in
    let g : List SeatName → ℕ = held path in
    let le : (names : List SeatName) → f names ≤ g names = split_from_le path k in
    let parent : 0 < g names = held_here seats i names named here whole path (omega (arith, from.1, total-le f g le seats)) in
    whole.parts k path from.0 (omega (
      arith,
      parent,
      from.1,
      named.once path,
      total-le f g le (set seats i []),
      total-set f seats i names [] here,
      total-set g seats i names [] here,
    ))

-- a whole seat is the only one that holds a name
pub whole_alone : (seats : List (List SeatName)) (seat other : ℕ) (names others : List SeatName) → AreNamed seats → get_elem? seats seat ≡ some names
    → IsWhole names → other ≢ seat → get_elem? seats other ≡ some others → others ≡ []
whole_alone seats seat other names [] named here whole apart there = refl
whole_alone seats seat other names (name ∷ rest) named here whole apart there =
    let g : List SeatName → ℕ = held name.path in
    let same : one_if (is_path name.path name.path) ≡ 1 = ap one_if (is_path-self name.path) in
    let part : g (name ∷ rest) ≤ total g seats = part_le g seats other (name ∷ rest) there in
    let mine : 0 < g names = held_here seats seat names named here whole name.path (omega arith) in
    absurd (omega (arith, same, mine, named.once name.path, parts_le g seats seat other names (name ∷ rest) apart here there))
