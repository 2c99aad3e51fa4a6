-- The objects of a text: after leading bytes, and that they cover it.
use Rattle.std.proofs.Common.{◌≡◌, ◌≢◌, ℕ, zero, suc, ◌+◌, ◌-◌, ◌<◌, ◌≤◌, ◌⊎◌, true, false, List, [], ◌∷◌, ◌++◌, length, replicate, Option, Some}
use Rattle.std.proofs.Common.{None, slice_get, refl, sym, ap, ◌∙◌, subst, inl, inr, arith, length-append, append-nil, eqb-true, one-add, ne_eqb}
use Rattle.std.proofs.Common.{take_while, drop, ◌==◌, add-zero}
use Rattle.tlv_objects.specs.Tlv.{TlvObject, TlvText, FrontObject, tag_at, front_object, no_more, torn_at, in_front, objects_from, objects_of}
use Rattle.tlv_objects.specs.Grammar.{is_tag, Spells, IsNoObject, Covers}
use Rattle.tlv_objects.proofs.Fronts.{takes_object, reads_object}

none_or_some : {A : Type 0} (o : Option A) → (o ≡ None) ⊎ ((x : A) × (o ≡ Some x))
none_or_some None = inl refl
none_or_some (Some x) = inr (x, refl)

-- what is inside an object that was read is passed over
objects_behind : (xs ys : List ℕ) (at : ℕ) → objects_from (length xs) at (xs ++ ys) ≡ objects_from 0 (at + length xs) ys
unfolding objects_from
objects_behind [] ys at = rw add-zero refl
objects_behind (x ∷ xs) ys at =
    objects_behind xs ys (at + 1) ∙ ap (λ (n : ℕ). objects_from 0 n ys) (omega arith)

-- 00 bytes are passed over
pub objects_behind_zeros : (count at : ℕ) (rest : List ℕ) → objects_from 0 at (replicate count 0 ++ rest) ≡ objects_from 0 (at + count) rest
unfolding objects_from
objects_behind_zeros zero at rest = rw add-zero refl
objects_behind_zeros (suc count) at rest =
    objects_behind_zeros count (at + 1) rest ∙ ap (λ (n : ℕ). objects_from 0 n rest) (omega arith)

-- an object at the front is the first
objects_behind_front : (a : ℕ) (spelling rest : List ℕ) (at tag : ℕ) (value : List ℕ)
    → front_object (suc a ∷ (spelling ++ rest)) ≡ Some (record { tag = tag; value = value; rest = rest })
    → objects_from 0 at (suc a ∷ (spelling ++ rest)) ≡ in_front (record { tag = tag; value = value; at = at })
    (objects_from 0 (at + suc (length spelling)) rest)
unfolding objects_from
objects_behind_front a spelling rest at tag value h =
    let inside : length (spelling ++ rest) - length rest ≡ length spelling = omega (arith, length-append spelling rest) in
    let behind : objects_from (length spelling) (at + 1) (spelling ++ rest) ≡ objects_from 0 (at + suc (length spelling)) rest =
    objects_behind spelling rest (at + 1) ∙ ap (λ (n : ℕ). objects_from 0 n rest) (omega arith)
    in
    rw (h, objects_from, inside, behind) refl

-- a tag begins with a byte that isn't 00
tag_begins : (t : List ℕ) → is_tag t ≡ true → (a : ℕ) × (more : List ℕ) × (t ≡ suc a ∷ more)
tag_begins [] h = absurd cc
tag_begins (zero ∷ []) h = absurd cc
tag_begins (zero ∷ b ∷ []) h = absurd cc
tag_begins (zero ∷ b ∷ c ∷ []) h = absurd cc
tag_begins (zero ∷ b ∷ c ∷ d ∷ more) h = absurd cc
tag_begins (suc a ∷ more) h = (a, more, refl)

-- and so does the spelling of an object
spelling_begins : (spelling : List ℕ) (tag : ℕ) (value : List ℕ) → Spells spelling tag value → (a : ℕ) × (more : List ℕ) × (spelling ≡ suc a ∷ more)
spelling_begins spelling tag value s =
    let begins = tag_begins s.tag_bytes s.is_a_tag in
    (begins.0, begins.1 ++ (s.length_bytes ++ value), s.joined ∙ ap (λ (t : List ℕ). t ++ (s.length_bytes ++ value)) begins.2)

-- an object that is spelled at the front is the first
pub objects_behind_object : (spelling rest : List ℕ) (at tag : ℕ) (value : List ℕ) → Spells spelling tag value
    → objects_from 0 at (spelling ++ rest) ≡ in_front (record { tag = tag; value = value; at = at }) (objects_from 0 (at + length spelling) rest)
objects_behind_object spelling rest at tag value s =
    let begins = spelling_begins spelling tag value s in
    let P : List ℕ → Type 0 =
    λ xs. objects_from 0 at (xs ++ rest) ≡ in_front (record { tag = tag; value = value; at = at }) (objects_from 0 (at + length xs) rest) in
    subst P (sym begins.2)
    (objects_behind_front begins.0 begins.1 rest at tag value
    (subst (λ (xs : List ℕ). front_object (xs ++ rest) ≡ Some (record { tag = tag; value = value; rest = rest })) begins.2
    (reads_object spelling rest tag value s)))

-- a text is torn where the object at its front isn't one
objects_torn_front : (a : ℕ) (rest : List ℕ) (at : ℕ) → front_object (suc a ∷ rest) ≡ None → objects_from 0 at (suc a ∷ rest) ≡ torn_at at
unfolding objects_from
objects_torn_front a rest at h = rw (h, objects_from) refl

-- what begins with no object is torn there
pub objects_torn : (at : ℕ) (rest : List ℕ) → IsNoObject rest → objects_from 0 at rest ≡ torn_at at
objects_torn at [] h = absurd (h.some refl)
objects_torn at (zero ∷ rest) h = absurd (h.not_zero refl)
objects_torn at (suc a ∷ rest) h = elim (none_or_some (front_object (suc a ∷ rest))) [
  | inl none ↦ objects_torn_front a rest at none
  | inr found ↦
      let taken = takes_object a rest found.0 found.1 in
      absurd (h.none taken.spelling found.0.rest found.0.tag found.0.value taken.spelled taken.joined)
]

-- what reads as no object is none
no_object : (a : ℕ) (rest : List ℕ) → front_object (suc a ∷ rest) ≡ None → IsNoObject (suc a ∷ rest)
no_object a rest h = record {
  some = λ e. cc;
  not_zero = λ e. cc;
  none = λ spelling more tag value s e. let read = reads_object spelling more tag value s in cc;
}

-- one 00 byte more at the start
covers_behind_zero : (at : ℕ) (text : List ℕ) (objects : List TlvObject) (torn : Option ℕ) → Covers (at + 1) text objects torn
    → Covers at (0 ∷ text) objects torn
covers_behind_zero at text [] None h = (suc h.0, ap (λ (xs : List ℕ). 0 ∷ xs) h.1)
covers_behind_zero at text [] (Some place) h =
    (suc h.0, h.1, ap (λ (xs : List ℕ). 0 ∷ xs) h.2, omega (arith, h.3), h.4)
covers_behind_zero at text (object ∷ objects) torn h =
    (suc h.0, h.1, h.2, ap (λ (xs : List ℕ). 0 ∷ xs) h.3, omega (arith, h.4), h.5, h.6)

abbrev IsCovered : ℕ → List ℕ → TlvText → Type 0
IsCovered at text found = Covers at text found.objects found.torn

-- an object at the start
covers_behind_object : (at : ℕ) (spelling rest : List ℕ) (tag : ℕ) (value : List ℕ) → Spells spelling tag value
    → IsCovered (at + length spelling) rest (objects_from 0 (at + length spelling) rest)
    → IsCovered at (spelling ++ rest) (objects_from 0 at (spelling ++ rest))
covers_behind_object at spelling rest tag value s h =
    subst (IsCovered at (spelling ++ rest)) (sym (objects_behind_object spelling rest at tag value s)) (0, spelling, rest, refl, sym (add-zero at), s, h)

-- the objects of a text, and the place where it is torn, cover it
covers : (n at : ℕ) (text : List ℕ) → length text ≤ n → IsCovered at text (objects_from 0 at text)
unfolding objects_from
covers n at [] fits = (0, refl)
covers zero at (b ∷ rest) fits = absurd (omega arith)
covers (suc n) at (zero ∷ rest) fits = covers_behind_zero at rest _ _ (covers n (at + 1) rest (omega arith))
covers (suc n) at (suc a ∷ rest) fits = elim (none_or_some (front_object (suc a ∷ rest))) [
  | inl none ↦ subst (IsCovered at (suc a ∷ rest)) (sym (objects_torn_front a rest at none)) (0, suc a ∷ rest, refl, sym (add-zero at), no_object a rest none)
  | inr found ↦
      let taken = takes_object a rest found.0 found.1 in
      let begins = spelling_begins taken.spelling found.0.tag found.0.value taken.spelled in
      let P : List ℕ → Type 0 = λ xs. IsCovered at xs (objects_from 0 at xs) in
      subst P (sym taken.joined)
      (covers_behind_object at taken.spelling found.0.rest found.0.tag found.0.value taken.spelled
      (covers n (at + length taken.spelling) found.0.rest
      (omega (arith, ap length taken.joined, length-append taken.spelling found.0.rest, ap length begins.2))))
]

-- the objects of a text, and the place where it is torn, cover it
pub objects_cover : (text : List ℕ) → Covers 0 text (objects_of text).objects (objects_of text).torn
objects_cover text = covers (length text) 0 text (omega arith)

pub nothing_in : (at : ℕ) → objects_from 0 at [] ≡ no_more
unfolding objects_from
nothing_in at = refl

covered_once : (objects : List TlvObject) (torn : Option ℕ) (at : ℕ) (text : List ℕ) → Covers at text objects torn
    → objects_from 0 at text ≡ record { objects = objects; torn = torn }
covered_once [] None at text h =
    ap (objects_from 0 at) (h.1 ∙ sym (append-nil (replicate h.0 0))) ∙ objects_behind_zeros h.0 at [] ∙ nothing_in (at + h.0)
covered_once [] (Some place) at text h =
    ap (objects_from 0 at) h.2 ∙ objects_behind_zeros h.0 at h.1 ∙ objects_torn (at + h.0) h.1 h.4 ∙ ap torn_at (sym h.3)
covered_once (object ∷ objects) torn at text h =
    ap (objects_from 0 at) h.3 ∙ objects_behind_zeros h.0 at (h.1 ++ h.2) ∙ ap (λ (n : ℕ). objects_from 0 n (h.1 ++ h.2)) (sym h.4)
    ∙ objects_behind_object h.1 h.2 object.at object.tag object.value h.5 ∙ ap (in_front object) (covered_once objects torn (object.at + length h.1) h.2 h.6)

-- what covers a text is its objects, and the place where it is torn
pub covered_by_objects : (text : List ℕ) (objects : List TlvObject) (torn : Option ℕ) → Covers 0 text objects torn
    → objects_of text ≡ record { objects = objects; torn = torn }
covered_by_objects text objects torn h = covered_once objects torn 0 text h

-- THE CURSOR'S STEPS

-- how many 00 bytes stand at the front
abbrev pub zeros_at : List ℕ → ℕ
zeros_at [] = 0
zeros_at (zero ∷ rest) = suc (zeros_at rest)
zeros_at (suc a ∷ rest) = 0

-- as many as a count of those at the front finds
pub length-take_while_zero : (bytes : List ℕ) → length (take_while (λ byte. byte == 0) bytes) ≡ zeros_at bytes
length-take_while_zero [] = refl
length-take_while_zero (zero ∷ rest) = rw one-add (ap suc (length-take_while_zero rest))
length-take_while_zero (suc a ∷ rest) = rw (ne_eqb (suc a) 0 (omega arith)) refl

-- past the 00 bytes at the front the objects are the same
pub objects_past_zeros : (bytes : List ℕ) (at : ℕ) → objects_from 0 (at + zeros_at bytes) (drop (zeros_at bytes) bytes) ≡ objects_from 0 at bytes
unfolding objects_from
objects_past_zeros [] at = refl
objects_past_zeros (zero ∷ rest) at =
    ap (λ (n : ℕ). objects_from 0 n (drop (zeros_at rest) rest)) (omega arith) ∙ objects_past_zeros rest (at + 1)
objects_past_zeros (suc a ∷ rest) at = ap (λ (n : ℕ). objects_from 0 n (suc a ∷ rest)) (add-zero at)

-- and no further 00 byte stands there
pub no_zero_past_zeros : (bytes : List ℕ) → slice_get (drop (zeros_at bytes) bytes) 0 ≢ Some 0
no_zero_past_zeros [] h = cc
no_zero_past_zeros (zero ∷ rest) h = no_zero_past_zeros rest h
no_zero_past_zeros (suc a ∷ rest) h = cc

-- where no object is read, the text is torn
pub objects_unread : (bytes : List ℕ) (at : ℕ) → bytes ≢ [] → slice_get bytes 0 ≢ Some 0 → front_object bytes ≡ None → objects_from 0 at bytes ≡ torn_at at
objects_unread [] at some first h = absurd (some refl)
objects_unread (zero ∷ rest) at some first h = absurd (first refl)
objects_unread (suc a ∷ rest) at some first h = objects_torn_front a rest at h

-- an object that is read is the first, and takes what isn't left
pub record IsRead (bytes : List ℕ) (at : ℕ) (front : FrontObject) : Type 0 where
  pub shorter : length front.rest < length bytes
  pub first : let count =
      length bytes - length front.rest in objects_from 0 at bytes ≡ in_front (record { tag = front.tag; value = front.value; at = at })
      (objects_from 0 (at + count) front.rest)

is_read_at : (spelling rest : List ℕ) (at tag : ℕ) (value : List ℕ) → Spells spelling tag value
    → IsRead (spelling ++ rest) at (record { tag = tag; value = value; rest = rest })
is_read_at spelling rest at tag value s =
    let begins = spelling_begins spelling tag value s in
    let count : length (spelling ++ rest) - length rest ≡ length spelling = omega (arith, length-append spelling rest) in
    record {
      shorter = omega (arith, length-append spelling rest, ap length begins.2);
      first = rw count (objects_behind_object spelling rest at tag value s);
    }

pub is_read : (bytes : List ℕ) (at : ℕ) (front : FrontObject) → slice_get bytes 0 ≢ Some 0 → bytes ≢ [] → front_object bytes ≡ Some front
    → IsRead bytes at front
is_read [] at front first some h = absurd (some refl)
is_read (zero ∷ rest) at front first some h = absurd (first refl)
is_read (suc a ∷ rest) at front first some h =
    let taken = takes_object a rest front h in
    let P : List ℕ → Type 0 = λ xs. IsRead xs at front in
    subst P (sym taken.joined) (is_read_at taken.spelling front.rest at front.tag front.value taken.spelled)

-- the same where the offset of the end of the text is known
pub is_taken : (bytes : List ℕ) (end at : ℕ) (front : FrontObject) → length bytes ≤ end → at ≡ end - length bytes
    → slice_get bytes 0 ≢ Some 0 → bytes ≢ [] → front_object bytes ≡ Some front
    → (length front.rest < length bytes) × (objects_from 0 (end - length bytes) bytes
    ≡ in_front (record { tag = front.tag; value = front.value; at = at }) (objects_from 0 (end - length front.rest) front.rest))
is_taken bytes end at front within place first some h =
    let read = is_read bytes at front first some h in
    let next : at + (length bytes - length front.rest) ≡ end - length front.rest = omega (arith, read.shorter) in
    (read.shorter, rw (← place) (read.first ∙ ap (λ n. in_front (record { tag = front.tag; value = front.value; at = at }) (objects_from 0 n front.rest)) next))

-- what begins with an object has bytes
pub some_read : (bytes : List ℕ) (front : FrontObject) → front_object bytes ≡ Some front → bytes ≢ []
unfolding front_object tag_at
some_read [] front h e = absurd cc
some_read (b ∷ bytes) front h e = cc

-- nothing is ahead where a test of the length says so
pub nothing_ahead : (bytes : List ℕ) (at : ℕ) → (length bytes == 0) ≡ true → (objects_from 0 at bytes ≡ no_more) × (bytes ≡ [])
nothing_ahead [] at h = (nothing_in at, refl)
nothing_ahead (b ∷ bytes) at h = let e : length (b ∷ bytes) ≡ 0 = eqb-true _ _ h in absurd (omega arith)

pub some_ahead : (bytes : List ℕ) → (length bytes == 0) ≡ false → bytes ≢ []
some_ahead [] h e = absurd cc
some_ahead (b ∷ bytes) h e = cc
