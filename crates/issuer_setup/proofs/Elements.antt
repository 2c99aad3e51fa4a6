-- The elements of a list are parsed as one result, and as no other.
use Rattle.std.proofs.Common.{◌≡◌, ℕ, zero, suc, ◌+◌, List, [], ◌∷◌, ◌++◌, length, take, Bool, true, false, Option, Some, None}
use Rattle.std.proofs.Common.{Result, Ok, Err, if◌then◌else◌, refl, sym, ap, subst, ◌∙◌, append-nil, append_assoc, length-append, add-zero, arith}
use Rattle.issuer_base.specs.TheOnly.{TheOnly}
use Rattle.issuer_setup.specs.Elements.{AreSound, IsFirstFault, IsParsed}

-- a thing before those that are parsed
abbrev pub onto : {A F : Type 0} → A → Result (List A) F → Result (List A) F
onto thing (Ok things) = Ok (thing ∷ things)
onto thing (Err fault) = Err fault

module _ {E A F : Type 0} (parsed : E → Option A) (may_follow : List A → A → Bool) (fault : ℕ → F) where
  -- the elements one after another, after the things that are given
  abbrev pub parsed_from : List A → List E → Result (List A) F
  parsed_from before [] = Ok []
  parsed_from before (element ∷ elements) = elim (parsed element) [
    | None ↦ Err (fault (length before))
    | Some thing ↦
        if may_follow before thing then onto thing (parsed_from (before ++ thing ∷ []) elements)
        else Err (fault (length before))
  ]

  broken_here : (before : List A) (element : E) (elements : List E)
      → ((thing : A) → parsed element ≡ Some thing → may_follow before thing ≡ false)
      → IsParsed parsed may_follow fault before (element ∷ elements) (Err (fault (length before)))
  broken_here before element elements broken = (
    0,
    ap fault (sym (add-zero (length before))),
    record {
      sound = [];
      are_sound = tt;
      element = element;
      stands = refl;
      broken = λ thing is. ap (λ (more : List A). may_follow more thing) (append-nil before) ∙ broken thing is;
    },
  )

  behind : (before : List A) (element : E) (elements : List E) (thing : A) → parsed element ≡ Some thing → may_follow before thing ≡ true
      → (rest : Result (List A) F) → IsParsed parsed may_follow fault (before ++ thing ∷ []) elements rest
      → IsParsed parsed may_follow fault before (element ∷ elements) (onto thing rest)
  behind before element elements thing is may (Ok things) held = (is, may, held)
  behind before element elements thing is may (Err found) held =
      let one : length (before ++ thing ∷ []) + held.0 ≡ length before + suc held.0 = omega (arith, length-append before (thing ∷ [])) in (
        suc held.0,
        held.1 ∙ ap fault one,
        record {
          sound = thing ∷ held.2.sound;
          are_sound = (is, may, held.2.are_sound);
          element = held.2.element;
          stands = held.2.stands;
          broken = λ other said.
              ap (λ (more : List A). may_follow more other) (sym (append_assoc before (thing ∷ []) held.2.sound)) ∙ held.2.broken other said;
        },
      )

  -- what the elements are parsed as is right
  pub is_parsed : (before : List A) (elements : List E) → IsParsed parsed may_follow fault before elements (parsed_from before elements)
  is_parsed before [] = tt
  is_parsed before (element ∷ elements) = by_parsed (λ thing. is_parsed (before ++ thing ∷ []) elements) (parsed element) refl
    where
      by_follow : (thing : A) → IsParsed parsed may_follow fault (before ++ thing ∷ []) elements (parsed_from (before ++ thing ∷ []) elements)
          → parsed element ≡ Some thing → (may : Bool) → may_follow before thing ≡ may
          → IsParsed parsed may_follow fault before (element ∷ elements)
          (if may then onto thing (parsed_from (before ++ thing ∷ []) elements) else Err (fault (length before)))
      by_follow thing rest is true may = behind before element elements thing is may _ rest
      by_follow thing rest is false may = broken_here before element elements (λ other said.
          let same : thing ≡ other = cc in subst (λ (one : A). may_follow before one ≡ false) same may)

      by_parsed : ((thing : A) → IsParsed parsed may_follow fault (before ++ thing ∷ []) elements (parsed_from (before ++ thing ∷ []) elements))
          → (found : Option A) → parsed element ≡ found → IsParsed parsed may_follow fault before (element ∷ elements) (elim found [
            | None ↦ Err (fault (length before))
            | Some thing ↦
                if may_follow before thing then onto thing (parsed_from (before ++ thing ∷ []) elements)
                else Err (fault (length before))
          ])
      by_parsed rest None is = broken_here before element elements (λ other said. absurd cc)
      by_parsed rest (Some thing) is = by_follow thing (rest thing) is (may_follow before thing) refl

  parsed_follows : (before : List A) (element : E) (elements : List E) (thing : A) → parsed element ≡ Some thing → may_follow before thing ≡ true
      → parsed_from before (element ∷ elements) ≡ onto thing (parsed_from (before ++ thing ∷ []) elements)
  parsed_follows before element elements thing is may = rw (parsed_from, is, may) refl

  -- sound elements are parsed so
  sound_once : (before : List A) (elements : List E) (things : List A) → AreSound parsed may_follow before elements things
      → parsed_from before elements ≡ Ok things
  sound_once before [] [] held = refl
  sound_once before [] (thing ∷ things) held = absurd held
  sound_once before (element ∷ elements) [] held = absurd held
  sound_once before (element ∷ elements) (thing ∷ things) held =
      parsed_follows before element elements thing held.0 held.1
      ∙ ap (onto thing) (sound_once (before ++ thing ∷ []) elements things held.2)

  refused_here : (before : List A) (element : E) (elements : List E) → ((thing : A) → parsed element ≡ Some thing → may_follow before thing ≡ false)
      → parsed_from before (element ∷ elements) ≡ Err (fault (length before))
  refused_here before element elements broken = by_parsed (parsed element) refl
    where
      by_parsed : (found : Option A) → parsed element ≡ found → parsed_from before (element ∷ elements) ≡ Err (fault (length before))
      by_parsed None is = rw (parsed_from, is) refl
      by_parsed (Some thing) is = rw (parsed_from, is, broken thing is) refl

  -- a first fault is found
  fault_once : (before : List A) (elements : List E) (place : ℕ) → IsFirstFault parsed may_follow before elements place
      → parsed_from before elements ≡ Err (fault (length before + place))
  fault_once before [] place held = absurd cc
  fault_once before (element ∷ elements) zero held = here held.sound held.are_sound held.broken held.stands
    where
      here : (sound : List A) → AreSound parsed may_follow before [] sound
          → ((thing : A) → parsed held.element ≡ Some thing → may_follow (before ++ sound) thing ≡ false) → Some element ≡ Some held.element
          → parsed_from before (element ∷ elements) ≡ Err (fault (length before + 0))
      here [] are broken stands =
          refused_here before element elements (λ thing is.
          ap (λ (more : List A). may_follow more thing) (sym (append-nil before)) ∙ broken thing (let same : element ≡ held.element = cc in ap parsed (sym same) ∙ is))
          ∙ ap (λ (place : ℕ). Err (fault place)) (sym (add-zero (length before)))
      here (thing ∷ things) are broken stands = absurd are
  fault_once before (element ∷ elements) (suc place) held = further (λ after. fault_once after elements place) held.sound held.are_sound held.broken
    where
      further : ((after : List A) → IsFirstFault parsed may_follow after elements place → parsed_from after elements ≡ Err (fault (length after + place)))
          → (sound : List A) → AreSound parsed may_follow before (element ∷ take place elements) sound
          → ((thing : A) → parsed held.element ≡ Some thing → may_follow (before ++ sound) thing ≡ false)
          → parsed_from before (element ∷ elements) ≡ Err (fault (length before + suc place))
      further more [] are broken = absurd are
      further more (thing ∷ things) are broken =
          let rest = more (before ++ thing ∷ []) (record {
            sound = things;
            are_sound = are.2;
            element = held.element;
            stands = held.stands;
            broken = λ other said. ap (λ (more : List A). may_follow more other) (append_assoc before (thing ∷ []) things) ∙ broken other said;
          }) in
          let one : length (before ++ thing ∷ []) + place ≡ length before + suc place = omega (arith, length-append before (thing ∷ [])) in
          parsed_follows before element elements thing are.0 are.1
          ∙ ap (onto thing) (rest ∙ ap (λ (place : ℕ). Err (fault place)) one)

  pub parsed_once : (before : List A) (elements : List E) (other : Result (List A) F) → IsParsed parsed may_follow fault before elements other
      → other ≡ parsed_from before elements
  parsed_once before elements (Ok things) held = sym (sound_once before elements things held)
  parsed_once before elements (Err found) held =
      ap Err held.1 ∙ sym (fault_once before elements held.0 held.2)

  abbrev pub one_list : (elements : List E) → TheOnly (IsParsed parsed may_follow fault [] elements)
  one_list elements = (parsed_from [] elements, is_parsed [] elements, λ other held. parsed_once [] elements other held)
