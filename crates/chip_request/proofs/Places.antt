-- The indices of fields by the last bytes of their tags.
use Rattle.std.proofs.Common.{◌≡◌, ◌≢◌, ℕ, zero, suc, ◌<◌, ◌%◌, ◌==◌, Bool, true, false, List, [], ◌∷◌, length, get_or, map, Option, Some, None}
use Rattle.std.proofs.Common.{refl, sym, ap, subst, ◌∙◌, eqb-true, arith}
use Rattle.std.specs.Prelude.{nat_lt}
use Rattle.std.specs.List.{list_all}
use Rattle.std.proofs.lemmas.Bool.{ltb-true, agree_below, agree_below_at}
use Rattle.issuer_base.proofs.Decimal.{list_all-at}
use Rattle.chip_request.specs.declared.slots.TheConstants.{PLACES, TAGS}
use Rattle.chip_request.specs.Fields.{Field, fields}
use Rattle.chip_request.specs.Slots.{place_of}
use Rattle.chip_request.proofs.Walk.{get_or-map, place_in_front, place_behind}

-- a place is this number
is_at : ℕ → Option ℕ → Bool
is_at i None = false
is_at i (Some place) = place == i

is_at-true : (i : ℕ) (place : Option ℕ) → is_at i place ≡ true → Some i ≡ place
unfolding is_at
is_at-true i None is = absurd cc
is_at-true i (Some place) is = ap Some (sym (eqb-true _ _ is))

tags_of_fields : TAGS ≡ map (λ (field : Field). field.tag) fields
tags_of_fields = refl

every_place : (d : ℕ) → agree_below (λ i. is_at i (place_of (get_or TAGS i d) fields)) (λ _. true) 15 ≡ true
unfolding is_at place_of
every_place d = refl

every_entry : (d : ℕ) → agree_below (λ i. get_or PLACES (get_or TAGS i d % 256) 0 == i) (λ _. true) 15 ≡ true
every_entry d = refl

every_small : list_all (λ place. nat_lt place 15) PLACES ≡ true
every_small = refl

pub small_place : (byte : ℕ) → byte < 256 → get_or PLACES byte 0 < 15
small_place byte below = ltb-true _ _ (list_all-at (λ place. nat_lt place 15) PLACES every_small byte below)

-- the field at a place has the tag that is searched
tag_there : (tag : ℕ) (fs : List Field) (i : ℕ) (f : Field) → place_of tag fs ≡ Some i → (get_or fs i f).tag ≡ tag
unfolding place_of
tag_there tag [] i f here = absurd cc
tag_there tag (field ∷ fs) zero f here = eqb-true _ _ (place_in_front _ _ here)
tag_there tag (field ∷ fs) (suc i) f here = tag_there tag fs i f (place_behind _ _ _ here).1

place_below : (tag : ℕ) (fs : List Field) (i : ℕ) → place_of tag fs ≡ Some i → i < length fs
unfolding place_of
place_below tag [] i here = absurd cc
place_below tag (field ∷ fs) zero here = omega arith
place_below tag (field ∷ fs) (suc i) here = let behind = place_below tag fs i (place_behind _ _ _ here).1 in omega arith

tag_here : (tag i : ℕ) (d : ℕ) → place_of tag fields ≡ Some i → get_or TAGS i d ≡ tag
tag_here tag i d here =
    let field : Field = record { tag = d; is_required = false; has_form = λ value. false } in
    ap (λ tags. get_or tags i d) tags_of_fields ∙ get_or-map (λ (field : Field). field.tag) fields i field ∙ tag_there tag fields i field here

-- a field with the tag at its place is the one that is searched
pub place_found : (tag i : ℕ) (d : ℕ) → i < 15 → get_or TAGS i d ≡ tag → Some i ≡ place_of tag fields
place_found tag i d below same =
    is_at-true i (place_of (get_or TAGS i d) fields)
    (agree_below_at (λ i. is_at i (place_of (get_or TAGS i d) fields)) (λ _. true) 15 i (every_place d) below)
    ∙ ap (λ t. place_of t fields) same

-- and where another tag stands there, no field has it
none_there : (tag : ℕ) (d : ℕ) (place : Option ℕ) → place_of tag fields ≡ place
    → get_or TAGS (get_or PLACES (tag % 256) 0) d ≢ tag → None ≡ place
none_there tag d None found differs = refl
none_there tag d (Some i) found differs =
    let here = tag_here tag i d found in
    let below : i < 15 = place_below tag fields i found in
    let entry : get_or PLACES (get_or TAGS i d % 256) 0 ≡ i =
    eqb-true _ _ (agree_below_at (λ i. get_or PLACES (get_or TAGS i d % 256) 0 == i) (λ _. true) 15 i (every_entry d) below) in
    let same : get_or PLACES (tag % 256) 0 ≡ i = ap (λ t. get_or PLACES (t % 256) 0) (sym here) ∙ entry in
    let equal : get_or TAGS (get_or PLACES (tag % 256) 0) d ≡ tag = ap (λ p. get_or TAGS p d) same ∙ here in
    absurd (differs equal)

pub place_not_found : (tag place : ℕ) (d : ℕ) → place ≡ get_or PLACES (tag % 256) 0
    → get_or TAGS place d ≢ tag → None ≡ place_of tag fields
place_not_found tag place d is differs =
    none_there tag d (place_of tag fields) refl (subst (λ p. get_or TAGS p d ≢ tag) is differs)
