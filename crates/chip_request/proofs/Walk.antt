-- What a pass over the objects leaves in the slots.
use Rattle.std.proofs.Common.{◌≡◌, ℕ, zero, suc, ◌+◌, ◌<◌, ◌≤◌, ◌==◌, Bool, true, false, ◌&&◌, List, [], ◌∷◌, map, length, get_or, set, drop}
use Rattle.std.proofs.Common.{Option, Some, None, is_none, cond, Bor, drop-cons, drop_of_length-le, refl, sym, ap, ◌∙◌, add-one, arith}
use Rattle.std.specs.Option.{option_map}
use Rattle.std.proofs.lemmas.Bool.{and_parts, eqb-true}
use Rattle.std.proofs.lemmas.List.{map-set, length-map}
use Rattle.chip_request.specs.declared.slots.Field as declared_field
use Rattle.chip_request.specs.SlotViews.{field_in}
use Rattle.tlv_objects.specs.Tlv.{TlvObject}
use Rattle.chip_request.specs.declared.slots.Wrong.{Wrong}
use Rattle.chip_request.specs.Fields.{Field, fields}
use Rattle.chip_request.specs.Slots.{Found, place_of, founds_of, with_object, first_with_tag, first_wrong_found, is_wrong}

-- no two fields of a table have one tag
unfoldable pub are_distinct : List Field → Bool
are_distinct [] = true
are_distinct (field ∷ others) = is_none (place_of field.tag others) && are_distinct others

pub fields_distinct : are_distinct fields ≡ true
unfolding are_distinct place_of
fields_distinct = refl

none_at : (place : Option ℕ) → is_none place ≡ true → place ≡ None
none_at None h = refl
none_at (Some place) h = absurd cc

none_chosen : (b : Bool) (place : Option ℕ) → cond b (Some 0) (option_map (λ place. place + 1) place) ≡ None → (b ≡ false) × (place ≡ None)
none_chosen true place h = absurd cc
none_chosen false None h = (refl, refl)
none_chosen false (Some place) h = absurd cc

pub place_in_front : (b : Bool) (place : Option ℕ) → cond b (Some 0) (option_map (λ place. place + 1) place) ≡ Some 0 → b ≡ true
place_in_front true place h = refl
place_in_front false None h = absurd cc
place_in_front false (Some place) h = let none : place + 1 ≡ 0 = cc in absurd (omega arith)

pub place_behind : (b : Bool) (place : Option ℕ) (i : ℕ) → cond b (Some 0) (option_map (λ place. place + 1) place) ≡ Some (suc i)
    → (b ≡ false) × (place ≡ Some i)
place_behind true place i h = absurd cc
place_behind false None i h = absurd cc
place_behind false (Some place) i h = let next : place + 1 ≡ suc i = cc in let same : place ≡ i = omega arith in (refl, ap Some same)

-- an object of no field of a table changes nothing
pub passed_over : (object : TlvObject) (fs : List Field) (firsts : List (Option (List ℕ))) (are : List Bool)
    → place_of object.tag fs ≡ None → map (with_object object) (founds_of fs firsts are) ≡ founds_of fs firsts are
unfolding place_of founds_of
passed_over object [] firsts are none = refl
passed_over object (field ∷ fs) [] are none = refl
passed_over object (field ∷ fs) (first ∷ firsts) [] none = refl
passed_over object (field ∷ fs) (first ∷ firsts) (is ∷ are) none =
    let both : (field.tag == object.tag ≡ false) × (place_of object.tag fs ≡ None) = none_chosen _ _ none in
    rw (both.0, passed_over object fs firsts are both.1) refl

-- at the place of its field an object's tag is the field's, and no field behind has it
only_here : (tag : ℕ) (field : Field) (fs : List Field) → are_distinct (field ∷ fs) ≡ true → place_of tag (field ∷ fs) ≡ Some 0
    → (field.tag == tag ≡ true) × (place_of tag fs ≡ None)
unfolding place_of are_distinct
only_here tag field fs distinct here =
    let parts : (is_none (place_of field.tag fs) ≡ true) × (are_distinct fs ≡ true) = and_parts _ _ distinct in
    let same : field.tag == tag ≡ true = place_in_front _ _ here in
    let equal : field.tag ≡ tag = eqb-true _ _ same in
    (same, ap (λ t. place_of t fs) (sym equal) ∙ none_at _ parts.0)

-- at a place after it isn't
only_behind : (tag i : ℕ) (field : Field) (fs : List Field) → are_distinct (field ∷ fs) ≡ true → place_of tag (field ∷ fs) ≡ Some (suc i)
    → (field.tag == tag ≡ false) × (place_of tag fs ≡ Some i) × (are_distinct fs ≡ true)
unfolding place_of are_distinct
only_behind tag i field fs distinct here =
    let parts : (is_none (place_of field.tag fs) ≡ true) × (are_distinct fs ≡ true) = and_parts _ _ distinct in
    let both : (field.tag == tag ≡ false) × (place_of tag fs ≡ Some i) = place_behind _ _ _ here in
    (both.0, both.1, parts.1)

no_place : (tag i : ℕ) → place_of tag [] ≡ Some i → ⊥
unfolding place_of
no_place tag i here = absurd cc

-- a first value is noted at the place of its field
pub noted_first : (object : TlvObject) (fs : List Field) (firsts : List (Option (List ℕ))) (are : List Bool) (i : ℕ)
    → are_distinct fs ≡ true → place_of object.tag fs ≡ Some i → get_or firsts i None ≡ None
    → founds_of fs (set firsts i (Some object.value)) are ≡ map (with_object object) (founds_of fs firsts are)
unfolding founds_of
noted_first object [] firsts are i distinct here unset = absurd (no_place object.tag i here)
noted_first object (field ∷ fs) [] are i distinct here unset = refl
noted_first object (field ∷ fs) (first ∷ firsts) [] zero distinct here unset = refl
noted_first object (field ∷ fs) (first ∷ firsts) [] (suc i) distinct here unset = refl
noted_first object (field ∷ fs) (first ∷ firsts) (is ∷ are) zero distinct here unset =
    let only = only_here object.tag field fs distinct here in
    let none : first ≡ None = unset in
    rw (only.0, none, passed_over object fs firsts are only.1) refl
noted_first object (field ∷ fs) (first ∷ firsts) (is ∷ are) (suc i) distinct here unset =
    let only = only_behind object.tag i field fs distinct here in
    rw (only.0, noted_first object fs firsts are i only.2 only.1 unset) refl

-- and another value as a repetition
pub noted_again : (object : TlvObject) (fs : List Field) (firsts : List (Option (List ℕ))) (are : List Bool) (i : ℕ) (first : List ℕ)
    → are_distinct fs ≡ true → place_of object.tag fs ≡ Some i → get_or firsts i None ≡ Some first
    → founds_of fs firsts (set are i true) ≡ map (with_object object) (founds_of fs firsts are)
unfolding founds_of
noted_again object [] firsts are i first distinct here found = absurd (no_place object.tag i here)
noted_again object (field ∷ fs) [] are i first distinct here found = absurd cc
noted_again object (field ∷ fs) (one ∷ firsts) [] i first distinct here found = refl
noted_again object (field ∷ fs) (one ∷ firsts) (is ∷ are) zero first distinct here found =
    let only = only_here object.tag field fs distinct here in
    let some : one ≡ Some first = found in
    rw (only.0, some, passed_over object fs firsts are only.1) refl
noted_again object (field ∷ fs) (one ∷ firsts) (is ∷ are) (suc i) first distinct here found =
    let only = only_behind object.tag i field fs distinct here in
    rw (only.0, noted_again object fs firsts are i first only.2 only.1 found) refl

-- the first value of a field stands at its place
pub first_at : (tag : ℕ) (fs : List Field) (firsts : List (Option (List ℕ))) (are : List Bool) (i : ℕ)
    → length firsts ≡ length fs → length are ≡ length fs → place_of tag fs ≡ Some i
    → get_or firsts i None ≡ first_with_tag tag (founds_of fs firsts are)
unfolding founds_of first_with_tag place_of
first_at tag [] firsts are i long many here = absurd cc
first_at tag (field ∷ fs) [] are i long many here = absurd cc
first_at tag (field ∷ fs) (first ∷ firsts) [] i long many here = absurd cc
first_at tag (field ∷ fs) (first ∷ firsts) (is ∷ are) zero long many here =
    let same : field.tag == tag ≡ true = place_in_front _ _ here in
    rw same refl
first_at tag (field ∷ fs) (first ∷ firsts) (is ∷ are) (suc i) long many here =
    let both : (field.tag == tag ≡ false) × (place_of tag fs ≡ Some i) = place_behind _ _ _ here in
    rw (both.0) (first_at tag fs firsts are i (omega arith) (omega arith) both.1)

-- and a tag of no field has none
pub first_nowhere : (tag : ℕ) (fs : List Field) (firsts : List (Option (List ℕ))) (are : List Bool) → place_of tag fs ≡ None
    → first_with_tag tag (founds_of fs firsts are) ≡ None
unfolding founds_of first_with_tag place_of
first_nowhere tag [] firsts are none = refl
first_nowhere tag (field ∷ fs) [] are none = refl
first_nowhere tag (field ∷ fs) (first ∷ firsts) [] none = refl
first_nowhere tag (field ∷ fs) (first ∷ firsts) (is ∷ are) none =
    let both : (field.tag == tag ≡ false) × (place_of tag fs ≡ None) = none_chosen _ _ none in
    rw (both.0) (first_nowhere tag fs firsts are both.1)

-- a list that is seen through v
pub get_or-map : {A B : Type 0} (v : A → B) (xs : List A) (i : ℕ) (d : A) → get_or (map v xs) i (v d) ≡ v (get_or xs i d)
get_or-map v [] i d = refl
get_or-map v (x ∷ xs) zero d = refl
get_or-map v (x ∷ xs) (suc i) d = get_or-map v xs i d

-- what was found of the field at a place
founds_at : (fs : List Field) (firsts : List (Option (List ℕ))) (are : List Bool) (i : ℕ) (d : Found) (field : Field) (is : Bool) → i < length fs
    → length firsts ≡ length fs → length are ≡ length fs
    → get_or (founds_of fs firsts are) i d ≡ record { field = get_or fs i field; first = get_or firsts i None; is_repeated = get_or are i is }
unfolding founds_of
founds_at [] firsts are i d f b below long many = absurd (omega arith)
founds_at (field ∷ fs) [] are i d f b below long many = absurd cc
founds_at (field ∷ fs) (first ∷ firsts) [] i d f b below long many = absurd cc
founds_at (field ∷ fs) (first ∷ firsts) (is ∷ are) zero d f b below long many = refl
founds_at (field ∷ fs) (first ∷ firsts) (is ∷ are) (suc i) d f b below long many =
    founds_at fs firsts are i d f b (omega arith) (omega arith) (omega arith)

length-founds : (fs : List Field) (firsts : List (Option (List ℕ))) (are : List Bool) → length firsts ≡ length fs → length are ≡ length fs
    → length (founds_of fs firsts are) ≡ length fs
unfolding founds_of
length-founds [] firsts are long many = refl
length-founds (field ∷ fs) [] are long many = absurd cc
length-founds (field ∷ fs) (first ∷ firsts) [] long many = absurd cc
length-founds (field ∷ fs) (first ∷ firsts) (is ∷ are) long many = ap (λ n. suc n) (length-founds fs firsts are (omega arith) (omega arith))

-- a look for what is wrong goes on behind a field with which it isn't
wrong_behind : (wrong : Wrong) (founds : List Found) (i : ℕ) (d : Found) → i < length founds
    → is_wrong wrong (get_or founds i d) ≡ false → first_wrong_found wrong (drop (i + 1) founds) ≡ first_wrong_found wrong (drop i founds)
unfolding first_wrong_found
wrong_behind wrong founds i d below right = rw (drop-cons founds i d, add-one, right) refl

-- and ends at one with which it is
wrong_here : (wrong : Wrong) (founds : List Found) (i : ℕ) (d : Found) → i < length founds
    → is_wrong wrong (get_or founds i d) ≡ true → Some (get_or founds i d).field.tag ≡ first_wrong_found wrong (drop i founds)
unfolding first_wrong_found
wrong_here wrong founds i d below here = rw (drop-cons founds i d, here) refl

-- or behind the last
wrong_end : (wrong : Wrong) (founds : List Found) (i : ℕ) → length founds ≤ i → first_wrong_found wrong (drop i founds) ≡ None
unfolding first_wrong_found
wrong_end wrong founds i past = rw (drop_of_length-le founds past) refl

-- a value in the text that may be absent
abbrev pub value_in : Option (Bor (List ℕ)) → Option (List ℕ)
value_in = option_map (λ value. value.now)

-- the slots take the first object of a field
pub takes_first : (object : TlvObject) (firsts : List (Option (Bor (List ℕ)))) (are : List Bool) (i : ℕ) (value : Bor (List ℕ))
    → value.now ≡ object.value → place_of object.tag fields ≡ Some i → get_or firsts i None ≡ None
    → founds_of fields (map value_in (set firsts i (Some value))) are ≡ map (with_object object) (founds_of fields (map value_in firsts) are)
takes_first object firsts are i value is_value here unset =
    let seen : get_or (map value_in firsts) i None ≡ None = get_or-map value_in firsts i None ∙ ap value_in unset in
    ap (λ xs. founds_of fields xs are) (map-set value_in firsts i (Some value) ∙ ap (λ v. set (map value_in firsts) i (Some v)) is_value)
    ∙ noted_first object fields (map value_in firsts) are i fields_distinct here seen

-- and another one
pub takes_another : (object : TlvObject) (firsts : List (Option (Bor (List ℕ)))) (are : List Bool) (i : ℕ) (first : Bor (List ℕ))
    → place_of object.tag fields ≡ Some i → get_or firsts i None ≡ Some first
    → founds_of fields (map value_in firsts) (set are i true) ≡ map (with_object object) (founds_of fields (map value_in firsts) are)
takes_another object firsts are i first here found =
    let seen : get_or (map value_in firsts) i None ≡ Some first.now = get_or-map value_in firsts i None ∙ ap value_in found in
    noted_again object fields (map value_in firsts) are i first.now fields_distinct here seen

-- the slots hold the first value of a field at its place
pub holds_first : (tag : ℕ) (firsts : List (Option (Bor (List ℕ)))) (are : List Bool) (i : ℕ) → length firsts ≡ 15 → length are ≡ 15
    → place_of tag fields ≡ Some i → value_in (get_or firsts i None) ≡ first_with_tag tag (founds_of fields (map value_in firsts) are)
holds_first tag firsts are i long many here =
    sym (get_or-map value_in firsts i None) ∙ first_at tag fields (map value_in firsts) are i (length-map firsts value_in ∙ long) many here

-- what the slots hold of the field at a place
slots_at : (table : List declared_field.Field) (firsts : List (Option (Bor (List ℕ)))) (are : List Bool) (i : ℕ) (d : declared_field.Field)
    (f : Found) (is : Bool)
    → i < 15 → length firsts ≡ 15 → length are ≡ 15 → map field_in table ≡ fields
    → get_or (founds_of fields (map value_in firsts) are) i f
    ≡ record { field = field_in (get_or table i d); first = value_in (get_or firsts i None); is_repeated = get_or are i is }
slots_at table firsts are i d f is below long many same =
    let field : get_or fields i (field_in d) ≡ field_in (get_or table i d) = ap (λ fs. get_or fs i (field_in d)) (sym same) ∙ get_or-map field_in table i d in
    let first : get_or (map value_in firsts) i None ≡ value_in (get_or firsts i None) = get_or-map value_in firsts i None in
    founds_at fields (map value_in firsts) are i f (field_in d) is below (length-map firsts value_in ∙ long) many
    ∙ ap (λ fd. record { field = fd; first = get_or (map value_in firsts) i None; is_repeated = get_or are i is }) field
    ∙ ap (λ fst. record { field = field_in (get_or table i d); first = fst; is_repeated = get_or are i is }) first

no_found : Found
no_found = record { field = record { tag = 0; is_required = false; has_form = λ value. false }; first = None; is_repeated = false }

many_slots : (firsts : List (Option (Bor (List ℕ)))) (are : List Bool) → length firsts ≡ 15 → length are ≡ 15
    → length (founds_of fields (map value_in firsts) are) ≡ 15
many_slots firsts are long many = length-founds fields (map value_in firsts) are (length-map firsts value_in ∙ long) many

-- a look over the slots goes on behind a field with which this isn't wrong
pub look_behind : (wrong : Wrong) (table : List declared_field.Field) (firsts : List (Option (Bor (List ℕ)))) (are : List Bool) (i : ℕ)
    (d : declared_field.Field) (is : Bool) → i < 15 → length firsts ≡ 15 → length are ≡ 15 → map field_in table ≡ fields
    → is_wrong wrong (record { field = field_in (get_or table i d); first = value_in (get_or firsts i None); is_repeated = get_or are i is }) ≡ false
    → first_wrong_found wrong (drop (i + 1) (founds_of fields (map value_in firsts) are))
    ≡ first_wrong_found wrong (drop i (founds_of fields (map value_in firsts) are))
look_behind wrong table firsts are i d is below long many same right =
    let here = slots_at table firsts are i d no_found is below long many same in
    let size = many_slots firsts are long many in
    wrong_behind wrong (founds_of fields (map value_in firsts) are) i no_found (omega (arith, size)) (ap (is_wrong wrong) here ∙ right)

-- and ends at one with which it is
pub look_here : (wrong : Wrong) (table : List declared_field.Field) (firsts : List (Option (Bor (List ℕ)))) (are : List Bool) (i : ℕ)
    (d : declared_field.Field) (is : Bool) → i < 15 → length firsts ≡ 15 → length are ≡ 15 → map field_in table ≡ fields
    → is_wrong wrong (record { field = field_in (get_or table i d); first = value_in (get_or firsts i None); is_repeated = get_or are i is }) ≡ true
    → Some (get_or table i d).tag ≡ first_wrong_found wrong (drop i (founds_of fields (map value_in firsts) are))
look_here wrong table firsts are i d is below long many same bad =
    let here = slots_at table firsts are i d no_found is below long many same in
    let size = many_slots firsts are long many in
    ap (λ (found : Found). Some found.field.tag) (sym here)
    ∙ wrong_here wrong (founds_of fields (map value_in firsts) are) i no_found (omega (arith, size)) (ap (is_wrong wrong) here ∙ bad)

-- or behind the last
pub look_end : (wrong : Wrong) (firsts : List (Option (Bor (List ℕ)))) (are : List Bool) (i : ℕ) → 15 ≤ i → length firsts ≡ 15 → length are ≡ 15
    → first_wrong_found wrong (drop i (founds_of fields (map value_in firsts) are)) ≡ None
look_end wrong firsts are i past long many =
    let size = many_slots firsts are long many in
    wrong_end wrong (founds_of fields (map value_in firsts) are) i (omega (arith, size))
