-- What the slots hold after all objects, and which refusal comes.
use Rattle.std.proofs.Common.{◌≡◌, ℕ, Bool, true, false, not, cond, List, [], ◌∷◌, map, ◌==◌, Option, Some, None, Result, Ok, Err, is_some, refl, sym, ap, ◌∙◌}
use Rattle.std.proofs.Math.Bool.{and-true, and-false}
use Rattle.std.specs.List.{list_all}
use Rattle.std.proofs.lemmas.Bool.{and_parts}
use Rattle.tlv_objects.specs.Tlv.{TlvObject, Ahead, objects_of, objects_ahead}
use Rattle.chip_request.specs.declared.reading.RequestFault.{RequestFault}
use Rattle.chip_request.specs.declared.reading.RequestFault.TheVariants.{BadTlv, Missing, BadField, Repeated}
use Rattle.chip_request.specs.declared.slots.Wrong.{Wrong}
use Rattle.chip_request.specs.declared.slots.Wrong.TheVariants as wrongs
use Rattle.chip_request.specs.Fields.{Field, fields}
use Rattle.chip_request.specs.Reading.{values_of, is_missing, is_misformed, is_repeated, first_wrong, parts_of, refused, request_of}
use Rattle.chip_request.proofs.Found.{found_of, all_found}
use Rattle.chip_request.specs.Slots.{Found, with_value, with_object, with_objects, unfound, is_wrong, is_right, first_wrong_found, named, fault_among}

-- what was found of a field after more values
after : Found → List (List ℕ) → Found
after found [] = found
after found (value ∷ values) = after (with_value found value) values

after_two : (field : Field) (first : List ℕ) (values : List (List ℕ))
    → after (record { field = field; first = Some first; is_repeated = true }) values ≡ record { field = field; first = Some first; is_repeated = true }
unfolding after
after_two field first [] = refl
after_two field first (value ∷ values) = after_two field first values

-- after all values it is what the field's values say
after_unfound : (field : Field) (values : List (List ℕ)) → after (unfound field) values ≡ found_of field values
unfolding after
after_unfound field [] = refl
after_unfound field (value ∷ []) = refl
after_unfound field (value ∷ another ∷ values) = after_two field value values

same_field : (found : Found) (value : List ℕ) → (with_value found value).field ≡ found.field
same_field found value = same_either (is_some found.first)
  where
    same_either : (is : Bool) → (cond is (record found { is_repeated = true }) (record found { first = Some value })).field ≡ found.field
    same_either true = refl
    same_either false = refl

tag_of-with_object : (object : TlvObject) (found : Found) → (with_object object found).field.tag ≡ found.field.tag
tag_of-with_object object found = with_either (found.field.tag == object.tag) found object.value
  where
    with_either : (is : Bool) (found : Found) (value : List ℕ) → (cond is (with_value found value) found).field.tag ≡ found.field.tag
    with_either true found value = ap (λ (field : Field). field.tag) (same_field found value)
    with_either false found value = refl

-- one slot takes the values of its field
after_either : (is : Bool) (found : Found) (value : List ℕ) (values : List (List ℕ))
    → after (cond is (with_value found value) found) values ≡ after found (cond is (value ∷ values) values)
unfolding after
after_either true found value values = refl
after_either false found value values = refl

after_object : (found : Found) (object : TlvObject) (objects : List TlvObject)
    → after (with_object object found) (values_of (with_object object found).field.tag objects) ≡ after found (values_of found.field.tag (object ∷ objects))
unfolding values_of
after_object found object objects =
    ap (λ (tag : ℕ). after (with_object object found) (values_of tag objects)) (tag_of-with_object object found)
    ∙ after_either (found.field.tag == object.tag) found object.value (values_of found.field.tag objects)

-- what was found, after more objects
after_all : List TlvObject → Found → Found
after_all objects found = after found (values_of found.field.tag objects)

after_none : (found : Found) → after_all [] found ≡ found
unfolding after_all after values_of
after_none found = refl

after_one_more : (object : TlvObject) (objects : List TlvObject) (found : Found)
    → after_all objects (with_object object found) ≡ after_all (object ∷ objects) found
unfolding after_all
after_one_more object objects found = after_object found object objects

map_same : {A B : Type 0} (f g : A → B) → ((x : A) → f x ≡ g x) → (xs : List A) → map f xs ≡ map g xs
map_same f g same [] = refl
map_same f g same (x ∷ xs) = rw (same x, map_same f g same xs) refl

map_nothing : {A : Type 0} (f : A → A) → ((x : A) → f x ≡ x) → (xs : List A) → map f xs ≡ xs
map_nothing f same [] = refl
map_nothing f same (x ∷ xs) = rw (same x, map_nothing f same xs) refl

map_twice : {A B C : Type 0} (f : A → B) (g : B → C) (xs : List A) → map g (map f xs) ≡ map (λ x. g (f x)) xs
map_twice f g [] = refl
map_twice f g (x ∷ xs) = ap (λ ys. g (f x) ∷ ys) (map_twice f g xs)

-- all slots take the values of their fields
after_objects : (objects : List TlvObject) (founds : List Found) → with_objects founds objects ≡ map (after_all objects) founds
after_objects [] founds = sym (map_nothing (after_all []) after_none founds)
after_objects (object ∷ objects) founds =
    after_objects objects (map (with_object object) founds) ∙ map_twice (with_object object) (after_all objects) founds
    ∙ map_same (λ found. after_all objects (with_object object found)) (after_all (object ∷ objects)) (after_one_more object objects) founds

after_all_unfound : (objects : List TlvObject) (field : Field) → after_all objects (unfound field) ≡ found_of field (values_of field.tag objects)
unfolding after_all
after_all_unfound objects field = after_unfound field (values_of field.tag objects)

after_all_fields : (objects : List TlvObject) (fs : List Field)
    → with_objects (map unfound fs) objects ≡ map (λ field. found_of field (values_of field.tag objects)) fs
after_all_fields objects fs =
    after_objects objects (map unfound fs) ∙ map_twice unfound (after_all objects) fs
    ∙ map_same (λ field. after_all objects (unfound field)) (λ field. found_of field (values_of field.tag objects)) (after_all_unfound objects) fs

-- after all objects the slots hold what all values of the fields say
pub with_objects-unfound : (objects : List TlvObject) → with_objects (map unfound fields) objects ≡ all_found objects
with_objects-unfound objects = after_all_fields objects fields

missing_same : (field : Field) (values : List (List ℕ)) → is_wrong wrongs.Missing (found_of field values) ≡ is_missing field values
missing_same field [] = and-true field.is_required
missing_same field (value ∷ values) = and-false field.is_required

misformed_same : (field : Field) (values : List (List ℕ)) → is_wrong wrongs.Misformed (found_of field values) ≡ is_misformed field values
misformed_same field [] = refl
misformed_same field (value ∷ values) = refl

first_wrong_same : (wrong : Wrong) (test : Field → List (List ℕ) → Bool)
    → ((field : Field) (values : List (List ℕ)) → is_wrong wrong (found_of field values) ≡ test field values)
    → (objects : List TlvObject) (fs : List Field)
    → first_wrong_found wrong (map (λ field. found_of field (values_of field.tag objects)) fs) ≡ first_wrong test objects fs
unfolding first_wrong_found first_wrong
first_wrong_same wrong test same objects [] = refl
first_wrong_same wrong test same objects (field ∷ fs) = rw (same field (values_of field.tag objects), first_wrong_same wrong test same objects fs) refl

-- what is wrong with the slots is what is wrong with the objects
pub first_wrong-missing : (objects : List TlvObject) → first_wrong_found wrongs.Missing (all_found objects) ≡ first_wrong is_missing objects fields
first_wrong-missing objects = first_wrong_same wrongs.Missing is_missing missing_same objects fields

pub first_wrong-misformed : (objects : List TlvObject) → first_wrong_found wrongs.Misformed (all_found objects) ≡ first_wrong is_misformed objects fields
first_wrong-misformed objects = first_wrong_same wrongs.Misformed is_misformed misformed_same objects fields

pub first_wrong-repeated : (objects : List TlvObject) → first_wrong_found wrongs.Repeated (all_found objects) ≡ first_wrong is_repeated objects fields
first_wrong-repeated objects = first_wrong_same wrongs.Repeated is_repeated (λ field values. refl) objects fields

-- the refusals, in their order
pub refuses_torn : (bytes : List ℕ) (place : ℕ) → (objects_of bytes).torn ≡ Some place → request_of bytes ≡ Err (BadTlv place)
unfolding request_of
refuses_torn bytes place torn = rw torn refl

pub refuses_missing : (bytes : List ℕ) (tag : ℕ) → (objects_of bytes).torn ≡ None
    → first_wrong is_missing (objects_of bytes).objects fields ≡ Some tag → request_of bytes ≡ Err (Missing tag)
unfolding request_of
refuses_missing bytes tag whole missing = rw (whole, missing) refl

pub refuses_misformed : (bytes : List ℕ) (tag : ℕ) → (objects_of bytes).torn ≡ None
    → first_wrong is_missing (objects_of bytes).objects fields ≡ None
    → first_wrong is_misformed (objects_of bytes).objects fields ≡ Some tag → request_of bytes ≡ Err (BadField tag)
unfolding request_of
refuses_misformed bytes tag whole present misformed = rw (whole, present, misformed) refl

pub refuses_repeated : (bytes : List ℕ) (tag : ℕ) → (objects_of bytes).torn ≡ None
    → first_wrong is_missing (objects_of bytes).objects fields ≡ None → first_wrong is_misformed (objects_of bytes).objects fields ≡ None
    → first_wrong is_repeated (objects_of bytes).objects fields ≡ Some tag → request_of bytes ≡ Err (Repeated tag)
unfolding request_of
refuses_repeated bytes tag whole present formed repeated = rw (whole, present, formed, repeated) refl

pub takes_request : (bytes : List ℕ) → (objects_of bytes).torn ≡ None → first_wrong is_missing (objects_of bytes).objects fields ≡ None
    → first_wrong is_misformed (objects_of bytes).objects fields ≡ None → first_wrong is_repeated (objects_of bytes).objects fields ≡ None
    → request_of bytes ≡ Ok (parts_of (objects_of bytes).objects)
unfolding request_of
takes_request bytes whole present formed once = rw (whole, present, formed, once) refl

-- a walk over a whole text leaves in the slots what all its objects say
pub walked : (bytes : List ℕ) (ahead : Ahead) (first last : List Found) → ahead ≡ record { bytes = bytes; at = 0 }
    → first ≡ map unfound fields → ((objects_ahead ahead).torn ≡ None) × (last ≡ with_objects first (objects_ahead ahead).objects)
    → ((objects_of bytes).torn ≡ None) × (last ≡ all_found (objects_of bytes).objects)
walked bytes ahead first last begins empty ends = (
  ap (λ (ahead : Ahead). (objects_ahead ahead).torn) (sym begins) ∙ ends.0,
  ends.1 ∙ ap (λ (founds : List Found). with_objects founds (objects_ahead ahead).objects) empty
      ∙ ap (λ (ahead : Ahead). with_objects (map unfound fields) (objects_ahead ahead).objects) begins ∙ with_objects-unfound (objects_of bytes).objects,
)

-- what a look at the slots gives is what is wrong with the objects
pub looked_missing : (objects : List TlvObject) (founds : List Found) (tag : Option ℕ) → founds ≡ all_found objects
    → tag ≡ first_wrong_found wrongs.Missing founds → first_wrong is_missing objects fields ≡ tag
looked_missing objects founds tag found looked =
    sym (looked ∙ ap (first_wrong_found wrongs.Missing) found ∙ first_wrong-missing objects)

pub looked_misformed : (objects : List TlvObject) (founds : List Found) (tag : Option ℕ) → founds ≡ all_found objects
    → tag ≡ first_wrong_found wrongs.Misformed founds → first_wrong is_misformed objects fields ≡ tag
looked_misformed objects founds tag found looked =
    sym (looked ∙ ap (first_wrong_found wrongs.Misformed) found ∙ first_wrong-misformed objects)

pub looked_repeated : (objects : List TlvObject) (founds : List Found) (tag : Option ℕ) → founds ≡ all_found objects
    → tag ≡ first_wrong_found wrongs.Repeated founds → first_wrong is_repeated objects fields ≡ tag
looked_repeated objects founds tag found looked =
    sym (looked ∙ ap (first_wrong_found wrongs.Repeated) found ∙ first_wrong-repeated objects)

-- what was made is what is to be answered
pub answered : {A E : Type 0} (made said : A) (answer : Result A E) → Some made ≡ Some said → answer ≡ Ok said → Ok made ≡ answer
answered made said answer same taken = let one : made ≡ said = cc in ap Ok one ∙ sym taken

-- ---- all that is wrong at once

not_true : (b : Bool) → not b ≡ true → b ≡ false
not_true true h = absurd cc
not_true false h = refl

right_parts : (wrong : Wrong) (found : Found) → is_right found ≡ true → is_wrong wrong found ≡ false
right_parts wrongs.Missing found right = not_true _ (and_parts _ _ (and_parts _ _ right).0).1
right_parts wrongs.Misformed found right = not_true _ (and_parts _ _ right).1
right_parts wrongs.Repeated found right = not_true _ (and_parts _ _ (and_parts _ _ right).0).0

-- where nothing is wrong with any field, no look for something wrong finds one
none_wrong : (wrong : Wrong) (founds : List Found) → list_all is_right founds ≡ true → first_wrong_found wrong founds ≡ None
unfolding first_wrong_found
none_wrong wrong [] right = refl
none_wrong wrong (found ∷ founds) right =
    let parts = and_parts _ _ right in
    rw (right_parts wrong found parts.0) (none_wrong wrong founds parts.1)

pub none_among : (founds : List Found) → list_all is_right founds ≡ true → fault_among founds ≡ None
unfolding fault_among
none_among founds right =
    rw (none_wrong wrongs.Missing founds right, none_wrong wrongs.Misformed founds right, none_wrong wrongs.Repeated founds right) refl

none_chosen : (is : Bool) (tag : ℕ) (others : Option ℕ) → cond is (Some tag) others ≡ None → (is ≡ false) × (others ≡ None)
none_chosen true tag others none = absurd cc
none_chosen false tag others none = (refl, none)

-- and where none finds one, nothing is wrong with any field
right_where_none : (founds : List Found) → first_wrong_found wrongs.Missing founds ≡ None → first_wrong_found wrongs.Misformed founds ≡ None
    → first_wrong_found wrongs.Repeated founds ≡ None → list_all is_right founds ≡ true
unfolding first_wrong_found
right_where_none [] missing misformed repeated = refl
right_where_none (found ∷ founds) missing misformed repeated =
    let present = none_chosen (is_wrong wrongs.Missing found) _ _ missing in
    let formed = none_chosen (is_wrong wrongs.Misformed found) _ _ misformed in
    let once = none_chosen (is_wrong wrongs.Repeated found) _ _ repeated in
    rw (once.0, present.0, formed.0) (right_where_none founds present.1 formed.1 once.1)

-- what is answered where this is wrong, or nothing
with_fault : {A : Type 0} → Option RequestFault → Result A RequestFault → Result A RequestFault
with_fault (Some fault) next = Err fault
with_fault None next = next

refused_named : {A : Type 0} (tag : Option ℕ) (fault : ℕ → RequestFault) (rest : Option RequestFault) (next : Result A RequestFault)
    → refused tag fault (with_fault rest next) ≡ with_fault (named tag fault rest) next
unfolding with_fault
refused_named (Some tag) fault rest next = refl
refused_named None fault rest next = refl

-- the request of a whole text is refused for what is wrong with what was found
request_among : (bytes : List ℕ) (founds : List Found) → (objects_of bytes).torn ≡ None → founds ≡ all_found (objects_of bytes).objects
    → request_of bytes ≡ with_fault (fault_among founds) (Ok (parts_of (objects_of bytes).objects))
unfolding request_of fault_among with_fault
request_among bytes founds whole found =
    let objects = (objects_of bytes).objects in
    let missing = looked_missing objects founds _ found refl in
    let misformed = looked_misformed objects founds _ found refl in
    let repeated = looked_repeated objects founds _ found refl in
    let answer = Ok (parts_of objects) in
    rw (whole, missing, misformed, repeated)
    (ap (λ next. refused (first_wrong_found wrongs.Missing founds) Missing (refused (first_wrong_found wrongs.Misformed founds) BadField next))
    (refused_named (first_wrong_found wrongs.Repeated founds) Repeated None answer)
    ∙ ap (λ next. refused (first_wrong_found wrongs.Missing founds) Missing next) (refused_named (first_wrong_found wrongs.Misformed founds) BadField _ answer)
    ∙ refused_named (first_wrong_found wrongs.Missing founds) Missing _ answer)

pub refuses_fault : (bytes : List ℕ) (founds : List Found) (fault : RequestFault) → (objects_of bytes).torn ≡ None
    → founds ≡ all_found (objects_of bytes).objects → Some fault ≡ fault_among founds → request_of bytes ≡ Err fault
unfolding with_fault
refuses_fault bytes founds fault whole found named =
    request_among bytes founds whole found ∙ ap (λ among. with_fault among (Ok (parts_of (objects_of bytes).objects))) (sym named)

pub takes_without_fault : (bytes : List ℕ) (founds : List Found) → (objects_of bytes).torn ≡ None
    → founds ≡ all_found (objects_of bytes).objects → None ≡ fault_among founds → request_of bytes ≡ Ok (parts_of (objects_of bytes).objects)
unfolding with_fault
takes_without_fault bytes founds whole found none =
    request_among bytes founds whole found ∙ ap (λ among. with_fault among (Ok (parts_of (objects_of bytes).objects))) (sym none)

-- where nothing is named, nothing is missing, misformed or repeated
none_named : (tag : Option ℕ) (fault : ℕ → RequestFault) (rest : Option RequestFault) → named tag fault rest ≡ None → (tag ≡ None) × (rest ≡ None)
none_named (Some tag) fault rest none = absurd cc
none_named None fault rest none = (refl, none)

pub right_objects : (objects : List TlvObject) (founds : List Found) → founds ≡ all_found objects → None ≡ fault_among founds
    → (first_wrong is_missing objects fields ≡ None) × (first_wrong is_misformed objects fields ≡ None)
unfolding fault_among
right_objects objects founds found none =
    let first = none_named (first_wrong_found wrongs.Missing founds) Missing _ (sym none) in
    let second = none_named (first_wrong_found wrongs.Misformed founds) BadField _ first.1 in
    (looked_missing objects founds _ found refl ∙ first.0, looked_misformed objects founds _ found refl ∙ second.0)

pub all_right : (founds : List Found) → fault_among founds ≡ None → list_all is_right founds ≡ true
unfolding fault_among
all_right founds none =
    let first = none_named (first_wrong_found wrongs.Missing founds) Missing _ none in
    let second = none_named (first_wrong_found wrongs.Misformed founds) BadField _ first.1 in
    let third = none_named (first_wrong_found wrongs.Repeated founds) Repeated _ second.1 in
    right_where_none founds first.0 second.0 third.0
