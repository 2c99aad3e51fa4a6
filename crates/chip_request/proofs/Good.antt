-- Objects without a fault make a request.
use Rattle.std.proofs.Common.{◌≡◌, ℕ, ◌==◌, Bool, true, false, not, cond, List, [], ◌∷◌, length, replicate, Option, Some, None, option_and_then, is_some, refl}
use Rattle.std.proofs.Common.{Ok, if◌then◌else◌, sym, ap, ◌∙◌, slice_index}
use Rattle.std.proofs.lemmas.Bool.{and_parts}
use Rattle.std.specs.List.{list_all}
use Rattle.tlv_objects.specs.Tlv.{TlvObject, objects_of}
use Rattle.issuer_base.specs.ChipData.{is_bcd, has_profile, is_request, request_from}
use Rattle.issuer_base.proofs.ChipDataLemmas.{request_from-valid}
use Rattle.chip_request.specs.Fields.{Field, fields, has_bytes, has_decimal_bytes, has_account_number, has_application_data, leading_digits, required}
use Rattle.chip_request.specs.Fields.{optional}
use Rattle.chip_request.specs.Forms.{account_number_in}
use Rattle.chip_request.specs.Reading.{values_of, is_missing, is_misformed, first_wrong, first_or, parts_of, request_of}
use Rattle.chip_request.proofs.Found.{first_of, all_found}
use Rattle.issuer_base.specs.declared.request.Parts.{Parts}
use Rattle.chip_request.specs.declared.reading.RequestFault.{RequestFault}
use Rattle.chip_request.proofs.Meaning.{answered, none_among, all_right, right_objects, takes_without_fault}
use Rattle.chip_request.specs.Slots.{Found, first_with_tag, sized, fault_among, is_right, request_in}

-- a field is good where it is there and of its form, or may be absent
IsGood : Field → List (List ℕ) → Type 0
IsGood field [] = field.is_required ≡ false
IsGood field (value ∷ values) = field.has_form value ≡ true

AreGood : List Field → List TlvObject → Type 0
AreGood [] objects = Unit {0}
AreGood (field ∷ fs) objects = (good : IsGood field (values_of field.tag objects)) × AreGood fs objects

not_false : (b : Bool) → not b ≡ false → b ≡ true
not_false true h = refl
not_false false h = absurd cc

none_chosen : (b : Bool) (tag : ℕ) (others : Option ℕ) → cond b (Some tag) others ≡ None → (b ≡ false) × (others ≡ None)
none_chosen true tag others h = absurd cc
none_chosen false tag others h = (refl, h)

good_field : (field : Field) (values : List (List ℕ)) → is_missing field values ≡ false → is_misformed field values ≡ false → IsGood field values
unfolding IsGood
good_field field [] present formed = present
good_field field (value ∷ values) present formed = not_false (field.has_form value) formed

are_good : (fs : List Field) (objects : List TlvObject) → first_wrong is_missing objects fs ≡ None
    → first_wrong is_misformed objects fs ≡ None → AreGood fs objects
unfolding first_wrong AreGood
are_good [] objects present formed = tt
are_good (field ∷ fs) objects present formed =
    let values = values_of field.tag objects in
    let here = none_chosen (is_missing field values) field.tag (first_wrong is_missing objects fs) present in
    let form = none_chosen (is_misformed field values) field.tag (first_wrong is_misformed objects fs) formed in
    (good_field field values here.0 form.0, are_good fs objects here.1 form.1)

-- the value of a field of so many bytes
sized_bytes : (tag count : ℕ) (values : List (List ℕ)) → IsGood (required tag (has_bytes count)) values → sized count (first_of values) ≡ first_or [] values
unfolding IsGood
sized_bytes tag count [] good = absurd cc
sized_bytes tag count (value ∷ values) good = rw good refl

sized_optional : (tag count : ℕ) (values : List (List ℕ)) → IsGood (optional tag (has_bytes count)) values
    → sized count (first_of values) ≡ first_or (replicate count 0) values
unfolding IsGood
sized_optional tag count [] good = refl
sized_optional tag count (value ∷ values) good = rw good refl

sized_decimal : (tag count : ℕ) (values : List (List ℕ)) → IsGood (required tag (has_decimal_bytes count)) values
    → sized count (first_of values) ≡ first_or [] values
unfolding IsGood
sized_decimal tag count [] good = absurd cc
sized_decimal tag count (value ∷ values) good =
    let both : (length value == count ≡ true) × (list_all is_bcd value ≡ true) = and_parts _ _ good in
    rw (both.0) refl

sized_data : (tag : ℕ) (values : List (List ℕ)) → IsGood (required tag has_application_data) values → sized 32 (first_of values) ≡ first_or [] values
unfolding IsGood
sized_data tag [] good = absurd cc
sized_data tag (value ∷ values) good =
    let both : (length value == 32 ≡ true) × (has_profile value ≡ true) = and_parts _ _ good in
    rw (both.0) refl

-- an absent sequence number is 0
sized_number : (tag : ℕ) (values : List (List ℕ)) → IsGood (optional tag (has_decimal_bytes 1)) values
    → slice_index (sized 1 (first_of values)) 0 ≡ slice_index (first_or [] values) 0
unfolding IsGood
sized_number tag [] good = refl
sized_number tag (value ∷ values) good =
    let both : (length value == 1 ≡ true) × (list_all is_bcd value ≡ true) = and_parts _ _ good in
    rw (both.0) refl

decimal_number : (tag : ℕ) (values : List (List ℕ)) → IsGood (optional tag (has_decimal_bytes 1)) values → is_bcd (slice_index (first_or [] values) 0) ≡ true
unfolding IsGood is_bcd
decimal_number tag [] good = refl
decimal_number tag ([] ∷ values) good = refl
decimal_number tag ((byte ∷ value) ∷ values) good =
    let both : (length (byte ∷ value) == 1 ≡ true) × (list_all is_bcd (byte ∷ value) ≡ true) = and_parts _ _ good in
    (and_parts _ _ both.1).0

decimal_amount : (tag count : ℕ) (values : List (List ℕ)) → IsGood (required tag (has_decimal_bytes count)) values
    → list_all is_bcd (first_or [] values) ≡ true
unfolding IsGood
decimal_amount tag count [] good = refl
decimal_amount tag count (value ∷ values) good =
    let both : (length value == count ≡ true) × (list_all is_bcd value ≡ true) = and_parts _ _ good in
    both.1

profile_data : (tag : ℕ) (values : List (List ℕ)) → IsGood (required tag has_application_data) values → has_profile (first_or [] values) ≡ true
unfolding IsGood
profile_data tag [] good = absurd cc
profile_data tag (value ∷ values) good =
    let both : (length value == 32 ≡ true) × (has_profile value ≡ true) = and_parts _ _ good in
    both.1

account_found : (tag : ℕ) (values : List (List ℕ)) → IsGood (required tag has_account_number) values
    → option_and_then account_number_in (first_of values) ≡ Some (leading_digits (first_or [] values))
unfolding IsGood
account_found tag [] good = absurd cc
account_found tag (value ∷ values) good = rw good refl

-- the request of objects whose fields are good
good_request : (objects : List TlvObject) → AreGood fields objects → request_in (all_found objects) ≡ request_from (parts_of objects)
unfolding AreGood request_in first_with_tag parts_of
good_request objects good =
    let after_number = good.1 in
    let after_sequence = after_number.1 in
    let after_profile = after_sequence.1 in
    let after_results = after_profile.1 in
    let after_date = after_results.1 in
    let after_kind = after_date.1 in
    let after_amount = after_kind.1 in
    let after_other = after_amount.1 in
    let after_data = after_other.1 in
    let after_country = after_data.1 in
    let after_currency = after_country.1 in
    let after_cryptogram = after_currency.1 in
    let after_cid = after_cryptogram.1 in
    let after_counter = after_cid.1 in
    rw (
      request_in,
      account_found 0x5A (values_of 0x5A objects) good.0,
      sized_number 0x5F34 (values_of 0x5F34 objects) after_number.0,
      sized_bytes 0x82 2 (values_of 0x82 objects) after_sequence.0,
      sized_bytes 0x95 5 (values_of 0x95 objects) after_profile.0,
      sized_bytes 0x9A 3 (values_of 0x9A objects) after_results.0,
      sized_bytes 0x9C 1 (values_of 0x9C objects) after_date.0,
      sized_decimal 0x9F02 6 (values_of 0x9F02 objects) after_kind.0,
      sized_optional 0x9F03 6 (values_of 0x9F03 objects) after_amount.0,
      sized_data 0x9F10 (values_of 0x9F10 objects) after_other.0,
      sized_bytes 0x9F1A 2 (values_of 0x9F1A objects) after_data.0,
      sized_bytes 0x5F2A 2 (values_of 0x5F2A objects) after_country.0,
      sized_bytes 0x9F26 8 (values_of 0x9F26 objects) after_currency.0,
      sized_bytes 0x9F27 1 (values_of 0x9F27 objects) after_cryptogram.0,
      sized_bytes 0x9F36 2 (values_of 0x9F36 objects) after_cid.0,
      sized_bytes 0x9F37 4 (values_of 0x9F37 objects) after_counter.0,
    ) refl

-- and it is one
good_parts : (objects : List TlvObject) → AreGood fields objects → is_request (parts_of objects) ≡ true
unfolding AreGood parts_of is_request
good_parts objects good =
    let number = decimal_number 0x5F34 (values_of 0x5F34 objects) good.1.0 in
    let amount = decimal_amount 0x9F02 6 (values_of 0x9F02 objects) good.1.1.1.1.1.1.0 in
    let profile = profile_data 0x9F10 (values_of 0x9F10 objects) good.1.1.1.1.1.1.1.1.0 in
    rw (number, amount, profile) refl

-- where no field is missing and none is misformed, what was found makes the request that the objects say
pub finds_request : (objects : List TlvObject) → first_wrong is_missing objects fields ≡ None
    → first_wrong is_misformed objects fields ≡ None → request_in (all_found objects) ≡ Some (parts_of objects)
finds_request objects present formed =
    let good = are_good fields objects present formed in
    good_request objects good ∙ request_from-valid (parts_of objects) (good_parts objects good)

found_request : (objects : List TlvObject) (founds : List Found) → founds ≡ all_found objects → fault_among founds ≡ None
    → request_in founds ≡ Some (parts_of objects)
found_request objects founds found none =
    let right = right_objects objects founds found (sym none) in
    ap request_in found ∙ finds_request objects right.0 right.1

made_of_right : (is : Bool) (request : Option Parts) (made : Parts) → Some made ≡ (if is then request else None) → (is ≡ true) × (Some made ≡ request)
made_of_right true request made makes = (refl, makes)
made_of_right false request made makes = absurd cc

-- the request that is made where nothing is wrong is the one that the text says
pub takes_right : (bytes : List ℕ) (founds : List Found) (made : Parts) → (objects_of bytes).torn ≡ None → founds ≡ all_found (objects_of bytes).objects
    → Some made ≡ (if list_all is_right founds then request_in founds else None) → Ok made ≡ request_of bytes
takes_right bytes founds made whole found makes =
    let right = made_of_right (list_all is_right founds) (request_in founds) made makes in
    let none = none_among founds right.0 in
    answered _ _ _ (right.1 ∙ found_request (objects_of bytes).objects founds found none) (takes_without_fault bytes founds whole found (sym none))

-- and where none is made something is wrong
has_fault : (objects : List TlvObject) (founds : List Found) (fault : Option RequestFault) → fault_among founds ≡ fault → founds ≡ all_found objects
    → None ≡ (if list_all is_right founds then request_in founds else None) → is_some fault ≡ true
has_fault objects founds (Some fault) among found none = refl
has_fault objects founds None among found none =
    let right = all_right founds among in
    let made = found_request objects founds found among in
    let wrong : None ≡ Some (parts_of objects) = none ∙ ap (λ is. if is then request_in founds else None) right ∙ made in
    absurd cc

pub finds_fault : (objects : List TlvObject) (founds : List Found) → founds ≡ all_found objects
    → None ≡ (if list_all is_right founds then request_in founds else None) → is_some (fault_among founds) ≡ true
finds_fault objects founds found none = has_fault objects founds (fault_among founds) refl found none
