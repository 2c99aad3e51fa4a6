-- If no field is repeated, each value has its length and the values make a request, no field has a fault.
use Rattle.std.proofs.Common.{◌≡◌, ℕ, zero, suc, ◌==◌, Bool, true, false, not, List, [], ◌∷◌, length, replicate, get_or, Option, Some, None, option_and_then}
use Rattle.std.proofs.Common.{IsTrue, if◌then◌else◌, slice_index, map, Bor, refl, sym, ap, ◌∙◌, eqb-true, arith}
use Rattle.std.proofs.Math.Bool.{beq, and-false}
use Rattle.std.proofs.lemmas.Bool.{and_parts, and_from}
use Rattle.std.proofs.lemmas.List.{length-map}
use Rattle.std.specs.Cmp.Lexicographic.{pointwise}
use Rattle.std.specs.List.{list_all}
use Rattle.issuer_base.specs.declared.request.Parts.{Parts}
use Rattle.issuer_base.specs.ChipData.{is_bcd, has_profile, is_request, request_from}
use Rattle.issuer_base.proofs.ChipDataLemmas.{request_from-some, psn-request, amount-request, iad-request}
use Rattle.chip_request.specs.Fields.{Field, fields, has_bytes, has_decimal_bytes, has_account_number, has_application_data, leading_digits, required}
use Rattle.chip_request.specs.Fields.{optional}
use Rattle.chip_request.specs.Forms.{account_number_in}
use Rattle.chip_request.specs.Slots.{Found, founds_of, first_with_tag, is_right, is_sized, is_absent_or_sized, have_sizes, sized, request_in}
use Rattle.chip_request.proofs.Walk.{value_in}

-- marks that are the same one by one are the same
pub same_marks : (xs ys : List Bool) → pointwise beq xs ys ≡ true → xs ≡ ys
same_marks [] [] same = refl
same_marks [] (y ∷ ys) same = absurd cc
same_marks (x ∷ xs) [] same = absurd cc
same_marks (true ∷ xs) (true ∷ ys) same = ap (λ (others : List Bool). true ∷ others) (same_marks xs ys same)
same_marks (true ∷ xs) (false ∷ ys) same = absurd cc
same_marks (false ∷ xs) (true ∷ ys) same = absurd cc
same_marks (false ∷ xs) (false ∷ ys) same = ap (λ (others : List Bool). false ∷ others) (same_marks xs ys same)

-- the first items of a function
tabulated : {A : Type 0} → ℕ → (ℕ → A) → List A
tabulated zero f = []
tabulated (suc n) f = f 0 ∷ tabulated n (λ i. f (suc i))

tabulates : {A : Type 0} (xs : List A) (d : A) → xs ≡ tabulated (length xs) (λ i. get_or xs i d)
unfolding tabulated
tabulates [] d = refl
tabulates (x ∷ xs) d = ap (λ others. x ∷ others) (tabulates xs d)

not_true : (b : Bool) → not b ≡ true → b ≡ false
not_true true h = absurd cc
not_true false h = refl

not_not : (b : Bool) → not (not b) ≡ true → b ≡ true
not_not true h = refl
not_not false h = absurd cc

-- a field as it is found once
abbrev once : Field → Option (List ℕ) → Found
once field first = record { field = field; first = first; is_repeated = false }

-- where nothing is wrong, no field is repeated
single_marks : (fs : List Field) (firsts : List (Option (List ℕ))) (are : List Bool) → length firsts ≡ length fs → length are ≡ length fs
    → list_all is_right (founds_of fs firsts are) ≡ true → are ≡ replicate (length fs) false
unfolding founds_of
single_marks [] firsts [] long many right = refl
single_marks [] firsts (is ∷ are) long many right = absurd cc
single_marks (field ∷ fs) [] are long many right = absurd cc
single_marks (field ∷ fs) (first ∷ firsts) [] long many right = absurd cc
single_marks (field ∷ fs) (first ∷ firsts) (is ∷ are) long many right =
    let parts = and_parts (is_right (record { field = field; first = first; is_repeated = is })) (list_all is_right (founds_of fs firsts are)) right in
    let single : is ≡ false = not_true is (and_parts _ _ (and_parts _ _ parts.0).0).0 in
    rw single (ap (λ (others : List Bool). false ∷ others) (single_marks fs firsts are (omega arith) (omega arith) parts.1))

-- a value that is right has its form
form_of : (field : Field) (value : List ℕ) → is_right (once field (Some value)) ≡ true → field.has_form value ≡ true
form_of field value right = not_not (field.has_form value) (and_parts _ _ right).1

-- and one that has its form is right
formed : (field : Field) (value : List ℕ) → field.has_form value ≡ true → is_right (once field (Some value)) ≡ true
formed field value form = rw (and-false field.is_required, form) refl

-- where a form has a size, a right value has it
size_of : (tag count : ℕ) (has_form : List ℕ → Bool) → ((value : List ℕ) → has_form value ≡ true → length value == count ≡ true)
    → (first : Option (List ℕ)) → is_right (once (required tag has_form) first) ≡ true → is_sized count first ≡ true
size_of tag count has_form size None right = absurd cc
size_of tag count has_form size (Some value) right = size value (form_of (required tag has_form) value right)

optional_size_of : (tag count : ℕ) (has_form : List ℕ → Bool) → ((value : List ℕ) → has_form value ≡ true → length value == count ≡ true)
    → (first : Option (List ℕ)) → is_right (once (optional tag has_form) first) ≡ true → is_absent_or_sized count first ≡ true
optional_size_of tag count has_form size None right = refl
optional_size_of tag count has_form size (Some value) right = size value (form_of (optional tag has_form) value right)

-- a value of so many bytes is right where that is its form
right_bytes : (tag count : ℕ) (first : Option (List ℕ)) → is_sized count first ≡ true → is_right (once (required tag (has_bytes count)) first) ≡ true
right_bytes tag count None size = absurd cc
right_bytes tag count (Some value) size = formed (required tag (has_bytes count)) value size

right_optional : (tag count : ℕ) (first : Option (List ℕ)) → is_absent_or_sized count first ≡ true
    → is_right (once (optional tag (has_bytes count)) first) ≡ true
right_optional tag count None size = refl
right_optional tag count (Some value) size = formed (optional tag (has_bytes count)) value size

-- and a decimal one where the bytes that are read of it are decimal
right_amount : (tag count : ℕ) (first : Option (List ℕ)) → is_sized count first ≡ true → list_all is_bcd (sized count first) ≡ true
    → is_right (once (required tag (has_decimal_bytes count)) first) ≡ true
right_amount tag count None size decimal = absurd cc
right_amount tag count (Some value) size decimal =
    let read : sized count (Some value) ≡ value = rw size refl in
    formed (required tag (has_decimal_bytes count)) value (and_from _ _ size (ap (list_all is_bcd) (sym read) ∙ decimal))

one_decimal : (value : List ℕ) → length value == 1 ≡ true → is_bcd (slice_index value 0) ≡ true → list_all is_bcd value ≡ true
one_decimal [] size decimal = absurd cc
one_decimal (byte ∷ []) size decimal = and_from _ _ decimal refl
one_decimal (byte ∷ another ∷ value) size decimal = let one = eqb-true _ _ size in absurd (omega arith)

right_number : (tag : ℕ) (first : Option (List ℕ)) → is_absent_or_sized 1 first ≡ true → is_bcd (slice_index (sized 1 first) 0) ≡ true
    → is_right (once (optional tag (has_decimal_bytes 1)) first) ≡ true
right_number tag None size decimal = refl
right_number tag (Some value) size decimal =
    let read : sized 1 (Some value) ≡ value = rw size refl in
    let byte = ap (λ (bytes : List ℕ). is_bcd (slice_index bytes 0)) (sym read) ∙ decimal in
    formed (optional tag (has_decimal_bytes 1)) value (and_from _ _ size (one_decimal value size byte))

-- and application data where those that are read have the profile
right_data : (tag : ℕ) (first : Option (List ℕ)) → is_sized 32 first ≡ true → has_profile (sized 32 first) ≡ true
    → is_right (once (required tag has_application_data) first) ≡ true
right_data tag None size profile = absurd cc
right_data tag (Some value) size profile =
    let read : sized 32 (Some value) ≡ value = rw size refl in
    formed (required tag has_application_data) value (and_from _ _ size (ap has_profile (sym read) ∙ profile))

-- what made a request is a right account number, and fields of a request
record IsMade (first : Option (List ℕ)) (parts_with : List ℕ → Parts) : Type 0 where
  number : is_right (once (required 0x5A has_account_number) first) ≡ true
  pan : List ℕ
  valid : IsTrue (is_request (parts_with pan))

made_with : (value digits : List ℕ) (parts_with : List ℕ → Parts) (made : Parts) (is : Bool) → has_account_number value ≡ is
    → option_and_then (λ pan. request_from (parts_with pan)) (if is then Some digits else None) ≡ Some made → IsMade (Some value) parts_with
made_with value digits parts_with made true has makes = record {
  number = formed (required 0x5A has_account_number) value has;
  pan = digits;
  valid = (request_from-some (parts_with digits) made makes).0;
}
made_with value digits parts_with made false has makes = absurd cc

is_made : (first : Option (List ℕ)) (parts_with : List ℕ → Parts) (made : Parts)
    → option_and_then (λ pan. request_from (parts_with pan)) (option_and_then account_number_in first) ≡ Some made → IsMade first parts_with
is_made None parts_with made makes = absurd cc
is_made (Some value) parts_with made makes = made_with value (leading_digits value) parts_with made (has_account_number value) refl makes

-- what is found where no field is repeated
all_once : (ℕ → Option (List ℕ)) → List Found
all_once v = founds_of fields (tabulated 15 v) (replicate 15 false)

-- where nothing is wrong, each value has its size
all_sized : (v : ℕ → Option (List ℕ)) → list_all is_right (all_once v) ≡ true → have_sizes (all_once v) ≡ true
unfolding all_once tabulated founds_of first_with_tag have_sizes
all_sized v right =
    let p0 = and_parts _ _ right in
    let p1 = and_parts _ _ p0.1 in
    let p2 = and_parts _ _ p1.1 in
    let p3 = and_parts _ _ p2.1 in
    let p4 = and_parts _ _ p3.1 in
    let p5 = and_parts _ _ p4.1 in
    let p6 = and_parts _ _ p5.1 in
    let p7 = and_parts _ _ p6.1 in
    let p8 = and_parts _ _ p7.1 in
    let p9 = and_parts _ _ p8.1 in
    let p10 = and_parts _ _ p9.1 in
    let p11 = and_parts _ _ p10.1 in
    let p12 = and_parts _ _ p11.1 in
    let p13 = and_parts _ _ p12.1 in
    let p14 = and_parts _ _ p13.1 in
    let s1 = optional_size_of 0x5F34 1 (has_decimal_bytes 1) (λ value form. (and_parts _ _ form).0) (v 1) p1.0 in
    let s2 = and_from _ _ s1 (size_of 0x82 2 (has_bytes 2) (λ value form. form) (v 2) p2.0) in
    let s3 = and_from _ _ s2 (size_of 0x95 5 (has_bytes 5) (λ value form. form) (v 3) p3.0) in
    let s4 = and_from _ _ s3 (size_of 0x9A 3 (has_bytes 3) (λ value form. form) (v 4) p4.0) in
    let s5 = and_from _ _ s4 (size_of 0x9C 1 (has_bytes 1) (λ value form. form) (v 5) p5.0) in
    let s6 = and_from _ _ s5 (size_of 0x9F02 6 (has_decimal_bytes 6) (λ value form. (and_parts _ _ form).0) (v 6) p6.0) in
    let s7 = and_from _ _ s6 (optional_size_of 0x9F03 6 (has_bytes 6) (λ value form. form) (v 7) p7.0) in
    let s8 = and_from _ _ s7 (size_of 0x9F10 32 has_application_data (λ value form. (and_parts _ _ form).0) (v 8) p8.0) in
    let s9 = and_from _ _ s8 (size_of 0x9F1A 2 (has_bytes 2) (λ value form. form) (v 9) p9.0) in
    let s10 = and_from _ _ s9 (size_of 0x5F2A 2 (has_bytes 2) (λ value form. form) (v 10) p10.0) in
    let s11 = and_from _ _ s10 (size_of 0x9F26 8 (has_bytes 8) (λ value form. form) (v 11) p11.0) in
    let s12 = and_from _ _ s11 (size_of 0x9F27 1 (has_bytes 1) (λ value form. form) (v 12) p12.0) in
    let s13 = and_from _ _ s12 (size_of 0x9F36 2 (has_bytes 2) (λ value form. form) (v 13) p13.0) in
    let s14 = and_from _ _ s13 (size_of 0x9F37 4 (has_bytes 4) (λ value form. form) (v 14) p14.0) in
    s14

-- where each value has its size, and what was found makes a request, nothing is wrong
makes_right : (v : ℕ → Option (List ℕ)) (made : Parts) → have_sizes (all_once v) ≡ true → request_in (all_once v) ≡ Some made
    → list_all is_right (all_once v) ≡ true
unfolding all_once tabulated founds_of first_with_tag have_sizes request_in
makes_right v made sizes makes =
    let request = is_made (v 0) _ made makes in
    let p14 = and_parts _ _ sizes in
    let p13 = and_parts _ _ p14.0 in
    let p12 = and_parts _ _ p13.0 in
    let p11 = and_parts _ _ p12.0 in
    let p10 = and_parts _ _ p11.0 in
    let p9 = and_parts _ _ p10.0 in
    let p8 = and_parts _ _ p9.0 in
    let p7 = and_parts _ _ p8.0 in
    let p6 = and_parts _ _ p7.0 in
    let p5 = and_parts _ _ p6.0 in
    let p4 = and_parts _ _ p5.0 in
    let p3 = and_parts _ _ p4.0 in
    let p2 = and_parts _ _ p3.0 in
    let r14 = and_from _ _ (right_bytes 0x9F37 4 (v 14) p14.1) refl in
    let r13 = and_from _ _ (right_bytes 0x9F36 2 (v 13) p13.1) r14 in
    let r12 = and_from _ _ (right_bytes 0x9F27 1 (v 12) p12.1) r13 in
    let r11 = and_from _ _ (right_bytes 0x9F26 8 (v 11) p11.1) r12 in
    let r10 = and_from _ _ (right_bytes 0x5F2A 2 (v 10) p10.1) r11 in
    let r9 = and_from _ _ (right_bytes 0x9F1A 2 (v 9) p9.1) r10 in
    let r8 = and_from _ _ (right_data 0x9F10 (v 8) p8.1 (iad-request _ request.valid)) r9 in
    let r7 = and_from _ _ (right_optional 0x9F03 6 (v 7) p7.1) r8 in
    let r6 = and_from _ _ (right_amount 0x9F02 6 (v 6) p6.1 (amount-request _ request.valid)) r7 in
    let r5 = and_from _ _ (right_bytes 0x9C 1 (v 5) p5.1) r6 in
    let r4 = and_from _ _ (right_bytes 0x9A 3 (v 4) p4.1) r5 in
    let r3 = and_from _ _ (right_bytes 0x95 5 (v 3) p3.1) r4 in
    let r2 = and_from _ _ (right_bytes 0x82 2 (v 2) p2.1) r3 in
    let r1 = and_from _ _ (right_number 0x5F34 (v 1) p2.0 (psn-request _ request.valid)) r2 in
    and_from _ _ request.number r1

-- the slots without repetitions
without_marks : (firsts : List (Option (Bor (List ℕ)))) (are : List Bool) → length firsts ≡ 15 → are ≡ replicate 15 false
    → founds_of fields (map value_in firsts) are ≡ all_once (λ i. get_or (map value_in firsts) i None)
unfolding all_once
without_marks firsts are long single =
    let firsts_are : map value_in firsts ≡ tabulated 15 (λ i. get_or (map value_in firsts) i None) =
    tabulates (map value_in firsts) None ∙ ap (λ n. tabulated n (λ i. get_or (map value_in firsts) i None)) (length-map firsts value_in ∙ long) in
    ap (λ marks. founds_of fields (map value_in firsts) marks) single ∙ ap (λ values. founds_of fields values (replicate 15 false)) firsts_are

-- where nothing is wrong, no mark is set
pub single_slots : (firsts : List (Option (Bor (List ℕ)))) (are : List Bool) → length firsts ≡ 15 → length are ≡ 15
    → list_all is_right (founds_of fields (map value_in firsts) are) ≡ true → are ≡ replicate 15 false
single_slots firsts are long many right = single_marks fields (map value_in firsts) are (length-map firsts value_in ∙ long) many right

-- and each value has its size
pub sized_slots : (firsts : List (Option (Bor (List ℕ)))) (are : List Bool) → length firsts ≡ 15 → length are ≡ 15
    → list_all is_right (founds_of fields (map value_in firsts) are) ≡ true → have_sizes (founds_of fields (map value_in firsts) are) ≡ true
sized_slots firsts are long many right =
    let same = without_marks firsts are long (single_slots firsts are long many right) in
    ap have_sizes same ∙ all_sized (λ i. get_or (map value_in firsts) i None) (ap (list_all is_right) (sym same) ∙ right)

-- where none is set and each has its size, nothing is wrong if what was found makes a request
pub right_slots : (firsts : List (Option (Bor (List ℕ)))) (are : List Bool) → length firsts ≡ 15 → are ≡ replicate 15 false
    → have_sizes (founds_of fields (map value_in firsts) are) ≡ true → (made : Parts)
    → request_in (founds_of fields (map value_in firsts) are) ≡ Some made → list_all is_right (founds_of fields (map value_in firsts) are) ≡ true
right_slots firsts are long single sizes made makes =
    let same = without_marks firsts are long single in
    ap (list_all is_right) same
    ∙ makes_right (λ i. get_or (map value_in firsts) i None) made (ap have_sizes (sym same) ∙ sizes) (ap request_in (sym same) ∙ makes)

-- a mark that is set differs
pub same_marks-refl : (xs : List Bool) → pointwise beq xs xs ≡ true
same_marks-refl [] = refl
same_marks-refl (true ∷ xs) = same_marks-refl xs
same_marks-refl (false ∷ xs) = same_marks-refl xs

-- what fails, and follows from what is right, tells that something is wrong
pub wrong_tells : (is test : Bool) (request : Option Parts) → test ≡ false → (is ≡ true → test ≡ true) → None ≡ (if is then request else None)
wrong_tells true test request fails tells = let wrong : false ≡ true = sym fails ∙ tells refl in absurd cc
wrong_tells false test request fails tells = refl

-- and what was made that nothing is
pub made_tells : (is : Bool) (request : Option Parts) → ((made : Parts) → request ≡ Some made → is ≡ true) → request ≡ (if is then request else None)
made_tells true request right = refl
made_tells false None right = refl
made_tells false (Some made) right = let wrong : false ≡ true = right made refl in absurd cc
