-- What the definition of a request states of its fields.
use Rattle.std.proofs.Common.{◌≡◌, ℕ, ◌^◌, ◌<◌, ◌==◌, ◌||◌, Bool, true, false, if◌then◌else◌, length, Option, Some, None, IsTrue, refl, sym, ap, subst, ◌∙◌, slice_index, arith}
use Rattle.std.proofs.Common.{is_some}
use Rattle.std.proofs.lemmas.Bool.{and_parts, cond-true, eqb-true, true≢false}
use Rattle.std.proofs.lemmas.Option.{cond_some, same_Some, none-some}
use Rattle.std.specs.List.{list_all}
use Rattle.issuer_base.specs.declared.request.Parts.{Parts}
use Rattle.issuer_base.specs.declared.request.Suite.{Suite}
use Rattle.issuer_base.specs.declared.request.Suite.TheVariants.{TripleDes, Aes}
use Rattle.issuer_base.specs.ChipData.{is_bcd, is_core_identifier, has_profile, is_request, request_from, suite_named, suite_of, amount_value}
use Rattle.issuer_base.proofs.Decimal.{decimal-below}

-- the request that fields make has these fields
pub request_from-some : (parts request : Parts) → request_from parts ≡ Some request → IsTrue (is_request parts) × (parts ≡ request)
unfolding request_from
request_from-some parts request made = cond_some _ _ _ made

-- fields of the right form make a request
pub request_from-valid : (parts : Parts) → IsTrue (is_request parts) → request_from parts ≡ Some parts
unfolding request_from
request_from-valid parts valid = cond-true _ _ _ valid

-- a request's sequence number is decimal
pub psn-request : (parts : Parts) → IsTrue (is_request parts) → IsTrue (is_bcd parts.psn)
unfolding is_request
psn-request parts valid = (and_parts _ _ (and_parts _ _ valid).0).0

-- a request's amount is decimal
pub amount-request : (parts : Parts) → IsTrue (is_request parts) → IsTrue (list_all is_bcd parts.amount)
unfolding is_request
amount-request parts valid = (and_parts _ _ (and_parts _ _ valid).0).1

-- a request's application data have the profile's form
pub iad-request : (parts : Parts) → IsTrue (is_request parts) → IsTrue (has_profile parts.iad)
unfolding is_request
iad-request parts valid = (and_parts _ _ valid).1

-- an amount has twelve digits
pub amount_value-below : (parts : Parts) → IsTrue (is_request parts) → length parts.amount ≡ 6 → amount_value parts < 1000000000000
unfolding amount_value
amount_value-below parts valid six =
    let digits : amount_value parts < 100 ^ length parts.amount = decimal-below parts.amount (amount-request parts valid) in
    let limit : 100 ^ length parts.amount ≡ 1000000000000 = ap (λ n. 100 ^ n) six in
    omega arith

-- a choice of two suites, of which the second test says the same
chosen : (des aes : Bool) (suite : Suite) → (des ≡ true → aes ≡ false) → (if des then Some TripleDes else if aes then Some Aes else None) ≡ Some suite
    → suite ≡ (if aes then Aes else TripleDes)
chosen true true suite apart made = absurd (true≢false (apart refl))
chosen true false suite apart made = sym (same_Some TripleDes suite made)
chosen false true suite apart made = sym (same_Some Aes suite made)
chosen false false suite apart made = absurd (none-some suite made)

some-chosen : (des aes : Bool) → (let found : Option Suite = if des then Some TripleDes else if aes then Some Aes else None in is_some found) ≡ (des || aes)
some-chosen true aes = refl
some-chosen false true = refl
some-chosen false false = refl

-- the suite that a request's common core identifier names is the request's
pub named-suite : (parts : Parts) (identifier : ℕ) (suite : Suite) → slice_index parts.iad 1 ≡ identifier → suite_named identifier ≡ Some suite → suite ≡ suite_of parts
unfolding suite_named suite_of
named-suite parts identifier suite is made =
    let apart : (identifier == 0xA5) ≡ true → (identifier == 0xA6) ≡ false =
    λ same. subst (λ (byte : ℕ). (byte == 0xA6) ≡ false) (sym (eqb-true identifier 0xA5 same)) refl in
    subst (λ (byte : ℕ). suite ≡ (if byte == 0xA6 then Aes else TripleDes)) (sym is) (chosen (identifier == 0xA5) (identifier == 0xA6) suite apart made)

-- a common core identifier names a suite, and nothing else does
pub named-identifier : (identifier : ℕ) → is_some (suite_named identifier) ≡ is_core_identifier identifier
unfolding suite_named
named-identifier identifier = some-chosen (identifier == 0xA5) (identifier == 0xA6)

-- a request's does
pub request-named : (parts : Parts) → IsTrue (is_request parts) → suite_named (slice_index parts.iad 1) ≡ None → ⊥
unfolding has_profile
request-named parts valid none =
    let is : IsTrue (is_core_identifier (slice_index parts.iad 1)) = (and_parts _ _ (and_parts _ _ (iad-request parts valid)).0).1 in
    true≢false (sym is ∙ sym (named-identifier (slice_index parts.iad 1)) ∙ ap (λ (found : Option Suite). is_some found) none)
