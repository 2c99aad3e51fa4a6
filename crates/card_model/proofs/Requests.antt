-- The requests of a card have the form of a request, and their cryptogram is over their other fields.
use Rattle.std.proofs.Common.{◌≡◌, ℕ, ◌/◌, ◌%◌, true, List, [], ◌∷◌, ◌++◌, replicate, Some, IsTrue, refl, ap, ap₂, sym, ◌∙◌}
use Rattle.std.proofs.lemmas.Bool.{and_from}
use Rattle.std.specs.List.{list_all}
use Rattle.issuer_base.specs.ChipData.{is_bcd, is_request, has_profile, request_from}
use Rattle.issuer_base.specs.declared.request.Parts.{Parts}
use Rattle.issuer_base.specs.declared.request.Suite.{Suite}
use Rattle.issuer_base.specs.declared.request.Suite.TheVariants.{TripleDes, Aes}
use Rattle.issuer_base.proofs.ChipDataLemmas.{request_from-some, request_from-valid}
use Rattle.cryptogram_in.specs.Cryptogram.{input, cryptogram_under, application_cryptogram}
use Rattle.card_model.specs.declared.terminal.Terminal.{Terminal}
use Rattle.card_model.specs.Application.{CardState, script_results, core_identifier, application_data, next_fields, next_request}

-- application data with this identifier, this index, these results and this register
abbrev data_with : ℕ → ℕ → ℕ → ℕ → ℕ → List ℕ
data_with identifier dki results high low =
    0x0F ∷ identifier ∷ dki ∷ 0xA0 ∷ 0 ∷ 0 ∷ results ∷ 0 ∷ [] ++ replicate 8 0 ++ 0x0F ∷ high ∷ low ∷ [] ++ replicate 13 0

-- the issuer application data, byte by byte
pub application_data-bytes : (card : CardState) (identifier dki results high low : ℕ)
    → identifier ≡ core_identifier card.keys.suite → dki ≡ card.dki → results ≡ script_results card
    → high ≡ card.register / 256 → low ≡ card.register % 256 → data_with identifier dki results high low ≡ application_data card
unfolding application_data
application_data-bytes card identifier dki results high low identified index counted upper lower =
    ap (λ i. data_with i dki results high low) identified
    ∙ ap₂ (λ d r. data_with (core_identifier card.keys.suite) d r high low) index counted
    ∙ ap₂ (λ h l. data_with (core_identifier card.keys.suite) card.dki (script_results card) h l) upper lower

-- application data with the identifier of either suite have the profile
has_profile-data_with : (suite : Suite) (dki results high low : ℕ) → has_profile (data_with (core_identifier suite) dki results high low) ≡ true
unfolding has_profile core_identifier
has_profile-data_with TripleDes dki results high low = refl
has_profile-data_with Aes dki results high low = refl

-- so have those of a card
has_profile-application_data : (card : CardState) → has_profile (application_data card) ≡ true
unfolding application_data
has_profile-application_data card = has_profile-data_with card.keys.suite card.dki (script_results card) (card.register / 256) (card.register % 256)

-- a request of a card has its form, whatever its cryptogram is
pub is_request-fields : (card : CardState) (terminal : Terminal) (ac : List ℕ) → IsTrue (is_bcd card.psn)
    → IsTrue (list_all is_bcd terminal.amount) → IsTrue (is_request (record (next_fields card terminal) { ac = ac }))
unfolding is_request next_fields
is_request-fields card terminal ac psn amount = and_from _ _ (and_from _ _ psn amount) (has_profile-application_data card)

-- so such fields are those of a request
pub request_from-fields : (card : CardState) (terminal : Terminal) (fields : Parts) (ac : List ℕ) → IsTrue (is_bcd card.psn)
    → IsTrue (list_all is_bcd terminal.amount) → fields ≡ next_fields card terminal
    → request_from (record fields { ac = ac }) ≡ Some (record fields { ac = ac })
request_from-fields card terminal fields ac psn amount is =
    request_from-valid (record fields { ac = ac })
    (rw is (is_request-fields card terminal ac psn amount))

-- the request that the card makes, from its fields and its cryptogram
pub next_request-made : (card : CardState) (terminal : Terminal) (fields unsigned request : Parts) (ac : List ℕ)
    → fields ≡ next_fields card terminal → request_from fields ≡ Some unsigned
    → ac ≡ application_cryptogram card.keys unsigned → request_from (record fields { ac = ac }) ≡ Some request
    → request ≡ next_request card terminal
unfolding next_request
next_request-made card terminal fields unsigned request ac is first signed made =
    let same : fields ≡ unsigned = (request_from-some _ _ first).1 in
    sym (request_from-some _ _ made).1
    ∙ ap₂ (λ (f : Parts) (a : List ℕ). record f { ac = a }) is
    (signed ∙ ap (application_cryptogram card.keys) (sym same ∙ is))

-- the cryptogram of the request is that of the request
pub next_request-valid_ac : (card : CardState) (terminal : Terminal)
    → (next_request card terminal).ac ≡ application_cryptogram card.keys (next_request card terminal)
unfolding next_request application_cryptogram cryptogram_under input
next_request-valid_ac card terminal = refl
