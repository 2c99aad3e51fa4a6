-- The session key of a cryptogram that is right is that of the card's keys.
use Rattle.std.proofs.Common.{◌≡◌, ◌≢◌, ℕ, Bool, true, false, if◌then◌else◌, List, Option, Some, None, refl, sym, ap, ◌∙◌, length, slice_get}
use Rattle.std.proofs.lemmas.Option.{same_Some}
use Rattle.std.specs.Option.{option_map}
use Rattle.std.proofs.lemmas.Slice.Eq.{bytes_eq-Decides}
use Rattle.std.specs.Str.{bytes_eq}
use Rattle.des_block.specs.declared.Key16.{Key16}
use Rattle.issuer_base.specs.declared.request.Parts.{Parts}
use Rattle.issuer_base.specs.declared.request.Suite.{Suite}
use Rattle.issuer_base.specs.declared.request.Suite.TheVariants.{TripleDes, Aes}
use Rattle.issuer_base.specs.ChipData.{dki, suite_of}
use Rattle.retail_mac.specs.Mac.{retail_mac}
use Rattle.retail_mac.proofs.Blocks.{length-retail_mac}
use Rattle.key_derive.specs.SuiteMac.{mac_of}
use Rattle.key_derive.specs.declared.card.AesPair.{AesPair}
use Rattle.key_derive.specs.declared.card.KeySet.{KeySet}
use Rattle.key_derive.specs.declared.card.CardKeys.{CardKeys}
use Rattle.key_derive.specs.CardKey.{des_keys, aes_keys}
use Rattle.key_derive.specs.SessionKey.{session_ac}
use Rattle.cryptogram_in.specs.Cryptogram.{input, cryptogram_under, application_cryptogram}
use Rattle.cryptogram_in.specs.Checks.{DesCheck, check_of, des_session, des_mac, right_session}
use Rattle.issuer_setup.specs.declared.card.CardInfo.{CardInfo}
use Rattle.issuer_setup.specs.KeyList.{key_of}
use Rattle.issuer_setup.specs.IssuerSetup.{Setup, keys_from, keys_of}
use Rattle.line_checks.specs.LookedUp.{verdict_of, IsRightSession, IsVerdict}

-- ---- the suite of a card's keys

suite-aes : (pair : Option AesPair) (pan : List ℕ) (psn : ℕ) (keys : CardKeys) → option_map (λ pair. aes_keys pair pan psn) pair ≡ Some keys → keys.suite ≡ Aes
suite-aes None pan psn keys is = absurd cc
suite-aes (Some pair) pan psn keys is = ap (λ (keys : CardKeys). keys.suite) (sym (same_Some (aes_keys pair pan psn) keys is))

suite-from : (suite : Suite) (set : Option KeySet) (card : Option CardInfo) (keys : CardKeys) → keys_from suite set card ≡ Some keys → keys.suite ≡ suite
suite-from suite None card keys is = absurd cc
suite-from suite (Some set) None keys is = absurd cc
suite-from TripleDes (Some set) (Some card) keys is = ap (λ (keys : CardKeys). keys.suite) (sym (same_Some (des_keys set card.pan card.psn) keys is))
suite-from Aes (Some set) (Some card) keys is = suite-aes set.aes card.pan card.psn keys is

-- it is that of the request
pub keys-suite : (issuer : Setup) (card : ℕ) (request : Parts) (keys : CardKeys) → keys_of issuer card request ≡ Some keys → keys.suite ≡ suite_of request
keys-suite issuer card request keys is = suite-from (suite_of request) (key_of (dki request) issuer.keys) (slice_get issuer.cards card) keys is

-- ---- the session key that a check gives

taken : (right : Bool) (key session : Key16) → (if right then Some key else None) ≡ Some session → (right ≡ true) × (key ≡ session)
taken true key session is = (refl, cc)
taken false key session is = absurd cc

pub session-right : (keys : CardKeys) (request : Parts) (session : Key16) → keys.suite ≡ TripleDes → right_session (check_of keys.ac request) ≡ Some session
    → IsRightSession keys request (record { suite = TripleDes; key = session.0 })
unfolding right_session des_mac des_session application_cryptogram cryptogram_under mac_of
session-right keys request session suite_is found =
    let key = session_ac TripleDes keys.ac.0 request.atc in
    let mac = retail_mac key (input request) in
    let both = taken (bytes_eq request.ac mac) (record { 0 = key }) session found in
    let right : request.ac ≡ mac = (bytes_eq-Decides request.ac mac).0 both.0 in
    record {
      session_is =
          ap (λ (k : Key16). record { suite = TripleDes; key = k.0 }) (sym both.1)
          ∙ ap (λ (suite : Suite). record { suite = suite; key = session_ac suite keys.ac.0 request.atc }) (sym suite_is);
      ac_is = right ∙ ap (λ (suite : Suite). mac_of suite (session_ac suite keys.ac.0 request.atc) (input request)) (sym suite_is);
      eight = ap length right ∙ length-retail_mac key (input request);
    }

-- ---- and where it gives none

untaken : (right : Bool) (key : Key16) → (if right then Some key else None) ≡ None → right ≡ true → ⊥
untaken true key none is = cc
untaken false key none is = cc

session-wrong : (keys : CardKeys) (request : Parts) → keys.suite ≡ TripleDes → right_session (check_of keys.ac request) ≡ None
    → request.ac ≢ application_cryptogram keys request
unfolding right_session des_mac des_session application_cryptogram cryptogram_under mac_of
session-wrong keys request suite_is none = λ is.
    let key = session_ac TripleDes keys.ac.0 request.atc in
    let mac = retail_mac key (input request) in
    let mac_is : mac ≡ mac_of keys.suite (session_ac keys.suite keys.ac.0 request.atc) (input request) =
    ap (λ (suite : Suite). mac_of suite (session_ac suite keys.ac.0 request.atc) (input request)) (sym suite_is) in
    untaken (bytes_eq request.ac mac) (record { 0 = key }) none ((bytes_eq-Decides request.ac mac).1 (is ∙ sym mac_is))

-- so it gives the verdict
pub verdict-is : (keys : CardKeys) (request : Parts) (session : Option Key16) (check : DesCheck) → keys.suite ≡ TripleDes → check ≡ check_of keys.ac request
    → session ≡ right_session check → IsVerdict keys request (verdict_of session)
verdict-is keys request None check suite_is check_is is = session-wrong keys request suite_is (sym (is ∙ ap right_session check_is))
verdict-is keys request (Some session) check suite_is check_is is =
    session-right keys request session suite_is (sym (is ∙ ap right_session check_is))
