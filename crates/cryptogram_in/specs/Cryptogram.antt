-- The application cryptogram of a request: EMV 4.3 Book 2, section 8.1.
use Rattle.std.specs.Prelude.{ℕ, List, [], ◌∷◌, ◌++◌}
use Rattle.issuer_base.specs.declared.request.Parts.{Parts}
use Rattle.key_derive.specs.SuiteMac.{mac_of}
use Rattle.key_derive.specs.declared.card.CardKeys.{CardKeys}
use Rattle.key_derive.specs.SuiteKey.{SuiteKey}
use Rattle.key_derive.specs.SessionKey.{counter_bytes, session_of}

-- the data under the cryptogram: the ten data elements of section 8.1.1, in its order, and the issuer application data,
-- which is this project's profile
unfoldable pub input : Parts → List ℕ
input request =
    request.amount ++ request.other ++ request.country ++ request.tvr ++ request.currency ++ request.date
    ++ (request.kind ∷ []) ++ request.un ++ request.aip ++ counter_bytes request.atc ++ request.iad

-- the cryptogram under a session key: the MAC of its suite of those data, section 8.1.2
unfoldable pub cryptogram_under : SuiteKey → Parts → List ℕ
cryptogram_under session request = mac_of session.suite session.key (input request)

-- the cryptogram by a card's keys: the one under the session key of the request's ATC
unfoldable pub application_cryptogram : CardKeys → Parts → List ℕ
application_cryptogram keys request = cryptogram_under (session_of keys request.atc) request
