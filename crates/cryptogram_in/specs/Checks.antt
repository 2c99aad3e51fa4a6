-- A cryptogram of triple DES that is to be checked, all that it depends on, and what its check comes to.
use Rattle.std.specs.Prelude.{ℕ, List, [], ◌∷◌, Option, None, Some, if◌then◌else◌, replicate}
use Rattle.std.specs.Str.{bytes_eq}
use Rattle.des_block.specs.declared.Key16.{Key16}
use Rattle.issuer_base.specs.declared.request.Parts.{Parts}
use Rattle.issuer_base.specs.declared.request.Suite.TheVariants.{TripleDes}
use Rattle.retail_mac.specs.Mac.{retail_mac}
use Rattle.key_derive.specs.SessionKey.{session_ac}
use Rattle.cryptogram_in.specs.Cryptogram.{input}

-- the card's master key for application cryptograms, the ATC, the data under the cryptogram, and the cryptogram
pub record DesCheck : Type 0 where
  pub key : Key16
  pub atc : ℕ
  pub input : List ℕ
  pub ac : List ℕ

-- a check of zeros
abbrev pub blank : DesCheck
blank = record { key = record { 0 = replicate 16 0 }; atc = 0; input = replicate 65 0; ac = replicate 8 0 }

-- the checks with these keys, ATCs, data and cryptograms, as many as the shortest list has
unfoldable pub checks_from : List Key16 → List ℕ → List (List ℕ) → List (List ℕ) → List DesCheck
checks_from keys [] inputs acs = []
checks_from [] (atc ∷ atcs) inputs acs = []
checks_from (key ∷ keys) (atc ∷ atcs) [] acs = []
checks_from (key ∷ keys) (atc ∷ atcs) (input ∷ inputs) [] = []
checks_from (key ∷ keys) (atc ∷ atcs) (input ∷ inputs) (ac ∷ acs) =
    record { key = key; atc = atc; input = input; ac = ac } ∷ checks_from keys atcs inputs acs

-- what is checked of a request under this master key of triple DES
abbrev pub check_of : Key16 → Parts → DesCheck
check_of key request = record { key = key; atc = request.atc; input = input request; ac = request.ac }

-- the session key of the check's ATC
unfoldable pub des_session : DesCheck → List ℕ
des_session check = session_ac TripleDes check.key.0 check.atc

-- the expected cryptogram
unfoldable pub des_mac : DesCheck → List ℕ
des_mac check = retail_mac (des_session check) check.input

-- the session key, if the cryptogram is the expected one
unfoldable pub right_session : DesCheck → Option Key16
right_session check = if bytes_eq check.ac (des_mac check) then Some (record { 0 = des_session check }) else None
