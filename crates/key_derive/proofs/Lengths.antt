-- How long the session keys are.
use Rattle.std.proofs.Common.{◌≡◌, ℕ, List, length, slice_set, arith}
use Rattle.std.proofs.lemmas.List.{length-append}
use Rattle.issuer_base.specs.declared.request.Suite.{Suite}
use Rattle.issuer_base.specs.declared.request.Suite.TheVariants.{TripleDes, Aes}
use Rattle.des_block.specs.Cipher.{tdes_encipher}
use Rattle.des_block.proofs.Laws.{length-des_encipher}
use Rattle.aes_cipher.proofs.Laws.{length-aes_encipher}
use Rattle.key_derive.specs.SessionKey.{session_key, session_ac, session_sm}

length-tdes : (key block : List ℕ) → length (tdes_encipher key block) ≡ 8
unfolding tdes_encipher
length-tdes key block = length-des_encipher _ _

length-session_key : (mk value : List ℕ) → length (session_key mk value) ≡ 16
unfolding session_key
length-session_key mk value =
    omega (
      arith,
      length-append (tdes_encipher mk (slice_set value 2 0xF0)) (tdes_encipher mk (slice_set value 2 0x0F)),
      length-tdes mk (slice_set value 2 0xF0),
      length-tdes mk (slice_set value 2 0x0F),
    )

-- the session keys of triple DES have sixteen bytes
pub length-des_session_ac : (mk : List ℕ) (atc : ℕ) → length (session_ac TripleDes mk atc) ≡ 16
unfolding session_ac
length-des_session_ac mk atc = length-session_key mk _

pub length-des_session_sm : (mk ac : List ℕ) → length (session_sm TripleDes mk ac) ≡ 16
unfolding session_sm
length-des_session_sm mk ac = length-session_key mk ac

-- under a master key of sixteen bytes those of either suite do
pub length-session_ac : (suite : Suite) (mk : List ℕ) (atc : ℕ) → length mk ≡ 16 → length (session_ac suite mk atc) ≡ 16
unfolding session_ac
length-session_ac TripleDes mk atc sixteen = length-session_key mk _
length-session_ac Aes mk atc sixteen = length-aes_encipher mk _ sixteen

pub length-session_sm : (suite : Suite) (mk ac : List ℕ) → length mk ≡ 16 → length (session_sm suite mk ac) ≡ 16
unfolding session_sm
length-session_sm TripleDes mk ac sixteen = length-session_key mk ac
length-session_sm Aes mk ac sixteen = length-aes_encipher mk _ sixteen
