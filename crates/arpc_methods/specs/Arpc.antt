-- The ARPC and the issuer authentication data: EMV 4.3 Book 2, section 8.2, for triple DES. Those with AES are this
-- project's profile.
use Rattle.std.specs.Prelude.{ℕ, List, ◌++◌, take, replicate}
use Rattle.des_block.specs.Cipher.{tdes_encipher}
use Rattle.aes_cipher.specs.Cipher.{aes_encipher}
use Rattle.retail_mac.specs.Mac.{xor_bytes}
use Rattle.key_derive.specs.SuiteMac.{mac_of}
use Rattle.issuer_base.specs.declared.request.Suite.{Suite}
use Rattle.issuer_base.specs.declared.request.Suite.TheVariants.{TripleDes, Aes}
use Rattle.issuer_base.specs.declared.answer.Method.{Method}
use Rattle.issuer_base.specs.declared.answer.Method.TheVariants.{One, Two}

-- the first eight bytes of a block of eight bytes enciphered, which for AES zeros fill up
abbrev pub eight_of : Suite → List ℕ → List ℕ → List ℕ
eight_of TripleDes sk block = tdes_encipher sk block
eight_of Aes sk block = take 8 (aes_encipher sk (block ++ replicate 8 0))

-- method 1, section 8.2.1: the application cryptogram xor the response code and six zeros, enciphered
unfoldable pub method1 : Suite → List ℕ → List ℕ → List ℕ → List ℕ
method1 suite sk ac arc = eight_of suite sk (xor_bytes ac (arc ++ replicate 6 0))

-- method 2, section 8.2.2: the four leftmost bytes of the MAC of the application cryptogram and the status update
unfoldable pub method2 : Suite → List ℕ → List ℕ → List ℕ → List ℕ
method2 suite sk ac csu = take 4 (mac_of suite sk (ac ++ csu))

-- the value of tag 91: the ARPC, and the response code or the status update; that method 1 ends with the response code
-- and that method 2 has no proprietary data is this project's profile
unfoldable pub value91 : Suite → Method → List ℕ → List ℕ → List ℕ → List ℕ → List ℕ
value91 suite One sk ac arc csu = method1 suite sk ac arc ++ arc
value91 suite Two sk ac arc csu = method2 suite sk ac csu ++ csu
