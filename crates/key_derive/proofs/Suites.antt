-- What a key or a run of one suite states of each suite.
use Rattle.std.proofs.Common.{◌≡◌, ℕ, List, [], ◌++◌, take}
use Rattle.des_block.specs.declared.Tdes.{Tdes}
use Rattle.des_block.specs.Keyed.{HasKeyPair}
use Rattle.retail_mac.specs.Mac.{retail_mac}
use Rattle.retail_mac.specs.declared.run.MacRun.{MacRun}
use Rattle.retail_mac.specs.Run.{IsRun as IsRetailRun}
use Rattle.aes_cipher.specs.declared.mac.CmacKey.{CmacKey}
use Rattle.aes_cipher.specs.declared.run.CmacRun.{CmacRun}
use Rattle.aes_cipher.specs.Mac.{cmac, HasCmacKey}
use Rattle.aes_cipher.specs.Run.{IsRun as IsCmacRun}
use Rattle.issuer_base.specs.declared.request.Suite.{Suite}
use Rattle.issuer_base.specs.declared.request.Suite.TheVariants.{TripleDes, Aes}
use Rattle.key_derive.specs.declared.key.MacKey.TheVariants.{TripleDes as TripleDesKey, Aes as AesKey}
use Rattle.key_derive.specs.declared.run.SuiteRun.TheVariants.{TripleDes as TripleDesRun, Aes as AesRun}
use Rattle.key_derive.specs.SuiteMac.{mac_of, HasMacKey}
use Rattle.key_derive.specs.SuiteRun.{IsRun}

-- a retail MAC is the MAC of the suite that its key has
pub triple-mac : (cipher : Tdes) (text mac : List ℕ) → ((key : List ℕ) → HasKeyPair cipher key → mac ≡ retail_mac key text)
    → (suite : Suite) (key : List ℕ) → HasMacKey (TripleDesKey cipher) suite key → mac ≡ mac_of suite key text
unfolding mac_of
triple-mac cipher text mac is TripleDes key has = is key has
triple-mac cipher text mac is Aes key has = absurd has

-- so is the first half of a CMAC
pub aes-mac : (cipher : CmacKey) (text mac : List ℕ) → ((key : List ℕ) → HasCmacKey cipher key → mac ≡ take 8 (cmac key text))
    → (suite : Suite) (key : List ℕ) → HasMacKey (AesKey cipher) suite key → mac ≡ mac_of suite key text
unfolding mac_of
aes-mac cipher text mac is TripleDes key has = absurd has
aes-mac cipher text mac is Aes key has = is key has

-- a retail MAC's run with one more piece
pub triple-more : (old new : MacRun) (piece : List ℕ)
    → ((key text : List ℕ) → IsRetailRun old key text → IsRetailRun new key (text ++ piece))
    → (suite : Suite) (key text : List ℕ) → IsRun (TripleDesRun old) suite key text → IsRun (TripleDesRun new) suite key (text ++ piece)
triple-more old new piece more TripleDes key text is = more key text is
triple-more old new piece more Aes key text is = absurd is

-- a CMAC's run with one more piece
pub aes-more : (old new : CmacRun) (piece : List ℕ)
    → ((key text : List ℕ) → IsCmacRun old key text → IsCmacRun new key (text ++ piece))
    → (suite : Suite) (key text : List ℕ) → IsRun (AesRun old) suite key text → IsRun (AesRun new) suite key (text ++ piece)
aes-more old new piece more TripleDes key text is = absurd is
aes-more old new piece more Aes key text is = more key text is

-- the MAC of a retail MAC's run
pub triple-taken : (run : MacRun) (mac : List ℕ) → ((key text : List ℕ) → IsRetailRun run key text → mac ≡ retail_mac key text)
    → (suite : Suite) (key text : List ℕ) → IsRun (TripleDesRun run) suite key text → mac ≡ mac_of suite key text
unfolding mac_of
triple-taken run mac taken TripleDes key text is = taken key text is
triple-taken run mac taken Aes key text is = absurd is

-- the MAC of a CMAC's run
pub aes-taken : (run : CmacRun) (mac : List ℕ) → ((key text : List ℕ) → IsCmacRun run key text → mac ≡ take 8 (cmac key text))
    → (suite : Suite) (key text : List ℕ) → IsRun (AesRun run) suite key text → mac ≡ mac_of suite key text
unfolding mac_of
aes-taken run mac taken TripleDes key text is = absurd is
aes-taken run mac taken Aes key text is = taken key text is

-- a run that begins anew, of either suite
pub triple-again : (old new : MacRun) → ((key text : List ℕ) → IsRetailRun old key text → IsRetailRun new key [])
    → (suite : Suite) (key text : List ℕ) → IsRun (TripleDesRun old) suite key text → IsRun (TripleDesRun new) suite key []
triple-again old new again TripleDes key text is = again key text is
triple-again old new again Aes key text is = absurd is

pub aes-again : (old new : CmacRun) → ((key text : List ℕ) → IsCmacRun old key text → IsCmacRun new key [])
    → (suite : Suite) (key text : List ℕ) → IsRun (AesRun old) suite key text → IsRun (AesRun new) suite key []
aes-again old new again TripleDes key text is = absurd is
aes-again old new again Aes key text is = again key text is
