-- What it means that a block cipher has a key.
use Rattle.std.specs.Prelude.{ℕ, List}
use Rattle.issuer_base.specs.declared.request.Suite.{Suite}
use Rattle.issuer_base.specs.declared.request.Suite.TheVariants.{TripleDes, Aes}
use Rattle.des_block.specs.Keyed.{HasKeyPair}
use Rattle.aes_cipher.specs.Columns.{HasKey}
use Rattle.key_derive.specs.declared.session.SuiteCipher.{SuiteCipher}
use Rattle.key_derive.specs.declared.session.SuiteCipher.TheVariants.{TripleDes as TripleDesCipher, Aes as AesCipher}

-- the key schedule is that of this key in this suite
abbrev pub HasCipherKey : SuiteCipher → Suite → List ℕ → Type 0
HasCipherKey (TripleDesCipher cipher) TripleDes key = HasKeyPair cipher key
HasCipherKey (AesCipher cipher) Aes key = HasKey cipher key
HasCipherKey _ _ key = ⊥
