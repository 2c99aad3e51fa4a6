-- How long the MAC of a suite is.
use Rattle.std.proofs.Common.{◌≡◌, ℕ, List, length, arith}
use Rattle.std.proofs.lemmas.List.{length-take-le}
use Rattle.retail_mac.proofs.Blocks.{length-retail_mac}
use Rattle.aes_cipher.specs.Mac.{cmac}
use Rattle.aes_cipher.proofs.Laws.{length-cmac}
use Rattle.issuer_base.specs.declared.request.Suite.{Suite}
use Rattle.issuer_base.specs.declared.request.Suite.TheVariants.{TripleDes, Aes}
use Rattle.key_derive.specs.SuiteMac.{mac_of}

-- under a key of sixteen bytes a MAC has eight bytes
pub length-mac_of : (suite : Suite) (key text : List ℕ) → length key ≡ 16 → length (mac_of suite key text) ≡ 8
unfolding mac_of
length-mac_of TripleDes key text sixteen = length-retail_mac key text
length-mac_of Aes key text sixteen = length-take-le 8 (cmac key text) (omega (arith, length-cmac key text sixteen))
