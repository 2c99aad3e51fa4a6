-- A card's master keys, derived on demand.
use Rattle.issuer_base.specs.declared.request.Suite.TheVariants.{TripleDes as TripleDesSuite, Aes as AesSuite}
use Rattle.aes_cipher.specs.Cipher.{aes_encipher}
use Rattle.key_derive.specs.declared.card.CardKeys.{CardKeys}
use Rattle.key_derive.specs.declared.lazy.KeySource.{KeySource}
use Rattle.key_derive.specs.declared.lazy.KeySource.TheVariants.{Derived, TripleDes, Aes}
use Rattle.key_derive.specs.MasterKey.{diversified}

-- the keys themselves, or those derived from the block of digits by the issuer's master keys
abbrev pub keys_from : KeySource → CardKeys
keys_from (Derived keys) = keys
keys_from (TripleDes ac smi block) = record {
  suite = TripleDesSuite;
  ac = record { 0 = diversified ac.0 block };
  smi = record { 0 = diversified smi.0 block };
}
keys_from (Aes pair block) = record {
  suite = AesSuite;
  ac = record { 0 = aes_encipher pair.ac.0 block };
  smi = record { 0 = aes_encipher pair.smi.0 block };
}
