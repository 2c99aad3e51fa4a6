-- The keys of a card from the keys of its issuer: EMV 4.3 Book 2, Annex A1.4. Those with AES are this project's
-- profile.
use Rattle.std.specs.Prelude.{ℕ, List, Option, Some}
use Rattle.std.specs.Option.{option_map}
use Rattle.des_block.specs.declared.Key16.{Key16}
use Rattle.issuer_base.specs.declared.request.Suite.{Suite}
use Rattle.issuer_base.specs.declared.request.Suite.TheVariants.{TripleDes, Aes}
use Rattle.key_derive.specs.declared.card.AesPair.{AesPair}
use Rattle.key_derive.specs.declared.card.KeySet.{KeySet}
use Rattle.key_derive.specs.declared.card.CardKeys.{CardKeys}
use Rattle.key_derive.specs.MasterKey.{master_key, aes_master}

-- the card's master keys for cryptograms and for secure messaging, each from the issuer's triple DES key of that use
abbrev pub des_keys : KeySet → List ℕ → ℕ → CardKeys
des_keys set pan psn = record {
  suite = TripleDes;
  ac = record { 0 = master_key set.option set.ac.0 pan psn };
  smi = record { 0 = master_key set.option set.smi.0 pan psn };
}

-- the two from the issuer's AES keys
abbrev pub aes_keys : AesPair → List ℕ → ℕ → CardKeys
aes_keys pair pan psn = record {
  suite = Aes;
  ac = record { 0 = aes_master pair.ac.0 pan psn };
  smi = record { 0 = aes_master pair.smi.0 pan psn };
}

-- the card's keys of a suite, if the key set has keys of it
abbrev pub card_keys : KeySet → Suite → List ℕ → ℕ → Option CardKeys
card_keys set TripleDes pan psn = Some (des_keys set pan psn)
card_keys set Aes pan psn = option_map (λ pair. aes_keys pair pan psn) set.aes

-- the card's master key for secure messaging for confidentiality, if the key set has the issuer's: with triple DES,
-- whatever the card's suite
abbrev pub card_smc : KeySet → List ℕ → ℕ → Option Key16
card_smc set pan psn = option_map (λ smc. record { 0 = master_key set.option smc.0 pan psn }) set.smc
