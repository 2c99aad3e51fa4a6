-- Both subkeys are derived from the encipherment of a block of zeros.
use Rattle.std.proofs.Common.{◌≡◌, ap, ◌∙◌}
use Rattle.aes_cipher.specs.Mac.{zero_block, twice, subkey_1, subkey_2}
use Rattle.aes_cipher.proofs.mac.CmacKey.new.Goals as goal

pub returns : goal.returns
unfolding zero_block subkey_1 subkey_2
returns c =
    let one : c.twice-whole.result ≡ subkey_1 c.args.key.now = c.twice-whole.ensures
    ∙ ap twice (c.encipher.ensures c.args.key.now c.new-cipher.ensures) in
    record {
      cipher = c.new-cipher.ensures;
      whole = c.new.ensures ∙ one;
      padded = c.new-2.ensures ∙ c.twice-padded.ensures ∙ ap twice one;
    }
