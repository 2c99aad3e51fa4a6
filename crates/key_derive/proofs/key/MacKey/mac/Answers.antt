use Rattle.std.proofs.Common.{take, ap, ◌∙◌}
use Rattle.key_derive.proofs.Suites.{triple-mac, aes-mac}
use Rattle.key_derive.proofs.key.MacKey.mac.Goals as goal

pub returns-in-TripleDes : goal.returns-in-TripleDes
returns-in-TripleDes c = rw (c.in-TripleDes.is) (triple-mac c.in-TripleDes.cipher c.args.text.now c.mac_under.result c.mac_under.ensures)

pub returns-in-Aes : goal.returns-in-Aes
returns-in-Aes c =
    rw (c.in-Aes.is)
    (aes-mac c.in-Aes.cipher c.args.text.now c.first_half.result (λ key has. c.first_half.ensures ∙ ap (take 8) (c.cmac.ensures key has)))
