-- By either suite it is the block of that suite.
use Rattle.arpc_methods.proofs.enciphered.Goals as goal

pub returns-in-TripleDes : goal.returns-in-TripleDes
returns-in-TripleDes c = rw (c.in-TripleDes.is) (c.enciphered_by_des.ensures)

pub returns-in-Aes : goal.returns-in-Aes
returns-in-Aes c = rw (c.in-Aes.is) (c.enciphered_by_aes.ensures)
