-- The output so far is what it was, followed by the enciphered blocks so far, of which `previous` is the last.
use Rattle.retail_mac.proofs.Blocks.{Enciphers}
use Rattle.retail_mac.proofs.cbc_encipher.Given as goal

abbrev pub invariant-loop-i : goal.invariant-loop-i
invariant-loop-i l = Enciphers l.key.0 l.text l.initial.out.items l.i l.previous l.out.items
