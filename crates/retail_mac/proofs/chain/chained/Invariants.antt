-- One block more, and the chain is still that of the blocks so far.
use Rattle.std.proofs.Common.{◌≡◌, ℕ, List, fold}
use Rattle.des_block.specs.Cipher.{word_bytes}
use Rattle.des_block.specs.Keyed.{HasKey}
use Rattle.retail_mac.specs.Mac.{blocks, chained}
use Rattle.retail_mac.proofs.chain.chained.Given as goal

abbrev pub invariant-loop-i : goal.invariant-loop-i
invariant-loop-i l = (key : List ℕ) → HasKey l.cipher key → word_bytes l.chain ≡ fold (chained key) (word_bytes l.initial.chain) (blocks l.i l.text)
