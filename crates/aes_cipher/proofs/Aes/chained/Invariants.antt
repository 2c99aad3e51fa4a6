-- One block more, and the chain is still that of the blocks so far.
use Rattle.std.proofs.Common.{◌≡◌, ℕ, List, fold}
use Rattle.aes_cipher.specs.Columns.{state_bytes, HasKey}
use Rattle.aes_cipher.specs.Mac.{blocks, chained}
use Rattle.aes_cipher.proofs.Aes.chained.Given as goal

abbrev pub invariant-loop-i : goal.invariant-loop-i
invariant-loop-i l =
    (key : List ℕ) → HasKey l.self key
    → state_bytes l.chain ≡ fold (chained key) (state_bytes l.initial.chain) (blocks l.i l.text)
