-- The text so far is deciphered, and `previous` is the last block of it.
use Rattle.std.proofs.Common.{◌≡◌, ℕ, ◌*◌, List, length}
use Rattle.des_block.specs.Keyed.{HasKeyPair}
use Rattle.retail_mac.proofs.Padding.{Deciphers}
use Rattle.retail_mac.proofs.opening.deciphered.Given as goal

abbrev pub invariant-loop-i : goal.invariant-loop-i
invariant-loop-i l =
    (length l.plain.items ≡ 8 * l.i) × ((key : List ℕ) → HasKeyPair l.cipher key → Deciphers key l.text l.i l.previous l.plain.items)
