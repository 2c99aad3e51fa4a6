-- The bytes so far are those of the words so far.
use Rattle.std.proofs.Common.{◌≡◌, map, take}
use Rattle.des_block.specs.Cipher.{word_bytes}
use Rattle.des_lanes.proofs.words.bytes_of.Given as goal

abbrev pub invariant-loop-word : goal.invariant-loop-word
invariant-loop-word l = l.out.items ≡ map word_bytes (take l.word-index l.words)
