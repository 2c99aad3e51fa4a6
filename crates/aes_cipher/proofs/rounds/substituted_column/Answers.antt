-- Four table lookups are the substitution of the four bytes.
use Rattle.std.proofs.Common.{◌/◌, ◌%◌, ◌^◌, bit_and, arith}
use Rattle.std.proofs.lemmas.Nat.{and_mask}
use Rattle.aes_cipher.specs.Columns.{word_bytes, diagonal}
use Rattle.aes_cipher.proofs.MergedTables.{unmixed_are}
use Rattle.aes_cipher.proofs.rounds.substituted_column.Goals as goal

pub returns : goal.returns
unfolding word_bytes diagonal
returns c =
    unmixed_are (c.args.a / 2 ^ 24) (bit_and (c.args.b / 2 ^ 16) 255) (bit_and (c.args.c / 2 ^ 8) 255)
    (bit_and c.args.d 255)
    (c.args.a / 2 ^ 24 % 2 ^ 8) (c.args.b / 2 ^ 16 % 2 ^ 8) (c.args.c / 2 ^ 8 % 2 ^ 8) (c.args.d % 2 ^ 8)
    (omega arith) (and_mask (c.args.b / 2 ^ 16) 8) (and_mask (c.args.c / 2 ^ 8) 8) (and_mask c.args.d 8)
    (omega arith) (omega arith) (omega arith) (omega arith)
