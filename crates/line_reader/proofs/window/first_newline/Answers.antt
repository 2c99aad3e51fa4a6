-- The first newline of the bytes within the room is the one that the search finds, or there is none.
use Rattle.std.proofs.Common.{ℕ, List, MatchOption, sym, subst, arith}
use Rattle.std.proofs.lemmas.List.{take_all}
use Rattle.line_reader.specs.Lines.{IsUnbroken, IsFirstNewline}
use Rattle.line_reader.proofs.Pieces.{IsFirstNewline-from_search}
use Rattle.line_reader.proofs.window.first_newline.Goals as goal

pub returns-then-room-bytes : goal.returns-then-room-bytes
returns-then-room-bytes c = IsFirstNewline-from_search _ _ c.memchr.ensures

pub returns-else-room-bytes : goal.returns-else-room-bytes
returns-else-room-bytes c =
    subst (λ (bytes : List ℕ). MatchOption c.memchr-else-room-bytes.result (IsUnbroken bytes) (IsFirstNewline bytes))
    (sym (take_all c.args.room c.args.bytes.now (omega arith))) (IsFirstNewline-from_search _ _ c.memchr-else-room-bytes.ensures)
