-- When a recorded decision is a valid successor of a history, whatever the issuer's decision table was then.
use Rattle.std.specs.Prelude.{◌≡◌, ◌≢◌, ℕ, Bool, ◌==◌, List, [], ◌∷◌, slice_index, bit_and, All}
use Rattle.issuer_base.specs.declared.answer.Method.{Method}
use Rattle.issuer_base.specs.declared.answer.Method.TheVariants.{Two}
use Rattle.issuer_base.specs.declared.answer.Reply.{Reply}
use Rattle.issuer_base.specs.declared.entry.Entry.{Entry}
use Rattle.issuer_base.specs.declared.request.Request.{Request}
use Rattle.key_derive.specs.declared.card.CardKeys.{CardKeys}
use Rattle.card_history.specs.Records.{card_of, greatest_atc, IsBelowBy}
use Rattle.card_history.specs.Scripts.{Scripts, scripts_of}
use Rattle.card_history.specs.Turns.{decided_for}
use Rattle.row_core.specs.Replying.{reply_bytes}

-- the card status update in the bytes of a reply by method 2: the four bytes after the object 8A, the tag and length of
-- the object 91 and the ARPC; a missing byte counts as 0
abbrev pub told_update : List ℕ → List ℕ
told_update bytes = slice_index bytes 10 ∷ slice_index bytes 11 ∷ slice_index bytes 12 ∷ slice_index bytes 13 ∷ []

-- whether a card status update has the issuer's approval: byte 2 bit 8, this project's profile
abbrev pub says_approval : List ℕ → Bool
says_approval update = bit_and (slice_index update 1) 0x80 == 0x80

-- the reply's bytes are those for its response code and, by method 2, for the status update that they hold, which
-- agrees with its approval
pub record IsMade (method : Method) (keys : CardKeys) (scripts : Scripts) (request : Request) (reply : Reply)
    : Type 0 where
  pub bytes_are : reply.bytes.items ≡ reply_bytes method keys scripts request reply.arc (told_update reply.bytes.items)
  pub agrees : method ≡ Two → says_approval (told_update reply.bytes.items) ≡ reply.approve

-- a decision with this reply is a valid successor of this history: its ATC is in this window and unused, and the issuer
-- makes the reply, by some row of a decision table
pub record IsValidSuccessor (window : ℕ) (method : Method) (keys : CardKeys) (history : List Entry) (request : Request)
    (reply : Reply) : Type 0 where
  pub in_window : IsBelowBy window (greatest_atc (decided_for request history)) request.atc → ⊥
  pub unrecorded : All (λ decision. decision.request.atc ≢ request.atc) (decided_for request history)
  pub made : IsMade method keys (scripts_of (card_of request) history) request reply
