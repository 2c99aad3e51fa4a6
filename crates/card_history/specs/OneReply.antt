-- That each ATC of a card is decided at most once, and that a reply is that of its record.
use Rattle.std.specs.Prelude.{◌≡◌, ℕ, List, [], slice_get, slice_index_or, Option, Some, None}
use Rattle.issuer_base.specs.declared.request.Request.{Request}
use Rattle.issuer_base.specs.declared.answer.Reply.{Reply}
use Rattle.issuer_base.specs.declared.answer.Answer.{Answer}
use Rattle.issuer_base.specs.declared.answer.Answer.TheVariants.{Fresh, Kept}
use Rattle.issuer_base.specs.declared.entry.Entry.{Entry}
use Rattle.issuer_base.specs.declared.entry.Entry.TheVariants.{Decided}
use Rattle.card_history.specs.Records.{card_of}

-- the record at this index of this shard's history, if there is one
abbrev pub record_at : List (List Entry) → ℕ → ℕ → Option Entry
record_at histories shard place = slice_get (slice_index_or histories shard []) place

-- no two decided records are of the same card and ATC
abbrev pub IsOncePerCounter : List (List Entry) → Type 0
IsOncePerCounter histories =
    (shard other_shard place other_place : ℕ) (request other : Request) (reply other_reply : Reply)
    → record_at histories shard place ≡ Some (Decided request reply)
    → record_at histories other_shard other_place ≡ Some (Decided other other_reply)
    → card_of request ≡ card_of other → request.atc ≡ other.atc → (shard ≡ other_shard) × (place ≡ other_place)

-- the reply in an answer, or none
abbrev pub reply_in : Answer → Option Reply
reply_in (Fresh shard place reply) = Some reply
reply_in (Kept shard place reply) = Some reply
reply_in _ = None

-- if the answer has a reply, the record at its shard and index decides this request with this reply
abbrev pub IsOfItsRecord : List (List Entry) → Request → Answer → Type 0
IsOfItsRecord histories request (Fresh shard place reply) =
    record_at histories shard place ≡ Some (Decided request reply)
IsOfItsRecord histories request (Kept shard place reply) =
    record_at histories shard place ≡ Some (Decided request reply)
IsOfItsRecord histories request _ = Unit {0}
