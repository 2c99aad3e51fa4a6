-- The lines and answers of a lane, and what its pass knows.
use Rattle.std.specs.Prelude.{◌≡◌, ℕ, ◌==◌, Bool, not, List, [], length, map, take, drop, slice_get, Some}
use Rattle.issuer_base.specs.declared.answer.Answer.{Answer}
use Rattle.issuer_base.specs.declared.outside.store.Store.{Ghosts}
use Rattle.issuer_setup.specs.IssuerSetup.{Setup}
use Rattle.turn_book.specs.declared.logs.Log.{Log}
use Rattle.shared_shards.specs.declared.logs.LogItem.{LogItem}
use Rattle.shared_shards.specs.declared.logs.LogHead.{LogHead}
use Rattle.host_calls.specs.Passes.{claims_of, logs_of, IsFree}
use Rattle.host_calls.specs.declared.host.Host.{Host}
use Rattle.host_calls.specs.declared.pass.Pass.{Pass}
use Rattle.answer_text.specs.AnswerText.{printed}
use Rattle.shared_laws.specs.Callers.{Caller, AuthorisesAll, IsCaller}
use Rattle.shared_laws.specs.Dealing.{every}
use Rattle.shared_callers.specs.declared.lane.Lane.{Lane}
use Rattle.shared_callers.specs.declared.lane.LaneRoom.{LaneRoom}

-- the lines that it answers, or has answered
abbrev pub waiting_lines : Lane → List (List ℕ)
waiting_lines lane = lane.lines.lines

-- whether it has any
abbrev pub waits : Lane → Bool
waits lane = not (length (waiting_lines lane) == 0)

-- the texts of its answers to them
abbrev pub answer_texts : Lane → List (List ℕ)
answer_texts lane = lane.texts.texts

-- how many lines may wait
abbrev pub places_in : LaneRoom → ℕ
places_in room = room.part.lines.room

-- how many lines may wait in each lane, in their order
abbrev pub lane_rooms : List Lane → List ℕ
lane_rooms lanes = map (λ lane. lane.lines.room) lanes

-- the lanes' passes
abbrev pub passes_of : List Lane → List Pass
passes_of lanes = map (λ lane. lane.pass) lanes

-- the next lines that wait from this index on, as many as were looked up ahead
abbrev pub looked_up_lines : ℕ → Lane → List (List ℕ)
looked_up_lines place lane = take (length lane.ahead) (drop place (waiting_lines lane))

-- since the opening logs, the caller with this pass had these lines and these answers
pub record HadLines (issuer : Setup) (opening : List (Log LogItem LogHead)) (pass : Pass) (lines : List (List ℕ))
    (answers : List Answer) : Type 0 where
  pub caller : Caller
  pub caller_is : IsCaller issuer opening caller
  pub lines_are : caller.lines ≡ lines
  pub answers_are : caller.answers ≡ answers
  pub claims_are : caller.claims_now ≡ claims_of pass
  pub logs_are : caller.logs_now ≡ logs_of pass

-- the lane's caller has had no line
abbrev pub IsNewLane : Setup → List (Log LogItem LogHead) → Lane → Type 0
IsNewLane issuer opening lane = HadLines issuer opening lane.pass [] []

-- since the opening logs, the callers of all lanes had their turns of these lines and of these answers
abbrev pub HaveAllHad : Setup → List (Log LogItem LogHead) → List Lane → List (List ℕ) → List Answer → Type 0
HaveAllHad issuer opening lanes lines answers =
    (number : ℕ) (lane : Lane) → slice_get lanes number ≡ Some lane
    → HadLines issuer opening lane.pass (every (length lanes) number lines) (every (length lanes) number answers)

module _ {S : Type 0} {G : Ghosts S} where
  -- the lane's caller answered the lines that waited, in their order, and wrote the texts of its answers; its pass is
  -- free again
  pub record LaneAnswers (host : Host S G) (old new : Lane) : Type 0 where
    pub answers : List Answer
    pub calls : AuthorisesAll host.issuer (waiting_lines old) answers (claims_of old.pass) (logs_of old.pass)
        (claims_of new.pass) (logs_of new.pass)
    pub texts_are : answer_texts new ≡ map printed answers
    pub free : IsFree host new.pass
    pub names : (claims_of new.pass).names ≡ (claims_of old.pass).names
    pub room : new.lines.room ≡ old.lines.room

  -- each of the lanes has answered so
  pub record LanesAnswer (host : Host S G) (old new : List Lane) : Type 0 where
    pub count_is : length new ≡ length old
    pub each : (number : ℕ) (before after : Lane) → slice_get old number ≡ Some before
        → slice_get new number ≡ Some after → LaneAnswers host before after
