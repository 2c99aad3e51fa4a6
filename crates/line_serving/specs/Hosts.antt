-- The hosts that lines are served with: what is asked of each, and what the one of one caller is.
use Rattle.std.specs.Prelude.{◌≡◌, ℕ, ◌+◌, ◌<◌, ◌≤◌, false, List, [], length}
use Rattle.std.specs.List.{flat_map}
use Rattle.issuer_base.specs.declared.answer.Answer.{Answer}
use Rattle.issuer_base.specs.declared.outside.store.Store.{Ghosts}
use Rattle.issuer_setup.specs.IssuerSetup.{Setup}
use Rattle.answer_text.specs.AnswerText.{printed}
use Rattle.line_checks.specs.LookedUp.{AreLookUps}
use Rattle.line_checks.specs.declared.lines_ahead.TheConstants.{MOST_AHEAD}
use Rattle.one_caller.specs.declared.solo.Solo.{Solo}
use Rattle.host_loading.specs.Books.{ShardBook}
use Rattle.one_caller.specs.Runs.{HasRun}
use Rattle.shared_callers.specs.declared.lanes.Lanes.{Lanes}
use Rattle.line_blocks.specs.declared.block.Block.{Block}
use Rattle.line_blocks.specs.declared.block.TheConstants.{BLOCK_LINES}
use Rattle.line_reader.specs.Reading.{unread}
use Rattle.line_serving.specs.Durable.{IsRecordedText}
use Rattle.line_serving.specs.Idle.{MayReadOn}
use Rattle.line_serving.specs.declared.serve.Server.{Server}
use Rattle.line_serving.specs.declared.alone.AloneHost.{AloneHost}
use Rattle.line_serving.specs.declared.hosts.LineHost.{LineHost}
use Rattle.line_serving.specs.declared.hosts.LineHost.TheVariants.{Alone, Together}
use Rattle.shared_callers.specs.Lanes.{issuer_in, opening_logs, callers_in, waiting_in, due_in, is_full_in, HasSameHost}
use Rattle.shared_callers.specs.Lanes.{LanesServe}
use Rattle.shared_laws.specs.OpeningLogs.{AreOpenedFrom}
use Rattle.host_loading.specs.Loading.{AreOnlyRead}
use Rattle.desk_host.specs.Journals.{HasAllOpened, IsReadySolo}
use Rattle.desk_host.specs.SeenStores.{Logged}

-- ---- the host of one caller, that of several, and either

module _ {S : Type 0} {G : Ghosts S} where
  -- since it was this host, these lines were answered, with this text, and these were looked up and wait
  pub record HasAnswered (first : Solo S G) (lines : List (List ℕ)) (text : List ℕ) (waiting : List (List ℕ))
      (now : AloneHost S G) : Type 0 where
    pub waits : AreLookUps first.issuer waiting now.ahead
    pub issuer_is : now.host.issuer ≡ first.issuer
    pub answers : List Answer
    pub text_is : text ≡ flat_map printed answers
    pub run : (books : List ShardBook) → HasRun first.issuer first.shards.items books [] [] first.shards.items books
        → (last : List ShardBook) × HasRun first.issuer first.shards.items books lines answers now.host.shards.items last

  -- the lines that wait were looked up and are fewer than are checked together, and their answers fit a block that has
  -- the answers to so many lines; the text of these answers is due, and the record of each is in its shard's history
  pub record MaySettleAlone (alone : AloneHost S G) (lines : ℕ) (due : List ℕ) : Type 0 where
    pub waiting : List (List ℕ)
    pub looked_up : AreLookUps alone.host.issuer waiting alone.ahead
    pub few : length alone.ahead < MOST_AHEAD
    pub fit : lines + length alone.ahead ≤ BLOCK_LINES
    pub recorded : IsRecordedText alone.host due

  -- so does the answer to another line
  pub record TakesMoreAlone (alone : AloneHost S G) (lines : ℕ) (due : List ℕ) : Type 0 where
    pub may_settle : MaySettleAlone alone lines due
    pub fits : lines + length alone.ahead < BLOCK_LINES

  -- it was loaded for this issuer and more than one caller, from the journals that the desk had under their names; of
  -- these, the old ones were only read. It has answered no line
  pub record IsReadyTogether (issuer : Setup) (prefix : List ℕ) (logs : Logged) (olds : List S) (host : Lanes S G)
      : Type 0 where
    pub issuer_is : issuer_in host ≡ issuer
    pub several : 1 < callers_in host
    pub old_stores : List S
    pub stores : List S
    pub opened : HasAllOpened G issuer prefix logs old_stores stores
    pub opening : AreOpenedFrom G.bytes G.disk G.faults issuer old_stores olds stores (opening_logs host)
    pub only_read : AreOnlyRead G.size G.bytes G.disk G.room old_stores olds
    pub none : LanesServe host [] [] [] []

  -- since it was the first host, its callers answered these lines, with this text, and these wait; the last of the
  -- answers may be due
  pub record HaveAnswered (first : Lanes S G) (lines : List (List ℕ)) (text : List ℕ) (waiting : List (List ℕ))
      (now : Lanes S G) : Type 0 where
    pub same : HasSameHost first now
    pub answers : List Answer
    pub due : List Answer
    pub text_is : text ≡ flat_map printed answers
    pub served : LanesServe now lines answers due waiting

  -- all answers of its block were written, and none of those that were given is due; and another line may be taken
  pub record OwesNone (host : Lanes S G) (lines : ℕ) : Type 0 where
    pub no_lines : lines ≡ 0
    pub none_due : due_in host ≡ 0
    pub answered : List (List ℕ)
    pub answers : List Answer
    pub waiting : List (List ℕ)
    pub served : LanesServe host answered answers [] waiting

  pub record TakesMore (host : Lanes S G) (lines : ℕ) : Type 0 where
    pub owes_none : OwesNone host lines
    pub not_full : is_full_in host ≡ false

  -- it has so many callers, no line waits, and one may be taken
  pub record IsFreshTogether (callers : ℕ) (host : Lanes S G) : Type 0 where
    pub callers_are : callers_in host ≡ callers
    pub takes_more : TakesMore host 0
    pub none_waits : waiting_in host ≡ 0

  -- ---- either host

  -- how many callers it has
  abbrev pub callers_of : LineHost S G → ℕ
  callers_of (Alone host) = 1
  callers_of (Together host) = callers_in host

  -- it was just loaded for this issuer, from the journals that the desk had under their names
  abbrev pub IsReady : Setup → List ℕ → Logged → List S → LineHost S G → Type 0
  IsReady issuer prefix logs olds (Alone alone) = IsReadySolo issuer prefix logs olds alone.host
  IsReady issuer prefix logs olds (Together host) = IsReadyTogether issuer prefix logs olds host

  -- since it was the first host, these lines were answered, with this text, and these were taken and wait
  abbrev pub HasServed : LineHost S G → List (List ℕ) → List ℕ → List (List ℕ) → LineHost S G → Type 0
  HasServed (Alone first) lines text waiting (Alone now) = HasAnswered first.host lines text waiting now
  HasServed (Together first) lines text waiting (Together now) = HaveAnswered first lines text waiting now
  HasServed _ lines text waiting _ = ⊥

  -- the lines that wait may be settled into a block that has the answers to so many lines, and their text
  abbrev pub MaySettle : LineHost S G → ℕ → List ℕ → Type 0
  MaySettle (Alone alone) lines due = MaySettleAlone alone lines due
  MaySettle (Together host) lines due = OwesNone host lines

  -- beside such a block another line may be taken
  abbrev pub HasRoom : LineHost S G → ℕ → List ℕ → Type 0
  HasRoom (Alone alone) lines due = TakesMoreAlone alone lines due
  HasRoom (Together host) lines due = TakesMore host lines

  -- no line waits
  abbrev pub IsSettled : LineHost S G → Type 0
  IsSettled (Alone alone) = alone.ahead ≡ []
  IsSettled (Together host) = waiting_in host ≡ 0

  -- no line waits, no answer is due, and beside a block that counts so many lines one may be taken
  pub record IsIdle (host : LineHost S G) (lines : ℕ) : Type 0 where
    pub room : HasRoom host lines []
    pub may_settle : MaySettle host lines []
    pub settled : IsSettled host

  -- no line waits, and no answer is due, nor one of its block
  pub record OwesNoAnswer (host : LineHost S G) (block : Block) : Type 0 where
    pub idle : IsIdle host block.lines
    pub none_due : block.text.items ≡ []

  -- it has so many callers, has answered no line, and is idle
  pub record IsFresh (callers : ℕ) (host : LineHost S G) : Type 0 where
    pub callers_are : callers_of host ≡ callers
    pub none_served : HasServed host [] [] [] host
    pub idle : IsIdle host 0

-- ---- the server

-- it may ask for the next line: that is whole in memory, or no line waits and no answer is due
abbrev pub MayServeOn : {S : Type 0} {G : Ghosts S} → LineHost S G → Server → Type 0
MayServeOn host server = MayReadOn server.reader (OwesNoAnswer host server.block)

-- a server that has read nothing and owes no answer
pub record IsNew (server : Server) : Type 0 where
  pub reads_first : server.reader ≡ unread
  pub none_due : server.block.text.items ≡ []
  pub no_lines : server.block.lines ≡ 0
