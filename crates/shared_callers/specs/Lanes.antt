-- The lines and answers of one host's callers, and the lines that wait.
use Rattle.std.specs.Prelude.{◌≡◌, ℕ, ◌==◌, Bool, List, [], length, Option}
use Rattle.issuer_base.specs.Stores.{Disk}
use Rattle.issuer_base.specs.declared.answer.Answer.{Answer}
use Rattle.issuer_base.specs.declared.outside.store.Store.{Ghosts}
use Rattle.issuer_setup.specs.IssuerSetup.{Setup}
use Rattle.turn_book.specs.declared.logs.Log.{Log}
use Rattle.shared_shards.specs.ShardSeats.{opening_in}
use Rattle.shared_shards.specs.declared.logs.LogItem.{LogItem}
use Rattle.shared_shards.specs.declared.logs.LogHead.{LogHead}
use Rattle.shared_laws.specs.Closing.{AreClosed}
use Rattle.shared_laws.specs.OpeningLogs.{AreOpenedFrom}
use Rattle.shared_laws.specs.Laws.{AreLawfulShares}
use Rattle.shared_laws.specs.Shares.{Share, AreDealt}
use Rattle.shared_callers.specs.Dealt.{HasDealt}
use Rattle.shared_callers.specs.declared.lanes.Lanes.{Lanes}

module _ {S : Type 0} {G : Ghosts S} where
  -- the issuer of the host
  abbrev pub issuer_in : Lanes S G → Setup
  issuer_in lanes = lanes.host.issuer

  -- the logs that the host was loaded with
  abbrev pub opening_logs : Lanes S G → List (Log LogItem LogHead)
  opening_logs lanes = opening_in lanes.host.turns

  -- how many callers there are
  abbrev pub callers_in : Lanes S G → ℕ
  callers_in lanes = length lanes.lanes.items

  -- how many lines wait
  abbrev pub waiting_in : Lanes S G → ℕ
  waiting_in lanes = lanes.half.waiting

  -- how many answers are due: their texts weren't written yet
  abbrev pub due_in : Lanes S G → ℕ
  due_in lanes = lanes.half.due

  -- whether no more line fits
  abbrev pub is_full_in : Lanes S G → Bool
  is_full_in lanes = waiting_in lanes == lanes.half.room

  -- the issuer, the opening logs and the callers are the same
  pub record HasSameHost (old new : Lanes S G) : Type 0 where
    pub same_issuer : issuer_in new ≡ issuer_in old
    pub same_opening : opening_logs new ≡ opening_logs old
    pub same_callers : callers_in new ≡ callers_in old

  -- since the host was loaded, its callers gave these answers to these lines; the answers `due`, which are the last,
  -- weren't written yet; these lines wait
  pub record LanesServe (lanes : Lanes S G) (lines : List (List ℕ)) (answers due : List Answer)
      (waiting : List (List ℕ)) : Type 0 where
    pub dealt : HasDealt (issuer_in lanes) (opening_logs lanes) lanes.lanes.items lanes.half lines answers due waiting

  -- the lanes of an issuer with so many callers were loaded from these old stores, which were read then, and these
  -- stores: no line was answered, and none waits
  pub record AreLoadedFrom (issuer : Setup) (callers : ℕ) (olds read stores : List S) (lanes : Lanes S G) : Type 0 where
    pub issuer_is : issuer_in lanes ≡ issuer
    pub callers_are : callers_in lanes ≡ callers
    pub opening : AreOpenedFrom G.bytes G.disk G.faults issuer olds read stores (opening_logs lanes)
    pub served : LanesServe lanes [] [] [] []
    pub none_wait : waiting_in lanes ≡ 0
    pub none_due : due_in lanes ≡ 0

-- by the stores' observable bytes and disks, and their fault counters
module _ {S : Type 0} (bytes : S → Option (List ℕ)) (disk : S → Option Disk) (faults : S → ℕ) where
  -- a host with these opening logs was closed: its `count` callers were dealt these lines in turns and gave these
  -- answers, which are lawful by the logs at close; its stores hold the journals of these logs
  pub record HasClosed (issuer : Setup) (opening : List (Log LogItem LogHead)) (count : ℕ) (lines : List (List ℕ))
      (answers : List Answer)
      (stores : List S) : Type 0 where
    pub logs : List (Log LogItem LogHead)
    pub same_count : length logs ≡ length opening
    pub shares : List Share
    pub dealt : AreDealt count lines answers shares
    pub lawful : AreLawfulShares issuer opening logs shares
    pub closed : AreClosed bytes disk faults issuer opening logs stores
