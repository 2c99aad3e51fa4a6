-- The laws of several callers at one host, by the logs at opening and at close.
use Rattle.std.specs.Prelude.{List}
use Rattle.issuer_setup.specs.IssuerSetup.{Setup}
use Rattle.turn_book.specs.declared.logs.Log.{Log}
use Rattle.shared_shards.specs.declared.logs.LogItem.{LogItem}
use Rattle.shared_shards.specs.declared.logs.LogHead.{LogHead}
use Rattle.shared_laws.specs.Explained.{AreExplained, history_at, histories_in}
use Rattle.shared_laws.specs.FaultCounts.{AreFaultsCounted}
use Rattle.shared_laws.specs.OwnPlaces.{AreOwnPlaces, faults_at}
use Rattle.shared_laws.specs.Settled.{AreSettled, TellNoFault}
use Rattle.shared_laws.specs.Shares.{Share}

-- the laws of the answers in the callers' shares, whatever the lines, and in whatever order the callers' turns came
pub record AreLawfulShares (issuer : Setup) (opening logs : List (Log LogItem LogHead))
    (shares : List Share) : Type 0 where
  -- the histories at opening and at close explain each answer; each request has one reply
  pub explained : AreExplained issuer (history_at opening) (history_at logs) (histories_in logs) shares
  -- exactly one answer names each record after the opening logs
  pub each_record_is_one_answers : AreOwnPlaces issuer (history_at opening) (history_at logs) (faults_at logs) shares
  -- at most as many answers report that a store failed as its fault counter increased
  pub faults_are_counted : AreFaultsCounted issuer logs shares
  -- if no log has a fault, each ATC that a request names is settled
  pub settled : TellNoFault issuer logs → AreSettled issuer (history_at opening) shares
