-- The laws of a run of several callers, stated of their shares of the lines.
use Rattle.std.proofs.Common.{List}
use Rattle.issuer_setup.specs.IssuerSetup.{Setup}
use Rattle.turn_book.specs.declared.logs.Log.{Log}
use Rattle.shared_shards.specs.declared.logs.LogItem.{LogItem}
use Rattle.shared_shards.specs.declared.logs.LogHead.{LogHead}
use Rattle.shared_laws.specs.Callers.{Caller}
use Rattle.shared_laws.specs.Laws.{AreLawfulShares}
use Rattle.shared_laws.proofs.CallersAnswers.{AreCallers, shares_of}
use Rattle.shared_laws.proofs.CountersSettled.{counters-settled}
use Rattle.shared_laws.proofs.EachPlace.{each-place, faults-told, each-fault}
use Rattle.shared_laws.proofs.OneRun.{callers-explained}
use Rattle.shared_laws.proofs.RightlyPending.{rightly-pending, fault-passes}
use Rattle.shared_laws.proofs.RisingFaults.{faults-counted}
use Rattle.shared_laws.proofs.SharesOfCallers.{explained-shares, own-shares, counted-shares, settled-shares}

pub lawful-shares : (issuer : Setup) (opening logs : List (Log LogItem LogHead)) (callers : List Caller)
    → AreCallers issuer opening logs callers → AreLawfulShares issuer opening logs (shares_of callers)
lawful-shares issuer opening logs callers are = record {
  explained = explained-shares issuer callers opening logs (callers-explained issuer opening logs callers are);
  each_record_is_one_answers = own-shares issuer callers opening logs (record {
    places = λ shard place below. each-place issuer opening logs callers are shard below place;
    pending = λ number index caller caller_is is.
        rightly-pending issuer opening logs callers are number caller caller_is index is;
    passes = λ number index caller caller_is is.
        fault-passes issuer opening caller (are.each number caller caller_is) index is;
    told = λ shard below. faults-told issuer opening logs callers are shard below;
    told_once = λ shard below few. each-fault issuer opening logs callers are shard below few;
  });
  faults_are_counted = counted-shares issuer callers logs (faults-counted issuer opening logs callers are);
  settled = λ plain. settled-shares issuer callers opening (counters-settled issuer opening logs callers are plain);
}
