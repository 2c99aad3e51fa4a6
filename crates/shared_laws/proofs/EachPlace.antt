-- Each record and each fault of a run is one answer's.
use Rattle.std.proofs.Common.{◌≡◌, ℕ, ◌<◌, ◌≤◌, List, length, Some, sym, ap, ◌∙◌, arith}
use Rattle.std.specs.List.{slice_get}
use Rattle.issuer_base.specs.declared.limits.TheConstants.{MAX_FAULTS_REPORTED}
use Rattle.issuer_setup.specs.IssuerSetup.{Setup}
use Rattle.shared_seats.specs.Totals.{total, how_many}
use Rattle.turn_book.specs.declared.logs.Log.{Log}
use Rattle.turn_book.specs.Logs.{items_at}
use Rattle.turn_book.specs.TurnRule.{between}
use Rattle.turn_book.specs.TurnViews.{times}
use Rattle.shared_shards.specs.declared.logs.LogItem.{LogItem}
use Rattle.shared_shards.specs.declared.logs.LogHead.{LogHead}
use Rattle.shared_shards.specs.ShardLogs.{records_of, faults_of}
use Rattle.shared_laws.specs.Callers.{Caller}
use Rattle.shared_laws.specs.OwnPlaces.{is_record_at, faults_reported}
use Rattle.shared_laws.proofs.CallersAnswers.{AreCallers}
use Rattle.shared_laws.proofs.CallersAnswers.{callers_answers_at, all_callers_faults}
use Rattle.shared_laws.proofs.Lists.{total-each, total-below}
use Rattle.shared_laws.proofs.FaultPlaces.{own_faults, weigh, weigh-own, weigh-total, weigh-between}
use Rattle.shared_laws.proofs.OwnRecords.{calls-count}
use Rattle.shared_laws.proofs.RecordSpots.{spot, spot-between}
use Rattle.shared_laws.proofs.ToldFaults.{calls-fault}

module _ (issuer : Setup) (opening logs : List (Log LogItem LogHead)) (callers : List Caller) (are : AreCallers issuer opening logs callers) (shard : ℕ)
    (below : shard < issuer.shards) where
  -- a caller begins with the opening logs, and so with a log of this shard
  begins-below : (index : ℕ) (caller : Caller) → slice_get callers index ≡ Some caller → shard < length caller.logs.seen
  begins-below index caller is =
      let opened = ap (λ (logs : List (Log LogItem LogHead)). length logs) (are.each index caller is).opened in
      let count = are.count_is in
      omega (arith, opened, count, below)

  pub each-place : (place : ℕ)
      → callers_answers_at shard place callers ≡ between (length (records_of (items_at opening shard))) (length (records_of (items_at logs shard))) place
  each-place place =
      let items : List LogItem = items_at logs shard in
      total-each (λ (caller : Caller). how_many (is_record_at shard place) caller.answers)
      (λ (caller : Caller). times shard (spot items place) caller.logs_now.mine) callers
      (λ index caller is.
      let one = are.each index caller is in
      let none = ap (λ mine. times shard (spot items place) mine) one.no_places in
      let counts = calls-count items shard place issuer caller.lines caller.answers caller.claims caller.logs caller.claims_now caller.logs_now
      (begins-below index caller is) (are.seen index shard caller is) one.calls in
      omega (arith, none, counts))
      ∙ are.own shard (spot items place) below
      ∙ spot-between (items_at opening shard) items place (are.opening_front shard)

  -- how often the places of the log's faults are some caller's own
  own-faults : total (λ (caller : Caller). own_faults shard (items_at logs shard) caller.logs_now.mine) callers ≡ length (faults_of (items_at logs shard))
  own-faults =
      let items : List LogItem = items_at logs shard in
      total-each (λ (caller : Caller). own_faults shard items caller.logs_now.mine)
      (λ (caller : Caller). weigh items (λ place. times shard place caller.logs_now.mine)) callers
      (λ index caller is. sym (weigh-own items shard caller.logs_now.mine))
      ∙ sym (weigh-total items (λ (caller : Caller) place. times shard place caller.logs_now.mine) callers)
      ∙ weighed items
      ∙ weigh-between (items_at opening shard) items (are.opening_front shard) (are.opened_plain shard)
    where
      weighed : (items : List LogItem) → weigh items (λ place. total (λ caller. times shard place caller.logs_now.mine) callers)
          ≡ weigh items (λ place. between (length (items_at opening shard)) (length (items_at logs shard)) place)
      weighed items i = weigh items (λ place. are.own shard place below i)

  -- each fault of the log is told
  pub faults-told : length (faults_of (items_at logs shard)) ≤ all_callers_faults issuer shard callers
  faults-told =
      let items : List LogItem = items_at logs shard in
      let all = total-below (λ (caller : Caller). own_faults shard items caller.logs_now.mine)
      (λ (caller : Caller). faults_reported issuer shard caller.lines caller.answers) callers
      (λ index caller is.
      let one = are.each index caller is in
      let none = ap (λ mine. own_faults shard items mine) one.no_places in
      let counts = calls-fault items shard issuer caller.lines caller.answers caller.claims caller.logs caller.claims_now caller.logs_now
      (begins-below index caller is) (are.seen index shard caller is) one.calls in
      omega (arith, none, counts.0)) in
      let own = own-faults in
      omega (arith, all, own)

  -- and told once, while the log hasn't as many as it may have
  pub each-fault : length (faults_of (items_at logs shard)) < MAX_FAULTS_REPORTED
      → all_callers_faults issuer shard callers ≡ length (faults_of (items_at logs shard))
  each-fault few =
      let items : List LogItem = items_at logs shard in
      total-each (λ (caller : Caller). faults_reported issuer shard caller.lines caller.answers)
      (λ (caller : Caller). own_faults shard items caller.logs_now.mine) callers
      (λ index caller is.
      let one = are.each index caller is in
      let none = ap (λ mine. own_faults shard items mine) one.no_places in
      let counts = calls-fault items shard issuer caller.lines caller.answers caller.claims caller.logs caller.claims_now caller.logs_now
      (begins-below index caller is) (are.seen index shard caller is) one.calls in
      let exact = counts.1 few in
      omega (arith, none, exact))
      ∙ own-faults
