-- The faults that are reported are at most the increase of their store's counter.
use Rattle.std.proofs.Common.{ℕ, ◌+◌, ◌-◌, ◌^◌, ◌<◌, ◌≤◌, List, [], ◌∷◌, length, Bool, true, false, ◌&&◌, inl, inr, arith}
use Rattle.issuer_base.specs.declared.answer.Answer.{Answer}
use Rattle.issuer_setup.specs.IssuerSetup.{Setup}
use Rattle.line_checks.specs.Reading.{reading}
use Rattle.shared_seats.specs.Totals.{one_if}
use Rattle.shard_book.specs.Answering.{is_store_fault}
use Rattle.turn_book.specs.declared.logs.Log.{Log}
use Rattle.turn_book.specs.Logs.{items_at}
use Rattle.shared_shards.specs.declared.logs.LogItem.{LogItem}
use Rattle.shared_shards.specs.declared.logs.LogHead.{LogHead}
use Rattle.shared_shards.specs.ShardLogs.{faults_of, RiseTo}
use Rattle.shared_laws.specs.Callers.{Caller}
use Rattle.shared_laws.specs.OwnPlaces.{is_for_shard, faults_reported}
use Rattle.shared_laws.proofs.CallersAnswers.{AreCallers}
use Rattle.shared_laws.proofs.CallersAnswers.{AreCallersFaultsCounted}
use Rattle.shared_laws.proofs.EachPlace.{faults-told, each-fault}
use Rattle.shared_laws.proofs.Lists.{total-below}

-- counts that rise to one below the last value each rise by 1 or more
rise-by_one : (first : ℕ) (counts : List ℕ) (now : ℕ) → RiseTo first counts now → now < 2 ^ 64 - 1 → first + length counts ≤ now
rise-by_one first [] now rises low = omega (arith, rises)
rise-by_one first (count ∷ counts) now (later, rose, rises) low =
    let rest = rise-by_one count counts now rises low in
    elim rose [
      | inl more ↦ omega (arith, rest, more)
      | inr top ↦ absurd (omega (arith, rest, top, low))
    ]

one_if-small : (test : Bool) → one_if test ≤ 1
one_if-small true = omega arith
one_if-small false = omega arith

-- no more faults are told than answers are given
told-answers : (issuer : Setup) (shard : ℕ) (lines : List (List ℕ)) (answers : List Answer) → faults_reported issuer shard lines answers ≤ length answers
told-answers issuer shard [] answers = omega arith
told-answers issuer shard (line ∷ lines) [] = omega arith
told-answers issuer shard (line ∷ lines) (answer ∷ answers) =
    let one = one_if-small (is_for_shard issuer shard (reading issuer line) && is_store_fault answer) in
    let rest = told-answers issuer shard lines answers in
    omega (arith, one, rest)

pub faults-counted : (issuer : Setup) (opening logs : List (Log LogItem LogHead)) (callers : List Caller) → AreCallers issuer opening logs callers
    → AreCallersFaultsCounted issuer logs callers
faults-counted issuer opening logs callers are shard was is below rises low few =
    let told = faults-told issuer opening logs callers are shard below in
    let all = total-below (λ (caller : Caller). faults_reported issuer shard caller.lines caller.answers) (λ (caller : Caller). length caller.answers) callers
    (λ index caller is_there. told-answers issuer shard caller.lines caller.answers) in
    let exact = each-fault issuer opening logs callers are shard below (omega (arith, told, all, few)) in
    let rise = rise-by_one was (faults_of (items_at logs shard)) is rises low in
    omega (arith, exact, rise)
