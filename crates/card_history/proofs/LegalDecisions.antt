-- A decision that is a valid successor by the window of today is of a counter that isn't used.
use Rattle.std.proofs.Common.{◌≡◌, ℕ, List, subst}
use Rattle.issuer_base.specs.declared.limits.TheConstants.{WINDOW}
use Rattle.issuer_base.specs.declared.request.Request.{Request}
use Rattle.issuer_base.specs.declared.answer.Reply.{Reply}
use Rattle.issuer_base.specs.declared.entry.Entry.{Entry}
use Rattle.card_history.specs.LegalRecords.{Grounds, IsLegalDecision}
use Rattle.card_history.specs.Records.{IsBelowBy, greatest_atc}
use Rattle.card_history.specs.Turns.{IsUnused, decided_for}

pub legal-unused : {grounds : Grounds} {shard : ℕ} {before : List Entry} {request : Request} {reply : Reply} → grounds.window ≡ WINDOW
    → IsLegalDecision grounds shard before request reply → IsUnused (decided_for request before) request
legal-unused {grounds} {shard} {before} {request} {reply} same legal = record {
  in_window =
      subst (λ (window : ℕ). IsBelowBy window (greatest_atc (decided_for request before)) request.atc → ⊥) same legal.in_window;
  unrecorded = legal.unrecorded;
}
