-- What contracts see of a pass, and what it holds.
use Rattle.std.specs.Prelude.{◌≡◌, ℕ, ◌<◌, List}
use Rattle.issuer_base.specs.declared.outside.store.Store.{Ghosts}
use Rattle.shared_seats.specs.Totals.{how_many}
use Rattle.claim_words.specs.declared.view.Claimed.{Claimed}
use Rattle.claim_words.specs.declared.view.ClaimView.{ClaimView}
use Rattle.claim_words.specs.declared.claim_words.Claim.TheVariants.{Won, Lost}
use Rattle.claim_words.specs.ClaimViews.{is_open, HasOpen, times}
use Rattle.claim_words.specs.Seats.{view_of as view_of_claims, IsOf as IsSeatOfWords}
use Rattle.turn_book.specs.declared.view.TurnView.{TurnView}
use Rattle.turn_book.specs.Seats.{view_of as view_of_turns}
use Rattle.shared_shards.specs.ShardSeats.{IsSeatOf}
use Rattle.shared_shards.specs.declared.logs.LogItem.{LogItem}
use Rattle.shared_shards.specs.declared.logs.LogHead.{LogHead}
use Rattle.host_calls.specs.declared.host.Host.{Host}
use Rattle.host_calls.specs.declared.pass.Pass.{Pass}
use Rattle.shared_laws.specs.declared.checked.Checked.{Checked}
use Rattle.shared_laws.specs.declared.checked.Checked.TheVariants.{Decide, Order}

-- what the pass knows of claims: its own, the ATCs that it found claimed, and those that it read from tops
abbrev pub claims_of : Pass → ClaimView
claims_of pass = view_of_claims pass.claims

-- what it knows of the shards: the logs that it has seen, and the indices of its own records and faults
abbrev pub logs_of : Pass → TurnView LogItem LogHead
logs_of pass = view_of_turns pass.turns

-- how many claims are open
abbrev pub open_in : List Claimed → ℕ
open_in claims = how_many (λ claim. is_open claim.standing) claims

module _ {S : Type 0} {G : Ghosts S} where
  -- the pass is one of this host's, and holds no shard
  pub record IsOf (host : Host S G) (pass : Pass) : Type 0 where
    pub claims_are : IsSeatOfWords pass.claims host.claims
    pub turns_are : IsSeatOf host.turns pass.turns

  -- and it has no open claim
  pub record IsFree (host : Host S G) (pass : Pass) : Type 0 where
    pub of : IsOf host pass
    pub settled : open_in (claims_of pass).claims ≡ 0

  -- and the claim on this ATC of this card is its own, and its one open claim
  pub record HasClaimed (host : Host S G) (pass : Pass) (card counter : ℕ) : Type 0 where
    pub of : IsOf host pass
    pub own : HasOpen card counter (claims_of pass)
    pub alone : open_in (claims_of pass).claims ≡ 1

  -- the pass holds what was checked with it: if it won a claim for a request, this is its one open claim; otherwise it
  -- is free, and if it lost the claim, it found the ATC claimed
  abbrev pub Holds : Host S G → Pass → Checked → Type 0
  Holds host pass (Decide found Won) = HasClaimed host pass found.card found.request.atc
  Holds host pass (Decide found Lost) =
      IsFree host pass × (0 < times found.card found.request.atc (claims_of pass).found)
  Holds host pass (Order found) = IsFree host pass
