-- What a seat knows of claims, and how the calls change it.
use Rattle.std.specs.Prelude.{◌≡◌, ℕ, ◌+◌, ◌<◌, List, [], ◌∷◌, ◌++◌, map, Bool, true, false, ◌==◌, ◌&&◌}
use Rattle.std.specs.Prelude.{if◌then◌else◌, Option, None, Some}
use Rattle.shared_seats.specs.Totals.{how_many}
use Rattle.shared_seats.specs.SeatNames.{after_split, split_off}
use Rattle.shared_seats.specs.declared.seat_name.SeatName.{SeatName}
use Rattle.claim_words.specs.declared.view.Standing.{Standing}
use Rattle.claim_words.specs.declared.view.Standing.TheVariants.{Open, Kept, GivenBack}
use Rattle.claim_words.specs.declared.view.Claimed.{Claimed}
use Rattle.claim_words.specs.declared.view.ClaimView.{ClaimView}
use Rattle.claim_words.specs.declared.claim_words.Claim.{Claim}
use Rattle.claim_words.specs.declared.claim_words.Claim.TheVariants.{Won, Lost}

-- whether the second card and ATC equal the first
abbrev pub is_pair : ℕ → ℕ → ℕ → ℕ → Bool
is_pair card counter other_card other = (other_card == card) && (other == counter)

-- held, and neither kept nor given back
abbrev pub is_open : Standing → Bool
is_open Open = true
is_open Kept = false
is_open GivenBack = false

-- kept, since its ATC is recorded
abbrev pub is_kept : Standing → Bool
is_kept Open = false
is_kept Kept = true
is_kept GivenBack = false

-- open or kept: no other claim can win the pair
abbrev pub is_live : Standing → Bool
is_live Open = true
is_live Kept = true
is_live GivenBack = false

-- in any state
abbrev pub is_any : Standing → Bool
is_any standing = true

-- how many of the claims are on this ATC of this card, in a state that passes the test
abbrev pub claims_on : (Standing → Bool) → ℕ → ℕ → List Claimed → ℕ
claims_on test card counter claims =
    how_many (λ claim. is_pair card counter claim.card claim.counter && test claim.standing) claims

-- how often the pair of this card and ATC occurs in the list
abbrev pub times : ℕ → ℕ → List (ℕ × ℕ) → ℕ
times card counter pairs = how_many (λ pair. is_pair card counter pair.0 pair.1) pairs

-- the view of a seat that holds these names and has made no call
abbrev pub newcomer : List SeatName → ClaimView
newcomer names = record { claims = []; found = []; tops = []; names = names }

-- the view with an open claim
abbrev pub with_claim : ℕ → ℕ → ClaimView → ClaimView
with_claim card counter view =
    record view { claims = (record { card = card; counter = counter; standing = Open }) ∷ view.claims }

-- the view with a pair that was found set
abbrev pub with_found : ℕ → ℕ → ClaimView → ClaimView
with_found card counter view = record view { found = (card, counter) ∷ view.found }

-- the view after a claim on the pair
abbrev pub after_claim : Claim → ℕ → ℕ → ClaimView → ClaimView
after_claim Won card counter view = with_claim card counter view
after_claim Lost card counter view = with_found card counter view

-- the view with the ATC that was read from the card's top word
abbrev pub after_top : ℕ → Option ℕ → ClaimView → ClaimView
after_top card None view = view
after_top card (Some counter) view = record view { tops = (card, counter) ∷ view.tops }

-- a claim that is open and on the pair gets the new state
abbrev pub settled_claim : Standing → ℕ → ℕ → Claimed → Claimed
settled_claim standing card counter claim =
    if is_pair card counter claim.card claim.counter && is_open claim.standing
    then record claim { standing = standing } else claim

-- the view whose open claim on the pair got the new state
abbrev pub settled : Standing → ℕ → ℕ → ClaimView → ClaimView
settled standing card counter view = record view { claims = map (settled_claim standing card counter) view.claims }

-- the view holds an open claim on the pair
abbrev pub HasOpen : ℕ → ℕ → ClaimView → Type 0
HasOpen card counter view = 0 < claims_on is_open card counter view.claims

-- the view has no open or kept claim on the pair, and hasn't read it from a top
abbrev pub IsNew : ℕ → ℕ → ClaimView → Type 0
IsNew card counter view = (claims_on is_live card counter view.claims ≡ 0) × (times card counter view.tops ≡ 0)

-- how often the view has kept a claim on the pair, or has read it from a top
abbrev pub known_on : ℕ → ℕ → ClaimView → ℕ
known_on card counter view = claims_on is_kept card counter view.claims + times card counter view.tops

-- the view of a seat that was split
abbrev pub parent_view : ClaimView → ClaimView
parent_view view = record view { names = after_split view.names }

-- the view of the seat that was split off: it knows nothing
abbrev pub child_view : ClaimView → ClaimView
child_view view = newcomer (split_off view.names)

-- the view of a seat into which another was joined
abbrev pub joined : ClaimView → ClaimView → ClaimView
joined view other = record {
  claims = view.claims ++ other.claims;
  found = view.found ++ other.found;
  tops = view.tops ++ other.tops;
  names = view.names ++ other.names;
}
