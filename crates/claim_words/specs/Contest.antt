-- What callers know that try to claim each ATC of the card 0.
use Rattle.std.specs.Prelude.{◌≡◌, ℕ, ◌+◌, ◌<◌, List, length, ◌==◌}
use Rattle.shared_seats.specs.Totals.{total, how_many}
use Rattle.claim_words.specs.declared.layout.TheConstants.{COUNTERS}
use Rattle.claim_words.specs.ClaimViews.{claims_on, times, is_live, is_any}
use Rattle.claim_words.specs.declared.view.ClaimView.{ClaimView}

-- how often the ATC occurs in the list
abbrev pub wins_of : ℕ → List ℕ → ℕ
wins_of counter won = how_many (λ x. x == counter) won

-- the list is the view's claims, none of them given back, and each ATC below this number was won or found set
pub record HasTried (tried : ℕ) (won : List ℕ) (view : ClaimView) : Type 0 where
  pub live : (counter : ℕ) → claims_on is_live 0 counter view.claims ≡ wins_of counter won
  pub any : (counter : ℕ) → claims_on is_any 0 counter view.claims ≡ wins_of counter won
  pub each : (counter : ℕ) → counter < tried → 0 < wins_of counter won + times 0 counter view.found

-- the same for several lists, and the view of a seat into which theirs were joined
pub record HaveTried (lists : List (List ℕ)) (view : ClaimView) : Type 0 where
  pub live : (counter : ℕ) → claims_on is_live 0 counter view.claims ≡ total (wins_of counter) lists
  pub any : (counter : ℕ) → claims_on is_any 0 counter view.claims ≡ total (wins_of counter) lists
  pub each : (counter : ℕ) → counter < COUNTERS → 0 < length lists
      → 0 < total (wins_of counter) lists + times 0 counter view.found
