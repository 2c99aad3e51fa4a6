-- A pass's seats stay tied: its kept claims are the decided records among its own, whatever else it sees of the logs.
use Rattle.std.proofs.Common.{◌≡◌, ℕ, zero, suc, ◌<◌, List, [], ◌∷◌, ◌++◌, length, Some, refl, ap, ◌∙◌, arith}
use Rattle.std.proofs.Common.{◌&&◌, ◌≤◌, get_or}
use Rattle.std.proofs.lemmas.List.Elements.{All-append, All-head, All-tail}
use Rattle.std.specs.List.{slice_get}
use Rattle.shared_seats.specs.Totals.{one_if}
use Rattle.shared_seats.proofs.Totals.{total-append}
use Rattle.shared_seats.specs.SeatNames.{after_split, split_off}
use Rattle.claim_words.specs.declared.view.Claimed.{Claimed}
use Rattle.claim_words.specs.declared.view.ClaimView.{ClaimView}
use Rattle.claim_words.specs.ClaimViews.{is_pair, is_kept}
use Rattle.claim_words.specs.ClaimViews.{parent_view as parent_claims, child_view as child_claims, joined as joined_claims}
use Rattle.turn_book.specs.declared.logs.Log.{Log}
use Rattle.turn_book.specs.declared.view.TurnView.{TurnView}
use Rattle.turn_book.specs.Logs.{heads_of, items_at, IsFront}
use Rattle.turn_book.specs.TurnViews.{parent_view, child_view, joined, longer_logs}
use Rattle.turn_book.proofs.LogLemmas.{front_length}
use Rattle.shared_shards.specs.declared.logs.LogItem.{LogItem}
use Rattle.shared_shards.specs.declared.logs.LogHead.{LogHead}
use Rattle.shared_laws.specs.Decisions.{decides, decides_at, decisions_at, AreWithin, AreTied}

abbrev ShardLogs : Type 0
ShardLogs = List (Log LogItem LogHead)

-- what stands at a place of a front stands there in the whole
front-item : {I : Type 0} (front items : List I) (place : ℕ) → IsFront front items → place < length front → slice_get items place ≡ slice_get front place
front-item [] items place is below = absurd (omega arith)
front-item (x ∷ front) [] place is below = absurd (cc)
front-item (x ∷ front) (y ∷ items) zero is below = let same : y ≡ x = cc in ap Some same
front-item (x ∷ front) (y ∷ items) (suc place) is below = let rest : IsFront front items = cc in front-item front items place rest (omega arith)

-- a decision that was seen stands in whatever is seen later
module _ (card counter : ℕ) where
  decides-later : (seen later : ShardLogs) (shard place : ℕ) → heads_of later ≡ heads_of seen → IsFront (items_at seen shard) (items_at later shard)
      → place < length (items_at seen shard) → decides_at later card counter shard place ≡ decides_at seen card counter shard place
  decides-later [] later shard place heads front below = absurd (omega arith)
  decides-later (log ∷ seen) [] shard place heads front below = absurd (cc)
  decides-later (log ∷ seen) (other ∷ later) zero place heads front below =
      let head : other.head ≡ log.head = cc in
      ap (λ (head : LogHead). decides head.issuer card counter (slice_get other.items place)) head
      ∙ ap (decides log.head.issuer card counter) (front-item log.items other.items place front below)
  decides-later (log ∷ seen) (other ∷ later) (suc shard) place heads front below =
      let rest : heads_of later ≡ heads_of seen = cc in
      decides-later seen later shard place rest front below

  pub decisions-later : (seen later : ShardLogs) (mine : List (ℕ × ℕ)) → heads_of later ≡ heads_of seen
      → ((shard : ℕ) → IsFront (items_at seen shard) (items_at later shard))
      → AreWithin seen mine → decisions_at later mine card counter ≡ decisions_at seen mine card counter
  decisions-later seen later [] heads fronts within = refl
  decisions-later seen later (pair ∷ mine) heads fronts within =
      let Within : ℕ × ℕ → Type 0 = λ pair. pair.1 < length (items_at seen pair.0) in
      omega (
        arith,
        ap one_if (decides-later seen later pair.0 pair.1 heads (fronts pair.0) (All-head Within pair mine within)),
        decisions-later seen later mine heads fronts (All-tail Within pair mine within),
      )

pub within-later : (seen later : ShardLogs) (mine : List (ℕ × ℕ)) → ((shard : ℕ) → IsFront (items_at seen shard) (items_at later shard))
    → AreWithin seen mine → AreWithin later mine
within-later seen later mine fronts within = λ i d below.
    let here = within i d below in
    let shard : ℕ = (get_or mine i d).0 in
    let long : length (items_at seen shard) ≤ length (items_at later shard) = front_length (items_at seen shard) (items_at later shard) (fronts shard) in
    omega arith

pub tied-parent : (claims : ClaimView) (logs : TurnView LogItem LogHead) → AreTied claims logs → AreTied (parent_claims claims) (parent_view logs)
tied-parent claims logs tied = record { one_name = ap after_split tied.one_name; seen = tied.seen; kept = tied.kept }

pub tied-child : (claims : ClaimView) (logs : TurnView LogItem LogHead) → AreTied claims logs → AreTied (child_claims claims) (child_view logs)
tied-child claims logs tied = record {
  one_name = ap split_off tied.one_name;
  seen = λ i d below. absurd (omega arith);
  kept = λ card counter. refl;
}

pub tied-joined : (claims others : ClaimView) (logs other_logs : TurnView LogItem LogHead)
    → heads_of (joined logs other_logs).seen ≡ heads_of logs.seen → heads_of (joined logs other_logs).seen ≡ heads_of other_logs.seen
    → ((shard : ℕ) → IsFront (items_at logs.seen shard) (items_at (joined logs other_logs).seen shard)
    × IsFront (items_at other_logs.seen shard) (items_at (joined logs other_logs).seen shard))
    → AreTied claims logs → AreTied others other_logs → AreTied (joined_claims claims others) (joined logs other_logs)
tied-joined claims others logs other_logs heads other_heads fronts tied other_tied =
    let later : ShardLogs = longer_logs logs.seen other_logs.seen in
    let first = within-later logs.seen later logs.mine (λ shard. (fronts shard).0) tied.seen in
    let second = within-later other_logs.seen later other_logs.mine (λ shard. (fronts shard).1) other_tied.seen in
    record {
      one_name = λ i. tied.one_name i ++ other_tied.one_name i;
      seen = All-append (λ (pair : ℕ × ℕ). pair.1 < length (items_at later pair.0)) logs.mine other_logs.mine first second;
      kept = λ card counter. omega (
        arith,
        total-append (λ (claim : Claimed). one_if (is_pair card counter claim.card claim.counter && is_kept claim.standing)) claims.claims others.claims,
        total-append (λ (pair : ℕ × ℕ). one_if (decides_at later card counter pair.0 pair.1)) logs.mine other_logs.mine,
        tied.kept card counter,
        other_tied.kept card counter,
        decisions-later card counter logs.seen later logs.mine heads (λ shard. (fronts shard).0) tied.seen,
        decisions-later card counter other_logs.seen later other_logs.mine other_heads (λ shard. (fronts shard).1) other_tied.seen,
      );
    }
