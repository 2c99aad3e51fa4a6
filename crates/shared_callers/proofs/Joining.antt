-- Passes that are joined, one after another, and what the close of the host says of all callers together.
use Rattle.std.proofs.Common.{◌≡◌, ℕ, zero, suc, ◌<◌, List, [], ◌∷◌, length, map, take, Some, refl, sym, ap, subst, ◌∙◌, arith, Option}
use Rattle.std.proofs.lemmas.Option.{slice_get_within}
use Rattle.std.specs.List.{slice_get}
use Rattle.std.specs.Prelude.{Bool, ◌==◌, ◌&&◌}
use Rattle.issuer_base.specs.Stores.{Disk}
use Rattle.issuer_base.specs.declared.answer.Answer.{Answer}
use Rattle.issuer_base.specs.declared.limits.TheConstants.{KEPT_BYTES}
use Rattle.issuer_setup.specs.IssuerSetup.{Setup}
use Rattle.shared_seats.specs.Totals.{total, one_if}
use Rattle.shared_seats.proofs.Totals.{total-append}
use Rattle.claim_words.specs.declared.view.Claimed.{Claimed}
use Rattle.claim_words.specs.declared.view.ClaimView.{ClaimView}
use Rattle.claim_words.specs.declared.view.Standing.{Standing}
use Rattle.claim_words.specs.ClaimViews.{is_pair, is_live, is_kept, is_any, joined as joined_claims}
use Rattle.turn_book.specs.declared.logs.Log.{Log}
use Rattle.turn_book.specs.declared.view.TurnView.{TurnView}
use Rattle.turn_book.specs.Logs.{heads_of, items_at, IsFront}
use Rattle.turn_book.specs.TurnViews.{joined}
use Rattle.turn_book.proofs.LogLemmas.{front_refl, front_trans, heads-length}
use Rattle.shared_shards.specs.declared.logs.LogItem.{LogItem}
use Rattle.shared_shards.specs.declared.logs.LogHead.{LogHead}
use Rattle.shared_shards.specs.ShardLogs.{records_of, faults_of}
use Rattle.shared_laws.specs.Closing.{AreClosed, AreItsOwn, AreClaimsSettled}
use Rattle.shared_laws.specs.OneHistory.{LegallyGoesOn}
use Rattle.host_calls.specs.Passes.{claims_of, logs_of}
use Rattle.host_calls.specs.declared.pass.Pass.{Pass}
use Rattle.host_loading.proofs.Places.{read-within, choose}
use Rattle.shared_laws.specs.Callers.{Caller, IsCaller}
use Rattle.shared_laws.specs.Dealing.{every}
use Rattle.shared_callers.specs.Joins.{HasJoined}
use Rattle.shared_callers.specs.Lanes.{HasClosed}
use Rattle.shared_callers.specs.OneLane.{HadLines}
use Rattle.shared_callers.specs.Seated.{IsUntouched}
use Rattle.shared_callers.specs.declared.lane.Lane.{Lane}
use Rattle.shared_laws.proofs.CallersAnswers.{AreCallers, shares_of}
use Rattle.shared_laws.proofs.Lawful.{lawful-shares}
use Rattle.shared_laws.proofs.SharesOfCallers.{dealt-shares}
use Rattle.shared_laws.proofs.Truncated.{whole-lines}

-- ---- joining

-- no pass was joined yet
pub joined-none : (first : Pass) → HasJoined first [] first
joined-none first = record {
  claims = λ f. omega arith;
  found = λ f. omega arith;
  tops = λ f. omega arith;
  mine = λ f. omega arith;
  first_front = λ shard. front_refl (items_at (logs_of first).seen shard);
  fronts = λ number shard lane is. absurd (cc);
}

first-at : {X : Type 0} (x y : X) → Some x ≡ Some y → x ≡ y
first-at x y same = cc

-- one pass more is joined
pub joined-more : (first pass after : Pass) (lanes : List Lane) (lane : Lane)
    → claims_of after ≡ joined_claims (claims_of pass) (claims_of lane.pass) → logs_of after ≡ joined (logs_of pass) (logs_of lane.pass)
    → ((shard : ℕ) → IsFront (items_at (logs_of pass).seen shard) (items_at (logs_of after).seen shard)
    × IsFront (items_at (logs_of lane.pass).seen shard) (items_at (logs_of after).seen shard))
    → HasJoined first lanes pass → HasJoined first (lane ∷ lanes) after
joined-more first pass after lanes lane claims logs fronts before = record {
  claims = λ f.
      ap (λ (view : ClaimView). total f view.claims) claims
      ∙ omega (arith, total-append f (claims_of pass).claims (claims_of lane.pass).claims, before.claims f);
  found = λ f.
      ap (λ (view : ClaimView). total f view.found) claims
      ∙ omega (arith, total-append f (claims_of pass).found (claims_of lane.pass).found, before.found f);
  tops = λ f.
      ap (λ (view : ClaimView). total f view.tops) claims
      ∙ omega (arith, total-append f (claims_of pass).tops (claims_of lane.pass).tops, before.tops f);
  mine = λ f.
      ap (λ (view : TurnView LogItem LogHead). total f view.mine) logs
      ∙ omega (arith, total-append f (logs_of pass).mine (logs_of lane.pass).mine, before.mine f);
  first_front = λ shard. front_trans _ _ _ (before.first_front shard) (fronts shard).0;
  fronts = λ number. elim number as (λ number. (shard : ℕ) (other : Lane) → slice_get (lane ∷ lanes) number ≡ Some other
      → IsFront (items_at (logs_of other.pass).seen shard) (items_at (logs_of after).seen shard)) [
        | zero ↦ λ shard other is.
            subst (λ (other : Lane). IsFront (items_at (logs_of other.pass).seen shard) (items_at (logs_of after).seen shard)) (first-at lane other is)
            (fronts shard).1
        | suc number ↦ λ shard other is. front_trans _ _ _ (before.fronts number shard other is) (fronts shard).0
      ];
}

-- ---- closing

-- 1 for a claim on the pair in a standing that passes the test, for the pair itself, and for the place
abbrev on_claim : (Standing → Bool) → ℕ → ℕ → Claimed → ℕ
on_claim test card counter claim = one_if (is_pair card counter claim.card claim.counter && test claim.standing)

abbrev on_pair : ℕ → ℕ → (ℕ × ℕ) → ℕ
on_pair card counter pair = one_if (is_pair card counter pair.0 pair.1)

abbrev on_place : ℕ → ℕ → (ℕ × ℕ) → ℕ
on_place shard place pair = one_if ((pair.0 == shard) && (pair.1 == place))

-- a total over callers is that over their lanes
totals-alike : {X Y : Type 0} (f : X → ℕ) (g : Y → ℕ) (xs : List X) (ys : List Y) → length ys ≡ length xs
    → ((number : ℕ) (x : X) (y : Y) → slice_get xs number ≡ Some x → slice_get ys number ≡ Some y → g y ≡ f x) → total g ys ≡ total f xs
totals-alike f g [] [] long same = refl
totals-alike f g [] (y ∷ ys) long same = absurd (omega arith)
totals-alike f g (x ∷ xs) [] long same = absurd (omega arith)
totals-alike f g (x ∷ xs) (y ∷ ys) long same =
    omega (arith, same 0 x y refl refl, totals-alike f g xs ys (omega arith) (λ number. same (suc number)))

items-there : (logs : List (Log LogItem LogHead)) (shard : ℕ) (log : Log LogItem LogHead) → slice_get logs shard ≡ Some log → items_at logs shard ≡ log.items
items-there [] shard log is = absurd (cc)
items-there (first ∷ logs) zero log is = ap (λ (log : Log LogItem LogHead). log.items) (first-at first log is)
items-there (first ∷ logs) (suc shard) log is = items-there logs shard log is

-- a lane's caller
record IsCallerOf (issuer : Setup) (opening : List (Log LogItem LogHead)) (count : ℕ) (lines : List (List ℕ)) (answers : List Answer) (number : ℕ)
    (lane : Lane) (caller : Caller) : Type 0 where
  caller_is : IsCaller issuer opening caller
  lines_are : caller.lines ≡ every count number lines
  answers_are : caller.answers ≡ every count number answers
  claims_are : caller.claims_now ≡ claims_of lane.pass
  logs_are : caller.logs_now ≡ logs_of lane.pass

-- what is known where the first pass is joined with all others, and the host is closed with it
pub record AreJoined (issuer : Setup) (opening : List (Log LogItem LogHead)) (first pass : Pass) (lanes : List Lane) : Type 0 where
  pub some : 0 < issuer.shards
  pub count_is : length opening ≡ issuer.shards
  pub heads : heads_of (logs_of pass).seen ≡ heads_of opening
  pub plain : (shard : ℕ) → faults_of (items_at opening shard) ≡ []
  pub untouched : IsUntouched first
  pub opened : (logs_of first).seen ≡ opening
  pub joined : HasJoined first lanes pass
  pub own : AreItsOwn issuer opening (logs_of pass)
  pub settled : AreClaimsSettled issuer opening (claims_of pass)

module _ {S : Type 0} (bytes : S → Option (List ℕ)) (disk : S → Option Disk) (faults : S → ℕ) (issuer : Setup) (opening : List (Log LogItem LogHead))
    (first pass : Pass) (lanes : List Lane) (lines : List (List ℕ)) (answers : List Answer) (stores : List S)
    (all : AreJoined issuer opening first pass lanes) (closed : AreClosed bytes disk faults issuer opening (logs_of pass).seen stores)
    (told : length answers ≡ length lines)
    (served : (number : ℕ) (lane : Lane) → slice_get lanes number ≡ Some lane
    → HadLines issuer opening lane.pass (every (length lanes) number (map (take KEPT_BYTES) lines)) (every (length lanes) number answers)) where
  all-callers : (callers : List Caller) × (length callers ≡ length lanes)
      × ((number : ℕ) (lane : Lane) (caller : Caller) → slice_get lanes number ≡ Some lane → slice_get callers number ≡ Some caller
      → IsCallerOf issuer opening (length lanes) lines answers number lane caller)
  all-callers = choose lanes (IsCallerOf issuer opening (length lanes) lines answers) (λ number lane is.
      let its = served number lane is in (
        record its.caller { lines = every (length lanes) number lines },
        record {
          caller_is = whole-lines issuer opening (length lanes) number lines its.caller its.caller_is its.lines_are;
          lines_are = refl;
          answers_are = its.answers_are;
          claims_are = its.claims_are;
          logs_are = its.logs_are;
        },
      ))

  module _ (callers : List Caller) (long : length callers ≡ length lanes)
      (each : (number : ℕ) (lane : Lane) (caller : Caller) → slice_get lanes number ≡ Some lane → slice_get callers number ≡ Some caller
      → IsCallerOf issuer opening (length lanes) lines answers number lane caller) where
    -- the lane of a caller
    lane-of : (number : ℕ) (caller : Caller) → slice_get callers number ≡ Some caller
        → (lane : Lane) × (slice_get lanes number ≡ Some lane) × IsCallerOf issuer opening (length lanes) lines answers number lane caller
    lane-of number caller is =
        let within = slice_get_within callers number caller is in
        let lane = read-within lanes number (omega (arith, long, within)) in
        (lane.0, lane.1, each number lane.0 caller lane.1 is)

    claims-total : (g : ClaimView → ℕ) → total (λ (caller : Caller). g caller.claims_now) callers ≡ total (λ (lane : Lane). g (claims_of lane.pass)) lanes
    claims-total g =
        totals-alike (λ (lane : Lane). g (claims_of lane.pass)) (λ (caller : Caller). g caller.claims_now) lanes callers long
        (λ number lane caller lane_is is. ap g (each number lane caller lane_is is).claims_are)

    logs-total : (g : TurnView LogItem LogHead → ℕ)
        → total (λ (caller : Caller). g caller.logs_now) callers ≡ total (λ (lane : Lane). g (logs_of lane.pass)) lanes
    logs-total g =
        totals-alike (λ (lane : Lane). g (logs_of lane.pass)) (λ (caller : Caller). g caller.logs_now) lanes callers long
        (λ number lane caller lane_is is. ap g (each number lane caller lane_is is).logs_are)

    claims-all : (f : Claimed → ℕ) → total (λ (caller : Caller). total f caller.claims_now.claims) callers ≡ total f (claims_of pass).claims
    claims-all f = omega (
      arith,
      claims-total (λ (view : ClaimView). total f view.claims),
      all.joined.claims f,
      ap (total f) all.untouched.no_claims,
    )

    found-all : (f : (ℕ × ℕ) → ℕ) → total (λ (caller : Caller). total f caller.claims_now.found) callers ≡ total f (claims_of pass).found
    found-all f = omega (
      arith,
      claims-total (λ (view : ClaimView). total f view.found),
      all.joined.found f,
      ap (total f) all.untouched.no_found,
    )

    tops-all : (f : (ℕ × ℕ) → ℕ) → total (λ (caller : Caller). total f caller.claims_now.tops) callers ≡ total f (claims_of pass).tops
    tops-all f = omega (
      arith,
      claims-total (λ (view : ClaimView). total f view.tops),
      all.joined.tops f,
      ap (total f) all.untouched.no_tops,
    )

    mine-all : (f : (ℕ × ℕ) → ℕ) → total (λ (caller : Caller). total f caller.logs_now.mine) callers ≡ total f (logs_of pass).mine
    mine-all f = omega (
      arith,
      logs-total (λ (view : TurnView LogItem LogHead). total f view.mine),
      all.joined.mine f,
      ap (total f) all.untouched.no_places,
    )

    long-logs : length (logs_of pass).seen ≡ length opening
    long-logs = heads-length (logs_of pass).seen opening all.heads

    goes-on : (shard : ℕ) → shard < issuer.shards
        → LegallyGoesOn issuer shard (records_of (items_at opening shard)) (records_of (items_at (logs_of pass).seen shard))
    goes-on shard below =
        let old = read-within opening shard (omega (arith, below, all.count_is)) in
        let new = read-within (logs_of pass).seen shard (omega (arith, below, all.count_is, long-logs)) in
        let store = read-within stores shard (omega (arith, below, closed.count_is)) in
        subst (λ (items : List LogItem). LegallyGoesOn issuer shard (records_of (items_at opening shard)) (records_of items))
        (sym (items-there (logs_of pass).seen shard new.0 new.1))
        (subst (λ (items : List LogItem). LegallyGoesOn issuer shard (records_of items) (records_of new.0.items))
        (sym (items-there opening shard old.0 old.1)) (closed.each shard old.0 new.0 store.0 old.1 new.1 store.1).goes_on)

    shared : AreCallers issuer opening (logs_of pass).seen callers
    shared = record {
      some = all.some;
      count_is = all.count_is;
      same_count = long-logs;
      heads = all.heads;
      each = λ number caller is. (lane-of number caller is).2.caller_is;
      seen = λ number shard caller is.
          let its = lane-of number caller is in
          subst (λ (view : TurnView LogItem LogHead). IsFront (items_at view.seen shard) (items_at (logs_of pass).seen shard)) (sym its.2.logs_are)
          (all.joined.fronts number shard its.0 its.1);
      opening_front = λ shard.
          subst (λ (logs : List (Log LogItem LogHead)). IsFront (items_at logs shard) (items_at (logs_of pass).seen shard)) all.opened
          (all.joined.first_front shard);
      own = λ shard place below. mine-all (on_place shard place) ∙ all.own shard place below;
      found = λ card counter below some. omega (
        arith,
        claims-all (on_claim is_any card counter),
        all.settled.found card counter below (omega (arith, some, found-all (on_pair card counter))),
      );
      tops = λ card counter below some. omega (
        arith,
        claims-all (on_claim is_kept card counter),
        all.settled.tops card counter below (omega (arith, some, tops-all (on_pair card counter))),
      );
      once = λ card counter below. omega (arith, claims-all (on_claim is_live card counter), all.settled.once card counter below);
      goes_on = goes-on;
      opened_plain = all.plain;
    }

    closes : HasClosed bytes disk faults issuer opening (length lanes) lines answers stores
    closes = record {
      logs = (logs_of pass).seen;
      same_count = long-logs;
      shares = shares_of callers;
      dealt = dealt-shares (length lanes) lines answers callers (record {
        count_is = long;
        answered = told;
        lines_are = λ number caller is. (lane-of number caller is).2.lines_are;
        answers_are = λ number caller is. (lane-of number caller is).2.answers_are;
      });
      lawful = lawful-shares issuer opening (logs_of pass).seen callers shared;
      closed = closed;
    }

  pub closed-lanes : HasClosed bytes disk faults issuer opening (length lanes) lines answers stores
  closed-lanes = closes all-callers.0 all-callers.1 all-callers.2
