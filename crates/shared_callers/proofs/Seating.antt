-- The passes of lanes as they are split off, and the initial state of the lanes.
use Rattle.std.proofs.Common.{◌≡◌, ℕ, ◌*◌, ◌/◌, ◌<◌, ◌≤◌, max, List, [], ◌∷◌, ◌++◌, length, All, refl, sym, ap, subst, ◌∙◌, append-nil, arith}
use Rattle.std.proofs.lemmas.List.Elements.{All-push}
use Rattle.std.proofs.Math.Nat.{div-le_of_le-mul, le_trans, max-le, le-max_right}
use Rattle.std.specs.List.{flat_map}
use Rattle.issuer_base.specs.declared.outside.store.Store.{Ghosts}
use Rattle.issuer_setup.specs.IssuerSetup.{Setup}
use Rattle.shared_seats.specs.SeatNames.{first_names, after_split, split_off, IsWhole}
use Rattle.shared_seats.specs.declared.seat_name.SeatName.{SeatName}
use Rattle.shared_seats.proofs.ManySeats.{flat_map-snoc, whole_seated}
use Rattle.shared_seats.proofs.SeatNameLemmas.{whole_first}
use Rattle.claim_words.specs.declared.view.ClaimView.{ClaimView}
use Rattle.claim_words.specs.ClaimViews.{newcomer, parent_view as parent_claims, child_view as child_claims}
use Rattle.turn_book.specs.declared.logs.Log.{Log}
use Rattle.turn_book.specs.declared.view.TurnView.{TurnView}
use Rattle.turn_book.specs.TurnViews.{first_view, parent_view, child_view}
use Rattle.shared_shards.specs.declared.logs.LogItem.{LogItem}
use Rattle.shared_shards.specs.declared.logs.LogHead.{LogHead}
use Rattle.shared_shards.specs.ShardSeats.{opening_in}
use Rattle.host_calls.specs.Passes.{claims_of, logs_of, IsFree}
use Rattle.host_calls.specs.declared.host.Host.{Host}
use Rattle.host_calls.specs.declared.pass.Pass.{Pass}
use Rattle.shared_callers.specs.Dealt.{HasDealt}
use Rattle.shared_callers.specs.Halves.{HasDue, HasWaiting}
use Rattle.shared_callers.specs.OneLane.{IsNewLane, HadLines, HaveAllHad}
use Rattle.shared_callers.specs.Seated.{AreSeated}
use Rattle.shared_callers.specs.declared.half_block.HalfBlock.{HalfBlock}
use Rattle.shared_callers.specs.declared.lane.Lane.{Lane}
use Rattle.shared_callers.specs.declared.part.Part.{Part}
use Rattle.shared_callers.proofs.Lists.{at-all}

-- a pass that was split off was asked nothing
pub new-served : (issuer : Setup) (opening : List (Log LogItem LogHead)) (first pass : Pass) → claims_of pass ≡ child_claims (claims_of first)
    → logs_of pass ≡ child_view (logs_of first) → (logs_of first).seen ≡ opening → HadLines issuer opening pass [] []
new-served issuer opening first pass claims logs opened = record {
  caller = record {
    lines = [];
    answers = [];
    claims = claims_of pass;
    claims_now = claims_of pass;
    logs = logs_of pass;
    logs_now = logs_of pass;
  };
  caller_is = record {
    no_claims = ap (λ (view : ClaimView). view.claims) claims;
    no_found = ap (λ (view : ClaimView). view.found) claims;
    no_tops = ap (λ (view : ClaimView). view.tops) claims;
    no_places = ap (λ (view : TurnView LogItem LogHead). view.mine) logs;
    opened = ap (λ (view : TurnView LogItem LogHead). view.seen) logs ∙ opened;
    calls = (refl, refl);
  };
  lines_are = refl;
  answers_are = refl;
  claims_are = refl;
  logs_are = refl;
}

module _ {S : Type 0} {G : Ghosts S} (host : Host S G) where
  -- the first pass alone
  pub seated-none : (first : Pass) → IsFree host first → claims_of first ≡ newcomer first_names → logs_of first ≡ first_view (opening_in host.turns)
      → AreSeated host first []
  seated-none first free claims logs = record {
    first_free = free;
    untouched = record {
      no_claims = ap (λ (view : ClaimView). view.claims) claims;
      no_found = ap (λ (view : ClaimView). view.found) claims;
      no_tops = ap (λ (view : ClaimView). view.tops) claims;
      no_places = ap (λ (view : TurnView LogItem LogHead). view.mine) logs;
    };
    opened = ap (λ (view : TurnView LogItem LogHead). view.seen) logs;
    free = λ k d below. absurd (omega arith);
    whole = subst IsWhole (sym (append-nil (claims_of first).names ∙ ap (λ (view : ClaimView). view.names) claims)) whole_first;
  }

  -- one lane more
  pub seated-more : (first after : Pass) (lanes : List Lane) (lane : Lane) → 0 < length (claims_of first).names → IsFree host after
      → claims_of after ≡ parent_claims (claims_of first) → logs_of after ≡ parent_view (logs_of first) → IsFree host lane.pass
      → claims_of lane.pass ≡ child_claims (claims_of first) → AreSeated host first lanes → AreSeated host after (lanes ++ lane ∷ [])
  seated-more first after lanes lane named free claims logs lane_free lane_claims seated =
      let names : Lane → List SeatName = λ lane. (claims_of lane.pass).names in
      let all_names : (claims_of after).names ++ flat_map names (lanes ++ lane ∷ [])
      ≡ after_split (claims_of first).names ++ (flat_map names lanes ++ split_off (claims_of first).names) =
      ap (λ (view : ClaimView). view.names ++ flat_map names (lanes ++ lane ∷ [])) claims
      ∙ ap (λ (others : List SeatName). after_split (claims_of first).names ++ others)
      (flat_map-snoc names lanes lane ∙ ap (λ (view : ClaimView). flat_map names lanes ++ view.names) lane_claims) in
      record {
        first_free = free;
        untouched = record {
          no_claims = ap (λ (view : ClaimView). view.claims) claims ∙ seated.untouched.no_claims;
          no_found = ap (λ (view : ClaimView). view.found) claims ∙ seated.untouched.no_found;
          no_tops = ap (λ (view : ClaimView). view.tops) claims ∙ seated.untouched.no_tops;
          no_places = ap (λ (view : TurnView LogItem LogHead). view.mine) logs ∙ seated.untouched.no_places;
        };
        opened = ap (λ (view : TurnView LogItem LogHead). view.seen) logs ∙ seated.opened;
        free = All-push (λ (lane : Lane). IsFree host lane.pass) lanes lane seated.free lane_free;
        whole = subst IsWhole (sym all_names) (whole_seated (claims_of first).names (flat_map names lanes) named seated.whole);
      }

-- the callers of lanes that were asked nothing were answered nothing
pub new-all-had : (issuer : Setup) (opening : List (Log LogItem LogHead)) (lanes : List Lane) → All (IsNewLane issuer opening) lanes
    → HaveAllHad issuer opening lanes [] []
new-all-had issuer opening lanes new number lane is = at-all (IsNewLane issuer opening) lanes number lane new is

-- and so it is with the host's lanes and half
pub new-dealt : (issuer : Setup) (opening : List (Log LogItem LogHead)) (lanes : List Lane) (half : HalfBlock) → HasWaiting half [] [] → HasDue half [] []
    → All (IsNewLane issuer opening) lanes → HasDealt issuer opening lanes half [] [] [] []
new-dealt issuer opening lanes half waits dues new = record {
  taken = [];
  answers_are = refl;
  answered = refl;
  waits = waits;
  dues = dues;
  had = new-all-had issuer opening lanes new;
}

-- each of up to 16 has at least as many lines as are checked together, and at most four times as many
pub each-within : (callers each : ℕ) → 0 < callers → callers ≤ 16 → each ≡ max (512 / callers) (128 * max (callers / 4) 1)
    → (128 ≤ each) × (each ≤ 512)
each-within callers each some few is =
    let part : 512 / callers ≤ 512 = div-le_of_le-mul callers (omega (arith, some)) in
    let quarter : callers / 4 ≤ 4 = omega (arith, few) in
    let times : max (callers / 4) 1 ≤ 4 = max-le quarter (omega arith) in
    let once : 1 ≤ max (callers / 4) 1 = le-max_right _ _ in
    let more : 128 * max (callers / 4) 1 ≤ 512 = omega (arith, times) in
    let least : 128 ≤ 128 * max (callers / 4) 1 = omega (arith, once) in (
      subst (λ each. 128 ≤ each) (sym is) (le_trans least (le-max_right _ _)),
      subst (λ each. each ≤ 512) (sym is) (max-le part more),
    )

-- each of the parts has the same room
pub rooms-all : (parts : List Part) (count each : ℕ) → All (λ (part : Part). part.lines.room ≡ each) parts
    → All (λ (part : Part). count * part.lines.room ≡ count * each) parts
rooms-all parts count each all = λ number d below. ap (λ room. count * room) (all number d below)
