-- A step at one shard preserves the invariant.
use Rattle.std.proofs.Common.{◌≡◌, ◌≢◌, ℕ, zero, suc, ◌+◌, ◌<◌, ◌≤◌, ◌⊎◌, List, [], ◌∷◌, map, length, set, true, eqb, Option, None}
use Rattle.std.proofs.Common.{inl, inr, sym, ap, ◌∙◌, subst, arith}
use Rattle.std.proofs.lemmas.Bool.{cases_eq, eq-eqb}
use mathlib.Core.Option.{some, some-injective, some-ne-none}
use mathlib.Core.Option as maybe
use lib.ListN.{get_elem?}
use Rattle.atomic_table.specs.Table.{State}
use Rattle.shared_seats.specs.Totals.{total, one_if}
use Rattle.shared_seats.specs.SeatNames.{AreNamed}
use Rattle.shared_seats.specs.declared.seat_name.SeatName.{SeatName}
use Rattle.shared_seats.proofs.Totals.{at_set, at_map, set_again, map-set, total-set, total-le, part_le, parts_le}
use Rattle.turn_book.specs.declared.logs.Log.{Log}
use Rattle.turn_book.specs.declared.view.TurnView.{TurnView}
use Rattle.turn_book.specs.Layout.{turn_in, count_in}
use Rattle.turn_book.specs.Logs.{heads_of, items_at, IsFront}
use Rattle.turn_book.specs.TurnViews.{has_turn, is_inside, times}
use Rattle.turn_book.specs.TurnRule.{turns_of, insides_of, seers_of, owners_of, between, IsHome, IsShard, Knows, AreTurns}
use Rattle.turn_book.proofs.LogLemmas.{front_refl, front_trans, stands_alike}
use Rattle.turn_book.proofs.TurnWords.{inside_le, some_test}

-- where f is nowhere above g, the others' f is no more than the others' g
others_le : {A : Type 0} (f g : A → ℕ) → ((x : A) → f x ≤ g x) → (xs : List A) (i : ℕ) (x : A) → get_elem? xs i ≡ some x
    → total f xs + g x ≤ total g xs + f x
others_le f g le [] i x e = absurd (some-ne-none x (sym e))
others_le f g le (z ∷ zs) zero x e = omega (arith, ap f (some-injective z x e), ap g (some-injective z x e), total-le f g le zs)
others_le f g le (z ∷ zs) (suc i) x e = omega (arith, le z, others_le f g le zs i x e)

-- what the new view has is in the total
new_le : {A : Type 0} (f : A → ℕ) (xs : List A) (i : ℕ) (x y : A) → get_elem? xs i ≡ some x → f y ≤ total f (set xs i y)
new_le f xs i x y e = omega (arith, total-set f xs i x y e, part_le f xs i x e)

module _ {I B : Type 0} where
  abbrev pub turn_at : ℕ → TurnView I B → ℕ
  turn_at shard view = one_if (has_turn shard view.turn)

  abbrev pub inside_at : ℕ → TurnView I B → ℕ
  inside_at shard view = one_if (is_inside shard view.turn)

  abbrev pub seer_at : ℕ → ℕ → TurnView I B → ℕ
  seer_at shard count view = one_if (eqb (length (items_at view.seen shard)) count)

  abbrev pub names_of : TurnView I B → List SeatName
  names_of view = view.names

-- the step leaves the view's part of the shard as it is
pub record IsAside {I B : Type 0} (shard : ℕ) (v w : TurnView I B) : Type 0 where
  pub turn : has_turn shard w.turn ≡ has_turn shard v.turn
  pub inside : is_inside shard w.turn ≡ is_inside shard v.turn
  pub seen : items_at w.seen shard ≡ items_at v.seen shard
  pub mine : (place : ℕ) → times shard place w.mine ≡ times shard place v.mine

-- the step leaves the shard as it is
pub record IsElsewhere {V I B : Type 0} (logs after : List (Log I B)) (s : State (Option V) (TurnView I B)) (words : List ℕ)
    (homes : List (maybe.Option (Option V))) (v w : TurnView I B) (shard : ℕ) : Type 0 where
  pub items : items_at after shard ≡ items_at logs shard
  pub turn : turn_in words shard ≡ turn_in s.words shard
  pub count : count_in words shard ≡ count_in s.words shard
  pub home : get_elem? homes shard ≡ get_elem? s.homes shard
  pub aside : IsAside shard v w

-- the step is at the shard, by a seat that has its turn before or after
pub record IsHere {V I B : Type 0} (stands : V → B → List I → Type 0) (opening logs after : List (Log I B)) (s : State (Option V) (TurnView I B))
    (words : List ℕ) (homes : List (maybe.Option (Option V))) (v w : TurnView I B) (shard : ℕ) : Type 0 where
  pub grows : IsFront (items_at logs shard) (items_at after shard)
  pub adds : (items_at after shard ≡ items_at logs shard) ⊎ (has_turn shard v.turn ≡ true)
  pub count : count_in words shard ≡ length (items_at after shard)
  pub turn : turn_in words shard + turn_at shard v ≡ turn_in s.words shard + turn_at shard w
  pub few : turn_in words shard ≤ 1
  pub acts : 0 < turn_at shard v + turn_at shard w
  pub home : turn_in words shard ≡ 0 → IsHome stands after homes shard
  pub out : is_inside shard w.turn ≡ true → get_elem? homes shard ≡ some (some None)
  pub known : items_at w.seen shard ≡ items_at after shard
  pub places : (place : ℕ) → times shard place w.mine + between (length (items_at opening shard)) (length (items_at logs shard)) place
      ≡ times shard place v.mine + between (length (items_at opening shard)) (length (items_at after shard)) place

shard_elsewhere : {V I B : Type 0} (stands : V → B → List I → Type 0) (opening logs after : List (Log I B)) (s : State (Option V) (TurnView I B))
    (words : List ℕ) (homes : List (maybe.Option (Option V))) (v w : TurnView I B) (shard id : ℕ)
    → heads_of after ≡ heads_of logs → get_elem? s.views id ≡ some v → IsElsewhere logs after s words homes v w shard
    → IsShard stands opening logs s shard
    → IsShard stands opening after (record { words = words; homes = homes; views = set s.views id w }) shard
shard_elsewhere {V} {I} {B} stands opening logs after s words homes v w shard id heads here e r = record {
  front = subst (λ (items : List _). IsFront (items_at opening shard) items) (sym e.items) r.front;
  count = e.count ∙ r.count ∙ sym (ap length e.items);
  turn = omega (arith, e.turn, r.turn, total-set (turn_at shard) s.views id v w here, ap one_if e.aside.turn);
  alone = omega (arith, e.turn, r.alone);
  home = λ free. let was = r.home (sym e.turn ∙ free) in (was.0, e.home ∙ was.1, stands_alike stands was.0 logs after shard (sym heads) (sym e.items) was.2);
  out = λ some_out. e.home ∙ r.out (omega (arith, some_out, total-set (inside_at shard) s.views id v w here, ap one_if e.aside.inside));
  known =
      let f : TurnView I B → ℕ = seer_at shard (length (items_at logs shard)) in
      let same : f w ≡ f v = ap (λ (items : List _). one_if (eqb (length items) (length (items_at logs shard)))) e.aside.seen in
      let now : 0 < total f (set s.views id w) = omega (arith, r.known, total-set f s.views id v w here, same) in
      subst (λ (items : List _). 0 < seers_of shard (length items) (set s.views id w)) (sym e.items) now;
  places = λ place.
      let f : TurnView I B → ℕ = λ view. times shard place view.mine in
      let now : owners_of shard place (set s.views id w) ≡ between (length (items_at opening shard)) (length (items_at logs shard)) place =
      omega (arith, r.places place, total-set f s.views id v w here, e.aside.mine place) in
      now ∙ ap (λ (items : List _). between (length (items_at opening shard)) (length items) place) (sym e.items);
}

shard_here : {V I B : Type 0} (stands : V → B → List I → Type 0) (opening logs after : List (Log I B)) (s : State (Option V) (TurnView I B))
    (words : List ℕ) (homes : List (maybe.Option (Option V))) (v w : TurnView I B) (shard id : ℕ)
    → get_elem? s.views id ≡ some v → IsHere stands opening logs after s words homes v w shard
    → IsShard stands opening logs s shard
    → IsShard stands opening after (record { words = words; homes = homes; views = set s.views id w }) shard
shard_here {V} {I} {B} stands opening logs after s words homes v w shard id here e r = record {
  front = front_trans _ _ _ r.front e.grows;
  count = e.count;
  turn = omega (arith, e.turn, r.turn, total-set (turn_at shard) s.views id v w here);
  alone = e.few;
  home = e.home;
  out = λ some_out.
      let outs = total-set (inside_at shard) s.views id v w here in
      let others = others_le (inside_at shard) (turn_at shard) (λ (u : TurnView I B). inside_le shard u.turn) s.views id v here in
      let mine : 0 < inside_at shard w = omega (arith, some_out, outs, others, e.turn, e.few, e.acts, r.turn, r.alone, inside_le shard w.turn) in
      e.out (some_test (is_inside shard w.turn) mine);
  known =
      let f : TurnView I B → ℕ = seer_at shard (length (items_at after shard)) in
      let all : f w ≡ 1 = ap one_if (eq-eqb (length (items_at w.seen shard)) (length (items_at after shard)) (ap length e.known)) in
      omega (arith, all, new_le f s.views id v w here);
  places = λ place. omega (arith, e.places place, r.places place, total-set (λ (u : TurnView I B). times shard place u.mine) s.views id v w here);
}

-- a step at one shard
pub record IsStep {V I B : Type 0} (stands : V → B → List I → Type 0) (opening logs after : List (Log I B)) (s : State (Option V) (TurnView I B))
    (words : List ℕ) (homes : List (maybe.Option (Option V))) (v w : TurnView I B) (shard : ℕ) : Type 0 where
  pub within : shard < length opening
  pub heads : heads_of after ≡ heads_of logs
  pub wide : length words ≡ length s.words
  pub names : w.names ≡ v.names
  pub named : 0 < length v.names
  pub seen : heads_of w.seen ≡ heads_of v.seen
  pub heard : w.heard ≡ v.heard
  pub here : IsHere stands opening logs after s words homes v w shard
  pub others : (other : ℕ) → other ≢ shard → IsElsewhere logs after s words homes v w other

-- what was heard are fronts of these logs
abbrev pub Heard : {I B : Type 0} → List (Log I B) → List (List (Log I B)) → Type 0
Heard {I} {B} logs heard = (k : ℕ) (seen : List (Log I B)) → get_elem? heard k ≡ some seen → (shard : ℕ)
    → IsFront (items_at seen shard) (items_at logs shard)

heard_still : {I B : Type 0} (logs after : List (Log I B)) (heard : List (List (Log I B))) (shard : ℕ)
    → IsFront (items_at logs shard) (items_at after shard)
    → ((other : ℕ) → other ≢ shard → items_at after other ≡ items_at logs other) → Heard logs heard → Heard after heard
heard_still logs after heard shard grows others before k seen there other =
    elim (cases_eq other shard) [
      | inl same ↦ subst (λ (n : ℕ). IsFront (items_at seen n) (items_at after n)) (sym same) (front_trans _ _ _ (before k seen there shard) grows)
      | inr aside ↦ subst (λ (items : List _). IsFront (items_at seen other) items) (sym (others other aside)) (before k seen there other)
    ]

-- what the other views know, they still know
knows_other : {V I B : Type 0} (stands : V → B → List I → Type 0) (opening logs after : List (Log I B)) (s : State (Option V) (TurnView I B))
    (words : List ℕ) (homes : List (maybe.Option (Option V))) (v w u : TurnView I B) (shard id seat : ℕ)
    → IsStep stands opening logs after s words homes v w shard → get_elem? s.views id ≡ some v → IsShard stands opening logs s shard
    → seat ≢ id → get_elem? s.views seat ≡ some u → Knows opening logs u → Knows opening after u
knows_other stands opening logs after s words homes v w u shard id seat e here r apart there k = record {
  fronts = λ other.
      elim (cases_eq other shard) [
        | inl same ↦ subst (λ (n : ℕ). IsFront (items_at u.seen n) (items_at after n)) (sym same) (front_trans _ _ _ (k.fronts shard) e.here.grows)
        | inr aside ↦ subst (λ (items : List _). IsFront (items_at u.seen other) items) (sym (e.others other aside).items) (k.fronts other)
      ];
  whole = λ other has.
      elim (cases_eq other shard) [
        | inl same ↦
            let has_here : has_turn shard u.turn ≡ true = subst (λ (n : ℕ). has_turn n u.turn ≡ true) same has in
            let long : length (items_at u.seen shard) ≡ length (items_at after shard) = elim e.here.adds [
              | inl stays ↦ k.whole shard has_here ∙ sym (ap length stays)
              | inr mine ↦ absurd (omega (
                arith,
                parts_le (turn_at shard) s.views id seat v u apart here there,
                ap one_if mine,
                ap one_if has_here,
                r.turn,
                r.alone,
              ))
            ] in
            subst (λ (n : ℕ). length (items_at u.seen n) ≡ length (items_at after n)) (sym same) long
        | inr aside ↦ k.whole other has ∙ sym (ap length (e.others other aside).items)
      ];
  heads = k.heads;
  opened = k.opened;
  idle = k.idle;
  heard = heard_still logs after u.heard shard e.here.grows (λ other aside. (e.others other aside).items) k.heard;
}

-- and the seat that steps knows the log at its shard
knows_mine : {V I B : Type 0} (stands : V → B → List I → Type 0) (opening logs after : List (Log I B)) (s : State (Option V) (TurnView I B))
    (words : List ℕ) (homes : List (maybe.Option (Option V))) (v w : TurnView I B) (shard : ℕ)
    → IsStep stands opening logs after s words homes v w shard → IsShard stands opening logs s shard
    → Knows opening logs v → Knows opening after w
knows_mine stands opening logs after s words homes v w shard e r k = record {
  fronts = λ other.
      elim (cases_eq other shard) [
        | inl same ↦
            let front : IsFront (items_at w.seen shard) (items_at after shard) =
            subst (λ (items : List _). IsFront items (items_at after shard)) (sym e.here.known) (front_refl (items_at after shard)) in
            subst (λ (n : ℕ). IsFront (items_at w.seen n) (items_at after n)) (sym same) front
        | inr aside ↦
            let there = e.others other aside in
            subst (λ (items : List _). IsFront items (items_at after other)) (sym there.aside.seen)
            (subst (λ (items : List _). IsFront (items_at v.seen other) items) (sym there.items) (k.fronts other))
      ];
  whole = λ other has.
      elim (cases_eq other shard) [
        | inl same ↦ subst (λ (n : ℕ). length (items_at w.seen n) ≡ length (items_at after n)) (sym same) (ap length e.here.known)
        | inr aside ↦
            let there = e.others other aside in
            ap length there.aside.seen ∙ k.whole other (sym there.aside.turn ∙ has) ∙ sym (ap length there.items)
      ];
  heads = λ named. e.seen ∙ k.heads e.named;
  opened = λ named other.
      elim (cases_eq other shard) [
        | inl same ↦
            let front : IsFront (items_at opening shard) (items_at w.seen shard) =
            subst (λ (items : List _). IsFront (items_at opening shard) items) (sym e.here.known) (front_trans _ _ _ r.front e.here.grows) in
            subst (λ (n : ℕ). IsFront (items_at opening n) (items_at w.seen n)) (sym same) front
        | inr aside ↦
            subst (λ (items : List _). IsFront (items_at opening other) items) (sym (e.others other aside).aside.seen) (k.opened e.named other)
      ];
  idle = λ none. absurd (omega (arith, none, e.named, ap (λ (names : List SeatName). length names) e.names));
  heard = subst (Heard after) (sym e.heard) (heard_still logs after v.heard shard e.here.grows (λ other aside. (e.others other aside).items) k.heard);
}

pub step_keeps : {V I B : Type 0} (stands : V → B → List I → Type 0) (opening : List (Log I B)) (s : State (Option V) (TurnView I B))
    (rule : AreTurns stands opening s) (id : ℕ) (after : List (Log I B)) (words : List ℕ) (homes : List (maybe.Option (Option V)))
    (v w : TurnView I B) (shard : ℕ)
    → get_elem? s.views id ≡ some v → IsStep stands opening rule.logs after s words homes v w shard
    → AreTurns stands opening (record { words = words; homes = homes; views = set s.views id w })
step_keeps stands opening s rule id after words homes v w shard here e = record {
  logs = after;
  heads = e.heads ∙ rule.heads;
  wide = e.wide ∙ rule.wide;
  shards = λ other below.
      elim (cases_eq other shard) [
        | inl same ↦
            subst (λ (n : ℕ). IsShard stands opening after (record { words = words; homes = homes; views = set s.views id w }) n) (sym same)
            (shard_here stands opening rule.logs after s words homes v w shard id here e.here (rule.shards shard e.within))
        | inr aside ↦ shard_elsewhere stands opening rule.logs after s words homes v w other id e.heads here (e.others other aside) (rule.shards other below)
      ];
  knows = λ seat view there.
      elim (at_set s.views id seat w view there) [
        | inl mine ↦
            subst (Knows opening after) mine.1
            (knows_mine stands opening rule.logs after s words homes v w shard e (rule.shards shard e.within) (rule.knows id v here))
        | inr other ↦
            knows_other stands opening rule.logs after s words homes v w view shard id seat e here (rule.shards shard e.within) other.0 other.1
            (rule.knows seat view other.1)
      ];
  names = subst AreNamed
      (sym (map-set names_of s.views id w
      ∙ set_again (map names_of s.views) id w.names
      (at_map names_of s.views id v here ∙ ap (λ (names : List SeatName). some names) (sym e.names)))) rule.names;
}

-- views with as many turns and places as before, of which some know the whole logs
pub kept_alike : {V I B : Type 0} (stands : V → B → List I → Type 0) (opening : List (Log I B)) (s : State (Option V) (TurnView I B))
    (rule : AreTurns stands opening s) (views : List (TurnView I B))
    → ((shard : ℕ) → turns_of shard views ≡ turns_of shard s.views)
    → ((shard : ℕ) → insides_of shard views ≡ insides_of shard s.views)
    → ((shard place : ℕ) → owners_of shard place views ≡ owners_of shard place s.views)
    → ((shard : ℕ) → 0 < seers_of shard (length (items_at rule.logs shard)) s.views → 0 < seers_of shard (length (items_at rule.logs shard)) views)
    → ((seat : ℕ) (view : TurnView I B) → get_elem? views seat ≡ some view → Knows opening rule.logs view)
    → AreNamed (map names_of views)
    → AreTurns stands opening (record { words = s.words; homes = s.homes; views = views })
kept_alike stands opening s rule views turns insides owners seers knows names = record {
  logs = rule.logs;
  heads = rule.heads;
  wide = rule.wide;
  shards = λ shard below.
      let r = rule.shards shard below in
      record {
        front = r.front;
        count = r.count;
        turn = r.turn ∙ sym (turns shard);
        alone = r.alone;
        home = r.home;
        out = λ some_out. r.out (omega (arith, some_out, insides shard));
        known = seers shard r.known;
        places = λ place. owners shard place ∙ r.places place;
      };
  knows = knows;
  names = names;
}
