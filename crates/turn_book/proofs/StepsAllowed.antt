-- Each step on the words is allowed: it preserves the invariant.
use Rattle.std.proofs.Common.{◌≡◌, ◌≢◌, ℕ, ◌+◌, ◌%◌, ◌^◌, ◌<◌, ◌≤◌, List, [], ◌∷◌, ◌++◌, map, length, set, get_or, Bool, true, false, ◌&&◌, eqb}
use Rattle.std.proofs.Common.{Option, Some, None, inl, inr, refl, sym, ap, ◌∙◌, subst, arith, length-set, length-append}
use Rattle.std.proofs.Math.Nat.{mod-eq_of_lt}
use Rattle.std.proofs.lemmas.Bool.{ne_eqb}
use Rattle.std.proofs.lemmas.Option.{same_Some}
use lib.Seq.{set-get_or}
use mathlib.Core.Option.{none, some, some-ne-none}
use mathlib.Core.Option as maybe
use lib.ListN.{get_elem?}
use prog.Atomic.{either}
use Rattle.atomic_table.specs.Table.{State, Me, Act, step, keeps, takes, gives, Valid, Allows, stepped, carried_after}
use Rattle.atomic_table.proofs.Lists.{exchanged, set_here}
use Rattle.shared_seats.specs.Totals.{one_if}
use Rattle.shared_seats.specs.Totals.{total}
use Rattle.shared_seats.specs.SeatNames.{AreNamed}
use Rattle.shared_seats.proofs.Totals.{at_set, at_map, set_again, map-set, total-set, get_set_other, part_le}
use Rattle.turn_book.specs.declared.logs.Log.{Log}
use Rattle.turn_book.specs.declared.view.Turn.{Turn}
use Rattle.turn_book.specs.declared.view.Turn.TheVariants.{Free, Moving, Inside}
use Rattle.turn_book.specs.declared.view.TurnView.{TurnView}
use Rattle.turn_book.specs.Layout.{turn_word_of, count_word_of, turn_in, count_in}
use Rattle.turn_book.specs.Logs.{heads_of, items_at, with_items, IsFront, StandsAt}
use Rattle.turn_book.specs.TurnViews.{has_turn, is_inside, times, moving, counted, free, settled}
use Rattle.turn_book.specs.TurnRule.{between, AreTurns, IsShard, Knows}
use Rattle.turn_book.specs.TurnSteps.{taken, looked, added, retaken, released, learned}
use Rattle.turn_book.proofs.LogLemmas
use Rattle.turn_book.proofs.TurnWords
use Rattle.turn_book.proofs.KeepsTurns.{IsAside, IsStep, turn_at, inside_at, seer_at, names_of, step_keeps, kept_alike}

-- a view's part of another shard than that of its turn
aside : {I B : Type 0} (v w : TurnView I B) (shard : ℕ) → has_turn shard v.turn ≡ false → has_turn shard w.turn ≡ false
    → items_at w.seen shard ≡ items_at v.seen shard
    → ((place : ℕ) → times shard place w.mine ≡ times shard place v.mine) → IsAside shard v w
aside v w shard before after seen mine = record {
  turn = after ∙ sym before;
  inside = TurnWords.inside-off shard w.turn after ∙ sym (TurnWords.inside-off shard v.turn before);
  seen = seen;
  mine = mine;
}

module _ {V I B : Type 0} (stands : V → B → List I → Type 0) (opening : List (Log I B)) (s : State (Option V) (TurnView I B))
    (rule : AreTurns stands opening s) (id : ℕ) (v : TurnView I B) (here : get_elem? s.views id ≡ some v) (named : 0 < length v.names)
    (shard : ℕ) (within : shard < length opening) where
  abbrev now : IsShard stands opening rule.logs s shard
  now = rule.shards shard within

  abbrev knows : Knows opening rule.logs v
  knows = rule.knows id v here

  abbrev items : List I
  items = items_at rule.logs shard

  seen_heads : heads_of v.seen ≡ heads_of rule.logs
  seen_heads = knows.heads named ∙ sym rule.heads

  logs_below : shard < length rule.logs
  logs_below = omega (arith, LogLemmas.heads-length rule.logs opening rule.heads)

  seen_below : shard < length v.seen
  seen_below = omega (arith, LogLemmas.heads-length v.seen opening (knows.heads named))

  turn_inside : turn_word_of shard < length s.words
  turn_inside = omega (arith, rule.wide)

  count_inside : count_word_of shard < length s.words
  count_inside = omega (arith, rule.wide)

  -- who has the turn has seen the whole log, and the turn is taken
  whole : has_turn shard v.turn ≡ true → items_at v.seen shard ≡ items
  whole has = LogLemmas.front_whole (items_at v.seen shard) items (knows.fronts shard) (knows.whole shard has)

  taken_turn : has_turn shard v.turn ≡ true → turn_in s.words shard ≡ 1
  taken_turn has = omega (arith, now.turn, now.alone, ap one_if has, part_le (turn_at shard) s.views id v here)

  same_views : set s.views id v ≡ s.views
  same_views = set_again s.views id v here

  -- a load changes no word
  loaded : (word : ℕ) (homes : List (maybe.Option (Option V))) (w : TurnView I B)
      → AreTurns stands opening (record { words = s.words; homes = homes; views = set s.views id w })
      → AreTurns stands opening (record { words = set s.words word (get_or s.words word 0); homes = homes; views = set s.views id w })
  loaded word homes w kept =
      subst (λ (words : List ℕ). AreTurns stands opening (record { words = words; homes = homes; views = set s.views id w }))
      (sym (set-get_or s.words word 0)) kept

  -- nothing has changed
  unchanged : (word : ℕ) → AreTurns stands opening (record { words = set s.words word (get_or s.words word 0); homes = s.homes; views = set s.views id v })
  unchanged word =
      loaded word s.homes v (subst (λ (views : List (TurnView I B)). AreTurns stands opening (record { words = s.words; homes = s.homes; views = views }))
      (sym same_views) rule)

  -- ---- what was heard is forgotten
  settles : AreTurns stands opening (record { words = s.words; homes = s.homes; views = set s.views id (settled v) })
  settles = kept_alike stands opening s rule (set s.views id (settled v)) (λ k. same (turn_at k) refl) (λ k. same (inside_at k) refl)
      (λ k place. same (λ (u : TurnView I B). times k place u.mine) refl) (λ k old. omega (arith, old, same (seer_at k (length (items_at rule.logs k))) refl))
      (λ seat view there.
      elim (at_set s.views id seat (settled v) view there) [
        | inl mine ↦ subst (Knows opening rule.logs) mine.1 (record {
          fronts = knows.fronts;
          whole = knows.whole;
          heads = knows.heads;
          opened = knows.opened;
          idle = λ none. absurd (omega arith);
          heard = λ k seen at. absurd (some-ne-none seen (sym at));
        })
        | inr other ↦ rule.knows seat view other.1
      ])
      (subst AreNamed (sym (map-set names_of s.views id (settled v)
      ∙ set_again (map names_of s.views) id v.names (at_map names_of s.views id v here))) rule.names)
    where
      same : (f : TurnView I B → ℕ) → f (settled v) ≡ f v → total f (set s.views id (settled v)) ≡ total f s.views
      same f e = omega (arith, e, total-set f s.views id v (settled v) here)

  -- ---- the turn is taken
  module _ (off : v.turn ≡ Free) where
    abbrev mover : TurnView I B
    mover = moving shard items v

    mover_items : items_at mover.seen shard ≡ items
    mover_items = LogLemmas.items-with_same v.seen shard items seen_below

    take_step : turn_in s.words shard ≡ 0
        → IsStep stands opening rule.logs rule.logs s (set s.words (turn_word_of shard) 1) (set s.homes shard none) v mover shard
    take_step is_free = record {
      within = within;
      heads = refl;
      wide = length-set s.words (turn_word_of shard) 1;
      names = refl;
      named = named;
      seen = LogLemmas.heads-with v.seen shard items;
      heard = refl;
      here = record {
        grows = LogLemmas.front_refl items;
        adds = inl refl;
        count = TurnWords.count-set_turn s.words shard shard 1 ∙ now.count;
        turn = omega (
          arith,
          TurnWords.turn-set_turn s.words shard 1 turn_inside,
          is_free,
          ap (λ (t : Turn). one_if (has_turn shard t)) off,
          ap one_if (TurnWords.eqb-self shard),
        );
        few = omega (arith, TurnWords.turn-set_turn s.words shard 1 turn_inside);
        acts = omega (arith, ap one_if (TurnWords.eqb-self shard));
        home = λ free_now. absurd (omega (arith, free_now, TurnWords.turn-set_turn s.words shard 1 turn_inside));
        out = λ inside. absurd (cc);
        known = mover_items;
        places = λ place. refl;
      };
      others = λ other apart. record {
        items = refl;
        turn = TurnWords.turn-set_turn_other s.words shard other 1 apart;
        count = TurnWords.count-set_turn s.words shard other 1;
        home = get_set_other s.homes shard other none apart;
        aside = aside v mover other (ap (has_turn other) off) (TurnWords.moving-other shard other apart)
            (LogLemmas.items-with_other v.seen shard other items apart) (λ place. refl);
      };
    }

  -- ---- the count is read, and the slot given back
  module _ (mid : v.turn ≡ Moving shard) (slot : shard < length s.homes) where
    abbrev insider : TurnView I B
    insider = record v { turn = Inside shard }

    has_moving : has_turn shard v.turn ≡ true
    has_moving = ap (has_turn shard) mid ∙ TurnWords.eqb-self shard

    look_step : IsStep stands opening rule.logs rule.logs s s.words (set s.homes shard (some None)) v insider shard
    look_step = record {
      within = within;
      heads = refl;
      wide = refl;
      names = refl;
      named = named;
      seen = refl;
      heard = refl;
      here = record {
        grows = LogLemmas.front_refl items;
        adds = inl refl;
        count = now.count;
        turn = omega (arith, ap one_if has_moving, ap one_if (TurnWords.eqb-self shard));
        few = now.alone;
        acts = omega (arith, ap one_if has_moving);
        home = λ free_now. absurd (omega (arith, free_now, taken_turn has_moving));
        out = λ inside. set_here s.homes shard (some None) slot;
        known = whole has_moving;
        places = λ place. refl;
      };
      others = λ other apart. record {
        items = refl;
        turn = refl;
        count = refl;
        home = get_set_other s.homes shard other (some None) apart;
        aside = aside v insider other (ap (has_turn other) mid ∙ TurnWords.moving-other shard other apart) (TurnWords.inside-other shard other apart) refl
            (λ place. refl);
      };
    }

    -- ---- the turn is given back
    abbrev leaver : TurnView I B
    leaver = free v

    release_step : (value : V) → StandsAt stands value v.seen shard
        → IsStep stands opening rule.logs rule.logs s (set s.words (turn_word_of shard) 0) (set s.homes shard (some (Some value))) v leaver shard
    release_step value stood = record {
      within = within;
      heads = refl;
      wide = length-set s.words (turn_word_of shard) 0;
      names = refl;
      named = named;
      seen = refl;
      heard = refl;
      here = record {
        grows = LogLemmas.front_refl items;
        adds = inl refl;
        count = TurnWords.count-set_turn s.words shard shard 0 ∙ now.count;
        turn = omega (arith, TurnWords.turn-set_turn s.words shard 0 turn_inside, ap one_if has_moving, taken_turn has_moving);
        few = omega (arith, TurnWords.turn-set_turn s.words shard 0 turn_inside);
        acts = omega (arith, ap one_if has_moving);
        home = λ free_now. (
          value,
          set_here s.homes shard (some (Some value)) slot,
          LogLemmas.stands_alike stands value v.seen rule.logs shard seen_heads (whole has_moving) stood,
        );
        out = λ inside. absurd (cc);
        known = whole has_moving;
        places = λ place. refl;
      };
      others = λ other apart. record {
        items = refl;
        turn = TurnWords.turn-set_turn_other s.words shard other 0 apart;
        count = TurnWords.count-set_turn s.words shard other 0;
        home = get_set_other s.homes shard other (some (Some value)) apart;
        aside = aside v leaver other (ap (has_turn other) mid ∙ TurnWords.moving-other shard other apart) refl refl (λ place. refl);
      };
    }

  module _ (inner : v.turn ≡ Inside shard) where
    has_inside : has_turn shard v.turn ≡ true
    has_inside = ap (has_turn shard) inner ∙ TurnWords.eqb-self shard

    is_out : get_elem? s.homes shard ≡ some (some None)
    is_out = now.out (omega (
      arith,
      part_le (inside_at shard) s.views id v here,
      ap (λ (t : Turn). one_if (is_inside shard t)) inner,
      ap one_if (TurnWords.eqb-self shard),
    ))

    -- ---- the slot is taken again
    abbrev retaker : TurnView I B
    retaker = record v { turn = Moving shard }

    retake_step : IsStep stands opening rule.logs rule.logs s s.words (set s.homes shard none) v retaker shard
    retake_step = record {
      within = within;
      heads = refl;
      wide = refl;
      names = refl;
      named = named;
      seen = refl;
      heard = refl;
      here = record {
        grows = LogLemmas.front_refl items;
        adds = inl refl;
        count = now.count;
        turn = omega (arith, ap one_if has_inside, ap one_if (TurnWords.eqb-self shard));
        few = now.alone;
        acts = omega (arith, ap one_if has_inside);
        home = λ free_now. absurd (omega (arith, free_now, taken_turn has_inside));
        out = λ inside. absurd (cc);
        known = whole has_inside;
        places = λ place. refl;
      };
      others = λ other apart. record {
        items = refl;
        turn = refl;
        count = refl;
        home = get_set_other s.homes shard other none apart;
        aside = aside v retaker other (ap (has_turn other) inner ∙ TurnWords.inside-other shard other apart) (TurnWords.moving-other shard other apart) refl
            (λ place. refl);
      };
    }

    -- ---- an item is counted
    module _ (item : I) (room : length (items_at v.seen shard) < 2 ^ 63) where
      abbrev counter : TurnView I B
      counter = counted shard item v

      abbrev more : List I
      more = items ++ item ∷ []

      abbrev new_count : ℕ
      new_count = (count_in s.words shard + 1) % 2 ^ 64

      counts : new_count ≡ length items + 1
      counts =
          let small : count_in s.words shard + 1 < 2 ^ 64 = omega (arith, room, now.count, ap length (whole has_inside)) in
          mod-eq_of_lt small ∙ ap (λ (n : ℕ). n + 1) now.count

      counter_items : items_at counter.seen shard ≡ more
      counter_items =
          LogLemmas.items-with_same v.seen shard (items_at v.seen shard ++ item ∷ []) seen_below ∙ ap (λ (xs : List I). xs ++ item ∷ []) (whole has_inside)

      after_items : items_at (with_items rule.logs shard more) shard ≡ more
      after_items = LogLemmas.items-with_same rule.logs shard more logs_below

      long_items : length (items_at (with_items rule.logs shard more) shard) ≡ length items + 1
      long_items = ap length after_items ∙ length-append items (item ∷ [])

      add_step : IsStep stands opening rule.logs (with_items rule.logs shard more) s (set s.words (count_word_of shard) new_count) s.homes v counter shard
      add_step = record {
        within = within;
        heads = LogLemmas.heads-with rule.logs shard more;
        wide = length-set s.words (count_word_of shard) new_count;
        names = refl;
        named = named;
        seen = LogLemmas.heads-with v.seen shard (items_at v.seen shard ++ item ∷ []);
        heard = refl;
        here = record {
          grows = subst (λ (xs : List I). IsFront items xs) (sym after_items)
              (LogLemmas.front_append items items (item ∷ []) (LogLemmas.front_refl items));
          adds = inr has_inside;
          count = TurnWords.count-set_count s.words shard new_count count_inside ∙ counts ∙ sym long_items;
          turn = omega (arith, TurnWords.turn-set_count s.words shard shard new_count);
          few = omega (arith, TurnWords.turn-set_count s.words shard shard new_count, now.alone);
          acts = omega (arith, ap one_if has_inside);
          home = λ free_now. absurd (omega (arith, free_now, TurnWords.turn-set_count s.words shard shard new_count, taken_turn has_inside));
          out = λ inside. is_out;
          known = counter_items ∙ sym after_items;
          places = λ place.
              let first : ℕ = length (items_at opening shard) in
              let le : first ≤ length items = LogLemmas.front_length (items_at opening shard) items now.front in
              let up : between first (length (items_at (with_items rule.logs shard more) shard)) place ≡ between first (length items) place
              + one_if (eqb (length items) place) =
              ap (λ (n : ℕ). between first n place) long_items ∙ TurnWords.between-more first (length items) place le in
              let mine : times shard place counter.mine ≡ one_if (eqb (length items) place) + times shard place v.mine =
              ap (λ (b : Bool). one_if (b && eqb (length (items_at v.seen shard)) place) + times shard place v.mine) (TurnWords.eqb-self shard)
              ∙ ap (λ (xs : List I). one_if (eqb (length xs) place) + times shard place v.mine) (whole has_inside) in
              omega (arith, up, mine);
        };
        others = λ other apart. record {
          items = LogLemmas.items-with_other rule.logs shard other more apart;
          turn = TurnWords.turn-set_count s.words shard other new_count;
          count = TurnWords.count-set_count_other s.words shard other new_count apart;
          home = refl;
          aside = aside v counter other (ap (has_turn other) inner ∙ TurnWords.inside-other shard other apart)
              (ap (has_turn other) inner ∙ TurnWords.inside-other shard other apart)
              (LogLemmas.items-with_other v.seen shard other (items_at v.seen shard ++ item ∷ []) apart)
              (λ place.
              let off : eqb shard other ≡ false = ne_eqb shard other (λ same. apart (sym same)) in
              omega (arith, ap (λ (b : Bool). one_if (b && eqb (length (items_at v.seen shard)) place)) off));
        };
      }

-- ---- what each step asks
module _ {V I B : Type 0} (stands : V → B → List I → Type 0) (opening : List (Log I B)) (id : ℕ) (v : TurnView I B) (shard : ℕ)
    (within : shard < length opening) (named : 0 < length v.names) where
  pub takes_allowed : (slots : ℕ) → v.turn ≡ Free
      → Allows (AreTurns stands opening) slots id (v, []) (turn_word_of shard) (λ n. either (eqb n 0) 1 n)
      (taken stands (step slots (turn_word_of shard) 0 1 none) (v, []))
  takes_allowed slots off s rule long here range =
      let word : ℕ = turn_word_of shard in
      let n : ℕ = get_or s.words word 0 in
      let tells : Me (Option V) (TurnView I B) → Type 0 = taken stands (step slots word 0 1 none) (v, []) n in
      let F : ℕ → Type 0 = λ new. (w : TurnView I B) × (a : Act (Option V)) × Valid s.homes [] a × AreTurns stands opening (stepped s word new id [] w a)
      × tells (w, carried_after [] a) in
      exchanged n 0 1 F
      (λ is_free.
      let home = (rule.shards shard within).home is_free in
      let items : List I = items_at rule.logs shard in
      let w : TurnView I B = moving shard items v in
      let heads : heads_of rule.logs ≡ heads_of w.seen =
      sym (LogLemmas.heads-with v.seen shard items ∙ seen_heads stands opening s rule id v here named shard within) in
      let known : items_at w.seen shard ≡ items = mover_items stands opening s rule id v here named shard within off in
      let P : ℕ → Type 0 = λ k. (n ≡ 0 → (others : List I) × (value : V) × IsFront (items_at v.seen k) others × (w ≡ moving k others v)
      × (((shard, Some home.0) ∷ []) ≡ ((k, Some value) ∷ [])) × StandsAt stands value w.seen k) × (n ≢ 0 → (w, (shard, Some home.0) ∷ []) ≡ (v, [])) in
      let told : P shard = (
        λ _. (
          items,
          home.0,
          (rule.knows id v here).fronts shard,
          refl,
          refl,
          LogLemmas.stands_alike stands home.0 rule.logs w.seen shard heads (sym known) home.2,
        ),
        λ busy. absurd (busy is_free),
      ) in (
        w,
        takes shard (Some home.0),
        home.1,
        step_keeps stands opening s rule id rule.logs (set s.words word 1) (set s.homes shard none) v w shard here
            (take_step stands opening s rule id v here named shard within off is_free),
        λ other is. subst P (TurnWords.shard_by_turn shard other is) told,
      ))
      (λ busy. (
        v,
        keeps,
        tt,
        unchanged stands opening s rule id v here named shard within word,
        λ other is. (λ is_free. absurd (busy is_free), λ _. refl),
      ))

  pub looks_allowed : (slots : ℕ) → shard < slots → v.turn ≡ Moving shard
      → Allows (AreTurns stands opening) slots id (v, (shard, None) ∷ []) (count_word_of shard) (λ n. n)
      (looked (step slots (count_word_of shard) 0 0 none) (v, (shard, None) ∷ []))
  looks_allowed slots slot mid s rule long here range =
      let n : ℕ = get_or s.words (count_word_of shard) 0 in
      let w : TurnView I B = record v { turn = Inside shard } in
      let has = has_moving stands opening s rule id v here named shard within mid (omega arith) in
      let now = rule.shards shard within in
      let P : ℕ → Type 0 = λ k. (let after : Me (Option V) (TurnView I B) = (w, []) in after ≡ (record v { turn = Inside k }, []))
      × (n ≡ length (items_at v.seen k)) in
      let told : P shard = (refl, now.count ∙ sym (ap length (whole stands opening s rule id v here named shard within has))) in (
        w,
        gives,
        tt,
        loaded stands opening s rule id v here named shard within (count_word_of shard) (set s.homes shard (some None)) w
            (step_keeps stands opening s rule id rule.logs s.words (set s.homes shard (some None)) v w shard here
            (look_step stands opening s rule id v here named shard within mid (omega arith))),
        λ other is. subst P (TurnWords.shard_by_count shard other is) told,
      )

  pub adds_allowed : (slots : ℕ) (next : Option I) (item : I) → next ≡ Some item → v.turn ≡ Inside shard → length (items_at v.seen shard) < 2 ^ 63
      → Allows (AreTurns stands opening) slots id (v, []) (count_word_of shard) (λ n. (n + 1) % 2 ^ 64)
      (added next (step slots (count_word_of shard) 1 0 none) (v, []))
  adds_allowed slots next item is_next inner room s rule long here range =
      let w : TurnView I B = counted shard item v in
      let P : ℕ → I → Type 0 = λ k x. let after : Me (Option V) (TurnView I B) = (w, []) in after ≡ (counted k x v, []) in
      let told : P shard item = refl in (
        w,
        keeps,
        tt,
        step_keeps stands opening s rule id (with_items rule.logs shard (items_at rule.logs shard ++ item ∷ []))
            (set s.words (count_word_of shard) ((count_in s.words shard + 1) % 2 ^ 64)) s.homes v w shard here
            (add_step stands opening s rule id v here named shard within inner item room),
        λ other x is also.
            subst (λ (k : ℕ). P k x) (TurnWords.shard_by_count shard other is)
            (subst (P shard) (same_Some item x (sym is_next ∙ also)) told),
      )

  pub retakes_allowed : (slots : ℕ) → v.turn ≡ Inside shard
      → Allows (AreTurns stands opening) slots id (v, []) (turn_word_of shard) (λ n. n)
      (retaken (step slots (turn_word_of shard) 0 0 none) (v, []))
  retakes_allowed slots inner s rule long here range =
      let w : TurnView I B = record v { turn = Moving shard } in
      let P : ℕ → Type 0 = λ k. let after : Me (Option V) (TurnView I B) = (w, (shard, None) ∷ []) in after ≡ (record v { turn = Moving k }, (k, None) ∷ []) in
      let told : P shard = refl in (
        w,
        takes shard None,
        is_out stands opening s rule id v here named shard within inner,
        loaded stands opening s rule id v here named shard within (turn_word_of shard) (set s.homes shard none) w
            (step_keeps stands opening s rule id rule.logs s.words (set s.homes shard none) v w shard here
            (retake_step stands opening s rule id v here named shard within inner)),
        λ other is. subst P (TurnWords.shard_by_turn shard other is) told,
      )

  pub releases_allowed : (slots : ℕ) (value : V) → shard < slots → v.turn ≡ Moving shard → StandsAt stands value v.seen shard
      → Allows (AreTurns stands opening) slots id (v, (shard, Some value) ∷ []) (turn_word_of shard) (λ _. 0)
      (λ _. released (step slots (turn_word_of shard) 0 0 none) (v, (shard, Some value) ∷ []) 0)
  releases_allowed slots value slot mid stood s rule long here range =
      let w : TurnView I B = free v in (
        w,
        gives,
        tt,
        step_keeps stands opening s rule id rule.logs (set s.words (turn_word_of shard) 0) (set s.homes shard (some (Some value))) v w shard here
            (release_step stands opening s rule id v here named shard within mid (omega arith) value stood),
        λ other is. refl,
      )

  pub learns_allowed : (slots word : ℕ)
      → Allows (AreTurns stands opening) slots id (v, []) word (λ n. n) (learned (step slots word 0 0 none) (v, []))
  learns_allowed slots word s rule long here range = (
    settled v,
    keeps,
    tt,
    loaded stands opening s rule id v here named shard within word s.homes (settled v) (settles stands opening s rule id v here named shard within),
    (
      refl,
      λ k seen at other le.
          let knows = rule.knows id v here in
          LogLemmas.front_below (items_at seen other) (items_at v.seen other) (items_at rule.logs other) (knows.heard k seen at other) (knows.fronts other) le,
    ),
  )
