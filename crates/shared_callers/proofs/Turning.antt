-- Whose turn it is, and what the parts have, after each step of dealing and of writing.
use Rattle.std.proofs.Common.{◌≡◌, ℕ, suc, ◌+◌, ◌*◌, ◌%◌, ◌<◌, List, [], ◌∷◌, ◌++◌, length, set, All, Some}
use Rattle.std.proofs.Common.{inl, inr, refl, sym, ap, ◌∙◌, arith}
use Rattle.std.proofs.lemmas.List.{length-append}
use Rattle.std.proofs.Math.Logic.{∥∥₁_elim, ∥∥₁_map}
use Rattle.std.proofs.Math.Nat.{zero-mod}
use Rattle.std.proofs.Props.{props}
use Rattle.std.specs.List.{slice_get}
use Rattle.shared_laws.proofs.Every.{turn-next}
use Rattle.shared_laws.proofs.HavingTurns.{length-same, turns-deal, turns-take, turns-none, turns-same}
use Rattle.shared_laws.proofs.HavingTurns.{turns-nothing, turns-room}
use Rattle.shared_callers.specs.Parts.{lines_of, texts_of}
use Rattle.shared_callers.specs.Turns.{AreWaiting, AreDue, IsBehind, IsWaiting, IsDue}
use Rattle.shared_callers.specs.declared.part.Part.{Part}
use Rattle.shared_callers.proofs.Lists.{at-all}

pub next-turn : (n count place next : ℕ) → 0 < count → place ≡ n % count → IsBehind count place next → next ≡ suc n % count
next-turn n count place next some turn behind = elim (turn-next n count some) [
  | inl more ↦ behind.0 (omega (arith, more.0, turn)) ∙ omega (arith, more.1, turn)
  | inr last ↦ behind.1 (omega (arith, last.0, turn)) ∙ sym last.1
]

-- ---- one part changed

module _ (parts : List Part) (place : ℕ) (old new : Part) (old_is : slice_get parts place ≡ Some old) where
  count-same : length (set parts place new) ≡ length parts
  count-same = length-same parts place new

  -- its lines are as before
  pub waiting-same : lines_of new ≡ lines_of old → (first next count : ℕ) (before waiting : List (List ℕ))
      → AreWaiting parts first next count before waiting → AreWaiting (set parts place new) first next count before waiting
  waiting-same kept first next count before waiting are = record {
    count_is = are.count_is;
    first_is = are.first_is ∙ ap (λ n. length before % n) (sym count-same);
    next_is = are.next_is ∙ ap (λ n. length (before ++ waiting) % n) (sym count-same);
    turns = turns-same lines_of parts before waiting place old new old_is kept are.turns;
  }

  -- its texts are
  pub due-same : texts_of new ≡ texts_of old → (from count : ℕ) (taken due : List (List ℕ)) → AreDue texts_of parts from count taken due
      → AreDue texts_of (set parts place new) from count taken due
  due-same kept from count taken due are = record {
    count_is = are.count_is;
    from_is = are.from_is ∙ ap (λ n. length taken % n) (sym count-same);
    turns = turns-same texts_of parts taken due place old new old_is kept are.turns;
  }

  -- it got one line more
  pub waiting-dealt : (first next count after more : ℕ) (before waiting : List (List ℕ)) (line : List ℕ) → place ≡ next → 0 < length parts
      → lines_of new ≡ lines_of old ++ line ∷ [] → more ≡ count + 1 → IsBehind (length parts) next after
      → AreWaiting parts first next count before waiting → AreWaiting (set parts place new) first after more before (waiting ++ line ∷ [])
  waiting-dealt first next count after more before waiting line here some grown one behind are =
      let one_more : length (before ++ (waiting ++ line ∷ [])) ≡ suc (length (before ++ waiting)) = omega (
        arith,
        length-append before (waiting ++ line ∷ []),
        length-append waiting (line ∷ []),
        length-append before waiting,
      ) in
      record {
        count_is = one ∙ omega (arith, are.count_is, length-append waiting (line ∷ []));
        first_is = are.first_is ∙ ap (λ n. length before % n) (sym count-same);
        next_is =
            next-turn (length (before ++ waiting)) (length parts) next after some are.next_is behind
            ∙ ap (λ n. n % length parts) (sym one_more)
            ∙ ap (λ n. length (before ++ (waiting ++ line ∷ [])) % n) (sym count-same);
        turns = turns-deal lines_of parts before waiting place old new line old_is (here ∙ are.next_is) grown are.turns;
      }

  -- its first text was taken
  pub due-taken : (from count after less : ℕ) (taken due : List (List ℕ)) (text : List ℕ) → place ≡ from → 0 < length parts
      → texts_of old ≡ text ∷ texts_of new → less + 1 ≡ count → IsBehind (length parts) from after → AreDue texts_of parts from count taken due
      → (rest : List (List ℕ)) × (due ≡ text ∷ rest) × AreDue texts_of (set parts place new) after less (taken ++ text ∷ []) rest
  due-taken from count after less taken due text here some shrunk one behind are =
      let taking = turns-take texts_of parts taken due place old new text old_is (here ∙ are.from_is) shrunk are.turns in
      let rest : List (List ℕ) = taking.0 in
      let one_more : length (taken ++ text ∷ []) ≡ suc (length taken) = omega (arith, length-append taken (text ∷ [])) in (
        rest,
        taking.1,
        record {
          count_is = omega (arith, one, are.count_is, ap (λ (due : List (List ℕ)). length due) taking.1);
          from_is =
              next-turn (length taken) (length parts) from after some are.from_is behind
              ∙ ap (λ n. n % length parts) (sym one_more)
              ∙ ap (λ n. length (taken ++ text ∷ []) % n) (sym count-same);
          turns = taking.2;
        },
      )

  -- ---- and so it is for some lines and texts

  pub still-waiting : lines_of new ≡ lines_of old → (first next count : ℕ) → ∥ IsWaiting parts first next count ∥₁
      → ∥ IsWaiting (set parts place new) first next count ∥₁
  still-waiting kept first next count there =
      ∥∥₁_map there (λ is. record {
        before = is.before;
        waiting = is.waiting;
        are = waiting-same kept first next count is.before is.waiting is.are;
      })

  pub still-due : texts_of new ≡ texts_of old → (from count : ℕ) → ∥ IsDue texts_of parts from count ∥₁
      → ∥ IsDue texts_of (set parts place new) from count ∥₁
  still-due kept from count there =
      ∥∥₁_map there (λ is. record { taken = is.taken; due = is.due; are = due-same kept from count is.taken is.due is.are })

  pub still-dealt : (first next count after more : ℕ) (line : List ℕ) → place ≡ next → 0 < length parts
      → lines_of new ≡ lines_of old ++ line ∷ [] → more ≡ count + 1 → IsBehind (length parts) next after
      → ∥ IsWaiting parts first next count ∥₁ → ∥ IsWaiting (set parts place new) first after more ∥₁
  still-dealt first next count after more line here some grown one behind there =
      ∥∥₁_map there (λ is. record {
        before = is.before;
        waiting = is.waiting ++ line ∷ [];
        are = waiting-dealt first next count after more is.before is.waiting line here some grown one behind is.are;
      })

  pub still-taken : (from count after less : ℕ) (text : List ℕ) → place ≡ from → 0 < length parts → texts_of old ≡ text ∷ texts_of new
      → less + 1 ≡ count → IsBehind (length parts) from after → ∥ IsDue texts_of parts from count ∥₁
      → ∥ IsDue texts_of (set parts place new) after less ∥₁
  still-taken from count after less text here some shrunk one behind there =
      ∥∥₁_map there (λ is.
      let taking = due-taken from count after less is.taken is.due text here some shrunk one behind is.are in
      record { taken = is.taken ++ text ∷ []; due = taking.0; are = taking.2 })

-- ---- what the part whose turn it is has

some-length : {A : Type 0} (items : List A) → (items ≡ [] → ⊥) → 0 < length items
some-length [] some = absurd (some refl)
some-length (item ∷ items) some = omega arith

-- it has room for one line more where fewer wait than may
pub part-room : (parts : List Part) (first next count room : ℕ) (part : Part) → ∥ IsWaiting parts first next count ∥₁
    → slice_get parts next ≡ Some part → length parts * part.lines.room ≡ room → count < room → length (lines_of part) < part.lines.room
part-room parts first next count room part there part_is all fits =
    ∥∥₁_elim there (search props) (λ is.
    turns-room lines_of parts is.before is.waiting next part.lines.room part part_is is.are.next_is is.are.turns
    (omega (arith, all, fits, is.are.count_is)))

-- where a text is due it has one
pub part-due : (parts : List Part) (from count : ℕ) (part : Part) → ∥ IsDue texts_of parts from count ∥₁ → slice_get parts from ≡ Some part
    → 0 < count → 0 < length (texts_of part)
part-due parts from count part there part_is some =
    ∥∥₁_elim there (search props) (λ is.
    some-length (texts_of part) (λ none.
    let nothing = turns-none texts_of parts is.taken is.due from part part_is is.are.from_is is.are.turns none in
    absurd (omega (arith, some, is.are.count_is, ap (λ (due : List (List ℕ)). length due) nothing))))

-- ---- parts that have nothing

module _ (parts : List Part) where
  pub none-waiting : All (λ (part : Part). (lines_of part ≡ []) × (texts_of part ≡ [])) parts → AreWaiting parts 0 0 0 [] []
  none-waiting none = record {
    count_is = refl;
    first_is = sym (zero-mod (length parts));
    next_is = sym (zero-mod (length parts));
    turns = turns-nothing lines_of parts []
        (λ number part is. (at-all (λ (part : Part). (lines_of part ≡ []) × (texts_of part ≡ [])) parts number part none is).0);
  }

  pub none-due : All (λ (part : Part). (lines_of part ≡ []) × (texts_of part ≡ [])) parts → AreDue texts_of parts 0 0 [] []
  none-due none = record {
    count_is = refl;
    from_is = sym (zero-mod (length parts));
    turns = turns-nothing texts_of parts []
        (λ number part is. (at-all (λ (part : Part). (lines_of part ≡ []) × (texts_of part ≡ [])) parts number part none is).1);
  }
