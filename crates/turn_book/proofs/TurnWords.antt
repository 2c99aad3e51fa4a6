-- The words of the shards, when one of them changes, and the turns and indices of one view.
use Rattle.std.proofs.Common.{◌≡◌, ◌≢◌, ℕ, ◌+◌, ◌<◌, ◌≤◌, List, length, set, Bool, true, false, eqb, leb, ltb, inl, inr, refl, sym}
use Rattle.std.proofs.Common.{arith, get_or-set_same, get_or-set_other}
use Rattle.std.proofs.lemmas.Bool.{cases_eq, cases_lt, eq-eqb, ne_eqb, le-leb}
use Rattle.std.proofs.lemmas.Bool.Decides.{nat_tests}
use Rattle.shared_seats.specs.Totals.{one_if}
use Rattle.turn_book.specs.declared.view.Turn.{Turn}
use Rattle.turn_book.specs.declared.view.Turn.TheVariants.{Free, Moving, Inside}
use Rattle.turn_book.specs.Layout.{turn_word_of, count_word_of, turn_in, count_in}
use Rattle.turn_book.specs.TurnViews.{has_turn, is_inside}
use Rattle.turn_book.specs.TurnRule.{between}

-- ---- words
pub turn-set_turn : (words : List ℕ) (shard n : ℕ) → turn_word_of shard < length words → turn_in (set words (turn_word_of shard) n) shard ≡ n
turn-set_turn words shard n inside = get_or-set_same words (turn_word_of shard) n 0 inside

pub turn-set_turn_other : (words : List ℕ) (shard other n : ℕ) → other ≢ shard → turn_in (set words (turn_word_of shard) n) other ≡ turn_in words other
turn-set_turn_other words shard other n apart =
    get_or-set_other words (turn_word_of shard) (turn_word_of other) n 0 (λ same. apart (omega arith))

pub count-set_turn : (words : List ℕ) (shard other n : ℕ) → count_in (set words (turn_word_of shard) n) other ≡ count_in words other
count-set_turn words shard other n = get_or-set_other words (turn_word_of shard) (count_word_of other) n 0 (λ same. omega arith)

pub count-set_count : (words : List ℕ) (shard n : ℕ) → count_word_of shard < length words → count_in (set words (count_word_of shard) n) shard ≡ n
count-set_count words shard n inside = get_or-set_same words (count_word_of shard) n 0 inside

pub count-set_count_other : (words : List ℕ) (shard other n : ℕ) → other ≢ shard → count_in (set words (count_word_of shard) n) other ≡ count_in words other
count-set_count_other words shard other n apart =
    get_or-set_other words (count_word_of shard) (count_word_of other) n 0 (λ same. apart (omega arith))

pub turn-set_count : (words : List ℕ) (shard other n : ℕ) → turn_in (set words (count_word_of shard) n) other ≡ turn_in words other
turn-set_count words shard other n = get_or-set_other words (count_word_of shard) (turn_word_of other) n 0 (λ same. omega arith)

-- the word tells the shard
pub shard_by_turn : (shard other : ℕ) → turn_word_of shard ≡ turn_word_of other → shard ≡ other
shard_by_turn shard other same = omega arith

pub shard_by_count : (shard other : ℕ) → count_word_of shard ≡ count_word_of other → shard ≡ other
shard_by_count shard other same = omega arith

-- ---- turns
pub eqb-self : (n : ℕ) → eqb n n ≡ true
eqb-self n = eq-eqb n n refl

pub inside-off : (shard : ℕ) (turn : Turn) → has_turn shard turn ≡ false → is_inside shard turn ≡ false
inside-off shard Free off = refl
inside-off shard (Moving other) off = refl
inside-off shard (Inside other) off = off

pub inside_le : (shard : ℕ) (turn : Turn) → one_if (is_inside shard turn) ≤ one_if (has_turn shard turn)
inside_le shard Free = omega arith
inside_le shard (Moving other) = omega arith
inside_le shard (Inside other) = omega arith

pub moving-other : (shard other : ℕ) → other ≢ shard → has_turn other (Moving shard) ≡ false
moving-other shard other apart = ne_eqb shard other (λ same. apart (sym same))

pub inside-other : (shard other : ℕ) → other ≢ shard → has_turn other (Inside shard) ≡ false
inside-other shard other apart = ne_eqb shard other (λ same. apart (sym same))

pub some_test : (test : Bool) → 0 < one_if test → test ≡ true
some_test true some = refl
some_test false some = absurd (omega arith)

-- ---- places
-- one item more has one place more
pub between-more : (first count place : ℕ) → first ≤ count → between first (count + 1) place ≡ between first count place + one_if (eqb count place)
between-more first count place le =
    elim (cases_lt place count) [
      | inl below ↦
          let old : ltb place count ≡ true = grind (arith, nat_tests) in
          let new : ltb place (count + 1) ≡ true = grind (arith, nat_tests) in
          let apart : eqb count place ≡ false = ne_eqb count place (λ same. omega arith) in
          rw (old, new, apart) (omega arith)
      | inr above ↦
          let old : ltb place count ≡ false = grind (arith, nat_tests) in
          elim (cases_eq count place) [
            | inl same ↦
                let new : ltb place (count + 1) ≡ true = grind (arith, nat_tests) in
                let late : leb first place ≡ true = le-leb first place (omega arith) in
                let here : eqb count place ≡ true = eq-eqb count place same in
                rw (late, new, old, here) refl
            | inr apart ↦
                let new : ltb place (count + 1) ≡ false = grind (arith, nat_tests) in
                let there : eqb count place ≡ false = ne_eqb count place apart in
                rw (new, old, there) (omega arith)
          ]
    ]
