-- In mid-line: the invariant of a call for the next line, and how each outcome follows from it.
use Rattle.std.proofs.Common.{◌≡◌, ℕ, ◌+◌, ◌-◌, ◌<◌, ◌≤◌, inl, inr, ⊎_elim, List, [], ◌∷◌, ◌++◌, length, take, false, cond, eqb, Option, refl, sym, ap, subst}
use Rattle.std.proofs.Common.{◌∙◌, arith, append_assoc, append-nil}
use Rattle.std.specs.Io.KnownBytes.{Consumes, Keeps, IsAtEnd}
use Rattle.std.proofs.KnownBytes.{Consumes-nil, Consumes-trans, Consumes-kept}
use Rattle.std.proofs.lemmas.Bool.{cases_lt}
use Rattle.std.proofs.lemmas.Bool.Decides.{nat_tests}
use Rattle.std.proofs.lemmas.List.{length-append, nil_from_length}
use Rattle.std.proofs.Math.Seq.{take-append-add}
use Rattle.issuer_base.specs.OutsideFaults.{CountsFaults}
use Rattle.issuer_base.proofs.ManyCalls.{CountsFaults-no_call, CountsFaults-then}
use Rattle.line_reader.specs.declared.window.Window.{Window}
use Rattle.line_reader.specs.Lines.{IsUnbroken}
use Rattle.line_reader.specs.Reading.{Reading, IsWithinLimits, StaysWithinLimits, PassesLimit}
use Rattle.line_reader.specs.NextLine.{GivesInHand, GivesLine, GivesRest, ReachesEnd, StopsAtFault, StopsAtLimit}
use Rattle.line_reader.specs.Window.{ahead_of, line_of, HasPassed, PassesNewline, PassesAll, LacksRoom, Gives}

-- ---- bytes without a newline

pub IsUnbroken-append : (xs ys : List ℕ) → IsUnbroken xs → IsUnbroken ys → IsUnbroken (xs ++ ys)
IsUnbroken-append [] ys p q = q
IsUnbroken-append (x ∷ xs) ys p q = (p.0, IsUnbroken-append xs ys p.1 q)

-- ---- the room that the limits leave

-- so many bytes may come after so many lines of so many bytes: none once all lines were given
pub record IsRoom (lines bytes room : ℕ) : Type 0 where
  pub within : IsWithinLimits lines bytes
  pub none : lines ≡ 1048576 → room ≡ 0
  pub some : lines < 1048576 → bytes + room ≡ 2147483648

pub IsRoom-from_limits : (lines bytes room : ℕ) → IsWithinLimits lines bytes → room ≡ cond (eqb lines 1048576) 0 (2147483648 - bytes)
    → IsRoom lines bytes room
IsRoom-from_limits lines bytes room within is =
    let none : lines ≡ 1048576 → room ≡ 0 = λ full. grind (arith, nat_tests) in
    let some : lines < 1048576 → bytes + room ≡ 2147483648 = λ less. grind (arith, nat_tests, within.bytes_within) in
    record { within = within; none = none; some = some }

pub StaysWithinLimits-from_room : (lines bytes room : ℕ) (more : List ℕ) → IsRoom lines bytes room → length more ≤ room → StaysWithinLimits lines bytes more
StaysWithinLimits-from_room lines bytes room more left fits =
    ⊎_elim
    (λ (less : lines < 1048576). record { lines_fit = left.within.lines_within; line_fits = λ _. less; bytes_fit = omega (arith, left.some less) })
    (λ (full : 1048576 ≤ lines).
    let none : room ≡ 0 = left.none (omega (arith, left.within.lines_within)) in
    record {
      lines_fit = left.within.lines_within;
      line_fits = λ some. absurd (some (nil_from_length more (omega arith)));
      bytes_fit = omega (arith, left.within.bytes_within);
    })
    (cases_lt lines 1048576)

pub PassesLimit-from_room : (lines bytes room : ℕ) (more : List ℕ) → IsRoom lines bytes room → IsUnbroken (take room more) → room < length more
    → PassesLimit lines bytes more
PassesLimit-from_room lines bytes room more left unbroken longer =
    ⊎_elim
    (λ (less : lines < 1048576).
    let is : room ≡ 2147483648 - bytes = omega (arith, left.some less) in
    inr (subst (λ (n : ℕ). IsUnbroken (take n more)) is unbroken, subst (λ (n : ℕ). n < length more) is longer))
    (λ (full : 1048576 ≤ lines). inl (omega (arith, left.within.lines_within), λ none. omega (arith, ap length none)))
    (cases_lt lines 1048576)

pub IsWithinLimits-more : (lines bytes room taken : ℕ) → IsRoom lines bytes room → 0 < taken → taken ≤ room → IsWithinLimits (lines + 1) (bytes + taken)
IsWithinLimits-more lines bytes room taken left some fits =
    ⊎_elim
    (λ (less : lines < 1048576). record { lines_within = omega arith; bytes_within = omega (arith, left.some less) })
    (λ (full : 1048576 ≤ lines). absurd (omega (arith, left.none (omega (arith, left.within.lines_within)))))
    (cases_lt lines 1048576)

-- ---- in mid-line

-- what was ahead, and what the source gave since, is what was passed of the line, and then what is ahead now
pub record InLine (was now : Option (List ℕ)) (counted_before counted : ℕ) (old : Reading) (w : Window) (lines bytes room size : ℕ) : Type 0 where
  pub given : List ℕ
  pub passed : List ℕ
  pub consumed : Consumes was now given
  pub seen : old.ahead ++ given ≡ passed ++ ahead_of w
  pub has_passed : HasPassed w passed
  pub unbroken : IsUnbroken passed
  pub passed_size : length passed ≡ size
  pub fits : size ≤ room
  pub room_left : IsRoom old.lines old.bytes room
  pub same_lines : lines ≡ old.lines
  pub same_bytes : bytes ≡ old.bytes
  pub no_fault : CountsFaults counted_before counted false

pub InLine-begins : (was : Option (List ℕ)) (count : ℕ) (old : Reading) (w : Window) (lines bytes room : ℕ) → ahead_of w ≡ old.ahead → HasPassed w []
    → lines ≡ old.lines → bytes ≡ old.bytes → IsRoom old.lines old.bytes room → InLine was was count count old w lines bytes room 0
InLine-begins was count old w lines bytes room same passed same_lines same_bytes left = record {
  given = [];
  passed = [];
  consumed = Consumes-nil was;
  seen = append-nil old.ahead ∙ sym same;
  has_passed = passed;
  unbroken = tt;
  passed_size = refl;
  fits = omega arith;
  room_left = left;
  same_lines = same_lines;
  same_bytes = same_bytes;
  no_fault = CountsFaults-no_call count;
}

-- all that was ahead is passed
pub InLine-passed : (was now : Option (List ℕ)) (f g : ℕ) (old : Reading) (w next : Window) (lines bytes room size count : ℕ)
    → InLine was now f g old w lines bytes room size → PassesAll w next (room - size) count → InLine was now f g old next lines bytes room (size + count)
InLine-passed was now f g old w next lines bytes room size count h p = record {
  given = h.given;
  passed = h.passed ++ ahead_of w;
  consumed = h.consumed;
  seen = h.seen ∙ sym (append-nil (h.passed ++ ahead_of w)) ∙ ap (λ l. (h.passed ++ ahead_of w) ++ l) (sym p.none_ahead);
  has_passed = p.passed_on h.passed h.has_passed;
  unbroken = IsUnbroken-append h.passed (ahead_of w) h.unbroken p.unbroken;
  passed_size = length-append h.passed (ahead_of w) ∙ omega (arith, h.passed_size, p.counted);
  fits = omega (arith, h.fits, p.fits);
  room_left = h.room_left;
  same_lines = h.same_lines;
  same_bytes = h.same_bytes;
  no_fault = h.no_fault;
}

-- the source gives more
pub InLine-more : (was now after : Option (List ℕ)) (f g i : ℕ) (old : Reading) (w next : Window) (lines bytes room size count : ℕ)
    → InLine was now f g old w lines bytes room size → ahead_of w ≡ [] → ((passed : List ℕ) → HasPassed w passed → HasPassed next passed)
    → Gives now after (ahead_of next) count → CountsFaults g i false → InLine was after f i old next lines bytes room size
InLine-more was now after f g i old w next lines bytes room size count h none kept_on gives counts = record {
  given = h.given ++ ahead_of next;
  passed = h.passed;
  consumed = Consumes-trans was now after h.given (ahead_of next) h.consumed gives.consumed;
  seen =
      sym (append_assoc old.ahead h.given (ahead_of next))
      ∙ ap (λ l. l ++ ahead_of next) (h.seen ∙ ap (λ l. h.passed ++ l) none ∙ append-nil h.passed);
  has_passed = kept_on h.passed h.has_passed;
  unbroken = h.unbroken;
  passed_size = h.passed_size;
  fits = h.fits;
  room_left = h.room_left;
  same_lines = h.same_lines;
  same_bytes = h.same_bytes;
  no_fault = CountsFaults-then f g i false false h.no_fault counts;
}

-- ---- the outcomes

-- nothing is ahead: what was seen is what was passed
seen_is : (was now : Option (List ℕ)) (f g : ℕ) (old : Reading) (w : Window) (lines bytes room size : ℕ)
    → (h : InLine was now f g old w lines bytes room size) → ahead_of w ≡ [] → old.ahead ++ h.given ≡ h.passed
seen_is was now f g old w lines bytes room size h none = h.seen ∙ ap (λ l. h.passed ++ l) none ∙ append-nil h.passed

pub GivesLine-from : (was now : Option (List ℕ)) (f g : ℕ) (old : Reading) (w next : Window) (lines bytes room size count : ℕ)
    → InLine was now f g old w lines bytes room size → PassesNewline w next (room - size) count
    → GivesLine was now old (record { ahead = ahead_of next; lines = lines + 1; bytes = bytes + (size + count + 1); line = line_of next })
GivesLine-from was now f g old w next lines bytes room size count h p =
    let line = h.passed ++ p.more in
    let whole_size : length line ≡ size + count = length-append h.passed p.more ∙ omega (arith, h.passed_size, p.counted) in
    let all : bytes + (size + count + 1) ≡ old.bytes + (length line + 1) = omega (arith, h.same_bytes) in
    let one : lines + 1 ≡ old.lines + 1 = omega (arith, h.same_lines) in
    let within : IsWithinLimits (old.lines + 1) (old.bytes + (length line + 1)) =
    IsWithinLimits-more old.lines old.bytes room (length line + 1) h.room_left (omega arith) (omega (arith, p.fits, h.fits)) in
    record {
      given = h.given;
      line = line;
      consumed = h.consumed;
      whole = h.seen ∙ ap (λ l. h.passed ++ l) p.whole ∙ sym (append_assoc h.passed p.more (10 ∷ ahead_of next));
      unbroken = IsUnbroken-append h.passed p.more h.unbroken p.unbroken;
      counted = record {
        in_hand = p.in_hand h.passed h.has_passed;
        one_more = one;
        more_bytes = all;
        within = record { lines_within = omega (arith, within.lines_within); bytes_within = omega (arith, within.bytes_within) };
      };
    }

pub StopsAtLimit-from : (was now : Option (List ℕ)) (f g : ℕ) (old : Reading) (w next : Window) (lines bytes room size : ℕ) (new : Reading)
    → InLine was now f g old w lines bytes room size → LacksRoom w next (room - size) → new.lines ≡ lines → new.bytes ≡ bytes → StopsAtLimit was now old new
StopsAtLimit-from was now f g old w next lines bytes room size new h p same_lines same_bytes =
    let split : room ≡ length h.passed + (room - size) = omega (arith, h.passed_size, h.fits) in
    let front : take room (old.ahead ++ h.given) ≡ h.passed ++ take (room - size) (ahead_of w) =
    ap (take room) h.seen ∙ ap (λ n. take n (h.passed ++ ahead_of w)) split ∙ take-append-add h.passed (ahead_of w) (room - size) in
    let longer : room < length (old.ahead ++ h.given) =
    subst (λ (l : List ℕ). room < length l) (sym h.seen) (omega (arith, length-append h.passed (ahead_of w), h.passed_size, p.more)) in
    record {
      given = h.given;
      consumed = h.consumed;
      passes = PassesLimit-from_room old.lines old.bytes room (old.ahead ++ h.given) h.room_left
          (subst IsUnbroken (sym front) (IsUnbroken-append h.passed (take (room - size) (ahead_of w)) h.unbroken p.unbroken)) longer;
      none_given = record { same_lines = same_lines ∙ h.same_lines; same_bytes = same_bytes ∙ h.same_bytes };
    }

pub StopsAtFault-from : (was now after : Option (List ℕ)) (f g : ℕ) (old : Reading) (w : Window) (lines bytes room size : ℕ) (new : Reading)
    → InLine was now f g old w lines bytes room size → ahead_of w ≡ [] → Keeps now after → new.lines ≡ lines → new.bytes ≡ bytes
    → StopsAtFault was after old new
StopsAtFault-from was now after f g old w lines bytes room size new h none keeps same_lines same_bytes =
    let seen = seen_is was now f g old w lines bytes room size h none in
    record {
      given = h.given;
      consumed = Consumes-kept was now after h.given h.consumed keeps;
      unbroken = subst IsUnbroken (sym seen) h.unbroken;
      within = subst (StaysWithinLimits old.lines old.bytes) (sym seen)
          (StaysWithinLimits-from_room old.lines old.bytes room h.passed h.room_left (omega (arith, h.passed_size, h.fits)));
      none_given = record { same_lines = same_lines ∙ h.same_lines; same_bytes = same_bytes ∙ h.same_bytes };
    }

pub ReachesEnd-from : (was now : Option (List ℕ)) (f g : ℕ) (old : Reading) (w : Window) (lines bytes room size : ℕ) (new : Reading)
    → InLine was now f g old w lines bytes room size → ahead_of w ≡ [] → IsAtEnd now → size ≡ 0 → new.ahead ≡ [] → new.lines ≡ lines → new.bytes ≡ bytes
    → ReachesEnd was now old new
ReachesEnd-from was now f g old w lines bytes room size new h none at_end empty none_ahead same_lines same_bytes = record {
  given = h.given;
  consumed = h.consumed;
  at_end = at_end;
  nothing = seen_is was now f g old w lines bytes room size h none ∙ nil_from_length h.passed (h.passed_size ∙ empty);
  none_ahead = none_ahead;
  none_given = record { same_lines = same_lines ∙ h.same_lines; same_bytes = same_bytes ∙ h.same_bytes };
}

pub GivesRest-from : (was now : Option (List ℕ)) (f g : ℕ) (old : Reading) (w : Window) (lines bytes room size : ℕ)
    → InLine was now f g old w lines bytes room size → ahead_of w ≡ [] → IsAtEnd now → 0 < size
    → GivesRest was now old (record { ahead = ahead_of w; lines = lines + 1; bytes = bytes + size; line = line_of w })
GivesRest-from was now f g old w lines bytes room size h none at_end some =
    let all : bytes + size ≡ old.bytes + length h.passed = omega (arith, h.same_bytes, h.passed_size) in
    let one : lines + 1 ≡ old.lines + 1 = omega (arith, h.same_lines) in
    let within : IsWithinLimits (old.lines + 1) (old.bytes + length h.passed) =
    IsWithinLimits-more old.lines old.bytes room (length h.passed) h.room_left (omega (arith, h.passed_size)) (omega (arith, h.passed_size, h.fits)) in
    record {
      given = h.given;
      line = h.passed;
      consumed = h.consumed;
      at_end = at_end;
      whole = seen_is was now f g old w lines bytes room size h none;
      not_empty = λ empty. omega (arith, h.passed_size, ap length empty);
      unbroken = h.unbroken;
      none_ahead = none;
      counted = record {
        in_hand = h.has_passed.in_hand;
        one_more = one;
        more_bytes = all;
        within = record { lines_within = omega (arith, within.lines_within); bytes_within = omega (arith, within.bytes_within) };
      };
    }

-- ---- a line that is whole in memory

-- its newline was found, within the room
pub GivesInHand-from : (old : Reading) (w next : Window) (lines bytes room count : ℕ) → ahead_of w ≡ old.ahead → HasPassed w [] → lines ≡ old.lines
    → bytes ≡ old.bytes → IsRoom old.lines old.bytes room → PassesNewline w next room count
    → (line : List ℕ) × GivesInHand old line (record { ahead = ahead_of next; lines = lines + 1; bytes = bytes + (count + 1); line = line_of next })
GivesInHand-from old w next lines bytes room count same passed same_lines same_bytes left p =
    let all : bytes + (count + 1) ≡ old.bytes + (length p.more + 1) = omega (arith, p.counted) in
    let one : lines + 1 ≡ old.lines + 1 = omega arith in
    let within : IsWithinLimits (old.lines + 1) (old.bytes + (length p.more + 1)) =
    IsWithinLimits-more old.lines old.bytes room (length p.more + 1) left (omega arith) (omega (arith, p.counted, p.fits)) in (
      p.more,
      record {
        whole = sym same ∙ p.whole;
        unbroken = p.unbroken;
        counted = record {
          in_hand = p.in_hand [] passed;
          one_more = one;
          more_bytes = all;
          within = record { lines_within = omega (arith, within.lines_within); bytes_within = omega (arith, within.bytes_within) };
        };
      },
    )
