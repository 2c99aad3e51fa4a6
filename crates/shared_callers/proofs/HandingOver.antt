-- Lines that go from parts to lanes, and texts that come back.
use Rattle.std.proofs.Common.{◌≡◌, ℕ, ◌+◌, ◌*◌, ◌%◌, ◌<◌, ◌≤◌, List, [], ◌++◌, length, set, take, drop, map, All, get_or, Some, inl, inr, refl, sym, ap, subst, ◌∙◌, append-nil, arith}
use Rattle.std.proofs.lemmas.Option.{slice_get-get_or, slice_get_within}
use Rattle.std.proofs.Math.Logic.{∥∥₁_elim, ∥∥₁_map}
use Rattle.std.proofs.Math.Nat.{mod-lt}
use Rattle.std.proofs.Math.Seq.{map-set_same}
use Rattle.std.proofs.Props.{props}
use Rattle.std.specs.List.{slice_get}
use Rattle.shared_seats.proofs.ManySeats.{lent_whole}
use Rattle.shared_laws.specs.Dealing.{HaveTurns}
use Rattle.shared_laws.proofs.HavingTurns.{at-set, turns-nothing}
use Rattle.shared_callers.specs.Handing.{KeepPlaces, LinesGoOver, TextsComeBack}
use Rattle.shared_callers.specs.OneLane.{waiting_lines, answer_texts, lane_rooms}
use Rattle.shared_callers.specs.Parts.{lines_of, texts_of, rooms_of}
use Rattle.shared_callers.specs.Turns.{AreWaiting, AreDue, IsWaiting, IsDue}
use Rattle.shared_callers.specs.declared.lane.Lane.{Lane}
use Rattle.shared_callers.specs.declared.part.Part.{Part}
use Rattle.shared_callers.proofs.Lists.{AreMoved, AreLeft, all-at, at-all, maps-at, maps-both, maps-from, maps-long, turns-moved}

abbrev lane_room_of : Lane → ℕ
lane_room_of lane = lane.lines.room

abbrev part_room_of : Part → ℕ
part_room_of part = part.lines.room

-- ---- one lane and its part

module _ (parts : List Part) (lanes : List Lane) where
  -- a lane has as much room as its part
  pub rooms-there : lane_rooms lanes ≡ rooms_of parts → (index : ℕ) (lane : Lane) (part : Part) → index < length lanes
      → (get_or lanes index lane).lines.room ≡ (get_or parts index part).lines.room
  rooms-there same index lane part below =
      let long = maps-long lane_room_of part_room_of lanes parts same in
      maps-both lane_room_of part_room_of lanes parts same index (get_or lanes index lane) (get_or parts index part)
      (slice_get-get_or lanes index lane below) (slice_get-get_or parts index part (omega (arith, long, below)))

  pub rooms-kept : (first_parts : List Part) (first_lanes : List Lane) → KeepPlaces first_parts first_lanes parts lanes
      → lane_rooms first_lanes ≡ rooms_of first_parts → lane_rooms lanes ≡ rooms_of parts
  rooms-kept first_parts first_lanes places same = places.lane_room ∙ same ∙ sym places.part_room

  module _ (index : ℕ) (lane now : Lane) (part given : Part) where
    pub places-more : (first_parts : List Part) (first_lanes : List Lane) → now.pass ≡ (get_or lanes index lane).pass
        → now.lines.room ≡ (get_or lanes index lane).lines.room → given.lines.room ≡ (get_or parts index part).lines.room
        → KeepPlaces first_parts first_lanes parts lanes → KeepPlaces first_parts first_lanes (set parts index given) (set lanes index now)
    places-more first_parts first_lanes pass room left before = record {
      passes = map-set_same (λ (lane : Lane). lane.pass) lanes index now lane pass ∙ before.passes;
      lane_room = map-set_same lane_room_of lanes index now lane room ∙ before.lane_room;
      part_room = map-set_same part_room_of parts index given part left ∙ before.part_room;
    }

-- one more part has no lines
pub none-more : (index : ℕ) (parts : List Part) (given : Part) → lines_of given ≡ []
    → ((number : ℕ) (part : Part) → number < index → slice_get parts number ≡ Some part → lines_of part ≡ [])
    → (number : ℕ) (part : Part) → number < index + 1 → slice_get (set parts index given) number ≡ Some part → lines_of part ≡ []
none-more index parts given none before number part below is = elim (at-set parts index given number part is) [
  | inl here ↦ ap lines_of here.1 ∙ none
  | inr there ↦ let apart = there.0 in before number part (let less : number < index = (grind arith) in less) there.1
]

-- what stands at an index from which on a list is as it was
pub left-there : {X : Type 0} (index : ℕ) (xs olds : List X) (x : X) → index < length xs → AreLeft index xs olds
    → slice_get olds index ≡ Some (get_or xs index x)
left-there index xs olds x below left = sym (left index (omega arith)) ∙ slice_get-get_or xs index x below

-- ---- all of them

-- all were moved
pub moved-all : {X Y A : Type 0} (f : X → A) (g : Y → A) (index : ℕ) (xs : List X) (ys : List Y) → length xs ≡ length ys → length xs ≤ index
    → AreMoved f g index xs ys → map f xs ≡ map g ys
moved-all f g index xs ys long far moved =
    maps-from f g xs ys long (λ number x y x_is y_is.
    let within = slice_get_within xs number x x_is in moved number x y (omega (arith, within, far)) x_is y_is)

pub none-all : (index : ℕ) (parts : List Part) → length parts ≤ index
    → ((number : ℕ) (part : Part) → number < index → slice_get parts number ≡ Some part → lines_of part ≡ [])
    → All (λ (part : Part). lines_of part ≡ []) parts
none-all index parts far none =
    all-at (λ (part : Part). lines_of part ≡ []) parts (λ number part is.
    let within = slice_get_within parts number part is in none number part (omega (arith, within, far)) is)

-- ---- parts that were lent

-- lanes that were lent whole come back
pub lanes-back : (count : ℕ) (old lent new : List Lane) → lent ≡ old → length old ≡ count → lane_rooms new ≡ lane_rooms lent
    → take count (new ++ drop (length new) old) ≡ new
lanes-back count old lent new is long same =
    lent_whole count new old
    (maps-long lane_room_of lane_room_of new lent same ∙ ap (λ (lanes : List Lane). length lanes) is ∙ long) long

-- a list that was lent whole comes back
pub back-whole : {X : Type 0} (count : ℕ) (old new : List X) → length old ≡ count → length new ≡ count
    → take count (new ++ drop (length new) old) ≡ new
back-whole count old new long also = lent_whole count new old also long

module _ (count : ℕ) (parts lent parts_now : List Part) (lanes lanes_now : List Lane) (is : lent ≡ parts) (long : length parts ≡ count) where
  pub lent-over : LinesGoOver lent lanes parts_now lanes_now → LinesGoOver parts lanes (take count (parts_now ++ drop (length parts_now) parts)) lanes_now
  lent-over over =
      let as_long = maps-long part_room_of part_room_of parts_now lent over.places.part_room in
      let back = back-whole count parts parts_now long (as_long ∙ ap (λ (parts : List Part). length parts) is ∙ long) in
      subst (λ (now : List Part). LinesGoOver parts lanes now lanes_now) (sym back)
      (subst (λ (parts : List Part). LinesGoOver parts lanes parts_now lanes_now) is over)

  pub lent-back : TextsComeBack lent lanes parts_now lanes_now
      → TextsComeBack parts lanes (take count (parts_now ++ drop (length parts_now) parts)) lanes_now
  lent-back back_texts =
      let as_long = maps-long part_room_of part_room_of parts_now lent back_texts.places.part_room in
      let back = back-whole count parts parts_now long (as_long ∙ ap (λ (parts : List Part). length parts) is ∙ long) in
      subst (λ (now : List Part). TextsComeBack parts lanes now lanes_now) (sym back)
      (subst (λ (parts : List Part). TextsComeBack parts lanes parts_now lanes_now) is back_texts)

-- ---- what the parts have then

-- parts with the same room
pub same-room-all : (count room : ℕ) (parts now : List Part) → rooms_of now ≡ rooms_of parts → All (λ (part : Part). count * part.lines.room ≡ room) parts
    → All (λ (part : Part). count * part.lines.room ≡ room) now
same-room-all count room parts now same all =
    all-at (λ (part : Part). count * part.lines.room ≡ room) now (λ number part is.
    let old = maps-at part_room_of part_room_of now parts same number part is in
    ap (λ room. count * room) (sym old.2) ∙ at-all (λ (part : Part). count * part.lines.room ≡ room) parts number old.0 all old.1)

module _ (parts parts_now : List Part) (lanes lanes_now : List Lane) (over : LinesGoOver parts lanes parts_now lanes_now) where
  long-over : length parts_now ≡ length parts
  long-over = maps-long part_room_of part_room_of parts_now parts over.places.part_room

  pub given-turns : (before waiting : List (List ℕ)) → HaveTurns lines_of parts before waiting → HaveTurns waiting_lines lanes_now before waiting
  given-turns before waiting have = turns-moved lines_of waiting_lines parts lanes_now (λ (lines : List (List ℕ)). lines) (sym over.lines) before waiting have

  pub given-waits : (first next count : ℕ) (before waiting : List (List ℕ)) → AreWaiting parts first next count before waiting
      → AreWaiting parts_now next next 0 (before ++ waiting) []
  given-waits first next count before waiting are =
      let next_is = are.next_is ∙ ap (λ n. length (before ++ waiting) % n) (sym long-over) in
      record {
        count_is = refl;
        first_is = next_is;
        next_is = next_is ∙ ap (λ (lines : List (List ℕ)). length lines % length parts_now) (sym (append-nil (before ++ waiting)));
        turns = turns-nothing lines_of parts_now (before ++ waiting)
            (λ number part is. at-all (λ (part : Part). lines_of part ≡ []) parts_now number part over.none is);
      }

  pub given-dues : (from count : ℕ) (taken due : List (List ℕ)) → AreDue texts_of parts from count taken due
      → AreDue texts_of parts_now from count taken due
  given-dues from count taken due are = record {
    count_is = are.count_is;
    from_is = are.from_is ∙ ap (λ n. length taken % n) (sym long-over);
    turns = turns-moved texts_of texts_of parts parts_now (λ (texts : List (List ℕ)). texts) (sym over.texts) taken due are.turns;
  }

  pub still-given : (first next count : ℕ) → ∥ IsWaiting parts first next count ∥₁ → ∥ IsWaiting parts_now next next 0 ∥₁
  still-given first next count there =
      ∥∥₁_map there (λ is. record {
        before = is.before ++ is.waiting;
        waiting = [];
        are = given-waits first next count is.before is.waiting is.are;
      })

  pub still-owed : (from count : ℕ) → ∥ IsDue texts_of parts from count ∥₁ → ∥ IsDue texts_of parts_now from count ∥₁
  still-owed from count there =
      ∥∥₁_map there (λ is. record { taken = is.taken; due = is.due; are = given-dues from count is.taken is.due is.are })

module _ (parts parts_now : List Part) (lanes lanes_now : List Lane) (back : TextsComeBack parts lanes parts_now lanes_now)
    (fit : lane_rooms lanes ≡ rooms_of parts) where
  long-back : length parts_now ≡ length parts
  long-back = maps-long part_room_of part_room_of parts_now parts back.places.part_room

  long-lanes : length parts_now ≡ length lanes
  long-lanes = long-back ∙ sym (maps-long lane_room_of part_room_of lanes parts fit)

  pub back-dues : (from count : ℕ) (taken due : List (List ℕ)) → AreDue answer_texts lanes from count taken due
      → AreDue texts_of parts_now from count taken due
  back-dues from count taken due are = record {
    count_is = are.count_is;
    from_is = are.from_is ∙ ap (λ n. length taken % n) (sym long-lanes);
    turns = turns-moved answer_texts texts_of lanes parts_now (λ (texts : List (List ℕ)). texts) (sym back.texts) taken due are.turns;
  }

  pub back-waits : (first next count : ℕ) (before waiting : List (List ℕ)) → AreWaiting parts first next count before waiting
      → AreWaiting parts_now first next count before waiting
  back-waits first next count before waiting are = record {
    count_is = are.count_is;
    first_is = are.first_is ∙ ap (λ n. length before % n) (sym long-back);
    next_is = are.next_is ∙ ap (λ n. length (before ++ waiting) % n) (sym long-back);
    turns = turns-moved lines_of lines_of parts parts_now (λ (lines : List (List ℕ)). lines) (sym back.lines) before waiting are.turns;
  }

  pub still-back : (from count : ℕ) → ∥ IsDue answer_texts lanes from count ∥₁ → ∥ IsDue texts_of parts_now from count ∥₁
  still-back from count there =
      ∥∥₁_map there (λ is. record { taken = is.taken; due = is.due; are = back-dues from count is.taken is.due is.are })

  pub still-waits : (first next count : ℕ) → ∥ IsWaiting parts first next count ∥₁ → ∥ IsWaiting parts_now first next count ∥₁
  still-waits first next count there =
      ∥∥₁_map there (λ is. record { before = is.before; waiting = is.waiting; are = back-waits first next count is.before is.waiting is.are })

module _ (lanes : List Lane) (parts : List Part) (fit : lane_rooms lanes ≡ rooms_of parts) where
  pub as-many-lanes : length lanes ≡ length parts
  as-many-lanes = maps-long lane_room_of part_room_of lanes parts fit

  -- the lane whose answers come first is one of them
  pub due-within : (from count : ℕ) → ∥ IsDue answer_texts lanes from count ∥₁ → 0 < length parts → from < length parts
  due-within from count there some =
      ∥∥₁_elim there (search props) (λ is.
      let below : length is.taken % length lanes < length lanes = mod-lt (length is.taken) (omega (arith, some, as-many-lanes)) in
      omega (arith, is.are.from_is, below, as-many-lanes))
