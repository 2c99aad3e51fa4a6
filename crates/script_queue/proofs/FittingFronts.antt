-- The longest prefix that fits, extended command by command while there is room.
use Rattle.std.proofs.Common.{◌≡◌, ℕ, zero, suc, ◌+◌, ◌-◌, ◌*◌, ◌≤◌, ◌<◌, Bool, true, false, cond, inl, inr, if◌then◌else◌, nat_le}
use Rattle.std.proofs.Common.{List, [], ◌∷◌, length, take, map, filter, sum_by, Option, Some, None, refl, ap, sym, ◌∙◌, length-take, arith}
use Rattle.std.specs.List.{last_or}
use Rattle.std.specs.Option.{unwrap_or}
use Rattle.std.proofs.lemmas.Bool.{leb-true, leb-false, le-leb, lt-leb, cases_Bool, cond_both}
use Rattle.std.proofs.lemmas.List.{length-take-le}
use Rattle.std.proofs.lemmas.List.Sums.{sum_by-cons}
use Rattle.issuer_base.specs.declared.command.Command.{Command}
use Rattle.issuer_base.specs.declared.limits.TheConstants.{MAX_TEMPLATE_BYTES}
use Rattle.issuer_base.specs.ScriptTemplate.{sealed_size, template_size}
use Rattle.script_queue.specs.ScriptTemplate.{fronts, fitting_front}

-- the room of an empty template
abbrev pub whole_room : ℕ
whole_room = MAX_TEMPLATE_BYTES - template_size []

-- how many of the first commands fit into so many bytes
abbrev pub fit : ℕ → List Command → ℕ
fit room [] = 0
fit room (command ∷ commands) =
    if nat_le (sealed_size command) room then suc (fit (room - sealed_size command) commands) else 0

-- a loop that takes the commands while they fit has taken `count` of them, and has the rest and this room ahead
pub record FitsSoFar (commands ahead : List Command) (count room : ℕ) : Type 0 where
  pub goes_on : count + fit room ahead ≡ fit whole_room commands
  pub few : 15 * count + room ≤ MAX_TEMPLATE_BYTES

-- whether a front fits behind so many bytes
abbrev fits : ℕ → List Command → Bool
fits used front = nat_le (used + sum_by sealed_size front) MAX_TEMPLATE_BYTES

abbrev behind : Command → List Command → List Command
behind command front = command ∷ front

filter-map : {X Y : Type 0} (p : Y → Bool) (f : X → Y) (xs : List X) → filter p (map f xs) ≡ map f (filter (λ x. p (f x)) xs)
filter-map p f [] = refl
filter-map p f (x ∷ xs) =
    let left = filter (λ x. p (f x)) xs in
    elim (p (f x)) as (λ (b : Bool). cond b (f x ∷ filter p (map f xs)) (filter p (map f xs)) ≡ map f (cond b (x ∷ left) left)) [
      | true ↦ ap (λ ys. f x ∷ ys) (filter-map p f xs)
      | false ↦ filter-map p f xs
    ]

last_or-map : {X Y : Type 0} (f : X → Y) (x y : X) (xs : List X)
    → last_or (Some x) xs ≡ Some y
    → last_or (Some (f x)) (map f xs) ≡ Some (f y)
last_or-map f x y [] last = let same : x ≡ y = cc in ap (λ x. Some (f x)) same
last_or-map f x y (z ∷ xs) last = last_or-map f z y xs last

-- the last of a mapped list that has one
last_or-mapped : {X Y : Type 0} (f : X → Y) (y : X) (o : Option Y) (xs : List X)
    → last_or None xs ≡ Some y
    → last_or o (map f xs) ≡ Some (f y)
last_or-mapped f y o [] last = absurd (cc)
last_or-mapped f y o (x ∷ xs) last = last_or-map f x y xs last

-- behind a command a front fits as it does behind the command's bytes
fits-cons : (used : ℕ) (command : Command) → (λ front. fits used (command ∷ front)) ≡ fits (used + sealed_size command)
fits-cons used command =
    let moved : (front : List Command)
    → used + sum_by sealed_size (command ∷ front) ≡ used + sealed_size command + sum_by sealed_size front =
    λ front. omega (arith, sum_by-cons sealed_size command front) in
    λ i front. nat_le (moved front i) MAX_TEMPLATE_BYTES

-- behind more bytes than there may be none fits
none_fits : (used : ℕ) (found : List (List Command)) → MAX_TEMPLATE_BYTES < used → filter (fits used) found ≡ []
none_fits used [] above = refl
none_fits used (front ∷ found) above =
    let over : fits used front ≡ false = lt-leb (used + sum_by sealed_size front) MAX_TEMPLATE_BYTES (omega arith) in
    rw over (none_fits used found above)

empty_fits : (used room : ℕ) → used + room ≡ MAX_TEMPLATE_BYTES → fits used [] ≡ true
empty_fits used room whole = le-leb (used + 0) MAX_TEMPLATE_BYTES (omega arith)

-- the longest of the fronts that fit behind so many bytes
longest_fits : (commands : List Command) (used room : ℕ)
    → used + room ≡ MAX_TEMPLATE_BYTES
    → last_or None (filter (fits used) (fronts commands)) ≡ Some (take (fit room commands) commands)
longest_fits [] used room whole = rw (empty_fits used room whole)
longest_fits (command ∷ commands) used room whole =
    let more = used + sealed_size command in
    let rest : filter (fits used) (map (behind command) (fronts commands)) ≡ map (behind command) (filter (fits more) (fronts commands)) =
    filter-map (fits used) (behind command) (fronts commands)
    ∙ ap (λ p. map (behind command) (filter p (fronts commands))) (fits-cons used command) in
    rw (empty_fits used room whole, rest) (
    elim (cases_Bool (nat_le (sealed_size command) room)) [
      | inl enough ↦
          let below : sealed_size command ≤ room = leb-true (sealed_size command) room enough in
          let longest = longest_fits commands more (room - sealed_size command) (omega arith) in
          rw enough (last_or-mapped (behind command) _ (Some []) (filter (fits more) (fronts commands)) longest)
      | inr over ↦
          let above : room < sealed_size command = leb-false (sealed_size command) room over in
          rw (over, none_fits more (fronts commands) (omega arith))
    ])

-- so many fit where the command does, and none where it doesn't
fit-cases : (room : ℕ) (command : Command) (commands : List Command) (P : ℕ → Type 0)
    → (sealed_size command ≤ room → P (suc (fit (room - sealed_size command) commands)))
    → P 0
    → P (fit room (command ∷ commands))
fit-cases room command commands P where_it_fits otherwise =
    let taken = suc (fit (room - sealed_size command) commands) in
    let enough = leb-true (sealed_size command) room in
    cond_both (nat_le (sealed_size command) room) taken 0 P (λ below. where_it_fits (enough below)) (λ _. otherwise)

pub fit-within : (room : ℕ) (commands : List Command) → fit room commands ≤ length commands
fit-within room [] = omega arith
fit-within room (command ∷ commands) =
    let rest = fit-within (room - sealed_size command) commands in
    fit-cases room command commands (λ n. n ≤ suc (length commands)) (λ below. omega arith) (omega arith)

-- the bytes of the commands that fit are within the room
fit-room : (room : ℕ) (commands : List Command) → sum_by sealed_size (take (fit room commands) commands) ≤ room
fit-room room [] = omega arith
fit-room room (command ∷ commands) =
    let left = room - sealed_size command in
    let rest = fit-room left commands in
    let parts = sum_by-cons sealed_size command (take (fit left commands) commands) in
    fit-cases room command commands (λ n. sum_by sealed_size (take n (command ∷ commands)) ≤ room) (λ below. omega arith) (omega arith)

-- no longer front is within the room
fit-most : (room : ℕ) (commands : List Command) (n : ℕ)
    → n ≤ length commands
    → sum_by sealed_size (take n commands) ≤ room
    → n ≤ fit room commands
fit-most room commands zero within fits = omega arith
fit-most room [] (suc n) within fits = absurd (omega arith)
fit-most room (command ∷ commands) (suc n) within fits =
    let parts = sum_by-cons sealed_size command (take n commands) in
    let below : nat_le (sealed_size command) room ≡ true = le-leb (sealed_size command) room (omega arith) in
    let rest = fit-most (room - sealed_size command) commands n (omega arith) (omega arith) in
    rw below (omega arith)

-- the longest front that fits, by the number of its commands
fitting_front-take : (commands : List Command) → fitting_front commands ≡ take (fit whole_room commands) commands
unfolding fitting_front
fitting_front-take commands = ap (λ found. unwrap_or found []) (longest_fits commands (template_size []) whole_room refl)

-- as many commands as fit are the longest front that fits
pub fit-front : (commands : List Command) (count : ℕ) → count ≡ fit whole_room commands → take count commands ≡ fitting_front commands
fit-front commands count taken = ap (λ n. take n commands) taken ∙ sym (fitting_front-take commands)

-- the front is one: as many of the first commands as it has are the front
pub fitting_front-front : (commands : List Command) → take (length (fitting_front commands)) commands ≡ fitting_front commands
fitting_front-front commands =
    fit-front commands (length (fitting_front commands))
    (ap (λ (front : List Command). length front) (fitting_front-take commands) ∙ length-take-le (fit whole_room commands) commands
    (fit-within whole_room commands))

-- there are as many commands as the front has
pub fitting_front-within : (commands : List Command) → length (fitting_front commands) ≤ length commands
fitting_front-within commands = rw fitting_front-take (omega (arith, length-take {A = Command}))

-- the template of the front is within the limit
pub fitting_front-size : (commands : List Command) → template_size (fitting_front commands) ≤ MAX_TEMPLATE_BYTES
fitting_front-size commands =
    let room = fit-room whole_room commands in
    rw fitting_front-take (omega arith)

-- no longer front has a template within the limit
pub fitting_front-longest : (commands : List Command) (n : ℕ)
    → n ≤ length commands
    → template_size (take n commands) ≤ MAX_TEMPLATE_BYTES
    → n ≤ length (fitting_front commands)
fitting_front-longest commands n within fits =
    let most = fit-most whole_room commands n within (omega arith) in
    let known = fit-within whole_room commands in
    rw fitting_front-take (omega (arith, length-take {A = Command}))

each_takes : (commands : List Command) → 15 * length commands ≤ sum_by sealed_size commands
each_takes [] = omega arith
each_takes (command ∷ commands) = let rest = each_takes commands in omega (arith, sum_by-cons sealed_size command commands)

-- a template has at most seven commands
pub fitting_front-few : (commands : List Command) → length (fitting_front commands) ≤ 7
fitting_front-few commands = omega (arith, fitting_front-size commands, each_takes (fitting_front commands))
