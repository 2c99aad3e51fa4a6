-- The faults of a log by their indices, and how often indices are some caller's own.
use Rattle.std.proofs.Common.{◌≡◌, ℕ, zero, suc, ◌+◌, ◌<◌, ◌≤◌, List, [], ◌∷◌, ◌++◌, length, Bool, true, false, ◌&&◌, eqb, refl, sym, ap, ◌∙◌, subst, arith}
use Rattle.std.proofs.Math.Dec.{eqb-zero-suc, eqb-suc-zero, eqb-suc-suc}
use Rattle.std.proofs.lemmas.Bool.{le-leb, lt-ltb}
use Rattle.shared_seats.specs.Totals.{total, one_if, how_many}
use Rattle.turn_book.specs.Logs.{IsFront}
use Rattle.turn_book.specs.TurnRule.{between}
use Rattle.turn_book.specs.TurnViews.{times}
use Rattle.shared_shards.specs.declared.logs.LogItem.{LogItem}
use Rattle.shared_shards.specs.declared.logs.LogItem.TheVariants.{Record, Fault}
use Rattle.shared_shards.specs.ShardLogs.{faults_of}
use Rattle.issuer_base.specs.declared.entry.Entry.{Entry}
use Rattle.shared_laws.proofs.RecordSpots.{front-rest}

-- whether a fault stands at the place
abbrev pub is_fault_at : List LogItem → ℕ → Bool
is_fault_at [] place = false
is_fault_at (Record entry ∷ items) zero = false
is_fault_at (Record entry ∷ items) (suc place) = is_fault_at items place
is_fault_at (Fault count ∷ items) zero = true
is_fault_at (Fault count ∷ items) (suc place) = is_fault_at items place

-- how many of these places in the shard's log have a fault
abbrev pub own_faults : ℕ → List LogItem → List (ℕ × ℕ) → ℕ
own_faults shard items mine = how_many (λ pair. eqb pair.0 shard && is_fault_at items pair.1) mine

pub fault-at_record : (before more : List LogItem) (entry : Entry) → is_fault_at (before ++ Record entry ∷ more) (length before) ≡ false
fault-at_record [] more entry = refl
fault-at_record (Record first ∷ before) more entry = fault-at_record before more entry
fault-at_record (Fault first ∷ before) more entry = fault-at_record before more entry

pub fault-at_fault : (before more : List LogItem) (count : ℕ) → is_fault_at (before ++ Fault count ∷ more) (length before) ≡ true
fault-at_fault [] more count = refl
fault-at_fault (Record first ∷ before) more count = fault-at_fault before more count
fault-at_fault (Fault first ∷ before) more count = fault-at_fault before more count

fault-within : (items : List LogItem) (place : ℕ) → is_fault_at items place ≡ true → place < length items
fault-within [] place is = absurd (cc)
fault-within (Record entry ∷ items) zero is = absurd (cc)
fault-within (Record entry ∷ items) (suc place) is = omega (arith, fault-within items place is)
fault-within (Fault count ∷ items) zero is = omega arith
fault-within (Fault count ∷ items) (suc place) is = omega (arith, fault-within items place is)

-- a fault stands behind the first items where these have none
fault-past : (first more : List LogItem) (place : ℕ) → faults_of first ≡ [] → is_fault_at (first ++ more) place ≡ true → length first ≤ place
fault-past [] more place plain is = omega arith
fault-past (Record entry ∷ first) more zero plain is = absurd (cc)
fault-past (Record entry ∷ first) more (suc place) plain is = omega (arith, fault-past first more place plain is)
fault-past (Fault count ∷ first) more place plain is = absurd (cc)

-- a front has no more faults than the whole
pub faults-front : (front items : List LogItem) → IsFront front items → length (faults_of front) ≤ length (faults_of items)
faults-front front items is =
    let rest = front-rest front items is in
    subst (λ (items : List LogItem). length (faults_of front) ≤ length (faults_of items)) (sym rest.1) (longer front rest.0)
  where
    longer : (front more : List LogItem) → length (faults_of front) ≤ length (faults_of (front ++ more))
    longer [] more = omega arith
    longer (Record entry ∷ front) more = longer front more
    longer (Fault count ∷ front) more = omega (arith, longer front more)

-- ---- how often the places of faults are own

abbrev pub weigh : List LogItem → (ℕ → ℕ) → ℕ
weigh [] own = 0
weigh (Record entry ∷ items) own = weigh items (λ place. own (suc place))
weigh (Fault count ∷ items) own = own 0 + weigh items (λ place. own (suc place))

weigh-none : (items : List LogItem) → weigh items (λ place. 0) ≡ 0
weigh-none [] = refl
weigh-none (Record entry ∷ items) = weigh-none items
weigh-none (Fault count ∷ items) = omega (arith, weigh-none items)

weigh-same : (items : List LogItem) (f g : ℕ → ℕ) → ((place : ℕ) → f place ≡ g place) → weigh items f ≡ weigh items g
weigh-same [] f g same = refl
weigh-same (Record entry ∷ items) f g same = weigh-same items (λ place. f (suc place)) (λ place. g (suc place)) (λ place. same (suc place))
weigh-same (Fault count ∷ items) f g same =
    omega (arith, same 0, weigh-same items (λ place. f (suc place)) (λ place. g (suc place)) (λ place. same (suc place)))

weigh-add : (items : List LogItem) (f g : ℕ → ℕ) → weigh items (λ place. f place + g place) ≡ weigh items f + weigh items g
weigh-add [] f g = omega arith
weigh-add (Record entry ∷ items) f g = weigh-add items (λ place. f (suc place)) (λ place. g (suc place))
weigh-add (Fault count ∷ items) f g = omega (arith, weigh-add items (λ place. f (suc place)) (λ place. g (suc place)))

weigh-one : (items : List LogItem) (here : ℕ) → weigh items (λ place. one_if (eqb here place)) ≡ one_if (is_fault_at items here)
weigh-one [] here = refl
weigh-one (Record entry ∷ items) zero =
    weigh-same items (λ place. one_if (eqb 0 (suc place))) (λ place. 0) (λ place. ap one_if (eqb-zero-suc place)) ∙ weigh-none items
weigh-one (Record entry ∷ items) (suc here) =
    weigh-same items (λ place. one_if (eqb (suc here) (suc place))) (λ place. one_if (eqb here place)) (λ place. ap one_if (eqb-suc-suc here place))
    ∙ weigh-one items here
weigh-one (Fault count ∷ items) zero =
    let others = weigh-same items (λ place. one_if (eqb 0 (suc place))) (λ place. 0) (λ place. ap one_if (eqb-zero-suc place)) in
    let none = weigh-none items in
    omega (arith, others, none)
weigh-one (Fault count ∷ items) (suc here) =
    let others =
    weigh-same items (λ place. one_if (eqb (suc here) (suc place))) (λ place. one_if (eqb here place)) (λ place. ap one_if (eqb-suc-suc here place)) in
    let rest = weigh-one items here in
    let first = ap one_if (eqb-suc-zero here) in
    omega (arith, others, rest, first)

weigh-if : (items : List LogItem) (on : Bool) (here : ℕ) → weigh items (λ place. one_if (on && eqb here place)) ≡ one_if (on && is_fault_at items here)
weigh-if items true here = weigh-one items here
weigh-if items false here = weigh-none items

-- own places, each weighed by whether it has a fault, are the own faults
pub weigh-own : (items : List LogItem) (shard : ℕ) (mine : List (ℕ × ℕ)) → weigh items (λ place. times shard place mine) ≡ own_faults shard items mine
weigh-own items shard [] = weigh-none items
weigh-own items shard (pair ∷ mine) =
    let both = weigh-add items (λ place. one_if (eqb pair.0 shard && eqb pair.1 place)) (λ place. times shard place mine) in
    let first = weigh-if items (eqb pair.0 shard) pair.1 in
    let rest = weigh-own items shard mine in
    omega (arith, both, first, rest)

pub weigh-total : {X : Type 0} (items : List LogItem) (f : X → ℕ → ℕ) (xs : List X)
    → weigh items (λ place. total (λ x. f x place) xs) ≡ total (λ x. weigh items (f x)) xs
weigh-total items f [] = weigh-none items
weigh-total items f (x ∷ xs) =
    let both = weigh-add items (f x) (λ place. total (λ x. f x place) xs) in
    let rest = weigh-total items f xs in
    omega (arith, both, rest)

weigh-once : (items : List LogItem) (own : ℕ → ℕ) → ((place : ℕ) → is_fault_at items place ≡ true → own place ≡ 1) → weigh items own ≡ length (faults_of items)
weigh-once [] own once = refl
weigh-once (Record entry ∷ items) own once = weigh-once items (λ place. own (suc place)) (λ place is. once (suc place) is)
weigh-once (Fault count ∷ items) own once =
    omega (arith, once 0 refl, weigh-once items (λ place. own (suc place)) (λ place is. once (suc place) is))

-- places past the first items that are each once own weigh as many as there are faults, where the first items have none
pub weigh-between : (opening items : List LogItem) → IsFront opening items → faults_of opening ≡ []
    → weigh items (λ place. between (length opening) (length items) place) ≡ length (faults_of items)
weigh-between opening items front plain =
    weigh-once items (λ place. between (length opening) (length items) place) (λ place is.
    let rest = front-rest opening items front in
    let past : length opening ≤ place =
    fault-past opening rest.0 place plain (subst (λ (items : List LogItem). is_fault_at items place ≡ true) rest.1 is) in
    let first = le-leb (length opening) place past in
    let last = lt-ltb place (length items) (fault-within items place is) in
    λ i. one_if (first i && last i))
