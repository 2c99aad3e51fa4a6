-- A bridge learns the next record of a journal, and what it knows may be published.
use Rattle.std.proofs.Common.{◌≡◌, ℕ, ◌+◌, ◌<◌, ◌≤◌, ◌==◌, List, [], ◌∷◌, ◌++◌, length, take, set, Some, refl, ap, sym, ◌∙◌, subst, arith, inl, inr, append_assoc}
use Rattle.std.specs.List.{slice_get}
use Rattle.std.proofs.lemmas.Bool.{cond_both, cond-true, cond-false, eq-eqb, ne_eqb, cases_eq}
use Rattle.std.proofs.lemmas.List.{get_or-set_same, get_or-set_other, length-append, length-take-le, take_more}
use Rattle.std.proofs.lemmas.Option.{slice_get_within, get_or_from_slice_get}
use Rattle.one_history.specs.Prefixes.{IsPrefix}
use Rattle.one_history.specs.Streams.{Text, Count}
use Rattle.one_history.specs.Machines.{Machine, World, count_at}
use Rattle.one_history.proofs.Prefixed.{prefix-more}
use Rattle.bridge_rule.specs.declared.opening.Opening.{Opening}
use Rattle.bridge_rule.specs.Openings.{barrier_of}
use Rattle.bridge_rule.specs.Roles.{stage_of}
use Rattle.bridge_rule.specs.declared.role.Role.{Role}
use Rattle.bridge_rule.specs.declared.role.Role.TheVariants.{Untold, Following, Beginning, Serving}
use Rattle.bridge_rule.specs.Logs.{LogState, new_log, with_known, known_of}
use Rattle.bridge_rule.specs.Bridges.{BridgeState, StandsIn, IsKnown, IsLearning, log_at, learned}
use Rattle.bridge_rule.specs.Events.{IsNextKnown, DoesLearn, DoesLook, one_more}
use Rattle.bridge_rule.proofs.Standing.{stands-here}

-- what the serving bridge knows of a journal, by its length
pub known-length : (log : LogState) (history journal : List Text) (known : ℕ) → log.count ≡ length history
    → take known journal ≡ history ++ log.beyond → known ≤ length journal → known ≡ known_of log
known-length log history journal known count is within =
    let front = length-take-le known journal within in
    let same = ap (λ (l : List Text). length l) is in
    let sum = length-append history log.beyond in
    omega arith

-- one more record of a journal is known
module _ (log : LogState) (history journal : List Text) (text : Text) (count : log.count ≡ length history)
    (more : slice_get journal (known_of log) ≡ Some text) where
  longer-known : (history ++ log.beyond) ++ text ∷ [] ≡ history ++ (with_known log text).beyond
  longer-known = append_assoc history log.beyond (text ∷ [])

  part-more : IsPrefix (history ++ log.beyond) journal → IsPrefix (history ++ (with_known log text).beyond) journal
  part-more known =
      let sum = length-append history log.beyond in
      let here : known_of log ≡ length (history ++ log.beyond) = omega arith in
      subst (λ (l : List Text). IsPrefix l journal) longer-known
      (prefix-more (history ++ log.beyond) journal text known (subst (λ (n : ℕ). slice_get journal n ≡ Some text) here more))

  read-more : (known : ℕ) → take known journal ≡ history ++ log.beyond → known ≤ length journal
      → (take (known + 1) journal ≡ history ++ (with_known log text).beyond) × (known + 1 ≤ length journal)
  read-more known is within =
      let here = known-length log history journal known count is within in
      let at : slice_get journal known ≡ Some text = subst (λ (n : ℕ). slice_get journal n ≡ Some text) (sym here) more in
      let below = slice_get_within journal known text at in (
        take_more journal known text below
            ∙ (λ i. is i ++ get_or_from_slice_get journal known text text at i ∷ []) ∙ longer-known,
        omega arith,
      )

-- one log changes
pub log-set : (logs : List LogState) (shard : ℕ) (log : LogState) → shard < length logs → (Holds : ℕ → LogState → Type 0)
    → Holds shard log → ((other : ℕ) → (other ≡ shard → ⊥) → Holds other (log_at logs other)) → (other : ℕ) → Holds other (log_at (set logs shard log) other)
log-set logs shard log within Holds here others other = elim (cases_eq other shard) [
  | inl same ↦ subst (λ (s : ℕ). Holds s (log_at (set logs shard log) s)) (sym same)
      (subst (Holds shard) (sym (get_or-set_same logs shard log (new_log 0 0) within)) here)
  | inr apart ↦ subst (Holds other) (sym (get_or-set_other logs shard other log (new_log 0 0) apart)) (others other apart)
]

module _ (bridge : BridgeState) (world : World) (shard : ℕ) (text : Text) (within : shard < length bridge.logs) (stands : StandsIn bridge world)
    (more : IsNextKnown bridge world shard text) where
  abbrev machine : Machine
  machine = world.machines bridge.machine

  abbrev count : Count
  count = count_at world machine.read

  learned-counts : (other : ℕ) → (log_at (learned bridge shard text).logs other).count ≡ length (count.histories other)
  learned-counts =
      log-set bridge.logs shard (with_known (log_at bridge.logs shard) text) within
      (λ (other : ℕ) (log : LogState). log.count ≡ length (count.histories other)) (stands.counts shard) (λ other apart. stands.counts other)

  -- what is known of a journal under a role that is this one
  known-as : (role : Role) → bridge.role ≡ role → (other : ℕ) → IsKnown role (log_at bridge.logs other) (count.histories other) machine other
  known-as role is other = subst (λ (r : Role). IsKnown r (log_at bridge.logs other) (count.histories other) machine other) is (stands.known other)

  -- of journals that it is told
  learns-part : bridge.role ≡ Untold → StandsIn (learned bridge shard text) world
  learns-part untold = record {
    last = stands.last;
    stage = stands.stage;
    counts = learned-counts;
    known = subst (λ (role : Role). (other : ℕ) → IsKnown role (log_at (learned bridge shard text).logs other) (count.histories other) machine other)
        (sym untold)
        (log-set bridge.logs shard (with_known (log_at bridge.logs shard) text) within
        (λ (other : ℕ) (log : LogState). IsPrefix (count.histories other ++ log.beyond) (machine.journals other))
        (part-more (log_at bridge.logs shard) (count.histories shard) (machine.journals shard) text (stands.counts shard) more
        (known-as Untold untold shard))
        (λ other apart. known-as Untold untold other));
    held = stands.held;
  }

  -- how many are known then
  abbrev knows : ℕ → ℕ
  knows = one_more machine.known shard

  knows-here : knows shard ≡ machine.known shard + 1
  knows-here = cond-true (shard == shard) (machine.known shard + 1) (machine.known shard) (eq-eqb shard shard refl)

  knows-elsewhere : (other : ℕ) → (other ≡ shard → ⊥) → knows other ≡ machine.known other
  knows-elsewhere other apart = cond-false (other == shard) (machine.known other + 1) (machine.known other) (ne_eqb other shard apart)

  -- of its host's journals, while it serves
  learns-more : (own : Opening) → bridge.role ≡ Serving own → DoesLook (learned bridge shard text) world shard
  learns-more own serves =
      let known : (other : ℕ) → (take (knows other) (machine.journals other)
      ≡ count.histories other ++ (log_at (learned bridge shard text).logs other).beyond) × (knows other ≤ length (machine.journals other)) =
      log-set bridge.logs shard (with_known (log_at bridge.logs shard) text) within
      (λ (other : ℕ) (log : LogState). (take (knows other) (machine.journals other) ≡ count.histories other ++ log.beyond)
      × (knows other ≤ length (machine.journals other)))
      (subst (λ (n : ℕ). (take n (machine.journals shard) ≡ count.histories shard ++ (with_known (log_at bridge.logs shard) text).beyond)
      × (n ≤ length (machine.journals shard))) (sym knows-here)
      (read-more (log_at bridge.logs shard) (count.histories shard) (machine.journals shard) text (stands.counts shard) more (machine.known shard)
      (known-as (Serving own) serves shard).0 (known-as (Serving own) serves shard).1))
      (λ other apart. subst (λ (n : ℕ). (take n (machine.journals other) ≡ count.histories other ++ (log_at bridge.logs other).beyond)
      × (n ≤ length (machine.journals other))) (sym (knows-elsewhere other apart)) (known-as (Serving own) serves other)) in
      record {
        can = record {
          serving = record { barrier = barrier_of own; stage_is = stands.stage ∙ ap stage_of serves };
          more = λ other. cond_both (other == shard) (machine.known other + 1) (machine.known other) (λ (n : ℕ). machine.known other ≤ n)
              (λ here. omega arith) (λ elsewhere. omega arith);
          within = λ other. (known other).1;
        };
        stands = stands-here (learned bridge shard text) world (record machine { known = knows }) (record {
          last = stands.last;
          stage = stands.stage;
          counts = learned-counts;
          known = subst (λ (role : Role). (other : ℕ) → IsKnown role (log_at (learned bridge shard text).logs other) (count.histories other)
              (record machine { known = knows }) other) (sym serves) known;
          held = stands.held;
        });
      }

  learns-as : (role : Role) → bridge.role ≡ role → IsLearning role → DoesLearn role (learned bridge shard text) world shard
  learns-as Untold is may = learns-part is
  learns-as Following is may = absurd may
  learns-as (Beginning own) is may = absurd may
  learns-as (Serving own) is may = learns-more own is

  pub learns : IsLearning bridge.role → DoesLearn bridge.role (learned bridge shard text) world shard
  learns may = learns-as bridge.role refl may
