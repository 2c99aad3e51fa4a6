-- Answers go while their records count.
use Rattle.std.proofs.Common.{◌≡◌, ℕ, Bool, true, false, List, [], ◌∷◌, drop, Option, Some, None, refl, ap, sym, ◌∙◌, subst, append_assoc, if◌then◌else◌}
use Rattle.std.specs.List.{slice_get}
use Rattle.one_history.specs.Machines.{Machine, World}
use Rattle.one_history.specs.Events.{Event, Reply, AreAllowed, next, after}
use Rattle.bridge_rule.specs.declared.held.Held.{Held}
use Rattle.bridge_rule.specs.declared.held.Place.{Place}
use Rattle.bridge_rule.specs.declared.role.Role.{Role}
use Rattle.bridge_rule.specs.declared.role.Role.TheVariants.{Untold, Following, Beginning, Serving}
use Rattle.bridge_rule.specs.Bridges.{BridgeState, StandsIn, IsServing, with_held, place_counts, waited_for}
use Rattle.bridge_rule.specs.Events.{DoesReply}
use Rattle.bridge_rule.proofs.Standing.{machine-here}
use Rattle.bridge_rule.proofs.Waiting.{releases}
use Rattle.bridge_turns.specs.Partitions.{Outcome, gone, left, reply_acts, all_reply_acts}
use Rattle.bridge_turns.specs.Turns as turns
use Rattle.bridge_turns.specs.Laws.{NothingFollows, IsMade, Stands, AreReplies, Does}
use Rattle.bridge_turns.proofs.Ways.{AreQuiet, nothing-quiet, quiet-append, no-replies}

-- these go, and those wait then
pub record GoesBy (bridge : BridgeState) (went rest : List Held) (world : World) : Type 0 where
  pub events : List Event
  pub allowed : AreAllowed NothingFollows world events
  pub stands : StandsIn (with_held bridge rest) (after world events)
  pub journals : (shard : ℕ) → ((after world events).machines bridge.machine).journals shard ≡ (world.machines bridge.machine).journals shard
  pub replies : AreReplies world (after world events) went

abbrev pub Goes : List Held → Type 0
Goes held = (bridge : BridgeState) (world : World) → bridge.held ≡ held → IsServing bridge.role → StandsIn bridge world
    → GoesBy bridge (gone bridge.logs held) (left bridge.logs held) world

-- the first goes, and then the others
after-first : (others : List Held) → Goes others → (bridge : BridgeState) (world : World) → IsServing bridge.role
    → (reply : Option ℕ) (place : Option Place) → DoesReply (with_held bridge others) world reply place
    → GoesBy bridge (record { reply = reply; place = place } ∷ gone bridge.logs others) (left bridge.logs others) world
after-first others goes bridge world serves None place stands =
    let rest = goes (with_held bridge others) world refl serves stands in
    record {
      events = rest.events;
      allowed = rest.allowed;
      stands = rest.stands;
      journals = rest.journals;
      replies = record { answers = rest.replies.answers; sent = rest.replies.sent; places = rest.replies.places };
    }
after-first others goes bridge world serves (Some reply) None stands =
    let rest = goes (with_held bridge others) world refl serves stands in
    record {
      events = rest.events;
      allowed = rest.allowed;
      stands = rest.stands;
      journals = rest.journals;
      replies = record { answers = rest.replies.answers; sent = rest.replies.sent; places = rest.replies.places };
    }
after-first others goes bridge world serves (Some reply) (Some place) sends =
    let machine = world.machines bridge.machine in
    let event = Reply bridge.machine sends.answer in
    let rest = goes (with_held bridge others) (next world event) refl serves sends.stands in
    record {
      events = event ∷ rest.events;
      allowed = (sends.can, rest.allowed);
      stands = rest.stands;
      journals = λ shard. rest.journals shard
          ∙ ap (λ (m : Machine). m.journals shard) (machine-here world bridge.machine (record machine { held = drop 1 machine.held }));
      replies = record {
        answers = sends.answer ∷ rest.replies.answers;
        sent = rest.replies.sent ∙ append_assoc world.sent (sends.answer ∷ []) rest.replies.answers;
        places = λ i. sends.place_is i ∷ rest.replies.places i;
      };
    }

first-or-none : (one : Held) (others : List Held) → Goes others → (bridge : BridgeState) (world : World) → bridge.held ≡ one ∷ others
    → IsServing bridge.role → StandsIn bridge world → (counts : Bool) → place_counts bridge.logs one.place ≡ counts
    → GoesBy bridge (if counts then one ∷ gone bridge.logs others else []) (if counts then left bridge.logs others else one ∷ others) world
first-or-none one others goes bridge world is serves stands true counts =
    after-first others goes bridge world serves one.reply one.place
    (subst (λ (h : List Held). DoesReply (with_held bridge h) world one.reply one.place) (ap (λ (h : List Held). drop 1 h) is)
    (releases bridge world serves stands one (ap (λ (h : List Held). slice_get h 0) is) counts))
first-or-none one others goes bridge world is serves stands false counts = record {
  events = [];
  allowed = tt;
  stands = subst (λ (h : List Held). StandsIn (with_held bridge h) world) is stands;
  journals = λ shard. refl;
  replies = no-replies world world refl;
}

pub goes : (held : List Held) → Goes held
goes [] bridge world is serves stands = record {
  events = [];
  allowed = tt;
  stands = subst (λ (h : List Held). StandsIn (with_held bridge h) world) is stands;
  journals = λ shard. refl;
  replies = no-replies world world refl;
}
goes (one ∷ others) bridge world is serves stands =
    first-or-none one others (goes others) bridge world is serves stands (place_counts bridge.logs one.place) refl

reply-quiet : (reply : Option ℕ) → AreQuiet (reply_acts reply)
reply-quiet None = nothing-quiet
reply-quiet (Some number) = record { carry = λ shard journal. refl; make = λ world. (tt, tt) }

pub replies-quiet : (held : List Held) → AreQuiet (all_reply_acts held)
replies-quiet [] = nothing-quiet
replies-quiet (one ∷ held) = quiet-append (reply_acts one.reply) (all_reply_acts held) (reply-quiet one.reply) (replies-quiet held)

-- a bridge that serves waits for no barrier
pub serving-made : (role : Role) (world : World) → IsServing role → IsMade (waited_for role) world
serving-made Untold world serves = absurd serves
serving-made Following world serves = absurd serves
serving-made (Beginning own) world serves = absurd serves
serving-made (Serving own) world serves = tt

pub releases-way : (outcome : Outcome) (world : World) → IsServing outcome.state.bridge.role → Stands outcome.state world
    → Does outcome.state.bridge.machine outcome (turns.releases outcome) (gone outcome.state.bridge.logs outcome.state.bridge.held) world
releases-way outcome world serves stands =
    let bridge = outcome.state.bridge in
    let quiet = replies-quiet (gone bridge.logs bridge.held) in
    let it = goes bridge.held bridge world refl serves stands.bridge in
    record {
      acts = all_reply_acts (gone bridge.logs bridge.held);
      said = refl;
      events = it.events;
      allowed = it.allowed;
      stands = record { bridge = it.stands; made = serving-made bridge.role (after world it.events) serves; quiet = stands.quiet };
      journals = λ shard. it.journals shard ∙ sym (quiet.carry shard ((world.machines bridge.machine).journals shard));
      made = quiet.make (after world it.events);
      replies = it.replies;
    }
