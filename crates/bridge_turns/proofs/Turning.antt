-- Each turn is a run of events.
use Rattle.std.proofs.Common.{◌≡◌, ℕ, ◌+◌, ◌-◌, ◌==◌, ◌<◌, ◌≤◌, ◌&&◌, Bool, true, false, List, [], ◌∷◌, ◌++◌, length, Option, Some, None, refl, ap, sym, ◌∙◌}
use Rattle.std.proofs.Common.{subst, if◌then◌else◌, arith}
use Rattle.std.specs.List.{AllByRecursion, Contains, flat_map, range_with_len}
use Rattle.std.proofs.lemmas.List.{append-nil, take_all}
use Rattle.std.proofs.lemmas.List.Elements.{Contains-push}
use Rattle.one_history.specs.Streams.{Text, Word, Indexed, Message as LawMessage, OfBarrier, opens as lawopens, next_count}
use Rattle.one_history.specs.Machines.{Machine, World, Knows, Follows, count_at, next_message}
use Rattle.one_history.specs.Events.{Read, Call, Look, Hold, End, Part, next, after, calls, reads as machine_reads, truncated, turned, name_of, CanCall}
use Rattle.bridge_rule.specs.declared.opening.Opening.{Opening}
use Rattle.bridge_rule.specs.declared.held.Held.{Held}
use Rattle.bridge_rule.specs.declared.held.Place.{Place}
use Rattle.bridge_rule.specs.declared.role.Role.{Role}
use Rattle.bridge_rule.specs.declared.role.Role.TheVariants.{Untold, Following, Beginning, Serving}
use Rattle.bridge_rule.specs.Openings.{barrier_of}
use Rattle.bridge_rule.specs.Logs.{LogState, known_of}
use Rattle.bridge_rule.specs.Bridges.{IsKnown, IsServing, IsLearning, IsFollowing, WaitsForKnown, log_at, told_bridge, parted_role, told_role, with_held}
use Rattle.bridge_rule.specs.Bridges.{serves, follows, is_told, waited_for, places_of}
use Rattle.bridge_rule.specs.Events.{IsNext, KnowsAll, IsNextKnown, ReadsMessage, DoesLearn, DoesHold, answer_at, one_more}
use Rattle.bridge_rule.proofs.Standing.{machine-here}
use Rattle.bridge_rule.proofs.Learning.{learns}
use Rattle.bridge_rule.proofs.Leaving.{parts as bridge-parts, ends-host}
use Rattle.bridge_rule.proofs.Waiting.{waits}
use Rattle.bridge_rule.proofs.NeverDiverged.{serving-stage}
use Rattle.bridge_lines.specs.declared.event.Event.TheVariants.{Answered}
use Rattle.bridge_lines.specs.Acts.{Act, PublishBarrier, PublishMark, Ready, End as EndHost}
use Rattle.bridge_turns.specs.declared.link.Link.{Link}
use Rattle.bridge_turns.specs.declared.link.Link.TheVariants.{Away, Reading, InLine}
use Rattle.bridge_turns.specs.Partitions.{PartitionState, Outcome, outcome_of, says, with_bridge, with_link, news, gone}
use Rattle.bridge_turns.specs.Turns as turns
use Rattle.bridge_turns.specs.Laws.{IsMade, Stands, Does, went}
use Rattle.bridge_turns.proofs.Ways.{places-append, AreQuiet, nothing-quiet, says-quiet, stays, happens, joined, no-replies}
use Rattle.bridge_turns.proofs.Releasing.{releases-way, serving-made}
use Rattle.bridge_turns.proofs.Standings.{stands-told, stands-called}
use Rattle.bridge_turns.proofs.Spoken.{speaks, events_of, may-publish, published-machines, published-sent, published-stands, published-made, said-quiet}
use Rattle.bridge_turns.proofs.Spoken.{knows-news, served-name}

-- ---- roles

pub serves-is : (role : Role) → serves role ≡ true → IsServing role
serves-is Untold is = absurd (let no : ⊥ = cc in no)
serves-is Following is = absurd (let no : ⊥ = cc in no)
serves-is (Beginning own) is = absurd (let no : ⊥ = cc in no)
serves-is (Serving own) is = tt

follows-is : (role : Role) → follows role ≡ true → IsFollowing role
follows-is Untold is = absurd (let no : ⊥ = cc in no)
follows-is Following is = tt
follows-is (Beginning own) is = absurd (let no : ⊥ = cc in no)
follows-is (Serving own) is = absurd (let no : ⊥ = cc in no)

-- a turn that goes two ways
pub either : (name : Word) (old one other : Outcome) (goes : List Held) (world : World) (test : Bool) → (test ≡ true → Does name old one goes world)
    → (test ≡ false → Does name old other goes world) → Does name old (if test then one else other) goes world
either name old one other goes world true left right = left refl
either name old one other goes world false left right = right refl

pub ready-quiet : AreQuiet (Ready ∷ [])
ready-quiet = record { carry = λ shard journal. refl; make = λ world. (tt, tt) }

-- a way from what said the same
said-as : (name : Word) (old other new : Outcome) (world : World) → old.said ≡ other.said → Does name other new [] world → Does name old new [] world
said-as name old other new world same does = record {
  acts = does.acts;
  said = does.said ∙ ap (λ (l : List Act). l ++ does.acts) (sym same);
  events = does.events;
  allowed = does.allowed;
  stands = does.stands;
  journals = does.journals;
  made = does.made;
  replies = does.replies;
}

and-right : (one other : Bool) → (one && other) ≡ true → other ≡ true
and-right true other is = is
and-right false other is = absurd (let no : ⊥ = cc in no)

-- what the serving bridge knows is there
known-within : (role : Role) → IsServing role → (log : LogState) (history : List Text) (machine : Machine) (shard : ℕ)
    → IsKnown role log history machine shard → machine.known shard ≤ length (machine.journals shard)
known-within Untold serves log history machine shard known = absurd serves
known-within Following serves log history machine shard known = absurd serves
known-within (Beginning own) serves log history machine shard known = absurd serves
known-within (Serving own) serves log history machine shard known = known.1

-- what was made is made in a world where the same was made
made-in : (own : Option Opening) (one other : World) → one.made ≡ other.made → IsMade own one → IsMade own other
made-in None one other same made = tt
made-in (Some own) one other same made = subst (λ (l : List LawMessage). Contains l (OfBarrier (barrier_of own))) same made

-- ---- journals that the bridge learns of

learns-way : (role : Role) → IsLearning role → (old new : Outcome) (name : Word) (world : World) (shard : ℕ) → new.state.bridge.machine ≡ name
    → new.said ≡ old.said → IsMade (waited_for new.state.bridge.role) world → new.state.begun.records ≡ []
    → DoesLearn role new.state.bridge world shard → Does name old new [] world
learns-way Untold may old new name world shard same said made quiet does =
    stays name old new world said (record { bridge = does; made = made; quiet = quiet })
learns-way Following may old new name world shard same said made quiet does = absurd may
learns-way (Beginning own) may old new name world shard same said made quiet does = absurd may
learns-way (Serving own) may old new name world shard same said made quiet does =
    subst (λ (n : Word). Does n old new [] world) same
    (happens new.state.bridge.machine old new [] world
    (Look new.state.bridge.machine (one_more (world.machines new.state.bridge.machine).known shard)) (said ∙ sym (append-nil old.said)) does.can
    (record {
      bridge = does.stands;
      made = made-in (waited_for new.state.bridge.role) world
          (next world (Look new.state.bridge.machine (one_more (world.machines new.state.bridge.machine).known shard))) refl made;
      quiet = quiet;
    })
    (λ other. ap (λ (m : Machine). m.journals other) (machine-here world new.state.bridge.machine
    (record (world.machines new.state.bridge.machine) { known = one_more (world.machines new.state.bridge.machine).known shard }))) tt refl)

pub has-turn : (state : PartitionState) (one : Indexed) (world : World) (said : List Act) → Stands state world
    → IsNextKnown state.bridge world one.shard one.text → IsLearning state.bridge.role → one.shard < length state.bridge.logs
    → Does state.bridge.machine (outcome_of state said) (turns.has one (outcome_of state said)) [] world
has-turn state one world said stands next may within =
    learns-way state.bridge.role may (outcome_of state said) (turns.has one (outcome_of state said)) state.bridge.machine world one.shard refl
    refl stands.made stands.quiet (learns state.bridge world one.shard one.text within stands.bridge next may)

-- ---- records that are published

publishes-way : (outcome : Outcome) (world : World) → IsServing outcome.state.bridge.role → Stands outcome.state world
    → Does outcome.state.bridge.machine outcome (turns.publishes outcome) [] world
publishes-way outcome world serving stands =
    let state = outcome.state in
    let bridge = state.bridge in
    let name = bridge.machine in
    let machine = world.machines name in
    let batch = turns.batch_at outcome in
    let serves_by = serving-stage bridge.role serving in
    let it = speaks (Knows machine) (news bridge.logs state.published) batch
    (subst (λ (l : List Indexed). AllByRecursion (Knows machine) l) (sym stands.quiet) tt)
    (knows-news bridge world state.published serving stands.bridge) in
    let events = events_of name it.messages in
    let by : batch.begun.name ≡ name_of machine.stage = served-name bridge.role serving ∙ ap name_of (sym stands.bridge.stage) in
    record {
      acts = it.acts;
      said = it.said;
      events = events;
      allowed = may-publish it.messages world name (record { barrier = serves_by.0; stage_is = stands.bridge.stage ∙ serves_by.1 }) it.each;
      stands = record {
        bridge = published-stands it.messages world bridge stands.bridge;
        made = serving-made bridge.role (after world events) serving;
        quiet = it.ended;
      };
      journals = λ shard. ap (λ (m : Word → Machine). (m name).journals shard) (published-machines it.messages world name)
          ∙ sym (said-quiet batch.begun.name it.acts it.messages it.are_said shard (machine.journals shard));
      made = published-made batch.begun.name it.acts it.messages it.are_said world name by;
      replies = no-replies world (after world events) (published-sent it.messages world name);
    }

-- ---- turns without messages

-- a role that is told waits for the same barrier
waited-told : (role : Role) → waited_for role ≡ waited_for (told_role role)
waited-told Untold = refl
waited-told Following = refl
waited-told (Beginning own) = refl
waited-told (Serving own) = refl

line-way : (link : Link) (name : Word) (old between : Outcome) (world : World) → between.said ≡ old.said → Stands between.state world
    → Does name old (turns.stands_in_line link between) [] world
line-way Away name old between world same stands = stays name old between world same stands
line-way (Reading word) name old between world same stands = stays name old between world same stands
line-way InLine name old between world same stands =
    says-quiet name old (says between (Ready ∷ [])) (Ready ∷ []) world (ap (λ (l : List Act). l ++ Ready ∷ []) same) ready-quiet stands

pub told-turn : (state : PartitionState) (world : World) (said : List Act) → Stands state world
    → (is_told state.bridge.role ≡ false → KnowsAll state.bridge world)
    → Does state.bridge.machine (outcome_of state said) (turns.told (outcome_of state said)) [] world
told-turn state world said stands all =
    let outcome = outcome_of state said in
    let name = state.bridge.machine in
    either name outcome (turns.publishes outcome)
    (if is_told state.bridge.role then outcome
    else turns.stands_in_line state.link (with_bridge outcome (told_bridge state.bridge)))
    [] world (serves state.bridge.role)
    (λ is. publishes-way outcome world (serves-is state.bridge.role is) stands)
    (λ apart. either name outcome outcome (turns.stands_in_line state.link (with_bridge outcome (told_bridge state.bridge))) [] world
    (is_told state.bridge.role) (λ is. stays name outcome outcome world refl stands)
    (λ untold. line-way state.link name outcome (with_bridge outcome (told_bridge state.bridge)) world refl (record {
      bridge = stands-told state.bridge world stands.bridge all;
      made = subst (λ (own : Option Opening). IsMade own world) (waited-told state.bridge.role) stands.made;
      quiet = stands.quiet;
    })))

-- the machine follows
parted-waits : (role : Role) → waited_for (parted_role role) ≡ None
parted-waits Untold = refl
parted-waits Following = refl
parted-waits (Beginning own) = refl
parted-waits (Serving own) = refl

pub none-made : (own : Option Opening) (world : World) → own ≡ None → IsMade own world
none-made own world is = subst (λ (o : Option Opening). IsMade o world) (sym is) tt

parts-said : (test : Bool) (outcome : Outcome)
    → (if test then says outcome (EndHost ∷ []) else outcome).said ≡ outcome.said ++ (if test then EndHost ∷ [] else [])
parts-said true outcome = refl
parts-said false outcome = sym (append-nil outcome.said)

ends-quiet : (test : Bool) → AreQuiet (if test then EndHost ∷ [] else [])
ends-quiet true = record { carry = λ shard journal. refl; make = λ world. (tt, tt) }
ends-quiet false = nothing-quiet

parts-begun : (test : Bool) (outcome : Outcome) → (if test then says outcome (EndHost ∷ []) else outcome).state.begun.records ≡ outcome.state.begun.records
parts-begun true outcome = refl
parts-begun false outcome = refl

pub parts-way : (outcome : Outcome) (link : Link) (world : World) → Stands outcome.state world
    → Does outcome.state.bridge.machine outcome (with_link (turns.parts outcome) link) [] world
parts-way outcome link world stands =
    let bridge = outcome.state.bridge in
    let name = bridge.machine in
    let acts : List Act = (if serves bridge.role then EndHost ∷ [] else []) in
    let quiet = ends-quiet (serves bridge.role) in
    happens name outcome (with_link (turns.parts outcome) link) acts world (Part name) (parts-said (serves bridge.role) outcome) tt
    (record {
      bridge = bridge-parts bridge world stands.bridge;
      made = none-made (waited_for (parted_role bridge.role)) (next world (Part name)) (parted-waits bridge.role);
      quiet = parts-begun (serves bridge.role) outcome ∙ stands.quiet;
    })
    (λ shard. ap (λ (m : Machine). m.journals shard) (machine-here world name (record (world.machines name) { stage = Follows; held = [] }))
    ∙ sym (quiet.carry shard ((world.machines name).journals shard)))
    (quiet.make (next world (Part name))) refl

pub connected-turn : (state : PartitionState) (link : Link) (word : Word) (world : World) (said : List Act) → Stands state world
    → Does state.bridge.machine (outcome_of state said)
    (says (with_link (turns.parts (outcome_of state said)) link) (PublishMark word ∷ [])) [] world
connected-turn state link word world said stands =
    let outcome = outcome_of state said in
    let first = parts-way outcome link world stands in
    joined state.bridge.machine outcome (with_link (turns.parts outcome) link)
    (says (with_link (turns.parts outcome) link) (PublishMark word ∷ [])) [] [] world first
    (says-quiet state.bridge.machine (with_link (turns.parts outcome) link) (says (with_link (turns.parts outcome) link) (PublishMark word ∷ []))
    (PublishMark word ∷ []) (after world first.events) refl (record { carry = λ shard journal. refl; make = λ w. (tt, tt) }) first.stands)

pub called-turn : (state : PartitionState) (name : Word) (world : World) (said : List Act) → Stands state world → CanCall world name
    → Does state.bridge.machine (outcome_of state said) (turns.called name (outcome_of state said)) [] world
called-turn state name world said stands can =
    let outcome = outcome_of state said in
    let bridge = state.bridge in
    let own = turns.opening_of bridge name in
    let event = Call bridge.machine (bridge.last.number + 1) name in
    let made = Contains-push world.made (OfBarrier (barrier_of own)) in
    either bridge.machine outcome (turns.calls name outcome) outcome [] world (turns.is_in_line state.link && follows bridge.role)
    (λ is. happens bridge.machine outcome (turns.calls name outcome) (PublishBarrier (barrier_of own) ∷ []) world event refl can
    (record {
      bridge = stands-called bridge world name stands.bridge (follows-is bridge.role (and-right (turns.is_in_line state.link) (follows bridge.role) is));
      made = made;
      quiet = stands.quiet;
    })
    (λ shard. ap (λ (m : Machine). m.journals shard) (machine-here world bridge.machine (calls (world.machines bridge.machine) (barrier_of own))))
    (made, tt) refl)
    (λ is. stays bridge.machine outcome outcome world refl stands)

pub ended-turn : (state : PartitionState) (world : World) (said : List Act) → Stands state world
    → Does state.bridge.machine (outcome_of state said) (turns.ended (outcome_of state said)) [] world
ended-turn state world said stands =
    let outcome = outcome_of state said in
    let bridge = state.bridge in
    let name = bridge.machine in
    let machine = world.machines name in
    let keep : ℕ → ℕ = λ shard. length (machine.journals shard) in
    either name outcome (with_bridge outcome (with_held bridge [])) outcome [] world (serves bridge.role)
    (λ is.
    let serving = serves-is bridge.role is in
    let ends = ends-host bridge world keep serving stands.bridge
    (λ shard. known-within bridge.role serving (log_at bridge.logs shard) ((count_at world machine.read).histories shard) machine shard
    (stands.bridge.known shard)) in
    happens name outcome (with_bridge outcome (with_held bridge [])) [] world (End name keep) (sym (append-nil said)) ends.can
    (record { bridge = ends.stands; made = serving-made bridge.role (next world (End name keep)) serving; quiet = stands.quiet })
    (λ shard. ap (λ (m : Machine). m.journals shard) (machine-here world name (record machine { journals = truncated machine.journals keep; held = [] }))
    ∙ take_all (length (machine.journals shard)) (machine.journals shard)
    (let same : length (machine.journals shard) ≤ length (machine.journals shard) = omega arith in same))
    tt refl)
    (λ is. stays name outcome outcome world refl stands)

-- what waits for the last records names no reply
lasts-places : (logs : List LogState) (shard : ℕ) (test : Bool) → places_of (if test then [] else record {
  reply = None;
  place = Some (record { shard = shard; index = known_of (log_at logs shard) - 1 });
} ∷ []) ≡ []
lasts-places logs shard true = refl
lasts-places logs shard false = refl

flat-places : (logs : List LogState) (numbers : List ℕ) → places_of (flat_map (turns.last_of logs) numbers) ≡ []
flat-places logs [] = refl
flat-places logs (number ∷ numbers) =
    places-append (turns.last_of logs number) (flat_map (turns.last_of logs) numbers)
    ∙ (λ i. lasts-places logs number (known_of (log_at logs number) == (log_at logs number).count) i ++ flat-places logs numbers i)

no-places : (logs : List LogState) → places_of (turns.lasts logs) ≡ []
unfolding turns.lasts
no-places logs = flat-places logs (range_with_len 0 17)

pub loaded-turn : (state : PartitionState) (world : World) (said : List Act) → Stands state world
    → Does state.bridge.machine (outcome_of state said) (turns.loaded (outcome_of state said)) [] world
loaded-turn state world said stands =
    let outcome = outcome_of state said in
    let bridge = state.bridge in
    let held = with_held bridge (bridge.held ++ turns.lasts bridge.logs) in
    either bridge.machine outcome (turns.loads outcome) outcome [] world (serves bridge.role)
    (λ is. said-as bridge.machine outcome (turns.unpublished (with_bridge outcome held)) (turns.loads outcome) world refl
    (publishes-way (turns.unpublished (with_bridge outcome held)) world (serves-is bridge.role is) (record {
      bridge = record {
        last = stands.bridge.last;
        stage = stands.bridge.stage;
        counts = stands.bridge.counts;
        known = stands.bridge.known;
        held = places-append bridge.held (turns.lasts bridge.logs) ∙ ap (λ (l : List Place). places_of bridge.held ++ l) (no-places bridge.logs)
            ∙ append-nil (places_of bridge.held) ∙ stands.bridge.held;
      };
      made = stands.made;
      quiet = stands.quiet;
    })))
    (λ is. stays bridge.machine outcome outcome world refl stands)

opens-again : (own : Option Opening) (state : PartitionState) (world : World) (said : List Act) → Stands state world → IsMade own world
    → Does state.bridge.machine (outcome_of state said) (turns.opens_again own (outcome_of state said)) [] world
opens-again None state world said stands made = stays state.bridge.machine (outcome_of state said) (outcome_of state said) world refl stands
opens-again (Some own) state world said stands made = record {
  acts = PublishBarrier (barrier_of own) ∷ [];
  said = refl;
  events = [];
  allowed = tt;
  stands = stands;
  journals = λ shard. refl;
  made = (made, tt);
  replies = no-replies world world refl;
}

again-or-not : (state : PartitionState) (world : World) (said : List Act) → Stands state world
    → Does state.bridge.machine (outcome_of state said) (turns.again_by InLine (outcome_of state said)) [] world
again-or-not state world said stands =
    let outcome = outcome_of state said in
    either state.bridge.machine outcome (turns.publishes (turns.unpublished outcome)) (turns.opens_again (waited_for state.bridge.role) outcome) []
    world (serves state.bridge.role)
    (λ is. said-as state.bridge.machine outcome (turns.unpublished outcome) (turns.publishes (turns.unpublished outcome)) world refl
    (publishes-way (turns.unpublished outcome) world (serves-is state.bridge.role is)
    (record { bridge = stands.bridge; made = stands.made; quiet = stands.quiet })))
    (λ is. opens-again (waited_for state.bridge.role) state world said stands stands.made)

pub again-turn : (link : Link) (state : PartitionState) (world : World) (said : List Act) → Stands state world
    → Does state.bridge.machine (outcome_of state said) (turns.again_by link (outcome_of state said)) [] world
again-turn (Reading name) state world said stands =
    says-quiet state.bridge.machine (outcome_of state said) (says (outcome_of state said) (PublishMark name.items ∷ [])) (PublishMark name.items ∷ [])
    world refl (record { carry = λ shard journal. refl; make = λ w. (tt, tt) }) stands
again-turn Away state world said stands = again-or-not state world said stands
again-turn InLine state world said stands = again-or-not state world said stands

-- ---- answers

answers-way : (outcome : Outcome) (reply : ℕ) (place : Option Place) (world : World) → IsServing outcome.state.bridge.role → Stands outcome.state world
    → DoesHold (with_held outcome.state.bridge (outcome.state.bridge.held ++ record { reply = Some reply; place = place } ∷ [])) world (Some reply) place
    → Does outcome.state.bridge.machine outcome (with_bridge outcome
    (with_held outcome.state.bridge (outcome.state.bridge.held ++ record { reply = Some reply; place = place } ∷ []))) [] world
answers-way outcome reply None world serving stands does =
    stays outcome.state.bridge.machine outcome _ world refl (record { bridge = does; made = stands.made; quiet = stands.quiet })
answers-way outcome reply (Some place) world serving stands does =
    let name = outcome.state.bridge.machine in
    let machine = world.machines name in
    let answer = answer_at machine.journals place in
    happens name outcome _ [] world (Hold name answer) (sym (append-nil outcome.said)) does.can
    (record {
      bridge = does.stands;
      made = serving-made outcome.state.bridge.role (next world (Hold name answer)) serving;
      quiet = stands.quiet;
    })
    (λ shard. ap (λ (m : Machine). m.journals shard) (machine-here world name (record machine { held = machine.held ++ answer ∷ [] }))) tt refl

-- a turn that goes two ways, with what goes
pub either-went : (name : Word) (old one other : Outcome) (some others : List Held) (world : World) (test : Bool)
    → (test ≡ true → Does name old one some world) → (test ≡ false → Does name old other others world)
    → Does name old (if test then one else other) (if test then some else others) world
either-went name old one other some others world true left right = left refl
either-went name old one other some others world false left right = right refl

pub answered-turn : (state : PartitionState) (reply : ℕ) (place : Option Place) (world : World) (said : List Act) → Stands state world
    → (IsServing state.bridge.role → WaitsForKnown state.bridge.logs place)
    → Does state.bridge.machine (outcome_of state said) (turns.answered (record { number = reply; place = place }) (outcome_of state said))
    (went state (Answered (record { number = reply; place = place }))) world
answered-turn state reply place world said stands knows =
    let outcome = outcome_of state said in
    let bridge = state.bridge in
    let one : Held = record { reply = Some reply; place = place } in
    let held = with_bridge outcome (with_held bridge (bridge.held ++ one ∷ [])) in
    either-went bridge.machine outcome (turns.releases held) outcome (gone bridge.logs (bridge.held ++ one ∷ [])) [] world (serves bridge.role)
    (λ is.
    let serving = serves-is bridge.role is in
    let first = answers-way outcome reply place world serving stands (waits bridge world serving stands.bridge one (knows serving)) in
    joined bridge.machine outcome held (turns.releases held) [] (gone bridge.logs (bridge.held ++ one ∷ [])) world first
    (releases-way held (after world first.events) serving first.stands))
    (λ is. stays bridge.machine outcome outcome world refl stands)

-- ---- messages

-- a machine that reads has these journals then
read-either : (test : Bool) (one other : Machine) (journals : ℕ → List Text) (shard : ℕ) → one.journals ≡ journals → other.journals ≡ journals
    → (if test then one else other).journals shard ≡ journals shard
read-either true one other journals shard is others = ap (λ (j : ℕ → List Text). j shard) is
read-either false one other journals shard is others = ap (λ (j : ℕ → List Text). j shard) others

pub read-journals : (world : World) (name : Word) (journals : ℕ → List Text) (shard : ℕ)
    → ((next world (Read name journals)).machines name).journals shard ≡ journals shard
read-journals world name journals shard =
    let machine = world.machines name in
    let count = count_at world machine.read in
    let message = next_message world machine in
    ap (λ (m : Machine). m.journals shard) (machine-here world name (machine_reads machine count message journals))
    ∙ read-either (lawopens count.barrier message) (turned machine (next_count count message) journals)
    (record machine { read = machine.read + 1; journals = journals }) journals shard refl refl

pub read-made : (own : Option Opening) (world : World) (name : Word) (journals : ℕ → List Text) → IsMade own world
    → IsMade own (next world (Read name journals))
read-made None world name journals made = tt
read-made (Some own) world name journals made = made

-- a message that leaves the bridge and the journals as they are
pub unchanged-way : (state : PartitionState) (message : LawMessage) (world : World) (said : List Act) → Stands state world
    → IsNext world state.bridge.machine message → ReadsMessage state.bridge state.bridge message (λ journals. journals)
    → Does state.bridge.machine (outcome_of state said) (outcome_of state said) [] world
unchanged-way state message world said stands next_is reads =
    let does = reads world stands.bridge next_is in
    happens state.bridge.machine (outcome_of state said) (outcome_of state said) [] world
    (Read state.bridge.machine (world.machines state.bridge.machine).journals) (sym (append-nil said)) does.can
    (record {
      bridge = does.stands;
      made = read-made (waited_for state.bridge.role) world state.bridge.machine (world.machines state.bridge.machine).journals stands.made;
      quiet = stands.quiet;
    })
    (λ shard. read-journals world state.bridge.machine (world.machines state.bridge.machine).journals shard) tt refl
