-- Answers wait for their records, and go in their order.
use Rattle.std.proofs.Common.{◌≡◌, ℕ, ◌+◌, ◌<◌, ◌≤◌, true, List, [], ◌∷◌, ◌++◌, length, take, drop, map, Option, Some, None, refl, ap, sym, ◌∙◌, subst, arith, append_assoc}
use Rattle.std.specs.List.{slice_get}
use Rattle.std.proofs.lemmas.Bool.{ltb-true}
use Rattle.std.proofs.lemmas.List.{append-nil, map_push, take_more, take-take, length-take-le}
use Rattle.std.proofs.lemmas.Option.{none-some, same_Some}
use Rattle.one_history.specs.Prefixes.{IsPrefix}
use Rattle.one_history.specs.Streams.{Text, Count}
use Rattle.one_history.specs.Machines.{Answer, up_to, Machine, World, count_at}
use Rattle.one_history.proofs.Prefixed.{prefix-take}
use Rattle.bridge_rule.specs.declared.held.Held.{Held}
use Rattle.bridge_rule.specs.declared.held.Place.{Place}
use Rattle.bridge_rule.specs.declared.role.Role.{Role}
use Rattle.bridge_rule.specs.declared.role.Role.TheVariants.{Untold, Following, Beginning, Serving}
use Rattle.bridge_rule.specs.Logs.{LogState, known_of}
use Rattle.bridge_rule.specs.Bridges.{BridgeState, StandsFor, StandsIn, IsKnown, IsServing, log_at, with_held, places_of, waits_for, place_of, WaitsForKnown, place_counts}
use Rattle.bridge_rule.specs.Events.{answer_at, DoesHold, DoesReply, DoesSend}
use Rattle.bridge_rule.proofs.Standing.{stands-here}
use Rattle.bridge_rule.proofs.NeverDiverged.{serving-stage}
use Rattle.bridge_rule.proofs.ReadingBarriers.{known-same}
use Rattle.bridge_rule.proofs.Learning.{known-length}

-- one more that waits
places-push : (held : List Held) (one : Held) → places_of (held ++ one ∷ []) ≡ places_of held ++ waits_for one.reply one.place
places-push [] one = append-nil (waits_for one.reply one.place)
places-push (first ∷ held) one =
    ap (λ (l : List Place). waits_for first.reply first.place ++ l) (places-push held one)
    ∙ sym (append_assoc (waits_for first.reply first.place) (places_of held) (waits_for one.reply one.place))

-- the records that the serving bridge knows, of one shard
known-front : (role : Role) → IsServing role → (log : LogState) (history : List Text) (machine : Machine) (shard : ℕ)
    → log.count ≡ length history → IsKnown role log history machine shard
    → (machine.known shard ≡ known_of log) × (machine.known shard ≤ length (machine.journals shard))
known-front Untold serves log history machine shard count known = absurd serves
known-front Following serves log history machine shard count known = absurd serves
known-front (Beginning own) serves log history machine shard count known = absurd serves
known-front (Serving own) serves log history machine shard count known =
    (known-length log history (machine.journals shard) (machine.known shard) count known.0 known.1, known.1)

module _ (bridge : BridgeState) (world : World) (serves : IsServing bridge.role) (stands : StandsIn bridge world) where
  abbrev machine : Machine
  machine = world.machines bridge.machine

  abbrev count : Count
  count = count_at world machine.read

  -- the bridge with others that wait, and the machine too
  held-stands : (held : List Held) (answers : List Answer) → places_of held ≡ map place_of answers
      → StandsFor (with_held bridge held) count (record machine { held = answers })
  held-stands held answers same = record {
    last = stands.last;
    stage = stands.stage;
    counts = stands.counts;
    known = λ shard. known-same bridge.role (log_at bridge.logs shard) (count.histories shard) machine (record machine { held = answers }) shard
        refl refl (stands.known shard);
    held = same;
  }

  -- what waits beside the law's answers
  stands-waiting : (held : List Held) → places_of held ≡ map place_of machine.held → StandsIn (with_held bridge held) world
  stands-waiting held same = held-stands held machine.held same

  module _ (place : Place) (known : place.index < known_of (log_at bridge.logs place.shard)) where
    abbrev journal : List Text
    journal = machine.journals place.shard

    front : (machine.known place.shard ≡ known_of (log_at bridge.logs place.shard)) × (machine.known place.shard ≤ length journal)
    front = known-front bridge.role serves (log_at bridge.logs place.shard) (count.histories place.shard) machine place.shard
        (stands.counts place.shard) (stands.known place.shard)

    below : place.index < length journal
    below = let it = front in let same = it.0 in let within = it.1 in omega arith

    answer-place : place_of (answer_at machine.journals place) ≡ place
    answer-place =
        let within = below in
        let long : length (take place.index journal) ≡ place.index = length-take-le place.index journal (omega arith) in
        λ i. record { shard = place.shard; index = long i }

    answer-stands : IsPrefix (up_to (answer_at machine.journals place)) (take (machine.known place.shard) journal)
    answer-stands =
        let it = front in
        let same = it.0 in
        let up : take (place.index + 1) journal ≡ up_to (answer_at machine.journals place) = take_more journal place.index [] below in
        let within : place.index + 1 ≤ machine.known place.shard = omega arith in
        subst (λ (l : List Text). IsPrefix l (take (machine.known place.shard) journal))
        (take-take (place.index + 1) (machine.known place.shard) journal within ∙ up)
        (prefix-take (place.index + 1) (take (machine.known place.shard) journal))

  holds : (reply : Option ℕ) (place : Option Place) → WaitsForKnown bridge.logs place
      → DoesHold (with_held bridge (bridge.held ++ record { reply = reply; place = place } ∷ [])) world reply place
  holds None place known =
      stands-waiting (bridge.held ++ record { reply = None; place = place } ∷ [])
      (places-push bridge.held (record { reply = None; place = place }) ∙ append-nil (places_of bridge.held) ∙ stands.held)
  holds (Some reply) None known =
      stands-waiting (bridge.held ++ record { reply = Some reply; place = None } ∷ [])
      (places-push bridge.held (record { reply = Some reply; place = None }) ∙ append-nil (places_of bridge.held) ∙ stands.held)
  holds (Some reply) (Some place) known =
      let held = bridge.held ++ record { reply = Some reply; place = Some place } ∷ [] in
      let answer = answer_at machine.journals place in
      let serving = serving-stage bridge.role serves in
      let back : place ≡ place_of answer = sym (answer-place place known) in
      record {
        can = record {
          serving = record { barrier = serving.0; stage_is = stands.stage ∙ serving.1 };
          stands = answer-stands place known;
        };
        stands = stands-here (with_held bridge held) world (record machine { held = machine.held ++ answer ∷ [] })
            (held-stands held (machine.held ++ answer ∷ [])
            (places-push bridge.held (record { reply = Some reply; place = Some place })
            ∙ (λ i. stands.held i ++ back i ∷ [])
            ∙ sym (map_push place_of machine.held answer)));
      }

  pub waits : (one : Held) → WaitsForKnown bridge.logs one.place → DoesHold (with_held bridge (bridge.held ++ one ∷ [])) world one.reply one.place
  waits one known = holds one.reply one.place known

  -- the first that waits goes
  sends : (reply : ℕ) (place : Place) (others : List Held) (answers : List Answer) → machine.held ≡ answers
      → place ∷ places_of others ≡ map place_of answers → place_counts bridge.logs (Some place) ≡ true
      → DoesSend (with_held bridge others) world place
  sends reply place others [] is same counts = cc
  sends reply place others (answer ∷ answers) is same counts =
      let here : place ≡ place_of answer = cc in
      let rest : places_of others ≡ map place_of answers = cc in
      let serving = serving-stage bridge.role serves in
      let shard : place.shard ≡ answer.shard = ap (λ (p : Place). p.shard) here in
      let index : place.index ≡ length answer.before = ap (λ (p : Place). p.index) here in
      let below : place.index < (log_at bridge.logs place.shard).count =
      ltb-true place.index (log_at bridge.logs place.shard).count counts in
      let within : length answer.before < length (count.histories answer.shard) =
      subst (λ (s : ℕ). length answer.before < length (count.histories s)) shard
      (let long = stands.counts place.shard in omega arith) in
      record {
        answer = answer;
        place_is = sym here;
        can = record {
          serving = record { barrier = serving.0; stage_is = stands.stage ∙ serving.1 };
          others = answers;
          held_is = is;
          counts = within;
        };
        stands = stands-here (with_held bridge others) world (record machine { held = drop 1 machine.held })
            (held-stands others (drop 1 machine.held) (rest ∙ ap (λ (l : List Answer). map place_of (drop 1 l)) (sym is)));
      }

  goes : (reply : Option ℕ) (place : Option Place) (others : List Held) → bridge.held ≡ record { reply = reply; place = place } ∷ others
      → place_counts bridge.logs place ≡ true → DoesReply (with_held bridge others) world reply place
  goes None place others is counts = stands-waiting others (ap places_of (sym is) ∙ stands.held)
  goes (Some reply) None others is counts = stands-waiting others (ap places_of (sym is) ∙ stands.held)
  goes (Some reply) (Some place) others is counts =
      sends reply place others machine.held refl (ap places_of (sym is) ∙ stands.held) counts

  first-goes : (one : Held) (held : List Held) → bridge.held ≡ held → slice_get held 0 ≡ Some one → place_counts bridge.logs one.place ≡ true
      → DoesReply (with_held bridge (drop 1 held)) world one.reply one.place
  first-goes one [] is first counts = absurd (none-some one first)
  first-goes one (other ∷ others) is first counts =
      goes one.reply one.place others (is ∙ ap (λ (h : Held). h ∷ others) (same_Some other one first)) counts

  pub releases : (one : Held) → slice_get bridge.held 0 ≡ Some one → place_counts bridge.logs one.place ≡ true
      → DoesReply (with_held bridge (drop 1 bridge.held)) world one.reply one.place
  releases one first counts = first-goes one bridge.held refl first counts
