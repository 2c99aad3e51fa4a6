-- A line that was read is taken into the shard that it names.
use Rattle.std.proofs.Common.{◌≡◌, ◌<◌, ℕ, Bool, List, [], ◌∷◌, length, length-append, set, Some, Ok, Err, refl, sym, subst, ◌∙◌, arith, Result}
use Rattle.std.proofs.lemmas.Option.{slice_get_read}
use Rattle.std.specs.List.{slice_get}
use Rattle.shard_book.specs.declared.taking.TakeFault.{TakeFault}
use Rattle.shard_book.specs.declared.taking.TakeFault.TheVariants.{NotLegal, StoreFault as StoreFailed}
use Rattle.shard_book.specs.Calls.{KeepsCall}
use Rattle.shard_book.specs.Taking.{IsReadRecord, IsReplicaOf}
use Rattle.issuer_base.specs.declared.entry.Entry.{Entry}
use Rattle.journal_rec.specs.Record.{IsLineOf}
use Rattle.standby_node.specs.declared.line.ReadLine.{ReadLine}
use Rattle.standby_node.specs.declared.line.FeedFault.TheVariants.{BadFeed, StoreFault}
use Rattle.standby_node.specs.OneLine.{TakesAt, has_failed}
use Rattle.standby_node.specs.ReadLines.{IsNoLine, IsReadAs, IsReady}
use Rattle.standby_node.specs.Standing.{Hold, KeepsShards}
use Rattle.standby_node.proofs.OneLine.{DoesTo, done_by, line-bad_anyway, line-behind, line-done_by, line-elsewhere, line-no_record}
use Rattle.standby_node.proofs.Shards.{shards-failed, shards-same, shards-set}
use Rattle.standby_node.proofs.line.take_read.Given.{Over}
use Rattle.standby_node.proofs.line.take_read.Goals.{After-index, After-index_mut, After-take_next}
use Rattle.standby_node.proofs.line.take_read.Goals as goal

pub returns-in-Bad-clause-does : goal.returns-in-Bad-clause-does
returns-in-Bad-clause-does g c in_doubt histories text hold is =
    line-bad_anyway c.args.issuer.now c.args.shards.now.items c.requires.shards in_doubt histories hold text c.args.number
    (subst (IsReadAs histories text) c.in-Bad.is is)

pub returns-in-Bad-clause-kept : goal.returns-in-Bad-clause-kept
returns-in-Bad-clause-kept g c =
    shards-same c.args.issuer.now c.args.shards.now.items (Err (BadFeed c.args.number)) c.requires.shards (λ number. refl)

pub returns-in-Behind-clause-does : goal.returns-in-Behind-clause-does
returns-in-Behind-clause-does g c in_doubt histories text hold is =
    line-behind c.args.issuer.now c.args.shards.now.items c.requires.shards in_doubt histories hold text c.args.number
    (subst (IsReadAs histories text) c.in-Behind.is is)

pub returns-in-Behind-clause-kept : goal.returns-in-Behind-clause-kept
returns-in-Behind-clause-kept g c =
    shards-same c.args.issuer.now c.args.shards.now.items (Ok tt) c.requires.shards (λ number. refl)

-- the shard of a line without a record
shard-is : (g : Over) (c : After-index g) → slice_get c.args.shards.now.items c.in-NoRecord.shard ≡ Some c.index.result.now
shard-is g c =
    let ready = subst (λ (line : ReadLine). IsReady c.args.issuer.now line c.args.found.now) c.in-NoRecord.is c.requires.line in
    let within : c.from.result < length c.args.shards.now.items = omega (arith, ready.0, c.from.ensures, c.requires.shards.count_is) in
    subst (λ (number : ℕ). slice_get c.args.shards.now.items number ≡ Some c.index.result.now) c.from.ensures
    (slice_get_read _ _ c.from.result _ refl within c.index.ensures)

pub returns-then-place-places-clause-does : goal.returns-then-place-places-clause-does
returns-then-place-places-clause-does g c in_doubt histories text hold is =
    line-elsewhere c.args.issuer.now c.args.shards.now.items c.requires.shards in_doubt histories hold text c.args.number
    c.in-NoRecord.shard c.in-NoRecord.place IsNoLine (subst (IsReadAs histories text) c.in-NoRecord.is is) c.index.result.now
    (shard-is g (goal.at.returns-then-place-places-clause-does g c).After-index)
    (λ same. c.if-place-places.true (same ∙ sym c.places.ensures.places))

pub returns-else-place-places-clause-does : goal.returns-else-place-places-clause-does
returns-else-place-places-clause-does g c in_doubt histories text hold is =
    let its = subst (IsReadAs histories text) c.in-NoRecord.is is in
    line-no_record c.args.issuer.now c.args.shards.now.items c.requires.shards in_doubt histories hold text c.args.number
    c.in-NoRecord.shard c.in-NoRecord.place IsNoLine its c.index.result.now
    (shard-is g (goal.at.returns-else-place-places-clause-does g c).After-index) its.rest_is (c.if-place-places.false ∙ c.places.ensures.places)

-- the shard that the line names
old-is : (g : Over) (c : After-index_mut g) → slice_get c.args.shards.now.items c.in-Record.shard ≡ Some c.index_mut.result.now
old-is g c =
    let ready = subst (λ (line : ReadLine). IsReady c.args.issuer.now line c.args.found.now) c.in-Record.is c.requires.line in
    let within : c.from-in-Record.result < length c.args.shards.now.items =
    omega (arith, ready.0, c.from-in-Record.ensures, c.requires.shards.count_is) in
    subst (λ (number : ℕ). slice_get c.args.shards.now.items number ≡ Some c.index_mut.result.now) c.from-in-Record.ensures
    (slice_get_read _ _ c.from-in-Record.result _ refl within c.index_mut.ensures.value)

pub take_next-requires-clause-under : goal.take_next-requires-clause-under
take_next-requires-clause-under g c =
    c.requires.shards.under c.in-Record.shard c.index_mut.result.now (old-is g (goal.at.take_next-requires-clause-under g c).After-index_mut)

pub take_next-requires-clause-read : goal.take_next-requires-clause-read
take_next-requires-clause-read g c =
    let ready = subst (λ (line : ReadLine). IsReady c.args.issuer.now line c.args.found.now) c.in-Record.is c.requires.line in
    subst (λ (text : List ℕ). IsReadRecord c.args.issuer.now c.in-Record.entry text c.args.found.now)
    (sym (c.requires.text c.in-Record.shard c.in-Record.place c.in-Record.entry c.in-Record.is)) ready.1

-- what it does is what the shard does
done : (g : Over) (c : After-take_next g) → slice_get c.args.shards.now.items c.in-Record.shard ≡ Some c.index_mut.result.now
    → (in_doubt : ℕ → Bool) (histories : List (List Entry)) (text : List ℕ)
    → Hold c.args.issuer.now in_doubt c.args.shards.now.items histories
    → IsReadAs histories text c.args.line.now
    → (result : Result (Unit {0}) TakeFault)
    → ((history : List Entry) (line : List ℕ) → IsReplicaOf c.args.issuer.now c.index_mut.result.now history
    → IsLineOf c.in-Record.entry line
    → TakesAt c.args.issuer.now c.index_mut.result.now history c.in-Record.place line result c.take_next.new.shard)
    → DoesTo c.args.issuer.now in_doubt histories c.args.shards.now.items text c.args.number
    (done_by c.args.number c.in-Record.shard result)
    (set c.args.shards.now.items c.from-in-Record.result c.take_next.new.shard)
done g c at in_doubt histories text hold is result taken =
    let shards = c.args.shards.now.items in
    let its = subst (IsReadAs histories text) c.in-Record.is is in
    let size = length-append text (10 ∷ []) in
    subst (λ (number : ℕ). DoesTo c.args.issuer.now in_doubt histories shards text c.args.number
    (done_by c.args.number c.in-Record.shard result) (set shards number c.take_next.new.shard)) (sym c.from-in-Record.ensures)
    (line-done_by c.args.issuer.now shards c.requires.shards in_doubt histories hold text c.args.number
    (omega (arith, size, its.is_for.short)) c.in-Record.shard c.in-Record.place its.rest its.is_for.head c.index_mut.result.now
    c.take_next.new.shard at c.take_next.ensures.crash result (λ history replica. taken history its.rest replica its.rest_is))

pub returns-in-Ok-clause-does : goal.returns-in-Ok-clause-does
returns-in-Ok-clause-does g c in_doubt histories text hold is =
    done g (goal.at.returns-in-Ok-clause-does g c).After-take_next (old-is g (goal.at.returns-in-Ok-clause-does g c).After-index_mut)
    in_doubt histories text hold is (Ok tt) c.in-Ok.ensures.taken

pub returns-in-Err-NotLegal-clause-does : goal.returns-in-Err-NotLegal-clause-does
returns-in-Err-NotLegal-clause-does g c in_doubt histories text hold is =
    done g (goal.at.returns-in-Err-NotLegal-clause-does g c).After-take_next (old-is g (goal.at.returns-in-Err-NotLegal-clause-does g c).After-index_mut)
    in_doubt histories text hold is (Err NotLegal)
    (λ history line replica line_is.
    subst (λ (fault : TakeFault). TakesAt c.args.issuer.now c.index_mut.result.now history c.in-Record.place line (Err fault)
    c.take_next.new.shard) c.in-Err-NotLegal.field-0-is (c.in-Err-NotLegal.ensures.taken history line replica line_is))

pub returns-in-Err-StoreFault-clause-does : goal.returns-in-Err-StoreFault-clause-does
returns-in-Err-StoreFault-clause-does g c in_doubt histories text hold is =
    done g (goal.at.returns-in-Err-StoreFault-clause-does g c).After-take_next (old-is g (goal.at.returns-in-Err-StoreFault-clause-does g c).After-index_mut)
    in_doubt histories text hold is (Err StoreFailed)
    (λ history line replica line_is.
    subst (λ (fault : TakeFault). TakesAt c.args.issuer.now c.index_mut.result.now history c.in-Record.place line (Err fault)
    c.take_next.new.shard) c.in-Err-StoreFault.field-0-is (c.in-Err-StoreFault.ensures.taken history line replica line_is))

pub returns-in-Ok-clause-kept : goal.returns-in-Ok-clause-kept
returns-in-Ok-clause-kept g c =
    let shards = c.args.shards.now.items in
    subst (λ (number : ℕ). KeepsShards c.args.issuer.now shards (Ok tt) (set shards number c.take_next.new.shard)) (sym c.from-in-Record.ensures)
    (shards-set c.args.issuer.now shards c.requires.shards c.in-Record.shard c.index_mut.result.now c.take_next.new.shard
    (old-is g (goal.at.returns-in-Ok-clause-kept g c).After-index_mut) (Ok tt) c.in-Ok.ensures.kept (λ other apart. refl))

pub returns-in-Err-NotLegal-clause-kept : goal.returns-in-Err-NotLegal-clause-kept
returns-in-Err-NotLegal-clause-kept g c =
    let shards = c.args.shards.now.items in
    let kept = subst (λ (fault : TakeFault). KeepsCall c.args.issuer.now c.index_mut.result.now (has_failed (Err fault)) c.take_next.new.shard)
    c.in-Err-NotLegal.field-0-is c.in-Err-NotLegal.ensures.kept in
    subst (λ (number : ℕ). KeepsShards c.args.issuer.now shards (Err (BadFeed c.args.number)) (set shards number c.take_next.new.shard))
    (sym c.from-in-Record.ensures)
    (shards-set c.args.issuer.now shards c.requires.shards c.in-Record.shard c.index_mut.result.now c.take_next.new.shard
    (old-is g (goal.at.returns-in-Err-NotLegal-clause-kept g c).After-index_mut) (Err (BadFeed c.args.number)) kept (λ other apart. refl))

pub returns-in-Err-StoreFault-clause-kept : goal.returns-in-Err-StoreFault-clause-kept
returns-in-Err-StoreFault-clause-kept g c =
    let shards = c.args.shards.now.items in
    let kept = subst (λ (fault : TakeFault). KeepsCall c.args.issuer.now c.index_mut.result.now (has_failed (Err fault)) c.take_next.new.shard)
    c.in-Err-StoreFault.field-0-is c.in-Err-StoreFault.ensures.kept in
    subst (λ (number : ℕ). KeepsShards c.args.issuer.now shards (Err (StoreFault c.in-Record.shard)) (set shards number c.take_next.new.shard))
    (sym c.from-in-Record.ensures)
    (shards-failed c.args.issuer.now shards c.requires.shards c.in-Record.shard c.index_mut.result.now c.take_next.new.shard
    (old-is g (goal.at.returns-in-Err-StoreFault-clause-kept g c).After-index_mut) kept)
