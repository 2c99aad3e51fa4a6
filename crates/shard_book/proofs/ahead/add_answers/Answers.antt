-- A record and what was looked up for it stand at the same index.
use Rattle.std.proofs.Common.{◌≡◌, ◌<◌, ℕ, List, Result, length, get_or, slice_get, Some, subst, sym, ap, ◌∙◌, arith}
use Rattle.std.specs.Option.{option_map}
use Rattle.std.proofs.lemmas.Option.{get_or_from_slice_get}
use Rattle.std.proofs.lemmas.Slice.Zip.{AllZip-long}
use Rattle.arpc_methods.specs.Batch.{Batch, answers_at}
use Rattle.arpc_methods.proofs.Counted.{answers-none, counts-more, length-with_answer}
use Rattle.issuer_base.specs.declared.answer.Refusal.{Refusal}
use Rattle.issuer_base.specs.declared.entry.Entry.{Entry}
use Rattle.line_checks.specs.declared.looked_up.LookedUp.{LookedUp}
use Rattle.line_checks.proofs.Again.{zip-at}
use Rattle.shard_book.specs.Answers.{answer_of}
use Rattle.shard_book.specs.ReadAhead.{IsLookedUp}
use Rattle.shard_book.proofs.ahead.add_answers.Goals as goal

pub bounds-entries-index : goal.bounds-entries-index
bounds-entries-index c =
    omega (arith, AllZip-long (IsLookedUp c.args.issuer.now) c.args.entries.now c.args.found.now c.requires, c.len-index-end.ensures.count)

pub add_answer-requires-clause-found : goal.add_answer-requires-clause-found
add_answer-requires-clause-found c =
    let issuer = c.args.issuer.now in
    let entries : List Entry = c.args.entries.now in
    let found : List (Result LookedUp Refusal) = c.args.found.now in
    let index : ℕ = c.loop-index.index in
    let entry : Entry = c.index-entries-index.result in
    let one : Result LookedUp Refusal = c.unwrap.result.now in
    let there : slice_get found index ≡ Some one = sym c.get.ensures ∙ ap (option_map (λ one. one.now)) c.unwrap.ensures in
    let below : index < length entries = omega (
      arith,
      AllZip-long (IsLookedUp issuer) entries found c.requires,
      c.len-index-end.ensures.count,
      c.loop-index-test.true,
    ) in
    subst (IsLookedUp issuer entry) (get_or_from_slice_get found index one one there)
    (subst (λ (entry : Entry). IsLookedUp issuer entry (get_or found index one)) (sym c.index-entries-index.is)
    (zip-at (IsLookedUp issuer) entries found index entry one c.requires below))

pub loop-index-preserved : goal.loop-index-preserved
loop-index-preserved c =
    let issuer = c.args.issuer.now in
    let entries : List Entry = c.args.entries.now in
    let found : List (Result LookedUp Refusal) = c.args.found.now in
    let index : ℕ = c.loop-index.index in
    let entry : Entry = c.index-entries-index.result in
    let one : Result LookedUp Refusal = c.unwrap.result.now in
    let there : slice_get found index ≡ Some one = sym c.get.ensures ∙ ap (option_map (λ one. one.now)) c.unwrap.ensures in
    let long = AllZip-long (IsLookedUp issuer) entries found c.requires in
    let count = c.len-index-end.ensures.count in
    let below : index < length found = omega (arith, count, c.loop-index-test.true) in
    let new = c.add_answer.new.batch in
    let longer = ap (λ (batch : Batch). length batch.answers) c.add_answer.ensures ∙ length-with_answer (answer_of issuer entry one) c.loop-index.batch in
    record {
      all = omega (arith, longer, c.loop-index.invariant.all);
      count =
          counts-more (answer_of issuer) entries found index entry one c.loop-index.batch new (answers_at (answer_of issuer) entries found)
          (omega (arith, long, below)) below c.index-entries-index.is (sym (get_or_from_slice_get found index one one there)) c.add_answer.ensures
          c.loop-index.invariant.count;
    }

pub returns-clause-all : goal.returns-clause-all
returns-clause-all c =
    omega (
      arith,
      AllZip-long (IsLookedUp c.args.issuer.now) c.args.entries.now c.args.found.now c.requires,
      c.len-index-end.ensures.count,
      c.loop-index.invariant.all,
    )

pub returns-clause-count : goal.returns-clause-count
returns-clause-count c =
    let entries : List Entry = c.args.entries.now in
    let found : List (Result LookedUp Refusal) = c.args.found.now in
    let long = AllZip-long (IsLookedUp c.args.issuer.now) entries found c.requires in
    let none = answers-none (answer_of c.args.issuer.now) entries found c.loop-index.index
    (omega (arith, long, c.len-index-end.ensures.count, c.loop-index-test.false)) in
    omega (arith, none, c.loop-index.invariant.count)
