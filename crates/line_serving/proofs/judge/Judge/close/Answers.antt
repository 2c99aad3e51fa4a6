-- One more open record is put, then the totals; or the sink failed.
use Rattle.std.proofs.Common.{◌≡◌, ◌≤◌, ◌+◌, ◌++◌, ℕ, List, [], length, drop, map, take, Option, Some, MatchOption, option_map, sym, ap, ap₂, subst, ◌∙◌, add-one, arith}
use Rattle.std.proofs.lemmas.List.{length-drop, length-map, take_all}
use Rattle.std.proofs.lemmas.Option.{slice_get-map}
use Rattle.std.specs.List.{flat_map, slice_get}
use Rattle.issuer_base.specs.Sink.{AppendsFront, WritesAll}
use Rattle.desk_host.proofs.ShowSteps.{writes-err}
use Rattle.clearing_check.specs.declared.filed_records.OpenRecord.{OpenRecord}
use Rattle.clearing_check.specs.NextOpen.{IsNextOpen}
use Rattle.clearing_check.specs.Records.{opens, place_of}
use Rattle.clearing_check.specs.ClearText.{closing_text, open_text, total_text}
use Rattle.line_serving.proofs.Closing.{IsPut, drop-here, front-whole, left-some, opens-suc, put-end, put-front, put-more}
use Rattle.line_serving.proofs.judge.Judge.close.Given.{Over}
use Rattle.line_serving.proofs.judge.Judge.close.Goals.{After-put_line, After-put_line-2}
use Rattle.line_serving.proofs.judge.Judge.close.Goals as goal

-- the next open record is the one of this index, and the others come after it
record IsNext (g : Over) (c : After-put_line g) : Type 0 where
  place_is : slice_get (map place_of (opens c.args.book.now)) c.loop.counter
      ≡ Some (c.unwrap-found.result.shard, c.unwrap-found.result.place)
  rest_is : opens (drop c.unwrap-found.result.next c.args.book.now) ≡ drop (c.loop.counter + 1) (opens c.args.book.now)

next-is : (g : Over) (c : After-put_line g) → IsNext g c
next-is g c =
    let found : IsNextOpen c.args.book.now c.loop.next c.unwrap-found.result =
    subst (λ (found : Option OpenRecord). MatchOption found (opens (drop c.loop.next c.args.book.now) ≡ [])
    (IsNextOpen c.args.book.now c.loop.next)) c.unwrap-found.ensures c.next_open.ensures in
    let here = drop-here (opens c.args.book.now) c.loop.counter found.filed _
    (sym c.loop.invariant.next ∙ found.opens_are) in
    record {
      place_is = slice_get-map place_of (opens c.args.book.now) c.loop.counter ∙ ap (option_map place_of) here.0
          ∙ ap Some found.place_is;
      rest_is = sym here.1 ∙ ap (λ n. drop n (opens c.args.book.now)) (sym (add-one c.loop.counter));
    }

-- an open record is left
pub unwrap-found-requires : goal.unwrap-found-requires
unwrap-found-requires g c = left-some c.next_open.result _ _ c.next_open.ensures
    (λ none. let few = length-drop c.loop.counter (opens c.args.book.now) in
    let empty = ap length (sym c.loop.invariant.next ∙ none) in
    omega (arith, few, empty, c.loop-test.true, c.open_count-end.ensures))

-- all open records were put, and the totals follow
closing-is : (g : Over) (c : After-put_line-2 g)
    → flat_map open_text (take c.loop.counter (map place_of (opens c.args.book.now))) ++ c.write_total.new.out.items
    ≡ closing_text c.args.book.now
closing-is g c =
    let places = map place_of (opens c.args.book.now) in
    let all : length places ≤ c.loop.counter =
    omega (arith, length-map (opens c.args.book.now) place_of, c.loop-test.false, c.open_count-end.ensures) in
    ap₂ (λ (l m : List ℕ). l ++ m) (ap (flat_map open_text) (take_all c.loop.counter places all))
    (c.write_total.ensures.text ∙ ap₂ total_text c.certified_count.ensures c.open_count.ensures)

pub returns-in_err-put_line-clause-written : goal.returns-in_err-put_line-clause-written
returns-in_err-put_line-clause-written g c =
    let before = (goal.at.returns-in_err-put_line-clause-written g c).After-put_line in
    let places = map place_of (opens c.args.book.now) in
    writes-err _ _ c.from_residual.result _ c.from_residual.ensures.0
    (front-whole places c.loop.counter (c.unwrap-found.result.shard, c.unwrap-found.result.place) _ _ _ (next-is g before).place_is
    (subst (λ (l : List ℕ). AppendsFront (g.W.Sink.held c.args.out.now) (g.W.Sink.held c.put_line.new.out)
    (flat_map open_text (take c.loop.counter places) ++ l)) c.write_open.ensures.text
    (put-front _ _ _ _ _ c.loop.invariant.put _ c.in_err-put_line.ensures.put)))

pub loop-preserved : goal.loop-preserved
loop-preserved g c =
    let before = (goal.at.loop-preserved g c).After-put_line in
    let places = map place_of (opens c.args.book.now) in
    record {
      put = subst (IsPut (g.W.Sink.held c.args.out.now) (g.W.Sink.held c.put_line.new.out) c.put_line.new.self.block.text.items)
          (ap (λ l. flat_map open_text (take c.loop.counter places) ++ l) c.write_open.ensures.text
          ∙ sym (opens-suc places c.loop.counter (c.unwrap-found.result.shard, c.unwrap-found.result.place) (next-is g before).place_is))
          (put-more _ _ _ _ _ c.loop.invariant.put _ _ c.in_ok-put_line.ensures.put);
      next = (next-is g before).rest_is;
      few = c.put_line.ensures.lines;
      stood = c.in_ok-put_line.ensures.count.counted ∙ c.loop.invariant.stood;
    }

pub returns-in_err-put_line-2-clause-written : goal.returns-in_err-put_line-2-clause-written
returns-in_err-put_line-2-clause-written g c =
    let before = (goal.at.returns-in_err-put_line-2-clause-written g c).After-put_line-2 in
    writes-err _ _ c.from_residual-in_err-put_line-2.result _ c.from_residual-in_err-put_line-2.ensures.0
    (subst (AppendsFront (g.W.Sink.held c.args.out.now) (g.W.Sink.held c.put_line-2.new.out)) (closing-is g before)
    (put-front _ _ _ _ _ c.loop.invariant.put _ c.in_err-put_line-2.ensures.put))

pub returns-clause-written : goal.returns-clause-written
returns-clause-written g c =
    let before = (goal.at.returns-clause-written g c).After-put_line-2 in
    subst (WritesAll (g.W.Sink.held c.args.out.now) (g.W.Sink.held c.write.new.out) c.write.result) (closing-is g before)
    (put-end _ _ _ _ _
    (put-more _ _ _ _ _ c.loop.invariant.put _ _ c.in_ok-put_line-2.ensures.put) c.write.result c.write.ensures.written)
