-- A refused card is the first that isn't valid; after another, the map has one number more.
use Rattle.std.proofs.Common.{◌<◌, ◌≤◌, length, take, sym, subst, ap, ◌∙◌, inl, inr, is_some, arith, take_all}
use Rattle.std.proofs.lemmas.Bool.{eqb-true, eqb-false}
use Rattle.issuer_setup.specs.CardIds.{AreNumbersOf}
use Rattle.issuer_setup.specs.CardList.{name_of}
use Rattle.issuer_setup.proofs.CardIdLemmas.{numbers-at, numbers-more}
use Rattle.issuer_setup.proofs.CardListLemmas.{bad_card-unsized, bad_card-here, bad_card-all, first_bad-more}
use Rattle.issuer_setup.proofs.CardListLemmas.{may_follow-decimal, may_follow-repeated, may_follow-from}
use Rattle.issuer_setup.proofs.cards.number_by_name.Goals as goal
use Rattle.issuer_setup.proofs.cards.number_by_name.Goals.{then-is_empty-via-then-is_empty, then-is_empty-via-else-is_empty+then-cards-gt-MAX_CARDS}

pub returns-then-is_empty-clause-refused : goal.returns-then-is_empty-clause-refused
returns-then-is_empty-clause-refused c =
    bad_card-unsized c.args.cards.now (elim c.then-is_empty.branch [
      | then-is_empty-via-then-is_empty w ↦ inl (eqb-true _ _ (sym c.is_empty.ensures ∙ w.if-is_empty.true))
      | then-is_empty-via-else-is_empty+then-cards-gt-MAX_CARDS w ↦ inr w.if-cards-gt-MAX_CARDS.true
    ])

pub returns-then-not-is_decimal-clause-refused : goal.returns-then-not-is_decimal-clause-refused
returns-then-not-is_decimal-clause-refused c =
    let some = eqb-false (length c.args.cards.now) 0 (sym c.is_empty.ensures ∙ c.if-is_empty.false) in
    let few = c.if-cards-gt-MAX_CARDS.false in
    let below : c.loop-index.index < length c.args.cards.now = c.loop-index-test.true in
    bad_card-here c.args.cards.now c.loop-index.index c.index-cards-index.result (omega arith) few c.loop-index.invariant.rest below c.index-cards-index.is
    (may_follow-decimal _ c.index-cards-index.result (sym c.is_decimal.ensures ∙ c.if-not-is_decimal.true))

pub returns-in-Ok-Some-clause-refused : goal.returns-in-Ok-Some-clause-refused
returns-in-Ok-Some-clause-refused c =
    let some = eqb-false (length c.args.cards.now) 0 (sym c.is_empty.ensures ∙ c.if-is_empty.false) in
    let few = c.if-cards-gt-MAX_CARDS.false in
    let below : c.loop-index.index < length c.args.cards.now = c.loop-index-test.true in
    let before = take c.loop-index.index c.args.cards.now in
    let known = numbers-at before c.loop-index.numbers (name_of c.index-cards-index.result) c.new.result c.in-Ok-Some.field-0 c.loop-index.invariant.found
    c.new.ensures.valid c.new.ensures.id c.in-Ok-Some.ensures.old in
    bad_card-here c.args.cards.now c.loop-index.index c.index-cards-index.result (omega arith) few c.loop-index.invariant.rest below c.index-cards-index.is
    (may_follow-repeated before c.index-cards-index.result (known ∙ ap is_some c.in-Ok-Some.field-0-is))

pub loop-index-preserved : goal.loop-index-preserved
loop-index-preserved c =
    let below : c.loop-index.index < length c.args.cards.now = c.loop-index-test.true in
    let before = take c.loop-index.index c.args.cards.now in
    let unknown = numbers-at before c.loop-index.numbers (name_of c.index-cards-index.result) c.new.result c.in-Ok-None.field-0 c.loop-index.invariant.found
    c.new.ensures.valid c.new.ensures.id c.in-Ok-None.ensures.old in
    let good = may_follow-from before c.index-cards-index.result (sym c.is_decimal.ensures ∙ c.if-not-is_decimal.false)
    (unknown ∙ ap is_some c.in-Ok-None.field-0-is) in
    record {
      found = numbers-more c.args.cards.now c.loop-index.index c.index-cards-index.result c.new.result c.loop-index.numbers c.insert.new.self below
          c.index-cards-index.is c.loop-index.invariant.found c.new.ensures.valid c.new.ensures.id
          (sym c.in-Ok-None.field-0-is ∙ c.in-Ok-None.ensures.old) c.in-Ok-None.ensures.updates.0;
      rest = sym (first_bad-more c.args.cards.now c.loop-index.index c.index-cards-index.result below c.index-cards-index.is good)
          ∙ c.loop-index.invariant.rest;
    }

pub returns-clause-ok : goal.returns-clause-ok
returns-clause-ok c =
    let some = eqb-false (length c.args.cards.now) 0 (sym c.is_empty.ensures ∙ c.if-is_empty.false) in
    let few = c.if-cards-gt-MAX_CARDS.false in
    let all : length c.args.cards.now ≤ c.loop-index.index = c.loop-index-test.false in (
      bad_card-all c.args.cards.now c.loop-index.index (omega arith) few c.loop-index.invariant.rest all,
      subst (λ cards. AreNumbersOf cards c.loop-index.numbers) (take_all c.loop-index.index c.args.cards.now all) c.loop-index.invariant.found,
    )
