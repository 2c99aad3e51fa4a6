-- The slot of the card and of the index of its key set has the card's master keys; no index or no keys of the suite, no keys.
use Rattle.std.proofs.Common.{◌<◌, length, sym, ◌∙◌}
use Rattle.issuer_base.specs.ChipData.{dki, suite_of}
use Rattle.issuer_setup.proofs.KeptKeysLemmas.{kept-within, is-slot, no-keys, no-keys_of_suite}
use Rattle.issuer_setup.proofs.issuer.Issuer.key_slot.Goals as goal

pub returns-in_err-place : goal.returns-in_err-place
returns-in_err-place c =
    let searched = rw c.dki.ensures at c.place_of.ensures in
    rw (c.from_residual.ensures, ← c.self.view_is) (
    no-keys (suite_of c.args.request.now) c.self.inside.keys c.self.inside.cards c.args.card (dki c.args.request.now)
    (sym searched ∙ c.in_err-place.was))

pub returns-then-not-has_suite : goal.returns-then-not-has_suite
returns-then-not-has_suite c =
    let searched = rw c.dki.ensures at c.place_of.ensures in
    let told = rw c.suite-suite.ensures at c.has_suite.ensures in
    let below : c.args.card < length c.self.inside.cards = rw (← c.self.view_is) at c.requires in
    rw (← c.self.view_is) (
    no-keys_of_suite (suite_of c.args.request.now) c.self.inside.keys c.self.inside.cards c.args.card (dki c.args.request.now)
    c.in_ok-place.place c.has_suite.result below (sym searched ∙ c.in_ok-place.was) told c.if-not-has_suite.true)

pub slot-requires : goal.slot-requires
slot-requires c =
    let searched = rw c.dki.ensures at c.place_of.ensures in
    let below : c.args.card < length c.self.inside.cards = rw (← c.self.view_is) at c.requires in
    kept-within c.self.inside.keys c.self.inside.cards c.self.inside.kept c.args.card (dki c.args.request.now) c.in_ok-place.place
    c.self.invariant below (sym searched ∙ c.in_ok-place.was)

pub returns : goal.returns
returns c =
    let searched = rw c.dki.ensures at c.place_of.ensures in
    let told = rw c.suite-suite.ensures at c.has_suite.ensures in
    let below : c.args.card < length c.self.inside.cards = rw (← c.self.view_is) at c.requires in
    rw (← c.self.view_is) (
    is-slot c.self.inside.shards c.self.inside.keys c.self.inside.cards c.self.inside.table c.self.inside.kept c.args.card c.args.request.now
    c.in_ok-place.place c.has_suite.result c.slot.result c.self.invariant below (sym searched ∙ c.in_ok-place.was) told c.if-not-has_suite.false
    c.slot.ensures.index (c.slot.ensures.suite ∙ c.suite-suite.ensures))
