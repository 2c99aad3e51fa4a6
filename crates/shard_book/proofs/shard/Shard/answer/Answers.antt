-- What is known of a request is answered as the history requires, and one of which nothing is known is decided.
use Rattle.std.proofs.Common.{◌≡◌, ◌∷◌, ◌++◌, [], List, length, refl, sym, subst}
use Rattle.issuer_base.specs.declared.answer.Reply.{Reply}
use Rattle.issuer_base.specs.declared.entry.Entry.{Entry}
use Rattle.issuer_base.specs.declared.entry.Entry.TheVariants.{Decided}
use Rattle.card_history.specs.LegalRecords.{IsLegalDecision}
use Rattle.issuer_base.specs.CardNames.{CardName}
use Rattle.card_history.specs.Records.{card_of, decided}
use Rattle.card_history.specs.Turns.{IsUnused, IsUsed, decided_for}
use Rattle.issuer_setup.specs.declared.card.CardInfo.{CardInfo}
use Rattle.issuer_setup.specs.CardList.{name_of}
use Rattle.row_core.specs.Known.{IsKnown}
use Rattle.row_core.specs.Plan.{IsNext}
use Rattle.shard_book.proofs.LegalNext.{card-found, legal-decision}
use Rattle.shard_book.specs.Grounds.{grounds_now}
use Rattle.shard_book.specs.Calls.{MayRecord}
use Rattle.shard_book.specs.Shards.{StandsFor}
use Rattle.shard_book.proofs.ShardSteps.{crash-no_call}
use Rattle.shard_book.proofs.shard.Shard.answer.Given.{Over}
use Rattle.shard_book.proofs.shard.Shard.answer.Goals.{After-decide-launch}
use Rattle.shard_book.proofs.shard.Shard.answer.Goals as goal

pub returns-in-Some-Kept-clause-answer : goal.returns-in-Some-Kept-clause-answer
returns-in-Some-Kept-clause-answer g c history stands =
    let request = c.args.found.now.request in
    let used = subst (IsKnown (decided_for request history) request) c.in-Some-Kept.field-0-is
    (c.in-Some-Kept.ensures c.args.issuer.now c.requires.at_hand history stands.rows_stand) in (
      history,
      stands,
      (
        subst
            (λ (reply : Reply). IsUsed (decided_for request history) request
            (record { request = request; reply = reply; place = c.in-Some-Kept.place }))
            (sym c.copy.ensures) used,
        c.shard-shard.ensures,
        refl,
      ),
    )

pub returns-in-Some-Below-clause-answer : goal.returns-in-Some-Below-clause-answer
returns-in-Some-Below-clause-answer g c history stands =
    let request = c.args.found.now.request in
    let known = subst (IsKnown (decided_for request history) request) c.in-Some-Below.field-0-is
    (c.in-Some-Below.ensures c.args.issuer.now c.requires.at_hand history stands.rows_stand) in
    (history, stands, (known, refl))

pub returns-in-Some-Taken-clause-answer : goal.returns-in-Some-Taken-clause-answer
returns-in-Some-Taken-clause-answer g c history stands =
    let request = c.args.found.now.request in
    let known = subst (IsKnown (decided_for request history) request) c.in-Some-Taken.field-0-is
    (c.in-Some-Taken.ensures c.args.issuer.now c.requires.at_hand history stands.rows_stand) in
    (history, stands, (known, c.shard-shard.ensures, refl))

pub returns-then-not-won-clause-answer : goal.returns-then-not-won-clause-answer
returns-then-not-won-clause-answer g c history stands =
    (history, stands, (c.if-not-won.true, c.in-None.ensures c.args.issuer.now c.requires.at_hand history stands.rows_stand, refl))

pub returns-in-Some-Kept-clause-crash : goal.returns-in-Some-Kept-clause-crash
returns-in-Some-Kept-clause-crash g c history stands = crash-no_call (grounds_now c.args.issuer.now) _ c.args.self.now.journal history stands.journal_holds

pub returns-in-Some-Below-clause-crash : goal.returns-in-Some-Below-clause-crash
returns-in-Some-Below-clause-crash g c history stands = crash-no_call (grounds_now c.args.issuer.now) _ c.args.self.now.journal history stands.journal_holds

pub returns-in-Some-Taken-clause-crash : goal.returns-in-Some-Taken-clause-crash
returns-in-Some-Taken-clause-crash g c history stands = crash-no_call (grounds_now c.args.issuer.now) _ c.args.self.now.journal history stands.journal_holds

pub returns-then-not-won-clause-crash : goal.returns-then-not-won-clause-crash
returns-then-not-won-clause-crash g c history stands = crash-no_call (grounds_now c.args.issuer.now) _ c.args.self.now.journal history stands.journal_holds

-- nothing is known of a request that is decided: its ATC is in the window and unused
unused : (g : Over) (c : After-decide-launch g) (history : List Entry) → StandsFor c.args.issuer.now c.args.self.now history
    → IsUnused (decided_for c.args.found.now.request history) c.args.found.now.request
unused g c history stands = c.in-None.ensures c.args.issuer.now c.requires.at_hand history stands.rows_stand

-- so its decision is the next one of its card
next : (g : Over) (c : After-decide-launch g) (history : List Entry) (card : CardInfo) → StandsFor c.args.issuer.now c.args.self.now history
    → name_of card ≡ card_of c.args.found.now.request
    → IsNext card history (record { request = c.args.found.now.request; reply = c.decide-launch.new.reply; place = length history })
next g c history card stands named = record {
  of_card = sym named;
  at_end = refl;
  unused = subst (λ (name : CardName). IsUnused (decided name history) c.args.found.now.request) (sym named) (unused g c history stands);
}

-- and a valid successor
legal : (g : Over) (c : After-decide-launch g) (history : List Entry) → StandsFor c.args.issuer.now c.args.self.now history
    → IsLegalDecision (grounds_now c.args.issuer.now) c.args.self.now.rows.shard history c.args.found.now.request
    c.decide-launch.new.reply
legal g c history stands =
    let found = c.args.found.now in
    legal-decision c.args.issuer.now c.args.self.now.rows c.requires.under (card_of found.request) found.card
    c.requires.at_hand.card_is c.requires.home history found.request c.decide-launch.new.reply refl c.requires.checked_is
    (unused g c history stands) (c.decide-launch.ensures.reply history stands.rows_stand)

-- so it may be recorded
may-record : (g : Over) (c : After-decide-launch g) (history : List Entry) → StandsFor c.args.issuer.now c.args.self.now history
    → MayRecord c.args.issuer.now c.args.self.now c.args.found.now c.decide-launch.new.reply history
may-record g c history stands =
    let card = card-found c.args.issuer.now (card_of c.args.found.now.request) c.args.found.now.card c.requires.at_hand.card_is in
    record {
      stands = stands;
      card = card.card;
      card_is = card.known;
      next = next g c history card.card stands card.named;
      legal = legal g c history stands;
    }

pub returns-clause-answer : goal.returns-clause-answer
returns-clause-answer g c history stands =
    let decided_here = (goal.at.returns-clause-answer g c).After-decide-launch in
    let request = c.args.found.now.request in
    let added = c.in-Ok.ensures.added c.args.issuer.now history (may-record g decided_here history stands) in (
      history ++ Decided request c.decide-launch.new.reply ∷ [],
      added.1,
      (
        c.if-not-won.false,
        (unused g decided_here history stands, c.shard-shard.ensures, added.0, c.decide-launch.ensures.reply history stands.rows_stand, refl),
      ),
    )

pub returns-in_default-clause-answer : goal.returns-in_default-clause-answer
returns-in_default-clause-answer g c history stands =
    let decided_here = (goal.at.returns-in_default-clause-answer g c).After-decide-launch in (
      history,
      c.in_default.ensures.added c.args.issuer.now history (may-record g decided_here history stands),
      (c.if-not-won.false, unused g decided_here history stands, refl),
    )

pub returns-clause-crash : goal.returns-clause-crash
returns-clause-crash g c history stands =
    c.add_decision.ensures.crash c.args.issuer.now history (may-record g (goal.at.returns-clause-crash g c).After-decide-launch history stands)

pub returns-in_default-clause-crash : goal.returns-in_default-clause-crash
returns-in_default-clause-crash g c history stands =
    c.add_decision.ensures.crash c.args.issuer.now history
    (may-record g (goal.at.returns-in_default-clause-crash g c).After-decide-launch history stands)
