-- A decision is a valid successor if its request passes the check, its card is the shard's, and the row accepts it.
use Rattle.std.proofs.Common.{◌≡◌, ◌↔◌, ◌%◌, Bool, true, false, List, ap, sym, subst, ◌∙◌, Ok, IsTrue}
use Rattle.issuer_base.specs.declared.entry.Entry.{Entry}
use Rattle.issuer_base.specs.declared.entry.Entry.TheVariants.{Decided}
use Rattle.issuer_base.specs.declared.request.Request.{Request}
use Rattle.card_history.specs.declared.decision.Asked.TheVariants.{Decide}
use Rattle.card_history.specs.LegalRecords.{IsLegalDecision}
use Rattle.card_history.specs.Records.{card_of}
use Rattle.line_checks.specs.AtHand.{IsCardAtHand}
use Rattle.line_checks.specs.Reading.{checked}
use Rattle.shard_book.specs.ShardRows.{RowsStandFor}
use Rattle.shard_book.specs.Steps.{Accepts}
use Rattle.shard_book.specs.Versions.{grounds_in, window_in}
use Rattle.shard_book.proofs.Adopted.{checked-own, card-at_home, decision-follows, decision-legal, home-found}
use Rattle.shard_book.proofs.LegalNext.{card-found}
use Rattle.shard_book.proofs.rows.Rows.accept_decision.Goals.{After-accept_checked}
use Rattle.shard_book.proofs.rows.Rows.accept_decision.Goals as goal

pub accept_checked-requires-clause-home : goal.accept_checked-requires-clause-home
accept_checked-requires-clause-home c =
    home-found c.args.issuer.now c.args.self.now c.requires.rows (card_of c.in-Ok.found.request) c.in-Ok.found.card c.in-Ok.ensures.at_hand.card_is.number_is
    (sym c.shard_of.ensures.number ∙ c.if-shard_of-shard.false ∙ c.shard.ensures)

-- it is one where the row says so
decides : (c : After-accept_checked) (says : Bool) → Accepts (window_in c.args.version) c.args.self.now c.in-Ok.found c.args.reply.now says
    → (history : List Entry) → RowsStandFor c.args.issuer.now c.args.self.now history
    → (IsTrue says
    ↔ IsLegalDecision (grounds_in c.args.version c.args.issuer.now) c.args.self.now.shard history c.args.sought.now.request c.args.reply.now)
decides c says accepts history stands =
    let issuer = c.args.issuer.now in
    let found = c.in-Ok.found in
    let asked : Request = found.request in
    let shard = c.args.self.now.shard in
    let at_hand = c.in-Ok.ensures.at_hand in
    let passes : checked issuer c.args.sought.now.request ≡ Ok (Decide asked) = sym c.in-Ok.ensures.request in
    let own : asked ≡ c.args.sought.now.request = checked-own issuer c.args.sought.now.request asked passes in
    let right : checked issuer asked ≡ Ok (Decide asked) = subst (λ (r : Request). checked issuer r ≡ Ok (Decide asked)) (sym own) passes in
    let card = card-found issuer (card_of asked) found.card at_hand.card_is in
    let its : found.card % issuer.shards ≡ shard = sym c.shard_of.ensures.number ∙ c.if-shard_of-shard.false ∙ c.shard.ensures in
    let home = card-at_home issuer c.args.self.now c.requires.rows (card_of asked) found.card at_hand.card_is.number_is its in
    let accepted = accepts issuer card.card history stands card.known (sym card.named) in
    subst (λ (r : Request). IsTrue says ↔ IsLegalDecision (grounds_in c.args.version issuer) shard history r c.args.reply.now) own (
      λ taken.
          decision-legal c.args.version issuer shard history asked c.args.reply.now found.card card.card found.keys at_hand.card_is.number_is
          card.known.card_is at_hand.keys_are home right (accepted.0 taken),
      λ legal.
          accepted.1 (decision-follows c.args.version issuer shard history asked c.args.reply.now found.card card.card found.keys
          at_hand.card_is.number_is card.known.card_is at_hand.keys_are legal),
    )

pub returns-in_default-accept_checked-clause-exact : goal.returns-in_default-accept_checked-clause-exact
returns-in_default-accept_checked-clause-exact c =
    decides (goal.at.returns-in_default-accept_checked-clause-exact c).After-accept_checked false c.in_default-accept_checked.ensures.exact

pub returns-clause-exact : goal.returns-clause-exact
returns-clause-exact c = decides (goal.at.returns-clause-exact c).After-accept_checked true c.in-Some.ensures.exact

pub returns-clause-accepted : goal.returns-clause-accepted
returns-clause-accepted c =
    let issuer = c.args.issuer.now in
    let found = c.in-Ok.found in
    let asked : Request = found.request in
    let at_hand = c.in-Ok.ensures.at_hand in
    let own : asked ≡ c.args.sought.now.request = checked-own issuer c.args.sought.now.request asked (sym c.in-Ok.ensures.request) in
    record {
      record_is = ap (λ (request : Request). Decided request c.args.reply.now) own;
      ready = (
        home-found issuer c.args.self.now c.requires.rows (card_of asked) found.card at_hand.card_is.number_is
            (sym c.shard_of.ensures.number ∙ c.if-shard_of-shard.false ∙ c.shard.ensures),
        c.in-Some.ensures.launch,
      );
      card_is = subst (λ (request : Request). IsCardAtHand issuer (card_of request) found.card) own at_hand.card_is;
    }
