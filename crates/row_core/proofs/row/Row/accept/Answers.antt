-- A decision that isn't below the window, on an unused ATC, is a valid successor exactly if the issuer makes its reply.
use Rattle.std.proofs.Common.{◌≡◌, ◌↔◌, ℕ, Bool, List, ap, sym, subst, ◌∙◌, IsTrue}
use Rattle.std.proofs.lemmas.Bool.{false≢true}
use Rattle.issuer_base.specs.declared.entry.Entry.{Entry}
use Rattle.issuer_base.specs.declared.request.Request.{Request}
use Rattle.card_history.specs.Records.{card_of, IsBelowBy}
use Rattle.issuer_setup.specs.declared.card.CardInfo.{CardInfo}
use Rattle.issuer_setup.specs.CardList.{name_of}
use Rattle.row_core.specs.CardRow.{StandsFor}
use Rattle.row_core.specs.Accepting.{IsValidSuccessor}
use Rattle.row_core.proofs.AcceptLemmas.{follows-made, narrower-follows}
use Rattle.row_core.proofs.row.Row.accept.Goals.{After-is_made}
use Rattle.row_core.proofs.row.Row.accept.Goals as goal

-- the row says whether it is one
decides : (c : After-is_made) (card : CardInfo) (history : List Entry) → StandsFor card c.args.self.now history → card_of c.args.request.now ≡ name_of card
    → (IsTrue c.is_made.result ↔ IsValidSuccessor c.args.window card.method c.args.keys.now history c.args.request.now c.args.reply.now)
decides c card history stands named =
    let counter : c.parts.result.now.atc ≡ c.args.request.now.atc = ap (λ (request : Request). request.atc) c.parts.ensures.same in
    let inside : IsBelowBy c.args.window c.args.self.now.hi c.args.request.now.atc → ⊥ =
    λ below. false≢true (sym c.if-is_below.false
    ∙ c.is_below.ensures.1 (subst (λ (atc : ℕ). IsBelowBy c.args.window c.args.self.now.hi atc) (sym counter) below)) in
    narrower-follows c.args.window card c.args.self.now c.args.keys.now history c.args.request.now c.args.reply.now c.is_made.result c.requires.window
    inside stands named
    (follows-made card c.args.self.now c.args.keys.now history c.args.request.now c.args.reply.now c.is_unused.result c.is_made.result
    (c.is_unused.ensures card history stands) c.is_made.ensures c.if-not-is_unused.false stands named)

pub returns-then-not-is_made-clause-exact : goal.returns-then-not-is_made-clause-exact
returns-then-not-is_made-clause-exact c card history stands named =
    subst (λ (made : Bool). IsTrue made ↔ IsValidSuccessor c.args.window card.method c.args.keys.now history c.args.request.now c.args.reply.now)
    c.if-not-is_made.true (decides (goal.at.returns-then-not-is_made-clause-exact c).After-is_made card history stands named)

pub returns-clause-exact : goal.returns-clause-exact
returns-clause-exact c card history stands named =
    subst (λ (made : Bool). IsTrue made ↔ IsValidSuccessor c.args.window card.method c.args.keys.now history c.args.request.now c.args.reply.now)
    c.if-not-is_made.false (decides (goal.at.returns-clause-exact c).After-is_made card history stands named)
