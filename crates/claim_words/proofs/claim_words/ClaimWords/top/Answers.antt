-- A seat may read any card's top, which is at least each ATC that the seat knows of.
use Rattle.std.proofs.Common.{rules, arith, ap, ◌∙◌, sym, subst, length, Option, ℕ}
use Rattle.claim_words.specs.ClaimViews.{after_top}
use Rattle.claim_words.specs.Seats.{IsTopFor}
use Rattle.claim_words.proofs.KeepsClaims.{tops_allowed, after_top-names, still_named, told-top}
use Rattle.claim_words.proofs.WordPlaces.{top-within}
use Rattle.claim_words.proofs.claim_words.ClaimWords.top.Goals as goal

pub load-found-requires : goal.load-found-requires
load-found-requires c =
    let within = top-within c.args.self.now.table.shared.key.cards c.args.card c.requires.card in
    (search rules, omega (arith, within), rw c.top_word.ensures (tops_allowed _ _ _ _ c.args.card c.args.seat.now.named))

pub invariant_of-seat : goal.invariant_of-seat
invariant_of-seat c =
    let told = c.load-found.ensures.2.2 c.args.card c.top_word.ensures in
    record {
      slotless = ap length c.load-found.ensures.2.0 ∙ c.args.seat.now.slotless;
      named = still_named _ _ (ap (λ v. v.names) told.0 ∙ after_top-names _ c.args.card _) c.args.seat.now.named;
    }

pub returns-clause-view : goal.returns-clause-view
returns-clause-view c =
    let told = c.load-found.ensures.2.2 c.args.card c.top_word.ensures in
    told.0 ∙ ap (λ (answer : Option ℕ). after_top c.args.card answer c.args.seat.now.seat.me.0) (sym c.told.ensures)

pub returns-clause-top : goal.returns-clause-top
returns-clause-top c =
    let told = c.load-found.ensures.2.2 c.args.card c.top_word.ensures in
    subst (IsTopFor c.args.seat.now.seat.me.0 c.args.card) (sym c.told.ensures) (told-top c.args.seat.now.seat.me.0 c.args.card c.load-found.result told.1)
