-- A whole line that isn't too long is taken.
use Rattle.std.proofs.Common.{◌≡◌, ℕ, List, Err, inl, sym, subst, ◌∙◌}
use Rattle.std.proofs.lemmas.Bool.{eqb-false, eqb-true}
use Rattle.feed_text.specs.declared.limits.TheConstants.{MOST_FEED_BYTES}
use Rattle.standby_node.specs.declared.line.FeedFault.TheVariants.{BadFeed}
use Rattle.standby_node.proofs.OneLine.{DoesTo, line-bad}
use Rattle.standby_node.proofs.Pieces.{full-long, short-whole}
use Rattle.standby_node.proofs.standby.Standby.end_line.Goals as goal

pub returns-then-is_full-clause-does : goal.returns-then-is_full-clause-does
returns-then-is_full-clause-does g c in_doubt histories line hold kept =
    let number = c.saturating_add-self.result in
    let shards = c.args.self.now.shards.items in
    let full = eqb-true _ MOST_FEED_BYTES (sym c.is_full.ensures.value ∙ c.if-is_full.true) in
    subst (λ (n : ℕ). DoesTo c.args.issuer.now in_doubt histories shards line n (Err (BadFeed number)) shards) c.saturating_add-self.ensures
    (line-bad c.args.issuer.now shards c.requires in_doubt histories hold line number
    (inl (full-long line c.args.self.now.line.items kept full)))

pub returns-clause-does : goal.returns-clause-does
returns-clause-does g c in_doubt histories line hold kept =
    let shards = c.args.self.now.shards.items in
    let new = c.take_line-taken.new.shards.items in
    let short = eqb-false _ MOST_FEED_BYTES (sym c.is_full.ensures.value ∙ c.if-is_full.false) in
    let whole : c.as_slice.result.now ≡ line = c.as_slice.ensures.value ∙ short-whole line c.args.self.now.line.items kept short in
    subst (λ (n : ℕ). DoesTo c.args.issuer.now in_doubt histories shards line n c.take_line-taken.result new) c.saturating_add-self.ensures
    (subst (λ (line : List ℕ). DoesTo c.args.issuer.now in_doubt histories shards line c.saturating_add-self.result c.take_line-taken.result new) whole
    (c.take_line-taken.ensures.does in_doubt histories hold))
