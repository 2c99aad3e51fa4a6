-- As many bytes are kept as fit.
use Rattle.std.proofs.Common.{◌≡◌, ◌∙◌, ◌++◌, rules, take}
use Rattle.feed_text.specs.declared.limits.TheConstants.{MOST_FEED_BYTES}
use Rattle.standby_node.proofs.Pieces.{kept-more}
use Rattle.standby_node.proofs.standby.Standby.keep.Goals as goal

pub returns-clause-line : goal.returns-clause-line
returns-clause-line g c line is =
    let added : c.try_extend_from_slice.new.self.items ≡ c.args.self.now.line.items ++ take c.min-count.result c.args.bytes.now = search rules in
    added ∙ kept-more MOST_FEED_BYTES c.min-count.result c.remaining_capacity.result line c.args.bytes.now c.args.self.now.line.items is
    c.remaining_capacity.ensures c.min-count.ensures
