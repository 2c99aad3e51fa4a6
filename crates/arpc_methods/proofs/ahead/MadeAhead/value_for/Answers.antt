-- By either method it is made of the block.
use Rattle.std.proofs.Common.{◌≡◌, ◌∙◌, ◌++◌, length, take, rules, ap, sym}
use Rattle.issuer_base.specs.declared.request.Suite.TheVariants.{TripleDes}
use Rattle.arpc_methods.specs.Ahead.{arpc_block}
use Rattle.arpc_methods.specs.Arpc.{value91}
use Rattle.arpc_methods.proofs.ArpcBlocks.{value91-One, value91-Two}
use Rattle.arpc_methods.proofs.ahead.MadeAhead.value_for.Goals as goal

pub returns-in-One-clause-value : goal.returns-in-One-clause-value
returns-in-One-clause-value c =
    let parts = c.args.parts.now in
    let suite : c.args.suite ≡ TripleDes = search rules in
    let same : c.args.self.now.parts ≡ parts = search rules in
    let made : c.args.self.now.block ≡ arpc_block parts = c.args.self.now.made ∙ ap arpc_block same in
    c.joined.ensures ∙ ap (λ block. block ++ parts.arc) made ∙ sym (value91-One parts c.in-One.is)
    ∙ sym (ap (λ suite. value91 suite parts.method parts.key.0 parts.ac parts.arc parts.csu) suite)

pub returns-in-Two-clause-value : goal.returns-in-Two-clause-value
returns-in-Two-clause-value c =
    let parts = c.args.parts.now in
    let suite : c.args.suite ≡ TripleDes = search rules in
    let same : c.args.self.now.parts ≡ parts = search rules in
    let made : c.args.self.now.block ≡ arpc_block parts = c.args.self.now.made ∙ ap arpc_block same in
    let eight : length parts.ac ≡ 8 = search rules in
    let four : length parts.csu ≡ 4 = search rules in
    c.joined-in-Two.ensures ∙ ap (λ block. take 4 block ++ parts.csu) made ∙ sym (value91-Two parts c.in-Two.is eight four)
    ∙ sym (ap (λ suite. value91 suite parts.method parts.key.0 parts.ac parts.arc parts.csu) suite)
