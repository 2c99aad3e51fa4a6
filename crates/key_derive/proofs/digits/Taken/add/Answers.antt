-- Sixteen collected digits stay the first sixteen, whatever follows.
use Rattle.key_derive.proofs.Taking.{take-full}
use Rattle.key_derive.proofs.digits.Taken.add.Goals as goal

pub returns-else-self-lt16 : goal.returns-else-self-lt16
returns-else-self-lt16 c = take-full c.self.inside.count c.self.inside.digits c.args.self.now c.args.digit c.if-self-lt16.false c.self.told c.self.view_is
