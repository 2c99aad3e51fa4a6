-- Eight bytes that are pushed one by one are the word's, big-endian.
use Rattle.retail_mac.proofs.Blocks.{eight_pushed}
use Rattle.retail_mac.proofs.append.Goals as goal

pub returns : goal.returns
returns c =
    eight_pushed c.args.out.now.items c.to_be_bytes.result c.push.new.self.items c.push-2.new.self.items c.push-3.new.self.items c.push-4.new.self.items
    c.push-5.new.self.items c.push-6.new.self.items c.push-7.new.self.items c.push-8.new.self.items c.args.word c.to_be_bytes.ensures
    c.push.ensures.items c.push-2.ensures.items c.push-3.ensures.items c.push-4.ensures.items
    c.push-5.ensures.items c.push-6.ensures.items c.push-7.ensures.items c.push-8.ensures.items
