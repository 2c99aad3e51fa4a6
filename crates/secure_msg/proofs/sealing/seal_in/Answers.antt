-- The MAC of the chain and the command as it is sent is appended to it, and is the next chain.
use Rattle.std.proofs.Common.{◌≡◌, ◌++◌, [], length, ap, ap₂, ◌∙◌, arith}
use Rattle.key_derive.specs.SuiteMac.{mac_of}
use Rattle.secure_msg.specs.Sealing.{command_mac, sealed_command}
use Rattle.secure_msg.proofs.sealing.seal_in.Goals as goal

pub unwrap-requires : goal.unwrap-requires
unwrap-requires c = c.try_extend_from_slice.ensures.variant.1 (omega (arith, ap length c.sent-sealed.ensures.exact))

pub returns-clause-next : goal.returns-clause-next
unfolding command_mac
returns-clause-next c = λ suite key is.
    c.take-mac.ensures.mac suite key _ (c.update-2.ensures suite key _ (c.update.ensures suite key [] is))
    ∙ ap (λ sent. mac_of suite key (c.args.chain.now ++ sent)) (c.as_slice.ensures.value ∙ c.sent-sealed.ensures.exact)

pub returns-clause-sealed : goal.returns-clause-sealed
unfolding sealed_command
returns-clause-sealed c = λ suite key is.
    let ok : c.try_extend_from_slice.new.self.items ≡ c.sent-sealed.result.items ++ c.take-mac.result =
    rw c.unwrap.ensures at c.try_extend_from_slice.ensures.ok in
    ok ∙ ap₂ (λ sent mac. sent ++ mac) c.sent-sealed.ensures.exact (returns-clause-next c suite key is)

pub returns-clause-again : goal.returns-clause-again
returns-clause-again c = λ suite key is. c.take-mac.ensures.again suite key _ (c.update-2.ensures suite key _ (c.update.ensures suite key [] is))
