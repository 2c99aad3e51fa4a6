-- What opens was sealed, and what was sealed opens, under the same key and chain.
use Rattle.secure_msg.proofs.Opening.{opened_command-AreSealed, AreSealed-opened_command}
use Rattle.secure_msg.proofs.sealing.only_sealed_commands_open.Goals as goal

pub returns : goal.returns
returns c =
    record {
      opens = opened_command-AreSealed;
      only = λ suite key chain bytes next command eight e. AreSealed-opened_command suite key chain bytes next command e eight;
    }
