-- What is written parses as the object alone.
use Rattle.tlv_objects.proofs.Written.{objects_of-object_text}
use Rattle.tlv_objects.proofs.writing.put.Goals as goal

pub returns-then-remaining_capacity-size-clause-alone : goal.returns-then-remaining_capacity-size-clause-alone
returns-then-remaining_capacity-size-clause-alone c =
    objects_of-object_text c.args.tag c.args.value.now c.requires.tag

pub returns-clause-alone : goal.returns-clause-alone
returns-clause-alone c = objects_of-object_text c.args.tag c.args.value.now c.requires.tag
