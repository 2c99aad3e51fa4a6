-- The laws of a stream.
use Rattle.standby_node.proofs.Streams.{first-bad, stream-bad, stream-one}
use Rattle.standby_node.proofs.laws.a_stream_does_one_thing.Goals as goal

pub returns-clause-one : goal.returns-clause-one
returns-clause-one c issuer opening histories others stream = stream-one issuer opening histories others stream

pub returns-clause-not_bad : goal.returns-clause-not_bad
returns-clause-not_bad c issuer opening histories others stream = stream-bad issuer opening histories others stream

pub returns-clause-first : goal.returns-clause-first
returns-clause-first c issuer = first-bad issuer
