-- A text is parsed as its value; one that isn't parsed has none, unless memory ran out.
use Rattle.std.proofs.Common.{refl, arith}
use Rattle.config_read.proofs.JsonLemmas.{json_of-none, json_of-text}
use Rattle.config_read.proofs.json_value.read_json.Goals as goal

pub returns-in-Ok-clause-value : goal.returns-in-Ok-clause-value
returns-in-Ok-clause-value c = json_of-text c.args.bytes.now _ c.in-Ok.ensures.ok.0 c.in-Ok.ensures.ok.1

pub returns-in-Err-2-clause-none : goal.returns-in-Err-2-clause-none
returns-in-Err-2-clause-none c =
    λ _. (refl, json_of-none c.args.bytes.now (c.in-Err.ensures.err (λ memory. grind (arith, c.is_memory.ensures.1 memory))))
