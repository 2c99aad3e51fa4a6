-- The commands of a queue that fit into one issuer script template: EMV 4.3 Book 3, section 10.10.
use Rattle.std.specs.Prelude.{List, [], ◌∷◌, map, filter, nat_le, None}
use Rattle.std.specs.List.{last_or}
use Rattle.std.specs.Option.{unwrap_or}
use Rattle.issuer_base.specs.declared.command.Command.{Command}
use Rattle.issuer_base.specs.declared.limits.TheConstants.{MAX_TEMPLATE_BYTES}
use Rattle.issuer_base.specs.ScriptTemplate.{template_size}

-- the prefixes of a list of commands, from the empty one to the whole list
abbrev pub fronts : List Command → List (List Command)
fronts [] = [] ∷ []
fronts (command ∷ commands) = [] ∷ map (λ front. command ∷ front) (fronts commands)

-- the longest prefix of the commands whose template is within the limit
unfoldable pub fitting_front : List Command → List Command
fitting_front commands =
    unwrap_or (last_or None (filter (λ front. nat_le (template_size front) MAX_TEMPLATE_BYTES) (fronts commands))) []
