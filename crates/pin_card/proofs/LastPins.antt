-- The last PIN that commands set.
use Rattle.std.proofs.Common.{◌≡◌, ℕ, List, [], ◌∷◌, ◌++◌, Option, Some, None, ◌↔◌, refl, ap, ◌∙◌, append_assoc}
use Rattle.std.specs.Prelude.{is_some, if◌then◌else◌}
use Rattle.std.proofs.lemmas.Option.{none-some}
use Rattle.std.proofs.lemmas.List.Elements.{All-push, All-nil}
use Rattle.issuer_base.specs.declared.command.Command.{Command}
use Rattle.secure_msg.specs.PinChange.{SetsPin}
use Rattle.pin_card.specs.LastPin.{IsLastPin}

-- one command more, which sets a PIN
pub last-set : (smc : List ℕ) (commands : List Command) (command : Command) (pin : List ℕ) → SetsPin smc command pin
    → IsLastPin smc (commands ++ command ∷ []) (Some pin)
last-set smc commands command pin sets = record {
  earlier = commands;
  command = command;
  later = [];
  commands_are = refl;
  sets = sets;
  none_later = All-nil (λ later. (other : List ℕ) → SetsPin smc later other → ⊥);
}

-- or sets none
pub last-kept : (smc : List ℕ) (commands : List Command) (command : Command) (last : Option (List ℕ))
    → ((pin : List ℕ) → SetsPin smc command pin → ⊥) → IsLastPin smc commands last → IsLastPin smc (commands ++ command ∷ []) last
last-kept smc commands command None none is = All-push (λ other. (pin : List ℕ) → SetsPin smc other pin → ⊥) commands command is none
last-kept smc commands command (Some pin) none is = record {
  earlier = is.earlier;
  command = is.command;
  later = is.later ++ command ∷ [];
  commands_are = ap (λ all. all ++ command ∷ []) is.commands_are ∙ append_assoc is.earlier (is.command ∷ is.later) (command ∷ []);
  sets = is.sets;
  none_later = All-push (λ other. (pin : List ℕ) → SetsPin smc other pin → ⊥) is.later command is.none_later none;
}

-- one command more that was read: if it sets a PIN this is the last, else the last one stays
pub last-more : (smc : List ℕ) (commands : List Command) (command : Command) (last read : Option (List ℕ))
    → ((pin : List ℕ) → (read ≡ Some pin) ↔ SetsPin smc command pin) → IsLastPin smc commands last
    → IsLastPin smc (commands ++ command ∷ []) (if is_some read then read else last)
last-more smc commands command last (Some pin) exact is = last-set smc commands command pin ((exact pin).0 refl)
last-more smc commands command last None exact is = last-kept smc commands command last (λ pin sets. none-some pin ((exact pin).1 sets)) is
