-- Which commands the host sends, and their bytes.
use Rattle.std.proofs.Common.{◌≡◌, ◌&&◌, ℕ, Bool, true, false, List, [], ◌∷◌, length, Some, None, refl, ap, ap₂, ◌∙◌, subst}
use Rattle.std.specs.Prelude.{nat_le, if◌then◌else◌}
use Rattle.std.proofs.lemmas.Bool.{le-leb, leb-true}
use Rattle.std.proofs.lemmas.Option.{cond_some}
use Rattle.issuer_base.specs.declared.command.Command.{Command}
use Rattle.issuer_base.specs.declared.limits.TheConstants.{MAX_BODY_BYTES}
use Rattle.issuer_base.specs.ScriptCommand.{is_command, command_bytes}
use Rattle.script_commands.specs.Commands.{if_allowed, command_of, AreBytesOf}

both_true : (a b : Bool) → (a && b) ≡ true → (a ≡ true) × (b ≡ true)
both_true true b e = (refl, e)
both_true false b e = (e, absurd (cc))

-- a command that is allowed, and its bytes
allowed : (given command : Command) → if_allowed given ≡ Some command → AreBytesOf (command_bytes given) command
allowed given command e =
    let both = cond_some (is_command given && nat_le (length given.body.items) MAX_BODY_BYTES) given command e in
    let tests = both_true (is_command given) (nat_le (length given.body.items) MAX_BODY_BYTES) both.0 in
    let P : Command → Type 0 = λ c. AreBytesOf (command_bytes given) c in
    subst P both.1 (record { form = tests.0; room = leb-true (length given.body.items) MAX_BODY_BYTES tests.1; spelled = refl })

-- what is read as a command are its bytes
pub command_of-Some : (bytes : List ℕ) (command : Command) → command_of bytes ≡ Some command → AreBytesOf bytes command
unfolding command_of
command_of-Some [] command e = absurd (cc)
command_of-Some (a ∷ []) command e = absurd (cc)
command_of-Some (a ∷ b ∷ []) command e = absurd (cc)
command_of-Some (a ∷ b ∷ c ∷ []) command e = absurd (cc)
command_of-Some (cla ∷ ins ∷ p1 ∷ p2 ∷ body) command e = allowed _ command e

-- the bytes of a command are read as that command
pub command_of-AreBytesOf : (bytes : List ℕ) (command : Command) → AreBytesOf bytes command → command_of bytes ≡ Some command
unfolding command_of
command_of-AreBytesOf bytes command is =
    let fits : nat_le (length command.body.items) MAX_BODY_BYTES ≡ true = le-leb (length command.body.items) MAX_BODY_BYTES is.room in
    ap command_of is.spelled ∙ ap₂ (λ form room. if form && room then Some command else None) is.form fits
