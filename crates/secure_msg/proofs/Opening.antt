-- What sealed bytes open to.
use Rattle.std.proofs.Common.{◌≡◌, ◌-◌, ℕ, Bool, true, List, ◌∷◌, ◌++◌, length, take, Option, Some, None, refl, sym, ap}
use Rattle.std.proofs.Common.{◌∙◌, subst, arith, length-append}
use Rattle.std.specs.Prelude.{if◌then◌else◌}
use Rattle.std.specs.Str.{bytes_eq}
use Rattle.std.specs.Option.{is_some}
use Rattle.std.proofs.lemmas.Bool.{false≢true}
use Rattle.issuer_base.specs.declared.command.Command.{Command}
use Rattle.issuer_base.specs.declared.request.Suite.{Suite}
use Rattle.script_commands.specs.Commands.{command_of, AreBytesOf}
use Rattle.secure_msg.specs.Sealing.{command_mac, sealed_command, unsealed_bytes, if_sealed, opened_command, AreSealed}
use Rattle.script_commands.proofs.Forms.{command_of-Some, command_of-AreBytesOf}
use Rattle.std.proofs.lemmas.Slice.Eq.{bytes_eq-Decides}
use Rattle.std.proofs.lemmas.Option.{cond_some}
use Rattle.std.proofs.lemmas.List.{take_at}
use Rattle.issuer_base.specs.ScriptCommand.{command_bytes}
use Rattle.key_derive.proofs.MacLengths.{length-mac_of}

-- bytes that are no command open to nothing
pub opened_command-no_command : (suite : Suite) (key chain bytes : List ℕ) → command_of (unsealed_bytes bytes) ≡ None
    → opened_command suite key chain bytes ≡ None
unfolding opened_command
opened_command-no_command suite key chain bytes e = ap (if_sealed suite key chain bytes) e

-- bytes that are a command open by the comparison with what it is sealed to
pub opened_command-some : (suite : Suite) (key chain bytes : List ℕ) (command : Command) (same : Bool)
    → command_of (unsealed_bytes bytes) ≡ Some command
    → bytes_eq (sealed_command suite key chain command) bytes ≡ same
    → opened_command suite key chain bytes ≡ (if same then Some (command, command_mac suite key chain command) else None)
unfolding opened_command
opened_command-some suite key chain bytes command same e is =
    ap (if_sealed suite key chain bytes) e ∙ ap (λ b. if b then Some (command, command_mac suite key chain command) else None) is

-- the MAC of a command has eight bytes
pub length-command_mac : (suite : Suite) (key chain : List ℕ) (command : Command) → length key ≡ 16
    → length (command_mac suite key chain command) ≡ 8
unfolding command_mac
length-command_mac suite key chain command sixteen = length-mac_of suite key _ sixteen

-- without Lc and MAC a sealed command is the command's bytes
unsealed_bytes-sealed_command : (suite : Suite) (key chain : List ℕ) (command : Command)
    → length (command_mac suite key chain command) ≡ 8 → unsealed_bytes (sealed_command suite key chain command) ≡ command_bytes command
unfolding sealed_command
unsealed_bytes-sealed_command suite key chain command eight =
    let body : List ℕ = command.body.items in
    let mac : List ℕ = command_mac suite key chain command in
    let len : length (body ++ mac) - 8 ≡ length body =
    omega (arith, length-append body mac, eight) in
    let front : take (length (body ++ mac) - 8) (body ++ mac) ≡ body = ap (λ n. take n (body ++ mac)) len ∙ take_at body mac (length body) refl in
    ap (λ bytes. command.cla ∷ command.ins ∷ command.p1 ∷ command.p2 ∷ bytes) front

-- what a command is sealed to opens to it
pub opened_command-AreSealed : (suite : Suite) (key chain bytes next : List ℕ) (command : Command) → AreSealed suite key chain bytes command next
    → opened_command suite key chain bytes ≡ Some (command, next)
opened_command-AreSealed suite key chain bytes next command is =
    let eight : length (command_mac suite key chain command) ≡ 8 = ap length (sym is.chained) ∙ is.eight in
    let text : unsealed_bytes bytes ≡ command_bytes command =
    ap unsealed_bytes is.spelled ∙ unsealed_bytes-sealed_command suite key chain command eight in
    let read : command_of (unsealed_bytes bytes) ≡ Some command =
    command_of-AreBytesOf (unsealed_bytes bytes) command (record { form = is.form; room = is.room; spelled = text }) in
    let same : bytes_eq (sealed_command suite key chain command) bytes ≡ true =
    (bytes_eq-Decides (sealed_command suite key chain command) bytes).1 (sym is.spelled) in
    opened_command-some suite key chain bytes command true read same ∙ ap (λ mac. Some (command, mac)) (sym is.chained)

-- what opens is a sealed command
sealed_from : (suite : Suite) (key chain bytes next : List ℕ) (command : Command) (read : Option Command)
    → command_of (unsealed_bytes bytes) ≡ read
    → if_sealed suite key chain bytes read ≡ Some (command, next) → length next ≡ 8 → AreSealed suite key chain bytes command next
sealed_from suite key chain bytes next command None is e eight = absurd (cc)
sealed_from suite key chain bytes next command (Some given) is e eight =
    let found =
    cond_some (bytes_eq (sealed_command suite key chain given) bytes) (given, command_mac suite key chain given) (command, next) e in
    let text : AreBytesOf (unsealed_bytes bytes) given = command_of-Some (unsealed_bytes bytes) given is in
    let P : Command × List ℕ → Type 0 = λ p. AreSealed suite key chain bytes p.0 p.1 in
    subst P found.1 (record {
      form = text.form;
      room = text.room;
      spelled = sym ((bytes_eq-Decides (sealed_command suite key chain given) bytes).0 found.0);
      chained = refl;
      eight = ap (λ (pair : Command × List ℕ). length pair.1) found.1 ∙ eight;
    })

pub AreSealed-opened_command : (suite : Suite) (key chain bytes next : List ℕ) (command : Command)
    → opened_command suite key chain bytes ≡ Some (command, next) → length next ≡ 8 → AreSealed suite key chain bytes command next
unfolding opened_command
AreSealed-opened_command suite key chain bytes next command e eight =
    sealed_from suite key chain bytes next command (command_of (unsealed_bytes bytes)) refl e eight

-- where nothing opens, nothing is sealed so
pub nothing_sealed : (suite : Suite) (key chain bytes next : List ℕ) (command : Command)
    → None ≡ opened_command suite key chain bytes → ¬ AreSealed suite key chain bytes command next
nothing_sealed suite key chain bytes next command none is =
    absurd (false≢true (ap is_some (none ∙ opened_command-AreSealed suite key chain bytes next command is)))
