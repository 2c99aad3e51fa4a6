-- A batch that is sealed command by command, and the length of its template.
use Rattle.std.proofs.Common.{◌≡◌, ◌+◌, ◌<◌, ◌≤◌, ℕ, List, [], ◌∷◌, ◌++◌, length, drop, fold, refl, sym}
use Rattle.std.proofs.Common.{ap, ap₂, ◌∙◌, arith, length-append, append_assoc, append-nil}
use Rattle.std.proofs.lemmas.Bool.{lt-ltb}
use Rattle.std.proofs.lemmas.List.{drop_all}
use Rattle.std.proofs.lemmas.List.Concat.{flat_map-cons}
use Rattle.std.specs.List.{flat_map}
use Rattle.std.specs.Prelude.{if◌then◌else◌, nat_lt, ◌/◌, ◌%◌}
use Rattle.issuer_base.specs.declared.command.Command.{Command}
use Rattle.issuer_base.specs.declared.request.Suite.{Suite}
use Rattle.tlv_objects.specs.Writing.{object_text, length_bytes}
use Rattle.secure_msg.specs.Sealing.{sent_bytes, command_mac, sealed_command}
use Rattle.secure_msg.specs.Batch.{sealed_commands}
use Rattle.secure_msg.proofs.Opening.{length-command_mac}

pub length-sealed_command : (suite : Suite) (key chain : List ℕ) (command : Command) → length key ≡ 16
    → length (sealed_command suite key chain command) ≡ 13 + length command.body.items
unfolding sealed_command
length-sealed_command suite key chain command sixteen =
    omega (arith, length-append (sent_bytes command) (command_mac suite key chain command), length-command_mac suite key chain command sixteen)

-- a short value's length takes one byte
pub length_bytes-short : (n : ℕ) → n < 128 → length_bytes n ≡ n ∷ []
length_bytes-short n short =
    ap (λ one. if one then n ∷ [] else (if nat_lt n 256 then 129 ∷ n ∷ [] else 130 ∷ n / 256 ∷ n % 256 ∷ [])) (lt-ltb n 128 short)

-- an object with a short value
pub object-86 : (value : List ℕ) → length value < 128 → object_text 0x86 value ≡ 0x86 ∷ length value ∷ value
object-86 value short = ap (λ len. 0x86 ∷ (len ++ value)) (length_bytes-short (length value) short)

-- the objects of a batch
unfoldable pub batch_objects : Suite → List ℕ → List ℕ → List Command → List ℕ
batch_objects suite key chain commands = flat_map (object_text 0x86) (sealed_commands suite key chain commands)

pub batch_objects-cons : (suite : Suite) (key chain : List ℕ) (command : Command) (later : List Command)
    → batch_objects suite key chain (command ∷ later) ≡ object_text 0x86 (sealed_command suite key chain command) ++ batch_objects suite key
    (command_mac suite key chain command) later
unfolding batch_objects sealed_commands
batch_objects-cons suite key chain command later = flat_map-cons (object_text 0x86) (sealed_command suite key chain command) _

-- what was written of a batch, and what the commands that are left will add
pub record Writes (suite : Suite) (key start before : List ℕ) (commands : List Command) (i : ℕ) (chain value : List ℕ) : Type 0 where
  pub written : value ++ batch_objects suite key chain (drop i commands) ≡ before ++ batch_objects suite key start commands
  pub chained : fold (command_mac suite key) chain (drop i commands) ≡ fold (command_mac suite key) start commands

pub Writes-none : (suite : Suite) (key start before : List ℕ) (commands : List Command) → Writes suite key start before commands 0 start before
Writes-none suite key start before commands = record { written = refl; chained = refl }

pub Writes-more : (suite : Suite) (key start before : List ℕ) (commands : List Command) (i : ℕ) (chain value : List ℕ) (command : Command)
    (sealed next new : List ℕ)
    → Writes suite key start before commands i chain value → drop i commands ≡ command ∷ drop (i + 1) commands
    → sealed ≡ sealed_command suite key chain command → next ≡ command_mac suite key chain command → new ≡ value ++ object_text 0x86 sealed
    → Writes suite key start before commands (i + 1) next new
Writes-more suite key start before commands i chain value command sealed next new so_far left is_sealed is_next is_new =
    let later : List Command = drop (i + 1) commands in
    let first : List ℕ = object_text 0x86 (sealed_command suite key chain command) in
    record {
      written = ap₂ (λ written chain. written ++ batch_objects suite key chain later) (is_new ∙ ap (λ s. value ++ object_text 0x86 s) is_sealed) is_next
          ∙ append_assoc value first (batch_objects suite key (command_mac suite key chain command) later)
          ∙ ap (λ objects. value ++ objects) (sym (ap (batch_objects suite key chain) left ∙ batch_objects-cons suite key chain command later))
          ∙ so_far.written;
      chained = ap (λ chain. fold (command_mac suite key) chain later) is_next ∙ ap (fold (command_mac suite key) chain) (sym left) ∙ so_far.chained;
    }

pub Writes-all : (suite : Suite) (key start before : List ℕ) (commands : List Command) (i : ℕ) (chain value : List ℕ)
    → Writes suite key start before commands i chain value → length commands ≤ i
    → (value ≡ before ++ batch_objects suite key start commands) × (chain ≡ fold (command_mac suite key) start commands)
unfolding batch_objects sealed_commands
Writes-all suite key start before commands i chain value all end =
    let none : drop i commands ≡ [] = drop_all i commands end in (
      sym (ap (λ left. value ++ batch_objects suite key chain left) none ∙ append-nil value) ∙ all.written,
      sym (ap (fold (command_mac suite key) chain) none) ∙ all.chained,
    )

-- a batch in two pieces
pub batch_objects-append : (suite : Suite) (key chain : List ℕ) (front back : List Command)
    → batch_objects suite key chain (front ++ back)
    ≡ batch_objects suite key chain front ++ batch_objects suite key (fold (command_mac suite key) chain front) back
unfolding batch_objects sealed_commands
batch_objects-append suite key chain [] back = refl
batch_objects-append suite key chain (command ∷ front) back =
    let next : List ℕ = command_mac suite key chain command in
    let first : List ℕ = object_text 0x86 (sealed_command suite key chain command) in
    batch_objects-cons suite key chain command (front ++ back)
    ∙ ap (λ objects. first ++ objects) (batch_objects-append suite key next front back)
    ∙ sym (append_assoc first (batch_objects suite key next front) (batch_objects suite key (fold (command_mac suite key) next front) back))
    ∙ ap (λ objects. objects ++ batch_objects suite key (fold (command_mac suite key) next front) back)
    (sym (batch_objects-cons suite key chain command front))
