-- What a contract sees of a value of the code.
use Rattle.std.specs.Prelude.{ℕ, ◌<◌, List}
use Rattle.std.specs.Borrow.{Bor}
use Rattle.arrayvec.specs.ArrayVec.{ArrayVec}
use Rattle.bridge_rule.specs.declared.limits.TheConstants.{LOGS, INDEX_END}
use Rattle.bridge_rule.specs.declared.record.Placed.{Placed}

-- two parts of a line
abbrev pub cut_view : Bor (List ℕ) × Bor (List ℕ) → List ℕ × List ℕ
cut_view parts = (parts.0.now, parts.1.now)

-- the bytes of a name or a text
abbrev pub name_items : ArrayVec ℕ → List ℕ
name_items name = name.items

-- a record is of one of the logs, and its index is in range
abbrev pub IsPlaced : Placed → Type 0
IsPlaced one = (one.shard < LOGS) × (one.index < INDEX_END)
