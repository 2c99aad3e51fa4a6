-- The texts of the records of lines.
use Rattle.std.specs.Prelude.{◌≡◌, ℕ, List, slice_get, Some}
use Rattle.issuer_base.specs.declared.entry.Entry.{Entry}
use Rattle.journal_rec.specs.RecordText.{text_of}
use Rattle.standby_node.specs.declared.line.ReadLine.{ReadLine}
use Rattle.standby_node.specs.declared.line.ReadLine.TheVariants.{Record}

-- where the line has a record, the text is its record's
abbrev pub HasText : ReadLine → List ℕ → Type 0
HasText line text = (shard place : ℕ) (entry : Entry) → line ≡ Record shard place entry → text ≡ text_of entry

-- so it is of each line
abbrev pub HaveTexts : List ReadLine → List (List ℕ) → Type 0
HaveTexts lines texts =
    (i shard place : ℕ) (entry : Entry) (text : List ℕ) → slice_get lines i ≡ Some (Record shard place entry)
    → slice_get texts i ≡ Some text → text ≡ text_of entry
