-- What parsing a line as a record returns.
use Rattle.std.proofs.Common.{◌≡◌, List, ℕ, [], ◌∷◌, ◌++◌, Option, Some, None, Result, Ok, option_map, refl, sym, ap, ◌∙◌}
use Rattle.std.proofs.lemmas.List.{append-nil, same_from_push}
use Rattle.std.specs.Option.{ok_or}
use Rattle.std.specs.Prelude.{◌↔◌}
use Rattle.issuer_base.specs.declared.entry.Entry.{Entry}
use Rattle.issuer_base.specs.declared.faults.NotEntry.{NotEntry}
use Rattle.journal_rec.specs.RecordText.{newline, text_of}
use Rattle.journal_rec.specs.Record.{IsLineOf}
use Rattle.journal_rec.specs.Reading.{entry_at}
use Rattle.journal_rec.proofs.Exact.{map_some}
use Rattle.journal_rec.proofs.Records.{exact_entry, line_of}

ok_some : (found : Option Entry) (error : NotEntry) (entry : Entry) → ok_or found error ≡ Ok entry → found ≡ Some entry
ok_some None error entry ok = absurd cc
ok_some (Some x) error entry ok = cc

-- a line reads as a record exactly where it is the record's
pub reads_line : (line left : List ℕ) (found : Option Entry) (error : NotEntry) (result : Result Entry NotEntry)
    → option_map (λ (entry : Entry). (entry, left)) found ≡ entry_at line → result ≡ ok_or found error
    → (entry : Entry) → (result ≡ Ok entry) ↔ IsLineOf entry line
unfolding text_of
reads_line line left found error result read answer entry = (
  λ ok.
      let some : found ≡ Some entry = ok_some found error entry (sym answer ∙ ok) in
      let at : entry_at line ≡ Some (entry, left) = sym read ∙ ap (option_map (λ (entry : Entry). (entry, left))) some in
      let taken = exact_entry.takes line entry left at in
      let whole : line ≡ line_of entry = taken.1 ∙ ap (λ (l : List ℕ). line_of entry ++ l) taken.2 ∙ append-nil (line_of entry) in
      (taken.0, ap (λ (l : List ℕ). l ++ newline ∷ []) (sym whole)),
  λ is_line.
      let whole : line_of entry ≡ line = (same_from_push (line_of entry) line newline newline is_line.1).0 in
      let again : entry_at line ≡ Some (entry, []) =
      ap entry_at (sym whole ∙ sym (append-nil (line_of entry))) ∙ exact_entry.again entry [] is_line.0 refl in
      let value = map_some found (λ (entry : Entry). (entry, left)) (entry, []) (read ∙ again) in
      let same : value.0 ≡ entry = ap (λ (p : Entry × List ℕ). p.0) value.2 in
      answer ∙ ap (λ (o : Option Entry). ok_or o error) (value.1 ∙ ap Some same),
)
