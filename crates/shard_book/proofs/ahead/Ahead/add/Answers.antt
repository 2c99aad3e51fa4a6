-- One more record with what was looked up for it.
use Rattle.std.proofs.Common.{List, [], ◌∷◌, ◌++◌, Result, sym, subst}
use Rattle.std.proofs.lemmas.Slice.Zip.{all_zipped_more}
use Rattle.std.specs.List.{AllZip}
use Rattle.issuer_base.specs.declared.answer.Refusal.{Refusal}
use Rattle.issuer_base.specs.declared.entry.Entry.{Entry}
use Rattle.line_checks.specs.declared.looked_up.LookedUp.{LookedUp}
use Rattle.shard_book.specs.ReadAhead.{ReadAhead, IsLookedUp}
use Rattle.shard_book.proofs.ahead.Ahead.add.Goals as goal

pub returns-clause-found : goal.returns-clause-found
returns-clause-found c its =
    let issuer = c.args.issuer.now in
    let entries : List Entry = c.self.inside.entries.items in
    let found : List (Result LookedUp Refusal) = c.self.inside.found in
    let before : AllZip (IsLookedUp issuer) entries found =
    subst (λ (ahead : ReadAhead). AllZip (IsLookedUp issuer) ahead.entries ahead.found) (sym c.self.view_is) its in
    subst (λ (entries : List Entry). AllZip (IsLookedUp issuer) entries c.add.new.self) (sym c.push_reserved.ensures.items)
    (subst (AllZip (IsLookedUp issuer) (entries ++ c.args.entry ∷ [])) (sym c.add.ensures)
    (all_zipped_more (IsLookedUp issuer) entries found c.args.entry c.look_up_record.result before c.look_up_record.ensures))
