-- One more line with what was looked up for it.
use Rattle.std.proofs.Common.{◌≡◌, ℕ, List, [], ◌∷◌, ◌++◌, ap, sym, subst, arith}
use Rattle.std.proofs.lemmas.Slice.Zip.{AllZip-long, all_zipped_more}
use Rattle.std.specs.List.{AllZip}
use Rattle.standby_node.specs.declared.line.ReadLine.{ReadLine}
use Rattle.line_reader.specs.Lines.{ended}
use Rattle.standby_node.specs.KeptTexts.{HaveTexts}
use Rattle.standby_node.specs.ReadLines.{IsReady}
use Rattle.line_reader.specs.KeptLines.{KeptLines}
use Rattle.standby_node.proofs.Packing.{have-push}
use Rattle.standby_node.proofs.feed_lines.FeedLines.add.Goals as goal

pub returns-clause-ready : goal.returns-clause-ready
returns-clause-ready c =
    let issuer = c.args.issuer.now in
    let lines : List ReadLine = c.args.self.now.lines.items in
    subst (λ (lines : List ReadLine). AllZip (IsReady issuer) lines c.push_reserved.new.self.items) (sym c.push_reserved-2.ensures.items)
    (subst (AllZip (IsReady issuer) (lines ++ c.args.line ∷ [])) (sym c.push_reserved.ensures.items)
    (all_zipped_more (IsReady issuer) lines c.args.self.now.found.items c.args.line c.look_up_line.result c.requires.ready c.look_up_line.ensures))

pub push_reserved-requires : goal.push_reserved-requires
push_reserved-requires c =
    let old = c.args.self.now in
    omega (arith, AllZip-long (IsReady c.args.issuer.now) old.lines.items old.found.items c.requires.ready, c.requires.room, old.room_found)

pub invariant_of-self-clause-have_texts : goal.invariant_of-self-clause-have_texts
invariant_of-self-clause-have_texts c =
    let old = c.args.self.now in
    let lines : List ReadLine = old.lines.items in
    let texts : List (List ℕ) = old.record_texts.lines in
    let text : List ℕ = ended c.args.text.now in
    let texts_are : c.add_ended.new.self.lines ≡ texts ++ text ∷ [] = ap (λ (kept : KeptLines). kept.lines) c.add_ended.ensures in
    subst (λ (lines : List ReadLine). HaveTexts lines c.add_ended.new.self.lines) (sym c.push_reserved-2.ensures.items)
    (subst (HaveTexts (lines ++ c.args.line ∷ [])) (sym texts_are)
    (have-push lines texts c.args.line text old.each old.have_texts c.requires.text.0))
