-- One more line was looked up.
use Rattle.std.proofs.Common.{◌++◌, ◌∷◌, [], sym, subst}
use Rattle.std.proofs.lemmas.Slice.Zip.{all_zipped_more}
use Rattle.std.specs.List.{AllZip}
use Rattle.clearing_check.specs.ClearingLine.{AreAhead, IsCheckOf, IsLookUp, presented}
use Rattle.clearing_check.proofs.presented_ahead.PresentedAhead.add.Goals as goal

pub returns-clause-ahead : goal.returns-clause-ahead
returns-clause-ahead c = λ lines are.
    let issuer = c.args.issuer.now in
    let line = c.args.line.now in
    let items = c.self.inside.found.items in
    let found = c.look_up-found.result in
    let old = subst (AreAhead issuer lines) (sym c.self.view_is) are in
    let one = c.add_check.ensures in
    record {
      found_are =
          subst (λ all. AllZip (λ line found. IsLookUp issuer (presented issuer line) found) (lines ++ line ∷ []) all)
          (sym c.push_reserved.ensures.items)
          (all_zipped_more (λ line found. IsLookUp issuer (presented issuer line) found) lines items line found
          old.found_are c.look_up-found.ensures);
      checks_are =
          subst (λ all. AllZip (IsCheckOf issuer) all c.add_check.new.checks) (sym c.push_reserved.ensures.items)
          (subst (AllZip (IsCheckOf issuer) (items ++ found ∷ [])) (sym one.new_is)
          (all_zipped_more (IsCheckOf issuer) items c.self.inside.checks found one.last old.checks_are one.holds));
    }
