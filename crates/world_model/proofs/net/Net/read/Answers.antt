-- A request that passes its check is the one that was checked.
use Rattle.std.proofs.Common.{rules, ◌≡◌, Result, Ok, Err, Some, ap, sym, ◌∙◌}
use Rattle.std.proofs.lemmas.Option.{same_Some}
use Rattle.std.specs.Result.{result_ok, result_map_both}
use Rattle.issuer_base.specs.declared.answer.Refusal.{Refusal}
use Rattle.issuer_base.specs.declared.request.Request.{Request}
use Rattle.card_history.specs.declared.decision.Asked.{Asked}
use Rattle.card_history.specs.declared.decision.Asked.TheVariants.{Decide}
use Rattle.line_checks.specs.declared.checked.CheckedRequest.{CheckedRequest}
use Rattle.line_checks.specs.Reading.{checked}
use Rattle.shard_book.proofs.Adopted.{checked-own}
use Rattle.world_model.proofs.net.Net.read.Goals as goal

asked-of : (result : Result CheckedRequest Refusal) (found : CheckedRequest) (asked : Result Asked Refusal) → result_ok result ≡ Some found
    → result_map_both (λ (given : CheckedRequest). Decide given.request) (λ (refusal : Refusal). refusal) result ≡ asked
    → asked ≡ Ok (Decide found.request)
asked-of (Ok given) found asked is maps = sym maps ∙ ap (λ (it : CheckedRequest). Ok (Decide it.request)) (same_Some _ _ is)
asked-of (Err refusal) found asked is maps = absurd cc

pub returns : goal.returns
returns c =
    let issuer = c.args.self.now.issuer in
    let request : Request = c.in_ok-request.request in
    let found : Request = c.in_ok-found.found.request in
    let passes : checked issuer request ≡ Ok (Decide found) =
    asked-of c.check_request.result c.in_ok-found.found (checked issuer request) (sym c.ok-2.ensures.value ∙ c.in_ok-found.was)
    c.check_request.ensures.request in
    let same : found ≡ request = checked-own issuer request found passes in
    (search rules, ap (checked issuer) same ∙ passes)
