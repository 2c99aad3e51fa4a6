-- A crash leaves of a standby a prefix of its primary's text.
use Rattle.std.proofs.Common.{◌≡◌, ℕ, List, [], ◌∷◌, ◌++◌, take, drop, Some, inr, refl, sym, ap, ◌∙◌, append_assoc, append-nil}
use Rattle.std.proofs.Common.{⊎_elim, All}
use Rattle.std.proofs.lemmas.List.{take-append-drop}
use Rattle.std.proofs.lemmas.List.Concat.{flat_map-append}
use Rattle.std.proofs.lemmas.List.Elements.{All-nil, All-cons}
use Rattle.std.proofs.lemmas.Option.{slice_get_within}
use Rattle.std.specs.List.{slice_get, slice_set}
use Rattle.issuer_base.specs.declared.entry.Entry.{Entry}
use Rattle.issuer_setup.specs.IssuerSetup.{Setup}
use Rattle.journal_rec.specs.RecordText.{journal_text, text_of, texts_of, version_line}
use Rattle.journal_store.specs.Images.{IsImage}
use Rattle.shard_book.specs.Histories.{GoesOn}
use Rattle.shard_book.proofs.Histories.{goes-then}
use Rattle.host_loading.proofs.Places.{read-written}
use Rattle.standby_node.specs.FeedLines.{IsNext}
use Rattle.standby_node.specs.Primary.{ArePrefixes, IsPrimaryLine}
use Rattle.standby_node.specs.Standing.{IsReplicaBetween}
use Rattle.standby_node.proofs.Following.{lines-follow}
use Rattle.issuer_top.specs.Replicas.{IsFedBy, IsInDoubt, IsPrefixAndTorn, IsPrefixOfText}

-- the text of a history that goes on is that of the first one, and of the other records
text-more : (first more : List Entry) → journal_text (first ++ more) ≡ journal_text first ++ texts_of more
text-more first more =
    ap (λ (t : List ℕ). version_line ++ t) (flat_map-append text_of first more)
    ∙ sym (append_assoc version_line (texts_of first) (texts_of more))

-- a text and a prefix of its tail are a prefix of what begins with both
prefix-of : (text tail ahead whole image : List ℕ) → whole ≡ (text ++ tail) ++ ahead → IsImage text tail image
    → (more : List ℕ) × (whole ≡ image ++ more)
prefix-of text tail ahead whole image is left = (
  drop left.0 tail ++ ahead,
  is
      ∙ ap (λ (t : List ℕ). (text ++ t) ++ ahead) (sym (take-append-drop left.0 tail))
      ∙ ap (λ (t : List ℕ). t ++ ahead) (sym (append_assoc text (take left.0 tail) (drop left.0 tail)))
      ∙ append_assoc (text ++ take left.0 tail) (drop left.0 tail) ahead
      ∙ ap (λ (t : List ℕ). t ++ (drop left.0 tail ++ ahead)) (sym left.1),
)

module _ (issuer : Setup) (primary opening histories : List (List Entry))
    (fed : IsFedBy issuer primary opening histories) where
  prefixes : ArePrefixes histories primary
  prefixes = lines-follow issuer primary fed.is_primary opening histories fed.lines fed.from_primary fed.before fed.taken

  -- meanwhile
  pub meanwhile-left : (shard : ℕ) (first last theirs : List Entry) (image : List ℕ)
      → slice_get histories shard ≡ Some last → slice_get primary shard ≡ Some theirs
      → IsReplicaBetween issuer shard first last image → IsPrefixAndTorn issuer shard theirs image
  meanwhile-left shard first last theirs image last_is theirs_is left = record {
    first = left.between;
    on = goes-then left.between last theirs left.to_last (prefixes.each shard last theirs last_is theirs_is);
    image_is = left.image_is;
  }

  -- the primary has the record of the shard's next line as its own next one
  next-goes : (shard : ℕ) (last theirs : List Entry) (line : List ℕ) (entry : Entry)
      → slice_get histories shard ≡ Some last → slice_get primary shard ≡ Some theirs → IsPrimaryLine primary line
      → IsNext issuer histories line shard last entry → GoesOn (last ++ entry ∷ []) theirs
  next-goes shard last theirs line entry last_is theirs_is its next =
      let after = slice_set histories shard (last ++ entry ∷ []) in
      let more = lines-follow issuer primary fed.is_primary histories after (line ∷ [])
      (All-cons (IsPrimaryLine primary) line [] its (All-nil (IsPrimaryLine primary))) prefixes
      (after, inr (record { shard = shard; history = last; entry = entry; next = next; after_is = refl }), refl) in
      more.each shard (last ++ entry ∷ []) theirs
      (read-written histories shard (last ++ entry ∷ []) (slice_get_within histories shard last last_is)) theirs_is

  -- after the run
  pub after-left : (shard : ℕ) (last theirs : List Entry) (tail image : List ℕ)
      → slice_get histories shard ≡ Some last → slice_get primary shard ≡ Some theirs
      → IsInDoubt issuer primary histories shard last tail → IsImage (journal_text last) tail image
      → IsPrefixOfText theirs image
  after-left shard last theirs tail image last_is theirs_is doubt left =
      ⊎_elim
      (λ none.
      let on = prefixes.each shard last theirs last_is theirs_is in
      prefix-of (journal_text last) tail (texts_of on.0) (journal_text theirs) image
      (ap journal_text on.1 ∙ text-more last on.0
      ∙ ap (λ (t : List ℕ). t ++ texts_of on.0)
      (sym (append-nil (journal_text last)) ∙ ap (λ (t : List ℕ). journal_text last ++ t) (sym none)))
      left)
      (λ some.
      let entry = some.1 in
      let on = next-goes shard last theirs some.0 entry last_is theirs_is some.2 some.3 in
      prefix-of (journal_text last) tail (texts_of on.0) (journal_text theirs) image
      (ap journal_text on.1 ∙ text-more (last ++ entry ∷ []) on.0
      ∙ ap (λ (t : List ℕ). t ++ texts_of on.0)
      (text-more last (entry ∷ [])
      ∙ ap (λ (t : List ℕ). journal_text last ++ t) (append-nil (text_of entry) ∙ sym some.4)))
      left)
      doubt
