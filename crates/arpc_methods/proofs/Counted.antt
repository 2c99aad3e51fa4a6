-- How many answers a batch has.
use Rattle.std.proofs.Common.{◌≡◌, ℕ, ◌+◌, ◌<◌, List, ◌∷◌, ◌≤◌, length, drop, get_or, Option, None, Some, refl, ap, ap₂, ◌∙◌, arith}
use Rattle.std.proofs.lemmas.List.{drop_all, drop_more, length_push}
use Rattle.arpc_methods.specs.declared.ahead.AnswerParts.{AnswerParts}
use Rattle.arpc_methods.specs.Batch.{Batch, blank, with_answer, count_of, answers_at}

-- one more index
pub length-with_answer : (answer : Option AnswerParts) (batch : Batch) → length (with_answer answer batch).answers ≡ length batch.answers + 1
length-with_answer (Some parts) batch = length_push batch.answers parts
length-with_answer None batch = length_push batch.answers blank

-- and one more answer, or none
pub count-with_answer : (answer : Option AnswerParts) (batch : Batch) → (with_answer answer batch).count ≡ batch.count + count_of answer
count-with_answer (Some parts) batch = refl
count-with_answer None batch = omega arith

-- those from an index on are that at the index and those after it
pub answers-more : {A B : Type 0} (answer : A → B → Option AnswerParts) (xs : List A) (ys : List B) (i : ℕ) (x : A) (y : B) → i < length xs → i < length ys
    → answers_at answer (drop i xs) (drop i ys) ≡ count_of (answer (get_or xs i x) (get_or ys i y)) + answers_at answer (drop (i + 1) xs) (drop (i + 1) ys)
answers-more answer xs ys i x y within within-too =
    ap (λ zs. answers_at answer zs (drop i ys)) (drop_more xs i x within)
    ∙ ap (answers_at answer (get_or xs i x ∷ drop (i + 1) xs)) (drop_more ys i y within-too)

-- so is one more answer, and those that are left
pub counts-more : {A B : Type 0} (answer : A → B → Option AnswerParts) (xs : List A) (ys : List B) (i : ℕ) (x : A) (y : B) (old new : Batch) (total : ℕ)
    → i < length xs → i < length ys → x ≡ get_or xs i x → y ≡ get_or ys i y → new ≡ with_answer (answer x y) old
    → old.count + answers_at answer (drop i xs) (drop i ys) ≡ total → new.count + answers_at answer (drop (i + 1) xs) (drop (i + 1) ys) ≡ total
counts-more answer xs ys i x y old new total within within-too x_is y_is new_is before =
    let more = answers-more answer xs ys i x y within within-too in
    let one : count_of (answer x y) ≡ count_of (answer (get_or xs i x) (get_or ys i y)) = ap₂ (λ a b. count_of (answer a b)) x_is y_is in
    let counted : new.count ≡ old.count + count_of (answer x y) = ap (λ (batch : Batch). batch.count) new_is ∙ count-with_answer (answer x y) old in
    omega (arith, more, one, counted, before)

-- none is left at the end
pub answers-none : {A B : Type 0} (answer : A → B → Option AnswerParts) (xs : List A) (ys : List B) (i : ℕ) → length xs ≤ i
    → answers_at answer (drop i xs) (drop i ys) ≡ 0
answers-none answer xs ys i past = ap (λ zs. answers_at answer zs (drop i ys)) (drop_all i xs past)
