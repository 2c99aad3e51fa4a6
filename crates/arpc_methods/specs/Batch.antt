-- Answers whose issuer authentication data are made together.
use Rattle.std.specs.Prelude.{ℕ, ◌+◌, List, [], ◌∷◌, ◌++◌, Option, None, Some, replicate}
use Rattle.issuer_base.specs.declared.answer.Method.TheVariants.{One}
use Rattle.arpc_methods.specs.declared.ahead.AnswerParts.{AnswerParts}

-- answers by their indices, with zeros at an index without one; how many there are; and for how many indices, from the
-- first on, the data are made
pub record Batch : Type 0 where
  pub answers : List AnswerParts
  pub count : ℕ
  pub made : ℕ

-- no answers
abbrev pub no_answers : Batch
no_answers = record {
  answers = [];
  count = 0;
  made = 0;
}

-- what stands at an index without an answer
abbrev pub blank : AnswerParts
blank = record {
  method = One;
  key = record { 0 = replicate 16 0 };
  ac = replicate 8 0;
  arc = replicate 2 0;
  csu = replicate 4 0;
}

-- the batch, and at the next index this answer or none
abbrev pub with_answer : Option AnswerParts → Batch → Batch
with_answer (Some parts) batch = record {
  answers = batch.answers ++ parts ∷ [];
  count = batch.count + 1;
  made = batch.made;
}
with_answer None batch = record {
  answers = batch.answers ++ blank ∷ [];
  count = batch.count;
  made = batch.made;
}

-- how many answers this is
abbrev pub count_of : Option AnswerParts → ℕ
count_of (Some parts) = 1
count_of None = 0

-- how many answers there are for two lists, by what stands at each index
abbrev pub answers_at : {A B : Type 0} → (A → B → Option AnswerParts) → List A → List B → ℕ
answers_at answer (x ∷ xs) (y ∷ ys) = count_of (answer x y) + answers_at answer xs ys
answers_at answer xs ys = 0
