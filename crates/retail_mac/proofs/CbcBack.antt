-- CBC and its inverse undo one another.
use Rattle.std.proofs.Common.{get_or-take, get_or-drop, ◌≡◌, ℕ, zero, suc, ◌+◌, ◌-◌, ◌*◌, ◌/◌, ◌%◌, ◌<◌, List, [], ◌∷◌, ◌++◌, length, take, drop, get_or}
use Rattle.std.proofs.Common.{bit_xor, refl, sym, ap, ap₂, ◌∙◌, subst, ⊎_elim, arith, length-append, length-drop, length-take, take-append-drop}
use Rattle.std.proofs.lemmas.List.{take_at, drop_at, take_all, get_or_past, nil_from_length}
use Rattle.std.proofs.lemmas.Nat.{xor_comm, xor_lt}
use Rattle.std.proofs.lemmas.Bool.{cases_lt}
use lib.Bits.{xor_assoc, xor_self, xor_zero_r}
use Rattle.des_block.specs.Cipher.{tdes_encipher, tdes_decipher}
use Rattle.des_block.proofs.Laws.{length-des_encipher, length-des_decipher, des_encipher_small, des_decipher_small}
use Rattle.des_block.proofs.Laws.{tdes_decipher-tdes_encipher, tdes_encipher-tdes_decipher}
use Rattle.retail_mac.specs.Mac.{padded, blocks, padded_blocks, xor_bytes, zero_block, cbc_from, cbc}
use Rattle.retail_mac.specs.Opening.{AreBytes, cbc_back, IsEnciphered}
use Rattle.retail_mac.proofs.Blocks.{length-padded, zeros_small, end_small}

-- ---- the xor of two blocks

xor_back : (x y : ℕ) → bit_xor (bit_xor x y) x ≡ y
xor_back x y = ap (λ z. bit_xor z x) (xor_comm x y) ∙ xor_assoc y x x ∙ ap (bit_xor y) (xor_self x) ∙ xor_zero_r y

xor_bytes_back : (xs ys : List ℕ) → length xs ≡ length ys → xor_bytes (xor_bytes xs ys) xs ≡ ys
unfolding xor_bytes
xor_bytes_back [] [] e = refl
xor_bytes_back [] (y ∷ ys) e = absurd (omega arith)
xor_bytes_back (x ∷ xs) [] e = absurd (omega arith)
xor_bytes_back (x ∷ xs) (y ∷ ys) e = ap₂ (λ b bs. b ∷ bs) (xor_back x y) (xor_bytes_back xs ys (omega arith))

xor_bytes_comm : (xs ys : List ℕ) → xor_bytes xs ys ≡ xor_bytes ys xs
unfolding xor_bytes
xor_bytes_comm [] [] = refl
xor_bytes_comm [] (y ∷ ys) = refl
xor_bytes_comm (x ∷ xs) [] = refl
xor_bytes_comm (x ∷ xs) (y ∷ ys) = ap₂ (λ b bs. b ∷ bs) (xor_comm x y) (xor_bytes_comm xs ys)

length-xor_bytes : (xs ys : List ℕ) → length xs ≡ length ys → length (xor_bytes xs ys) ≡ length xs
unfolding xor_bytes
length-xor_bytes [] ys e = refl
length-xor_bytes (x ∷ xs) [] e = absurd (omega arith)
length-xor_bytes (x ∷ xs) (y ∷ ys) e = ap suc (length-xor_bytes xs ys (omega arith))

xor_small : (xs ys : List ℕ) → AreBytes xs → AreBytes ys → AreBytes (xor_bytes xs ys)
unfolding xor_bytes
xor_small [] ys a b i = omega arith
xor_small (x ∷ xs) [] a b i = omega arith
xor_small (x ∷ xs) (y ∷ ys) a b zero = xor_lt 8 x y (a 0) (b 0)
xor_small (x ∷ xs) (y ∷ ys) a b (suc i) = xor_small xs ys (λ k. a (suc k)) (λ k. b (suc k)) i

-- ---- blocks

-- eight bytes
pub record IsBlock (block : List ℕ) : Type 0 where
  pub eight : length block ≡ 8
  pub bytes : AreBytes block

abbrev pub AreBlocks : List (List ℕ) → Type 0
AreBlocks [] = Unit {0}
AreBlocks (block ∷ rest) = IsBlock block × AreBlocks rest

-- the bytes of blocks, in order
unfoldable pub joined : List (List ℕ) → List ℕ
joined [] = []
joined (block ∷ rest) = block ++ joined rest

IsBlock-enciphered : (key block : List ℕ) → IsBlock (tdes_encipher key block)
unfolding tdes_encipher
IsBlock-enciphered key block = record { eight = length-des_encipher _ _; bytes = des_encipher_small _ _ }

IsBlock-deciphered : (key block : List ℕ) → IsBlock (tdes_decipher key block)
unfolding tdes_decipher
IsBlock-deciphered key block = record { eight = length-des_decipher _ _; bytes = des_decipher_small _ _ }

IsBlock-xor : (xs ys : List ℕ) → IsBlock xs → IsBlock ys → IsBlock (xor_bytes xs ys)
IsBlock-xor xs ys a b = record { eight = length-xor_bytes xs ys (a.eight ∙ sym b.eight) ∙ a.eight; bytes = xor_small xs ys a.bytes b.bytes }

pub IsBlock-zero : IsBlock zero_block
unfolding zero_block
IsBlock-zero = record { eight = refl; bytes = zeros_small 8 }

pub length-blocks : (n : ℕ) (text : List ℕ) → length (blocks n text) ≡ n
unfolding blocks
length-blocks zero text = refl
length-blocks (suc n) text = ap suc (length-blocks n (drop 8 text))

pub joined-blocks : (n : ℕ) (text : List ℕ) → length text ≡ 8 * n → joined (blocks n text) ≡ text
unfolding blocks joined
joined-blocks zero text e = sym (nil_from_length text (omega arith))
joined-blocks (suc n) text e =
    ap (λ rest. take 8 text ++ rest) (joined-blocks n (drop 8 text) (omega (arith, length-drop 8 text))) ∙ take-append-drop 8 text

-- a part of bytes is bytes
drop_small : (n : ℕ) (text : List ℕ) → AreBytes text → AreBytes (drop n text)
drop_small n text small i = subst (λ x. x < 256) (sym (get_or-drop n text i 0)) (small (n + i))

pub take_small : (n : ℕ) (text : List ℕ) → AreBytes text → AreBytes (take n text)
take_small n text small i =
    ⊎_elim (λ l. subst (λ x. x < 256) (sym (get_or-take n text i 0 l)) (small i))
    (λ l. subst (λ x. x < 256) (sym (get_or_past (take n text) i 0 (omega (arith, length-take n text)))) (omega arith))
    (cases_lt i n)

pub AreBlocks-blocks : (n : ℕ) (text : List ℕ) → length text ≡ 8 * n → AreBytes text → AreBlocks (blocks n text)
unfolding blocks
AreBlocks-blocks zero text e small = tt
AreBlocks-blocks (suc n) text e small = (
  record { eight = omega (arith, length-take 8 text); bytes = take_small 8 text small },
  AreBlocks-blocks n (drop 8 text) (omega (arith, length-drop 8 text)) (drop_small 8 text small),
)

-- ---- CBC and back

cbc_back-cbc_from : (key before : List ℕ) (bs : List (List ℕ)) → IsBlock before → AreBlocks bs
    → cbc_back key before (blocks (length bs) (cbc_from key before bs)) ≡ joined bs
unfolding blocks joined cbc_from cbc_back
cbc_back-cbc_from key before [] is are = refl
cbc_back-cbc_from key before (b ∷ bs) is are =
    let mixed : List ℕ = xor_bytes before b in
    let next : List ℕ = tdes_encipher key mixed in
    let tail : List ℕ = cbc_from key next bs in
    let whole : IsBlock next = IsBlock-enciphered key mixed in
    let block : IsBlock mixed = IsBlock-xor before b is are.0 in
    let opened : xor_bytes (tdes_decipher key next) before ≡ b =
    ap (λ m. xor_bytes m before) (tdes_decipher-tdes_encipher key mixed block.eight block.bytes)
    ∙ xor_bytes_back before b (is.eight ∙ sym are.0.eight) in
    ap₂ (λ c others. xor_bytes (tdes_decipher key c) before ++ cbc_back key c (blocks (length bs) others)) (take_at next tail 8 whole.eight)
    (drop_at next tail 8 whole.eight)
    ∙ ap₂ (λ x xs. x ++ xs) opened (cbc_back-cbc_from key next bs whole are.1)

cbc_from-cbc_back : (key before : List ℕ) (cs : List (List ℕ)) → IsBlock before → AreBlocks cs
    → cbc_from key before (blocks (length cs) (cbc_back key before cs)) ≡ joined cs
unfolding blocks joined cbc_from cbc_back
cbc_from-cbc_back key before [] is are = refl
cbc_from-cbc_back key before (c ∷ cs) is are =
    let bare : List ℕ = tdes_decipher key c in
    let plain : List ℕ = xor_bytes bare before in
    let tail : List ℕ = cbc_back key c cs in
    let whole : IsBlock bare = IsBlock-deciphered key c in
    let block : IsBlock plain = IsBlock-xor bare before whole is in
    let again : xor_bytes before plain ≡ bare =
    xor_bytes_comm before plain ∙ ap (λ m. xor_bytes m before) (xor_bytes_comm bare before)
    ∙ xor_bytes_back before bare (is.eight ∙ sym whole.eight) in
    let enciphered : tdes_encipher key (xor_bytes before plain) ≡ c =
    ap (tdes_encipher key) again ∙ tdes_encipher-tdes_decipher key c are.0.eight are.0.bytes in
    ap₂ (λ b others. tdes_encipher key (xor_bytes before b) ++ cbc_from key (tdes_encipher key (xor_bytes before b)) (blocks (length cs) others))
    (take_at plain tail 8 block.eight) (drop_at plain tail 8 block.eight)
    ∙ ap (λ next. next ++ cbc_from key next (blocks (length cs) tail)) enciphered
    ∙ ap (λ rest. c ++ rest) (cbc_from-cbc_back key c cs are.0 are.1)

length-cbc_from : (key before : List ℕ) (bs : List (List ℕ)) → length (cbc_from key before bs) ≡ 8 * length bs
unfolding cbc_from
length-cbc_from key before [] = refl
length-cbc_from key before (b ∷ bs) =
    let next : List ℕ = tdes_encipher key (xor_bytes before b) in
    let whole : IsBlock next = IsBlock-enciphered key (xor_bytes before b) in
    omega (arith, length-append next (cbc_from key next bs), whole.eight, length-cbc_from key next bs)

length-cbc_back : (key before : List ℕ) (cs : List (List ℕ)) → IsBlock before → AreBlocks cs → length (cbc_back key before cs) ≡ 8 * length cs
unfolding cbc_back
length-cbc_back key before [] is are = refl
length-cbc_back key before (c ∷ cs) is are =
    let plain : List ℕ = xor_bytes (tdes_decipher key c) before in
    let block : IsBlock plain = IsBlock-xor (tdes_decipher key c) before (IsBlock-deciphered key c) is in
    omega (arith, length-append plain (cbc_back key c cs), block.eight, length-cbc_back key c cs are.0 are.1)

append_small : (xs ys : List ℕ) → AreBytes xs → AreBytes ys → AreBytes (xs ++ ys)
append_small [] ys a b i = b i
append_small (x ∷ xs) ys a b zero = a 0
append_small (x ∷ xs) ys a b (suc i) = append_small xs ys (λ k. a (suc k)) b i

cbc_back_small : (key before : List ℕ) (cs : List (List ℕ)) → IsBlock before → AreBlocks cs → AreBytes (cbc_back key before cs)
unfolding cbc_back
cbc_back_small key before [] is are = λ i. omega arith
cbc_back_small key before (c ∷ cs) is are =
    let block : IsBlock (xor_bytes (tdes_decipher key c) before) = IsBlock-xor (tdes_decipher key c) before (IsBlock-deciphered key c) is in
    append_small (xor_bytes (tdes_decipher key c) before) (cbc_back key c cs) block.bytes (cbc_back_small key c cs are.0 are.1)

-- ---- a whole text

-- an enciphered text has the whole blocks of the padded message
pub length-cbc : (key message : List ℕ) → length (cbc key message) ≡ 8 * (length message / 8) + 8
unfolding cbc padded_blocks
length-cbc key message =
    omega (arith, length-cbc_from key zero_block (blocks (length message / 8 + 1) (padded message)), length-blocks (length message / 8 + 1) (padded message))

-- where the deciphered text is a padded message, the text is this message, enciphered
pub opened_right : (key text plain : List ℕ) (len : ℕ) → AreBytes text → length text % 8 ≡ 0
    → plain ≡ cbc_back key zero_block (blocks (length text / 8) text) → plain ≡ padded (take len plain) → IsEnciphered key (take len plain) text
unfolding cbc padded_blocks
opened_right key text plain len small whole plain_is is_padded =
    let n : ℕ = length text / 8 in
    let cs : List (List ℕ) = blocks n text in
    let message : List ℕ = take len plain in
    let are : AreBlocks cs = AreBlocks-blocks n text (omega arith) small in
    let count : length cs ≡ n = length-blocks n text in
    let long : length plain ≡ 8 * n = ap length plain_is ∙ length-cbc_back key zero_block cs IsBlock-zero are ∙ ap (λ k. 8 * k) count in
    let more : length message / 8 + 1 ≡ length cs = omega (arith, ap length is_padded, length-padded message, long, count) in
    let plain_small : AreBytes plain = subst AreBytes (sym plain_is) (cbc_back_small key zero_block cs IsBlock-zero are) in
    record {
      bytes = take_small len plain plain_small;
      text_is = sym (ap₂ (λ k p. cbc_from key zero_block (blocks k p)) more (sym is_padded ∙ plain_is)
          ∙ cbc_from-cbc_back key zero_block cs IsBlock-zero are ∙ joined-blocks n text (omega arith));
    }

-- an enciphered message is deciphered to the padded message
pub opened_whole : (key message text plain : List ℕ) → IsEnciphered key message text
    → plain ≡ cbc_back key zero_block (blocks (length text / 8) text) → plain ≡ padded message
unfolding cbc padded_blocks padded
opened_whole key message text plain is plain_is =
    let n : ℕ = length message / 8 + 1 in
    let bs : List (List ℕ) = blocks n (padded message) in
    let long : length (padded message) ≡ 8 * n = omega (arith, length-padded message) in
    let are : AreBlocks bs = AreBlocks-blocks n (padded message) long (end_small message (7 - length message % 8) is.bytes) in
    let count : length text / 8 ≡ length bs = omega (arith, ap length is.text_is, length-cbc key message, length-blocks n (padded message)) in
    plain_is ∙ ap₂ (λ k t. cbc_back key zero_block (blocks k t)) count is.text_is
    ∙ cbc_back-cbc_from key zero_block bs IsBlock-zero are ∙ joined-blocks n (padded message) long

pub length-opened : (key text plain : List ℕ) → AreBytes text → length text % 8 ≡ 0
    → plain ≡ cbc_back key zero_block (blocks (length text / 8) text) → length plain ≡ length text
length-opened key text plain small whole plain_is =
    let n : ℕ = length text / 8 in
    let are : AreBlocks (blocks n text) = AreBlocks-blocks n text (omega arith) small in
    omega (arith, ap length plain_is, length-cbc_back key zero_block (blocks n text) IsBlock-zero are, length-blocks n text)

-- an enciphered text has whole blocks
pub whole_blocks : (key message text : List ℕ) → IsEnciphered key message text → length text % 8 ≡ 0
whole_blocks key message text is = omega (arith, ap length is.text_is, length-cbc key message)
