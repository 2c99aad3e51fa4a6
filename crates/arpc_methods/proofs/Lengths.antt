-- How long the ARPCs and the values of tag 91 are.
use Rattle.std.proofs.Common.{◌≡◌, ℕ, ◌≤◌, List, [], ◌∷◌, ◌++◌, length, suc, replicate, refl, sym, ap, ◌∙◌, arith, length-take}
use Rattle.std.proofs.lemmas.List.{length-append, length-take-le}
use Rattle.issuer_base.specs.declared.answer.Method.{Method}
use Rattle.issuer_base.specs.declared.answer.Method.TheVariants.{One, Two}
use Rattle.issuer_base.specs.declared.request.Suite.{Suite}
use Rattle.issuer_base.specs.declared.request.Suite.TheVariants.{TripleDes, Aes}
use Rattle.des_block.specs.Cipher.{tdes_encipher}
use Rattle.des_block.proofs.Laws.{length-des_encipher}
use Rattle.retail_mac.proofs.Blocks.{length-retail_mac}
use Rattle.aes_cipher.specs.Cipher.{xor_bytes, sub_bytes, shift_rows, state_of, last_round, ciphered, aes_encipher}
use Rattle.aes_cipher.specs.Mac.{chained, cmac}
use Rattle.aes_cipher.proofs.Laws.{length-aes_encipher}
use Rattle.key_derive.specs.SuiteMac.{mac_of}
use Rattle.key_derive.proofs.MacLengths.{length-mac_of}
use Rattle.arpc_methods.specs.Arpc.{eight_of, method1, method2, value91}

-- ---- under a key of sixteen bytes

length-eight_of : (suite : Suite) (sk block : List ℕ) → length sk ≡ 16 → length (eight_of suite sk block) ≡ 8
unfolding tdes_encipher
length-eight_of TripleDes sk block key = length-des_encipher _ _
length-eight_of Aes sk block key =
    let whole : List ℕ = block ++ replicate 8 0 in
    length-take-le 8 (aes_encipher sk whole) (omega (arith, length-aes_encipher sk whole key))

-- method 1 gives eight bytes
pub length-method1 : (suite : Suite) (sk ac arc : List ℕ) → length sk ≡ 16 → length (method1 suite sk ac arc) ≡ 8
unfolding method1
length-method1 suite sk ac arc key = length-eight_of suite sk _ key

-- method 2 gives four bytes
pub length-method2 : (suite : Suite) (sk ac csu : List ℕ) → length sk ≡ 16 → length (method2 suite sk ac csu) ≡ 4
unfolding method2
length-method2 suite sk ac csu key = length-take-le 4 (mac_of suite sk (ac ++ csu)) (omega (arith, length-mac_of suite sk (ac ++ csu) key))

-- tag 91 of method 1 has ten bytes
pub length-value91-One : (suite : Suite) (sk ac arc csu : List ℕ) → length sk ≡ 16 → length arc ≡ 2 → length (value91 suite One sk ac arc csu) ≡ 10
unfolding value91
length-value91-One suite sk ac arc csu key two =
    omega (arith, length-append (method1 suite sk ac arc) arc, length-method1 suite sk ac arc key)

-- tag 91 of method 2 has eight bytes
pub length-value91-Two : (suite : Suite) (sk ac arc csu : List ℕ) → length sk ≡ 16 → length csu ≡ 4 → length (value91 suite Two sk ac arc csu) ≡ 8
unfolding value91
length-value91-Two suite sk ac arc csu key four =
    omega (arith, length-append (method2 suite sk ac csu) csu, length-method2 suite sk ac csu key)

-- so tag 91 has at most ten bytes
pub length-value91 : (suite : Suite) (method : Method) (sk ac arc csu : List ℕ) → length sk ≡ 16 → length arc ≡ 2 → length csu ≡ 4
    → length (value91 suite method sk ac arc csu) ≤ 10
length-value91 suite One sk ac arc csu key two four = omega (arith, length-value91-One suite sk ac arc csu key two)
length-value91 suite Two sk ac arc csu key two four = omega (arith, length-value91-Two suite sk ac arc csu key four)

-- ---- under a key that has a MAC of eight bytes

xor-lengths : (xs ys key : List ℕ) → length xs ≡ length ys → length (xor_bytes xs key) ≡ length (xor_bytes ys key)
unfolding xor_bytes
xor-lengths [] [] key same = refl
xor-lengths [] (y ∷ ys) key same = absurd (omega (arith, same))
xor-lengths (x ∷ xs) [] key same = absurd (omega (arith, same))
xor-lengths (x ∷ xs) (y ∷ ys) [] same = refl
xor-lengths (x ∷ xs) (y ∷ ys) (k ∷ key) same = ap suc (xor-lengths xs ys key (omega (arith, same)))

last-lengths : (first second key : List ℕ) → length (last_round first key) ≡ length (last_round second key)
unfolding last_round shift_rows state_of
last-lengths first second key = xor-lengths (shift_rows (sub_bytes first)) (shift_rows (sub_bytes second)) key refl

-- a key enciphers any two blocks to as many bytes, and any two texts have CMACs of as many
block-lengths : (key first second : List ℕ) → length (aes_encipher key first) ≡ length (aes_encipher key second)
unfolding aes_encipher ciphered
block-lengths key first second = last-lengths _ _ _

cmac-lengths : (key first second : List ℕ) → length (cmac key first) ≡ length (cmac key second)
unfolding cmac chained
cmac-lengths key first second = block-lengths key _ _

mac-lengths : (suite : Suite) (key first second : List ℕ) → length (mac_of suite key first) ≡ length (mac_of suite key second)
unfolding mac_of
mac-lengths TripleDes key first second = length-retail_mac key first ∙ sym (length-retail_mac key second)
mac-lengths Aes key first second = omega (arith, length-take 8 (cmac key first), length-take 8 (cmac key second), cmac-lengths key first second)

-- if a text has a MAC of eight bytes, method 2 gives four bytes
pub length-method2-by : (suite : Suite) (sk text ac csu : List ℕ) → length (mac_of suite sk text) ≡ 8 → length (method2 suite sk ac csu) ≡ 4
unfolding method2
length-method2-by suite sk text ac csu eight =
    length-take-le 4 (mac_of suite sk (ac ++ csu)) (omega (arith, eight, mac-lengths suite sk text (ac ++ csu)))
