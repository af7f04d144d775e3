-- Laws of trees' words: each is made of its operands' words by one operation on words. Assumes nothing.
use Prim.Native.Nat.{ℕ, ◌-◌, ◌*◌, ◌^◌, ◌<◌}
use native.Mathlib.Omega.{arith}
use mathlib.Core.Path.{◌≡◌, sym, ap, ap₂, ◌∙◌}
use mathlib.Core.Bool.{Bool}
use mathlib.Core.List.{List, [], ◌∷◌, flat_map}
use lib.ListN.{length, get_or}
use lib.Pow.{ones_lt}
use lib.Bits.{bit_xor, bit_and, xor_lt, and_lt}
use Rattle.wire.specs.Bits.{xor_bit, Bits}
use Rattle.node.specs.declared.nodes.Node.{Node}
use Rattle.node.specs.declared.nodes.Node.TheVariants.{Zero, One, Input, Not, Xor, And}
use Rattle.node.specs.Exprs.{Expr, ZERO, ONE, INPUT, NOT, XOR, AND, value}
use Rattle.node.specs.Steps.{NextOf}
use Rattle.node.specs.Trees.{tree_of}
use Rattle.node.proofs.FilledLaws.{entry_is}
use Rattle.node.proofs.ValueLaws.{value_bit}
use Rattle.word_values.specs.WordBits.{question_count, word_bit}
use Rattle.word_values.specs.WordValues.{question, value_word}
use Rattle.word_values.proofs.WordBitLaws.{word_bit_below, zero_bit, bits_at_lem, word_is, word_below, bit_of_word, xor_word, and_word, ones_bit, not_word}

module _ (x : List ℕ) where
  -- a question is a list of bits
  pub question_bits : (k : ℕ) → Bits (question x k)
  question_bits k j h = rw (bits_at_lem k x j) (word_bit_below (get_or x j 0) k)

  module _ (e : Expr) where
    value_small : (k : ℕ) → k < question_count → value e (question x k) < 2
    value_small k h = value_bit e (question x k) (question_bits k)

    pub value_word_below : value_word e x < 2 ^ question_count
    unfolding value_word
    value_word_below = word_below (λ k. value e (question x k)) question_count value_small

    -- bit k of the word of an expression is its value on question k
    pub value_word_bit : (k : ℕ) → k < question_count → word_bit (value_word e x) k ≡ value e (question x k)
    unfolding value_word
    value_word_bit k h = bit_of_word (λ k. value e (question x k)) question_count value_small k h

    -- and a word with these bits is the word of the expression
    pub value_word_is : (w : ℕ) → w < 2 ^ question_count → ((k : ℕ) → k < question_count → word_bit w k ≡ value e (question x k)) → w ≡ value_word e x
    unfolding value_word
    value_word_is w l h = word_is (λ k. value e (question x k)) w question_count l h

-- the word of a tree is made of its operands' words by one operation
module _ (x : List ℕ) where
  pub zero_is : 0 ≡ value_word ZERO x
  unfolding value
  zero_is = value_word_is x ZERO 0 (omega arith) (λ k h. zero_bit k)

  pub one_is : 2 ^ question_count - 1 ≡ value_word ONE x
  unfolding value
  one_is = value_word_is x ONE (2 ^ question_count - 1) (ones_lt question_count) (λ k h. ones_bit question_count k h)

  pub input_is : (j : ℕ) → get_or x j 0 < 2 ^ question_count → get_or x j 0 ≡ value_word (INPUT j) x
  unfolding value
  input_is j l = value_word_is x (INPUT j) (get_or x j 0) l (λ k h. sym (bits_at_lem k x j))

  -- NOT is 1 XOR its operand (001), on every question
  pub not_is : (a : Expr) → bit_xor (2 ^ question_count - 1) (value_word a x) ≡ value_word (NOT a) x
  unfolding value
  not_is a =
      let v : ℕ = value_word a x in
      value_word_is x (NOT a) (bit_xor (2 ^ question_count - 1) v) (xor_lt question_count (2 ^ question_count - 1) v (ones_lt question_count) (value_word_below x a))
      (λ k h. not_word v question_count k h ∙ ap (xor_bit 1) (value_word_bit x a k h))

  module _ (a b : Expr) where
    pub xor_is : bit_xor (value_word a x) (value_word b x) ≡ value_word (XOR a b) x
    unfolding value
    xor_is =
        let v : ℕ = value_word a x in
        let w : ℕ = value_word b x in
        value_word_is x (XOR a b) (bit_xor v w) (xor_lt question_count v w (value_word_below x a) (value_word_below x b))
        (λ k h. xor_word v w k ∙ ap₂ xor_bit (value_word_bit x a k h) (value_word_bit x b k h))

    pub and_is : (m : Bool) → bit_and (value_word a x) (value_word b x) ≡ value_word (AND m a b) x
    unfolding value
    and_is m =
        let v : ℕ = value_word a x in
        let w : ℕ = value_word b x in
        value_word_is x (AND m a b) (bit_and v w) (and_lt question_count v w (value_word_below x a) (value_word_below x b))
        (λ k h. and_word v w k ∙ ap₂ (λ (c d : ℕ). c * d) (value_word_bit x a k h) (value_word_bit x b k h))

-- what a node adds to a list of words, by its kind: where the list has the words of trees, its word is made of its operands' entries
module _ (x : List ℕ) where
  abbrev pub NextWord : Node → List ℕ → ℕ → Type 0
  NextWord node list r = NextOf (λ e. value_word e x ∷ []) node list (r ∷ [])

  pub next_zero : (ws : List ℕ) {r : ℕ} → r ≡ 0 → NextWord Zero ws r
  unfolding tree_of
  next_zero ws is ts e = ap (λ (w : ℕ). w ∷ []) (is ∙ zero_is x)

  pub next_one : (ws : List ℕ) {r : ℕ} → r ≡ 2 ^ question_count - 1 → NextWord One ws r
  unfolding tree_of
  next_one ws is ts e = ap (λ (w : ℕ). w ∷ []) (is ∙ one_is x)

  pub next_input : (ws : List ℕ) (j : ℕ) → get_or x j 0 < 2 ^ question_count → NextWord (Input j) ws (get_or x j 0)
  unfolding tree_of
  next_input ws j l ts e = ap (λ (w : ℕ). w ∷ []) (input_is x j l)

  module _ {ws : List ℕ} (ts : List Expr) (e : ws ≡ flat_map (λ e. value_word e x ∷ []) ts) where
    entry : (a : ℕ) → a < length ws → get_or ws a 0 ≡ value_word (get_or ts a ZERO) x
    entry a h = entry_is (λ e. value_word e x) ts e a h

  -- NOT is 1 XOR its operand (001), on every question
  pub next_not : (ws : List ℕ) (a : ℕ) → a < length ws → {r : ℕ} → r ≡ bit_xor (2 ^ question_count - 1) (get_or ws a 0) → NextWord (Not a) ws r
  unfolding tree_of
  next_not ws a h is ts e = ap (λ (w : ℕ). w ∷ []) (is ∙ ap (bit_xor (2 ^ question_count - 1)) (entry ts e a h) ∙ not_is x (get_or ts a ZERO))

  module _ (ws : List ℕ) (a b : ℕ) (h : a < length ws) (g : b < length ws) {r : ℕ} where
    pub next_xor : r ≡ bit_xor (get_or ws a 0) (get_or ws b 0) → NextWord (Xor a b) ws r
    unfolding tree_of
    next_xor is ts e = ap (λ (w : ℕ). w ∷ []) (is ∙ ap₂ bit_xor (entry ts e a h) (entry ts e b g) ∙ xor_is x (get_or ts a ZERO) (get_or ts b ZERO))

    pub next_and : (m : Bool) → r ≡ bit_and (get_or ws a 0) (get_or ws b 0) → NextWord (And m a b) ws r
    unfolding tree_of
    next_and m is ts e = ap (λ (w : ℕ). w ∷ []) (is ∙ ap₂ bit_and (entry ts e a h) (entry ts e b g) ∙ and_is x (get_or ts a ZERO) (get_or ts b ZERO) m)
