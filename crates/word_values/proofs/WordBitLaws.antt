-- Laws of the bits of words: they determine the word, and XOR and AND work on each bit apart. Assumes nothing.
use Prim.Native.Nat.{ℕ, zero, suc, ◌+◌, ◌-◌, ◌*◌, ◌/◌, ◌%◌, ◌^◌, ◌<◌}
use native.Mathlib.Omega.{arith}
use native.Mathlib.Nat.{mod-one, mod-eq_of_lt, pow-suc, mul_comm, add_comm, zero-div}
use mathlib.Core.Path.{◌≡◌, refl, sym, ap, ap₂, ◌∙◌}
use mathlib.Core.List.{List, map}
use lib.ListN.{length, get_or, length-map, get_or-map}
use lib.Arith.{digits_lt}
use lib.Dec.{eqb}
use lib.Pow.{pow_pos, high, low, field, mod-mod-pow, mod-pow-add, ones_split, ones_lt}
use lib.Bits.{bit_xor, bit_and, xor_shr, xor_mod, and_shr, and_mod}
use borrow.Author.Tests.{eqb-true, eqb-false}
use Rattle.refusal.proofs.CheckLaws.{by_test}
use Rattle.wire.specs.Bits.{xor_bit, bit}
use Rattle.wire.specs.Lists.{sum_of}
use Rattle.word_values.specs.WordBits.{word_bit, bits_at, word_of}

pub word_bit_below : (w k : ℕ) → word_bit w k < 2
unfolding word_bit
word_bit_below w k = omega arith

pub zero_bit : (k : ℕ) → word_bit 0 k ≡ 0
unfolding word_bit
zero_bit k = ap (λ (n : ℕ). n % 2) (zero-div (2 ^ k))

-- there is a bit k of each word, and past the last word there are zeros
module _ (k : ℕ) (ws : List ℕ) where
  pub bits_at_length : length (bits_at k ws) ≡ length ws
  unfolding bits_at
  bits_at_length = length-map ws (λ w. word_bit w k)

  pub bits_at_lem : (j : ℕ) → bit (bits_at k ws) j ≡ word_bit (get_or ws j 0) k
  unfolding bits_at
  bits_at_lem j = ap (λ (d : ℕ). get_or (map (λ w. word_bit w k) ws) j d) (sym (zero_bit k)) ∙ get_or-map (λ w. word_bit w k) ws j 0

-- the highest bit of a word, and the word of those below it
word_next : (bits : ℕ → ℕ) (n : ℕ) → word_of bits (suc n) ≡ bits n * 2 ^ n + word_of bits n
unfolding word_of sum_of
word_next bits n = add_comm (sum_of (λ k. bits k * 2 ^ k) n) (bits n * 2 ^ n)

-- the n lowest bits of a number determine its remainder by 2 ^ n
remainder_is : (bits : ℕ → ℕ) (w n : ℕ) → ((k : ℕ) → k < n → word_bit w k ≡ bits k) → w % 2 ^ n ≡ word_of bits n
unfolding word_of sum_of word_bit
remainder_is bits w zero h = mod-one w
remainder_is bits w (suc n) h =
    let e : suc n ≡ 1 + n = omega arith in
    ap (λ (m : ℕ). w % 2 ^ m) e
    ∙ mod-pow-add w 1 n
    ∙ ap₂ (λ (b r : ℕ). b * 2 ^ n + r) (h n (omega arith)) (remainder_is bits w n (λ k p. h k (omega arith)))
    ∙ sym (word_next bits n)

-- a number below 2 ^ n is the word of its n bits
pub word_is : (bits : ℕ → ℕ) (w n : ℕ) → w < 2 ^ n → ((k : ℕ) → k < n → word_bit w k ≡ bits k) → w ≡ word_of bits n
word_is bits w n l h = sym (mod-eq_of_lt l) ∙ remainder_is bits w n h

-- the remainder by 2 ^ n has the bits below n
pub remainder_bit : (w n k : ℕ) → k < n → word_bit (w % 2 ^ n) k ≡ word_bit w k
unfolding word_bit
remainder_bit w n k h =
    let i : ℕ = n - k - 1 in
    let e : n ≡ (i + 1) + k = omega arith in
    ap (λ (m : ℕ). w % 2 ^ m / 2 ^ k % 2) e
    ∙ ap (λ (m : ℕ). m % 2) (field w (i + 1) k)
    ∙ mod-mod-pow (w / 2 ^ k) i 1

-- the bit above those of a number below 2 ^ n
top_bit : (b n : ℕ) {r : ℕ} → r < 2 ^ n → b < 2 → word_bit (b * 2 ^ n + r) n ≡ b
unfolding word_bit
top_bit b n below small = ap (λ (m : ℕ). m % 2) (high b n below) ∙ mod-eq_of_lt small

module _ (bits : ℕ → ℕ) where
  pub word_below : (n : ℕ) → ((k : ℕ) → k < n → bits k < 2) → word_of bits n < 2 ^ n
  unfolding word_of sum_of
  word_below zero small = omega arith
  word_below (suc n) small = rw (word_next bits n, pow-suc 2 n ∙ mul_comm (2 ^ n) 2) (digits_lt (small n (omega arith)) (word_below n (λ k h. small k (omega arith))))

  -- bit k of a word is what it was made of
  pub bit_of_word : (n : ℕ) → ((k : ℕ) → k < n → bits k < 2) → (k : ℕ) → k < n → word_bit (word_of bits n) k ≡ bits k
  bit_of_word zero small k h = absurd (omega arith)
  bit_of_word (suc n) small k h =
      let below : word_of bits n < 2 ^ n = word_below n (λ i p. small i (omega arith)) in
      rw (word_next bits n)
      (by_test (eqb k n)
      (λ t. let e : k ≡ n = eqb-true k n t in rw e (top_bit (bits n) n below (small n (omega arith))))
      (λ t.
      let l : k < n = omega (arith, eqb-false k n t) in
      sym (remainder_bit (bits n * 2 ^ n + word_of bits n) n k l)
      ∙ ap (λ (m : ℕ). word_bit m k) (low (bits n) n below)
      ∙ bit_of_word n (λ i p. small i (omega arith)) k l))

-- what holds of the four pairs of bits holds of any two
of_bits : (P : ℕ → ℕ → Type 0) → P 0 0 → P 0 1 → P 1 0 → P 1 1 → (a b : ℕ) → a < 2 → b < 2 → P a b
of_bits P p q r s zero zero h g = p
of_bits P p q r s zero (suc zero) h g = q
of_bits P p q r s (suc zero) zero h g = r
of_bits P p q r s (suc zero) (suc zero) h g = s
of_bits P p q r s zero (suc (suc b)) h g = absurd (omega arith)
of_bits P p q r s (suc zero) (suc (suc b)) h g = absurd (omega arith)
of_bits P p q r s (suc (suc a)) b h g = absurd (omega arith)

-- XOR and AND of numbers work on each bit apart
pub xor_word : (x y k : ℕ) → word_bit (bit_xor x y) k ≡ xor_bit (word_bit x k) (word_bit y k)
unfolding word_bit xor_bit
xor_word x y k =
    ap (λ (n : ℕ). n % 2) (xor_shr x y k)
    ∙ xor_mod (x / 2 ^ k) (y / 2 ^ k) 1
    ∙ of_bits (λ a b. bit_xor a b ≡ xor_bit a b) refl refl refl refl (word_bit x k) (word_bit y k) (word_bit_below x k) (word_bit_below y k)

pub and_word : (x y k : ℕ) → word_bit (bit_and x y) k ≡ word_bit x k * word_bit y k
unfolding word_bit
and_word x y k =
    ap (λ (n : ℕ). n % 2) (and_shr x y k)
    ∙ and_mod (x / 2 ^ k) (y / 2 ^ k) 1
    ∙ of_bits (λ a b. bit_and a b ≡ a * b) refl refl refl refl (word_bit x k) (word_bit y k) (word_bit_below x k) (word_bit_below y k)

-- every bit of n ones is 1
pub ones_bit : (n k : ℕ) → k < n → word_bit (2 ^ n - 1) k ≡ 1
unfolding word_bit
ones_bit n k h =
    let j : ℕ = n - k - 1 in
    let e : n ≡ suc j + k = omega arith in
    let odd : (2 ^ suc j - 1) % 2 ≡ 1 = omega (arith, pow_pos j, pow-suc 2 j) in
    ap (λ (m : ℕ). (2 ^ m - 1) / 2 ^ k % 2) e
    ∙ ap (λ (m : ℕ). m / 2 ^ k % 2) (ones_split (suc j) k)
    ∙ ap (λ (m : ℕ). m % 2) (high (2 ^ suc j - 1) k (ones_lt k))
    ∙ odd

-- XOR with n ones exchanges 0 and 1
pub not_word : (x n k : ℕ) → k < n → word_bit (bit_xor (2 ^ n - 1) x) k ≡ xor_bit 1 (word_bit x k)
not_word x n k h = xor_word (2 ^ n - 1) x k ∙ ap (λ (b : ℕ). xor_bit b (word_bit x k)) (ones_bit n k h)
