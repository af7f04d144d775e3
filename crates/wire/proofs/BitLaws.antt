-- Laws of bits. Assumes nothing.
use Prim.Native.Nat.{ℕ, zero, suc, ◌*◌, ◌<◌}
use Rattle.std.specs.Prelude.{bit_xor}
use Rattle.std.specs.List.{list_all}
use Rattle.std.specs.Cmp.{both_ways}
use Rattle.std.proofs.lemmas.List.{get_or_default}
use Rattle.std.proofs.lemmas.List.Sums.{AllPass-from_list_all, list_all-from_AllPass}
use native.Mathlib.Omega.{arith}
use native.Mathlib.Nat.{zero-mul, one-mul}
use mathlib.Core.Path.{◌≡◌, refl, ap, ◌∙◌}
use mathlib.Core.Bool.{true}
use mathlib.Core.List.{List}
use lib.ListN.{length, take, length-take, get_or-eq_default}
use lib.Seq.{get_or-take}
use lib.Dec.{eqb, ltb}
use borrow.Author.Tests.{eqb-true, ltb-true, ltb-false, eqb-false, eq-eqb, lt-ltb}
use Rattle.wire.specs.Bits.{xor_bit, bit, Bits, bits_fit}
use Rattle.refusal.specs.Checks.{all_below}
use Rattle.refusal.proofs.CheckLaws.{by_test, both_first, both_second, all_below_lem, below_all}

-- what `^` gives of bits is their XOR
pub xor_bit_is : (a b : ℕ) → a < 2 → b < 2 → bit_xor a b ≡ xor_bit a b
unfolding xor_bit
xor_bit_is zero zero h g = refl
xor_bit_is zero (suc zero) h g = refl
xor_bit_is (suc zero) zero h g = refl
xor_bit_is (suc zero) (suc zero) h g = refl
xor_bit_is (suc (suc a)) b h g = absurd (omega (arith, h))
xor_bit_is a (suc (suc b)) h g = absurd (omega (arith, g))

-- XOR and AND of bits are bits
pub xor_bit_lem : (a b : ℕ) → xor_bit a b < 2
unfolding xor_bit
xor_bit_lem a b = omega arith

pub and_bit : (a b : ℕ) → a < 2 → b < 2 → a * b < 2
and_bit a b h g =
    by_test (eqb a 0)
    (λ e. let z : a ≡ 0 = eqb-true a 0 e in rw (z, zero-mul b) (omega arith))
    (λ e. let z : a ≡ 1 = omega (arith, eqb-false a 0 e) in rw (z, one-mul b) g)

-- XORing the same in twice changes nothing
pub xor_twice : (a b : ℕ) → a < 2 → xor_bit (xor_bit a b) b ≡ a
unfolding xor_bit
xor_twice a b h = omega arith

-- XOR with 0 changes no bit
pub xor_end : (a : ℕ) → a < 2 → xor_bit a 0 ≡ a
unfolding xor_bit
xor_end a h = omega arith

pub xor_start : (a : ℕ) → a < 2 → xor_bit 0 a ≡ a
unfolding xor_bit
xor_start a h = omega arith

-- XOR one after the other is XOR with both
pub xor_assoc : (a b c : ℕ) → xor_bit (xor_bit a b) c ≡ xor_bit a (xor_bit b c)
unfolding xor_bit
xor_assoc a b c = omega arith

-- past the last bit there are zeros
pub bit_below : (s : List ℕ) → Bits s → (i : ℕ) → bit s i < 2
bit_below s h i =
    by_test (ltb i (length s))
    (λ e. h i (ltb-true i (length s) e))
    (λ e. let z : bit s i ≡ 0 = get_or-eq_default s 0 (ltb-false i (length s) e) in omega (arith, z))

-- the first n of some bits are bits
pub bits_take : (n : ℕ) (s : List ℕ) → Bits s → Bits (take n s)
bits_take n s b i h = rw (get_or-take n s i 0 (omega (arith, length-take n s))) (bit_below s b i)

-- where the test of the bytes held, there are n of them and each is a bit
pub bits_count : (n : ℕ) (s : List ℕ) → bits_fit n s ≡ true → length s ≡ n
unfolding bits_fit
bits_count n s e = eqb-true (length s) n (both_first (eqb (length s) n) (all_below (λ i. ltb (bit s i) 2) (length s)) e)

pub bits_are : (n : ℕ) (s : List ℕ) → bits_fit n s ≡ true → Bits s
unfolding bits_fit
bits_are n s e i h =
    ltb-true (bit s i) 2
    (all_below_lem (λ (k : ℕ). ltb (bit s k) 2) (length s) (both_second (eqb (length s) n) (all_below (λ k. ltb (bit s k) 2) (length s)) e) i h)

-- and n bits pass it
pub bits_pass : (n : ℕ) (s : List ℕ) → length s ≡ n → Bits s → bits_fit n s ≡ true
unfolding bits_fit
bits_pass n s e b =
    rw (eq-eqb (length s) n e)
    (below_all (λ (k : ℕ). ltb (bit s k) 2) (length s) (λ i h. lt-ltb (bit s i) 2 (b i h)))

-- a test of every byte is the test by index
pub all_bits : (s : List ℕ) → list_all (λ b. ltb b 2) s ≡ all_below (λ i. ltb (bit s i) 2) (length s)
all_bits s =
    both_ways _ _
    (λ e. below_all (λ i. ltb (bit s i) 2) (length s) (λ j h. AllPass-from_list_all (λ b. ltb b 2) s e j 0 h))
    (λ e. list_all-from_AllPass (λ b. ltb b 2) s (λ j d h. ap (λ (b : ℕ). ltb b 2) (get_or_default s j d 0 h) ∙ all_below_lem (λ i. ltb (bit s i) 2) (length s) e j h))
