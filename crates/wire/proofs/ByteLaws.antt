-- Laws of bytes and of the numbers that they make. Assumes nothing.
use Prim.Native.Nat.{ℕ, ◌+◌, ◌*◌, ◌/◌, ◌%◌, ◌<◌, ◌≤◌}
use native.Mathlib.Omega.{arith}
use native.Mathlib.Numerals.{towards_suc}
use native.Mathlib.Nat.{add-zero, div-div-eq-div-mul, mod-add-div}
use mathlib.Core.Path.{◌≡◌, sym, ap, ap₂, ◌∙◌}
use mathlib.Core.List.{List, [], ◌∷◌, ◌++◌}
use lib.ListN.{length, get_or, take, drop, set, length-take, get_or-eq_default}
use lib.Seq.{sets, get_or-append-add, get_or-take, get_or-drop}
use lib.Dec.{ltb}
use borrow.Author.Tests.{ltb-true, ltb-false}
use Rattle.wire.specs.Bytes.{at16, at32, bytes16, bytes32, Bytes}
use Rattle.refusal.proofs.CheckLaws.{by_test}
use Rattle.wire.proofs.ListLaws.{drop_next}

-- past the last byte there are zeros
pub byte_below : (s : List ℕ) → Bytes s → (i : ℕ) → get_or s i 0 < 256
byte_below s h i =
    by_test (ltb i (length s))
    (λ e. h i (ltb-true i (length s) e))
    (λ e. let z : get_or s i 0 ≡ 0 = get_or-eq_default s 0 (ltb-false i (length s) e) in omega (arith, z))

-- a part of bytes is bytes
pub bytes_drop : (k : ℕ) (s : List ℕ) → Bytes s → Bytes (drop k s)
bytes_drop k s h i g = rw get_or-drop (byte_below s h (k + i))

pub bytes_take : (k : ℕ) (s : List ℕ) → Bytes s → Bytes (take k s)
bytes_take k s h i g =
    let n : i < k = omega (arith, length-take k s) in
    rw (get_or-take k s i 0 n) (byte_below s h i)

-- the bytes of a number make the number
pub number16 : (v : ℕ) → v < 65536 → v % 256 + 256 * (v / 256 % 256) ≡ v
number16 v h = omega arith

-- a number from its quotients, step by step
linear : (x y z w a b c v : ℕ) → x + 256 * a ≡ v → y + 256 * b ≡ a → z + 256 * c ≡ b → w ≡ c → x + 256 * y + 65536 * z + 16777216 * w ≡ v
linear x y z w a b c v e f g h = omega arith

pub number32 : (v : ℕ) → v < 4294967296 → v % 256 + 256 * (v / 256 % 256) + 65536 * (v / 65536 % 256) + 16777216 * (v / 16777216 % 256) ≡ v
number32 v h =
    let a : v / 256 / 256 ≡ v / 65536 = div-div-eq-div-mul v 256 256 in
    let b : v / 65536 / 256 ≡ v / 16777216 = div-div-eq-div-mul v 65536 256 in
    let c : v / 256 % 256 + 256 * (v / 65536) ≡ v / 256 = rw a at (mod-add-div (v / 256) 256) in
    let d : v / 65536 % 256 + 256 * (v / 16777216) ≡ v / 65536 = rw b at (mod-add-div (v / 65536) 256) in
    let e : v / 16777216 % 256 ≡ v / 16777216 = omega arith in
    linear (v % 256) (v / 256 % 256) (v / 65536 % 256) (v / 16777216 % 256) (v / 256) (v / 65536) (v / 16777216) v (mod-add-div v 256) c d e

-- the bytes of a number that bytes make are those bytes
pub split16 : (x y : ℕ) → x < 256 → y < 256 → bytes16 (x + 256 * y) ≡ x ∷ y ∷ []
split16 x y h g =
    let a : (x + 256 * y) % 256 ≡ x = omega arith in
    let b : (x + 256 * y) / 256 ≡ y = omega arith in
    let c : y % 256 ≡ y = omega arith in
    cc

pub split32 : (x y z w : ℕ) → x < 256 → y < 256 → z < 256 → w < 256 → bytes32 (x + 256 * y + 65536 * z + 16777216 * w) ≡ x ∷ y ∷ z ∷ w ∷ []
split32 x y z w hx hy hz hw =
    let v : ℕ = x + 256 * y + 65536 * z + 16777216 * w in
    let a : v % 256 ≡ x = omega arith in
    let b : v / 256 ≡ y + 256 * z + 65536 * w = omega arith in
    let c : v / 65536 ≡ z + 256 * w = omega arith in
    let d : v / 16777216 ≡ w = omega arith in
    let e : (y + 256 * z + 65536 * w) % 256 ≡ y = omega arith in
    let f : (z + 256 * w) % 256 ≡ z = omega arith in
    let g : w % 256 ≡ w = omega arith in
    cc

-- what is read behind a list is read in what follows it
pub at16_after : (pre s : List ℕ) (i : ℕ) → at16 (pre ++ s) (length pre + i) ≡ at16 s i
at16_after pre s i =
    let e : length pre + i + 1 ≡ length pre + (i + 1) = omega arith in
    simp (e, get_or-append-add)

pub at32_after : (pre s : List ℕ) (i : ℕ) → at32 (pre ++ s) (length pre + i) ≡ at32 s i
at32_after pre s i =
    let e : length pre + i + 1 ≡ length pre + (i + 1) = omega arith in
    let f : length pre + i + 2 ≡ length pre + (i + 2) = omega arith in
    let g : length pre + i + 3 ≡ length pre + (i + 3) = omega arith in
    simp (e, f, g, get_or-append-add)

-- a number is read from where its first byte stands
pub at16_from : (s : List ℕ) (i : ℕ) → at16 s i ≡ at16 (drop i s) 0
at16_from s i =
    let e : get_or s i 0 ≡ get_or (drop i s) 0 0 = ap (λ (k : ℕ). get_or s k 0) (sym (add-zero i)) ∙ sym (get_or-drop i s 0 0) in
    ap₂ (λ (x y : ℕ). x + 256 * y) e (sym (get_or-drop i s 1 0))

-- a number whose bytes follow a list is read there
pub at16_in : (pre rest : List ℕ) (v : ℕ) → v < 65536 → at16 (pre ++ (bytes16 v ++ rest)) (length pre) ≡ v
at16_in pre rest v h =
    ap (at16 (pre ++ (bytes16 v ++ rest))) (sym (add-zero (length pre))) ∙ at16_after pre (bytes16 v ++ rest) 0 ∙ number16 v h

-- where a number is read, its bytes stand
drop_two : (s : List ℕ) (k : ℕ) → k + 2 ≤ length s → drop k s ≡ get_or s k 0 ∷ get_or s (k + 1) 0 ∷ drop (k + 2) s
drop_two s k g =
    let e : k + 1 + 1 ≡ k + 2 = omega arith in
    rw (drop_next s k 0 (omega arith), drop_next s (k + 1) 0 (omega arith), e)

pub drop16 : (s : List ℕ) → Bytes s → (k : ℕ) → k + 2 ≤ length s → drop k s ≡ bytes16 (at16 s k) ++ drop (k + 2) s
drop16 s h k g = drop_two s k g ∙ ap (λ (r : List ℕ). r ++ drop (k + 2) s) (sym (split16 _ _ (byte_below s h k) (byte_below s h (k + 1))))

pub drop32 : (s : List ℕ) → Bytes s → (k : ℕ) → k + 4 ≤ length s → drop k s ≡ bytes32 (at32 s k) ++ drop (k + 4) s
drop32 s h k g =
    let e : k + 2 + 1 ≡ k + 3 = omega arith in
    let f : k + 2 + 2 ≡ k + 4 = omega arith in
    rw (drop_two s k (omega arith), drop_two s (k + 2) (omega arith), e, f)
    (ap (λ (r : List ℕ). r ++ drop (k + 4) s) (sym (split32 _ _ _ _ (byte_below s h k) (byte_below s h (k + 1)) (byte_below s h (k + 2)) (byte_below s h (k + 3)))))

-- two bytes and two numbers, with which a node and a gate open
pub drop_fields : (s : List ℕ) → Bytes s → (k : ℕ) → k + 6 ≤ length s → drop k s ≡ get_or s k 0 ∷ get_or s (k + 1) 0 ∷ (bytes16 (at16 s (k + 2)) ++ (bytes16 (at16 s (k + 4)) ++ drop (k + 6) s))
drop_fields s h k g =
    let four : k + 2 + 2 ≡ k + 4 = omega arith in
    let six : k + 4 + 2 ≡ k + 6 = omega arith in
    rw (drop_two s k (omega arith), drop16 s h (k + 2) (omega arith), four, drop16 s h (k + 4) (omega arith), six)

-- their stores, one after the other, are one run
pub fields_stored : (l : List ℕ) (at kind mark a b : ℕ) {l₁ l₂ : List ℕ}
    → l₁ ≡ sets (set (set l at kind) (at + 1) mark) (at + 2) (bytes16 a)
    → l₂ ≡ sets l₁ (at + 4) (bytes16 b)
    → l₂ ≡ sets l at (kind ∷ mark ∷ (bytes16 a ++ bytes16 b))
fields_stored l at kind mark a b e₁ e₂ = e₂ ∙ ap (λ (x : List ℕ). sets x (at + 4) (bytes16 b)) e₁ ∙ simp towards_suc
