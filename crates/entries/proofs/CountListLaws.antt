-- Laws of the count list: an entry is found where it was stored, and the next one is made of those before it. Assumes nothing.
use Prim.Native.Nat.{ℕ, zero, suc, ◌-◌, ◌+◌, ◌*◌, ◌/◌, ◌<◌, ◌≤◌}
use native.Mathlib.Omega.{arith}
use native.Mathlib.Nat.{add-zero}
use mathlib.Core.Path.{◌≡◌, refl, sym, ap, ◌∙◌}
use mathlib.Core.Bool.{Bool}
use mathlib.Core.List.{List, [], ◌++◌, flat_map, append-nil}
use lib.ListN.{length, get_or, take}
use lib.Seq.{sets, length-take-le}
use Rattle.std.specs.Prelude.{Option, Some, None, SomeIff}
use native.Mathlib.Numerals.{one-add}
use borrow.Rule.Slice.PartMut.{put_mid}
use Rattle.wire.proofs.AreaLaws.{part_stored}
use Rattle.wire.proofs.FillLaws.{Filled, filled_front}
use Rattle.wire.proofs.ListLaws.{flat_length, flat_take, flat_fits, flat_number}
use Rattle.node.specs.declared.nodes.Node.{Node}
use Rattle.node.specs.declared.nodes.Node.TheVariants.{Zero, One, Input, Not, Xor, And}
use Rattle.node.specs.Exprs.{Expr, ZERO, NOT, XOR, AND}
use Rattle.node.specs.Nodes.{node_at, nodes_in}
use Rattle.node.specs.Steps.{Fillable, NextOf}
use Rattle.node.specs.Trees.{tree_of, trees}
use Rattle.node.proofs.NodeLaws.{not_operand, xor_operands, and_operands}
use Rattle.node.proofs.TreeLaws.{trees_count, node_in, node_inside}
use Rattle.entry.specs.declared.Entry.{Entry}
use Rattle.entry.specs.Entries.{leaf_entry, entry_of, SmallEntry}
use Rattle.entry.proofs.EntryLaws.{small, entry_zero, entry_one, entry_input}
use Rattle.entries.specs.CountList.{input_number, input_from, numbers_of, entry_from, tree_numbers, node_numbers, OperandsListed}

pub eight : (e : Expr) → length (tree_numbers e) ≡ 8
unfolding numbers_of
eight e = refl

-- an entry's numbers, copied over a part of the list, are stored there
pub entry_stored : (list : List ℕ) (at : ℕ) (e : Entry) {copied : List ℕ} → copied ≡ numbers_of e → at + 8 ≤ length list → put_mid at (at + 8 - at) list copied ≡ sets list at (numbers_of e)
unfolding numbers_of
entry_stored list at e p room = part_stored (numbers_of e) list at (at + 8 - at) p (omega arith) room

-- the number of an input says that input
input_back : (q : Option ℕ) → input_from (input_number q) ≡ q
unfolding input_number input_from
input_back None = refl
input_back (Some j) = rw one-add refl

-- and so does one number less, where there is one
pub input_found : (n : ℕ) (q : Option ℕ) → SomeIff q (1 ≤ n) (n - 1) → q ≡ input_from n
unfolding input_from
input_found zero None h = refl
input_found zero (Some j) h = absurd (omega (arith, h.0))
input_found (suc n) None h = absurd (h (omega arith))
input_found (suc n) (Some j) h = ap Some (omega (arith, h.1))

-- an entry that was stored is found
entry_back : (list : List ℕ) (at : ℕ) (e : Entry) → ((j : ℕ) → j < 8 → get_or list (at + j) 0 ≡ get_or (numbers_of e) j 0) → entry_from list at ≡ e
unfolding numbers_of
entry_back list at e h =
    let first : get_or list at 0 ≡ e.gates.built = rw add-zero at (h 0 (omega arith)) in
    rw (first, h 1 (omega arith), h 2 (omega arith), h 3 (omega arith), h 4 (omega arith), h 5 (omega arith), h 6 (omega arith), input_back e.input) refl

-- so it is in a list that starts with the entries of trees
module _ (ts : List Expr) (list rest : List ℕ) (p : list ≡ flat_map tree_numbers ts ++ rest) (a : ℕ) (h : a < length ts) where
  pub listed_fits : 8 * a + 8 ≤ length list
  listed_fits = rw p (flat_fits 8 tree_numbers eight ts rest a h)

  pub listed_at : entry_from list (8 * a) ≡ entry_of (get_or ts a ZERO)
  listed_at =
      entry_back list (8 * a) (entry_of (get_or ts a ZERO))
      (λ j l. ap (λ (s : List ℕ). get_or s (8 * a + j) 0) p ∙ flat_number 8 tree_numbers eight ts rest a h ZERO j l)

-- a node that can be counted, by its kind
module _ {list : List ℕ} {node : Node} (k : OperandsListed list node) where
  alone : (ts : List Expr) → list ≡ flat_map tree_numbers ts → list ≡ flat_map tree_numbers ts ++ []
  alone ts e = e ∙ sym (append-nil (flat_map tree_numbers ts))

  many : (ts : List Expr) → list ≡ flat_map tree_numbers ts → length k.trees ≡ length ts
  many ts e = omega (arith, ap length (sym e ∙ k.listed), flat_length 8 tree_numbers eight ts, flat_length 8 tree_numbers eight k.trees)

  module _ (a : ℕ) (low : a < length k.trees) where
    -- an operand's entry is there, it is its tree's, and its numbers are small
    operand_fits : 8 * a + 8 ≤ length list
    operand_fits = listed_fits k.trees list [] (alone k.trees k.listed) a low

    operand_is : (ts : List Expr) → list ≡ flat_map tree_numbers ts → {x : Entry} → x ≡ entry_from list (8 * a) → x ≡ entry_of (get_or ts a ZERO)
    operand_is ts e p = p ∙ listed_at ts list [] (alone ts e) a (omega (arith, many ts e))

    operand_small : {x : Entry} → x ≡ entry_from list (8 * a) → SmallEntry x
    operand_small p = small (get_or k.trees a ZERO) (operand_is k.trees k.listed p)

  pub next_zero : node ≡ Zero → {r : Entry} → r ≡ leaf_entry 0 None → NextOf tree_numbers node list (numbers_of r)
  unfolding tree_of
  next_zero n e ts l = rw n (ap numbers_of (e ∙ entry_zero))

  pub next_one : node ≡ One → {r : Entry} → r ≡ leaf_entry 1 None → NextOf tree_numbers node list (numbers_of r)
  unfolding tree_of
  next_one n e ts l = rw n (ap numbers_of (e ∙ entry_one))

  pub next_input : {j : ℕ} → node ≡ Input j → {r : Entry} → r ≡ leaf_entry 1 (Some j) → NextOf tree_numbers node list (numbers_of r)
  unfolding tree_of
  next_input {j} n e ts l = rw n (ap numbers_of (e ∙ entry_input j))

  module _ {a : ℕ} (n : node ≡ Not a) where
    low : a < length k.trees
    low = not_operand k.inputs (length k.trees) k.ordered n

    pub not_fits : 8 * a + 8 ≤ length list
    not_fits = operand_fits a low

    module _ {x : Entry} (p : x ≡ entry_from list (8 * a)) where
      pub not_small : SmallEntry x
      not_small = operand_small a low p

      pub next_not : {r : Entry} → ((e : Expr) → x ≡ entry_of e → r ≡ entry_of (NOT e)) → NextOf tree_numbers node list (numbers_of r)
      unfolding tree_of
      next_not f ts l = rw n (ap numbers_of (f (get_or ts a ZERO) (operand_is a low ts l p)))

  -- both operands of an XOR or AND
  module _ (join : Expr → Expr → Expr) {a b : ℕ} (of : (ts : List Expr) → tree_of ts node ≡ join (get_or ts a ZERO) (get_or ts b ZERO)) (lows : (a < length k.trees) × (b < length k.trees)) where
    pub first_fits : 8 * a + 8 ≤ length list
    first_fits = operand_fits a lows.0

    pub second_fits : 8 * b + 8 ≤ length list
    second_fits = operand_fits b lows.1

    module _ {x y : Entry} (p : x ≡ entry_from list (8 * a)) (q : y ≡ entry_from list (8 * b)) where
      pub both_small : SmallEntry x × SmallEntry y
      both_small = (operand_small a lows.0 p, operand_small b lows.1 q)

      pub next_both : {r : Entry} → ((d e : Expr) → x ≡ entry_of d → y ≡ entry_of e → r ≡ entry_of (join d e)) → NextOf tree_numbers node list (numbers_of r)
      next_both f ts l = ap numbers_of (f (get_or ts a ZERO) (get_or ts b ZERO) (operand_is a lows.0 ts l p) (operand_is b lows.1 ts l q) ∙ ap entry_of (sym (of ts)))

  module _ {a b : ℕ} where
    pub xor_lows : node ≡ Xor a b → (a < length k.trees) × (b < length k.trees)
    xor_lows n = xor_operands k.inputs (length k.trees) k.ordered n

    pub and_lows : {m : Bool} → node ≡ And m a b → (a < length k.trees) × (b < length k.trees)
    and_lows n = and_operands k.inputs (length k.trees) k.ordered n

-- the tree of an XOR or AND
pub xor_tree : {node : Node} {a b : ℕ} → node ≡ Xor a b → (ts : List Expr) → tree_of ts node ≡ XOR (get_or ts a ZERO) (get_or ts b ZERO)
unfolding tree_of
xor_tree n ts = rw n refl

pub and_tree : {node : Node} {m : Bool} {a b : ℕ} → node ≡ And m a b → (ts : List Expr) → tree_of ts node ≡ AND m (get_or ts a ZERO) (get_or ts b ZERO)
unfolding tree_of
and_tree n ts = rw n refl

-- a loop has stored the entries of the first i nodes: node i can be counted
pub operands_listed : {n entries i : ℕ} {body list₀ list : List ℕ} {node : Node} → Fillable n body entries → Filled (node_numbers (nodes_in body)) list₀ list (8 * i) → i < length body / 6
    → node ≡ node_at body i → OperandsListed (take (8 * i) list) node
operands_listed {n} {entries} {i} {body} s p h e =
    let there : length (take i (trees (nodes_in body))) ≡ i = length-take-le i (trees (nodes_in body)) (omega (arith, trees_count body)) in
    record {
      trees = take i (trees (nodes_in body));
      listed = filled_front p ∙ flat_take 8 tree_numbers eight (trees (nodes_in body)) i;
      inputs = n;
      ordered = rw (there, e, ← node_in body i h) (s.ordered i (node_inside body i h));
    }
