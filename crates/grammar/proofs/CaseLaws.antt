-- A formula whose text, limits, value and nodes are computed, and the characters as they are typed. Assumes nothing.
use mathlib.Core.Path.{◌≡◌, refl}
use mathlib.Core.Bool.{false}
use mathlib.Core.List.{[], ◌∷◌}
use Rattle.wire.specs.Ascii.{ascii}
use Rattle.wire.specs.Bits.{xor_bit}
use Rattle.node.specs.declared.nodes.Node.TheVariants.{Zero, One, Input, Not, Xor, And}
use Rattle.grammar.specs.Characters.{caret, ampersand, exclamation, opening, closing, letter_x, digit0, digit1, digit9}
use Rattle.grammar.specs.Grammar.{Sum, lone, plus, single, times, constant0, constant1, variable, negation, brackets, sum_text, product_text, factor_text, sum_value, product_value, factor_value}
use Rattle.grammar.specs.Extent.{sum_depth, product_depth, factor_depth}
use Rattle.grammar.specs.FormulaNodes.{sum_count, product_count, factor_count, sum_nodes, product_nodes, factor_nodes, formula_program}

pub characters : ascii "^&!()x019" ≡ caret ∷ ampersand ∷ exclamation ∷ opening ∷ closing ∷ letter_x ∷ digit0 ∷ digit1 ∷ digit9 ∷ []
characters = refl

-- each form of the grammar, and no number twice where two could be exchanged
abbrev formula : Sum
formula = plus (plus (lone (single (variable 2))) (times (times (single (negation (variable 10))) (brackets (plus (lone (single constant0)) (single (variable 1))))) constant1)) (single (negation (negation (variable 0))))

pub its_text : sum_text formula ≡ ascii "x2^!x10&(0^x1)&1^!!x0"
unfolding sum_text product_text factor_text
its_text = refl

-- !1^0&(!0)&!1&0^!1: with a form left uncounted, one operand alone or a sum of depths it would not be 2
abbrev deep : Sum
deep =
    plus (plus (lone (single (negation constant1)))
    (times (times (times (single constant0) (brackets (lone (single (negation constant0))))) (negation constant1)) constant0))
    (single (negation constant1))

pub its_depth : sum_depth deep ≡ 2
unfolding sum_depth product_depth factor_depth
its_depth = refl

-- with only input 1 at 1: 0 XOR 1 AND 1 AND 1 XOR 0
pub its_value : sum_value formula (0 ∷ 1 ∷ 0 ∷ 0 ∷ 0 ∷ 0 ∷ 0 ∷ 0 ∷ 0 ∷ 0 ∷ 0 ∷ []) ≡ 1
unfolding sum_value product_value factor_value xor_bit
its_value = refl

-- with only input 10: as XOR, the ANDs would make it 1
pub its_other_value : sum_value formula (0 ∷ 0 ∷ 0 ∷ 0 ∷ 0 ∷ 0 ∷ 0 ∷ 0 ∷ 0 ∷ 0 ∷ 1 ∷ []) ≡ 0
unfolding sum_value product_value factor_value xor_bit
its_other_value = refl

-- with inputs 0 and 1: as OR, the XORs would make it 1
pub its_third_value : sum_value formula (1 ∷ 1 ∷ 0 ∷ 0 ∷ 0 ∷ 0 ∷ 0 ∷ 0 ∷ 0 ∷ 0 ∷ 0 ∷ []) ≡ 0
unfolding sum_value product_value factor_value xor_bit
its_third_value = refl

-- a node when its text ends: operands before operators, left before right, none for brackets
pub its_program : formula_program 11 formula
    ≡ record {
      inputs = 11;
      nodes =
          Input 2 ∷ Input 10 ∷ Not 1 ∷ Zero ∷ Input 1 ∷ Xor 3 4 ∷ And false 2 5 ∷ One ∷ And false 6 7 ∷ Xor 0 8
          ∷ Input 0 ∷ Not 10 ∷ Not 11 ∷ Xor 9 12 ∷ [];
      outputs = 13 ∷ [];
    }
unfolding sum_count product_count factor_count sum_nodes product_nodes factor_nodes
its_program = refl
