-- Texts whose reading is computed: a formula, and the places of refusals at the corners of the language and of its limits. Assumes nothing.
use Prim.Native.Nat.{ℕ}
use mathlib.Core.Path.{◌≡◌, refl}
use mathlib.Core.List.{List, ◌++◌}
use lib.ListN.{replicate}
use Rattle.refusal.specs.Answers.{result, refused}
use Rattle.wire.specs.Ascii.{ascii}
use Rattle.grammar.specs.Characters.{exclamation, opening, digit0}
use Rattle.grammar.specs.Grammar.{lone, plus, single, times, constant0, constant1, variable, negation, brackets}
use Rattle.grammar.specs.FormulaNodes.{sum_count, product_count, factor_count}
use Rattle.automaton.specs.States.{open_sum, open_product, open_factor, opened, made_sum, made_product, made_factor, made}
use Rattle.automaton.specs.Automaton.{product_with, outside_factor, after_factor, sum_with, outside_product, read_closing, read_behind, read_factor_byte, longer, read_byte, finish_sum, finish_product, finish, input_fits, within_limits, onward, read_rest, read_text}

-- operators group to the left, & binds closer than ^, and ! takes the next factor alone
pub grouping : read_text 3 (ascii "x0^!x1&x2&1^(0^x2)")
    ≡ result (plus (plus (lone (single (variable 0))) (times (times (single (negation (variable 1))) (variable 2)) constant1)) (single (brackets (plus (lone (single constant0)) (single (variable 2))))))
unfolding read_text read_rest onward within_limits input_fits opened open_factor open_product open_sum made made_factor made_product made_sum read_byte read_factor_byte read_behind read_closing longer after_factor product_with outside_factor sum_with outside_product finish finish_product finish_sum sum_count product_count factor_count
grouping = refl

-- 16 at the first byte that no text goes on with; where the text only ends too early, at its length
pub record Places : Type 0 where
  pub empty : read_text 64 (ascii "") ≡ refused 16 0
  pub foreign : read_text 64 (ascii "X0") ≡ refused 16 0
  pub blank : read_text 64 (ascii "x0 ") ≡ refused 16 2
  pub no_operand : read_text 64 (ascii "0&") ≡ refused 16 2
  pub two_operators : read_text 64 (ascii "0&^1") ≡ refused 16 2
  pub operand_behind : read_text 64 (ascii "0!") ≡ refused 16 1
  pub no_bracket_open : read_text 64 (ascii "0)") ≡ refused 16 1
  pub bracket_open : read_text 64 (ascii "(0") ≡ refused 16 2
  pub nothing_inside : read_text 64 (ascii "()") ≡ refused 16 1
  -- a number has one digit, or two not starting with 0
  pub no_digit : read_text 64 (ascii "x") ≡ refused 16 1
  pub zero_first : read_text 64 (ascii "x00") ≡ refused 16 2
  pub three_digits : read_text 64 (ascii "x123") ≡ refused 16 3
  pub digit_behind_constant : read_text 64 (ascii "00") ≡ refused 16 1

pub places : Places
unfolding read_text read_rest onward within_limits input_fits opened open_factor open_product open_sum made made_factor made_product made_sum read_byte read_factor_byte read_behind read_closing longer after_factor product_with outside_factor sum_with outside_product finish finish_product finish_sum sum_count product_count factor_count
places =
    record {
      empty = refl;
      foreign = refl;
      blank = refl;
      no_operand = refl;
      two_operators = refl;
      operand_behind = refl;
      no_bracket_open = refl;
      bracket_open = refl;
      nothing_inside = refl;
      no_digit = refl;
      zero_first = refl;
      three_digits = refl;
      digit_behind_constant = refl;
    }

-- 17 before 4, and 4 before any byte is looked at
pub record Limits : Type 0 where
  pub too_long : read_text 65 (replicate 4097 digit0) ≡ refused 17 0
  pub longest_text : read_text 65 (replicate 4096 digit0) ≡ refused 4 0
  pub too_many_inputs : read_text 65 (ascii "@") ≡ refused 4 0
  pub most_inputs_lem : read_text 64 (ascii "@") ≡ refused 16 0

pub limits : Limits
unfolding read_text read_rest onward read_byte read_factor_byte
limits = record { too_long = refl; longest_text = refl; too_many_inputs = refl; most_inputs_lem = refl }

-- 5 at a number's digit, with the nodes made before as its place
pub record Numbers : Type 0 where
  pub two_digits : read_text 13 (ascii "x12") ≡ result (lone (single (variable 12)))
  pub second_digit : read_text 12 (ascii "x12@") ≡ refused 5 0
  pub first_digit : read_text 1 (ascii "x1@") ≡ refused 5 0
  pub no_inputs : read_text 0 (ascii "x0") ≡ refused 5 0
  pub nodes_before : read_text 1 (ascii "!x0&(0^x1") ≡ refused 5 3

pub numbers : Numbers
unfolding read_text read_rest onward within_limits input_fits opened open_factor open_product open_sum made made_factor made_product made_sum read_byte read_factor_byte read_behind read_closing longer after_factor product_with outside_factor sum_with outside_product finish finish_product finish_sum sum_count product_count factor_count
numbers = record { two_digits = refl; second_digit = refl; first_digit = refl; no_inputs = refl; nodes_before = refl }

-- so many ! before a formula
abbrev nots : ℕ → List ℕ
nots k = replicate k exclamation

-- 64 may be open, and 18 is at the byte that opens one more
pub record Depths : Type 0 where
  pub nots_65 : read_text 0 (nots 65) ≡ refused 18 64
  pub nots_64 : read_text 0 (nots 64) ≡ refused 16 64
  pub brackets_65 : read_text 0 (replicate 65 opening) ≡ refused 18 64
  pub mixed_65 : read_text 0 (nots 30 ++ replicate 35 opening) ≡ refused 18 64
  -- at a byte that no text goes on with 16 comes first
  pub bracket_outside : read_text 0 (replicate 64 opening ++ ascii "0(") ≡ refused 16 65
  -- a bracket is open up to its ), a ! is pending to the end of its factor
  pub level_restored : read_text 0 (ascii "!(0)&" ++ nots 65) ≡ refused 18 69
  pub level_restored_sum : read_text 0 (ascii "!(0)^" ++ nots 65) ≡ refused 18 69
  pub pending_inside : read_text 0 (ascii "!(" ++ nots 63) ≡ refused 18 64

pub depths : Depths
unfolding read_text read_rest onward within_limits input_fits opened open_factor open_product open_sum made made_factor made_product made_sum read_byte read_factor_byte read_behind read_closing longer after_factor product_with outside_factor sum_with outside_product finish finish_product finish_sum sum_count product_count factor_count
depths = record { nots_65 = refl; nots_64 = refl; brackets_65 = refl; mixed_65 = refl; bracket_outside = refl; level_restored = refl; level_restored_sum = refl; pending_inside = refl }
