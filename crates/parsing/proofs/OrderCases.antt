-- Calls with more than one cause, computed: the text comes before the room. Assumes nothing.
use mathlib.Core.Path.{◌≡◌, refl}
use mathlib.Core.List.{[], ◌∷◌, flat_map}
use Rattle.refusal.specs.Answers.{refused}
use Rattle.wire.specs.Ascii.{ascii}
use Rattle.contents.specs.Contents.{entries_bytes, contents_bytes}
use Rattle.node.specs.NodeBytes.{node_bytes}
use Rattle.program.specs.Format.{program_file}
use Rattle.grammar.specs.FormulaNodes.{sum_count, product_count, factor_count, sum_nodes, product_nodes, factor_nodes}
use Rattle.automaton.specs.States.{open_sum, open_product, open_factor, opened, made_sum, made_product, made_factor, made}
use Rattle.automaton.specs.Automaton.{product_with, outside_factor, after_factor, sum_with, outside_product, read_behind, read_factor_byte, longer, read_byte, finish_sum, finish_product, finish, input_fits, within_limits, onward, read_rest, read_text}
use Rattle.parsing.specs.Parsing.{parse_text, parse_of}

-- no room, and more inputs than there may be
pub inputs_first : parse_of (ascii "x0") 65 (1 ∷ []) ≡ record { answer = refused 4 0; area = 1 ∷ [] }
unfolding parse_of parse_text read_text
inputs_first = refl

-- no room, and a byte outside the language
pub text_first : parse_of (ascii "x0&") 1 (1 ∷ []) ≡ record { answer = refused 16 3; area = 1 ∷ [] }
unfolding parse_of parse_text read_text read_rest onward within_limits input_fits opened open_factor open_product open_sum made made_factor made_product made_sum read_byte read_factor_byte read_behind longer after_factor product_with outside_factor finish sum_count product_count factor_count
text_first = refl

-- no room alone: the nodes needed, and the area is cleared
pub room_last : parse_of (ascii "x0&1") 1 (1 ∷ []) ≡ record { answer = refused 11 3; area = 0 ∷ [] }
unfolding parse_of parse_text read_text read_rest onward within_limits input_fits opened open_factor open_product open_sum made made_factor made_product made_sum read_byte read_factor_byte read_behind longer after_factor product_with outside_factor sum_with outside_product finish finish_product finish_sum sum_count product_count factor_count sum_nodes product_nodes factor_nodes program_file contents_bytes entries_bytes flat_map node_bytes
room_last = refl
