-- The starred examples of 01 hold. Assumes nothing.
use Prim.Native.Nat.{ℕ}
use native.Mathlib.Omega.{arith}
use mathlib.Core.Path.{refl, ap}
use mathlib.Core.List.{List, [], ◌∷◌, flat_map}
use borrow.Author.Tests.{leb-true}
use Rattle.wire.specs.Ascii.{ascii}
use Rattle.wire.specs.Bits.{xor_bit, bits_fit}
use Rattle.refusal.specs.Checks.{lowest_from}
use Rattle.contents.specs.Contents.{table_fits, entries_from, entries_fit, entries_bytes, contents_bytes}
use Rattle.contents.specs.Arity.{arity_fits}
use Rattle.wire.specs.Lists.{tabulate_from}
use Rattle.gate.specs.Gates.{target, lines_fit, lower_first, well_formed}
use Rattle.gate_bytes.specs.GateBytes.{gate_bytes, gates_bytes, gate_at, gate_fits, fields_fit}
use Rattle.gate.specs.Running.{addend, step, run, without, uncompute}
use Rattle.circuit.specs.Format.{opening_bytes, circuit_file, file_length}
use Rattle.wire.specs.Limits.{most_gates}
use Rattle.circuit.specs.Reading as circuit
use Rattle.run.specs.RunCircuit.{run_forwards}
use Rattle.node.specs.Exprs.{size}
use Rattle.node.specs.NodeBytes.{node_bytes}
use Rattle.node.specs.Nodes.{mark_fits, operands_fit, node_at, node_fits}
use Rattle.program.specs.Programs.{output_tree}
use Rattle.program.specs.Format.{program_file}
use Rattle.program.specs.Reading.{lengths_fit, output_fits, program_of, read_bodies, read_program}
use Rattle.node.specs.Trees.{tree_of, trees_from, trees}
use Rattle.construction.specs.Pools.{is_among, all_free, lowest_free, take_line, release}
use Rattle.construction.specs.Construction.{input_of, operand, and_gate, cleaning, cleaned, build, share, shares, all_shares, lines_needed}
use Rattle.construction.specs.Construction as construction
use Rattle.construction.specs.Counting.{gates_shown}
use Rattle.sizing.specs.Sizing.{node_sizes}
use Rattle.wire.specs.Shown.{shown}
use Rattle.compilation.specs.Compiling.{output_trees, program_circuit}
use Rattle.line.specs.Lines.{digit_count, decimal, field, line, refused_line}
use Rattle.text.specs.Listings.{gate_line, first_line, listing}
use Rattle.grammar.specs.FormulaNodes.{sum_count, product_count, factor_count, sum_nodes, product_nodes, factor_nodes}
use Rattle.automaton.specs.States.{open_sum, open_product, open_factor, opened, made_sum, made_product, made_factor, made}
use Rattle.automaton.specs.Automaton.{product_with, outside_factor, after_factor, sum_with, outside_product, read_behind, read_factor_byte, longer, read_byte, finish_sum, finish_product, finish, input_fits, within_limits, onward, read_rest, read_text}
use Rattle.parsing.specs.Parsing.{parse_text, parse_of}
use Rattle.examples.specs.Examples.{whole_file, nor_file, three_file, marked_file, xor_file, Examples}
use Rattle.examples.proofs.RowLaws.{Known, lines_refused, area_refused, written, lists_refused, row}
use Rattle.examples.proofs.TypedLaws.{typed, typed_short}

pub examples : Examples
unfolding program_file node_bytes read_program read_bodies table_fits entries_fit entries_from lengths_fit arity_fits node_fits mark_fits operands_fit output_fits program_of node_at lowest_from size node_sizes shown program_circuit output_trees output_tree tabulate_from trees trees_from tree_of construction.circuit_gates all_shares shares share build input_of operand and_gate cleaning cleaned is_among all_free lowest_free take_line release lines_needed gates_shown uncompute without target circuit_file opening_bytes contents_bytes entries_bytes gates_bytes gate_bytes run_forwards circuit.read_with_lines circuit.read_circuit circuit.read_head circuit.head_in circuit.circuit_of circuit.lengths_fit circuit.ranges_fit gate_fits fields_fit well_formed lower_first lines_fit gate_at bits_fit run step addend xor_bit listing first_line gate_line refused_line line field decimal digit_count flat_map read_text read_rest onward within_limits input_fits opened open_factor open_product open_sum made made_factor made_product made_sum read_byte read_factor_byte read_behind longer after_factor product_with outside_factor sum_with outside_product finish finish_product finish_sum sum_count product_count factor_count sum_nodes product_nodes factor_nodes parse_text parse_of
examples =
    let whole : Known whole_file = record { reads = refl; small = refl; few = omega arith } in
    let nor : Known nor_file = record { reads = refl; small = refl; few = omega arith } in
    let three : Known three_file = record { reads = refl; small = refl; few = omega arith } in
    let marked : Known marked_file = record { reads = refl; small = refl; few = omega arith } in
    let xor : Known xor_file = record { reads = refl; small = refl; few = omega arith } in
    record {
      whole = row whole _ (omega arith) (omega arith) (leb-true _ (file_length most_gates) refl) refl refl;
      kinds_bytes = record { writes = refl; reads = refl };
      whole_length = refl;
      whole_bytes = record { writes = refl; reads = refl };
      wide_bytes = record { writes = refl; reads = refl };
      wide_order = refl;
      whole_area = λ grant sizes area. area_refused whole grant sizes area 35 (omega arith) (omega arith);
      whole_target = λ grant sizes area a b c d. ap (λ (file : List ℕ). run_forwards file (1 ∷ 1 ∷ 1 ∷ [])) (written whole grant sizes area a b c d);
      nor = row nor _ (omega arith) (omega arith) (leb-true _ (file_length most_gates) refl) refl refl;
      three = row three _ (omega arith) (omega arith) (leb-true _ (file_length most_gates) refl) refl refl;
      three_grant = λ sizes area. lines_refused three 0 sizes area (omega arith) (omega arith);
      three_refused = lists_refused three 0 (omega arith) (omega arith) (omega arith);
      three_target = λ grant sizes area a b c d. ap (λ (file : List ℕ). run_forwards file (1 ∷ 1 ∷ 1 ∷ 1 ∷ 0 ∷ [])) (written three grant sizes area a b c d);
      three_line = λ grant sizes area a b c d. ap (λ (file : List ℕ). run_forwards file (1 ∷ 1 ∷ 1 ∷ 1 ∷ 1 ∷ [])) (written three grant sizes area a b c d);
      three_typed = λ area. typed (ascii "x0&x1&x2") 3 area _ refl;
      three_area = λ area. typed_short (ascii "x0&x1&x2") 3 area _ refl 67 (omega arith);
      three_inputs = λ area. refl;
      three_outside = λ area. refl;
      marked = row marked _ (omega arith) (omega arith) (leb-true _ (file_length most_gates) refl) refl refl;
      marked_two = refl;
      xor_self = row xor _ (omega arith) (omega arith) (leb-true _ (file_length most_gates) refl) refl refl;
      xor_marked = refl;
    }
