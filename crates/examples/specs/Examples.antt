-- The starred examples of 01 and the cases of 02, as one table about the definitions of parsing, reading, compiling, running and listing, and the bytes of program files and of two circuit files.
use Rattle.std.specs.Prelude.{ℕ, ◌≤◌, ◌≡◌, true, false, List, [], ◌∷◌, ◌++◌, length, take, drop, replicate}
use Prim.Native.String.{String}
use Rattle.refusal.specs.Answers.{result, refused}
use Rattle.wire.specs.Ascii.{ascii}
use Rattle.gate.specs.declared.gates.Gate.TheVariants.{Cnot, Toffoli}
use Rattle.gate.specs.declared.gates.Gate.TheVariants as gate
use Rattle.circuit.specs.Circuits.{Circuit, head_of}
use Rattle.circuit.specs.Format.{circuit_file}
use Rattle.circuit.specs.Reading.{read_circuit}
use Rattle.run.specs.RunCircuit.{run_forwards}
use Rattle.node.specs.declared.nodes.Node.TheVariants.{Input, Xor, And}
use Rattle.node.specs.declared.nodes.Node.TheVariants as node
use Rattle.program.specs.Programs.{Program}
use Rattle.program.specs.Format.{program_file}
use Rattle.program.specs.Reading.{read_program}
use Rattle.compilation.specs.Compiling.{compile_of}
use Rattle.compilation.specs.Demand.{file_written}
use Rattle.list.specs.Listing.{listing_of}
use Rattle.parsing.specs.Parsing.{parse_of}

-- the file of the whole case, in hex as in 01: the table of contents, the numbers of inputs and outputs, the nodes, the output's node
abbrev pub whole_file : List ℕ
whole_file =
    0x03 ∷ 0x00
    ∷ 0x01 ∷ 0x00 ∷ 0x20 ∷ 0x00 ∷ 0x00 ∷ 0x00 ∷ 0x04 ∷ 0x00 ∷ 0x00 ∷ 0x00
    ∷ 0x02 ∷ 0x00 ∷ 0x24 ∷ 0x00 ∷ 0x00 ∷ 0x00 ∷ 0x12 ∷ 0x00 ∷ 0x00 ∷ 0x00
    ∷ 0x03 ∷ 0x00 ∷ 0x36 ∷ 0x00 ∷ 0x00 ∷ 0x00 ∷ 0x02 ∷ 0x00 ∷ 0x00 ∷ 0x00
    ∷ 0x02 ∷ 0x00 ∷ 0x01 ∷ 0x00
    ∷ 0x02 ∷ 0x00 ∷ 0x00 ∷ 0x00 ∷ 0x00 ∷ 0x00
    ∷ 0x02 ∷ 0x00 ∷ 0x01 ∷ 0x00 ∷ 0x00 ∷ 0x00
    ∷ 0x05 ∷ 0x00 ∷ 0x00 ∷ 0x00 ∷ 0x01 ∷ 0x00
    ∷ 0x02 ∷ 0x00 ∷ []

-- its circuit
abbrev pub whole_circuit : Circuit
whole_circuit = record { inputs = 2; outputs = 1; work = 0; gates = Toffoli 0 1 2 ∷ [] }

-- its circuit's file: the table of contents, the numbers of inputs, outputs and work lines, the gate
abbrev pub whole_circuit_file : List ℕ
whole_circuit_file =
    0x02 ∷ 0x00
    ∷ 0x11 ∷ 0x00 ∷ 0x16 ∷ 0x00 ∷ 0x00 ∷ 0x00 ∷ 0x06 ∷ 0x00 ∷ 0x00 ∷ 0x00
    ∷ 0x12 ∷ 0x00 ∷ 0x1c ∷ 0x00 ∷ 0x00 ∷ 0x00 ∷ 0x08 ∷ 0x00 ∷ 0x00 ∷ 0x00
    ∷ 0x02 ∷ 0x00 ∷ 0x01 ∷ 0x00 ∷ 0x00 ∷ 0x00
    ∷ 0x03 ∷ 0x00 ∷ 0x00 ∷ 0x00 ∷ 0x01 ∷ 0x00 ∷ 0x02 ∷ 0x00 ∷ []

-- a circuit with a gate of each kind, more than 255 work lines, and no number twice where two could be exchanged; its last gate targets an input, as only a circuit not made by the compiler does
abbrev pub wide_circuit : Circuit
wide_circuit = record { inputs = 3; outputs = 2; work = 260; gates = gate.Not 261 ∷ Cnot 1 264 ∷ Toffoli 256 259 2 ∷ [] }

-- its file: 260 is 0x0104, and the lines 261, 264, 256 and 259 have two bytes each
abbrev pub wide_circuit_file : List ℕ
wide_circuit_file =
    0x02 ∷ 0x00
    ∷ 0x11 ∷ 0x00 ∷ 0x16 ∷ 0x00 ∷ 0x00 ∷ 0x00 ∷ 0x06 ∷ 0x00 ∷ 0x00 ∷ 0x00
    ∷ 0x12 ∷ 0x00 ∷ 0x1c ∷ 0x00 ∷ 0x00 ∷ 0x00 ∷ 0x18 ∷ 0x00 ∷ 0x00 ∷ 0x00
    ∷ 0x03 ∷ 0x00 ∷ 0x02 ∷ 0x00 ∷ 0x04 ∷ 0x01
    ∷ 0x01 ∷ 0x00 ∷ 0x00 ∷ 0x00 ∷ 0x00 ∷ 0x00 ∷ 0x05 ∷ 0x01
    ∷ 0x02 ∷ 0x00 ∷ 0x01 ∷ 0x00 ∷ 0x00 ∷ 0x00 ∷ 0x08 ∷ 0x01
    ∷ 0x03 ∷ 0x00 ∷ 0x00 ∷ 0x01 ∷ 0x03 ∷ 0x01 ∷ 0x02 ∷ 0x00 ∷ []

-- the file of NOR as AND of two NOTs
abbrev pub nor_file : List ℕ
nor_file =
    3 ∷ 0 ∷ 1 ∷ 0 ∷ 32 ∷ 0 ∷ 0 ∷ 0 ∷ 4 ∷ 0 ∷ 0 ∷ 0 ∷ 2 ∷ 0 ∷ 36 ∷ 0 ∷ 0 ∷ 0 ∷ 30 ∷ 0 ∷ 0 ∷ 0 ∷ 3 ∷ 0 ∷ 66 ∷ 0 ∷ 0 ∷ 0 ∷ 2 ∷ 0 ∷ 0 ∷ 0
    ∷ 2 ∷ 0 ∷ 1 ∷ 0
    ∷ 2 ∷ 0 ∷ 0 ∷ 0 ∷ 0 ∷ 0
    ∷ 2 ∷ 0 ∷ 1 ∷ 0 ∷ 0 ∷ 0
    ∷ 3 ∷ 0 ∷ 0 ∷ 0 ∷ 0 ∷ 0
    ∷ 3 ∷ 0 ∷ 1 ∷ 0 ∷ 0 ∷ 0
    ∷ 5 ∷ 0 ∷ 2 ∷ 0 ∷ 3 ∷ 0
    ∷ 4 ∷ 0 ∷ []

-- the file of AND(AND(input 0, input 1), input 2)
abbrev pub three_file : List ℕ
three_file =
    3 ∷ 0 ∷ 1 ∷ 0 ∷ 32 ∷ 0 ∷ 0 ∷ 0 ∷ 4 ∷ 0 ∷ 0 ∷ 0 ∷ 2 ∷ 0 ∷ 36 ∷ 0 ∷ 0 ∷ 0 ∷ 30 ∷ 0 ∷ 0 ∷ 0 ∷ 3 ∷ 0 ∷ 66 ∷ 0 ∷ 0 ∷ 0 ∷ 2 ∷ 0 ∷ 0 ∷ 0
    ∷ 3 ∷ 0 ∷ 1 ∷ 0
    ∷ 2 ∷ 0 ∷ 0 ∷ 0 ∷ 0 ∷ 0
    ∷ 2 ∷ 0 ∷ 1 ∷ 0 ∷ 0 ∷ 0
    ∷ 5 ∷ 0 ∷ 0 ∷ 0 ∷ 1 ∷ 0
    ∷ 2 ∷ 0 ∷ 2 ∷ 0 ∷ 0 ∷ 0
    ∷ 5 ∷ 0 ∷ 2 ∷ 0 ∷ 3 ∷ 0
    ∷ 4 ∷ 0 ∷ []

-- its circuit
abbrev pub three_circuit : Circuit
three_circuit = record { inputs = 3; outputs = 1; work = 1; gates = Toffoli 0 1 4 ∷ Toffoli 2 4 3 ∷ Toffoli 0 1 4 ∷ [] }

-- the same with its last AND marked (02, A7): the second byte of that node is 1
abbrev pub marked_file : List ℕ
marked_file = take 61 three_file ++ (1 ∷ drop 62 three_file)

-- its circuit
abbrev pub marked_circuit : Circuit
marked_circuit = record { inputs = 3; outputs = 1; work = 1; gates = Toffoli 0 1 4 ∷ Toffoli 2 4 3 ∷ Toffoli 0 1 4 ∷ Toffoli 0 1 4 ∷ Toffoli 0 1 4 ∷ [] }

-- the file of XOR of input 0 with itself
abbrev pub xor_file : List ℕ
xor_file =
    3 ∷ 0 ∷ 1 ∷ 0 ∷ 32 ∷ 0 ∷ 0 ∷ 0 ∷ 4 ∷ 0 ∷ 0 ∷ 0 ∷ 2 ∷ 0 ∷ 36 ∷ 0 ∷ 0 ∷ 0 ∷ 12 ∷ 0 ∷ 0 ∷ 0 ∷ 3 ∷ 0 ∷ 48 ∷ 0 ∷ 0 ∷ 0 ∷ 2 ∷ 0 ∷ 0 ∷ 0
    ∷ 1 ∷ 0 ∷ 1 ∷ 0
    ∷ 2 ∷ 0 ∷ 0 ∷ 0 ∷ 0 ∷ 0
    ∷ 4 ∷ 0 ∷ 0 ∷ 0 ∷ 0 ∷ 0
    ∷ 1 ∷ 0 ∷ []

-- a program with a node of each kind and two outputs, and no number twice where two could be exchanged
abbrev pub kinds_program : Program
kinds_program = record { inputs = 3; nodes = node.Zero ∷ node.One ∷ Input 2 ∷ node.Not 1 ∷ Xor 3 2 ∷ And false 4 0 ∷ []; outputs = 5 ∷ 3 ∷ [] }

-- its file
abbrev pub kinds_file : List ℕ
kinds_file =
    0x03 ∷ 0x00
    ∷ 0x01 ∷ 0x00 ∷ 0x20 ∷ 0x00 ∷ 0x00 ∷ 0x00 ∷ 0x04 ∷ 0x00 ∷ 0x00 ∷ 0x00
    ∷ 0x02 ∷ 0x00 ∷ 0x24 ∷ 0x00 ∷ 0x00 ∷ 0x00 ∷ 0x24 ∷ 0x00 ∷ 0x00 ∷ 0x00
    ∷ 0x03 ∷ 0x00 ∷ 0x48 ∷ 0x00 ∷ 0x00 ∷ 0x00 ∷ 0x04 ∷ 0x00 ∷ 0x00 ∷ 0x00
    ∷ 0x03 ∷ 0x00 ∷ 0x02 ∷ 0x00
    ∷ 0x00 ∷ 0x00 ∷ 0x00 ∷ 0x00 ∷ 0x00 ∷ 0x00
    ∷ 0x01 ∷ 0x00 ∷ 0x00 ∷ 0x00 ∷ 0x00 ∷ 0x00
    ∷ 0x02 ∷ 0x00 ∷ 0x02 ∷ 0x00 ∷ 0x00 ∷ 0x00
    ∷ 0x03 ∷ 0x00 ∷ 0x01 ∷ 0x00 ∷ 0x00 ∷ 0x00
    ∷ 0x04 ∷ 0x00 ∷ 0x03 ∷ 0x00 ∷ 0x02 ∷ 0x00
    ∷ 0x05 ∷ 0x00 ∷ 0x04 ∷ 0x00 ∷ 0x00 ∷ 0x00
    ∷ 0x05 ∷ 0x00 ∷ 0x03 ∷ 0x00 ∷ []

-- a program is written as these bytes, and they are read as the program
pub record ProgramBytes (p : Program) (bytes : List ℕ) : Type 0 where
  pub writes : program_file p ≡ bytes
  pub reads : read_program bytes ≡ result p

-- a file that reads as program p, compiles to circuit c and is listed as text; s has the sizes of its nodes
pub record CompiledCase (file : List ℕ) (p : Program) (s : List ℕ) (c : Circuit) (text : String) : Type 0 where
  pub bytes : ProgramBytes p file
  -- for every grant from w to 1,024, every size list with an entry for each node and every area with room for the file
  pub compiles : (grant : ℕ) (sizes area : List ℕ) → c.work ≤ grant → grant ≤ 1024 → length p.nodes ≤ length sizes → length (circuit_file c) ≤ length area
      → compile_of file grant sizes area ≡ record { answer = result (head_of c); sizes = s ++ drop (length p.nodes) sizes; area = circuit_file c ++ drop (length (circuit_file c)) area }
  pub prints : listing_of file 1024 ≡ ascii text

-- a circuit is written as these bytes, and they are read as the circuit
pub record FileBytes (c : Circuit) (bytes : List ℕ) : Type 0 where
  pub writes : circuit_file c ≡ bytes
  pub reads : read_circuit bytes ≡ result c

-- the file that compiling file to circuit c writes, run forwards on start, gives after; the program has k nodes
abbrev pub RunCase : List ℕ → ℕ → Circuit → List ℕ → List ℕ → Type 0
RunCase file k c start after =
    (grant : ℕ) (sizes area : List ℕ) → c.work ≤ grant → grant ≤ 1024 → k ≤ length sizes → length (circuit_file c) ≤ length area
    → run_forwards (file_written (head_of c) (compile_of file grant sizes area).area) start ≡ result after

-- the starred examples of 01 and cases of 02: a row for each, which holds whatever the size list and the area held before
pub record Examples : Type 0 where
  -- the whole case: one Toffoli and no work line, so that every grant from 0 to 1,024 is enough
  pub whole : CompiledCase whole_file (record { inputs = 2; nodes = Input 0 ∷ Input 1 ∷ And false 0 1 ∷ []; outputs = 2 ∷ [] }) (1 ∷ 1 ∷ 3 ∷ []) whole_circuit
      "lines 2 1 0 gates 1\nT 0 1 2\n"
  -- a second program file byte for byte
  pub kinds_bytes : ProgramBytes kinds_program kinds_file
  -- the circuit file of the whole case has 36 bytes, and these are they
  pub whole_length : length (circuit_file whole_circuit) ≡ 36
  pub whole_bytes : FileBytes whole_circuit whole_circuit_file
  -- a second file byte for byte, with a NOT and w over 255
  pub wide_bytes : FileBytes wide_circuit wide_circuit_file
  -- with the controls of its last gate exchanged it gives 12, place 2
  pub wide_order : read_circuit (take 44 wide_circuit_file ++ (0x03 ∷ 0x00 ∷ 0x03 ∷ 0x01 ∷ 0x00 ∷ 0x01 ∷ 0x02 ∷ 0x00 ∷ [])) ≡ refused 12 2
  -- an area of 35 gives 11, place 1, and is all zero
  pub whole_area : (grant : ℕ) (sizes area : List ℕ) → grant ≤ 1024 → 3 ≤ length sizes → length area ≡ 35
      → compile_of whole_file grant sizes area ≡ record { answer = refused 11 1; sizes = 1 ∷ 1 ∷ 3 ∷ drop 3 sizes; area = replicate 35 0 }
  -- inputs 1 1, target 1: the target ends 0
  pub whole_target : RunCase whole_file 3 whole_circuit (1 ∷ 1 ∷ 1 ∷ []) (1 ∷ 1 ∷ 0 ∷ [])
  -- NOR as AND of two NOTs: 9 gates, w 2
  pub nor : CompiledCase nor_file (record { inputs = 2; nodes = Input 0 ∷ Input 1 ∷ node.Not 0 ∷ node.Not 1 ∷ And false 2 3 ∷ []; outputs = 4 ∷ [] }) (1 ∷ 1 ∷ 2 ∷ 2 ∷ 5 ∷ [])
      (record { inputs = 2; outputs = 1; work = 2; gates = gate.Not 3 ∷ Cnot 0 3 ∷ gate.Not 4 ∷ Cnot 1 4 ∷ Toffoli 3 4 2 ∷ Cnot 1 4 ∷ gate.Not 4 ∷ Cnot 0 3 ∷ gate.Not 3 ∷ [] })
      "lines 2 1 2 gates 9\nN 3\nC 0 3\nN 4\nC 1 4\nT 3 4 2\nC 1 4\nN 4\nC 0 3\nN 3\n"
  -- AND(AND(input 0, input 1), input 2): T 0 1 4, T 2 4 3, T 0 1 4, w 1
  pub three : CompiledCase three_file (record { inputs = 3; nodes = Input 0 ∷ Input 1 ∷ And false 0 1 ∷ Input 2 ∷ And false 2 3 ∷ []; outputs = 4 ∷ [] }) (1 ∷ 1 ∷ 3 ∷ 1 ∷ 5 ∷ []) three_circuit
      "lines 3 1 1 gates 3\nT 0 1 4\nT 2 4 3\nT 0 1 4\n"
  -- a grant of 0 gives 10, place 1
  pub three_grant : (sizes area : List ℕ) → 5 ≤ length sizes
      → compile_of three_file 0 sizes area ≡ record { answer = refused 10 1; sizes = 1 ∷ 1 ∷ 3 ∷ 1 ∷ 5 ∷ drop 5 sizes; area = area }
  -- and is listed so
  pub three_refused : listing_of three_file 0 ≡ ascii "refused 10 1\n"
  -- inputs 1 1 1, target 1: the target ends 0
  pub three_target : RunCase three_file 5 three_circuit (1 ∷ 1 ∷ 1 ∷ 1 ∷ 0 ∷ []) (1 ∷ 1 ∷ 1 ∷ 0 ∷ 0 ∷ [])
  -- with line 4 starting at 1, the target stays 1 and line 4 ends 1
  pub three_line : RunCase three_file 5 three_circuit (1 ∷ 1 ∷ 1 ∷ 1 ∷ 1 ∷ []) (1 ∷ 1 ∷ 1 ∷ 1 ∷ 1 ∷ [])
  -- typed (02, A6), it is this file; an area that is a byte short gives 11, place 5, and is all zero; a refused text leaves the area as it was
  pub three_typed : (area : List ℕ) → 68 ≤ length area → parse_of (ascii "x0&x1&x2") 3 area ≡ record { answer = result 68; area = three_file ++ drop 68 area }
  pub three_area : (area : List ℕ) → length area ≡ 67 → parse_of (ascii "x0&x1&x2") 3 area ≡ record { answer = refused 11 5; area = replicate 67 0 }
  pub three_inputs : (area : List ℕ) → parse_of (ascii "x0&x1&x2") 2 area ≡ record { answer = refused 5 3; area = area }
  pub three_outside : (area : List ℕ) → parse_of (ascii "x0&x1&x") 3 area ≡ record { answer = refused 16 7; area = area }
  -- with its last AND marked (02, A7), what made its operands is undone behind it, and both again at the end
  pub marked : CompiledCase marked_file (record { inputs = 3; nodes = Input 0 ∷ Input 1 ∷ And false 0 1 ∷ Input 2 ∷ And true 2 3 ∷ []; outputs = 4 ∷ [] }) (1 ∷ 1 ∷ 3 ∷ 1 ∷ 5 ∷ []) marked_circuit
      "lines 3 1 1 gates 5\nT 0 1 4\nT 2 4 3\nT 0 1 4\nT 0 1 4\nT 0 1 4\n"
  -- a mark of 2 gives 5 at its node
  pub marked_two : read_program (take 61 marked_file ++ (2 ∷ drop 62 marked_file)) ≡ refused 5 4
  -- XOR of input 0 with itself: C 0 1 twice
  pub xor_self : CompiledCase xor_file (record { inputs = 1; nodes = Input 0 ∷ Xor 0 0 ∷ []; outputs = 1 ∷ [] }) (1 ∷ 3 ∷ [])
      (record { inputs = 1; outputs = 1; work = 0; gates = Cnot 0 1 ∷ Cnot 0 1 ∷ [] })
      "lines 1 1 0 gates 2\nC 0 1\nC 0 1\n"
  -- a mark on it gives 5 at its node
  pub xor_marked : read_program (take 43 xor_file ++ (1 ∷ drop 44 xor_file)) ≡ refused 5 1
