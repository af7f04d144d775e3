-- The fields of a gate, and what the gate reader answers.
use Rattle.std.specs.Prelude.{ℕ, ◌+◌, ◌*◌, List, ◌∷◌, ◌++◌, get_or}
use Rattle.wire.specs.Bytes.{at16, bytes16}
use Rattle.refusal.specs.Answers.{Answer, result, refuse, check}
use Rattle.refusal.specs.declared.causes.Refusal.TheVariants as cause
use Rattle.gate.specs.declared.gates.Gate.{Gate}
use Rattle.gate_bytes.specs.declared.fields.Fields.{Fields}
use Rattle.gate_bytes.specs.declared.reader.GateRead.{GateRead}
use Rattle.gate_bytes.specs.declared.reader.GateRead.TheVariants.{Good, Bad}
use Rattle.gate_bytes.specs.GateBytes.{gate_at, gate_fits}

-- the fields of gate i of a gate body
abbrev pub fields_at : List ℕ → ℕ → Fields
fields_at body i =
    record {
      kind = get_or body (8 * i) 0;
      blank = get_or body (8 * i + 1) 0;
      first = at16 body (8 * i + 2);
      second = at16 body (8 * i + 4);
      target = at16 body (8 * i + 6);
    }

-- the eight bytes of fields
abbrev pub bytes_of : Fields → List ℕ
bytes_of f = f.kind ∷ f.blank ∷ (bytes16 f.first ++ (bytes16 f.second ++ bytes16 f.target))

-- what reading gate i gives: the gate, or cause 12 with its index
unfoldable pub read_gate : ℕ → List ℕ → ℕ → Answer Gate
read_gate L body i = check (gate_fits L body i) (cause.Gate i) (result (gate_at body i))

-- the gate reader's answer in 01's terms: the gate, or a number and a place
abbrev pub gate_read : GateRead → Answer Gate
gate_read (Good gate) = result gate
gate_read (Bad i) = refuse (cause.Gate i)
