-- Laws of circuits that are the same but for the order of controls. Assumes nothing.
use mathlib.Core.Path.{◌≡◌, refl, ap, sym, subst, ap₂, ◌∙◌}
use mathlib.Core.List.{List}
use Rattle.refusal.specs.Answers.{result}
use Rattle.gate.specs.declared.gates.Gate.{Gate}
use Rattle.gate.specs.Gates.{WellFormed, All}
use Rattle.gate.proofs.ControlOrderLaws.{FormedAs, formed_as, same_gates}
use Rattle.circuit.specs.declared.reader.CircuitHead.{CircuitHead}
use Rattle.circuit.specs.Circuits.{Circuit, head_of, head_lines, line_count, Legal, SameButOrder}
use Rattle.circuit.specs.Theorems.{OneOrder, NoneLost}
use Rattle.circuit.proofs.FileLaws.{only_writing, same_bytes}

-- no circuit is lost by the order of controls
pub none_lost : NoneLost
none_lost c numbers fits =
    let f : FormedAs (line_count c) c.gates = formed_as (line_count c) c.gates fits in
    let d : Circuit = record { inputs = c.inputs; outputs = c.outputs; work = c.work; gates = f.gates } in
    let same : head_of c ≡ head_of d = rw f.long refl in
    record { other = d; legal = record { numbers = rw same at numbers; formed = f.formed }; same = record { numbers = same; gates = f.same } }

-- two legal circuits that are the same but for it are the same
legal_same : (c d : Circuit) → Legal c → Legal d → SameButOrder c d → c ≡ d
legal_same c d lc ld same =
    let formed : All (WellFormed (line_count c)) d.gates = subst (λ (h : CircuitHead). All (WellFormed (head_lines h)) d.gates) (sym same.numbers) ld.formed in
    ap₂ circuit same.numbers (same_gates (line_count c) c.gates d.gates lc.formed formed same.gates)
  where
    circuit : CircuitHead → List Gate → Circuit
    circuit h gs = record { inputs = h.inputs; outputs = h.outputs; work = h.work; gates = gs }

-- two accepted files whose circuits are the same but for it are the same bytes
pub one_order : OneOrder
one_order f g c d bf bg ef eg same =
    let is : c ≡ d = legal_same c d (only_writing f c bf ef).legal (only_writing g d bg eg).legal same in
    same_bytes f g d bf bg (ef ∙ ap result is) eg
