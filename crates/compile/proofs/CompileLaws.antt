-- Laws of compiling a file: the answer, the size list and the area at exit, case by case. Assumes nothing.
use Prim.Native.Nat.{ℕ, ◌/◌, ◌<◌, ◌≤◌}
use native.Mathlib.Omega.{arith}
use mathlib.Core.Path.{◌≡◌, refl, sym, ap, ap₂, ◌∙◌}
use mathlib.Core.Logic.{◌≢◌}
use mathlib.Core.List.{List, ◌++◌}
use lib.ListN.{length, drop}
use borrow.Author.Tests.{le-leb, lt-leb}
use Rattle.refusal.specs.Answers.{Answer, result, refused, refuse, and_then, map_answer}
use Rattle.contents.specs.Contents.{body_of}
use Rattle.contents.specs.Arity.{inputs_of}
use Rattle.refusal.specs.declared.causes.Refusal.TheVariants as cause
use Rattle.circuit.specs.declared.reader.CircuitHead.{CircuitHead}
use Rattle.circuit.specs.Circuits.{Circuit, head_of}
use Rattle.wire.specs.Areas.{area_after}
use Rattle.wire.proofs.AreaLaws.{area_kept}
use Rattle.circuit.specs.Format.{circuit_file}
use Rattle.node.specs.declared.nodes.Node.{Node}
use Rattle.program.specs.declared.reader.Head.{Head}
use Rattle.node.specs.Nodes.{nodes_in}
use Rattle.program.specs.Programs.{Program}
use Rattle.program.specs.Reading.{program_of, read_program}
use Rattle.program.proofs.AcceptedLaws.{Read, reader_room, same_nodes}
use Rattle.program.proofs.BodyLaws.{body_nodes, head_nodes, fillable}
use Rattle.sizing.specs.Sizing.{node_sizes}
use Rattle.node.specs.Steps.{Fillable}
use Rattle.compilation.specs.Compiling.{compile_program, read_with_sizes, compile_file, sizes_after, compile_of}
use Rattle.compilation.specs.Demand.{Demand3}
use Rattle.compilation.specs.Marks.{MarksClean}
use Rattle.compilation.proofs.DemandLaws.{demand_met}
use Rattle.compilation.proofs.MarkLaws.{marks_met}
use Rattle.compile.specs.Steps.{Listed}

module _ (f : List ℕ) (grant : ℕ) (sizes area : List ℕ) where
  -- the answer a, the size list l and the area at exit are those of the service's definition
  pub record Outcome (a : Answer CircuitHead) (l after : List ℕ) : Type 0 where
    pub answer : a ≡ (compile_of f grant sizes area).answer
    pub sizes_are : l ≡ (compile_of f grant sizes area).sizes
    pub area_is : after ≡ (compile_of f grant sizes area).area

  -- what the program read leads to
  abbrev led : Answer Program → Answer Circuit
  led x = and_then x (λ p. compile_program p grant (length area))

  outcome : (x : Answer Program) → read_with_sizes f (length sizes) ≡ x → Outcome (map_answer head_of (led x)) (sizes_after x sizes) (area_after (map_answer circuit_file (led x)) area)
  unfolding compile_of compile_file
  outcome x e = record { answer = rw e refl; sizes_are = rw e refl; area_is = rw e refl }

  -- a refusal before the sizes leaves both lists as they were
  unread : (n p : ℕ) → read_with_sizes f (length sizes) ≡ refused n p → n ≢ 11 → Outcome (refused n p) sizes area
  unread n p e h =
      let o = outcome (refused n p) e in
      record { answer = o.answer; sizes_are = o.sizes_are; area_is = sym (area_kept n p area h) ∙ o.area_is }

  -- the reader's refusal is passed on
  pub reader_refuses : (n p : ℕ) → read_program f ≡ refused n p → Outcome (refused n p) sizes area
  unfolding read_with_sizes
  reader_refuses n p e = unread n p (rw e refl) (reader_room f n p e)

  module _ {h : Head} (r : Read f h) where
    pub list_short : length sizes < h.nodes → Outcome (refuse cause.ListLength) sizes area
    unfolding read_with_sizes
    list_short s =
        unread 7 0 (rw (r.accepts.is, lt-leb (length (program_of f).nodes) (length sizes) (omega (arith, head_nodes r))) refl) (omega arith)

    -- the list is long enough: it holds the nodes' sizes, and the rest is as compiling the program says
    pub sized : h.nodes ≤ length sizes
        → Outcome
        (map_answer head_of (compile_program (program_of f) grant (length area)))
        (node_sizes (program_of f).nodes ++ drop (length (program_of f).nodes) sizes)
        (area_after (map_answer circuit_file (compile_program (program_of f) grant (length area))) area)
    unfolding read_with_sizes
    sized s =
        outcome (result (program_of f)) (rw (r.accepts.is, le-leb (length (program_of f).nodes) (length sizes) (omega (arith, head_nodes r))) refl)

    -- these sizes are those of the node body
    pub sizes_stored : node_sizes (nodes_in (body_of f 1)) ++ drop (length (body_of f 1) / 6) sizes ≡ node_sizes (program_of f).nodes ++ drop (length (program_of f).nodes) sizes
    sizes_stored =
        ap₂ (λ (ns : List Node) (n : ℕ). node_sizes ns ++ drop n sizes) (same_nodes f r.accepts) (body_nodes f r.accepts)

-- the nodes of a program that was read have sizes, and the list then holds them
module _ {f : List ℕ} {h : Head} (r : Read f h) where
  pub sizeable : {entries : ℕ} → h.nodes ≤ entries → (n : ℕ) × Fillable n (body_of f 1) entries
  sizeable s = (inputs_of f, fillable r _ s)

  pub listed : (old : List ℕ) {new : List ℕ} → new ≡ node_sizes (nodes_in (body_of f 1)) ++ drop (length (body_of f 1) / 6) old → Listed f h new
  listed old e = record { reads = r.accepts.is; numbers = r.head; later = drop (length (body_of f 1) / 6) old; listed = e ∙ ap (λ (ns : List Node). node_sizes ns ++ drop (length (body_of f 1) / 6) old) (same_nodes f r.accepts) }

-- what is promised of every answer and area that are what compiling gives and leaves
pub promises : (file : List ℕ) (grant : ℕ) (sizes area : List ℕ) {answer : Answer CircuitHead} {after : List ℕ}
    → answer ≡ (compile_of file grant sizes area).answer → after ≡ (compile_of file grant sizes area).area → Demand3 file answer after × MarksClean file answer after
promises file grant sizes area e q = (demand_met file grant sizes area e q, marks_met file grant sizes area e q)
