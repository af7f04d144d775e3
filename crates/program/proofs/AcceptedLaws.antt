-- What an accepted program file holds. Assumes nothing.
use Prim.Native.Nat.{ℕ, ◌<◌, ◌≤◌}
use native.Mathlib.Omega.{arith}
use mathlib.Core.Path.{◌≡◌, refl, sym, ap, ◌∙◌}
use mathlib.Core.Bool.{Bool, true, ◌&&◌}
use mathlib.Core.List.{List}
use lib.ListN.{length, get_or}
use lib.Dec.{leb}
use borrow.Author.Tests.{ltb-true, leb-true}
use Rattle.wire.specs.Limits.{most_inputs, most_outputs}
use Rattle.std.specs.Prelude.{Result, Ok, Err}
use Rattle.refusal.specs.Answers.{Answer, answer_of, result, refuse, check, map_answer, number_of, place_of}
use Rattle.refusal.specs.Checks.{all_below, lowest}
use Rattle.contents.specs.Contents.{table_fits, entries_fit, body_of}
use Rattle.contents.specs.Arity.{inputs_of, outputs_of, arity_fits}
use Rattle.refusal.specs.declared.causes.Refusal.{Refusal}
use Rattle.refusal.specs.declared.causes.Refusal.TheVariants as cause
use Rattle.refusal.proofs.AnswerLaws.{checked, checked_next, came, came_refused, Never, never_result, never_check}
use Rattle.contents.proofs.ContentsLaws.{laid}
use Rattle.refusal.proofs.CheckLaws.{both_first, both_second, all_below_lem}
use Rattle.wire.proofs.ListLaws.{tabulate_length, tabulate_at}
use Rattle.node.specs.declared.nodes.Node.TheVariants.{Zero}
use Rattle.program.specs.declared.reader.Head.{Head}
use Rattle.node.specs.Nodes.{node_at, nodes_in, node_fits, TableOk}
use Rattle.program.specs.Programs.{Program, head_of}
use Rattle.program.specs.Format.{tags}
use Rattle.program.specs.Reading.{nodes_of, lengths_fit, output_at, output_fits, program_of, read_bodies, read_program}
use Rattle.node.specs.Trees.{trees}
use Rattle.node.specs.Exprs.{ZERO, InputsBelow}
use Rattle.node.proofs.NodeLaws.{node_ok}
use Rattle.program.proofs.ReadingLaws.{Sized, sized, nodes_counted}
use Rattle.node.proofs.TreeLaws.{trees_below, nodes_count, node_in}

-- an accepted file: every test held
pub record Accepted (f : List ℕ) : Type 0 where
  pub is : read_program f ≡ result (program_of f)
  pub table : table_fits 3 f ≡ true
  pub entries : entries_fit tags f ≡ true
  pub sized : Sized f
  pub inputs_most : inputs_of f ≤ most_inputs
  pub outputs_some : 1 ≤ outputs_of f
  pub outputs_most : outputs_of f ≤ most_outputs
  pub nodes_fit : (i : ℕ) → i < nodes_of f → node_fits (inputs_of f) (body_of f 1) i ≡ true
  pub outputs_fit : (k : ℕ) → k < outputs_of f → output_at (body_of f 2) k < nodes_of f

-- causes 5 and 6 passed
record Ordered (f : List ℕ) (p : Program) : Type 0 where
  pub nodes_fit : (i : ℕ) → i < nodes_of f → node_fits (inputs_of f) (body_of f 1) i ≡ true
  pub outputs_fit : (k : ℕ) → k < outputs_of f → output_at (body_of f 2) k < nodes_of f
  pub same : result (program_of f) ≡ result p

ordered : (f : List ℕ) (p : Program) → read_bodies f ≡ result p → Ordered f p
unfolding read_bodies output_fits
ordered f p e =
    let node : ℕ → Bool = node_fits (inputs_of f) (body_of f 1) in
    let output : ℕ → Bool = output_fits (nodes_of f) (body_of f 2) in
    let nodes : Bool = all_below node (nodes_of f) in
    let outputs : Bool = all_below output (outputs_of f) in
    let lowest_node : Refusal = cause.Node (lowest node (nodes_of f)) in
    let lowest_output : Refusal = cause.Output (lowest output (outputs_of f)) in
    let rest : Answer Program = check outputs lowest_output (result (program_of f)) in
    let e₆ : rest ≡ result p = checked_next p nodes lowest_node rest e in
    record {
      nodes_fit = all_below_lem node (nodes_of f) (checked p nodes lowest_node rest e);
      outputs_fit = λ k h. ltb-true (output_at (body_of f 2) k) (nodes_of f) (all_below_lem output (outputs_of f) (checked p outputs lowest_output (result (program_of f)) e₆) k h);
      same = checked_next p outputs lowest_output (result (program_of f)) e₆;
    }

-- a file that reads as a program passed every test
pub accepted : (f : List ℕ) (p : Program) → read_program f ≡ result p → Accepted f
unfolding read_program arity_fits
accepted f p e =
    let ranges : Answer Program = check (arity_fits (body_of f 0)) cause.Range (read_bodies f) in
    let lengths : Answer Program = check (lengths_fit f) cause.BodyLength ranges in
    let entries : Answer Program = check (entries_fit tags f) cause.Contents lengths in
    let e₂ : entries ≡ result p = checked_next p (table_fits 3 f) cause.Table entries e in
    let e₃ : lengths ≡ result p = checked_next p (entries_fit tags f) cause.Contents lengths e₂ in
    let e₄ : ranges ≡ result p = checked_next p (lengths_fit f) cause.BodyLength ranges e₃ in
    let o = ordered f p (checked_next p (arity_fits (body_of f 0)) cause.Range (read_bodies f) e₄) in
    let in_range : arity_fits (body_of f 0) ≡ true = checked p (arity_fits (body_of f 0)) cause.Range (read_bodies f) e₄ in
    let n : Bool = leb (inputs_of f) most_inputs in
    let m₁ : Bool = leb 1 (outputs_of f) in
    let m₂ : Bool = leb (outputs_of f) most_outputs in
    let t : table_fits 3 f ≡ true = checked p (table_fits 3 f) cause.Table entries e in
    let c : entries_fit tags f ≡ true = checked p (entries_fit tags f) cause.Contents lengths e₂ in
    record {
      is = e ∙ sym o.same;
      table = t;
      entries = c;
      sized = sized f (laid tags f t c) (checked p (lengths_fit f) cause.BodyLength ranges e₃);
      inputs_most = leb-true (inputs_of f) most_inputs (both_first n (m₁ && m₂) in_range);
      outputs_some = leb-true 1 (outputs_of f) (both_first m₁ m₂ (both_second n (m₁ && m₂) in_range));
      outputs_most = leb-true (outputs_of f) most_outputs (both_second m₁ m₂ (both_second n (m₁ && m₂) in_range));
      nodes_fit = o.nodes_fit;
      outputs_fit = o.outputs_fit;
    }

-- where the reader answered a head, the file is accepted and the head is its program's
pub record Read (f : List ℕ) (h : Head) : Type 0 where
  pub accepts : Accepted f
  pub head : h ≡ head_of (program_of f)

pub read : (f : List ℕ) {r : Result Head Refusal} {h : Head} → answer_of r ≡ map_answer head_of (read_program f) → r ≡ Ok h → Read f h
read f {r} {h} e g =
    let k = came head_of (read_program f) h (sym (ap answer_of g) ∙ e) in
    let a = accepted f k.from k.was in
    let same : k.from ≡ program_of f = cc in
    record { accepts = a; head = k.reads ∙ ap head_of same }

-- where it refused, the file is refused for that cause
pub read_refused : (f : List ℕ) {r : Result Head Refusal} {why : Refusal} → answer_of r ≡ map_answer head_of (read_program f) → r ≡ Err why → read_program f ≡ refuse why
read_refused f {r} {why} e g = came_refused head_of (read_program f) (number_of why) (place_of why) (sym (ap answer_of g) ∙ e)

-- reading a program never finds that there is no room
pub reader_room : (f : List ℕ) → Never 11 (read_program f)
unfolding read_program read_bodies
reader_room f =
    let read : Answer Program = result (program_of f) in
    let outputs : Answer Program = check (all_below (output_fits (nodes_of f) (body_of f 2)) (outputs_of f)) (cause.Output (lowest (output_fits (nodes_of f) (body_of f 2)) (outputs_of f))) read in
    let ranges : Answer Program = check (arity_fits (body_of f 0)) cause.Range (read_bodies f) in
    let lengths : Answer Program = check (lengths_fit f) cause.BodyLength ranges in
    let entries : Answer Program = check (entries_fit tags f) cause.Contents lengths in
    never_check 11 (table_fits 3 f) cause.Table entries (omega arith)
    (never_check 11 (entries_fit tags f) cause.Contents lengths (omega arith)
    (never_check 11 (lengths_fit f) cause.BodyLength ranges (omega arith)
    (never_check 11 (arity_fits (body_of f 0)) cause.Range (read_bodies f) (omega arith)
    (never_check 11 (all_below (node_fits (inputs_of f) (body_of f 1)) (nodes_of f)) (cause.Node (lowest (node_fits (inputs_of f) (body_of f 1)) (nodes_of f))) outputs (omega arith)
    (never_check 11 (all_below (output_fits (nodes_of f) (body_of f 2)) (outputs_of f)) (cause.Output (lowest (output_fits (nodes_of f) (body_of f 2)) (outputs_of f))) read (omega arith)
    (never_result 11 (program_of f)))))))

-- the table and the outputs of an accepted program
module _ (f : List ℕ) (a : Accepted f) where
  pub nodes_length : length (program_of f).nodes ≡ nodes_of f
  unfolding program_of
  nodes_length = nodes_count (body_of f 1) ∙ nodes_counted f a.sized

  -- they are the nodes of the node body
  pub same_nodes : nodes_in (body_of f 1) ≡ (program_of f).nodes
  unfolding program_of
  same_nodes = refl

  pub node_is : (i : ℕ) → i < nodes_of f → get_or (program_of f).nodes i Zero ≡ node_at (body_of f 1) i
  unfolding program_of
  node_is i h = node_in (body_of f 1) i (omega (arith, nodes_counted f a.sized))

  pub outputs_length : length (program_of f).outputs ≡ outputs_of f
  unfolding program_of
  outputs_length = tabulate_length (output_at (body_of f 2)) (outputs_of f)

  pub output_is : (k : ℕ) → k < outputs_of f → get_or (program_of f).outputs k 0 ≡ output_at (body_of f 2) k
  unfolding program_of
  output_is k h = tabulate_at (output_at (body_of f 2)) (outputs_of f) k 0 h

  pub inputs_is : (program_of f).inputs ≡ inputs_of f
  unfolding program_of
  inputs_is = refl

  -- every node of it is in order
  pub table_ok : TableOk (inputs_of f) (program_of f).nodes
  table_ok i h =
      let l : i < nodes_of f = omega (arith, nodes_length) in
      rw (node_is i l) (node_ok (inputs_of f) (body_of f 1) i (a.nodes_fit i l))

  -- every output names one of its nodes
  pub outputs_ok : (k : ℕ) → k < length (program_of f).outputs → get_or (program_of f).outputs k 0 < length (program_of f).nodes
  outputs_ok k h =
      let l : k < outputs_of f = omega (arith, outputs_length) in
      omega (arith, nodes_length, output_is k l, a.outputs_fit k l)

  -- inputs are below n in every tree
  pub inputs_below : (i : ℕ) → InputsBelow (inputs_of f) (get_or (trees (program_of f).nodes) i ZERO)
  inputs_below i = trees_below (inputs_of f) (program_of f).nodes table_ok i
