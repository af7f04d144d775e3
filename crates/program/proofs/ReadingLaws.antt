-- Laws of reading a program file: what each test that held says. Assumes nothing.
use Prim.Native.Nat.{ℕ, ◌*◌, ◌/◌, ◌%◌, ◌≤◌}
use native.Mathlib.Omega.{arith}
use mathlib.Core.Path.{◌≡◌, refl, sym, ap, ◌∙◌}
use mathlib.Core.Bool.{Bool, true, ◌&&◌}
use mathlib.Core.List.{List}
use lib.ListN.{length}
use lib.Dec.{eqb, leb}
use borrow.Author.Tests.{eqb-true, leb-true}
use Rattle.wire.specs.Limits.{most_nodes}
use Rattle.contents.specs.Contents.{entry_length, body_of}
use Rattle.contents.specs.Arity.{inputs_of, outputs_of, arity_fits}
use Rattle.contents.specs.Steps.{read_contents, Laid}
use Rattle.refusal.proofs.CheckLaws.{both_first, both_second}
use Rattle.contents.proofs.ContentsLaws.{body_length, contents_next}
use Rattle.wire.proofs.ListLaws.{tabulate_length}
use Rattle.node.proofs.TreeLaws.{nodes_count}
use Rattle.std.specs.Prelude.{Result, Ok, Err}
use Rattle.refusal.specs.declared.causes.Refusal.{Refusal}
use Rattle.refusal.specs.Answers.{Answer, answer_of, check_each, checked_each, refuse, map_answer, result, check}
use Rattle.refusal.proofs.AnswerLaws.{each_next, each_refused}
use Rattle.refusal.specs.declared.causes.Refusal.TheVariants as cause
use Rattle.program.specs.declared.reader.Head.{Head}
use Rattle.node.specs.Nodes.{node_fits}
use Rattle.program.specs.Programs.{Program, head_of}
use Rattle.program.specs.Format.{tags}
use Rattle.program.specs.Reading.{nodes_of, lengths_fit, output_at, output_fits, program_of, read_bodies, read_program}

-- a file that passes causes 1 to 3
pub record Sized (f : List ℕ) : Type 0 where
  pub laid : Laid 3 f
  pub four : entry_length f 0 ≡ 4
  pub sixes : entry_length f 1 ≡ 6 * nodes_of f
  pub some : 1 ≤ nodes_of f
  pub most : nodes_of f ≤ most_nodes
  pub twos : entry_length f 2 ≡ 2 * outputs_of f

module _ (f : List ℕ) where
  pub sized : Laid 3 f → lengths_fit f ≡ true → Sized f
  unfolding lengths_fit
  sized l e =
      let four : Bool = eqb (entry_length f 0) 4 in
      let sixes : Bool = eqb (entry_length f 1 % 6) 0 in
      let some : Bool = leb 1 (nodes_of f) in
      let most : Bool = leb (nodes_of f) most_nodes in
      let twos : Bool = eqb (entry_length f 2) (2 * outputs_of f) in
      let a : (four && (sixes && (some && most))) ≡ true = both_first (four && (sixes && (some && most))) twos e in
      let b : (sixes && (some && most)) ≡ true = both_second four (sixes && (some && most)) a in
      let c : (some && most) ≡ true = both_second sixes (some && most) b in
      let rest : entry_length f 1 % 6 ≡ 0 = eqb-true (entry_length f 1 % 6) 0 (both_first sixes (some && most) b) in
      record {
        laid = l;
        four = eqb-true (entry_length f 0) 4 (both_first four (sixes && (some && most)) a);
        sixes = omega (arith, rest);
        some = leb-true 1 (nodes_of f) (both_first some most c);
        most = leb-true (nodes_of f) most_nodes (both_second some most c);
        twos = eqb-true (entry_length f 2) (2 * outputs_of f) (both_second (four && (sixes && (some && most))) twos e);
      }

  -- the checks behind causes 1 and 2
  abbrev pub program_checks : Answer Program
  program_checks = check (lengths_fit f) cause.BodyLength (check (arity_fits (body_of f 0)) cause.Range (read_bodies f))

  -- where these found nothing, reading goes on with them
  pub program_checks_lem : {r : Result (Unit {0}) Refusal} → answer_of r ≡ read_contents tags f → r ≡ Ok tt → read_program f ≡ program_checks
  unfolding read_program
  program_checks_lem e g = contents_next tags f e g program_checks

  module _ (l : Laid 3 f) where
    -- each body is as long as its entry says
    pub head_long : length (body_of f 0) ≡ entry_length f 0
    head_long = body_length f 0 (l.within 0 (omega arith))

    pub nodes_long : length (body_of f 1) ≡ entry_length f 1
    nodes_long = body_length f 1 (l.within 1 (omega arith))

    pub outputs_long : length (body_of f 2) ≡ entry_length f 2
    outputs_long = body_length f 2 (l.within 2 (omega arith))

  module _ (s : Sized f) where
    pub nodes_counted : length (body_of f 1) / 6 ≡ nodes_of f
    nodes_counted = omega (arith, nodes_long s.laid, s.sixes)

    pub outputs_counted : length (body_of f 2) / 2 ≡ outputs_of f
    outputs_counted = omega (arith, outputs_long s.laid, s.twos)

    -- the nodes and the outputs are checked as the file asks
    nodes_said : {n : ℕ} {nodes : List ℕ} → n ≡ inputs_of f → nodes ≡ body_of f 1
        → checked_each (node_fits n nodes) (length nodes / 6) cause.Node ≡ checked_each (node_fits (inputs_of f) (body_of f 1)) (nodes_of f) cause.Node
    nodes_said e g = rw (e, g, nodes_counted) refl

    outputs_said : {k : ℕ} {outputs : List ℕ} → k ≡ nodes_of f → outputs ≡ body_of f 2
        → checked_each (output_fits k outputs) (length outputs / 2) cause.Output ≡ checked_each (output_fits (nodes_of f) (body_of f 2)) (outputs_of f) cause.Output
    outputs_said e g = rw (e, g, outputs_counted) refl

-- the head that the reader answers is the program's
pub head_of_lem : (f : List ℕ) {n m k : ℕ} → Sized f → n ≡ inputs_of f → m ≡ outputs_of f → k ≡ nodes_of f → ◌≡◌ {A = Answer Head} (result (record { inputs = n; outputs = m; nodes = k })) (result (head_of (program_of f)))
unfolding program_of
head_of_lem f {n} {m} {k} s a b c =
    let ls = nodes_count (body_of f 1) ∙ nodes_counted f s in
    let os = tabulate_length (output_at (body_of f 2)) (outputs_of f) in
    cc

-- what the readers of the bodies answer, case by case
module _ (f : List ℕ) (s : Sized f) where
  abbrev outputs_next : Answer Program
  outputs_next = check_each (output_fits (nodes_of f) (body_of f 2)) (outputs_of f) cause.Output (result (program_of f))

  module _ {n : ℕ} {nodes : List ℕ} (e : n ≡ inputs_of f) (b : nodes ≡ body_of f 1) {r : Result (Unit {0}) Refusal}
      (said : answer_of r ≡ checked_each (node_fits n nodes) (length nodes / 6) cause.Node) where
    -- a refusal of a node is passed on
    pub node_refused : {why : Refusal} → r ≡ Err why → refuse why ≡ map_answer head_of (read_bodies f)
    unfolding read_bodies
    node_refused g = rw (each_refused (node_fits (inputs_of f) (body_of f 1)) (nodes_of f) cause.Node (said ∙ nodes_said f s e b) outputs_next g) refl

    -- and where there is none the outputs are read
    module _ (g : r ≡ Ok tt) where
      goes_on : read_bodies f ≡ outputs_next
      unfolding read_bodies
      goes_on = each_next (node_fits (inputs_of f) (body_of f 1)) (nodes_of f) cause.Node (said ∙ nodes_said f s e b) outputs_next g

      module _ {k : ℕ} {outputs : List ℕ} (h : k ≡ nodes_of f) (o : outputs ≡ body_of f 2) {q : Result (Unit {0}) Refusal}
          (found : answer_of q ≡ checked_each (output_fits k outputs) (length outputs / 2) cause.Output) where
        pub output_refused : {why : Refusal} → q ≡ Err why → refuse why ≡ map_answer head_of (read_bodies f)
        output_refused z = rw (goes_on, each_refused (output_fits (nodes_of f) (body_of f 2)) (outputs_of f) cause.Output (found ∙ outputs_said f s h o) (result (program_of f)) z) refl

        pub bodies_read : {m : ℕ} → m ≡ outputs_of f → q ≡ Ok tt → result (record { inputs = n; outputs = m; nodes = k }) ≡ map_answer head_of (read_bodies f)
        bodies_read c z =
            head_of_lem f s e c h
            ∙ sym (ap (map_answer head_of) (goes_on ∙ each_next (output_fits (nodes_of f) (body_of f 2)) (outputs_of f) cause.Output (found ∙ outputs_said f s h o) (result (program_of f)) z))
