-- Laws of a service that is asked for an output and fills a list with a number for each node: its answer and the list at exit, case by case, for any test of the inputs and any number that f says of a tree. Assumes nothing.
use Prim.Native.Nat.{ℕ, ◌+◌, ◌*◌, ◌/◌, ◌<◌, ◌≤◌}
use native.Mathlib.Omega.{arith}
use mathlib.Core.Path.{◌≡◌, refl, sym, ap, ap₂, ◌∙◌}
use mathlib.Core.Bool.{Bool, true, false}
use mathlib.Core.List.{List, ◌++◌, map}
use lib.ListN.{length, get_or, drop, get_or-append}
use lib.Dec.{leb, ltb}
use borrow.Author.Tests.{le-leb, lt-leb, lt-ltb, le-ltb, leb-true, ltb-true}
use Rattle.std.specs.Prelude.{Result, Ok, Err}
use Rattle.refusal.specs.declared.causes.Refusal.{Refusal}
use Rattle.refusal.specs.Answers.{Answer, answer_of, result, refused, refuse, check, and_then, map_answer}
use Rattle.refusal.specs.declared.causes.Refusal.TheVariants as cause
use Rattle.refusal.proofs.AnswerLaws.{came, led, checked, checked_next, same_result}
use Rattle.contents.specs.Contents.{body_of}
use Rattle.node.specs.declared.nodes.Node.{Node}
use Rattle.node.specs.Exprs.{Expr}
use Rattle.node.specs.Nodes.{nodes_in}
use Rattle.node.specs.Steps.{Fillable}
use Rattle.node.specs.Trees.{trees}
use Rattle.node.proofs.FilledLaws.{entries_length, entry_at}
use Rattle.program.specs.declared.reader.Head.{Head}
use Rattle.program.specs.Programs.{Program, head_of, output_tree}
use Rattle.program.specs.Reading.{output_at, program_of, read_program}
use Rattle.program.proofs.AcceptedLaws.{Read, read, read_refused, same_nodes, inputs_is}
use Rattle.program.proofs.BodyLaws.{body_nodes, body_outputs, names_node, named_tree, head_inputs, head_outputs, head_nodes}
use Rattle.program.proofs.BodyLaws as bodies

-- what is checked of a program: 7 for the list, 14 for the inputs and 15 for the output's number
abbrev checks : (ℕ → Bool) → ℕ → ℕ → Program → Answer Program
checks test entries k p =
    check (leb (length p.nodes) entries) cause.ListLength
    (check (test p.inputs) cause.InputBytes
    (check (ltb k (length p.outputs)) cause.OutputNumber
    (result p)))

-- and before that the reader's causes
abbrev pub asked : (ℕ → Bool) → List ℕ → ℕ → ℕ → Answer Program
asked test file entries k = and_then (read_program file) (checks test entries k)

-- the list at exit: on a result what f says of every node, later entries as they were; on a refusal as it was
abbrev pub list_after : (Expr → ℕ) → Answer Program → List ℕ → List ℕ
list_after f (result p) list = map f (trees p.nodes) ++ drop (length p.nodes) list
list_after f (refused n q) list = list

-- every check has passed: the output can be evaluated
pub record Evaluable (test : ℕ → Bool) (file : List ℕ) (entries k : ℕ) (p : Program) : Type 0 where
  pub read : read_program file ≡ result p
  pub room : length p.nodes ≤ entries
  pub tested : test p.inputs ≡ true
  pub output : k < length p.outputs

module _ (test : ℕ → Bool) (file : List ℕ) (entries k : ℕ) (p : Program) where
  pub evaluable_asked : Evaluable test file entries k p → asked test file entries k ≡ result p
  evaluable_asked a = simp (a.read, le-leb (length p.nodes) entries a.room, a.tested, lt-ltb k (length p.outputs) a.output)

  pub asked_evaluable : asked test file entries k ≡ result p → Evaluable test file entries k p
  asked_evaluable e =
      let l = led (read_program file) (checks test entries k) p e in
      let q : Program = l.from in
      let e₁₄ = checked_next p (leb (length q.nodes) entries) cause.ListLength _ l.next in
      let e₁₅ = checked_next p (test q.inputs) cause.InputBytes _ e₁₄ in
      let same : q ≡ p = same_result q p (checked_next p (ltb k (length q.outputs)) cause.OutputNumber (result q) e₁₅) in
      record {
        read = l.was ∙ ap result same;
        room = rw (← same) (leb-true (length q.nodes) entries (checked p (leb (length q.nodes) entries) cause.ListLength _ l.next));
        tested = rw (← same) (checked p (test q.inputs) cause.InputBytes _ e₁₄);
        output = rw (← same) (ltb-true k (length q.outputs) (checked p (ltb k (length q.outputs)) cause.OutputNumber (result q) e₁₅));
      }

module _ (f : Expr → ℕ) (test : ℕ → Bool) (file list : List ℕ) (k : ℕ) where
  -- the answer a and the list l are those that the checks lead to
  pub record Outcome (a : Answer ℕ) (l : List ℕ) : Type 0 where
    pub answer : a ≡ map_answer (λ p. f (output_tree p k)) (asked test file (length list) k)
    pub list_left : l ≡ list_after f (asked test file (length list) k) list

  -- there is one such answer and one such list
  pub same_outcome : {a b : Answer ℕ} {l m : List ℕ} → Outcome a l → Outcome b m → (a ≡ b) × (l ≡ m)
  same_outcome o q = (o.answer ∙ sym q.answer, o.list_left ∙ sym q.list_left)

  -- where every check has passed, the answer is the output's number, and the list has every node's
  pub outcome_is : {a : Answer ℕ} {l : List ℕ} (p : Program) → Outcome a l → Evaluable test file (length list) k p
      → (a ≡ result (f (output_tree p k))) × (l ≡ map f (trees p.nodes) ++ drop (length p.nodes) list)
  outcome_is p o e =
      let all : asked test file (length list) k ≡ result p = evaluable_asked test file (length list) k p e in
      same_outcome o (record { answer = rw all refl; list_left = rw all refl })

  -- and where the answer is a number, every check has passed
  pub record AnswerOf (v : ℕ) : Type 0 where
    pub program : Program
    pub evaluable : Evaluable test file (length list) k program
    pub number_is : v ≡ f (output_tree program k)

  pub answered : {v : ℕ} {l : List ℕ} → Outcome (result v) l → AnswerOf v
  answered {v} o =
      let c = came (λ p. f (output_tree p k)) (asked test file (length list) k) v o.answer in
      record {
        program = c.from;
        evaluable = asked_evaluable test file (length list) k c.from c.was;
        number_is = c.reads;
      }

  -- a refusal leaves the list as it was
  refuses : (n p : ℕ) → asked test file (length list) k ≡ refused n p → Outcome (refused n p) list
  refuses n p e = record { answer = rw e refl; list_left = rw e refl }

  -- the reader's refusal is passed on
  pub reader_refuses : (n p : ℕ) → read_program file ≡ refused n p → Outcome (refused n p) list
  reader_refuses n p e = refuses n p (rw e refl)

  module _ {h : Head} (r : Read file h) where
    pub list_short : length list < h.nodes → Outcome (refuse cause.ListLength) list
    list_short s = refuses 7 0 (simp (r.accepts.is, lt-leb (length (program_of file).nodes) (length list) (omega (arith, head_nodes r))))

    fits : h.nodes ≤ length list → leb (length (program_of file).nodes) (length list) ≡ true
    fits room = le-leb (length (program_of file).nodes) (length list) (omega (arith, head_nodes r))

    same_test : {b : Bool} → test h.inputs ≡ b → test (program_of file).inputs ≡ b
    same_test e = rw (← head_inputs r) e

    pub inputs_bad : h.nodes ≤ length list → test h.inputs ≡ false → Outcome (refuse cause.InputBytes) list
    inputs_bad room e = refuses 14 0 (simp (r.accepts.is, fits room, same_test e))

    pub output_bad : h.nodes ≤ length list → test h.inputs ≡ true → h.outputs ≤ k → Outcome (refuse cause.OutputNumber) list
    output_bad room e s = refuses 15 0 (simp (r.accepts.is, fits room, same_test e, le-ltb k (length (program_of file).outputs) (omega (arith, head_outputs r))))

    -- every check has passed, of the numbers that the reader answered
    pub record Ready : Type 0 where
      pub room : h.nodes ≤ length list
      pub tested : test h.inputs ≡ true
      pub output : k < h.outputs

    module _ (q : Ready) where
      found : asked test file (length list) k ≡ result (program_of file)
      found =
          evaluable_asked test file (length list) k (program_of file)
          record {
            read = r.accepts.is;
            room = omega (arith, head_nodes r, q.room);
            tested = same_test q.tested;
            output = omega (arith, head_outputs r, q.output);
          }

      -- the nodes can be evaluated on so many inputs
      pub fillable : {n : ℕ} → n ≡ h.inputs → Fillable n (body_of file 1) (length list)
      fillable e = rw (e ∙ head_inputs r ∙ inputs_is file r.accepts) (bodies.fillable r (length list) q.room)

      within : k < length (body_of file 2) / 2
      within = omega (arith, head_outputs r, body_outputs file r.accepts, q.output)

      -- the output's entry is there, and the node that it names has one in the list
      pub output_there : 2 * (k + 1) ≤ length (body_of file 2)
      output_there = omega (arith, within)

      pub node_there : output_at (body_of file 2) k < length list
      node_there = omega (arith, names_node file r.accepts k within, body_nodes file r.accepts, head_nodes r, q.room)

      -- a list that is filled has the output's number at the node that the output names
      pub output_found : (l : List ℕ) → l ≡ map f (trees (nodes_in (body_of file 1))) ++ drop (length (body_of file 1) / 6) list → Outcome (result (get_or l (output_at (body_of file 2) k) 0)) l
      output_found l w =
          let all : List ℕ = map f (trees (nodes_in (body_of file 1))) in
          let rest : List ℕ = drop (length (body_of file 1) / 6) list in
          let i : ℕ = output_at (body_of file 2) k in
          let counted : length all ≡ length (program_of file).nodes = entries_length f (nodes_in (body_of file 1)) ∙ ap length (same_nodes file r.accepts) in
          let named : i < length all = omega (arith, counted, names_node file r.accepts k within, body_nodes file r.accepts) in
          let number_is : get_or l i 0 ≡ f (output_tree (program_of file) k) =
          ap (λ (v : List ℕ). get_or v i 0) w
          ∙ get_or-append all rest 0 i named
          ∙ entry_at f (nodes_in (body_of file 1)) i (omega (arith, entries_length f (nodes_in (body_of file 1))))
          ∙ ap f (named_tree file r.accepts k within) in
          let same : all ++ rest ≡ map f (trees (program_of file).nodes) ++ drop (length (program_of file).nodes) list =
          ap₂ (λ (ns : List Node) (n : ℕ). map f (trees ns) ++ drop n list) (same_nodes file r.accepts) (body_nodes file r.accepts) in
          record { answer = rw found (ap result number_is); list_left = rw found (w ∙ same) }

-- a service with this answer, and this list at first and at exit, refuses for this cause
abbrev pub Refuses : Refusal → Answer ℕ → List ℕ → List ℕ → Type 0
Refuses why a list l = (refuse why ≡ a) × (list ≡ l)

-- a service whose answer and list at exit are those that the checks lead to, by what the reader answered it
module _ {f : Expr → ℕ} {test : ℕ → Bool} {file list : List ℕ} {k : ℕ} {a : Answer ℕ} {l : List ℕ} (o : Outcome f test file list k a l)
    {r : Result Head Refusal} (said : answer_of r ≡ map_answer head_of (read_program file)) where
  -- the reader's refusal is passed on
  pub reader_passed : {why : Refusal} → r ≡ Err why → Refuses why a list l
  reader_passed g = same_outcome f test file list k (reader_refuses f test file list k _ _ (read_refused file said g)) o

  module _ {h : Head} (g : r ≡ Ok h) where
    good : Read file h
    good = read file said g

    pub list_refused : length list < h.nodes → Refuses cause.ListLength a list l
    list_refused s = same_outcome f test file list k (list_short f test file list k good s) o

    module _ (room : h.nodes ≤ length list) where
      pub inputs_refused : test h.inputs ≡ false → Refuses cause.InputBytes a list l
      inputs_refused t = same_outcome f test file list k (inputs_bad f test file list k good room t) o

      module _ (tested : test h.inputs ≡ true) where
        pub output_refused : h.outputs ≤ k → Refuses cause.OutputNumber a list l
        output_refused s = same_outcome f test file list k (output_bad f test file list k good room tested s) o

        -- every check has passed
        module _ (there : k < h.outputs) where
          ready : Ready f test file list k good
          ready = record { room = room; tested = tested; output = there }

          -- the nodes can be evaluated on so many inputs
          pub fills : {n : ℕ} {body : List ℕ} → n ≡ h.inputs → body ≡ body_of file 1 → Fillable n body (length list)
          fills e b = rw b (fillable f test file list k good ready e)

          -- the output's entry is there
          module _ {outputs : List ℕ} (b : outputs ≡ body_of file 2) where
            pub entry_there : 2 * (k + 1) ≤ length outputs
            entry_there = rw b (output_there f test file list k good ready)

            -- and the node that it names, in a list of the same length
            module _ {i : ℕ} (named : i ≡ output_at outputs k) where
              pub named_inside : {n : ℕ} → n ≡ length list → i < n
              named_inside e =
                  let is : output_at outputs k ≡ output_at (body_of file 2) k = rw b refl in
                  omega (arith, e, named, is, node_there f test file list k good ready)

              -- in a filled list that is the answer
              pub answers : {body left : List ℕ} → body ≡ body_of file 1 → left ≡ map f (trees (nodes_in body)) ++ drop (length body / 6) list → (result (get_or left i 0) ≡ a) × (left ≡ l)
              answers {body} {left} z w =
                  let is : i ≡ output_at (body_of file 2) k = named ∙ rw b refl in
                  let same = same_outcome f test file list k (output_found f test file list k good ready left (rw z at w)) o in
                  (ap (λ (j : ℕ). result (get_or left j 0)) is ∙ same.0, same.1)
