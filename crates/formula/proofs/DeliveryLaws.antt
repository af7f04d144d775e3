-- Laws of the file that is delivered. Assumes nothing.
use Prim.Native.Nat.{ℕ, ◌+◌, ◌*◌, ◌-◌, ◌/◌, ◌≤◌, ◌<◌}
use native.Mathlib.Omega.{arith}
use mathlib.Core.Path.{◌≡◌, refl, sym, ap, ap₂, ◌∙◌}
use mathlib.Core.List.{List, [], ◌∷◌, ◌++◌, flat_map}
use lib.ListN.{length, take, drop, replicate}
use lib.Seq.{sets, sets-eq, take_at}
use borrow.Author.Tests.{le-leb, lt-leb}
use Rattle.refusal.specs.Answers.{Answer, result, refuse, map_answer}
use Rattle.refusal.specs.declared.causes.Refusal.TheVariants as cause
use Rattle.wire.specs.Areas.{area_after}
use Rattle.wire.proofs.AreaLaws.{area_written}
use Rattle.wire.specs.Bytes.{bytes16}
use Rattle.contents.specs.Contents.{contents_bytes}
use Rattle.node.specs.NodeBytes.{nodes_bytes}
use Rattle.node.proofs.WrittenLaws.{nodes_length}
use Rattle.program.specs.Format.{tags, program_file}
use Rattle.grammar.specs.Grammar.{Sum}
use Rattle.grammar.specs.FormulaNodes.{sum_count, sum_nodes, formula_program}
use Rattle.grammar.proofs.CountLaws.{sum_nodes_lem}
use Rattle.emitter.specs.Emitting.{put_nodes}
use Rattle.program_writer.specs.OneOutput.{body_file, body_file_length}
use Rattle.program_writer.proofs.BodyFileLaws.{body_file_length_lem}
use Rattle.formula.specs.Steps.{delivery}

-- the first of the nodes stored are the formula's
pub nodes_stored : (s : Sum) (made : ℕ) (old : List ℕ) {new : List ℕ} → made ≡ sum_count s → 6 * made ≤ length old → new ≡ put_nodes old 0 (sum_nodes s 0) → take (6 * made) new ≡ nodes_bytes (sum_nodes s 0)
unfolding put_nodes
nodes_stored s made old q room w =
    let bytes : List ℕ = nodes_bytes (sum_nodes s 0) in
    let long : length bytes ≡ 6 * made = nodes_length (sum_nodes s 0) ∙ ap (λ (k : ℕ). 6 * k) (sum_nodes_lem s 0 ∙ sym q) in
    ap (take (6 * made)) (w ∙ sets-eq bytes old 0 (omega arith))
    ∙ take_at bytes (drop (0 + length bytes) old) (6 * made) long

-- and so the file is its program's
pub body_file_is : (n : ℕ) (s : Sum) → body_file n (nodes_bytes (sum_nodes s 0)) ≡ program_file (formula_program n s)
unfolding body_file program_file flat_map
body_file_is n s =
    let bytes : List ℕ = nodes_bytes (sum_nodes s 0) in
    let long : length bytes ≡ 6 * length (sum_nodes s 0) = nodes_length (sum_nodes s 0) in
    let last : length bytes / 6 - 1 ≡ sum_count s - 1 = omega (arith, long, sum_nodes_lem s 0) in
    ap₂ (λ (k j : ℕ). contents_bytes tags (4 ∷ k ∷ 2 ∷ []) ++ ((bytes16 n ++ bytes16 1) ++ (bytes ++ bytes16 j))) long last

module _ (n : ℕ) (body area : List ℕ) where
  -- the answer a and the area after it are those of delivering the file
  pub record Delivered (a : Answer ℕ) (after : List ℕ) : Type 0 where
    pub answer : a ≡ map_answer length (delivery n body (length area))
    pub area_is : after ≡ area_after (delivery n body (length area)) area

  pub no_room : {after : List ℕ} → length area < body_file_length (length body) → after ≡ replicate (length area) 0 → Delivered (refuse (cause.Room (length body / 6))) after
  unfolding delivery
  no_room l w = let test = lt-leb (body_file_length (length body)) (length area) l in record { answer = rw test refl; area_is = rw test w }

  pub room : {after : List ℕ} → body_file_length (length body) ≤ length area → after ≡ sets area 0 (body_file n body) → Delivered (result (body_file_length (length body))) after
  unfolding delivery
  room l w =
      let test = le-leb (body_file_length (length body)) (length area) l in
      record {
        answer = rw test (ap result (sym (body_file_length_lem n body)));
        area_is = rw test (area_written (body_file n body) area (omega (arith, body_file_length_lem n body)) w);
      }
