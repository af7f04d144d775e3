-- Laws of reading a circuit file: what each test that held says. Assumes nothing.
use Prim.Native.Nat.{ℕ, ◌*◌, ◌/◌, ◌%◌, ◌≤◌}
use native.Mathlib.Omega.{arith}
use mathlib.Core.Path.{◌≡◌, refl, sym, ap, ap₂, ◌∙◌}
use mathlib.Core.Bool.{Bool, true, ◌&&◌}
use mathlib.Core.List.{List}
use lib.ListN.{length}
use lib.Dec.{eqb, leb}
use borrow.Author.Tests.{eqb-true, leb-true}
use Rattle.wire.specs.Limits.{most_gates, most_inputs, most_outputs, most_work}
use Rattle.std.specs.Prelude.{Result, Ok}
use Rattle.refusal.specs.Answers.{Answer, result, check, answer_of}
use Rattle.refusal.specs.declared.causes.Refusal.{Refusal}
use Rattle.contents.specs.Contents.{table_fits, entries_fit, entry_length, body_of}
use Rattle.contents.specs.Arity.{inputs_of, outputs_of, arity_fits}
use Rattle.contents.specs.Steps.{read_contents, Laid}
use Rattle.refusal.specs.declared.causes.Refusal.TheVariants as cause
use Rattle.refusal.proofs.AnswerLaws.{checked, checked_next, same_result}
use Rattle.refusal.proofs.CheckLaws.{both_first, both_second}
use Rattle.contents.proofs.ContentsLaws.{body_length, laid, contents_next}
use Rattle.circuit.specs.declared.reader.CircuitHead.{CircuitHead}
use Rattle.circuit.specs.Circuits.{head_lines, most_lines, InRange}
use Rattle.circuit.specs.Format.{tags, head_length}
use Rattle.circuit.specs.Reading.{work_of, gates_of, lengths_fit, ranges_fit, head_in, read_head}

-- a file that passes causes 1 to 3
pub record Sized (f : List ℕ) : Type 0 where
  pub laid : Laid 2 f
  pub head : entry_length f 0 ≡ head_length
  pub eights : entry_length f 1 ≡ 8 * gates_of f
  pub most : gates_of f ≤ most_gates

module _ (f : List ℕ) where
  -- the tests of causes 3 and 4, put together step by step
  pub lengths_tests : {e₀ e₁ : ℕ} {gates r : Bool} → e₀ ≡ entry_length f 0 → e₁ ≡ entry_length f 1
      → gates ≡ (eqb (e₁ % 8) 0 && leb (e₁ / 8) most_gates)
      → r ≡ (eqb e₀ head_length && gates)
      → r ≡ lengths_fit f
  unfolding lengths_fit
  lengths_tests p₀ p₁ t₁ t₀ =
      t₀ ∙ ap₂ ◌&&◌ (ap (λ (e : ℕ). eqb e head_length) p₀) (t₁ ∙ ap (λ (e : ℕ). eqb (e % 8) 0 && leb (e / 8) most_gates) p₁)

  pub ranges_tests : {w : ℕ} {counts r : Bool} → counts ≡ arity_fits (body_of f 0) → w ≡ work_of f
      → r ≡ (counts && leb w most_work)
      → r ≡ ranges_fit f
  unfolding ranges_fit
  ranges_tests pc pw t = t ∙ ap₂ ◌&&◌ pc (ap (λ (w : ℕ). leb w most_work) pw)

  -- the numbers of the head, each as it was read
  pub head_read : {n m w g : ℕ} → n ≡ inputs_of f → m ≡ outputs_of f → w ≡ work_of f → g ≡ gates_of f
      → ◌≡◌ {A = CircuitHead} (record { inputs = n; outputs = m; work = w; gates = g }) (head_in f)
  unfolding head_in
  head_read pn pm pw pg = rw (pn, pm, pw, pg) refl

  pub sized : Laid 2 f → lengths_fit f ≡ true → Sized f
  unfolding lengths_fit
  sized l e =
      let head : Bool = eqb (entry_length f 0) head_length in
      let eights : Bool = eqb (entry_length f 1 % 8) 0 in
      let most : Bool = leb (gates_of f) most_gates in
      let gates : (eights && most) ≡ true = both_second head (eights && most) e in
      let rest : entry_length f 1 % 8 ≡ 0 = eqb-true (entry_length f 1 % 8) 0 (both_first eights most gates) in
      record {
        laid = l;
        head = eqb-true (entry_length f 0) head_length (both_first head (eights && most) e);
        eights = omega (arith, rest);
        most = leb-true (gates_of f) most_gates (both_second eights most gates);
      }

  -- the numbers of a file that passes cause 4
  pub ranged : gates_of f ≤ most_gates → ranges_fit f ≡ true → InRange (head_in f)
  unfolding ranges_fit arity_fits head_in
  ranged few e =
      let n : Bool = leb (inputs_of f) most_inputs in
      let m₁ : Bool = leb 1 (outputs_of f) in
      let m₂ : Bool = leb (outputs_of f) most_outputs in
      let w : Bool = leb (work_of f) most_work in
      let counts : (n && (m₁ && m₂)) ≡ true = both_first (n && (m₁ && m₂)) w e in
      let m : (m₁ && m₂) ≡ true = both_second n (m₁ && m₂) counts in
      record {
        inputs_most = leb-true (inputs_of f) most_inputs (both_first n (m₁ && m₂) counts);
        outputs_some = leb-true 1 (outputs_of f) (both_first m₁ m₂ m);
        outputs_most = leb-true (outputs_of f) most_outputs (both_second m₁ m₂ m);
        work_most = leb-true (work_of f) most_work (both_second (n && (m₁ && m₂)) w e);
        gates_most = few;
      }

  -- the checks behind causes 1 and 2
  abbrev pub head_checks : Answer CircuitHead
  head_checks = check (lengths_fit f) cause.BodyLength (check (ranges_fit f) cause.Range (result (head_in f)))

  -- where these found nothing, reading the head goes on with them
  pub head_checks_lem : {r : Result (Unit {0}) Refusal} → answer_of r ≡ read_contents tags f → r ≡ Ok tt → read_head f ≡ head_checks
  unfolding read_head
  head_checks_lem e g = contents_next tags f e g head_checks

  module _ (l : Laid 2 f) where
    -- each body is as long as its entry says
    pub head_long : length (body_of f 0) ≡ entry_length f 0
    head_long = body_length f 0 (l.within 0 (omega arith))

    pub gates_long : length (body_of f 1) ≡ entry_length f 1
    gates_long = body_length f 1 (l.within 1 (omega arith))

  -- a file whose head was read
  pub record Headed (h : CircuitHead) : Type 0 where
    pub table : table_fits 2 f ≡ true
    pub entries : entries_fit tags f ≡ true
    pub sized : Sized f
    pub ranged : InRange h
    pub is : h ≡ head_in f

  pub headed : (h : CircuitHead) → read_head f ≡ result h → Headed h
  unfolding read_head
  headed h e =
      let ranges : Answer CircuitHead = check (ranges_fit f) cause.Range (result (head_in f)) in
      let lengths : Answer CircuitHead = check (lengths_fit f) cause.BodyLength ranges in
      let entries : Answer CircuitHead = check (entries_fit tags f) cause.Contents lengths in
      let e₂ : entries ≡ result h = checked_next h (table_fits 2 f) cause.Table entries e in
      let e₃ : lengths ≡ result h = checked_next h (entries_fit tags f) cause.Contents lengths e₂ in
      let e₄ : ranges ≡ result h = checked_next h (lengths_fit f) cause.BodyLength ranges e₃ in
      let first : table_fits 2 f ≡ true = checked h (table_fits 2 f) cause.Table entries e in
      let second : entries_fit tags f ≡ true = checked h (entries_fit tags f) cause.Contents lengths e₂ in
      let order : Sized f = sized (laid tags f first second) (checked h (lengths_fit f) cause.BodyLength ranges e₃) in
      let is : h ≡ head_in f = sym (same_result (head_in f) h (checked_next h (ranges_fit f) cause.Range (result (head_in f)) e₄)) in
      record {
        table = first;
        entries = second;
        sized = order;
        ranged = rw is (ranged order.most (checked h (ranges_fit f) cause.Range (result (head_in f)) e₄));
        is = is;
      }

  module _ {h : CircuitHead} (a : Headed h) where
    pub gates_counted : length (body_of f 1) / 8 ≡ h.gates
    unfolding head_in
    gates_counted =
        omega (arith, gates_long a.sized.laid, a.sized.eights, ap (λ (k : CircuitHead). k.gates) a.is)

    -- there are no more lines than a circuit may have
    pub lines_most : head_lines h ≤ most_lines
    lines_most = omega (arith, a.ranged.inputs_most, a.ranged.outputs_most, a.ranged.work_most)
