-- What an accepted circuit file holds. Assumes nothing.
use Prim.Native.Nat.{ℕ, ◌/◌, ◌<◌, ◌≤◌}
use native.Mathlib.Omega.{arith}
use mathlib.Core.Path.{◌≡◌, refl, sym, ap, ◌∙◌}
use mathlib.Core.Bool.{Bool, true, false}
use mathlib.Core.List.{List}
use lib.ListN.{length}
use Rattle.std.specs.Prelude.{Result, Ok, Err}
use Rattle.refusal.specs.Answers.{Answer, answer_of, checked_each, result, refuse, check, check_each, map_answer, number_of, place_of}
use Rattle.wire.specs.Bits.{Bits, bits_fit}
use Rattle.refusal.specs.Checks.{all_below, lowest}
use Rattle.contents.specs.Contents.{table_fits, entries_fit, body_of}
use Rattle.contents.specs.Steps.{Laid}
use Rattle.refusal.specs.declared.causes.Refusal.{Refusal}
use Rattle.refusal.specs.declared.causes.Refusal.TheVariants as cause
use Rattle.refusal.proofs.AnswerLaws.{checked, checked_next, same_result, Came, came, came_refused, led, Never, never_result, never_check, never_then, each_next, each_refused}
use Rattle.wire.proofs.BitLaws.{bits_count, bits_are}
use Rattle.refusal.proofs.CheckLaws.{all_below_lem}
use Rattle.gate.specs.Gates.{WellFormed, All}
use Rattle.gate_bytes.specs.GateBytes.{gate_at, gate_fits}
use Rattle.gate.proofs.AllLaws.{all_tabulate}
use Rattle.gate_bytes.proofs.GateLaws.{fits_formed}
use Rattle.circuit.specs.declared.reader.CircuitHead.{CircuitHead}
use Rattle.circuit.specs.Circuits.{Circuit, line_count, head_of, head_lines, most_lines, Legal, gates_in}
use Rattle.circuit.specs.Format.{tags}
use Rattle.circuit.specs.Reading.{lengths_fit, ranges_fit, head_in, read_head, circuit_of, read_circuit, read_with_lines}
use Rattle.circuit.proofs.GateBodyLaws.{gates_count}
use Rattle.circuit.proofs.ReadingLaws.{Headed, headed, gates_counted, lines_most}

-- an accepted file: its head was read, every gate is in order, and the circuit is the file's
pub record Accepted (f : List ℕ) (c : Circuit) : Type 0 where
  pub head : CircuitHead
  pub headed : Headed f head
  pub gates_fit : (i : ℕ) → i < head.gates → gate_fits (head_lines head) (body_of f 1) i ≡ true
  pub is : c ≡ circuit_of head (body_of f 1)

pub accepted : (f : List ℕ) (c : Circuit) → read_circuit f ≡ result c → Accepted f c
unfolding read_circuit
accepted f c e =
    let body : List ℕ = body_of f 1 in
    let l = led (read_head f) (λ (h : CircuitHead). check_each (gate_fits (head_lines h) body) h.gates cause.Gate (result (circuit_of h body))) c e in
    let h : CircuitHead = l.from in
    let fits : ℕ → Bool = gate_fits (head_lines h) body in
    let each : Bool = all_below fits h.gates in
    let why : Refusal = cause.Gate (lowest fits h.gates) in
    let same : result (circuit_of h body) ≡ result c = checked_next c each why (result (circuit_of h body)) l.next in
    record {
      head = h;
      headed = headed f h l.was;
      gates_fit = all_below_lem fits h.gates (checked c each why (result (circuit_of h body)) l.next);
      is = sym (same_result (circuit_of h body) c same);
    }

module _ (f : List ℕ) (c : Circuit) (a : Accepted f c) where
  -- its gates are those of the gate body
  pub gates_are : c.gates ≡ gates_in (body_of f 1)
  unfolding circuit_of
  gates_are = ap (λ (k : Circuit). k.gates) a.is

  -- its head is the file's
  pub head_is : head_of c ≡ a.head
  unfolding circuit_of
  head_is =
      let n : length (gates_in (body_of f 1)) ≡ a.head.gates = gates_count (body_of f 1) ∙ gates_counted f a.headed in
      ap head_of a.is ∙ rw n refl

  pub lines_are : line_count c ≡ head_lines a.head
  unfolding circuit_of
  lines_are = ap line_count a.is

  -- and it is legal
  pub formed : All (WellFormed (line_count c)) c.gates
  unfolding circuit_of
  formed =
      let body : List ℕ = body_of f 1 in
      rw (ap (λ (k : Circuit). k.gates) a.is, lines_are)
      (all_tabulate (WellFormed (head_lines a.head)) (gate_at body) (length body / 8) (λ i h. fits_formed (head_lines a.head) body i (a.gates_fit i (omega (arith, gates_counted f a.headed)))))

  pub legal : Legal c
  legal = record { numbers = rw head_is a.headed.ranged; formed = formed }

-- a file that was read with bytes for its lines
pub record WithLines (f lines : List ℕ) (c : Circuit) : Type 0 where
  pub reads : read_circuit f ≡ result c
  pub count : length lines ≡ line_count c
  pub bits : Bits lines

pub with_lines : (f lines : List ℕ) (c : Circuit) → read_with_lines f lines ≡ result c → WithLines f lines c
unfolding read_with_lines
with_lines f lines c e =
    let l = led (read_circuit f) (λ (k : Circuit). check (bits_fit (line_count k) lines) cause.LineBytes (result k)) c e in
    let k : Circuit = l.from in
    let same : result k ≡ result c = checked_next c (bits_fit (line_count k) lines) cause.LineBytes (result k) l.next in
    let test : bits_fit (line_count k) lines ≡ true = checked c (bits_fit (line_count k) lines) cause.LineBytes (result k) l.next in
    let is : k ≡ c = same_result k c same in
    record {
      reads = l.was ∙ same;
      count = bits_count (line_count k) lines test ∙ ap line_count is;
      bits = bits_are (line_count k) lines test;
    }

module _ (f lines : List ℕ) (c : Circuit) (e : read_with_lines f lines ≡ result c) where
  abbrev was : WithLines f lines c
  was = with_lines f lines c e

  abbrev holds : Accepted f c
  holds = accepted f c was.reads

  -- the bodies lie within the file
  pub lines_laid : Laid 2 f
  lines_laid = holds.headed.sized.laid

  -- the gates of its gate body are the circuit's, and well formed on the lines
  pub lines_gates : c.gates ≡ gates_in (body_of f 1)
  lines_gates = gates_are f c holds

  pub lines_formed : All (WellFormed (length lines)) (gates_in (body_of f 1))
  lines_formed = rw (was.count, ← lines_gates) (formed f c holds)

-- reading never finds that there is no room
pub reader_room : (f lines : List ℕ) → Never 11 (read_with_lines f lines)
unfolding read_with_lines read_circuit read_head
reader_room f lines =
    never_then 11 (read_circuit f) (λ c. check (bits_fit (line_count c) lines) cause.LineBytes (result c))
    (never_then 11 (read_head f) (λ h. check_each (gate_fits (head_lines h) (body_of f 1)) h.gates cause.Gate (result (circuit_of h (body_of f 1)))) head
    (λ h. never_check 11 (all_below (gate_fits (head_lines h) (body_of f 1)) h.gates) (cause.Gate (lowest (gate_fits (head_lines h) (body_of f 1)) h.gates)) (result (circuit_of h (body_of f 1))) (omega arith) (never_result 11 (circuit_of h (body_of f 1)))))
    (λ c. never_check 11 (bits_fit (line_count c) lines) cause.LineBytes (result c) (omega arith) (never_result 11 c))
  where
    ranges : Answer CircuitHead
    ranges = check (ranges_fit f) cause.Range (result (head_in f))

    lengths : Answer CircuitHead
    lengths = check (lengths_fit f) cause.BodyLength ranges

    entries : Answer CircuitHead
    entries = check (entries_fit tags f) cause.Contents lengths

    head : Never 11 (read_head f)
    head =
        never_check 11 (table_fits 2 f) cause.Table entries (omega arith)
        (never_check 11 (entries_fit tags f) cause.Contents lengths (omega arith)
        (never_check 11 (lengths_fit f) cause.BodyLength ranges (omega arith)
        (never_check 11 (ranges_fit f) cause.Range (result (head_in f)) (omega arith) (never_result 11 (head_in f)))))

-- the reader's answers, case by case
module _ (f : List ℕ) {r : Result CircuitHead Refusal} (e : answer_of r ≡ read_head f) where
  head_refused : {why : Refusal} → r ≡ Err why → read_head f ≡ refuse why
  head_refused g = sym e ∙ ap answer_of g

  -- a refusal of the head is passed on
  pub head_passed : {why : Refusal} → r ≡ Err why → refuse why ≡ map_answer head_of (read_circuit f)
  unfolding read_circuit
  head_passed g = rw (head_refused g) refl

  module _ {h : CircuitHead} (g : r ≡ Ok h) where
    head_good : read_head f ≡ result h
    head_good = sym e ∙ ap answer_of g

    pub good_headed : Headed f h
    good_headed = headed f h head_good

    abbrev fits : ℕ → Bool
    fits = gate_fits (head_lines h) (body_of f 1)

    -- the gates are checked as the file asks
    gates_said : {lines : ℕ} {body : List ℕ} → lines ≡ head_lines h → body ≡ body_of f 1
        → checked_each (gate_fits lines body) (length body / 8) cause.Gate ≡ checked_each fits h.gates cause.Gate
    gates_said l b = rw (l, b, gates_counted f good_headed) refl

    module _ {lines : ℕ} {body : List ℕ} (l : lines ≡ head_lines h) (b : body ≡ body_of f 1) {a : Result (Unit {0}) Refusal}
        (said : answer_of a ≡ checked_each (gate_fits lines body) (length body / 8) cause.Gate) where
      -- a refusal of a gate is passed on
      pub gate_refused : {why : Refusal} → a ≡ Err why → refuse why ≡ map_answer head_of (read_circuit f)
      unfolding read_circuit
      gate_refused {why} g = rw (head_good, each_refused fits h.gates cause.Gate (said ∙ gates_said l b) (result (circuit_of h (body_of f 1))) g) refl

      -- and where there is none the circuit is read
      pub gates_good : a ≡ Ok tt → result h ≡ map_answer head_of (read_circuit f)
      unfolding read_circuit circuit_of
      gates_good g = rw (head_good, each_next fits h.gates cause.Gate (said ∙ gates_said l b) (result (circuit_of h (body_of f 1))) g, gates_count (body_of f 1) ∙ gates_counted f good_headed) refl

-- a circuit that was read, with bytes that pass the test of cause 13 or do not
pub has_lines : (f lines : List ℕ) (c : Circuit) → read_circuit f ≡ result c → bits_fit (line_count c) lines ≡ true → read_with_lines f lines ≡ result c
unfolding read_with_lines
has_lines f lines c e t = rw (e, t) refl

pub without_lines : (f lines : List ℕ) (c : Circuit) → read_circuit f ≡ result c → bits_fit (line_count c) lines ≡ false → read_with_lines f lines ≡ refuse cause.LineBytes
unfolding read_with_lines
without_lines f lines c e t = rw (e, t) refl

module _ (f lines : List ℕ) {r : Result CircuitHead Refusal} (e : answer_of r ≡ map_answer head_of (read_circuit f)) where
  -- a refusal of the circuit is passed on
  pub circuit_passed : {why : Refusal} → r ≡ Err why → refuse why ≡ map_answer head_of (read_with_lines f lines)
  unfolding read_with_lines
  circuit_passed {why} g =
      rw (came_refused head_of (read_circuit f) (number_of why) (place_of why) (sym (ap answer_of g) ∙ e)) refl

  module _ {h : CircuitHead} (g : r ≡ Ok h) where
    abbrev good_came : Came head_of (read_circuit f) h
    good_came = came head_of (read_circuit f) h (sym (ap answer_of g) ∙ e)

    pub good_lines_most : head_lines h ≤ most_lines
    good_lines_most =
        let a = accepted f good_came.from good_came.was in
        omega (arith, ap head_lines (good_came.reads ∙ head_is f good_came.from a), lines_most f a.headed)

    bits_same : (b : Bool) → bits_fit (head_lines h) lines ≡ b → bits_fit (line_count good_came.from) lines ≡ b
    bits_same b t = ap (λ (k : CircuitHead). bits_fit (head_lines k) lines) (sym good_came.reads) ∙ t

    -- bytes that are not one bit for each line are refused
    pub lines_bad : bits_fit (head_lines h) lines ≡ false → refuse cause.LineBytes ≡ map_answer head_of (read_with_lines f lines)
    lines_bad t = sym (ap (map_answer head_of) (without_lines f lines good_came.from good_came.was (bits_same false t)))

    pub lines_good : bits_fit (head_lines h) lines ≡ true → result h ≡ map_answer head_of (read_with_lines f lines)
    lines_good t =
        ap result good_came.reads
        ∙ sym (ap (map_answer head_of) (has_lines f lines good_came.from good_came.was (bits_same true t)))
