-- Laws of writing gates of an area again in the same area, last to first. Assumes nothing.
use Prim.Native.Nat.{ℕ, suc, ◌+◌, ◌*◌, ◌-◌, ◌<◌, ◌≤◌}
use native.Mathlib.Omega.{arith}
use mathlib.Core.Path.{◌≡◌, refl, sym, ap, ◌∙◌}
use mathlib.Core.Logic.{◌≢◌}
use mathlib.Core.List.{List, [], ◌∷◌, ◌++◌}
use lib.ListN.{length, length-append}
use lib.Dec.{eqb}
use borrow.Author.Tests.{eq-eqb, ne_eqb}
use Rattle.wire.specs.Lists.{tabulate_from}
use Rattle.gate.specs.declared.gates.Gate.{Gate}
use Rattle.gate.specs.Gates.{target}
use Rattle.gate.specs.Running.{without, uncompute}
use Rattle.gate.proofs.UncomputeLaws.{uncompute_snoc, one_out, one_kept}
use Rattle.gate_bytes.specs.GateBytes.{gate_at}
use Rattle.circuit.specs.Format.{file_length}
use Rattle.areas.specs.AreaGates.{put_gates, gate_in, gates_from, body_in, Stored}
use Rattle.appending.specs.Reversing.{InOrder, Repeatable, Reversible}
use Rattle.areas.proofs.WriterLaws.{put_length, put_none, put_append}
use Rattle.areas.proofs.AreaLaws.{body_long, body_gate, put_before, from_last, stored_none}
use Rattle.appending.proofs.CopyLaws.{order_before}

module _ (area : List ℕ) (i k out : ℕ) where
  -- its bytes are there, in the gates before gate k
  pub again_there : {body : List ℕ} → Repeatable area i k out → body ≡ body_in area k → 8 * (i + 1) ≤ length body
  again_there r e = omega (arith, ap length e, body_long area k r.there, r.before)

  -- and the target that is read is its target
  pub again_target : {body : List ℕ} {t : ℕ} → Repeatable area i k out → body ≡ body_in area k → t ≡ target (gate_at body i) → t ≡ target (gate_in area i)
  again_target r e f =
      f ∙ ap (λ (b : List ℕ). target (gate_at b i)) e ∙ ap target (body_gate area k i r.before r.there)

  -- a gate that is left out is not written again
  pub again_none : {t : ℕ} → t ≡ target (gate_in area i) → out ≡ t → Stored (without (eqb out) (gate_in area i ∷ [])) k k area area
  again_none is e =
      rw (one_out (eqb out) (gate_in area i) (eq-eqb out (target (gate_in area i)) (e ∙ is))) (stored_none k area)

  module _ {t : ℕ} (is : t ≡ target (gate_in area i)) (other : out ≢ t) where
    -- a gate that is not left out
    one : without (eqb out) (gate_in area i ∷ []) ≡ gate_in area i ∷ []
    one = one_kept (eqb out) (gate_in area i) (ne_eqb out (target (gate_in area i)) (λ e. other (e ∙ sym is)))

    -- there is room for another one
    pub again_room : Repeatable area i k out → file_length (k + 1) ≤ length area
    again_room r = omega (arith, r.room, ap (λ (gs : List Gate). length gs) one)

    -- which is written
    pub again_one : {after : List ℕ} → after ≡ put_gates area k (gate_in area i ∷ []) → Stored (without (eqb out) (gate_in area i ∷ [])) k (k + 1) area after
    again_one e = rw one (record { count_to = refl; area_to = e })

module _ (area₀ : List ℕ) (from to at out : ℕ) where
  -- what is to be written again of the gates before gate i
  abbrev left : ℕ → List Gate
  left i = uncompute (eqb out) (gates_from area₀ from (i - from))

  -- a loop from the last gate to the first has still to write the gates before gate i again, the next as gate k
  pub record Going (area : List ℕ) (k i : ℕ) : Type 0 where
    pub low : from ≤ i
    pub high : i ≤ to
    pub after : at ≤ k
    pub same : length area ≡ length area₀
    pub kept : (j : ℕ) → j < at → gate_in area j ≡ gate_in area₀ j
    pub each : (j : ℕ) → j < to → from ≤ j → InOrder area j
    pub count : k + length (left i) ≡ at + length (left to)
    pub rest : put_gates area k (left i) ≡ put_gates area₀ at (left to)

  module _ (r : Reversible area₀ from to at out) where
    -- at first, all of them
    pub going_start : Going area₀ at to
    going_start =
        record { low = r.ordered; high = omega arith; after = omega arith; same = refl; kept = λ j h. refl; each = r.each; count = refl; rest = refl }

    module _ {area : List ℕ} {k i : ℕ} (p : Going area k i) (more : from < i) where
      abbrev next : List Gate
      next = without (eqb out) (gate_in area (i - 1) ∷ [])

      -- the next gate comes first
      left_next : left i ≡ next ++ left (i - 1)
      left_next =
          let n : i - from ≡ suc (i - 1 - from) = omega arith in
          let m : from + (i - 1 - from) ≡ i - 1 = omega arith in
          ap (λ (l : ℕ). uncompute (eqb out) (gates_from area₀ from l)) n
          ∙ ap (uncompute (eqb out)) (from_last area₀ from (i - 1 - from))
          ∙ uncompute_snoc (eqb out) (gates_from area₀ from (i - 1 - from)) (gate_in area₀ (from + (i - 1 - from)))
          ∙ ap (λ (l : ℕ). without (eqb out) (gate_in area₀ l ∷ []) ++ left (i - 1)) m
          ∙ ap (λ (g : Gate). without (eqb out) (g ∷ []) ++ left (i - 1)) (sym (p.kept (i - 1) (omega (arith, p.high, r.before))))

      -- so many are to be written
      left_count : length (left i) ≡ length next + length (left (i - 1))
      left_count = ap (λ (gs : List Gate). length gs) left_next ∙ length-append next (left (i - 1))

      -- there is room for it
      pub going_room : Repeatable area (i - 1) k out
      going_room =
          record {
            order = p.each (i - 1) (omega (arith, p.high)) (omega arith);
            before = omega (arith, p.high, p.after, r.before);
            there = omega (arith, p.same, p.count, r.room);
            room = omega (arith, p.same, p.count, r.room, left_count);
          }

      -- and then fewer are left
      pub going_next : {area' : List ℕ} {k' : ℕ} → Stored next k k' area area' → Going area' k' (i - 1)
      going_next {area'} {k'} s =
          rw (s.count_to, s.area_to)
          (record {
            low = omega arith;
            high = omega (arith, p.high);
            after = omega (arith, p.after);
            same = put_length area k next ∙ p.same;
            kept = λ j h. put_before area k next j (omega (arith, p.after)) ∙ p.kept j h;
            each = λ j h q. order_before area j k next (omega (arith, p.after, r.before)) (p.each j h q);
            count = omega (arith, p.count, left_count);
            rest = put_append area k next (left (i - 1)) ∙ ap (put_gates area k) (sym left_next) ∙ p.rest;
          })

    -- until none is
    pub going_all : {area : List ℕ} {k i : ℕ} → Going area k i → i ≤ from → Stored (left to) at k area₀ area
    unfolding uncompute without tabulate_from
    going_all {area} {k} {i} p h =
        let n : i - from ≡ 0 = omega arith in
        let none : left i ≡ [] = ap (λ (l : ℕ). uncompute (eqb out) (gates_from area₀ from l)) n in
        record {
          count_to = omega (arith, p.count, ap (λ (gs : List Gate). length gs) none);
          area_to = sym (put_none area k) ∙ ap (put_gates area k) (sym none) ∙ p.rest;
        }
