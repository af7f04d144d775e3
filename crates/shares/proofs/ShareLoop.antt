-- Laws of the loop that writes the shares of all outputs. Assumes nothing.
use Prim.Native.Nat.{ℕ, zero, suc, ◌+◌, ◌/◌, ◌<◌, ◌≤◌}
use native.Mathlib.Omega.{arith}
use native.Mathlib.Nat.{add-zero, add_assoc, le-max_left, le-max_right}
use mathlib.Core.Path.{◌≡◌, refl, sym, ap, ap₂, ◌∙◌}
use mathlib.Core.List.{List, [], ◌∷◌, ◌++◌}
use lib.ListN.{length, get_or, drop, length-append, drop_of_length-le}
use Rattle.wire.proofs.ListLaws.{drop_next}
use Rattle.gate.specs.declared.gates.Gate.{Gate}
use Rattle.node.specs.Exprs.{Expr, ZERO}
use Rattle.program.specs.Reading.{output_at}
use Rattle.areas.specs.AreaGates.{put_gates}
use Rattle.appending.specs.Appending.{Appended}
use Rattle.appending.specs.declared.writer.GateWriter.{GateWriter}
use Rattle.areas.proofs.WriterLaws.{put_none, put_append}
use Rattle.construction.specs.Construction.{share, circuit_gates}
use Rattle.construction.specs.Pools.{all_free}
use Rattle.construction.specs.Steps.{share_count}
use Rattle.construction.proofs.Numbers.{most, share_from, shares_from, most_of}
use Rattle.construction.proofs.CountLaws.{share_length, circuit_length}
use Rattle.construction.proofs.PoolLaws.{share_gates, tree_lines_lem, circuit_is, lines_needed_lem}
use Rattle.program.specs.Tables.{tree_in, trees_in}
use Rattle.progress.proofs.ProgressLaws.{appended_length}
use Rattle.construct.specs.Writing.{Room}
use Rattle.shares.specs.Sharing.{CircuitRoom}
use Rattle.program.proofs.OperandLaws.{trees_length, tree_at}

-- no output takes more work lines than are needed
most_needed : (es : List Expr) (k : ℕ) → k < length es → most (get_or es k ZERO) ≤ most_of es
unfolding most_of
most_needed [] k h = absurd (omega arith)
most_needed (e ∷ es) zero h = le-max_left (most e) (most_of es)
most_needed (e ∷ es) (suc k) h = omega (arith, most_needed es k (omega arith), le-max_right (most e) (most_of es))

module _ (nodes outputs : List ℕ) (n : ℕ) where
  abbrev es : List Expr
  es = trees_in nodes outputs

  abbrev m : ℕ
  m = length outputs / 2

  -- the shares from output k on
  abbrev left : ℕ → List Gate
  left k = shares_from (drop k es) (n + k) (n + m)

  -- the share of output k
  abbrev next : ℕ → List Gate
  next k = share_from (tree_in nodes (output_at outputs k)) (n + k) (n + m)

  -- all shares are the circuit
  left_all : left 0 ≡ circuit_gates n es
  left_all = ap₂ (λ (t l : ℕ). shares_from es t (n + l)) (add-zero n) (sym (trees_length nodes outputs)) ∙ sym (circuit_is n es)

  -- the next share comes first
  left_next : (k : ℕ) → k < m → left k ≡ next k ++ left (k + 1)
  unfolding shares_from
  left_next k h =
      ap (λ (l : List Expr). shares_from l (n + k) (n + m)) (drop_next es k ZERO (omega (arith, trees_length nodes outputs)))
      ∙ ap₂ (λ (e : Expr) (t : ℕ). share_from e (n + k) (n + m) ++ shares_from (drop (k + 1) es) t (n + m)) (tree_at nodes outputs k h) (add_assoc n k 1)

  left_count : (k : ℕ) → k < m → length (left k) ≡ length (next k) + length (left (k + 1))
  left_count k h = ap (λ (gs : List Gate). length gs) (left_next k h) ∙ length-append (next k) (left (k + 1))

  -- no share is left
  left_none : (k : ℕ) → m ≤ k → left k ≡ []
  unfolding shares_from
  left_none k h = ap (λ (l : List Expr). shares_from l (n + k) (n + m)) (drop_of_length-le es {i = k} (omega (arith, trees_length nodes outputs)))

  -- a loop has still to append the shares from output k on
  pub record Writing (area₀ : List ℕ) (w : GateWriter) (k : ℕ) : Type 0 where
    pub within : k ≤ m
    pub same : length w.area.now ≡ length area₀
    pub count : w.count + length (left k) ≡ length (circuit_gates n es)
    pub rest : put_gates w.area.now w.count (left k) ≡ put_gates area₀ 0 (circuit_gates n es)

  module _ {area₀ : List ℕ} where
    -- at first, all of them
    pub writing_start : {w : GateWriter} → w.area.now ≡ area₀ → w.count ≡ 0 → Writing area₀ w 0
    writing_start {w} same none =
        rw (same, none)
        (record {
          within = omega arith;
          same = refl;
          count = omega (arith, ap (λ (gs : List Gate). length gs) left_all);
          rest = ap (put_gates area₀ 0) left_all;
        })

    module _ {w : GateWriter} {k : ℕ} (p : Writing area₀ w k) where
      -- there is room for the next share, on any target
      pub writing_room : {t : ℕ} → k < m → CircuitRoom nodes outputs n area₀ → n ≤ t → t < n + m
          → Room nodes (output_at outputs k) t (n + m) (share_count 1 (tree_in nodes (output_at outputs k))) w
      writing_room {t} h r behind taken =
          let next_length : length (next k) ≡ share_count 1 (tree_in nodes (output_at outputs k)) = share_length (tree_in nodes (output_at outputs k)) (n + k) (n + m) (omega arith) in
          record {
            valid = record { inputs = n; ordered = r.ordered; inside = r.named k h };
            behind = behind;
            taken = taken;
            lines = omega (arith, r.lines, lines_needed_lem n es, tree_lines_lem (tree_in nodes (output_at outputs k)) t (n + m), ap most (tree_at nodes outputs k h), most_needed es k (omega (arith, trees_length nodes outputs)));
            room = omega (arith, r.room, p.same, p.count, left_count k h, circuit_length n es, next_length);
          }

      -- and then fewer are left
      pub writing_next : {v : GateWriter} → k < m → Appended (share (tree_in nodes (output_at outputs k)) (n + k) (all_free (n + m))).gates w v → Writing area₀ v (k + 1)
      writing_next {v} h t =
          let s : Appended (next k) w v = rw (share_gates (tree_in nodes (output_at outputs k)) (n + k) (n + m)) at t in
          record {
            within = omega arith;
            same = appended_length s ∙ p.same;
            count = omega (arith, p.count, left_count k h, s.stored.count_to);
            rest =
                rw (s.stored.count_to, s.stored.area_to)
                (put_append w.area.now w.count (next k) (left (k + 1)) ∙ ap (put_gates w.area.now w.count) (sym (left_next k h)) ∙ p.rest);
          }

      -- until none is, and so many gates are written
      pub writing_count : m ≤ k → w.count ≡ length (circuit_gates n es)
      writing_count h = omega (arith, p.count, ap (λ (gs : List Gate). length gs) (left_none k h))

      pub writing_all : m ≤ k → w.area.now ≡ put_gates area₀ 0 (circuit_gates n es)
      writing_all h = sym (put_none w.area.now w.count) ∙ ap (put_gates w.area.now w.count) (sym (left_none k h)) ∙ p.rest

-- an area of the same length can be written as well
pub room_same : {nodes outputs area after : List ℕ} {n : ℕ} → CircuitRoom nodes outputs n area → length after ≡ length area → CircuitRoom nodes outputs n after
room_same w e = record { ordered = w.ordered; named = w.named; lines = w.lines; few = w.few; room = omega (arith, w.room) }
