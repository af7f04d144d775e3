-- Laws of building a tree: what was appended for the operands goes together, and there is room for each. Assumes nothing.
use Prim.Native.Nat.{ℕ, ◌+◌, ◌-◌, ◌≤◌, ◌<◌}
use native.Mathlib.Omega.{arith}
use native.Mathlib.Nat.{add-zero}
use mathlib.Core.Path.{◌≡◌, refl, sym, ap, ap₂, ◌∙◌}
use mathlib.Core.Bool.{Bool, true, false}
use mathlib.Core.Option.{none, some}
use mathlib.Core.List.{List, [], ◌∷◌, ◌++◌, reverse, append_assoc}
use lib.ListN.{length, length-append, length-reverse}
use lib.Dec.{eqb}
use Rattle.gate.specs.declared.gates.Gate.{Gate}
use Rattle.gate.specs.declared.gates.Gate.TheVariants.{Not, Cnot}
use Rattle.gate.specs.Running.{uncompute}
use Rattle.gate.proofs.UncomputeLaws.{without_none}
use Rattle.circuit.specs.Format.{file_length}
use Rattle.areas.specs.AreaGates.{put_gates, gates_from}
use Rattle.appending.specs.Appending.{Appended}
use Rattle.appending.specs.Reversing.{Reversible}
use Rattle.appending.specs.declared.writer.GateWriter.{GateWriter}
use Rattle.appending.proofs.StoredLaws.{stored_back, stored_order}
use Rattle.node.specs.Exprs.{Expr, ZERO, ONE, INPUT, NOT, XOR, AND, InputsBelow}
use Rattle.node.specs.Nodes.{nodes_in}
use Rattle.node.proofs.TreeLaws.{trees_below}
use Rattle.program.specs.Tables.{tree_in}
use Rattle.program.proofs.OperandLaws.{Operand, Unary, Binary}
use Rattle.construction.specs.Construction.{input_of, and_gate, cleaning}
use Rattle.construction.specs.Steps.{operand_count, cleaning_count, built_count}
use Rattle.construction.proofs.Numbers.{control_from, operand_gates, operand_lines, held, most, next_free, build_from, ApartFrom}
use Rattle.construction.proofs.AndLaws.{held_most, lines_more, lines_built}
use Rattle.construction.proofs.PoolLaws.{tree_lines_lem}
use Rattle.construction.proofs.CountLaws.{build_length, made_length, and_one}
use Rattle.construction.proofs.LineLaws.{most_not, most_xor_first, most_xor_second, most_and_first, most_and_second, operands_from, operands_formed, operands_miss}
use Rattle.pool.specs.LinePools.{line_numbers}
use Rattle.controls.specs.Controls.{ControlIs}
use Rattle.controls.proofs.ControlLaws.{control_input, control_free, control_at}
use Rattle.progress.specs.Progress.{Wrote}
use Rattle.progress.proofs.ProgressLaws.{appended_none, appended_then, appended_length, by_numbers, wrote}
use Rattle.construct.specs.Writing.{Room}

-- a tree's gates, from those of its operands
pub built_zero : {t f : ℕ} {u : GateWriter} → Wrote ZERO t f f u u
unfolding build_from held
built_zero {f = f} {u = u} = wrote (record { appended = appended_none u; free_to = sym (add-zero f) })

module _ {t f : ℕ} {u v : GateWriter} where
  pub built_one : Appended (Not t ∷ []) u v → Wrote ONE t f f u v
  unfolding build_from held
  built_one a = wrote (record { appended = a; free_to = sym (add-zero f) })

  pub built_input : {j : ℕ} → Appended (Cnot j t ∷ []) u v → Wrote (INPUT j) t f f u v
  unfolding build_from held
  built_input a = wrote (record { appended = a; free_to = sym (add-zero f) })

module _ {t f r : ℕ} {u v w : GateWriter} where
  pub built_not : {a : Expr} → Appended (Not t ∷ []) u v → Wrote a t f r v w → Wrote (NOT a) t f r u w
  unfolding build_from held
  built_not a b = let rest = by_numbers b in wrote (record { appended = appended_then a rest.appended; free_to = rest.free_to })

  pub built_xor : {a b : Expr} {g : ℕ} → Wrote a t f g u v → Wrote b t g r v w → Wrote (XOR a b) t f r u w
  unfolding build_from held
  built_xor a b =
      let first = by_numbers a in
      let rest = by_numbers b in
      wrote (record { appended = appended_then first.appended (rw first.free_to at rest.appended); free_to = omega (arith, rest.free_to, first.free_to) })

-- an operand of AND is made with f as the lowest free line: c is its control, and g the lowest free line then
pub record Made (e : Expr) (f c g : ℕ) (u v : GateWriter) : Type 0 where
  pub control : ControlIs e f c
  pub appended : Appended (operand_gates (input_of e) (build_from e f (f + 1))) u v
  pub free_to : g ≡ f + operand_lines (input_of e) (held e)

module _ {e : Expr} {f c g : ℕ} {u v : GateWriter} where
  -- an input is made as it is
  pub made_input : {j : ℕ} → input_of e ≡ some j → c ≡ j → g ≡ f → v ≡ u → Made e f c g u v
  unfolding operand_gates operand_lines
  made_input o line free same =
      record { control = rw line (control_input o); appended = rw (o, same) (appended_none u); free_to = rw (o, free) (sym (add-zero f)) }

  -- any other operand by building it
  pub made_built : {f' g' : ℕ} {v' : GateWriter} → input_of e ≡ none → f' ≡ f + 1 → Wrote e f f' g' u v' → c ≡ f → g ≡ g' → v ≡ v' → Made e f c g u v
  unfolding operand_gates operand_lines
  made_built o d w line free same =
      let b = by_numbers w in
      record { control = rw line (control_free o); appended = rw (o, same, ← d) b.appended; free_to = free ∙ b.free_to ∙ rw (o, d) (omega arith) }

-- an AND's operands are made, and the gate from their controls is appended
module _ (t : ℕ) {a b : Expr} {f c g d h : ℕ} {u v w x : GateWriter} (p : Made a f c g u v) (q : Made b g d h v w) (z : Appended (and_gate c d t ∷ []) w x) where
  abbrev own : Gate
  own = and_gate (control_from (input_of a) f) (control_from (input_of b) (next_free f a)) t

  next_at : g ≡ next_free f a
  unfolding next_free
  next_at = p.free_to

  made_all : Appended (operands_from a b f) u w
  made_all = appended_then p.appended (rw next_at at q.appended)

  own_is : Appended (own ∷ []) w x
  own_is = rw (control_at p.control, control_at q.control, next_at) at z

  own_free : h ≡ f + (operand_lines (input_of a) (held a) + operand_lines (input_of b) (held b))
  own_free = omega (arith, q.free_to, p.free_to)

  -- without a mark these are its gates
  pub built_plain : {m : Bool} → m ≡ false → Wrote (AND m a b) t f h u x
  unfolding build_from held next_free cleaning
  built_plain e = rw e (wrote (record { appended = appended_then made_all own_is; free_to = own_free }))

  -- where they are well formed and there is room for them, those that made the operands are read back
  module _ {n L : ℕ} (small : L ≤ 65536) (apart : ApartFrom n (AND true a b) t f L) (room : file_length (u.count + length (operands_from a b f)) ≤ length u.area.now) where
    made_to : w.count ≡ u.count + length (operands_from a b f)
    made_to = made_all.stored.count_to

    own_to : x.count ≡ w.count + 1
    own_to = own_is.stored.count_to

    area_is : x.area.now ≡ put_gates (put_gates u.area.now u.count (operands_from a b f)) (u.count + length (operands_from a b f)) (own ∷ [])
    area_is = own_is.stored.area_to ∙ ap₂ (λ (y : List ℕ) (i : ℕ). put_gates y i (own ∷ [])) made_all.stored.area_to made_all.stored.count_to

    made_back : gates_from x.area.now u.count (w.count - u.count) ≡ operands_from a b f
    made_back =
        let long : w.count - u.count ≡ length (operands_from a b f) = omega (arith, made_to) in
        ap₂ (λ (y : List ℕ) (i : ℕ). gates_from y u.count i) area_is long
        ∙ stored_back L small u.area.now u.count (operands_from a b f) (own ∷ []) (operands_formed n true a b t f L apart) room

    -- undone as they are: none of them is on the target
    undone_is : uncompute (eqb t) (gates_from x.area.now u.count (w.count - u.count)) ≡ reverse (operands_from a b f)
    unfolding uncompute
    undone_is = ap (λ (gs : List Gate). uncompute (eqb t) gs) made_back ∙ ap reverse (without_none t (operands_from a b f) (operands_miss a b f t apart.free))

    -- they can be undone behind a marked AND
    pub cleanable : file_length (u.count + (length (operands_from a b f) + (1 + length (operands_from a b f)))) ≤ length u.area.now → Reversible x.area.now u.count w.count x.count t
    cleanable far =
        let long : length (uncompute (eqb t) (gates_from x.area.now u.count (w.count - u.count))) ≡ length (operands_from a b f) = ap (λ (gs : List Gate). length gs) undone_is ∙ length-reverse (operands_from a b f) in
        let same : length x.area.now ≡ length u.area.now = appended_length own_is ∙ appended_length made_all in
        record {
          ordered = omega (arith, made_to);
          each = λ j k low. rw area_is (stored_order L small u.area.now u.count (operands_from a b f) (own ∷ []) (operands_formed n true a b t f L apart) room j (omega (arith, made_to)) low);
          before = omega (arith, own_to);
          room = omega (arith, far, long, made_to, own_to, same);
        }

    -- and then these are its gates
    pub built_marked : {m : Bool} {r : ℕ} {y : GateWriter} → m ≡ true → Appended (uncompute (eqb t) (gates_from x.area.now u.count (w.count - u.count))) x y → r ≡ f → Wrote (AND m a b) t f r u y
    unfolding build_from held cleaning
    built_marked {y = y} e s free =
        let gs : List Gate = operands_from a b f in
        let all : Appended ((gs ++ (own ∷ [])) ++ reverse gs) u y = appended_then (appended_then made_all own_is) (rw undone_is at s) in
        rw e (wrote (record { appended = rw (append_assoc gs (own ∷ []) (reverse gs)) at all; free_to = free ∙ sym (add-zero f) }))

-- the room for node i is enough for a part of it that starts later and ends no later
room_part : {nodes : List ℕ} {i t f : ℕ} {w : GateWriter} (a t' f' : ℕ) (v : GateWriter)
    → Room nodes i t f (built_count 1 (tree_in nodes i)) w → Operand nodes i a → t ≤ t' → t' < f' → length v.area.now ≡ length w.area.now
    → v.count + built_count 1 (tree_in nodes a) ≤ w.count + built_count 1 (tree_in nodes i)
    → f' + most (tree_in nodes a) ≤ f + most (tree_in nodes i)
    → Room nodes a t' f' (built_count 1 (tree_in nodes a)) v
room_part {nodes} {i} {t} {f} a t' f' v m o up h same g lines =
    record {
      valid = record { inputs = m.valid.inputs; ordered = m.valid.ordered; inside = o.valid.inside };
      behind = omega (arith, m.behind);
      taken = h;
      lines = omega (arith, m.lines, tree_lines_lem (tree_in nodes a) t' f', tree_lines_lem (tree_in nodes i) t f);
      room = omega (arith, m.room);
    }

-- there is room for each gate and each operand of node i, by its kind
module _ {nodes : List ℕ} {i t f : ℕ} {w : GateWriter} (m : Room nodes i t f (built_count 1 (tree_in nodes i)) w) where
  -- its lowest free line has a number
  pub free_low : f < line_numbers
  free_low = omega (arith, m.lines)

  abbrev OneMore : Type 0
  OneMore = file_length (w.count + 1) ≤ length w.area.now

  pub room_one : tree_in nodes i ≡ ONE → OneMore
  unfolding built_count
  room_one e = omega (arith, m.room, ap (built_count 1) e)

  pub room_input : {j : ℕ} → tree_in nodes i ≡ INPUT j → OneMore
  unfolding built_count
  room_input e = omega (arith, m.room, ap (built_count 1) e)

  module _ {a : ℕ} (u : Unary NOT nodes i a) where
    pub room_not : OneMore
    unfolding built_count
    room_not = omega (arith, m.room, ap (built_count 1) u.is)

    pub room_under : {v : GateWriter} → Appended (Not t ∷ []) w v → Room nodes a t f (built_count 1 (tree_in nodes a)) v
    unfolding built_count
    room_under {v} s =
        let to : v.count ≡ w.count + 1 = s.stored.count_to in
        room_part a t f v m u.only (omega arith) m.taken (appended_length s)
        (omega (arith, ap (built_count 1) u.is, to))
        (omega (arith, ap most u.is, most_not (tree_in nodes a)))

  module _ {a b : ℕ} (u : Binary XOR nodes i a b) where
    pub room_xor_first : Room nodes a t f (built_count 1 (tree_in nodes a)) w
    unfolding built_count
    room_xor_first =
        room_part a t f w m u.first (omega arith) m.taken refl
        (omega (arith, ap (built_count 1) u.is))
        (omega (arith, ap most u.is, most_xor_first (tree_in nodes a) (tree_in nodes b)))

    -- there is room for the second wherever it starts, up to where the first ended
    pub room_xor_from : {p g : ℕ} {v from : GateWriter} → Wrote (tree_in nodes a) t f p w v → length from.area.now ≡ length w.area.now
        → t < g → from.count ≤ v.count → g ≤ p → Room nodes b t g (built_count 1 (tree_in nodes b)) from
    unfolding built_count
    room_xor_from {p} {g} {v} {from} s same h few low =
        let x = by_numbers s in
        room_part b t g from m u.second (omega arith) h same
        (omega (arith, ap (built_count 1) u.is, x.appended.stored.count_to, build_length (tree_in nodes a) t f, few))
        (omega (arith, ap most u.is, most_xor_second (tree_in nodes a) (tree_in nodes b), x.free_to, low))

    -- and so where it ended
    pub room_xor_second : {g : ℕ} {v : GateWriter} → Wrote (tree_in nodes a) t f g w v → Room nodes b t g (built_count 1 (tree_in nodes b)) v
    room_xor_second {g} {v} s =
        let x = by_numbers s in
        room_xor_from s (appended_length x.appended) (omega (arith, m.taken, x.free_to)) (omega arith) (omega arith)

  module _ {mark : Bool} {a b : ℕ} (u : Binary (AND mark) nodes i a b) where
    -- the inputs of every node are below their number
    below : (j : ℕ) → InputsBelow m.valid.inputs (tree_in nodes j)
    unfolding tree_in
    below j = trees_below m.valid.inputs (nodes_in nodes) m.valid.ordered j

    abbrev made : ℕ
    made = operand_count (input_of (tree_in nodes a)) (built_count 1 (tree_in nodes a)) + operand_count (input_of (tree_in nodes b)) (built_count 1 (tree_in nodes b))

    gates_are : built_count 1 (tree_in nodes i) ≡ made + (1 + cleaning_count mark made)
    unfolding built_count
    gates_are = ap (built_count 1) u.is ∙ omega (arith, and_one (input_of (tree_in nodes a)) (input_of (tree_in nodes b)))

    -- the gates that make its operands
    made_gates : length (operands_from (tree_in nodes a) (tree_in nodes b) f) ≡ made
    made_gates =
        length-append (operand_gates (input_of (tree_in nodes a)) (build_from (tree_in nodes a) f (f + 1))) _
        ∙ ap₂ ◌+◌ (made_length (tree_in nodes a) f) (made_length (tree_in nodes b) (next_free f (tree_in nodes a)))

    -- its lines are apart
    pub and_apart : ApartFrom m.valid.inputs (AND mark (tree_in nodes a) (tree_in nodes b)) t f line_numbers
    and_apart =
        record {
          inputs = (below a, below b);
          behind = m.behind;
          free = m.taken;
          below = omega (arith, m.lines, tree_lines_lem (tree_in nodes i) t f, ap most u.is);
        }

    -- where the first operand is built there is room for it, once it has its line
    pub room_and_first : {f' : ℕ} → input_of (tree_in nodes a) ≡ none → f' ≡ f + 1 → Room nodes a f f' (built_count 1 (tree_in nodes a)) w
    unfolding operand_count
    room_and_first {f'} o d =
        room_part a f f' w m u.first (omega (arith, m.taken)) (omega arith) refl
        (omega (arith, rw o at gates_are))
        (omega (arith, ap most u.is, most_and_first (tree_in nodes a) (tree_in nodes b) mark, lines_built o (most (tree_in nodes a))))

    -- once the first operand is made
    module _ {c g : ℕ} {v : GateWriter} (p : Made (tree_in nodes a) f c g w v) where
      -- the lowest free line still has a number
      pub next_low : g < line_numbers
      next_low =
          let lines : operand_lines (input_of (tree_in nodes a)) (held (tree_in nodes a)) ≤ operand_lines (input_of (tree_in nodes a)) (most (tree_in nodes a)) = lines_more (input_of (tree_in nodes a)) _ _ (held_most (tree_in nodes a)) in
          omega (arith, m.lines, tree_lines_lem (tree_in nodes i) t f, ap most u.is, most_and_first (tree_in nodes a) (tree_in nodes b) mark, p.free_to, lines)

      -- where the second operand is built there is room for it, once it has its line
      pub room_and_second : {g' : ℕ} → input_of (tree_in nodes b) ≡ none → g' ≡ g + 1 → Room nodes b g g' (built_count 1 (tree_in nodes b)) v
      unfolding operand_count
      room_and_second {g'} o d =
          room_part b g g' v m u.second (omega (arith, m.taken, p.free_to)) (omega arith) (appended_length p.appended)
          (omega (arith, rw o at gates_are, p.appended.stored.count_to, made_length (tree_in nodes a) f))
          (omega (arith, ap most u.is, most_and_second (tree_in nodes a) (tree_in nodes b) mark, lines_built o (most (tree_in nodes b)), p.free_to))

      -- there is room for the gate from their controls
      pub room_and : {d h : ℕ} {x : GateWriter} → Made (tree_in nodes b) g d h v x → file_length (x.count + 1) ≤ length x.area.now
      room_and {x = x} q =
          omega (
            arith,
            m.room,
            gates_are,
            appended_length p.appended,
            appended_length q.appended,
            p.appended.stored.count_to,
            made_length (tree_in nodes a) f,
            q.appended.stored.count_to,
            made_length (tree_in nodes b) g,
          )

    -- and to clean up behind it where it is marked
    pub room_cleaned : mark ≡ true
        → (file_length (w.count + length (operands_from (tree_in nodes a) (tree_in nodes b) f)) ≤ length w.area.now)
        × (file_length (w.count + (length (operands_from (tree_in nodes a) (tree_in nodes b) f) + (1 + length (operands_from (tree_in nodes a) (tree_in nodes b) f)))) ≤ length w.area.now)
    unfolding cleaning_count
    room_cleaned e =
        let all : built_count 1 (tree_in nodes i) ≡ made + (1 + made) = rw e at gates_are in
        (omega (arith, m.room, all, made_gates), omega (arith, m.room, all, made_gates))
