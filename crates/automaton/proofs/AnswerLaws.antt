-- Each answer to a text is right, and no other is. Assumes nothing.
use Prim.Native.Nat.{ℕ, suc, ◌+◌, ◌-◌, ◌≤◌, ◌<◌}
use native.Mathlib.Omega.{arith}
use native.Mathlib.Decide.{dec_lt}
use mathlib.Core.Path.{◌≡◌, refl, sym, ap, ◌∙◌}
use mathlib.Core.Logic.{◌≢◌}
use mathlib.Core.Bool.{Bool, true, false, false≢true}
use mathlib.Core.List.{List, [], ◌∷◌, ◌++◌, append_assoc, append-nil}
use lib.ListN.{length, get_or, take, drop, length-append, length-drop}
use lib.Seq.{take_at, take-append-add, take-length, take-suc, split_at}
use lib.Dec.{leb}
use borrow.Author.Tests.{ltb-false, le-leb, lt-leb, leb-true, leb-false}
use Rattle.refusal.specs.Answers.{Answer, result, refused, refuse, check}
use Rattle.refusal.proofs.AnswerLaws.{Never}
use Rattle.refusal.specs.declared.causes.Refusal.TheVariants as cause
use Rattle.wire.specs.Limits.{most_inputs, most_text, most_open}
use Rattle.grammar.specs.Characters.{letter_x}
use Rattle.grammar.specs.Grammar.{Sum, number_text}
use Rattle.grammar.specs.FormulaNodes.{sum_nodes}
use Rattle.grammar.specs.Language.{Reading, Viable, ViableWithin, Reads}
use Rattle.automaton.specs.States.{AroundFactor, State, factor_next, digit_next, digits_read, product_read, opened, made, made_factor, initial}
use Rattle.automaton.specs.Automaton.{Next, stop, go, read_byte, finish, input_fits, within_limits, onward, read_rest, read_text}
use Rattle.automaton.specs.Answers.{InOrderTo, Outside, TooDeep, FirstHigh, TooHigh, RightAnswer, its_formula, too_long, too_many, outside, too_deep, too_high, OneAnswer}
use Rattle.automaton.proofs.SoFar.{before_factor, so_far}
use Rattle.automaton.proofs.Following.{Follows, stay, read, follows_wider, follows_append, follows_rest, follows_same, follows_stop}
use Rattle.automaton.proofs.Steps.{step_to, step_number}
use Rattle.automaton.proofs.TextLaws.{text_initial}
use Rattle.automaton.proofs.BoundLaws.{bound_initial, bound_follows, bound_opened, BoundAround, bound_around, step_opened}
use Rattle.automaton.proofs.ViableLaws.{viable_follows, follow_reading, Followed, followed}
use Rattle.automaton.proofs.NumberLaws.{below_follows, numbers_below}
use Rattle.automaton.proofs.NodeLaws.{first_high, high_once}
use Rattle.automaton.proofs.OutcomeLaws.{Outcome, to_end, at_stop, at_open, at_number, outcome, read_follows, fits_below}
use Rattle.automaton.proofs.ReadingLaws.{finish_whole, read_whole, ends_text, Finish, given, refused_there, finished, no_reading}

-- a byte more is followed
pub byte_follows : {d n : ℕ} (m : ℕ) {before : List ℕ} {τ υ : State} (b : ℕ) → Follows d n initial before τ → read_byte τ b ≡ go υ → d ≤ m → n ≤ 100 → opened υ ≤ m
    → Follows m 100 initial (before ++ (b ∷ [])) υ
byte_follows m b w q l h o = follows_append (follows_wider l h w) (read q o (step_number (step_to q)) stay)

-- the bytes before byte p of a text, and that byte
module _ (before : List ℕ) (b : ℕ) (after : List ℕ) where
  one_more : take (suc (length before)) (before ++ (b ∷ after)) ≡ before ++ (b ∷ [])
  one_more = ap (λ (k : ℕ). take k (before ++ (b ∷ after))) (let q : suc (length before) ≡ length before + 1 = omega arith in q) ∙ take-append-add before (b ∷ after) 1

  some_more : (k : ℕ) → length before < k → take k (before ++ (b ∷ after)) ≡ before ++ (b ∷ take (k - suc (length before)) after)
  some_more k h = ap (λ (j : ℕ). take j (before ++ (b ∷ after))) (let q : k ≡ length before + suc (k - suc (length before)) = omega arith in q) ∙ take-append-add before (b ∷ after) (suc (k - suc (length before)))

  before_end : length before < length (before ++ (b ∷ after))
  before_end = omega (arith, length-append before (b ∷ after))

  byte_place : length (before ++ (b ∷ after)) - length (b ∷ after) ≡ length before
  byte_place = omega (arith, length-append before (b ∷ after))

module _ (n : ℕ) (few : n ≤ most_inputs) where
  in_order : {before : List ℕ} {τ : State} (rest : List ℕ) → Follows most_open n initial before τ → InOrderTo n (before ++ rest) (length before)
  in_order {before} rest w =
      let all : take (length before) (before ++ rest) ≡ before = take_at before rest (length before) refl in
      record {
        inside = omega (arith, length-append before rest);
        viable = rw all (viable_follows most_open (omega arith) w);
        numbers = rw all (λ earlier later j two e. omega (arith, numbers_below w earlier later j two e));
      }

  -- 16 at a byte
  module _ {before : List ℕ} {τ : State} (b : ℕ) (after : List ℕ) (w : Follows most_open n initial before τ) where
    none_goes_on : read_byte τ b ≡ stop → (rest : List ℕ) → Reading (before ++ (b ∷ rest)) → ⊥
    none_goes_on q rest r = follows_stop q (follows_rest w (follow_reading r))

    outside_at : read_byte τ b ≡ stop → Outside n (before ++ (b ∷ after)) (length before)
    outside_at q =
        record {
          before = in_order (b ∷ after) w;
          longest = λ k h l v.
              let v' : Viable (before ++ (b ∷ take (k - suc (length before)) after)) = rw (some_more before b after k (omega (arith, h))) at v in
              none_goes_on q (take (k - suc (length before)) after ++ v'.rest) (rw append_assoc at v'.whole);
          not_text = none_goes_on q after;
        }

    -- 18
    module _ {υ : State} (q : read_byte τ b ≡ go υ) where
      one_opens : opened υ ≤ suc most_open
      one_opens = omega (arith, step_opened (step_to q), bound_opened most_open n τ (bound_follows most_open n w (bound_initial most_open n)))

      followed_on : {d : ℕ} (o : opened υ ≤ d) → most_open ≤ d → Follows d 100 initial (before ++ (b ∷ [])) υ
      followed_on {d} o l = byte_follows d b w q l (omega arith) o

      not_within : {d : ℕ} → d < opened υ → ViableWithin d (before ++ (b ∷ [])) → ⊥
      not_within {d} m v =
          let f = followed v in
          let same : υ ≡ f.state = follows_same (followed_on one_opens (omega arith)) f.follows in
          let few : opened f.state ≤ d = bound_opened d 100 f.state (bound_follows d 100 f.follows (bound_initial d 100)) in
          omega (arith, ap opened same)

      too_deep_at : most_open < opened υ → TooDeep n (before ++ (b ∷ after)) (length before)
      too_deep_at m =
          record {
            before = in_order (b ∷ after) w;
            inside = before_end before b after;
            viable = rw (one_more before b after) (viable_follows (suc most_open) (omega arith) (followed_on one_opens (omega arith)));
            deep = λ v. not_within (omega (arith, m)) (rw (one_more before b after) at v);
          }

    -- 5
    module _ (j : ℕ) (c : AroundFactor) (q : read_byte τ b ≡ go (digits_read j c)) (o : opened (digits_read j c) ≤ most_open) (high : n ≤ j) where
      to_number : Follows most_open 100 initial (before ++ (b ∷ [])) (digits_read j c)
      to_number = followed_on q o (omega arith)

      its_node : (v : Viable (before ++ (b ∷ []))) → FirstHigh n (sum_nodes v.whole.tree 0) (made_factor c)
      unfolding BoundAround
      its_node v =
          let r : Reading ((before ++ (b ∷ [])) ++ v.rest) = v.whole in
          first_high most_open n 0 j c r.tree
          (bound_around most_open n (step_to q) (bound_follows most_open n w (bound_initial most_open n)))
          high (follows_rest to_number (follow_reading r)) (finish_whole 0 r.tree)

      too_high_at : TooHigh n (before ++ (b ∷ after)) (made_factor c)
      unfolding so_far
      too_high_at =
          record {
            p = length before;
            before = in_order (b ∷ after) w;
            inside = before_end before b after;
            viable = rw (one_more before b after) (viable_follows most_open (omega arith) to_number);
            earlier = before_factor c;
            input = j;
            two = step_number (step_to q);
            spelled = text_initial to_number ∙ sym (one_more before b after);
            high = high;
            node = rw (one_more before b after) its_node;
          }

  -- 16 at the end
  outside_end : {text : List ℕ} {τ : State} → Follows most_open n initial text τ → finish (length text) τ ≡ refuse (cause.Text (length text)) → Outside n text (length text)
  outside_end {text} w e =
      record {
        before = record {
          inside = omega arith;
          viable = rw (take-length text) (viable_follows most_open (omega arith) w);
          numbers = rw (take-length text) (λ earlier later j two e. omega (arith, numbers_below w earlier later j two e));
        };
        longest = λ k h l v. omega arith;
        not_text = no_reading w e;
      }

  -- the answer that reading comes to is right
  right_rest : (l : ℕ) {text : List ℕ} {a : Answer Sum} → l ≡ length text → length text ≤ most_text → Outcome n l initial text a → RightAnswer n text a
  unfolding input_fits made
  right_rest l {text} e h (to_end {τ = τ} w) = by (finished l τ)
    where
      by : Finish l τ → RightAnswer n text (finish l τ)
      by (given s q) =
          let d = ends_text most_open n l s w q in
          rw q (its_formula (record { written = d.written; inputs = d.inputs; depth = d.depth; short = h; few = few }))
      by (refused_there q) =
          let q' : finish (length text) τ ≡ refuse (cause.Text (length text)) = rw e at q in
          rw (q, e) (outside h few (outside_end w q'))
  right_rest l e h (at_stop {before = before} b after w q) = rw (e, byte_place before b after) (outside h few (outside_at b after w q))
  right_rest l e h (at_open {before = before} b after w q m) = rw (e, byte_place before b after) (too_deep h few (too_deep_at b after w q m))
  right_rest l e h (at_number {before = before} {τ = τ} {υ = υ} b after w q o f) = by υ q o f
    where
      by : (υ : State) → read_byte τ b ≡ go υ → opened υ ≤ most_open → input_fits n υ ≡ false → RightAnswer n (before ++ (b ∷ after)) (refuse (cause.Node (made υ)))
      by (factor_next c) q o f = absurd (false≢true (sym f))
      by (digit_next c) q o f = absurd (false≢true (sym f))
      by (digits_read j c) q o f = too_high h few (too_high_at b after w j c q o (ltb-false j n f))
      by (product_read p k) q o f = absurd (false≢true (sym f))

  -- what is in order is followed
  ordered_follows : {text : List ℕ} {p : ℕ} → InOrderTo n text p → Followed most_open n (take p text)
  ordered_follows h = let f = followed h.viable in record { state = f.state; follows = below_follows n h.numbers f.follows }

  -- a text of which the bytes before byte p are in order
  module _ (text : List ℕ) (p : ℕ) (inside : p < length text) (h : InOrderTo n text p) where
    abbrev τ : State
    τ = (ordered_follows h).state

    abbrev b : ℕ
    b = get_or text p 0

    next_bytes : take (suc p) text ≡ take p text ++ (b ∷ [])
    next_bytes = take-suc text p 0 inside

    -- reading comes to this byte
    comes : read_rest n (length text) initial text ≡ onward n p (read_byte τ b) (λ υ. read_rest n (length text) υ (drop (suc p) text))
    unfolding read_rest
    comes =
        let place : length text - length (b ∷ drop (suc p) text) ≡ p = omega (arith, length-drop (suc p) text) in
        ap (read_rest n (length text) initial) (split_at text p 0 inside)
        ∙ read_follows n (length text) (b ∷ drop (suc p) text) (ordered_follows h).follows
        ∙ ap (λ (k : ℕ). onward n k (read_byte τ b) (λ υ. read_rest n (length text) υ (drop (suc p) text))) place

    -- and a text that goes on with it leads on
    leads : (d : ℕ) → ViableWithin d (take (suc p) text) → Followed d 100 (take p text ++ (b ∷ []))
    leads d v = followed (rw next_bytes at v)

    record Led (d : ℕ) : Type 0 where
      state : State
      reads : read_byte τ b ≡ go state
      open_few : opened state ≤ d

    led : (d : ℕ) → ViableWithin d (take (suc p) text) → Led d
    led d v = let f = leads d v in by f.state (follows_rest (ordered_follows h).follows f.follows)
      where
        by : (υ : State) → Follows d 100 τ (b ∷ []) υ → Led d
        by υ (read {τ = ρ} e o i w) = record { state = ρ; reads = e; open_few = o }

    -- a byte that leads on, with so many open, goes on a text of the language
    goes_on : (d : ℕ) {υ : State} → most_open ≤ d → read_byte τ b ≡ go υ → opened υ ≤ d → ViableWithin d (take (suc p) text)
    goes_on d l q o = rw next_bytes (viable_follows d (omega arith) (byte_follows d b (ordered_follows h).follows q l (omega arith) o))

    -- so 16 is given at a byte with which none goes on
    gives_16 : (Viable (take (suc p) text) → ⊥) → read_rest n (length text) initial text ≡ refuse (cause.Text p)
    unfolding onward
    gives_16 none = comes ∙ by (read_byte τ b) refl
      where
        by : (x : Next) → read_byte τ b ≡ x → onward n p x (λ υ. read_rest n (length text) υ (drop (suc p) text)) ≡ refuse (cause.Text p)
        by stop q = refl
        by (go υ) q = absurd (none (goes_on (suc most_open) (omega arith) q (one_opens b (drop (suc p) text) (ordered_follows h).follows q)).begins)

    -- 18 at one that opens the 65th
    gives_18 : TooDeep n text p → read_rest n (length text) initial text ≡ refuse (cause.Depth p)
    unfolding onward within_limits
    gives_18 t =
        let g = led (suc most_open) t.viable in
        let deep : most_open < opened g.state = by g (dec_lt most_open (opened g.state)) in
        comes ∙ rw (g.reads, lt-leb (opened g.state) most_open deep) refl
      where
        by : (g : Led (suc most_open)) → Dec (most_open < opened g.state) → most_open < opened g.state
        by g (yes l) = l
        by g (no l) = absurd (t.deep (goes_on _ (omega arith) g.reads (omega arith)))

    -- and 5 at one that ends a number which is not below n
    module _ {i : ℕ} (earlier : List ℕ) (input : ℕ) (two : input < 100) (spelled : earlier ++ (letter_x ∷ number_text input) ≡ take (suc p) text) (high : n ≤ input)
        (node : (v : Viable (take (suc p) text)) → FirstHigh n (sum_nodes v.whole.tree 0) i) (viable : ViableWithin most_open (take (suc p) text)) where
      not_below : (υ : State) → read_byte τ b ≡ go υ → opened υ ≤ most_open → input_fits n υ ≡ true → ⊥
      not_below υ q o f =
          let w = follows_append (ordered_follows h).follows (read q o (fits_below n υ f) stay) in
          let stands : earlier ++ (letter_x ∷ (number_text input ++ [])) ≡ take p text ++ (b ∷ []) = ap (λ (t : List ℕ). earlier ++ (letter_x ∷ t)) (append-nil (number_text input)) ∙ spelled ∙ next_bytes in
          omega (arith, numbers_below w earlier [] input two stands)

      same_node : (υ : State) → read_byte τ b ≡ go υ → opened υ ≤ most_open → input_fits n υ ≡ false → made υ ≡ i
      unfolding input_fits made
      same_node (factor_next c) q o f = absurd (false≢true (sym f))
      same_node (digit_next c) q o f = absurd (false≢true (sym f))
      same_node (digits_read j c) q o f =
          let v : Viable (take p text ++ (b ∷ [])) = rw next_bytes at viable.begins in
          high_once (its_node b (drop (suc p) text) (ordered_follows h).follows j c q o (ltb-false j n f) v) ((rw next_bytes at node) v)
      same_node (product_read k c) q o f = absurd (false≢true (sym f))

      gives_5 : read_rest n (length text) initial text ≡ refuse (cause.Node i)
      unfolding onward within_limits
      gives_5 = let g = led most_open viable in by g (input_fits n g.state) refl
        where
          by : (g : Led most_open) (t : Bool) → input_fits n g.state ≡ t → read_rest n (length text) initial text ≡ refuse (cause.Node i)
          by g true f = absurd (not_below g.state g.reads g.open_few f)
          by g false f =
              comes ∙ rw (g.reads, le-leb (opened g.state) most_open g.open_few, f) (ap (λ (k : ℕ). refuse (cause.Node k)) (same_node g.state g.reads g.open_few f))

  -- 16 where a text ends too early
  gives_end : (text : List ℕ) → Outside n text (length text) → read_rest n (length text) initial text ≡ refuse (cause.Text (length text))
  unfolding read_rest
  gives_end text t =
      let f : Followed most_open n text = rw (take-length text) at (ordered_follows t.before) in
      ap (read_rest n (length text) initial) (sym (append-nil text)) ∙ read_follows n (length text) [] f.follows ∙ by f (finished (length text) f.state)
    where
      by : (f : Followed most_open n text) → Finish (length text) f.state → finish (length text) f.state ≡ refuse (cause.Text (length text))
      by f (given s q) =
          let d = ends_text most_open 100 (length text) s (follows_wider (omega arith) (omega arith) f.follows) q in
          absurd (t.not_text (record { tree = s; numbers = d.inputs; written = d.written }))
      by f (refused_there q) = q

  gives_outside : (text : List ℕ) (p : ℕ) → Outside n text p → read_rest n (length text) initial text ≡ refuse (cause.Text p)
  gives_outside text p t = by (dec_lt p (length text))
    where
      by : Dec (p < length text) → read_rest n (length text) initial text ≡ refuse (cause.Text p)
      by (yes l) = gives_16 text p l t.before (t.longest (suc p) (omega arith) (omega arith))
      by (no l) =
          let same : p ≡ length text = omega (arith, t.before.inside) in
          rw same (gives_end text (rw same at t))

-- the checks before reading
module _ (n : ℕ) (text : List ℕ) where
  pub read_rest_lem : length text ≤ most_text → n ≤ most_inputs → read_text n text ≡ read_rest n (length text) initial text
  unfolding read_text
  read_rest_lem h few = rw (le-leb (length text) most_text h, le-leb n most_inputs few) refl

  -- the answer given is right
  given_right : RightAnswer n text (read_text n text)
  unfolding read_text
  given_right = by (leb (length text) most_text) (leb n most_inputs) refl refl
    where
      by : (t u : Bool) → leb (length text) most_text ≡ t → leb n most_inputs ≡ u
          → RightAnswer n text (check t cause.TextLength (check u cause.Range (read_rest n (length text) initial text)))
      by true true p q = right_rest n (leb-true n most_inputs q) (length text) refl (leb-true (length text) most_text p) (outcome n (length text) text initial)
      by true false p q = too_many (leb-true (length text) most_text p) (leb-false n most_inputs q)
      by false u p q = too_long (leb-false (length text) most_text p)

  -- and the right answer is given
  right_given : {a : Answer Sum} → RightAnswer n text a → read_text n text ≡ a
  unfolding read_text
  right_given (its_formula {s} r) =
      read_rest_lem r.short r.few ∙ ap (read_rest n (length text) initial) (sym r.written) ∙ read_whole n (length text) s r.inputs r.depth (omega (arith, r.few))
  right_given (too_long h) = rw (lt-leb (length text) most_text h) refl
  right_given (too_many h few) = rw (le-leb (length text) most_text h, lt-leb n most_inputs few) refl
  right_given (outside {p} h few t) = read_rest_lem h few ∙ gives_outside n few text p t
  right_given (too_deep {p} h few t) = read_rest_lem h few ∙ gives_18 n few text p t.inside t.before t
  right_given (too_high {i} h few t) =
      read_rest_lem h few ∙ gives_5 n few text t.p t.inside t.before t.earlier t.input t.two t.spelled t.high t.node t.viable

pub one_answer : OneAnswer
one_answer n text a = (λ e. rw e at (given_right n text), right_given n text)

-- so the texts within the limits are read as their formulas
pub accepts : (n : ℕ) (text : List ℕ) (s : Sum) → Reads n text s → read_text n text ≡ result s
accepts n text s r = right_given n text (its_formula r)

-- and no others are
pub accepted : (n : ℕ) (text : List ℕ) (s : Sum) → read_text n text ≡ result s → Reads n text s
accepted n text s e = by (given_right n text) e
  where
    by : {a : Answer Sum} → RightAnswer n text a → a ≡ result s → Reads n text s
    by (its_formula {s = t} r) q = let same : t ≡ s = cc in rw same at r
    by (too_long h) q = absurd (let z : ◌≡◌ {A = ℕ} 0 1 = cc in omega arith)
    by (too_many h few) q = absurd (let z : ◌≡◌ {A = ℕ} 0 1 = cc in omega arith)
    by (outside h few t) q = absurd (let z : ◌≡◌ {A = ℕ} 0 1 = cc in omega arith)
    by (too_deep h few t) q = absurd (let z : ◌≡◌ {A = ℕ} 0 1 = cc in omega arith)
    by (too_high h few t) q = absurd (let z : ◌≡◌ {A = ℕ} 0 1 = cc in omega arith)

-- reading never finds that there is no room
pub reader_room : (n : ℕ) (text : List ℕ) → Never 11 (read_text n text)
reader_room n text k p e = by (given_right n text) e
  where
    by : {a : Answer Sum} → RightAnswer n text a → a ≡ refused k p → k ≢ 11
    by (its_formula r) q = absurd (let z : ◌≡◌ {A = ℕ} 0 1 = cc in omega arith)
    by (too_long h) q = let z : 17 ≡ k = cc in λ w. omega arith
    by (too_many h few) q = let z : 4 ≡ k = cc in λ w. omega arith
    by (outside h few t) q = let z : 16 ≡ k = cc in λ w. omega arith
    by (too_deep h few t) q = let z : 18 ≡ k = cc in λ w. omega arith
    by (too_high h few t) q = let z : 5 ≡ k = cc in λ w. omega arith
