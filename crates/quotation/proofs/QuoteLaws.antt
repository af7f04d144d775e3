-- Laws of quoting: the answer and both lists at exit, case by case. Assumes nothing.
use Prim.Native.Nat.{ℕ, ◌*◌, ◌/◌, ◌<◌, ◌≤◌}
use native.Mathlib.Omega.{arith}
use mathlib.Core.Path.{◌≡◌, refl, sym, ap, ◌∙◌}
use mathlib.Core.Bool.{Bool}
use mathlib.Core.List.{List, ◌++◌}
use lib.ListN.{length, drop, replicate}
use lib.Dec.{leb}
use borrow.Author.Tests.{le-leb, lt-leb}
use Rattle.refusal.specs.Answers.{Answer, result, refused, refuse, check}
use Rattle.refusal.specs.declared.causes.Refusal.TheVariants as cause
use Rattle.refusal.proofs.AnswerLaws.{checked_next, same_result, came, led}
use Rattle.program.specs.Programs.{Program}
use Rattle.program.specs.Reading.{program_of, read_program}
use Rattle.program.proofs.AcceptedLaws as program
use Rattle.quotation.specs.Agreement.{EveryProgram}
use Rattle.quotation.specs.Quoting.{quotes, quote_file, answers_after, quote_of}

module _ (f counts answers : List ℕ) where
  -- the answer a and the lists c and l are those of the service's definition
  pub record Outcome (a : Answer ℕ) (c l : List ℕ) : Type 0 where
    pub answer : a ≡ (quote_of f counts answers).answer
    pub counts_are : c ≡ (quote_of f counts answers).counts
    pub answers_are : l ≡ (quote_of f counts answers).answers

  -- a refusal leaves both lists as they were
  refuses : (n p : ℕ) → quote_file f (length counts) (length answers) ≡ refused n p → Outcome (refused n p) counts answers
  unfolding quote_of
  refuses n p e = record { answer = rw e refl; counts_are = rw e refl; answers_are = rw e refl }

  -- the reader's refusal is passed on
  pub reader_refuses : (n p : ℕ) → read_program f ≡ refused n p → Outcome (refused n p) counts answers
  unfolding quote_file
  reader_refuses n p e = refuses n p (rw e refl)

  module _ {p : Program} (r : read_program f ≡ result p) where
    -- the count list is too short
    pub counts_short : length counts / 8 < length p.nodes → Outcome (refuse cause.ListLength) counts answers
    unfolding quote_file
    counts_short s = refuses 7 0 (simp (r, lt-leb (length p.nodes) (length counts / 8) s))

    -- the answer list is too short
    pub answers_short : length p.nodes ≤ length counts / 8 → length answers / 3 < length p.outputs → Outcome (refuse cause.ListLength) counts answers
    unfolding quote_file
    answers_short h s = refuses 7 0 (simp (r, le-leb (length p.nodes) (length counts / 8) h, lt-leb (length p.outputs) (length answers / 3) s))

    module _ (h : length p.nodes ≤ length counts / 8) (k : length p.outputs ≤ length answers / 3) where
      found : quote_file f (length counts) (length answers) ≡ result p
      unfolding quote_file
      found = simp (r, le-leb (length p.nodes) (length counts / 8) h, le-leb (length p.outputs) (length answers / 3) k)

      -- a result
      pub result_given : {c l : List ℕ} → c ≡ replicate (8 * length p.nodes) 0 ++ drop (8 * length p.nodes) counts
          → l ≡ quotes p ++ drop (3 * length p.outputs) answers → Outcome (result (length p.outputs)) c l
      unfolding quote_of
      result_given v w = record { answer = rw found refl; counts_are = rw found v; answers_are = rw found w }

      answered : (quote_of f counts answers).answer ≡ result (length p.outputs)
      unfolding quote_of
      answered = rw found refl

pub every_program : EveryProgram
every_program f counts answers p r h k = answered f counts answers r (omega arith) (omega arith)

-- a quote that was answered: the answer list starts with the quotes of the program read
pub record Answered (f counts answers : List ℕ) (m : ℕ) : Type 0 where
  pub outputs_are : m ≡ length (program_of f).outputs
  pub rest : List ℕ
  pub listed : (quote_of f counts answers).answers ≡ quotes (program_of f) ++ rest

pub was_answered : (f counts answers : List ℕ) (m : ℕ) → (quote_of f counts answers).answer ≡ result m → Answered f counts answers m
unfolding quote_of quote_file
was_answered f counts answers m e =
    let room : Program → Bool = λ p. leb (length p.nodes) (length counts / 8) in
    let more : Program → Bool = λ p. leb (length p.outputs) (length answers / 3) in
    let k = came (λ (p : Program). length p.outputs) (quote_file f (length counts) (length answers)) m (sym e) in
    let l = led (read_program f) (λ (p : Program). check (room p) cause.ListLength (check (more p) cause.ListLength (result p))) k.from k.was in
    let q : Program = l.from in
    let next : check (more q) cause.ListLength (result q) ≡ result k.from = checked_next k.from (room q) cause.ListLength (check (more q) cause.ListLength (result q)) l.next in
    let same : q ≡ k.from = same_result q k.from (checked_next k.from (more q) cause.ListLength (result q) next) in
    let is : k.from ≡ program_of f = sym same ∙ same_result q (program_of f) (sym l.was ∙ (program.accepted f q l.was).is) in
    record {
      outputs_are = k.reads ∙ ap (λ (p : Program). length p.outputs) is;
      rest = drop (3 * length (program_of f).outputs) answers;
      listed = ap (λ (x : Answer Program). answers_after x answers) (k.was ∙ ap result is);
    }
