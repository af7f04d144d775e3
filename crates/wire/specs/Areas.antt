-- What a service that writes a file leaves in the area lent to it.
use Rattle.std.specs.Prelude.{ℕ, cond, List, ◌++◌, length, drop, replicate, eqb}
use Rattle.refusal.specs.Answers.{Answer, result, refused, number_of}
use Rattle.refusal.specs.declared.causes.Refusal.TheVariants as cause

-- a lent area at exit, by the bytes of the file written: these and, behind them, what was there; all zero on cause 11; on every other refusal as it was
abbrev pub area_after : Answer (List ℕ) → List ℕ → List ℕ
area_after (result bytes) area = bytes ++ drop (length bytes) area
area_after (refused n p) area = cond (eqb n (number_of (cause.Room p))) (replicate (length area) 0) area
