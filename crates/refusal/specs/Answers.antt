-- What services answer: a result's values, or a refusal's number and place.
use Rattle.std.specs.Prelude.{ℕ, Bool, true, false, Result, Ok, Err}
use Rattle.refusal.specs.Checks.{all_below, lowest}
use Rattle.refusal.specs.declared.causes.Refusal.{Refusal}
use Rattle.refusal.specs.declared.causes.Refusal.TheVariants as cause

-- what a refusal shows: its number, and its place (01), which is 0 unless the cause holds one
pub record Numbered : Type 0 where
  pub number : ℕ
  pub place : ℕ

-- the number and the place of each cause, as 01's table and 02 have them
abbrev pub numbered : Refusal → Numbered
numbered cause.Table = record { number = 1; place = 0 }
numbered cause.Contents = record { number = 2; place = 0 }
numbered cause.BodyLength = record { number = 3; place = 0 }
numbered cause.Range = record { number = 4; place = 0 }
numbered (cause.Node i) = record { number = 5; place = i }
numbered (cause.Output k) = record { number = 6; place = k }
numbered cause.ListLength = record { number = 7; place = 0 }
numbered (cause.Size k) = record { number = 8; place = k }
numbered cause.Grant = record { number = 9; place = 0 }
numbered (cause.WorkLines w) = record { number = 10; place = w }
numbered (cause.Room g) = record { number = 11; place = g }
numbered (cause.Gate i) = record { number = 12; place = i }
numbered cause.LineBytes = record { number = 13; place = 0 }
numbered cause.InputBytes = record { number = 14; place = 0 }
numbered cause.OutputNumber = record { number = 15; place = 0 }
numbered (cause.Text p) = record { number = 16; place = p }
numbered cause.TextLength = record { number = 17; place = 0 }
numbered (cause.Depth p) = record { number = 18; place = p }

-- the number of a refusal
abbrev pub number_of : Refusal → ℕ
number_of why = (numbered why).number

-- the place of a refusal
abbrev pub place_of : Refusal → ℕ
place_of why = (numbered why).place

-- an answer: the values of a result, or the number and place of a refusal
pub data Answer (A : Type 0) : Type 0 where
  result : A → Answer A
  refused : ℕ → ℕ → Answer A

-- the answer that a cause gives
abbrev pub refuse : {A : Type 0} → Refusal → Answer A
refuse why = refused (number_of why) (place_of why)

-- what a Result is as an answer (01): the values of an Ok, or the number and the place of the refusal in an Err
abbrev pub answer_of : {A : Type 0} → Result A Refusal → Answer A
answer_of (Ok a) = result a
answer_of (Err why) = refuse why

-- a check: what comes next where the test holds, else the refusal
abbrev pub check : {A : Type 0} → Bool → Refusal → Answer A → Answer A
check true why next = next
check false why next = refuse why

-- a check of each index below k: the lowest at which the test fails is the refusal's place
abbrev pub check_each : {A : Type 0} → (ℕ → Bool) → ℕ → (ℕ → Refusal) → Answer A → Answer A
check_each test k why next = check (all_below test k) (why (lowest test k)) next

-- the same with nothing behind it
abbrev pub checked_each : (ℕ → Bool) → ℕ → (ℕ → Refusal) → Answer (Unit {0})
checked_each test k why = check_each test k why (result tt)

-- the same answer with its values read by f
abbrev pub map_answer : {A B : Type 0} → (A → B) → Answer A → Answer B
map_answer f (result a) = result (f a)
map_answer f (refused n p) = refused n p

-- what a result leads to; a refusal is passed on with its number and place
abbrev pub and_then : {A B : Type 0} → Answer A → (A → Answer B) → Answer B
and_then (result a) f = f a
and_then (refused n p) f = refused n p
