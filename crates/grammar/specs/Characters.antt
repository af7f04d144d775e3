-- The characters of the language of formulas, each as its ASCII byte.
use Rattle.std.specs.Prelude.{ℕ}

-- ^ joins products
abbrev pub caret : ℕ
caret = 94

-- & joins factors
abbrev pub ampersand : ℕ
ampersand = 38

-- ! negates
abbrev pub exclamation : ℕ
exclamation = 33

-- ( opens a bracket
abbrev pub opening : ℕ
opening = 40

-- ) closes it
abbrev pub closing : ℕ
closing = 41

-- x, with which an input opens
abbrev pub letter_x : ℕ
letter_x = 120

-- 0 is a constant, and the first of the digits
abbrev pub digit0 : ℕ
digit0 = 48

-- 1 is the other constant
abbrev pub digit1 : ℕ
digit1 = 49

-- 9 is the last of the digits
abbrev pub digit9 : ℕ
digit9 = 57
