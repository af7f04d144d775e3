-- Reading a text from left to right, a byte at a time: what each byte leads to, and the refusals. What the answers say of a text is in Answers.antt, by the grammar alone.
use Rattle.std.specs.Prelude.{ℕ, ◌+◌, ◌*◌, ◌-◌, Bool, true, cond, ◌&&◌, List, [], ◌∷◌, length, eqb, leb, ltb}
use Rattle.refusal.specs.Answers.{Answer, result, refuse, check}
use Rattle.refusal.specs.declared.causes.Refusal.TheVariants as cause
use Rattle.wire.specs.Limits.{most_inputs, most_text, most_open}
use Rattle.grammar.specs.Characters.{caret, ampersand, exclamation, opening, closing, letter_x, digit0, digit1, digit9}
use Rattle.grammar.specs.Grammar.{Sum, Product, Factor, lone, plus, single, times, constant0, constant1, variable, negation, brackets}
use Rattle.automaton.specs.States.{AroundSum, AroundProduct, AroundFactor, outermost, in_brackets, first_product, next_product, first_factor, next_factor, negated}
use Rattle.automaton.specs.States.{State, factor_next, digit_next, digits_read, product_read, opened, made, initial}

-- a factor has ended: each pending ! takes it, and it goes into its product
unfoldable pub product_with : Factor → AroundFactor → Product
product_with f (first_factor k) = single f
product_with f (next_factor p k) = times p f
product_with f (negated c) = product_with (negation f) c

-- what stands around the product that a factor goes into
unfoldable pub outside_factor : AroundFactor → AroundProduct
outside_factor (first_factor k) = k
outside_factor (next_factor p k) = k
outside_factor (negated c) = outside_factor c

-- the state once a factor has ended
unfoldable pub after_factor : Factor → AroundFactor → State
after_factor f c = product_read (product_with f c) (outside_factor c)

-- a product has ended and goes into its sum
unfoldable pub sum_with : Product → AroundProduct → Sum
sum_with p (first_product k) = lone p
sum_with p (next_product s k) = plus s p

-- what stands around the sum that a product goes into
unfoldable pub outside_product : AroundProduct → AroundSum
outside_product (first_product k) = k
outside_product (next_product s k) = k

-- what a byte leads to; stop: no text of the language goes on with it
pub data Next : Type 0 where
  stop : Next
  go : State → Next

-- ) ends a sum, if a bracket is open
unfoldable pub read_closing : Sum → AroundSum → Next
read_closing s outermost = stop
read_closing s (in_brackets c) = go (after_factor (brackets s) c)

-- behind a product: &, ^ or )
unfoldable pub read_behind : Product → AroundProduct → ℕ → Next
read_behind p k b =
    cond (eqb b ampersand) (go (factor_next (next_factor p k)))
    (cond (eqb b caret) (go (factor_next (first_factor (next_product (sum_with p k) (outside_product k)))))
    (cond (eqb b closing) (read_closing (sum_with p k) (outside_product k)) stop))

-- where a factor is to come: 0, 1, x, ! or (
unfoldable pub read_factor_byte : AroundFactor → ℕ → Next
read_factor_byte c b =
    cond (eqb b digit0) (go (after_factor constant0 c))
    (cond (eqb b digit1) (go (after_factor constant1 c))
    (cond (eqb b letter_x) (go (digit_next c))
    (cond (eqb b exclamation) (go (factor_next (negated c)))
    (cond (eqb b opening) (go (factor_next (first_factor (first_product (in_brackets c))))) stop))))

-- a byte is one of the characters 0 to 9
abbrev pub is_digit : ℕ → Bool
is_digit b = leb digit0 b && leb b digit9

-- a second digit goes on a number of one digit that is not 0
unfoldable pub longer : ℕ → ℕ → Bool
longer j b = is_digit b && (leb 1 j && leb j 9)

-- what a byte leads to from each state
unfoldable pub read_byte : State → ℕ → Next
read_byte (factor_next c) b = read_factor_byte c b
read_byte (digit_next c) b = cond (is_digit b) (go (digits_read (b - digit0) c)) stop
read_byte (digits_read j c) b =
    cond (longer j b) (go (digits_read (10 * j + (b - digit0)) c)) (read_behind (product_with (variable j) c) (outside_factor c) b)
read_byte (product_read p k) b = read_behind p k b

-- a text of l bytes ends behind a sum: that sum, if no bracket is open; else 16 with the text's length as its place
unfoldable pub finish_sum : ℕ → Sum → AroundSum → Answer Sum
finish_sum l s outermost = result s
finish_sum l s (in_brackets c) = refuse (cause.Text l)

-- it ends behind a product
unfoldable pub finish_product : ℕ → Product → AroundProduct → Answer Sum
finish_product l p k = finish_sum l (sum_with p k) (outside_product k)

-- what a text of l bytes gives that ends in this state
unfoldable pub finish : ℕ → State → Answer Sum
finish l (factor_next c) = refuse (cause.Text l)
finish l (digit_next c) = refuse (cause.Text l)
finish l (digits_read j c) = finish_product l (product_with (variable j) c) (outside_factor c)
finish l (product_read p k) = finish_product l p k

-- a number just read is below n; a first digit that is not is the start of no number below n
unfoldable pub input_fits : ℕ → State → Bool
input_fits n (factor_next c) = true
input_fits n (digit_next c) = true
input_fits n (digits_read j c) = ltb j n
input_fits n (product_read p k) = true

-- the limits behind a byte that the language takes
unfoldable pub within_limits : ℕ → ℕ → State → Answer Sum → Answer Sum
within_limits n place σ then =
    check (leb (opened σ) most_open) (cause.Depth place)  -- 18
    (check (input_fits n σ) (cause.Node (made σ))  -- 5
    then)

-- 16 where no text goes on with the byte, else the limits, and then reading goes on
unfoldable pub onward : ℕ → ℕ → Next → (State → Answer Sum) → Answer Sum
onward n place stop then = refuse (cause.Text place)
onward n place (go σ) then = within_limits n place σ (then σ)

-- reading the rest of a text of l bytes; the place of a byte is the number of bytes before it
unfoldable pub read_rest : ℕ → ℕ → State → List ℕ → Answer Sum
read_rest n l σ [] = finish l σ
read_rest n l σ (b ∷ bs) = onward n (l - length (b ∷ bs)) (read_byte σ b) (λ τ. read_rest n l τ bs)

-- what reading a text over n inputs gives: its formula, or a refusal
unfoldable pub read_text : ℕ → List ℕ → Answer Sum
read_text n text =
    check (leb (length text) most_text) cause.TextLength  -- 17
    (check (leb n most_inputs) cause.Range  -- 4
    (read_rest n (length text) initial text))
