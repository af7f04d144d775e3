-- Lists made by index, and sums and maxima by index.
use Rattle.std.specs.Prelude.{ℕ, zero, suc, ◌+◌, max, List, [], ◌∷◌}

-- make i, make (i + 1), .., k of them
unfoldable pub tabulate_from : {A : Type 0} → (ℕ → A) → ℕ → ℕ → List A
tabulate_from make i zero = []
tabulate_from make i (suc k) = make i ∷ tabulate_from make (suc i) k

-- make 0, make 1, .., k of them
abbrev pub tabulate : {A : Type 0} → (ℕ → A) → ℕ → List A
tabulate make k = tabulate_from make 0 k

-- f 0 + f 1 + .., k of them
unfoldable pub sum_of : (ℕ → ℕ) → ℕ → ℕ
sum_of f zero = 0
sum_of f (suc k) = sum_of f k + f k

-- the largest of f 0, f 1, .., k of them; 0 where there is none
unfoldable pub largest_of : (ℕ → ℕ) → ℕ → ℕ
largest_of f zero = 0
largest_of f (suc k) = max (largest_of f k) (f k)
