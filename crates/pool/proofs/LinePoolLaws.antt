-- Laws of the code's pool: it is the construction's, by its lowest free line. Assumes nothing.
use Prim.Native.Nat.{ℕ, ◌+◌, max}
use native.Mathlib.Omega.{arith}
use native.Mathlib.Nat.{zero-add}
use mathlib.Core.Path.{◌≡◌, refl, sym, ap, ◌∙◌}
use Rattle.construction.specs.Pools.{Pool, all_free, lowest_free, take_line, release}
use Rattle.construction.specs.Steps.{fresh}
use Rattle.construction.proofs.PoolLaws.{in_use_lem, lowest_behind, take_behind, start_free, reached_first}
use Rattle.pool.specs.LinePools.{Takes, Releases}

-- taking goes on to the next line
pub takes_next : (f : ℕ) {r : ℕ} → r ≡ f + 1 → Takes f r
unfolding Takes
takes_next f e q h low =
    let u = reached_first q h in
    let at : f ≡ u.line + u.count = sym low ∙ ap lowest_free u.is ∙ lowest_behind u.line u.count u.peak in
    ap (λ (p : Pool). lowest_free (take_line p)) u.is
    ∙ ap lowest_free (take_behind u.line u.count u.peak)
    ∙ lowest_behind u.line (u.count + 1) (max u.peak (u.count + 1))
    ∙ omega (arith, at, e)

-- and nowhere else
pub taken_next : (f : ℕ) {r : ℕ} → Takes f r → r ≡ f + 1
unfolding Takes
taken_next f t = sym (t (all_free f) (fresh f) (start_free f)) ∙ takes_next f refl (all_free f) (fresh f) (start_free f)

-- releasing goes back
pub releases_back : (k f : ℕ) {r : ℕ} → r ≡ k → Releases k f r
unfolding Releases lowest_free release
releases_back k f e p q same low free = rw (← same) (low ∙ sym e)

-- and nowhere else
pub released_back : (k f : ℕ) {r : ℕ} → Releases k f r → r ≡ k
unfolding Releases in_use_lem
released_back k f t =
    let p : Pool = in_use_lem 0 k k in
    let q : Pool = in_use_lem 0 f f in
    let low : lowest_free p ≡ k = lowest_behind 0 k k ∙ zero-add k in
    let free : lowest_free q ≡ f = lowest_behind 0 f f ∙ zero-add f in
    sym (t p q refl low free) ∙ releases_back k f refl p q refl low free
