-- The row for a state and a token, in a state's own list of rows and after redirection. Assumes nothing.
use mathlib.Core.Path.{◌≡◌, refl}
use mathlib.Core.Bool.{Bool, true, false, cond, ◌&&◌}
use mathlib.Core.Option.{Option, none, some, map}
use mathlib.Core.List.{List, [], ◌∷◌}
use Prim.Native.Nat.{ℕ}
use lib.Dec.{eqb}
use Rattle.paper.specs.Rows.{Row, find}
use Rattle.paper.specs.Shrink.{rows_of, redirect}

-- the (terminal, to) of a token
unfoldable pub out : List (ℕ × ℕ) → ℕ → Option (ℕ × ℕ)
out [] u = none
out (o ∷ os) u = cond (eqb o.0 u) (some o) (out os u)

pub find_out : (rs : List Row) (s u : ℕ) →
    out (rows_of rs s) u ≡ map (λ (r : Row). (r.terminal, r.to)) (find rs s u)
unfolding out rows_of find
find_out [] s u = refl
find_out (r ∷ rs) s u = go (eqb r.from s) (eqb r.terminal u) refl (find_out rs s u)
  where
    pair : Row → ℕ × ℕ
    pair x = (x.terminal, x.to)

    go : (b c : Bool) → eqb r.terminal u ≡ c → out (rows_of rs s) u ≡ map pair (find rs s u) →
        out (cond b ((r.terminal, r.to) ∷ rows_of rs s) (rows_of rs s)) u
        ≡ map pair (cond (b && c) (some r) (find rs s u))
    go true true e ih = rw e
    go true false e ih = rw e ih
    go false c e ih = ih

pub out_redirect : (f : ℕ → ℕ) (os : List (ℕ × ℕ)) (u : ℕ) →
    out (redirect f os) u ≡ map (λ (o : ℕ × ℕ). (o.0, f o.1)) (out os u)
unfolding out redirect
out_redirect f [] u = refl
out_redirect f (o ∷ os) u = go (eqb o.0 u) (out_redirect f os u)
  where
    led : ℕ × ℕ → ℕ × ℕ
    led x = (x.0, f x.1)

    go : (b : Bool) → out (redirect f os) u ≡ map led (out os u) →
        cond b (some (led o)) (out (redirect f os) u) ≡ map led (cond b (some o) (out os u))
    go true ih = refl
    go false ih = ih
