-- What refuses does not accept, and a call that answers with a refusal was ruled by it. Assumes nothing.
use Prim.Native.Nat.{ℕ}
use mathlib.Core.Path.{◌≡◌}
use mathlib.Core.List.{List}
use native.Mathlib.Omega.{arith}
use Rattle.paper.specs.Answers.{Ruling, accept, refuse, then}

pub refuse_accept : {P A : Type 0} {n : ℕ} {d : List ℕ} {a : A} → refuse n d ≡ accept a → P
refuse_accept e = let z : ◌≡◌ {A = ℕ} 0 1 = cc in absurd (omega arith)

pub refused_is : {A B : Type 0} (told : A → B) (r : Ruling A) (n : ℕ) (d : List ℕ) →
    refuse n d ≡ then r (λ a. accept (told a)) → r ≡ refuse n d
refused_is told (accept x) n d e = refuse_accept e
refused_is told (refuse m c) n d e = let a : m ≡ n = cc in let b : c ≡ d = cc in rw (a, b)
