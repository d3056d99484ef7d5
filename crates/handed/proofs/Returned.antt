-- What a returned number tells: 0 an acceptance, 1 to 14 a refusal, after which the output is as it was.
-- Assumes nothing.
use mathlib.Core.Path.{◌≡◌, refl, ap, sym}
use mathlib.Core.List.{List}
use Prim.Native.Nat.{ℕ, ◌<◌, ◌≤◌}
use native.Mathlib.Omega.{arith}
use Rattle.laws.proofs.Refusals.{refuse_accept, refused_is}
use Rattle.paper.specs.declared.Refusal.{Refusal}
use Rattle.paper.specs.declared.Refusal.TheVariants as refusal
use Rattle.paper.specs.Answers.{Ruling, accept, refuse, then, number, detail}
use Rattle.handed.specs.Handed.{returned, Handed}

-- the paper's numbers
pub numbered : (f : Refusal) → (0 < number f) × (number f ≤ 14)
numbered refusal.Length = (omega arith, omega arith)
numbered refusal.Range = (omega arith, omega arith)
numbered refusal.Order = (omega arith, omega arith)
numbered refusal.Shape = (omega arith, omega arith)
numbered refusal.Loose = (omega arith, omega arith)
numbered refusal.Split = (omega arith, omega arith)
numbered refusal.Tree = (omega arith, omega arith)
numbered (refusal.Clash p q) = (omega arith, omega arith)
numbered refusal.Mismatch = (omega arith, omega arith)
numbered refusal.Short = (omega arith, omega arith)
numbered refusal.None = (omega arith, omega arith)
numbered refusal.Root = (omega arith, omega arith)
numbered (refusal.Text at) = (omega arith, omega arith)
numbered refusal.Full = (omega arith, omega arith)

-- A ruling that some answer states: with a refusal it returns that refusal's number,
pub refusal_returns : {A B : Type 0} (told : A → B) (g : Ruling A) (f : Refusal) →
    refuse (number f) (detail f) ≡ then g (λ a. accept (told a)) → returned g ≡ number f
refusal_returns told g f e = ap (λ (r : Ruling _). returned r) (refused_is told g (number f) (detail f) e)

-- with values 0.
pub values_return : {A B : Type 0} (told : A → B) (g : Ruling A) (b : B) → accept b ≡ then g (λ a. accept (told a)) →
    returned g ≡ 0
values_return told (accept a) b e = refl
values_return told (refuse n d) b e = refuse_accept (sym e)

-- A returned number above 0: the output is as it was.
pub handed_untouched : {A E : Type 0} (f : A → List ℕ) (w : A → List E) (g : Ruling A) (old new : List E) (r : ℕ)
    (a : List ℕ) → Handed f w g old new r a → 0 < r → new ≡ old
handed_untouched f w (accept x) old new r a h p = absurd (omega (arith, p, h.hands.says))
handed_untouched f w (refuse n d) old new r a h p = h.holds
