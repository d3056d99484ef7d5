-- The answer for a table whose rows stand in the array, and for one with a row too many.
-- Assumes nothing.
use mathlib.Core.Path.{◌≡◌, refl, ap, sym, ◌∙◌}
use mathlib.Core.Option.{Option}
use mathlib.Core.List.{List, [], ◌++◌}
use Prim.Native.Nat.{ℕ, suc, ◌+◌, ◌*◌, ◌<◌, ◌≤◌}
use native.Mathlib.Omega.{arith}
use native.Mathlib.Numerals.{add-one}
use borrow.Author.Tests.{lt-ltb, le-ltb}
use lib.ListN.{length, take, drop}
use lib.IntN.{ℤ}
use Rattle.std.specs.Prelude.{Ok, Err}
use Rattle.paper.specs.declared.Refusal.TheVariants as refusal
use Rattle.paper.specs.Rows.{Table, signed}
use Rattle.paper.specs.Answers.{accept, refuse, Makes}
use Rattle.paper.specs.Checks.{rising, every}
use Rattle.paper.specs.Build.{within}
use Rattle.grow_laws.specs.Moves.{front}
use Rattle.grow_laws.specs.Held.{held, Laid, table_of}
use Rattle.grow_laws.proofs.Written.{held_length, held_numbers}
use Rattle.grow_laws.proofs.Placed.{room, written}

-- no rows yet
pub laid_none : (buf : List ℤ) → 4092 ≤ length buf → Laid buf 0
unfolding rising every
laid_none buf h = record { few = omega arith; room = h; passed = record { fits = refl; rises = refl } }

pub within_full : (t : Table) → 1023 < length t.rows → within t ≡ refuse 14 []
unfolding within
within_full t h =
    let l : 1024 < suc (length t.rows) = omega arith in
    rw (lt-ltb 1024 (suc (length t.rows)) l)

pub within_fine : (t : Table) (n : ℕ) → length t.rows ≡ n → n ≤ 1023
    → within t ≡ accept (record { table = t; states = suc n })
unfolding within
within_fine t n e h =
    let l : suc (length t.rows) ≤ 1024 = omega arith in
    rw (le-ltb 1024 (suc (length t.rows)) l, e)

pub answers_full : (t : Table) (old : List ℤ) → 1023 < length t.rows
    → Makes (within t) (Err refusal.Full) old old
answers_full t old h = rw (within_full t h) (record { says = refl; holds = refl })

module _ (buf : List ℤ) (n k : ℕ) (p : Option ℕ) (l : Laid buf n) where
  pub answers : (z : ℤ) (old new : List ℤ) → z ≡ signed p → new ≡ front (take (n * 4) buf) old
      → Makes (within (table_of p k buf n)) (Ok (record { prod0 = z; k = k; rows = n; states = n + 1 })) old new
  unfolding front
  answers z old new e d =
      let m : length (held buf n) ≡ n = held_length buf n (room buf n l) in
      rw (within_fine (table_of p k buf n) n m l.few) (record {
        says = rw (e, add-one, m);
        holds = d ∙ ap (λ (ns : List ℤ). ns ++ drop (length ns) old) (sym (written buf n l));
      })

  -- the rows copied to the front of the output
  pub answers_at : (z : ℤ) (old xs : List ℤ) → z ≡ signed p → xs ≡ take (n * 4) buf
      → Makes (within (table_of p k buf n)) (Ok (record { prod0 = z; k = k; rows = n; states = n + 1 })) old (xs ++ drop (n * 4) old)
  unfolding front
  answers_at z old xs e d =
      answers z old (xs ++ drop (n * 4) old) e
      (rw (d, held_numbers buf n (room buf n l)))
