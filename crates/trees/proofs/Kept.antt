-- What adding a row and giving a production keep of a table, taking the second's rows keeps: k, the bounds, and that
-- rows only grow in number. Assumes nothing.
use mathlib.Core.Path.{◌≡◌, refl, ◌∙◌}
use mathlib.Core.Option.{Option, none, some}
use mathlib.Core.List.{List, [], ◌∷◌}
use Prim.Native.Nat.{ℕ, suc, ◌≤◌}
use native.Mathlib.Omega.{arith}
use lib.ListN.{length}
use Rattle.laws.proofs.Members.{In, here, there}
use Rattle.laws.proofs.Find.{find_in}
use Rattle.paper.specs.declared.Mode.{Mode}
use Rattle.paper.specs.Rows.{Row, Table, find}
use Rattle.paper.specs.Answers.{Ruling, accept, refuse, then}
use Rattle.paper.specs.Build.{insert, give}
use Rattle.paper.specs.Unite.{taken, matched, United, take_row, take_rows}
use Rattle.trees.specs.Views.{merge}
use Rattle.trees.proofs.Find.{length_insert}
use Rattle.trees.proofs.Paint.{length_give}
use Rattle.trees.proofs.Fits.{RowFits, RowsFit, Fits, fits_insert, fits_give, root_give}
use Rattle.trees.proofs.Taken.{Met, met, unmet, taken_met, merge_fits}

-- The table with the row r of the second added from the state s.
abbrev pub with_row : Table → Row → ℕ → Table
with_row t r s = record {
  prod0 = t.prod0;
  k = t.k;
  rows = insert (record {
    from = s;
    terminal = r.terminal;
    to = suc (length t.rows);
    production = r.production;
  }) t.rows;
}

pub data Keeps (P : Table → Type 0) : Ruling United → Type 0 where
  kept : {u : United} → P u.table → Keeps P (accept u)
  off : {n : ℕ} {d : List ℕ} → Keeps P (refuse n d)

-- one row: P before, P' after
module _ (mode : Mode) (P P' : Table → Type 0) (Q : Row → Type 0)
    (on_insert : (t : Table) (r : Row) (s : ℕ) → P t → Q r → P' (with_row t r s))
    (on_give : (t : Table) (x r : Row) → In x t.rows → P t → Q r →
    P' (give x.to (merge mode x.production r.production) t)) where
  row_keeps : (u : United) (r : Row) (o : Option Row) →
      find u.table.rows (matched u.matches r.from) r.terminal ≡ o → P u.table → Q r →
      Keeps P' (take_row mode u r o)
  unfolding take_row
  row_keeps u r none e p q = kept (on_insert u.table r (matched u.matches r.from) p q)
  row_keeps u r (some x) e p q =
      go (taken mode x.production r.production) (taken_met mode x.production r.production)
    where
      go : (g : Ruling (Option ℕ)) → Met mode x.production r.production g →
          Keeps P' (then g (λ z. accept (record {
            table = give x.to z u.table;
            matches = (r.to, x.to) ∷ u.matches;
          })))
      go g (met h) =
          let i = (find_in u.table.rows (matched u.matches r.from) r.terminal x e).0 in
          kept (on_give u.table x r i p q)
      go g (unmet k l n) = off

-- all rows
module _ (mode : Mode) (P : Table → Type 0) (Q : Row → Type 0)
    (on_insert : (t : Table) (r : Row) (s : ℕ) → P t → Q r → P (with_row t r s))
    (on_give : (t : Table) (x r : Row) → In x t.rows → P t → Q r →
    P (give x.to (merge mode x.production r.production) t)) where
  pub rows_keep : (rs : List Row) (u : United) → P u.table → ((r : Row) → In r rs → Q r) →
      Keeps P (take_rows mode u rs)
  unfolding take_rows
  rows_keep [] u p q = kept p
  rows_keep (r ∷ rs) u p q =
      go (row_keeps mode P P Q on_insert on_give u r
      (find u.table.rows (matched u.matches r.from) r.terminal) refl p (q r here))
      (λ v p'. rows_keep rs v p' (λ x i. q x (there i)))
    where
      go : {g : Ruling United} → Keeps P g → ((v : United) → P v.table → Keeps P (take_rows mode v rs)) →
          Keeps P (then g (λ v. take_rows mode v rs))
      go (kept {u} p') ih = ih u p'
      go off ih = off

-- ---- k, the number of rows, the bounds
pub give_k : (s : ℕ) (q : Option ℕ) (t : Table) → (give s q t).k ≡ t.k
unfolding give
give_k s q t = refl

pub keeps_k : (mode : Mode) (n : ℕ) (rs : List Row) (u : United) → u.table.k ≡ n →
    Keeps (λ t. t.k ≡ n) (take_rows mode u rs)
keeps_k mode n rs u e =
    rows_keep mode (λ t. t.k ≡ n) (λ r. Unit) (λ t r s p q. p) (λ t x r i p q. given t x r p) rs u e (λ r i. tt)
  where
    given : (t : Table) (x r : Row) → t.k ≡ n → (give x.to (merge mode x.production r.production) t).k ≡ n
    given t x r p = give_k x.to (merge mode x.production r.production) t ∙ p

pub keeps_rows : (mode : Mode) (n : ℕ) (rs : List Row) (u : United) → n ≤ length u.table.rows →
    Keeps (λ t. n ≤ length t.rows) (take_rows mode u rs)
keeps_rows mode n rs u l =
    rows_keep mode (λ t. n ≤ length t.rows) (λ r. Unit)
    (λ t r s p q. omega (
      arith,
      p,
      length_insert (record {
        from = s;
        terminal = r.terminal;
        to = suc (length t.rows);
        production = r.production;
      }) t.rows,
    ))
    (λ t x r i p q. omega (arith, p, length_give x.to (merge mode x.production r.production) t))
    rs u l (λ r i. tt)

pub keeps_fits : (mode : Mode) (rs : List Row) (u : United) → Fits u.table → RowsFit rs →
    Keeps Fits (take_rows mode u rs)
keeps_fits mode rs u f h = rows_keep mode Fits RowFits insert_fits given_fits rs u f h
  where
    insert_fits : (t : Table) (r : Row) (s : ℕ) → Fits t → RowFits r → Fits (with_row t r s)
    insert_fits t r s f q = record {
      root = f.root;
      short = f.short;
      rows = fits_insert (record {
        from = s;
        terminal = r.terminal;
        to = suc (length t.rows);
        production = r.production;
      }) t.rows q f.rows;
    }

    given_fits : (t : Table) (x r : Row) → In x t.rows → Fits t → RowFits r →
        Fits (give x.to (merge mode x.production r.production) t)
    given_fits t x r i f q =
        let z = merge_fits mode x.production r.production (f.rows x i).1 q.1 in
        record {
          root = root_give x.to (merge mode x.production r.production) t z f.root;
          short = omega (arith, f.short, give_k x.to (merge mode x.production r.production) t);
          rows = fits_give x.to (merge mode x.production r.production) t z f.rows;
        }
