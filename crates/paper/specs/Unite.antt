-- Document 01, module 3: unite.
use Rattle.std.specs.Prelude.{ℕ, suc, max, ◌||◌, cond, List, [], ◌∷◌, ◌++◌, length, ℤ, eqb}
use Rattle.std.proofs.Math.Option.{Option, none, some}
use Rattle.paper.specs.declared.Mode.{Mode}
use Rattle.paper.specs.declared.Mode.TheVariants.{Archive, Intake}
use Rattle.paper.specs.Rows.{Row, Table, table, find}
use Rattle.paper.specs.Answers.{Ruling, accept, refuse, then, Made}
use Rattle.paper.specs.Checks.{first, row_slice, little_room, tree}
use Rattle.paper.specs.Build.{insert, give, within}

-- CLASH: a state accepts in both under different numbers; the first's production, then the second's.
unfoldable pub agree : Option ℕ → Option ℕ → Ruling (Option ℕ)
agree none q = accept q
agree (some p) none = accept (some p)
agree (some p) (some q) = cond (eqb p q) (accept (some q)) (refuse 8 (p ∷ q ∷ []))

-- A matched state takes, in archive, the second's production, even -1;
-- in intake an accepting production is never replaced by -1.
unfoldable pub taken : Mode → Option ℕ → Option ℕ → Ruling (Option ℕ)
taken Intake p q = agree p q
taken Archive p q = then (agree p q) (λ _. accept q)

-- State 0: in archive it keeps the first's production; in intake it is compared like any other.
unfoldable pub root : Mode → Option ℕ → Option ℕ → Ruling (Option ℕ)
root Archive p q = accept p
root Intake p q = agree p q

-- k: in archive the first's, in intake the larger.
unfoldable pub united_k : Mode → ℕ → ℕ → ℕ
united_k Archive a b = a
united_k Intake a b = max a b

-- The state of the first that matches a state of the second.
unfoldable pub matched : List (ℕ × ℕ) → ℕ → ℕ
matched [] s = 0
matched (m ∷ ms) s = cond (eqb m.0 s) m.1 (matched ms s)

-- What has been united so far, and which states match.
pub record United : Type 0 where
  pub table : Table
  pub matches : List (ℕ × ℕ)

-- A row of the second: its path is found in the first, or added with the next number.
unfoldable pub take_row : Mode → United → Row → Option Row → Ruling United
take_row mode u r none = accept (record {
  table = record {
    prod0 = u.table.prod0;
    k = u.table.k;
    rows = insert (record {
      from = matched u.matches r.from;
      terminal = r.terminal;
      to = suc (length u.table.rows);
      production = r.production;
    }) u.table.rows;
  };
  matches = (r.to, suc (length u.table.rows)) ∷ u.matches;
})
take_row mode u r (some x) = then (taken mode x.production r.production) (λ q. accept (record {
  table = give x.to q u.table;
  matches = (r.to, x.to) ∷ u.matches;
}))

-- The second's rows in order.
unfoldable pub take_rows : Mode → United → List Row → Ruling United
take_rows mode u [] = accept u
take_rows mode u (r ∷ rs) =
    then (take_row mode u r (find u.table.rows (matched u.matches r.from) r.terminal))
    (λ v. take_rows mode v rs)

-- Two trees united: state 0 first, then the rows, then 14.
unfoldable pub united : Mode → Table → Table → Ruling Made
united mode a b =
    then (root mode a.prod0 b.prod0) (λ p.
    then (take_rows mode (record {
      table = record { prod0 = p; k = united_k mode a.k b.k; rows = a.rows };
      matches = [];
    }) b.rows) (λ u.
    within u.table))

-- 2 to 7 for the first table, 2 to 7 for the second, then 8, 14.
unfoldable pub unite_tables : Mode → Table → Table → Ruling Made
unite_tables mode a b = first (tree a ++ tree b) (united mode a b)

-- Unite: mode, two tables, and the length of the output. 1 for everything comes first.
unfoldable pub unite : Mode → ℤ → ℕ → List ℤ → ℤ → ℕ → List ℤ → ℕ → Ruling Made
unite mode p k ns q l ms room =
    first ((row_slice ns || (row_slice ms || little_room room), 1) ∷ [])
    (unite_tables mode (table p k ns) (table q l ms))
