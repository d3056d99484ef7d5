-- The two calls, one after the other: what the answers and the outputs then are. Assumes nothing.
use mathlib.Core.Path.{◌≡◌, refl, ap, sym, ◌∙◌}
use mathlib.Core.List.{List, ◌++◌}
use Prim.Native.Nat.{ℕ, ◌*◌, ◌/◌, ◌≤◌}
use native.Mathlib.Omega.{arith}
use lib.ListN.{length, take, drop, length-append}
use lib.Seq.{take_at}
use lib.IntN.{ℤ}
use Rattle.paper.specs.Rows.{Table, table, rows_in, numbers, signed}
use Rattle.std.specs.Prelude.{Result, Ok, Err}
use Rattle.paper.specs.Answers.{Ruling, accept, refuse, stated, Reads, Writes}
use Rattle.paper.specs.Text.{text_in, text_out}
use Rattle.paper.specs.declared.Title.{Title}
use Rattle.paper.specs.declared.Refusal.{Refusal}
use Rattle.laws.proofs.RowNumbers.{length_numbers}
use Rattle.rows.proofs.Rest.{length_rows}
use Rattle.laws.proofs.Refusals.{refuse_accept}
use Rattle.text_trips.proofs.Forth.{written_is_read, written_as_given}
use Rattle.text_trips.proofs.Back.{read_is_written}

-- what an accepted text out wrote
record Text (ruling : Ruling (List ℕ)) (n : ℕ) (old new : List ℕ) : Type 0 where
  text : List ℕ
  ruled : ruling ≡ accept text
  size : length text ≡ n
  front : take n new ≡ text

of_text : (ruling : Ruling (List ℕ)) (n : ℕ) (old new : List ℕ) → Writes ruling (Ok n) old new →
    Text ruling n old new
of_text (accept t) n old new w =
    let s : length t ≡ n = let q = w.says in cc in
    record {
      text = t;
      ruled = refl;
      size = s;
      front = ap (take n) w.holds ∙ take_at t (drop (length t) old) n s;
    }
of_text (refuse m d) n old new w = refuse_accept (sym w.says)

same_title : (x y : Title) → accept x ≡ accept y → x ≡ y
same_title x y e = cc

-- the answer that states a title
titled : (answer : Result Title Refusal) (x : Title) → stated answer ≡ accept x → answer ≡ Ok x
titled (Ok y) x e = ap Ok (same_title y x e)
titled (Err r) x e = refuse_accept e

-- Reading what was written: the answer has the same prod0 and k, and the output begins with the same numbers.
pub record GivenBack (p : ℤ) (k : ℕ) (ns : List ℤ) (answer : Result Title Refusal) (before after : List ℤ) : Type 0 where
  pub says : answer ≡ Ok (record { prod0 = p; k = k; rows = length ns / 4 })
  pub holds : after ≡ ns ++ drop (length ns) before

pub written_then_read : (p : ℤ) (k : ℕ) (ns : List ℤ) (n : ℕ) (old new : List ℕ) (answer : Result Title Refusal)
    (before after : List ℤ) →
    Writes (text_out p k ns (length old)) (Ok n) old new →
    Reads (text_in (take n new) (length before)) answer before after → 16384 ≤ length before →
    GivenBack p k ns answer before after
written_then_read p k ns n old new answer before after w r h =
    let t = of_text (text_out p k ns (length old)) n old new w in
    let e : text_in (take n new) (length before) ≡ accept (table p k ns) =
    rw t.front (written_is_read p k ns (length old) t.text (length before) t.ruled h) in
    let d = rw e at r in
    let (same, all) = written_as_given p k ns (length old) t.text t.ruled in
    record {
      says = titled answer _ d.says
          ∙ ap (λ (z : ℤ). Ok (record { prod0 = z; k = k; rows = length (rows_in ns) })) same
          ∙ ap (λ (z : ℕ). Ok (record { prod0 = p; k = k; rows = z })) (length_rows ns);
      holds = d.holds ∙ ap (λ (l : List ℤ). l ++ drop (length l) before) all;
    }

-- what an accepted text in wrote
pub record Rows (ruling : Ruling Table) (p : ℤ) (k m : ℕ) (old new : List ℤ) : Type 0 where
  pub table : Table
  pub ruled : ruling ≡ accept table
  pub prod0 : signed table.prod0 ≡ p
  pub count : table.k ≡ k
  pub size : length table.rows ≡ m
  pub room : m * 4 ≤ length new
  pub front : take (m * 4) new ≡ numbers table.rows

pub of_rows : (ruling : Ruling Table) (p : ℤ) (k m : ℕ) (old new : List ℤ) → Reads ruling (Ok (record { prod0 = p; k = k; rows = m })) old new →
    Rows ruling p k m old new
of_rows (accept tb) p k m old new r =
    let given : Title = record { prod0 = p; k = k; rows = m } in
    let read : Title = record { prod0 = signed tb.prod0; k = tb.k; rows = length tb.rows } in
    let q : read ≡ given = sym (same_title given read r.says) in
    let c : length tb.rows ≡ m = ap (λ (x : Title). x.rows) q in
    let ns = numbers tb.rows in
    let four : length ns ≡ m * 4 = omega (arith, length_numbers tb.rows) in
    record {
      table = tb;
      ruled = refl;
      prod0 = ap (λ (x : Title). x.prod0) q;
      count = ap (λ (x : Title). x.k) q;
      size = c;
      room = omega (arith, ap length r.holds, length-append ns (drop (length ns) old));
      front = ap (take (m * 4)) r.holds ∙ take_at ns (drop (length ns) old) (m * 4) four;
    }
of_rows (refuse n d) p k m old new r = refuse_accept (sym r.says)

-- Writing what was read: the same bytes.
pub read_then_written : (t : List ℕ) (p : ℤ) (k m : ℕ) (old new : List ℤ) (answer : Result ℕ Refusal) (before after : List ℕ) →
    Reads (text_in t (length old)) (Ok (record { prod0 = p; k = k; rows = m })) old new →
    Writes (text_out p k (take (m * 4) new) (length before)) answer before after → 262144 ≤ length before →
    Writes (accept t) answer before after
read_then_written t p k m old new answer before after r w h =
    let x = of_rows (text_in t (length old)) p k m old new r in
    let ns = numbers x.table.rows in
    let wide = length before in
    let e : text_out p k (take (m * 4) new) wide ≡ accept t =
    ap (λ (l : List ℤ). text_out p k l wide) x.front
    ∙ ap (λ (z : ℤ). text_out z k ns wide) (sym x.prod0)
    ∙ ap (λ (j : ℕ). text_out (signed x.table.prod0) j ns wide) (sym x.count)
    ∙ read_is_written t (length old) x.table wide x.ruled h in
    rw e at w
