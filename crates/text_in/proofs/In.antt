-- What text in answers, check by check. Assumes nothing.
use Prim.Native.Nat.{ℕ, ◌*◌, ◌<◌, ◌≤◌}
use mathlib.Core.Path.{◌≡◌, refl, ap, sym, ◌∙◌}
use mathlib.Core.Bool.{Bool, true, false, not, ◌&&◌}
use mathlib.Core.List.{List, [], ◌∷◌}
use native.Mathlib.Omega.{arith}
use borrow.Author.Tests.{lt-ltb, le-ltb, leb-true}
use lib.Dec.{ltb, leb}
use lib.ListN.{length, drop}
use lib.IntN.{ℤ}
use Rattle.paper.specs.Rows.{Table, table, rows_in, numbers, accepting}
use Rattle.paper.specs.Answers.{Ruling, accept, refuse, then, Reads, number, detail}
use Rattle.paper.specs.Checks.{first, every, row_fits, production_fits, little_room, plain, range, order}
use Rattle.paper.specs.Text.{lines, read_lines, text_in}
use Rattle.paper.specs.declared.Refusal.{Refusal}
use Rattle.std.specs.Prelude.{Ok, Err, Some, None}
use Rattle.rows.specs.Places.{code}
use Rattle.rows.proofs.Rest.{both, length_rows}
use Rattle.rows.proofs.Fits.{code_fits}
use Rattle.text_lines.specs.declared.reading.HeadLine.{HeadLine}
use Rattle.text_in.specs.declared.passes.Tally.{Tally}
use Rattle.text_lines.specs.Reading.{head_from}
use Rattle.text_in.specs.Tally.{rows_read, taken, numbers_from, tally, tally_from, start, Ready}
use Rattle.text_laws.specs.Put.{put}
use Rattle.laws.proofs.Refusals.{refuse_accept}
use Rattle.text_laws.proofs.Put.{put_front}
use Rattle.text_laws.proofs.Kept.{numbers_kept, production_kept}
use Rattle.text_in.proofs.Fours.{fours}
use Rattle.text_in.proofs.Climbs.{tally_rows, tally_fits, tally_rising}
use Rattle.text_in.proofs.Parted.{head_rows, head_bad}

-- a refusal
pub refused : {ruling : Ruling Table} {old : List ℤ} (r : Refusal) → ruling ≡ refuse (number r) (detail r) →
    Reads ruling (Err r) old old
refused r e = record { says = rw e; holds = rw e }

and_false : (b : Bool) → (b && false) ≡ false
and_false true = refl
and_false false = refl

-- the checks of a table that was read
abbrev judged : Table → Ruling Table
judged t = first ((ltb 4096 (length t.rows), 1) ∷ plain t) (accept t)

module _ (t : List ℕ) (room : ℕ) where
  pub in_room : room < 16384 → text_in t room ≡ refuse 1 []
  unfolding text_in little_room
  in_room h = rw (lt-ltb room 16384 h)

  module _ (wide : 16384 ≤ room) where
    in_lines : text_in t room ≡ then (read_lines (lines t)) judged
    unfolding text_in little_room
    in_lines = rw (le-ltb room 16384 wide)

    pub in_head : head_from t 0 ≡ None → text_in t room ≡ refuse 13 (0 ∷ [])
    in_head e = in_lines ∙ rw (head_bad t e)

    module _ (h : HeadLine) (head : head_from t 0 ≡ Some h) where
      abbrev of : List ℤ → Table
      of ns = table h.prod0 h.k ns

      in_rows : text_in t room ≡ then (then (rows_read t h.next) (λ ns. accept (of ns))) judged
      in_rows = in_lines ∙ ap (λ (r : Ruling Table). then r judged) (head_rows t h head)

      pub in_bad : (m : ℕ) (d : List ℕ) → tally_from t h.next start ≡ refuse m d → text_in t room ≡ refuse m d
      unfolding tally_from
      in_bad m d e = in_rows ∙ go (rows_read t h.next) e
        where
          go : (r : Ruling (List ℤ)) → then r (λ ns. accept (tally start (rows_in ns))) ≡ refuse m d →
              then (then r (λ ns. accept (of ns))) judged ≡ refuse m d
          go (accept ns) q = refuse_accept (sym q)
          go (refuse n x) q = let a : n ≡ m = cc in let b : x ≡ d = cc in rw (a, b)

      module _ (s : Tally) (e : tally_from t h.next start ≡ accept s) where
        read_all : (rows_read t h.next ≡ accept (numbers_from t h.next)) × (s ≡ tally start (rows_in (numbers_from t h.next)))
        unfolding tally_from numbers_from
        read_all = go (rows_read t h.next) refl e
          where
            go : (r : Ruling (List ℤ)) → rows_read t h.next ≡ r →
                then r (λ ns. accept (tally start (rows_in ns))) ≡ accept s →
                (rows_read t h.next ≡ accept (taken (rows_read t h.next))) × (s ≡ tally start (rows_in (taken (rows_read t h.next))))
            go (accept ns) q w = let a : s ≡ tally start (rows_in ns) = cc in (
              q ∙ ap (λ (x : Ruling (List ℤ)). accept (taken x)) (sym q),
              a ∙ ap (λ (x : Ruling (List ℤ)). tally start (rows_in (taken x))) (sym q),
            )
            go (refuse m d) q w = refuse_accept w

        -- what the pass has learnt
        pub count : s.rows ≡ length (rows_in (numbers_from t h.next))
        count =
            let q = ap (λ (x : Tally). x.rows) read_all.1 in
            omega (arith, tally_rows start (rows_in (numbers_from t h.next)))

        pub fits : s.fits ≡ every row_fits (rows_in (numbers_from t h.next))
        fits = ap (λ (x : Tally). x.fits) read_all.1 ∙ tally_fits (rows_in (numbers_from t h.next))

        in_judged : text_in t room ≡ judged (of (numbers_from t h.next))
        in_judged = in_rows ∙ ap (λ (r : Ruling (List ℤ)). then (then r (λ ns. accept (of ns))) judged) read_all.0

        pub in_many : 4096 < s.rows → text_in t room ≡ refuse 1 []
        in_many m = let l = lt-ltb 4096 s.rows m in in_judged ∙ rw (← count, l)

        module _ (few : s.rows ≤ 4096) where
          not_many : ltb 4096 (length (rows_in (numbers_from t h.next))) ≡ false
          not_many = le-ltb 4096 (length (rows_in (numbers_from t h.next))) (omega (arith, count))

          in_plain : text_in t room ≡ first (plain (of (numbers_from t h.next))) (accept (of (numbers_from t h.next)))
          in_plain = in_judged ∙ rw not_many

          range_is : range (of (numbers_from t h.next)) ≡ not ((production_fits (accepting h.prod0) && leb h.k 16) && s.fits)
          unfolding range
          range_is = rw fits

          pub in_range_head : (production_fits (accepting h.prod0) && leb h.k 16) ≡ false → text_in t room ≡ refuse 2 []
          in_range_head e = let q : range (of (numbers_from t h.next)) ≡ true = range_is ∙ rw e in in_plain ∙ rw q

          pub in_range_rows : s.fits ≡ false → text_in t room ≡ refuse 2 []
          in_range_rows e =
              let q : range (of (numbers_from t h.next)) ≡ true =
              range_is ∙ rw (e, and_false (production_fits (accepting h.prod0) && leb h.k 16)) in
              in_plain ∙ rw q

          module _ (ranged : (production_fits (accepting h.prod0) && leb h.k 16) ≡ true) (fit : s.fits ≡ true) where
            in_bounds : range (of (numbers_from t h.next)) ≡ false
            in_bounds = range_is ∙ rw (ranged, fit)

            all_fit : every row_fits (rows_in (numbers_from t h.next)) ≡ true
            all_fit = sym fits ∙ fit

            pub code_small : code (accepting h.prod0) ≤ 65536
            code_small = leb-true _ _
                (code_fits (accepting h.prod0) ∙ (both (production_fits (accepting h.prod0)) (leb h.k 16) ranged).0)

            order_is : order (of (numbers_from t h.next)) ≡ not s.rising
            unfolding order
            order_is =
                ap not (sym (ap (λ (x : Tally). x.rising) read_all.1 ∙ tally_rising
                (rows_in (numbers_from t h.next)) all_fit))

            pub in_order : s.rising ≡ false → text_in t room ≡ refuse 3 []
            in_order r =
                let q : order (of (numbers_from t h.next)) ≡ true = order_is ∙ ap not r in
                in_plain ∙ rw (in_bounds, q)

            -- a table that passes is written, and is the answer
            whole : length (numbers_from t h.next) ≡ length (lines (drop h.next t)) * 4
            whole = fours t h.next read_all.0

            pub ready : Ready t h.next room
            ready = record {
              formed = read_all.0;
              fit = all_fit;
              few = omega (arith, whole, count, length_rows (numbers_from t h.next));
            }

            pub in_table : s.rising ≡ true → (old new : List ℤ) → new ≡ put old 0 (numbers_from t h.next) →
                Reads (text_in t room) (Ok (record { prod0 = h.prod0; k = h.k; rows = s.rows })) old new
            in_table r old new e =
                let q : order (of (numbers_from t h.next)) ≡ false = order_is ∙ ap not r in
                let ruled : text_in t room ≡ accept (of (numbers_from t h.next)) = in_plain ∙ rw (in_bounds, q) in
                let kept : numbers (rows_in (numbers_from t h.next)) ≡ numbers_from t h.next =
                numbers_kept (length (lines (drop h.next t))) (numbers_from t h.next) whole all_fit in
                record {
                  says = rw (ruled, count, production_kept h.prod0 code_small);
                  holds = rw (ruled, kept) (e ∙ put_front old (numbers_from t h.next));
                }
