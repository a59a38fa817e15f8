-- Rows of a table read one after the other.
use Rattle.std.proofs.Common.{◌≡◌, ℕ, zero, suc, Bool, List, [], ◌∷◌, ◌++◌, length, Option, Some, None, refl, ap, sym, ◌∙◌, append_assoc, arith}
use Rattle.std.proofs.lemmas.List.{append-nil}
use Rattle.opgen_vhdl.specs.Symbols.{Symbol}
use Rattle.opgen_vhdl.specs.Reader.{◌>>=◌, and_then, choice, row_at, other_at, rows_at}
use Rattle.opgen_vhdl.proofs.Steps.{found}
use Rattle.opgen_vhdl.proofs.Takes.{row-shorter, enough_rows}
use Rattle.opgen_vhdl.proofs.Expressions.{shorter}
use Rattle.opgen_read.specs.Rows.{with_rows}

abbrev Row : Type 0
Row = List Bool × List Bool

one_more : (front : List Row) (r : Row) (o : Option (List Row × List Bool)) → with_rows front (o >>= λ more. found (r ∷ more.0) more.1)
    ≡ with_rows (front ++ r ∷ []) o
unfolding and_then
one_more front r None = refl
one_more front r (Some x) = ap (λ u. found u x.1) (sym (append_assoc front (r ∷ []) x.0))

step_by : (k : ℕ) (front : List Row) (ss : List Symbol) (r : Row) (rest : List Symbol) → row_at ss ≡ found r rest
    → with_rows front (rows_at (suc k) ss) ≡ with_rows (front ++ r ∷ []) (rows_at k rest)
unfolding rows_at choice
step_by k front ss r rest e = rw e (one_more front r (rows_at k rest))

pub rows-step : (front : List Row) (ss : List Symbol) (r : Row) (rest : List Symbol) → row_at ss ≡ found r rest
    → with_rows front (rows_at (length ss) ss) ≡ with_rows (front ++ r ∷ []) (rows_at (length rest) rest)
rows-step front ss r rest e =
    let (k, m, fits) = shorter (length rest) (length ss) (row-shorter ss r rest e) in
    ap (λ n. with_rows front (rows_at n ss)) m ∙ step_by k front ss r rest e
    ∙ ap (with_rows (front ++ r ∷ [])) (enough_rows k (length rest) rest fits (omega arith))

stop_by : (n : ℕ) (front : List Row) (ss : List Symbol) (w : List Bool) → row_at ss ≡ None → other_at ss ≡ Some w
    → with_rows front (rows_at (suc n) ss) ≡ found front w
unfolding rows_at choice and_then
stop_by n front ss w e f = rw (e, f) (ap (λ u. found u w) (append-nil front))

no_other : other_at [] ≡ None
unfolding other_at and_then
no_other = refl

pub rows-stop : (front : List Row) (ss : List Symbol) (w : List Bool) → row_at ss ≡ None → other_at ss ≡ Some w
    → with_rows front (rows_at (length ss) ss) ≡ found front w
rows-stop front [] w e f = let bad : None ≡ Some w = sym no_other ∙ f in cc
rows-stop front (s ∷ ss) w e f = stop_by (length ss) front (s ∷ ss) w e f

fail_by : (n : ℕ) (front : List Row) (ss : List Symbol) → row_at ss ≡ None → other_at ss ≡ None → with_rows front (rows_at n ss) ≡ None
unfolding rows_at choice and_then
fail_by zero front ss e f = refl
fail_by (suc n) front ss e f = rw (e, f) refl

pub rows-fail : (front : List Row) (ss : List Symbol) → row_at ss ≡ None → other_at ss ≡ None → with_rows front (rows_at (length ss) ss)
    ≡ None
rows-fail front ss e f = fail_by (length ss) front ss e f
