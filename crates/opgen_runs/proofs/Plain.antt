-- An expression of each kind as plain data.
use Rattle.std.proofs.Common.{◌≡◌, ℕ, ◌+◌, ◌-◌, ◌<◌, ◌≤◌, Bool, List, [], ◌∷◌, Box, Global, length, take, drop, get_or, sym, ap, ◌∙◌, arith}
use Rattle.std.proofs.Math.Seq.{take-length}
use Rattle.std.proofs.lemmas.List.{drop_more}
use Rattle.opgen_design.specs.declared.expr.Expr as X
use Rattle.opgen_design.specs.declared.expr.Expr.{Expr, Name, Part, Bits, Port, Not, fold_out-Expr}
use Rattle.opgen_design.specs.declared.expr.Slice.{Slice}
use Rattle.opgen_design.specs.Tree.{Tree, name, part, bits, port, inverse, more}
use Rattle.opgen_design.specs.Plain.{plain, plain_level, plain_all}

pub plain-name : (n : ℕ) → plain (Name n) ≡ name n
unfolding X.out-Expr denote.Hole.Carrier.out
plain-name n = fold_out-Expr Tree plain_level (Name n)

pub plain-port : (n : ℕ) → plain (Port n) ≡ port n
unfolding X.out-Expr denote.Hole.Carrier.out
plain-port n = fold_out-Expr Tree plain_level (Port n)

pub plain-bits : (w : List Bool) → plain (Bits w) ≡ bits w
unfolding X.out-Expr denote.Hole.Carrier.out
plain-bits w = fold_out-Expr Tree plain_level (Bits w)

pub plain-part : (s : Slice) → plain (Part s) ≡ part s.node s.high s.low
unfolding X.out-Expr denote.Hole.Carrier.out
plain-part s = fold_out-Expr Tree plain_level (Part s)

pub plain-not : (b : Box Expr Global) → plain (Not b) ≡ inverse (plain b.value)
unfolding X.out-Expr denote.Hole.Carrier.out
plain-not b = fold_out-Expr Tree plain_level (Not b)

-- the operands that are left, from one on
pub more-at : (xs : List Expr) (i : ℕ) (x : Expr) → i < length xs → x ≡ get_or xs i x → plain_all (drop i xs)
    ≡ more (plain x) (plain_all (drop (i + 1) xs))
more-at xs i x l e = ap plain_all (drop_more xs i x l) ∙ ap (λ y. more (plain y) (plain_all (drop (i + 1) xs))) (sym e)

pub first-and-rest : (xs : List Expr) (x : Expr) → 1 ≤ length xs → x ≡ get_or xs 0 x → plain_all xs
    ≡ more (plain x) (plain_all (take (length xs - 1) (drop 1 xs)))
first-and-rest [] x l e = absurd (omega (arith, l))
first-and-rest (y ∷ ys) x l e =
    let n : length (y ∷ ys) - 1 ≡ length ys = omega arith in
    let r : ys ≡ take (length (y ∷ ys) - 1) ys = sym (ap (λ k. take k ys) n ∙ take-length ys) in
    ap (λ z. more (plain z) (plain_all ys)) (sym e) ∙ ap (λ l. more (plain x) (plain_all l)) r
