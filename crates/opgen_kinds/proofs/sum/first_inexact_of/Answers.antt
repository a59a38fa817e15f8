use Rattle.std.proofs.Common.{ℕ, ◌≡◌, ◌+◌, ◌<◌, ◌∙◌, Bool, true, false, not, cond, List, length, drop, get_or, Some, ap, sym, add-one, drop-cons, arith, FitsSigned, rules, ◌≤◌, ◌^◌}
use Rattle.std.specs.Int.{w32, w64}
use Rattle.std.specs.Prelude.{ℤ, pos, unsigned_abs}
use Rattle.std.specs.List.{position_from}
use Rattle.std.proofs.lemmas.Int.{ints, to_z-of_z}
use Rattle.opgen_ports.specs.Reaches.{is_whole_at}
use Rattle.opgen_kinds.proofs.sum.first_inexact_of.Goals as goal

-- one element more of a search
next : (f : ℤ → Bool) (xs : List ℤ) (i n : ℕ) → i < length xs
    → position_from f n (drop i xs) ≡ cond (f (get_or xs i (pos 0))) (Some n) (position_from f (n + 1) (drop (i + 1) xs))
next f xs i n here =
    ap (position_from f n) (drop-cons xs i (pos 0) here)
    ∙ ap (λ (k : ℕ). cond (f (get_or xs i (pos 0))) (Some n) (position_from f (n + 1) (drop k xs))) (sym (add-one i))

pub overflow_add-index : goal.overflow_add-index
overflow_add-index c = omega (arith, c.coefs-test.true, c.coefs.invariant.place, c.requires.few)

pub returns-then-not-is_whole : goal.returns-then-not-is_whole
returns-then-not-is_whole c =
    let coefs = c.args.coefs.now in
    let i = c.coefs.coef-index in
    let here : i < length coefs = c.coefs-test.true in
    let small : unsigned_abs (get_or coefs i (pos 0)) ≤ 2 ^ 30 = c.requires.coefs i (pos 0) here in
    let fits_coef : FitsSigned w64 (get_or coefs i (pos 0)) = omega (arith, ints) in
    let fits_den : FitsSigned w64 c.args.den = search rules in
    let fits_shift : FitsSigned w32 c.args.shift = search rules in
    let whole : false ≡ is_whole_at c.args.den c.args.shift (get_or coefs i (pos 0)) = simp to_z-of_z at c.if-not-is_whole.ensures in
    let f : ℤ → Bool = λ (t : ℤ). not (is_whole_at c.args.den c.args.shift t) in
    ap (λ (b : Bool). cond (not b) (Some c.coefs.index) (position_from f (c.coefs.index + 1) (drop (i + 1) coefs))) whole
    ∙ sym (next f coefs i c.coefs.index here) ∙ (simp to_z-of_z at c.coefs.invariant.same)

pub coefs-preserved : goal.coefs-preserved
coefs-preserved c =
    let coefs = c.args.coefs.now in
    let i = c.coefs.coef-index in
    let here : i < length coefs = c.coefs-test.true in
    let small : unsigned_abs (get_or coefs i (pos 0)) ≤ 2 ^ 30 = c.requires.coefs i (pos 0) here in
    let fits_coef : FitsSigned w64 (get_or coefs i (pos 0)) = omega (arith, ints) in
    let fits_den : FitsSigned w64 c.args.den = search rules in
    let fits_shift : FitsSigned w32 c.args.shift = search rules in
    let whole : true ≡ is_whole_at c.args.den c.args.shift (get_or coefs i (pos 0)) = simp to_z-of_z at c.if-not-is_whole.ensures in
    let f : ℤ → Bool = λ (t : ℤ). not (is_whole_at c.args.den c.args.shift t) in
    record {
      same = simp to_z-of_z (ap (λ (b : Bool). cond (not b) (Some c.coefs.index) (position_from f (c.coefs.index + 1) (drop (i + 1) coefs))) whole
          ∙ sym (next f coefs i c.coefs.index here) ∙ (simp to_z-of_z at c.coefs.invariant.same));
      place = omega (arith, c.coefs.invariant.place);
    }
