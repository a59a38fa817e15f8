use Rattle.std.proofs.Common.{◌≡◌, ℕ, List, [], ◌∷◌, map, refl, ap, ◌∙◌}
use Rattle.std.proofs.lemmas.List.{take_all}
use Rattle.opgen_design.specs.declared.expr.Expr.{Expr}
use Rattle.opgen_design.specs.Plain.{plain, plain_all, trees_of}
use Rattle.opgen_design.specs.Tree.{more}
use Rattle.opgen_cuts.specs.Renamed.{renamed, renamed_all}
use Rattle.opgen_cuts.proofs.renamed.+renamed.Goals as goal

each : (ps : List ℕ) (es : List Expr) → trees_of (map (λ e. renamed ps (plain e)) es) ≡ renamed_all ps (plain_all es)
each ps [] = refl
each ps (e ∷ es) = ap (more (renamed ps (plain e))) (each ps es)

pub renamed_all-returns : goal.renamed_all-returns
renamed_all-returns t c =
    let f = λ (e : Expr). renamed c.args.places.now (plain e) in
    ap trees_of c.loop-expr.invariant
    ∙ ap (λ es. trees_of (map f es)) (take_all c.loop-expr.expr-index c.args.exprs.now c.loop-expr-test.false)
    ∙ each c.args.places.now c.args.exprs.now
