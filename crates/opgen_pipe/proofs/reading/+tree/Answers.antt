use Rattle.std.proofs.Common.{◌≡◌, ◌<◌, ℕ, List, [], ◌∷◌, ◌++◌, length, map, take, refl, sym, ap, ◌∙◌, subst, rules}
use Rattle.std.proofs.lemmas.List.{map_more, map_push, take_all}
use Rattle.opgen_design.specs.declared.expr.Expr.{Expr}
use Rattle.opgen_design.specs.declared.expr.Expr.TheFolds.{the_lemmas}
use Rattle.opgen_design.specs.Plain.{plain, plain_all, trees_of}
use Rattle.opgen_design.specs.Sound.{AllReads, AllOperandsRead}
use Rattle.opgen_design.specs.Tree.{inverse, more, name}
use Rattle.opgen_runs.proofs.Plain.{plain-bits, plain-name, plain-not, plain-part, plain-port, more-at}
use Rattle.opgen_pipe.specs.declared.standing.Standing.{Standing}
use Rattle.opgen_pipe.specs.Counts.{IsAny}
use Rattle.opgen_pipe.specs.Reading.{tree_in, trees_in}
use Rattle.opgen_pipe.proofs.reading.+tree.Goals as goal

pub tree_in-read_in-requires-clause-there : goal.tree_in-read_in-requires-clause-there
tree_in-read_in-requires-clause-there t c =
    subst (AllReads (λ j. j < length c.args.standings.now) IsAny) (ap plain c.in-Name.is ∙ plain-name c.in-Name.node) c.requires.there

pub tree_in-slice_in-requires-clause-there : goal.tree_in-slice_in-requires-clause-there
tree_in-slice_in-requires-clause-there t c =
    subst (AllReads (λ j. j < length c.args.standings.now) IsAny) (ap plain c.in-Part.is ∙ plain-part c.in-Part.slice) c.requires.there

pub tree_in-returns-in-Name : goal.tree_in-returns-in-Name
tree_in-returns-in-Name t c =
    plain-name c.read_in.result ∙ ap name c.read_in.ensures
    ∙ sym (ap (tree_in c.args.standings.now c.args.cycle) (ap plain c.in-Name.is ∙ plain-name c.in-Name.node))

pub tree_in-returns-in-Part : goal.tree_in-returns-in-Part
tree_in-returns-in-Part t c =
    c.slice_in.ensures
    ∙ sym (ap (tree_in c.args.standings.now c.args.cycle) (ap plain c.in-Part.is ∙ plain-part c.in-Part.slice))

pub tree_in-returns-in-Bits : goal.tree_in-returns-in-Bits
tree_in-returns-in-Bits t c =
    plain-bits c.in-Bits.word
    ∙ sym (ap (tree_in c.args.standings.now c.args.cycle) (ap plain c.in-Bits.is ∙ plain-bits c.in-Bits.word))

pub tree_in-returns-in-Port : goal.tree_in-returns-in-Port
tree_in-returns-in-Port t c =
    plain-port c.in-Port.place
    ∙ sym (ap (tree_in c.args.standings.now c.args.cycle) (ap plain c.in-Port.is ∙ plain-port c.in-Port.place))

pub tree_in-returns-in_ok-new-in-Not : goal.tree_in-returns-in_ok-new-in-Not
tree_in-returns-in_ok-new-in-Not t c =
    let f = tree_in c.args.standings.now c.args.cycle in
    plain-not c.in_ok-new-in-Not.field-0
    ∙ ap (λ e. inverse (plain e)) c.in_ok-new-in-Not.ensures.ok
    ∙ ap inverse (c.in_ok-tree_in-in-Not.ensures ∙ ap (λ e. f (plain e)) c.deref.ensures)
    ∙ sym (ap f (ap plain c.in-Not.is ∙ plain-not c.in-Not.operand))

pub tree_in-tree_in-requires : goal.tree_in-tree_in-requires
tree_in-tree_in-requires t c =
    let P : ℕ → Type 0 = λ j. j < length c.args.standings.now in (
      search (rules, the_lemmas),
      (
        c.requires.small,
        (
          c.requires.cycle,
          subst (λ e. AllReads P IsAny (plain e)) (sym c.deref.ensures)
              (subst (AllReads P IsAny) (ap plain c.in-Not.is ∙ plain-not c.in-Not.operand) c.requires.there),
        ),
      ),
    )

pub trees_in-tree_in-requires : goal.trees_in-tree_in-requires
trees_in-tree_in-requires t c =
    let P : ℕ → Type 0 = λ j. j < length c.args.standings.now in (
      search (rules, the_lemmas),
      (
        c.requires.small,
        (
          c.requires.cycle,
          (subst (AllOperandsRead P IsAny)
              (more-at c.args.exprs.now c.loop-expr.expr-index c.expr-item.result c.loop-expr-test.true c.expr-item.is)
              c.loop-expr.invariant.there).0,
        ),
      ),
    )

each : (ps : List Standing) (c : ℕ) (es : List Expr) → trees_of (map (λ e. tree_in ps c (plain e)) es) ≡ trees_in ps c (plain_all es)
each ps c [] = refl
each ps c (e ∷ es) = ap (more (tree_in ps c (plain e))) (each ps c es)

pub trees_in-loop-expr-preserved : goal.trees_in-loop-expr-preserved
trees_in-loop-expr-preserved t c =
    let f = λ (e : Expr). tree_in c.args.standings.now c.args.cycle (plain e) in
    let xs = c.args.exprs.now in
    let i = c.loop-expr.expr-index in
    let x = c.expr-item.result in
    let front = map f (take i xs) in
    let r = c.in_ok-tree_in.field-0 in
    record {
      made = ap (map plain) c.in_ok-push.ensures.items ∙ map_push plain c.loop-expr.trees.items r
          ∙ ap (λ ts. ts ++ plain r ∷ []) c.loop-expr.invariant.made
          ∙ ap (λ y. front ++ y ∷ []) c.in_ok-tree_in.ensures
          ∙ ap (λ y. front ++ f y ∷ []) c.expr-item.is
          ∙ sym (map_more f xs i x c.loop-expr-test.true);
      there = (subst (AllOperandsRead (λ j. j < length c.args.standings.now) IsAny)
          (more-at xs i x c.loop-expr-test.true c.expr-item.is) c.loop-expr.invariant.there).1;
    }

pub trees_in-returns : goal.trees_in-returns
trees_in-returns t c =
    let f = λ (e : Expr). tree_in c.args.standings.now c.args.cycle (plain e) in
    ap trees_of c.loop-expr.invariant.made
    ∙ ap (λ es. trees_of (map f es)) (take_all c.loop-expr.expr-index c.args.exprs.now c.loop-expr-test.false)
    ∙ each c.args.standings.now c.args.cycle c.args.exprs.now
