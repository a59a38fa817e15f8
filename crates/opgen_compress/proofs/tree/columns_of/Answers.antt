use Rattle.std.proofs.Common.{◌≡◌, ◌%◌, [], ◌∷◌, ◌++◌, eqb, ◌∙◌, arith, rules}
use Rattle.std.specs.Prelude.{slice_index_or}
use Rattle.opgen_compress.specs.Recipe.{one_if}
use Rattle.opgen_compress.proofs.Ones.{one_digit}
use Rattle.opgen_compress.proofs.tree.columns_of.Goals as goal

pub columns-preserved : goal.columns-preserved
columns-preserved c =
    let heap = c.args.heap.now in
    let all = c.columns.all.items in
    let more : c.push.new.self.items ≡ all ++ (slice_index_or heap.columns c.columns.place [] ++ one_if (eqb (c.columns.left % 2) 1)) ∷ [] =
    search rules in
    rw more (one_digit all heap.columns c.columns.place heap.width c.columns.left
    (omega (arith, c.columns-test.true, c.width-place-end.ensures.value)) ∙ c.columns.invariant)
