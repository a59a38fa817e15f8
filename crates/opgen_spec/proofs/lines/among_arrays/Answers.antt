use Rattle.std.proofs.Common.{◌≡◌, ℕ, ◌+◌, ◌<◌, List, length, get_or, drop, None, ap, sym, ◌∙◌, arith, option_map}
use Rattle.std.specs.Option.{option_or}
use Rattle.std.proofs.lemmas.List.{drop_more}
use Rattle.toml.specs.Data.{Members}
use Rattle.toml.specs.View.{table_view}
use Rattle.opgen_document.specs.declared.array.Array.{Array}
use Rattle.opgen_spec.specs.declared.lines.Check.{Check}
use Rattle.opgen_spec.specs.Faults.{among_array, line_count, count_on, counted_on, among_arrays}
use Rattle.opgen_spec.proofs.lines.among_arrays.Goals as goal

-- the arrays from a place on, where nothing is found in the one at that place
past : (check : Check) (doc : Members) (before : ℕ) (all : List Array) (i : ℕ) (d : Array) → i < length all
    → among_array check doc (get_or all i d) ≡ None
    → among_arrays check doc before (drop i all)
    ≡ among_arrays check doc (count_on before (line_count doc (get_or all i d))) (drop (i + 1) all)
past check doc before all i d lt none =
    let rest = among_arrays check doc (count_on before (line_count doc (get_or all i d))) (drop (i + 1) all) in
    ap (among_arrays check doc before) (drop_more all i d lt) ∙ ap (λ o. option_or (option_map (counted_on before) o) rest) none

pub arrays-preserved : goal.arrays-preserved
arrays-preserved c =
    let doc = table_view c.args.document.now in
    let all = c.arrays-all.result.now in
    let i = c.arrays.array-index in
    ap (λ n. among_arrays c.args.check doc n (drop (i + 1) all))
    (c.count_on-before.ensures ∙ ap (count_on c.arrays.before) c.line_count.ensures)
    ∙ sym (past c.args.check doc c.arrays.before all i _ (omega arith) (sym c.among_array.ensures ∙ c.in_default.is))
    ∙ c.arrays.invariant
