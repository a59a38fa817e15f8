use Rattle.std.proofs.Common.{◌≡◌, ◌∙◌, true, false, FitsSigned, IsTrue, ◌↔◌, ◌∷◌, [], sym, of_z, to_z, rules}
use Rattle.opgen_ports.specs.Ranges.{AreNear}
use Rattle.opgen_ports.specs.Recipes.{has_counters}
use Rattle.std.specs.Int.{w32}
use Rattle.std.specs.Prelude.{ℤ}
use Rattle.std.proofs.lemmas.Int.{to_z-of_z}
use Rattle.std.proofs.lemmas.Bool.{not-true}
use Rattle.opgen_kinds.proofs.product.Product.is_in.Goals.{then-version-ne1, else-version-ne1}
use Rattle.opgen_kinds.proofs.product.Product.is_in.Goals as goal

abbrev kept : ℤ → ℤ
kept z = to_z w32 (of_z w32 z)

pub returns-then-not-has_counters : goal.returns-then-not-has_counters
returns-then-not-has_counters c =
    let p = c.args.self.now in
    let fits_a : FitsSigned w32 p.a.lsb = search rules in
    let fits_b : FitsSigned w32 p.b.lsb = search rules in
    let fits_out : FitsSigned w32 p.out_lsb = search rules in
    let counters : c.args.version ≡ 1 → has_counters p.compressor ≡ false = λ first.
    elim c.if-version-ne1.branch [
      | then-version-ne1 w ↦ absurd (w.if-version-ne1.true first)
      | else-version-ne1 w ↦ sym w.has_counters.ensures ∙ not-true w.has_counters.result (sym w.value-is ∙ c.if-not-has_counters.true)
    ] in
    let read : IsTrue c.are_near.result ↔ AreNear c.args.version (kept p.a.lsb ∷ kept p.b.lsb ∷ kept p.out_lsb ∷ []) = c.are_near.ensures in
    let near = simp to_z-of_z at read in
    (λ t. (counters, near.0 t), λ h. near.1 h.1)
