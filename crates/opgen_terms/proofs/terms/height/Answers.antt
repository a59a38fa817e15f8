use Rattle.std.proofs.Common.{◌≡◌, ◌∙◌, ap, arith, FitsSigned, rules, to_z}
use Rattle.std.specs.Int.{w32}
use Rattle.std.specs.Prelude.{pos, ◌+ℤ◌}
use Rattle.std.proofs.lemmas.Int.{ints, to_z_pos, to_z-of_z}
use Rattle.opgen_terms.specs.declared.terms.Term.{Term as PlainTerm}
use Rattle.opgen_terms.specs.Sop.{term_at, height, depth}
use Rattle.opgen_ports.specs.Reaches.{places_up}
use Rattle.opgen_terms.proofs.AllTerms.{depth_few, height_few, small_shift}
use Rattle.opgen_terms.proofs.terms.height.Goals as goal

pub overflow_cast-below : goal.overflow_cast-below
overflow_cast-below c = omega (arith, ints, c.requires.below, depth_few c.args.sop.now c.requires.shift)

pub overflow_add-term_at : goal.overflow_add-term_at
overflow_add-term_at c =
    let s = c.args.sop.now in
    let (low, high) = small_shift s c.args.place c.requires.shift c.requires.place in
    let shift : c.term_at.result.shift ≡ (term_at s c.args.place).shift = ap (λ (t : PlainTerm). t.shift) c.term_at.ensures in
    let fits : FitsSigned w32 c.term_at.result.shift = search rules in
    let below : to_z w32 c.args.below ≡ pos (depth s) = to_z_pos w32 _ (omega (arith, c.requires.below, depth_few s c.requires.shift)) ∙ ap pos c.requires.below in
    rw below (simp to_z-of_z (omega (arith, ints, low, high, shift, depth_few s c.requires.shift)))

pub returns-clause-value : goal.returns-clause-value
returns-clause-value c =
    let s = c.args.sop.now in
    let (low, high) = small_shift s c.args.place c.requires.shift c.requires.place in
    let shift : c.term_at.result.shift ≡ (term_at s c.args.place).shift = ap (λ (t : PlainTerm). t.shift) c.term_at.ensures in
    let fits : FitsSigned w32 c.term_at.result.shift = search rules in
    let below : to_z w32 c.args.below ≡ pos (depth s) = to_z_pos w32 _ (omega (arith, c.requires.below, depth_few s c.requires.shift)) ∙ ap pos c.requires.below in
    let fits_sum : FitsSigned w32 (c.term_at.result.shift +ℤ pos (depth s)) =
    omega (arith, ints, low, high, shift, depth_few s c.requires.shift) in
    (simp to_z-of_z at rw below at c.places_up.ensures) ∙ ap (λ z. places_up (z +ℤ pos (depth s))) shift

pub returns-clause-bound : goal.returns-clause-bound
returns-clause-bound c =
    let s = c.args.sop.now in
    let (low, high) = small_shift s c.args.place c.requires.shift c.requires.place in
    let shift : c.term_at.result.shift ≡ (term_at s c.args.place).shift = ap (λ (t : PlainTerm). t.shift) c.term_at.ensures in
    let fits : FitsSigned w32 c.term_at.result.shift = search rules in
    let below : to_z w32 c.args.below ≡ pos (depth s) = to_z_pos w32 _ (omega (arith, c.requires.below, depth_few s c.requires.shift)) ∙ ap pos c.requires.below in
    let fits_sum : FitsSigned w32 (c.term_at.result.shift +ℤ pos (depth s)) =
    omega (arith, ints, low, high, shift, depth_few s c.requires.shift) in
    let value : c.places_up.result ≡ height s (term_at s c.args.place) =
    (simp to_z-of_z at rw below at c.places_up.ensures) ∙ ap (λ z. places_up (z +ℤ pos (depth s))) shift in
    omega (arith, value, height_few s c.args.place c.requires.shift c.requires.place)
