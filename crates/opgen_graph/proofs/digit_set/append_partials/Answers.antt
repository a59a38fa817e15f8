use mir.Val.{of_z, to_z}
use Rattle.std.proofs.Common.{◌≡◌, ◌++◌, ℕ, ◌^◌, ◌<◌, ◌≤◌, sym, ap, subst, ◌∙◌, arith}
use Rattle.std.specs.Prelude.{ℤ, pos, unsigned_abs}
use Rattle.std.specs.Int.{w64}
use Rattle.std.proofs.lemmas.List.{take_all}
use Rattle.opgen_csd.specs.Partials.{partials}
use Rattle.opgen_graph.proofs.SignedSets.{partials_small, appended}
use Rattle.opgen_graph.proofs.SmallNumbers.{word_of}
use Rattle.opgen_graph.proofs.Vectors.{one_more}
use Rattle.opgen_graph.proofs.digit_set.append_partials.Goals as goal

-- a target is a small number, and its word too
small_target : (t : ℕ) → t ≤ 2047 → t ≤ 1048575
small_target t small = omega (arith, small)

small_word : (t : ℕ) (z : ℤ) → t ≤ 2047 → z ≡ pos t → unsigned_abs (to_z w64 (of_z w64 z)) < 2 ^ 62
small_word t z small e = subst (λ y. unsigned_abs y < 2 ^ 62) (sym (word_of t z (small_target t small) e)) (omega (arith, small))

pub recode-requires : goal.recode-requires
recode-requires c = small_word c.args.target c.from.result c.requires.2 c.from.ensures

pub overflow_cast-sum : goal.overflow_cast-sum
overflow_cast-sum c =
    let list : c.as_slice-sum-items.result.now ≡ partials c.recode.result = c.as_slice-sum-items.ensures ∙ c.partials-partials.ensures in
    let value = c.recode.ensures.value ∙ word_of c.args.target c.from.result (small_target c.args.target c.requires.2) c.from.ensures in
    let small =
    rw (← list) at
    (partials_small c.args.target c.recode.result c.requires c.recode.ensures.canonical value c.loop-sum.sum-index) in
    omega (arith, small c.loop-sum-test.true)

pub loop-sum-preserved : goal.loop-sum-preserved
loop-sum-preserved c =
    one_more c.as_slice-sum-items.result.now c.loop-sum.sum-index 0 c.loop-sum-test.true c.args.set.now.items c.loop-sum.set.items
    c.push.new.self.items c.loop-sum.invariant c.in_ok-push.ensures.items

pub returns : goal.returns
returns c =
    let list : c.as_slice-sum-items.result.now ≡ partials c.recode.result = c.as_slice-sum-items.ensures ∙ c.partials-partials.ensures in
    let value = c.recode.ensures.value ∙ word_of c.args.target c.from.result (small_target c.args.target c.requires.2) c.from.ensures in
    let items : c.loop-sum.set.items ≡ c.args.set.now.items ++ partials c.recode.result =
    c.loop-sum.invariant ∙ ap (λ xs. c.args.set.now.items ++ xs)
    (take_all c.loop-sum.sum-index c.as_slice-sum-items.result.now c.loop-sum-test.false ∙ list) in
    appended c.args.target c.recode.result _ _ c.recode.ensures.canonical value items
