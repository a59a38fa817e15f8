use Rattle.std.proofs.Common.{true≢false, ℕ, ◌≡◌, ◌+◌, ◌++◌, ◌∷◌, [], length, length-append, Contains, inl, sym, ◌∙◌, subst, arith}
use Rattle.std.proofs.lemmas.Result.{on_ok_weaker}
use Rattle.opgen_shared.specs.Rule.{stands}
use Rattle.opgen_shared.specs.Steps.{Weighs}
use Rattle.opgen_shared.specs.Sums.{placed_by}
use Rattle.opgen_shared.proofs.Comparing.{weighs_of}
use Rattle.opgen_shared.proofs.Growing.{still, last}
use Rattle.opgen_shared.proofs.Making.{weight_is, grown, still_new, light_more}
use Rattle.opgen_shared.proofs.StepLaws.{rest_wide, first_stands, second_stands}
use Rattle.opgen_shared.proofs.graph.+make.Goals as goal

pub returns-then-stands-clause-grows : goal.returns-then-stands-clause-grows
returns-then-stands-clause-grows t c = stands (c.stands.ensures.stands.0 c.if-stands.true)

pub returns-then-stands-clause-light : goal.returns-then-stands-clause-light
returns-then-stands-clause-light t c = λ x k. inl k

pub best_step-step-requires-clause-count : goal.best_step-step-requires-clause-count
best_step-step-requires-clause-count t c =
    weight_is (placed_by c.args.sums.now.adders) c.args.number c.args.weight c.requires.weight (λ k. true≢false (sym (c.stands.ensures.stands.1 k) ∙ c.if-stands.false))

pub make-requires : goal.make-requires
make-requires t c =
    let is = c.best_step-step.ensures.candidate in
    let step = c.best_step-step.result in
    let done = c.args.sums.now.adders in
    let wide = rest_wide (placed_by done) step.adder step.rest is.step.adder is.rest in
    let weighs = weighs_of done c.args.sums.now.levels.items step.rest c.requires.sums wide in (
      omega (arith, c.best_step-step.ensures.lighter),
      (c.requires.sums, (wide, subst (Weighs (placed_by done) step.rest) (sym is.weight) weighs)),
    )

pub place-requires-clause-new : goal.place-requires-clause-new
place-requires-clause-new t c =
    let is = c.best_step-step.ensures.candidate in
    let done = c.args.sums.now.adders in
    let no = λ (k : Contains (placed_by done) c.args.number). true≢false (sym (c.stands.ensures.stands.1 k) ∙ c.if-stands.false) in
    subst (λ n. Contains (placed_by c.make.new.sums.adders) n → ⊥) (sym is.step.value)
    (still_new done c.make.new.sums.adders c.args.number c.args.weight c.best_step-step.result.weight no
    (weight_is (placed_by done) c.args.number c.args.weight c.requires.weight no) c.best_step-step.ensures.lighter c.in_ok-make.ensures.light)

pub place-requires-clause-u : goal.place-requires-clause-u
place-requires-clause-u t c =
    first_stands (placed_by c.args.sums.now.adders) (placed_by c.make.new.sums.adders) c.best_step-step.result.adder
    c.best_step-step.result.rest c.best_step-step.ensures.candidate.rest
    c.in_ok-make.ensures.made c.in_ok-make.ensures.kept

pub place-requires-clause-v : goal.place-requires-clause-v
place-requires-clause-v t c =
    second_stands (placed_by c.args.sums.now.adders) (placed_by c.make.new.sums.adders) c.best_step-step.result.adder
    c.best_step-step.result.rest c.best_step-step.ensures.candidate.rest
    c.in_ok-make.ensures.made c.in_ok-make.ensures.kept

pub returns-clause-grows : goal.returns-clause-grows
returns-clause-grows t c =
    let done = c.args.sums.now.adders in
    let half = c.make.new.sums.adders in
    let step = c.best_step-step.result in
    on_ok_weaker c.place.result
    (λ (e : c.place.new.sums.adders ≡ half ++ step.adder ∷ []).
    grown done half c.place.new.sums.adders c.args.number step c.best_step-step.ensures.candidate c.best_step-step.ensures.best
    (λ k. true≢false (sym (c.stands.ensures.stands.1 k) ∙ c.if-stands.false)) c.in_ok-make.ensures.grows c.in_ok-make.ensures.made c.in_ok-make.ensures.kept e)
    c.place.ensures.adders

pub returns-clause-made : goal.returns-clause-made
returns-clause-made t c =
    let half = c.make.new.sums.adders in
    let a = c.best_step-step.result.adder in
    on_ok_weaker c.place.result
    (λ (e : c.place.new.sums.adders ≡ half ++ a ∷ []).
    subst (λ n. Contains (placed_by c.place.new.sums.adders) n) c.best_step-step.ensures.candidate.step.value
    (subst (λ xs. Contains (placed_by xs) a.value) (sym e) (last half a)))
    c.place.ensures.adders

pub returns-clause-kept : goal.returns-clause-kept
returns-clause-kept t c =
    let half = c.make.new.sums.adders in
    let a = c.best_step-step.result.adder in
    on_ok_weaker c.place.result
    (λ (e : c.place.new.sums.adders ≡ half ++ a ∷ []).
    λ (x : ℕ) (k : Contains (placed_by c.args.sums.now.adders) x).
    subst (λ xs. Contains (placed_by xs) x) (sym e) (still half a x (c.in_ok-make.ensures.kept x k)))
    c.place.ensures.adders

pub returns-clause-light : goal.returns-clause-light
returns-clause-light t c =
    let done = c.args.sums.now.adders in
    let half = c.make.new.sums.adders in
    let step = c.best_step-step.result in
    on_ok_weaker c.place.result
    (λ (e : c.place.new.sums.adders ≡ half ++ step.adder ∷ []).
    light_more done half c.place.new.sums.adders c.args.number c.args.weight step.weight step.adder
    c.best_step-step.ensures.candidate.step.value
    (weight_is (placed_by done) c.args.number c.args.weight c.requires.weight (λ k. true≢false (sym (c.stands.ensures.stands.1 k) ∙ c.if-stands.false)))
    c.best_step-step.ensures.lighter c.in_ok-make.ensures.light e)
    c.place.ensures.adders

pub returns-clause-few : goal.returns-clause-few
returns-clause-few t c =
    let half = c.make.new.sums.adders in
    let a = c.best_step-step.result.adder in
    on_ok_weaker c.place.result
    (λ (e : c.place.new.sums.adders ≡ half ++ a ∷ []).
    let more : length c.place.new.sums.adders ≡ length half + 1 = subst (λ xs. length xs ≡ length half + 1) (sym e) (length-append half (a ∷ [])) in
    omega (arith, more, c.in_ok-make.ensures.few, c.best_step-step.ensures.lighter))
    c.place.ensures.adders
