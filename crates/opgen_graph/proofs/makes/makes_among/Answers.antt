use Rattle.std.proofs.Common.{◌≤◌, get_or, ℕ, below_more, refl}
use Rattle.opgen_graph.specs.Adders.{CombEither}
use Rattle.opgen_graph.proofs.OddParts.{refuted, prefix_pair, no_prefix, no_pair_either}
use Rattle.opgen_graph.proofs.makes.makes_among.Goals as goal

pub returns-then-makes_with : goal.returns-then-makes_with
returns-then-makes_with c =
    (λ _. prefix_pair c.args.placed.now _ c.loop-k.k c.args.f refl c.loop-k-test.true (c.if-makes_with.ensures.0 refl), λ _. refl)

pub loop-k-preserved : goal.loop-k-preserved
loop-k-preserved c =
    λ k j lt le. below_more (λ i. (j : ℕ) → j ≤ i → CombEither (get_or c.args.placed.now i 0) (get_or c.args.placed.now j 0) c.args.f
    → ⊥) c.loop-k.k (λ i h j' le'. c.loop-k.invariant i j' h le')
    (no_prefix c.args.placed.now _ c.loop-k.k c.args.f refl c.loop-k-test.true (λ p. refuted (c.if-makes_with.ensures.1 p))) k lt j le

pub returns : goal.returns
returns c = (λ z. absurd (refuted z), λ a. absurd (no_pair_either _ _ _ c.loop-k-test.false c.loop-k.invariant a))
