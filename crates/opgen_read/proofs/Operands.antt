-- Operands read one after the other.
use Rattle.std.proofs.Common.{◌≡◌, ℕ, zero, suc, List, [], ◌∷◌, ◌++◌, Option, Some, None, refl, ap}
use Rattle.opgen_design.specs.declared.expr.Op.{Op}
use Rattle.opgen_design.specs.Tree.{Tree, Trees, none, more}
use Rattle.opgen_design.specs.Plain.{trees_of}
use Rattle.opgen_vhdl.specs.Grammar.{Names, operator}
use Rattle.opgen_vhdl.specs.Symbols.{Symbol}
use Rattle.opgen_vhdl.specs.Reader.{◌>>=◌, and_then, choice, eat, factor_at, operands_at}
use Rattle.opgen_vhdl.proofs.Steps.{found}
use Rattle.opgen_read.specs.Names.{onto_trees, joined}
use Rattle.opgen_read.specs.Gives.{Fails}
use Rattle.opgen_read.specs.declared.refusal.Refusal.{Refusal}
use Rattle.opgen_read.specs.declared.refusal.Refusal.TheVariants as refusals

onto_none : (front : List Tree) → onto_trees front none ≡ trees_of front
onto_none [] = refl
onto_none (t ∷ front) = ap (more t) (onto_none front)

onto_more : (front : List Tree) (t : Tree) (ts : Trees) → onto_trees front (more t ts) ≡ onto_trees (front ++ t ∷ []) ts
onto_more [] t ts = refl
onto_more (u ∷ front) t ts = ap (more u) (onto_more front t ts)

joined_more : (front : List Tree) (t : Tree) (r : Option (Trees × List Symbol)) → joined front (r >>= λ xs. found (more t xs.0) xs.1)
    ≡ joined (front ++ t ∷ []) r
unfolding and_then
joined_more front t None = refl
joined_more front t (Some xs) = ap (λ u. found u xs.1) (onto_more front t xs.0)

module _ (names : Names) (f : List Symbol → Option (Tree × List Symbol)) (o : Op) where
  pub operands-stop : (n : ℕ) (front : List Tree) (ss : List Symbol) → eat (operator o) ss ≡ None
      → joined front (operands_at names f n o ss) ≡ Some (trees_of front, ss)
  unfolding operands_at and_then choice
  operands-stop zero front ss e = ap (λ u. found u ss) (onto_none front)
  operands-stop (suc n) front ss e = rw e (ap (λ u. found u ss) (onto_none front))

  pub operands-step : (m n : ℕ) (front : List Tree) (ss after : List Symbol) (t : Tree) (rest : List Symbol) → m ≡ suc n
      → eat (operator o) ss ≡ Some after → factor_at names f after ≡ found t rest →
      joined front (operands_at names f m o ss) ≡ joined (front ++ t ∷ []) (operands_at names f n o rest)
  unfolding operands_at and_then choice
  operands-step m n front ss after t rest d e h = rw (d, e, h) (joined_more front t (operands_at names f n o rest))

  pub operands-fail : (m n : ℕ) (front : List Tree) (ss after : List Symbol) → m ≡ suc n → eat (operator o) ss ≡ Some after
      → factor_at names f after ≡ None → joined front (operands_at names f m o ss) ≡ None
  unfolding operands_at and_then choice
  operands-fail m n front ss after d e h = rw (d, e, h) refl

pub fails_too : {Y Z : Type 0} (e : Refusal) (r : Option Y) (q : Option Z) → Fails e r → (r ≡ None → q ≡ None) → Fails e q
fails_too refusals.Memory r q h f = tt
fails_too refusals.Refused r q h f = f h
