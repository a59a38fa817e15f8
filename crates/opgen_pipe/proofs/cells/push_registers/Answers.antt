use Rattle.std.proofs.Common.{◌≡◌, ℕ, zero, suc, ◌+◌, [], ◌∷◌, ◌++◌, refl, sym, ap, ◌∙◌, arith}
use Rattle.std.specs.Prelude.{replicate}
use Rattle.std.proofs.lemmas.List.{append_assoc}
use Rattle.opgen_pipe.specs.Cells.{register_of}
use Rattle.opgen_pipe.proofs.cells.push_registers.Goals as goal

one-more : {X : Type 0} (n : ℕ) (x : X) → replicate (n + 1) x ≡ replicate n x ++ x ∷ []
one-more n x = let e : n + 1 ≡ suc n = omega arith in ap (λ k. replicate k x) e ∙ go n x
  where
    go : {X : Type 0} (n : ℕ) (x : X) → replicate (suc n) x ≡ replicate n x ++ x ∷ []
    go zero x = refl
    go (suc n) x = ap (λ xs. x ∷ xs) (go n x)

pub copies-preserved : goal.copies-preserved
copies-preserved c =
    let r = register_of c.args.width in
    let k = c.copies.counter in
    c.in_ok-push.ensures.items
    ∙ ap (λ xs. xs ++ r ∷ []) c.copies.invariant
    ∙ append_assoc c.args.cells.now.items (replicate k r) (r ∷ [])
    ∙ ap (λ xs. c.args.cells.now.items ++ xs) (sym (one-more k r))
