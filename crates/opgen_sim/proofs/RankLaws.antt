-- Numbers that pass the check at each driver are ranks.
use Rattle.std.proofs.Common.{◌≡◌, ℕ, ◌+◌, ◌<◌, ◌≤◌, true, false, Option, Some, None, is_some, List, length, take, get_or, max, refl, sym, ap, ◌∙◌, subst, inl, inr, arith}
use Rattle.std.specs.Prelude.{Contains}
use Rattle.std.specs.List.{list_all}
use Rattle.std.proofs.lemmas.Bool.{leb-true}
use Rattle.std.proofs.lemmas.List.{take_more}
use Rattle.std.proofs.lemmas.List.Recursion.{max_push}
use Rattle.std.proofs.lemmas.List.Sums.{AllPass-from_list_all}
use Rattle.opgen_design.specs.declared.design.Design.{Design}
use Rattle.opgen_design.specs.declared.design.Driver.{Driver}
use Rattle.opgen_design.specs.declared.expr.Expr.{Expr}
use Rattle.opgen_design.specs.Plain.{plain, plain_all}
use Rattle.opgen_design.specs.Sound.{ReadsName, SomeOperandReads, Reads, expressions_read, target}
use Rattle.opgen_design.specs.declared.design.Target.TheVariants.{Signal as signal}
use Rattle.opgen_design.specs.Tree.{Tree, Trees, name, part, bits, port, inverse, chain, none, more}
use Rattle.opgen_design.specs.Depth.{registers_in, CountRegisters}
use Rattle.opgen_sim.specs.Ranks.{highest, highest_of, least_rank, is_at_most, is_ranked}

module _ (rank : ℕ → ℕ) where
  -- one operand more
  pub highest-more : (xs : List Expr) (i : ℕ) (x : Expr) → i < length xs → x ≡ get_or xs i x
      → highest_of rank (plain_all (take (i + 1) xs)) ≡ max (highest_of rank (plain_all (take i xs))) (highest rank (plain x))
  highest-more xs i x l e =
      ap (λ es. highest_of rank (plain_all es)) (take_more xs i x l)
      ∙ max_push (λ es. highest_of rank (plain_all es)) (λ y. highest rank (plain y)) refl (λ y ys. refl) (take i xs) (get_or xs i x)
      ∙ ap (λ y. max (highest_of rank (plain_all (take i xs))) (highest rank (plain y))) (sym e)

  mutual
    pub read-highest : (t : Tree) (r : ℕ) → ReadsName r t → rank r ≤ highest rank t
    read-highest (name n) r e = omega (arith, ap rank e)
    read-highest (part n high low) r e = omega (arith, ap rank e)
    read-highest (bits w) r e = absurd e
    read-highest (port n) r e = absurd e
    read-highest (inverse t) r e = read-highest t r e
    read-highest (chain op ts) r e = operand-highest ts r e

    operand-highest : (ts : Trees) (r : ℕ) → SomeOperandReads r ts → rank r ≤ highest_of rank ts
    operand-highest none r e = absurd e
    operand-highest (more t ts) r e = elim e [
      | inl a ↦ omega (arith, read-highest t r a)
      | inr b ↦ omega (arith, operand-highest ts r b)
    ]

  read-least : (k : Driver) (r : ℕ) → Reads r k → rank r + registers_in k ≤ least_rank rank k
  read-least k r z = omega (arith, operand-highest (expressions_read k) r z)

  register-least : (k : Driver) → registers_in k ≤ least_rank rank k
  register-least k = omega arith

  least-rank : (k : Driver) (s : ℕ) → is_ranked rank k ≡ true → target k ≡ signal s → least_rank rank k ≤ rank s
  least-rank k s h t = leb-true _ _ (subst (λ x. is_at_most (least_rank rank k) rank x ≡ true) t h)

  ranked-at : (ks : List Driver) → list_all (is_ranked rank) ks ≡ true → (k : Driver) → Contains ks k → is_ranked rank k ≡ true
  ranked-at ks h k c = subst (λ x. is_ranked rank x ≡ true) c.2 (AllPass-from_list_all (is_ranked rank) ks h c.0 k c.1)

  pub checked-ranks : (d : Design) → list_all (is_ranked rank) d.drivers ≡ true → CountRegisters d rank
  checked-ranks d h = record {
    reads = λ s r k c t z. omega (arith, read-least k r z, least-rank k s (ranked-at d.drivers h k c) t);
    registers = λ s k c t. omega (arith, register-least k, least-rank k s (ranked-at d.drivers h k c) t);
  }

pub none-of : (o : Option ℕ) → is_some o ≡ false → o ≡ None
none-of None e = refl
none-of (Some n) e = absurd (cc)
