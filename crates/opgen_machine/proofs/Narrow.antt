-- Widths of at most 64 bits: what an expression of such a width is made of has such widths.
use Rattle.std.proofs.Common.{◌≡◌, ℕ, ◌+◌, ◌-◌, ◌<◌, ◌≤◌, List, [], ◌∷◌, length, take, drop, get_or, Option, Some, None, refl, sym, ap, ◌∙◌, subst, arith}
use Rattle.std.specs.Prelude.{All, IsSome, option_and_then}
use Rattle.std.proofs.lemmas.List.Elements.{All-cons}
use Rattle.opgen_design.specs.declared.expr.Expr.{Expr}
use Rattle.opgen_design.specs.declared.expr.Op.{Op}
use Rattle.opgen_design.specs.declared.expr.Op.TheVariants.{And, Or, Xor, Cat, Plus, Minus}
use Rattle.opgen_design.specs.Tree.{Tree, Trees, none, more}
use Rattle.opgen_design.specs.Plain.{plain, plain_all}
use Rattle.opgen_design.specs.Value.{joined, width, chain_width, width_on}
use Rattle.opgen_design.proofs.WidthLaws.{some_before, as_width-some, equal_widths}
use Rattle.opgen_runs.proofs.Plain.{more-at, first-and-rest}
use Rattle.opgen_machine.specs.Emit.{IsNarrow}

pub narrow-some : (o : Option ℕ) → IsNarrow o → IsSome o
narrow-some None h = absurd h
narrow-some (Some w) h = refl

pub narrow-of : (o : Option ℕ) → IsNarrow o → (w : ℕ) × (o ≡ Some w) × (w ≤ 64)
narrow-of None h = absurd h
narrow-of (Some w) h = (w, refl, h)

pub is-narrow : (o : Option ℕ) (w : ℕ) → o ≡ Some w → w ≤ 64 → IsNarrow o
is-narrow o w e h = subst IsNarrow (sym e) h

-- neither operand is wider than both together
pub joined-wider : (op : Op) (a b w : ℕ) → joined op a b ≡ Some w → (a ≤ w) × (b ≤ w)
joined-wider And a b w e = let s = equal_widths a b w e in (omega (arith, s.1), omega (arith, s.0, s.1))
joined-wider Or a b w e = let s = equal_widths a b w e in (omega (arith, s.1), omega (arith, s.0, s.1))
joined-wider Xor a b w e = let s = equal_widths a b w e in (omega (arith, s.1), omega (arith, s.0, s.1))
joined-wider Cat a b w e = let s = as_width-some (a + b) w e in (omega (arith, s.0), omega (arith, s.0))
joined-wider Plus a b w e = let s = equal_widths a b w e in (omega (arith, s.1), omega (arith, s.0, s.1))
joined-wider Minus a b w e = let s = equal_widths a b w e in (omega (arith, s.1), omega (arith, s.0, s.1))

module _ (ns ps : List ℕ) (op : Op) where
  -- the next operand of a chain
  pub next : (w v : ℕ) (t : Tree) (ts : Trees) → width_on ns ps op w (more t ts) ≡ Some v
      → (x : ℕ) × (u : ℕ) × (width ns ps t ≡ Some x) × (joined op w x ≡ Some u) × (width_on ns ps op u ts ≡ Some v)
  next w v t ts h =
      let a = some_before (width ns ps t) (λ x. option_and_then (λ u. width_on ns ps op u ts) (joined op w x)) v h in
      let b = some_before (joined op w a.0) (λ u. width_on ns ps op u ts) v a.2 in
      (a.0, b.0, a.1, b.1, b.2)

  pub on-wider : (w v : ℕ) (ts : Trees) → width_on ns ps op w ts ≡ Some v → w ≤ v
  on-wider w v none h = let e : w ≡ v = cc in omega (arith, e)
  on-wider w v (more t ts) h =
      let n = next w v t ts h in
      omega (arith, (joined-wider op w n.0 n.1 n.3).0, on-wider n.1 v ts n.4)

  -- the first operand of a chain is narrow
  pub first-narrow : (t : Tree) (ts : Trees) → IsNarrow (chain_width ns ps op (more t ts)) → IsNarrow (width ns ps t)
  first-narrow t none h = absurd h
  first-narrow t (more u ts) h =
      let c = narrow-of (chain_width ns ps op (more t (more u ts))) h in
      let a = some_before (width ns ps t) (λ x. width_on ns ps op x (more u ts)) c.0 c.1 in
      is-narrow (width ns ps t) a.0 a.1 (omega (arith, on-wider a.0 c.0 (more u ts) a.2, c.2))

  -- and so is what the next operand joins to
  pub join-narrow : (w x : ℕ) (t : Tree) (ts : Trees) → IsNarrow (width_on ns ps op w (more t ts)) → width ns ps t ≡ Some x
      → IsNarrow (joined op w x)
  join-narrow w x t ts h e =
      let c = narrow-of (width_on ns ps op w (more t ts)) h in
      let n = next w c.0 t ts c.1 in
      let f : Some n.0 ≡ Some x = sym n.2 ∙ e in
      let g : n.0 ≡ x = cc in
      is-narrow (joined op w x) n.1 (ap (joined op w) (sym g) ∙ n.3) (omega (arith, on-wider n.1 c.0 ts n.4, c.2))

  -- the same of the operands of a chain's expression
  pub chain-first : (xs : List Expr) (x : Expr) → 1 ≤ length xs → x ≡ get_or xs 0 x → IsNarrow (chain_width ns ps op (plain_all xs))
      → IsNarrow (width ns ps (plain x))
  chain-first xs x l e h =
      let ts = plain_all (take (length xs - 1) (drop 1 xs)) in
      first-narrow (plain x) ts (subst (λ all. IsNarrow (chain_width ns ps op all)) (first-and-rest xs x l e) h)

  all-narrow : (w v : ℕ) (xs : List Expr) → width_on ns ps op w (plain_all xs) ≡ Some v → v ≤ 64
      → All (λ e. IsNarrow (width ns ps (plain e))) xs
  all-narrow w v [] h l = λ k x m. absurd (omega (arith, m))
  all-narrow w v (e ∷ xs) h l =
      let n = next w v (plain e) (plain_all xs) h in
      let here = is-narrow (width ns ps (plain e)) n.0 n.2
      (omega (arith, (joined-wider op w n.0 n.1 n.3).1, on-wider n.1 v (plain_all xs) n.4, l)) in
      All-cons (λ e. IsNarrow (width ns ps (plain e))) e xs here (all-narrow n.1 v xs n.4 l)

  pub chain-rest : (w : ℕ) (xs : List Expr) → IsNarrow (width_on ns ps op w (plain_all xs)) → All (λ e. IsNarrow (width ns ps (plain e))) xs
  chain-rest w xs h = let n = narrow-of (width_on ns ps op w (plain_all xs)) h in all-narrow w n.0 xs n.1 n.2

  pub chain-join : (w v : ℕ) (xs : List Expr) (i : ℕ) (x : Expr) → i < length xs → x ≡ get_or xs i x
      → IsNarrow (width_on ns ps op w (plain_all (drop i xs))) → width ns ps (plain x) ≡ Some v → IsNarrow (joined op w v)
  chain-join w v xs i x l e h k =
      join-narrow w v (plain x) (plain_all (drop (i + 1) xs)) (subst (λ ts. IsNarrow (width_on ns ps op w ts)) (more-at xs i x l e) h) k
