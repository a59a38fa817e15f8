-- What the width of an expression says of what it reads.
use Rattle.std.proofs.Common.{◌≡◌, ℕ, ◌+◌, ◌-◌, ◌<◌, ◌≤◌, Bool, List, length, get_or, Option, Some, None, sym, ap, ◌∙◌, subst, refl, arith}
use Rattle.std.specs.Prelude.{IsSome, slice_get, ◌&&◌, nat_le, nat_lt, option_and_then, if◌then◌else◌}
use Rattle.std.proofs.lemmas.Option.{slice_get_within, get_or_from_slice_get}
use Rattle.opgen_num.specs.declared.format.TheConstants.{MAX_WIDTH}
use Rattle.opgen_design.specs.declared.expr.Op.{Op}
use Rattle.opgen_design.specs.Tree.{Tree, Trees, name, part, bits, port, more, none}
use Rattle.opgen_design.specs.Value.{as_width, width, width_on, chain_width, joined}
use Rattle.opgen_design.proofs.WidthLaws.{part_fits, some_before, as_width-some, width-is_width, some_width}

-- the width that is read, of a signal or a port
pub record IsRead (widths : List ℕ) (n : ℕ) (whole : Option ℕ) : Type 0 where
  pub there : n < length widths
  pub narrow : get_or widths n 0 ≤ MAX_WIDTH
  pub is : whole ≡ Some (get_or widths n 0)

is-read : (widths : List ℕ) (n : ℕ) → IsSome (option_and_then as_width (slice_get widths n))
    → IsRead widths n (option_and_then as_width (slice_get widths n))
is-read widths n h =
    let w = some_width (option_and_then as_width (slice_get widths n)) h in
    let a = some_before (slice_get widths n) as_width w.0 w.1 in
    let b = as_width-some a.0 w.0 a.2 in
    let e : get_or widths n 0 ≡ w.0 = get_or_from_slice_get widths n a.0 0 a.1 ∙ b.0 in
    record {
      there = slice_get_within widths n a.0 a.1;
      narrow = omega (arith, e, b.1.1);
      is = w.1 ∙ ap Some (sym e);
    }

module _ (ns ps : List ℕ) where
  pub name-read : (e : Tree) (n : ℕ) → e ≡ name n → IsSome (width ns ps e) → IsRead ns n (width ns ps e)
  name-read e n is h = subst (λ t. IsRead ns n (width ns ps t)) (sym is) (is-read ns n (subst (λ t. IsSome (width ns ps t)) is h))

  pub port-read : (e : Tree) (n : ℕ) → e ≡ port n → IsSome (width ns ps e) → IsRead ps n (width ns ps e)
  port-read e n is h = subst (λ t. IsRead ps n (width ns ps t)) (sym is) (is-read ps n (subst (λ t. IsSome (width ns ps t)) is h))

  -- the part that is read
  pub record IsPart (n high low : ℕ) : Type 0 where
    pub there : n < length ns
    pub in_order : low ≤ high
    pub within : high < get_or ns n 0
    pub narrow : high + 1 - low ≤ MAX_WIDTH

  pub part-read : (e : Tree) (n high low : ℕ) → e ≡ part n high low → IsSome (width ns ps e) → IsPart n high low
  part-read e n high low is h =
      let w = some_width (width ns ps (part n high low)) (subst (λ t. IsSome (width ns ps t)) is h) in
      let a = some_before (slice_get ns n) (λ v. if nat_le low high && nat_lt high v then as_width (high + 1 - low) else None) w.0 w.1 in
      let p = part_fits high low a.0 w.0 a.2 in
      record {
        there = slice_get_within ns n a.0 a.1;
        in_order = p.in_order;
        within = omega (arith, p.within, get_or_from_slice_get ns n a.0 0 a.1);
        narrow = omega (arith, p.width, p.is_width.1);
      }

  pub bits-narrow : (e : Tree) (w : List Bool) → e ≡ bits w → IsSome (width ns ps e) → length w ≤ MAX_WIDTH
  bits-narrow e w is h =
      let v = some_width (width ns ps (bits w)) (subst (λ t. IsSome (width ns ps t)) is h) in
      let a = as_width-some (length w) v.0 v.1 in
      omega (arith, a.0, a.1.1)

  pub narrow-of : (e : Tree) (w : ℕ) → width ns ps e ≡ Some w → w ≤ MAX_WIDTH
  narrow-of e w h = (width-is_width ns ps e w h).1

  -- the first operand of a chain
  pub record Start (op : Op) (t : Tree) (ts : Trees) : Type 0 where
    pub fits : IsSome (width ns ps t)
    pub rest : (w : ℕ) → width ns ps t ≡ Some w → chain_width ns ps op (more t ts) ≡ width_on ns ps op w ts

  pub chain-start : (op : Op) (t : Tree) (ts : Trees) → IsSome (chain_width ns ps op (more t ts)) → Start op t ts
  chain-start op t none h = absurd (cc)
  chain-start op t (more u ts) h =
      let w = some_width (chain_width ns ps op (more t (more u ts))) h in
      let a = some_before (width ns ps t) (λ x. width_on ns ps op x (more u ts)) w.0 w.1 in
      record {
        fits = subst IsSome (sym a.1) refl;
        rest = λ x e. ap (option_and_then (λ w. width_on ns ps op w (more u ts))) e;
      }

  -- one more operand
  pub record Next (op : Op) (v : ℕ) (t : Tree) (ts : Trees) : Type 0 where
    pub fits : IsSome (width ns ps t)
    pub joins : (w : ℕ) → width ns ps t ≡ Some w → (u : ℕ) × (joined op v w ≡ Some u)
    pub rest : (w u : ℕ) → width ns ps t ≡ Some w → joined op v w ≡ Some u → width_on ns ps op v (more t ts) ≡ width_on ns ps op u ts

  pub chain-next : (op : Op) (v : ℕ) (t : Tree) (ts : Trees) → IsSome (width_on ns ps op v (more t ts)) → Next op v t ts
  chain-next op v t ts h =
      let w = some_width (width_on ns ps op v (more t ts)) h in
      let a = some_before (width ns ps t) (λ x. option_and_then (λ u. width_on ns ps op u ts) (joined op v x)) w.0 w.1 in
      let b = some_before (joined op v a.0) (λ u. width_on ns ps op u ts) w.0 a.2 in
      record {
        fits = subst IsSome (sym a.1) refl;
        joins = λ x e. let f : Some a.0 ≡ Some x = sym a.1 ∙ e in let g : a.0 ≡ x = cc in
            (b.0, subst (λ y. joined op v y ≡ Some b.0) g b.1);
        rest = λ x u e f. ap (option_and_then (λ y. option_and_then (λ u. width_on ns ps op u ts) (joined op v y))) e
            ∙ ap (option_and_then (λ u. width_on ns ps op u ts)) f;
      }

pub within : (ns ps : List ℕ) (e : Tree) (w : ℕ) (xs : List (List ℕ)) → width ns ps e ≡ Some w → MAX_WIDTH ≤ length xs → w ≤ length xs
within ns ps e w xs h l = omega (arith, narrow-of ns ps e w h, l)
