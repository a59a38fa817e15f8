-- Expressions over words of fitting widths.
use Rattle.std.proofs.Common.{◌≡◌, ℕ, ◌+◌, ◌-◌, ◌<◌, ◌≤◌, Bool, List, [], length, Option, Some, None, refl, sym, ap, ◌∙◌, subst, arith}
use Rattle.std.specs.Prelude.{IsSome, slice_get, option_map, option_and_then, nat_le, nat_lt, ◌&&◌, if◌then◌else◌}
use Rattle.std.proofs.lemmas.List.{length-map}
use Rattle.std.proofs.lemmas.Option.{slice_get-map, slice_get-get_or, slice_get_within}
use Rattle.opgen_design.specs.declared.expr.Op.{Op}
use Rattle.opgen_design.specs.Tree.{Tree, Trees, name, part, port, bits, chain, more, none}
use Rattle.opgen_design.specs.Value.{value, word_at, combined, IsWidth, as_width, width, width_on, chain_width, joined}
use Rattle.opgen_design.proofs.WidthLaws.{PartFits, part_fits, some_before, as_width-of, width-reads, width-is_width, value-width, some_width}
use Rattle.opgen_num.specs.declared.format.TheConstants.{MAX_WIDTH}
use Rattle.opgen_num.specs.Words.{word}
use Rattle.opgen_num.specs.WordLaws.{length-word}
use Rattle.opgen_runs.specs.Fitting.{AreNarrow, Fits, scope_of, widths_of}

is_some : (o : Option ℕ) (w : ℕ) → o ≡ Some w → IsSome o
is_some o w h = subst IsSome (sym h) refl

pub narrow-at : (ws : List (List Bool)) (n : ℕ) → AreNarrow ws → n < length ws → length (word_at ws n) ≤ MAX_WIDTH
narrow-at ws n h l = h n [] l

module _ (names ports : List (List Bool)) where
  abbrev ns : List ℕ
  ns = widths_of names

  abbrev ps : List ℕ
  ps = widths_of ports

  pub word-width : (ws : List (List Bool)) (n w : ℕ) → slice_get (widths_of ws) n ≡ Some w → length (word_at ws n) ≡ w
  word-width ws n w h =
      let l : n < length ws = omega (arith, slice_get_within (widths_of ws) n w h, length-map ws length) in
      let e : slice_get (widths_of ws) n ≡ Some (length (word_at ws n)) = slice_get-map length ws n
      ∙ ap (option_map length) (slice_get-get_or ws n [] l) in
      let f : Some w ≡ Some (length (word_at ws n)) = sym h ∙ e in
      let g : w ≡ length (word_at ws n) = cc in
      sym g

  pub name-there : (e : Tree) (n : ℕ) → e ≡ name n → Fits names ports e → n < length names
  name-there e n is h = let w = some_width (width ns ps (name n)) (subst (Fits names ports) is h) in omega
      (arith, width-reads ns ps (name n) w.0 w.1, length-map names length)

  pub port-there : (e : Tree) (n : ℕ) → e ≡ port n → Fits names ports e → n < length ports
  port-there e n is h = let w = some_width (width ns ps (port n)) (subst (Fits names ports) is h) in omega
      (arith, width-reads ns ps (port n) w.0 w.1, length-map ports length)

  pub part-there : (e : Tree) (n high low : ℕ) → e ≡ part n high low → Fits names ports e → n < length names
  part-there e n high low is h = let w = some_width (width ns ps (part n high low)) (subst (Fits names ports) is h) in omega
      (arith, width-reads ns ps (part n high low) w.0 w.1, length-map names length)

  pub part-lies : (e : Tree) (n high low : ℕ) → e ≡ part n high low → Fits names ports e → (v : ℕ)
      × PartFits high low (length (word_at names n)) v
  part-lies e n high low is h =
      let w = some_width (width ns ps (part n high low)) (subst (Fits names ports) is h) in
      let a = some_before (slice_get ns n) (λ v. if nat_le low high && nat_lt high v then as_width (high + 1 - low) else None) w.0 w.1 in
      (w.0, subst (λ x. PartFits high low x w.0) (sym (word-width names n a.0 a.1)) (part_fits high low a.0 w.0 a.2))

  pub word-narrow : (n w : ℕ) → slice_get ns n ≡ Some w → length (word_at names n) ≡ w
  word-narrow = word-width names

  -- a value has the width of its expression
  pub value-fits : (e : Tree) (w : ℕ) → width ns ps e ≡ Some w → length (value (scope_of names ports) e) ≡ w
  value-fits e w h = value-width ns ps (scope_of names ports) (word-width names) (word-width ports) e w h

  pub value-is_width : (e : Tree) → Fits names ports e → IsWidth (length (value (scope_of names ports) e))
  value-is_width e h = let w = some_width (width ns ps e) h in subst IsWidth (sym (value-fits e w.0 w.1)) (width-is_width ns ps e w.0 w.1)

  -- two words as a chain of literals
  pair-width : (op : Op) (x y : List Bool) (u : ℕ) → IsWidth (length x) → IsWidth (length y) → joined op (length x) (length y) ≡ Some u
      → width ns ps (chain op (more (bits x) (more (bits y) none))) ≡ Some u
  pair-width op x y u h k e =
      ap (option_and_then (λ w. width_on ns ps op w (more (bits y) none))) (as_width-of (length x) h)
      ∙ ap (option_and_then (λ v. option_and_then (λ u. width_on ns ps op u none) (joined op (length x) v))) (as_width-of (length y) k)
      ∙ ap (option_and_then (λ u. width_on ns ps op u none)) e

  pub pair-value : (op : Op) (x y : List Bool) (u : ℕ) → IsWidth (length x) → IsWidth (length y) → joined op (length x) (length y) ≡ Some u
      → length (combined op x y) ≡ u
  pair-value op x y u h k e = value-fits (chain op (more (bits x) (more (bits y) none))) u (pair-width op x y u h k e)

  pub pair-is_width : (op : Op) (x y : List Bool) (u : ℕ) → IsWidth (length x) → IsWidth (length y) → joined op (length x) (length y)
      ≡ Some u → IsWidth u
  pair-is_width op x y u h k e = width-is_width ns ps (chain op (more (bits x) (more (bits y) none))) u (pair-width op x y u h k e)

  -- the first operand of a chain, and those after it
  pub chain-start : (op : Op) (t : Tree) (ts : Trees) → IsSome (chain_width ns ps op (more t ts)) → Fits names ports t
      × IsSome (width_on ns ps op (length (value (scope_of names ports) t)) ts)
  chain-start op t none h = absurd (cc)
  chain-start op t (more u ts) h =
      let w = some_width (chain_width ns ps op (more t (more u ts))) h in
      let a = some_before (width ns ps t) (λ x. width_on ns ps op x (more u ts)) w.0 w.1 in (
        is_some (width ns ps t) a.0 a.1,
        subst (λ x. IsSome (width_on ns ps op x (more u ts))) (sym (value-fits t a.0 a.1))
            (is_some (width_on ns ps op a.0 (more u ts)) w.0 a.2),
      )

  -- one more operand
  pub record Step (op : Op) (x : List Bool) (t : Tree) (ts : Trees) : Type 0 where
    pub fits : Fits names ports t
    pub joins : (u : ℕ) × (joined op (length x) (length (value (scope_of names ports) t)) ≡ Some u)
    pub rest : IsSome (width_on ns ps op (length (combined op x (value (scope_of names ports) t))) ts)
    pub is_width : IsWidth (length (combined op x (value (scope_of names ports) t)))

  pub chain-step : (op : Op) (x : List Bool) (t : Tree) (ts : Trees) → IsWidth (length x)
      → IsSome (width_on ns ps op (length x) (more t ts)) → Step op x t ts
  chain-step op x t ts k h =
      let w = some_width (width_on ns ps op (length x) (more t ts)) h in
      let a = some_before (width ns ps t) (λ v. option_and_then (λ u. width_on ns ps op u ts) (joined op (length x) v)) w.0 w.1 in
      let b = some_before (joined op (length x) a.0) (λ u. width_on ns ps op u ts) w.0 a.2 in
      let v = value (scope_of names ports) t in
      let j : joined op (length x) (length v) ≡ Some b.0 = ap (joined op (length x)) (value-fits t a.0 a.1) ∙ b.1 in
      let f = is_some (width ns ps t) a.0 a.1 in
      let l = pair-value op x v b.0 k (value-is_width t f) j in
      record {
        fits = f;
        joins = (b.0, j);
        rest = subst (λ n. IsSome (width_on ns ps op n ts)) (sym l) (is_some (width_on ns ps op b.0 ts) w.0 b.2);
        is_width = subst IsWidth (sym l) (pair-is_width op x v b.0 k (value-is_width t f) j);
      }
