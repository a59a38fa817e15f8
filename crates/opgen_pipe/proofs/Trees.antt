-- Expressions over the signals that a cycle reads: their values, widths and what they read.
use Rattle.std.proofs.Common.{◌≡◌, ℕ, ◌+◌, ◌-◌, Bool, List, [], length, map, take, drop, Option, Some, None, refl, sym, ap, ◌∙◌, arith}
use Rattle.std.specs.Prelude.{not, ◌&&◌, nat_eq, nat_le, nat_lt, if◌then◌else◌, option_and_then, slice_get}
use Rattle.std.proofs.lemmas.Bool.{cond_both, and_parts, eqb-true}
use Rattle.std.proofs.lemmas.List.{take_all}
use Rattle.opgen_design.specs.declared.expr.Op.{Op}
use Rattle.opgen_design.specs.Tree.{Tree, Trees, name, part, bits, port, inverse, chain, none, more}
use Rattle.opgen_design.specs.Value.{Scope, cut, combined, value, chain_value, value_on, as_width, joined, width, chain_width, width_on}
use Rattle.opgen_design.specs.Sound.{AllReads, AllOperandsRead}
use Rattle.opgen_design.proofs.WidthLaws.{as_width-of, some_before, part_fits}
use Rattle.opgen_pipe.specs.declared.standing.Standing.{Standing}
use Rattle.opgen_pipe.specs.Standings.{standing_at}
use Rattle.opgen_pipe.specs.Reading.{read_in, part_in, tree_in, trees_in}

abbrev pub NoPorts : ℕ → Type 0
NoPorts _ = ⊥

module _ (ps : List Standing) (c : ℕ) where
  -- a part is read by name only where it is the whole
  pub part_cases : (T : Tree → Type 0) (n high low : ℕ) → (low ≡ 0 → high + 1 ≡ (standing_at ps n).width → T (name (read_in ps c n)))
      → T (part (read_in ps c n) high low)
      → T (part_in ps c n high low)
  part_cases T n high low whole other =
      cond_both (nat_eq low 0 && nat_eq (high + 1) (standing_at ps n).width) (name (read_in ps c n)) (part (read_in ps c n) high low) T
      (
      λ b.
      let both = and_parts (nat_eq low 0) (nat_eq (high + 1) (standing_at ps n).width) b in
      whole (eqb-true low 0 both.0) (eqb-true (high + 1) (standing_at ps n).width both.1)
      )
      (λ b. other)

  -- the values of an expression: where each signal that is read has the word of its node, of the node's width
  module _ (s r : Scope) where
    abbrev pub HasWord : ℕ → Type 0
    HasWord n = (s.names (read_in ps c n) ≡ r.names n) × (length (r.names n) ≡ (standing_at ps n).width)

    pub part-value : (n high low : ℕ) → HasWord n → value s (part_in ps c n high low) ≡ cut high low (r.names n)
    part-value n high low h =
        part_cases (λ t. value s t ≡ cut high low (r.names n)) n high low
        (
        λ bottom top.
        h.0 ∙ sym (ap (λ l. take (high + 1 - l) (drop l (r.names n))) bottom
        ∙ take_all (high + 1 - 0) (r.names n) (omega (arith, top, h.1)))
        )
        (ap (cut high low) h.0)

    mutual
      pub tree-value : (t : Tree) → AllReads HasWord NoPorts t → value s (tree_in ps c t) ≡ value r t
      tree-value (name n) h = h.0
      tree-value (part n high low) h = part-value n high low h
      tree-value (bits w) h = refl
      tree-value (port p) h = absurd h
      tree-value (inverse t) h = ap (map not) (tree-value t h)
      tree-value (chain op ts) h = chain-value op ts h

      chain-value : (op : Op) (ts : Trees) → AllOperandsRead HasWord NoPorts ts → chain_value s op (trees_in ps c ts) ≡ chain_value r op ts
      chain-value op none h = refl
      chain-value op (more t ts) h = ap (λ w. value_on s op w (trees_in ps c ts)) (tree-value t h.0) ∙ on-value op (value r t) ts h.1

      on-value : (op : Op) (w : List Bool) (ts : Trees) → AllOperandsRead HasWord NoPorts ts → value_on s op w (trees_in ps c ts)
          ≡ value_on r op w ts
      on-value op w none h = refl
      on-value op w (more t ts) h =
          ap (λ v. value_on s op (combined op w v) (trees_in ps c ts)) (tree-value t h.0) ∙ on-value op (combined op w (value r t)) ts h.1

  -- the widths: where each signal that is read has the width of its node
  module _ (ns ms qs : List ℕ) where
    abbrev pub HasWidthOf : ℕ → Type 0
    HasWidthOf n = (w : ℕ) → slice_get ns n ≡ Some w → (slice_get ms (read_in ps c n) ≡ Some w) × ((standing_at ps n).width ≡ w)

    abbrev width_of_part : (high low : ℕ) → ℕ → Option ℕ
    width_of_part high low w = if nat_le low high && nat_lt high w then as_width (high + 1 - low) else None

    pub part-width : (n high low w : ℕ) → HasWidthOf n → width ns [] (part n high low) ≡ Some w → width ms qs (part_in ps c n high low)
        ≡ Some w
    part-width n high low w h e =
        let f : ℕ → Option ℕ = λ v. if nat_le low high && nat_lt high v then as_width (high + 1 - low) else None in
        let a = some_before (slice_get ns n) f w e in
        let g = h a.0 a.1 in
        let fits = part_fits high low a.0 w a.2 in
        part_cases (λ t. width ms qs t ≡ Some w) n high low
        (
        λ bottom top.
        let same : a.0 ≡ w = omega (arith, g.1, top, bottom, fits.width) in
        ap (option_and_then as_width) g.0 ∙ ap as_width same ∙ as_width-of w fits.is_width
        )
        (ap (option_and_then f) g.0 ∙ a.2)

    mutual
      pub tree-width : (t : Tree) (w : ℕ) → AllReads HasWidthOf NoPorts t → width ns [] t ≡ Some w → width ms qs (tree_in ps c t) ≡ Some w
      tree-width (name n) w h e =
          let a = some_before (slice_get ns n) as_width w e in
          ap (option_and_then as_width) (h a.0 a.1).0 ∙ a.2
      tree-width (part n high low) w h e = part-width n high low w h e
      tree-width (bits v) w h e = e
      tree-width (port p) w h e = absurd h
      tree-width (inverse t) w h e = tree-width t w h e
      tree-width (chain op ts) w h e = chain-width op ts w h e

      chain-width : (op : Op) (ts : Trees) (w : ℕ) → AllOperandsRead HasWidthOf NoPorts ts → chain_width ns [] op ts ≡ Some w
          → chain_width ms qs op (trees_in ps c ts) ≡ Some w
      chain-width op none w h e = absurd (cc)
      chain-width op (more t none) w h e = absurd (cc)
      chain-width op (more t (more u ts)) w h e =
          let a = some_before (width ns [] t) (λ x. width_on ns [] op x (more u ts)) w e in
          ap (option_and_then (λ x. width_on ms qs op x (trees_in ps c (more u ts)))) (tree-width t a.0 h.0 a.1)
          ∙ on-width op a.0 (more u ts) w h.1 a.2

      on-width : (op : Op) (v : ℕ) (ts : Trees) (w : ℕ) → AllOperandsRead HasWidthOf NoPorts ts → width_on ns [] op v ts ≡ Some w
          → width_on ms qs op v (trees_in ps c ts) ≡ Some w
      on-width op v none w h e = e
      on-width op v (more t ts) w h e =
          let a = some_before (width ns [] t) (λ x. option_and_then (λ u. width_on ns [] op u ts) (joined op v x)) w e in
          let b = some_before (joined op v a.0) (λ u. width_on ns [] op u ts) w a.2 in
          ap (option_and_then (λ x. option_and_then (λ u. width_on ms qs op u (trees_in ps c ts)) (joined op v x)))
          (tree-width t a.0 h.0 a.1)
          ∙ ap (option_and_then (λ u. width_on ms qs op u (trees_in ps c ts))) b.1
          ∙ on-width op b.0 ts w h.1 b.2

  -- what is read
  module _ (P Q : ℕ → Type 0) where
    pub part-reads : (n high low : ℕ) → P (read_in ps c n) → AllReads P Q (part_in ps c n high low)
    part-reads n high low h = part_cases (AllReads P Q) n high low (λ b t. h) h

    mutual
      pub tree-reads : (t : Tree) → AllReads (λ n. P (read_in ps c n)) Q t → AllReads P Q (tree_in ps c t)
      tree-reads (name n) h = h
      tree-reads (part n high low) h = part-reads n high low h
      tree-reads (bits w) h = tt
      tree-reads (port p) h = h
      tree-reads (inverse t) h = tree-reads t h
      tree-reads (chain op ts) h = trees-read ts h

      trees-read : (ts : Trees) → AllOperandsRead (λ n. P (read_in ps c n)) Q ts → AllOperandsRead P Q (trees_in ps c ts)
      trees-read none h = tt
      trees-read (more t ts) h = (tree-reads t h.0, trees-read ts h.1)
