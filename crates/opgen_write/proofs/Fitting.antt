-- The expressions of a sound, shaped design can be written.
use Rattle.std.proofs.Common.{◌≡◌, ℕ, ◌+◌, ◌-◌, ◌<◌, ◌≤◌, ◌&&◌, nat_le, nat_lt, if◌then◌else◌, length, slice_get, Some, None, option_and_then, arith}
use Rattle.opgen_num.specs.declared.format.TheConstants.{MAX_WIDTH}
use Rattle.opgen_design.specs.declared.design.Design.{Design}
use Rattle.opgen_design.specs.declared.expr.Op.{Op}
use Rattle.opgen_design.specs.Tree as tree
use Rattle.opgen_design.specs.Tree.{Tree, Trees}
use Rattle.opgen_design.specs.Sound.{AllReads, AllOperandsRead, signal_widths, port_widths}
use Rattle.opgen_design.specs.Value.{as_width, joined, width, chain_width, width_on}
use Rattle.opgen_design.proofs.WidthLaws.{some_before, as_width-some, part_fits}
use Rattle.opgen_vhdl.specs.Shaped.{HasFullChains, HaveFullChains}
use Rattle.opgen_write.proofs.Expressions.{Fits, FitAll}

module _ (d : Design) (short : (s w : ℕ) → slice_get (signal_widths d) s ≡ Some w → w ≤ MAX_WIDTH) where
  mutual
    -- an expression of some width, over signals and ports that are there, whose chains are full
    pub fits : (t : Tree) (w : ℕ) → AllReads (λ s. s < length d.signals) (λ p. p < length d.ports) t → HasFullChains t
        → width (signal_widths d) (port_widths d) t ≡ Some w → Fits d t
    fits (tree.name s) w r c h = r
    fits (tree.part s high low) w r c h =
        let a = some_before (slice_get (signal_widths d) s) (λ v. if nat_le low high && nat_lt high v then as_width (high + 1 - low)
        else None) w h in
        let p = part_fits high low a.0 w a.2 in
        let most = short s a.0 a.1 in
        (r, omega (arith, p.within, most), omega (arith, p.in_order, p.within, most))
    fits (tree.bits v) w r c h =
        let a = as_width-some (length v) w h in
        (omega (arith, a.0, a.1.0), omega (arith, a.0, a.1.1))
    fits (tree.port p) w r c h = r
    fits (tree.inverse t) w r c h = fits t w r c h
    fits (tree.chain o ts) w r c h = (c.0, fit_chain o ts w r c.1 h)

    fit_chain : (o : Op) (ts : Trees) (w : ℕ) → AllOperandsRead (λ s. s < length d.signals) (λ p. p < length d.ports) ts → HaveFullChains ts
        → chain_width (signal_widths d) (port_widths d) o ts ≡ Some w → FitAll d ts
    fit_chain o tree.none w r c h = absurd cc
    fit_chain o (tree.more t tree.none) w r c h = absurd cc
    fit_chain o (tree.more t (tree.more u ts)) w r c h =
        let a = some_before (width (signal_widths d) (port_widths d) t)
        (λ x. width_on (signal_widths d) (port_widths d) o x (tree.more u ts)) w h in
        (fits t a.0 r.0 c.0 a.1, fit_on o a.0 (tree.more u ts) w r.1 c.1 a.2)

    fit_on : (o : Op) (x : ℕ) (ts : Trees) (w : ℕ) → AllOperandsRead (λ s. s < length d.signals) (λ p. p < length d.ports) ts
        → HaveFullChains ts
        → width_on (signal_widths d) (port_widths d) o x ts ≡ Some w → FitAll d ts
    fit_on o x tree.none w r c h = tt
    fit_on o x (tree.more t ts) w r c h =
        let a = some_before (width (signal_widths d) (port_widths d) t)
        (λ v. option_and_then (λ u. width_on (signal_widths d) (port_widths d) o u ts) (joined o x v)) w h in
        let b = some_before (joined o x a.0) (λ u. width_on (signal_widths d) (port_widths d) o u ts) w a.2 in
        (fits t a.0 r.0 c.0 a.1, fit_on o b.0 ts w r.1 c.1 b.2)
