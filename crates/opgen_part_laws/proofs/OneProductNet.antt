-- A product leaves one net.
use Rattle.std.proofs.Common.{◌≡◌, ℕ, zero, suc, ◌≤◌, sym, ap, ◌∙◌, arith}
use Rattle.opgen_mult.specs.OneNet.{HasOneNet}
use Rattle.opgen_mult.specs.Recipe.{bits_below, IsLeftOut, net_without}

one_cut : (m n below c d : ℕ) → IsLeftOut m n below c → IsLeftOut m n below d → c ≡ d
one_cut m n zero c d h g = h ∙ sym g
one_cut m n (suc below) c d h g =
    let up : c ≤ d = g.2 c h.0 h.1 in
    let down : d ≤ c = h.2 d g.0 g.1 in
    omega (arith, up, down)

pub one-net : HasOneNet
one-net p x y h g =
    h.made ∙ ap (net_without p) (one_cut p.a.width p.b.width (bits_below p) h.left_out g.left_out h.greatest g.greatest) ∙ sym g.made
