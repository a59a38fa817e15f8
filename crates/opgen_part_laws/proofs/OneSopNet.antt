-- A sum of products leaves one net.
use Rattle.std.proofs.Common.{◌≡◌, ℕ, ◌≤◌, sym, ap, ◌∙◌, arith}
use Rattle.opgen_sop.specs.OneNet.{HasOneNetOfSop}
use Rattle.opgen_sop.specs.Recipe.{net_with}

pub one-net : HasOneNetOfSop
one-net s x y h g =
    let up : h.guard ≤ g.guard = h.least.least g.guard g.least.enough in
    let down : g.guard ≤ h.guard = g.least.least h.guard h.least.enough in
    let same : h.guard ≡ g.guard = omega (arith, up, down) in
    h.made ∙ ap (net_with s) same ∙ sym g.made
