-- The words of cycles at an only port.
use Rattle.std.proofs.Common.{◌≡◌, ℕ, ◌%◌, ◌^◌, ◌<◌, ◌≤◌, List, [], ◌∷◌, length, take, subst, sym, arith}
use Rattle.std.specs.Prelude.{All}
use Rattle.std.proofs.lemmas.List.{get_or-take, length-take-le}
use Rattle.opgen_ports.specs.declared.ports.PortFormat.{PortFormat}
use Rattle.opgen_ports.specs.Ports.{format_at, IsHistory}

pub one_history : (ports : List PortFormat) (n : ℕ) (words : List ℕ) → length ports ≡ 1 → 0 < n → n ≤ length words
    → All (λ x. x < 2 ^ (format_at ports 0).width) words → IsHistory ports (take n words)
one_history [] n words one some few fit = absurd (omega (arith, one))
one_history (p ∷ []) n words one some few fit =
    let long : length (take n words) ≡ n = length-take-le n words few in
    record {
      some = omega (arith, long, some);
      whole = omega arith;
      fit = λ k below.
          let here : k < n = omega (arith, below, long) in
          let first : k % 1 ≡ 0 = omega arith in
          let small = fit k 0 (omega (arith, here, few)) in
          rw first (subst (λ (x : ℕ). x < 2 ^ p.format.width) (sym (get_or-take n words k 0 here)) small);
    }
one_history (p ∷ q ∷ ps) n words one some few fit = absurd (omega (arith, one))
