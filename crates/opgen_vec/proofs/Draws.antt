-- Draws one after another.
use Rattle.std.proofs.Common.{◌≡◌, ℕ, zero, suc, ◌+◌, ◌-◌, ◌*◌, ◌/◌, ◌^◌, ◌<◌, ◌≤◌, Bool, true, false, cond, Option, List, [], ◌∷◌, ◌++◌, length, map, take, drop, refl, sym, ap, ◌∙◌, subst, arith, append_assoc, append-nil, length-append}
use Rattle.std.proofs.Math.Nat.{mul-div_cancel_left, pow-le-pow_right}
use Rattle.std.proofs.lemmas.Nat.{shr_below}
use Rattle.std.specs.Prelude.{All, ◌&&◌, ◌==◌}
use Rattle.std.proofs.Math.Seq.{take-append_seam, drop-append_seam}
use Rattle.std.proofs.lemmas.List.{length-map}
use Rattle.std.proofs.lemmas.List.Elements.{All-head, All-tail}
use Rattle.opgen_num.specs.Words.{FitWidths, AreRowsOfCells}
use Rattle.opgen_ports.specs.declared.ports.PortFormat.{PortFormat}
use Rattle.opgen_vec.specs.Writing.{row_count}
use Rattle.opgen_vec.specs.Stimulus.{next, drawn, given, divides, draws_from, state_after, cycles_from}

length-draws : (divisor : Option ℕ) (place : ℕ) (ports : List PortFormat) (state : ℕ)
    → length (draws_from divisor place ports state) ≡ length ports
length-draws divisor place [] state = refl
length-draws divisor place (port ∷ ports) state = ap suc (length-draws divisor (place + 1) ports (next state))

length-cycles : (divisor : Option ℕ) (ports : List PortFormat) (cycles state : ℕ)
    → length (cycles_from divisor ports cycles state) ≡ length ports * cycles
length-cycles divisor ports zero state = omega arith
length-cycles divisor ports (suc cycles) state = omega (
  arith,
  length-append (draws_from divisor 0 ports state) (cycles_from divisor ports cycles (state_after ports state)),
  length-draws divisor 0 ports state,
  length-cycles divisor ports cycles (state_after ports state),
)

-- one more cycle
pub cycle_more : (divisor : Option ℕ) (ports : List PortFormat) (all cells new : List ℕ) (left state after : ℕ) → all
    ≡ cells ++ cycles_from divisor ports left state → 0 < left
    → new ≡ cells ++ draws_from divisor 0 ports state → after ≡ state_after ports state
    → all ≡ new ++ cycles_from divisor ports (left - 1) after
cycle_more divisor ports all cells new zero state after e some put is = absurd (omega (arith, some))
cycle_more divisor ports all cells new (suc left) state after e some put is =
    let less : suc left - 1 ≡ left = omega arith in
    let more = cycles_from divisor ports left (state_after ports state) in
    e ∙ sym (append_assoc cells (draws_from divisor 0 ports state) more)
    ∙ ap (λ xs. xs ++ more) (sym put)
    ∙ ap (λ z. new ++ cycles_from divisor ports left z) (sym is) ∙ ap (λ n. new ++ cycles_from divisor ports n after) (sym less)

-- the last cycle
pub all_drawn : (divisor : Option ℕ) (ports : List PortFormat) (cells : List ℕ) (cycles seed left state : ℕ)
    → cycles_from divisor ports cycles seed ≡ cells ++ cycles_from divisor ports left state → left ≤ 0
    → cycles_from divisor ports cycles seed ≡ cells
all_drawn divisor ports cells cycles seed left state e end =
    let none : left ≡ 0 = omega (arith, end) in e ∙ ap (λ n. cells ++ cycles_from divisor ports n state) none ∙ append-nil cells

-- the number of cells is a multiple of the ports
pub whole : (divisor : Option ℕ) (ports : List PortFormat) (cycles seed columns : ℕ) (cells : List ℕ) → columns ≡ length ports
    → cycles_from divisor ports cycles seed ≡ cells → columns * (length cells / columns) ≡ length cells
whole divisor ports cycles seed zero cells c e =
    let len : length cells ≡ 0 * cycles = ap length (sym e) ∙ length-cycles divisor ports cycles seed
    ∙ ap (λ n. n * cycles) (sym c) in omega (arith, len)
whole divisor ports cycles seed (suc m) cells c e =
    let len : length cells ≡ suc m * cycles = ap length (sym e) ∙ length-cycles divisor ports cycles seed
    ∙ ap (λ n. n * cycles) (sym c) in
    ap (λ n. suc m * (n / suc m)) len ∙ ap (λ n. suc m * n) (mul-div_cancel_left cycles (omega arith)) ∙ sym len

next_small : (state : ℕ) → next state < 2 ^ 64
next_small state = omega arith

-- the highest bits of a state fit their width
drawn_small : (width state : ℕ) → state < 2 ^ 64 → drawn width state < 2 ^ width
drawn_small width state small =
    let more : 64 ≤ width + (64 - width) = omega arith in
    let wide : 2 ^ 64 ≤ 2 ^ (width + (64 - width)) = pow-le-pow_right (omega arith) more in
    shr_below state width (64 - width) (omega (arith, small, wide))

given_small : (divides : Bool) (port : PortFormat) (state : ℕ) → 1 ≤ port.format.width → state < 2 ^ 64
    → given divides port state < 2 ^ port.format.width
given_small divides port state some small = go (divides && drawn port.format.width state == 0)
  where
    go : (b : Bool) → cond b 1 (drawn port.format.width state) < 2 ^ port.format.width
    go true = let wide : 2 ^ 1 ≤ 2 ^ port.format.width = pow-le-pow_right (omega arith) some in omega (arith, wide)
    go false = drawn_small port.format.width state small

abbrev widths_of : List PortFormat → List ℕ
widths_of ports = map (λ port. port.format.width) ports

row_fits : (divisor : Option ℕ) (place : ℕ) (ports : List PortFormat) (state : ℕ) → All (λ port. 1 ≤ port.format.width) ports
    → FitWidths (widths_of ports) (draws_from divisor place ports state)
row_fits divisor place [] state all = tt
row_fits divisor place (port ∷ ports) state all = (
  given_small (divides divisor place) port (next state) (All-head (λ port. 1 ≤ port.format.width) port ports all) (next_small state),
  row_fits divisor (place + 1) ports (next state) (All-tail (λ port. 1 ≤ port.format.width) port ports all),
)

pub rows_fit : (divisor : Option ℕ) (ports : List PortFormat) (cycles state : ℕ) → All (λ port. 1 ≤ port.format.width) ports
    → AreRowsOfCells (widths_of ports) cycles (cycles_from divisor ports cycles state)
rows_fit divisor ports zero state all = refl
rows_fit divisor ports (suc cycles) state all =
    let row = draws_from divisor 0 ports state in
    let later = cycles_from divisor ports cycles (state_after ports state) in
    let n : length (widths_of ports) ≡ length row = length-map ports (λ port. port.format.width) ∙ sym (length-draws divisor 0 ports state) in
    let first : take (length (widths_of ports)) (row ++ later) ≡ row =
    ap (λ k. take k (row ++ later)) n ∙ take-append_seam row later in
    let rest : drop (length (widths_of ports)) (row ++ later) ≡ later =
    ap (λ k. drop k (row ++ later)) n ∙ drop-append_seam row later in (
      subst (FitWidths (widths_of ports)) (sym first) (row_fits divisor 0 ports state all),
      subst (AreRowsOfCells (widths_of ports) cycles) (sym rest) (rows_fit divisor ports cycles (state_after ports state) all),
    )

pub rows_counted : (divisor : Option ℕ) (ports : List PortFormat) (cycles seed columns : ℕ) (cells : List ℕ) → columns ≡ length ports
    → 0 < length ports → cycles_from divisor ports cycles seed ≡ cells → row_count columns cells ≡ cycles
rows_counted divisor ports cycles seed zero cells c some e = absurd (omega (arith, c, some))
rows_counted divisor ports cycles seed (suc m) cells c some e =
    let len : length cells ≡ suc m * cycles = ap length (sym e) ∙ length-cycles divisor ports cycles seed
    ∙ ap (λ n. n * cycles) (sym c) in
    ap (λ n. n / suc m) len ∙ mul-div_cancel_left cycles (omega arith)
