-- A sound design has a run over inputs of the widths of its input ports.
use Rattle.std.proofs.Common.{◌≡◌, ℕ, suc, Bool, if◌then◌else◌, List, [], ◌∷◌, length, map, Some, refl, ap, ◌∙◌, subst, arith}
use Rattle.std.specs.Prelude.{All, slice_get}
use Rattle.opgen_num.specs.Words.{word}
use Rattle.opgen_num.specs.WordLaws.{length-word}
use Rattle.opgen_design.specs.declared.design.Design.{Design}
use Rattle.opgen_design.specs.declared.design.Dir.{Dir}
use Rattle.opgen_design.specs.declared.design.Dir.TheVariants.{In, Out}
use Rattle.opgen_design.specs.declared.design.Driver.{Driver}
use Rattle.opgen_design.specs.declared.design.Port.{Port}
use Rattle.opgen_design.specs.Run.{Words, Cycle, RunsOn, Run, AreWords, at_ports, is_in, input_widths, initial_words}
use Rattle.opgen_design.specs.Sound.{IsSound, WidthsAgree, signal_widths}
use Rattle.opgen_runs.specs.Evaluate.{HaveWidths, settle, hand_on, hand_all_on}
use Rattle.opgen_runs.specs.Registers.{SameRegisters}
use Rattle.opgen_runs.proofs.Cycles.{is-cycle}
use Rattle.opgen_runs.proofs.Orders.{has-order}
use Rattle.opgen_runs.proofs.Registers.{hand_on-widths}
use Rattle.opgen_runs.proofs.Kept.{cycle-kept}
use Rattle.opgen_runs.proofs.Starts.{start, starts-widths, starts-registers}
use Rattle.opgen_runs.proofs.Widths.{agree-at, settle-widths}

-- words of the ports, with these at the input ports
abbrev input_widths_of : List Port → List ℕ
input_widths_of ps = at_ports is_in ps (map (λ p. p.width) ps)

abbrev Filled : List Port → List (List Bool) → Type 0
Filled ps given = (ws : List (List Bool)) × (map length ws ≡ map (λ p. p.width) ps) × (at_ports is_in ps ws ≡ given)

fill-one : (b : Dir) (w : ℕ) (ps : List Port) → ((given : List (List Bool)) → map length given ≡ input_widths_of ps → Filled ps given)
    → (given : List (List Bool)) → map length given ≡ (if is_in b then w ∷ input_widths_of ps else input_widths_of ps)
    → (x : List Bool) × (xs : List (List Bool)) × (length x ≡ w) × (map length xs ≡ map (λ p. p.width) ps)
    × ((if is_in b then x ∷ at_ports is_in ps xs else at_ports is_in ps xs) ≡ given)
fill-one In w ps rest [] e = absurd (cc)
fill-one In w ps rest (g ∷ given) e =
    let here : length g ≡ w = cc in
    let there : map length given ≡ input_widths_of ps = cc in
    let r = rest given there in
    (g, r.0, here, r.1, ap (λ xs. g ∷ xs) r.2)
fill-one Out w ps rest given e = let r = rest given e in (word w 0, r.0, length-word w 0, r.1, r.2)

filled : (ps : List Port) (given : List (List Bool)) → map length given ≡ input_widths_of ps → Filled ps given
filled [] [] e = ([], refl, refl)
filled [] (g ∷ given) e = absurd (cc)
filled (p ∷ ps) given e =
    let r = fill-one p.dir p.width ps (filled ps) given e in
    (r.0 ∷ r.1, ap (λ n. n ∷ map length r.1) r.2 ∙ ap (λ ns. p.width ∷ ns) r.3, r.4)

-- a run asks of the words before it only those of the registers
pub run-kept : (d : Design) (inputs : List (List (List Bool))) (now others : List (List Bool)) (vs : List Words)
    → SameRegisters d now others → RunsOn d now inputs vs → RunsOn d others inputs vs
run-kept d [] now others [] same h = tt
run-kept d [] now others (v ∷ vs) same h = absurd h
run-kept d (given ∷ inputs) now others [] same h = absurd h
run-kept d (given ∷ inputs) now others (v ∷ vs) same h = (h.0, cycle-kept d now others same given v h.0 h.1, h.2)

module _ (d : Design) (sound : IsSound d) where
  handed-widths : (v : Words) → HaveWidths d v → (ks : List Driver) → ((i : ℕ) (k : Driver) → slice_get ks i ≡ Some k → WidthsAgree d k)
      → (next : List (List Bool)) → map length next ≡ signal_widths d → map length (hand_all_on d.enable ks v next) ≡ signal_widths d
  handed-widths v h [] agree next n = n
  handed-widths v h (k ∷ ks) agree next n = handed-widths v h ks (λ i m e. agree (suc i) m e) (hand_on d.enable k v next)
      (hand_on-widths d sound v h k next (agree 0 k refl) n)

  a-cycle : (now given : List (List Bool)) → map length now ≡ signal_widths d → AreWords (input_widths d) given → (v : Words)
      × (next : List (List Bool)) × Cycle d now given v next × (map length next ≡ signal_widths d)
  a-cycle now given n e =
      let o = has-order d sound.ordered in
      let f = filled d.ports given e in
      let before : Words = record { signals = now; ports = f.0 } in
      let h : HaveWidths d before = record { signals = n; ports = f.1 } in
      let v = settle d.drivers o.0 before in
      let next = hand_all_on d.enable d.drivers v now in (
        v,
        next,
        subst (λ ws. Cycle d now ws v next) f.2 (is-cycle d sound o.0 o.1 before h now n),
        handed-widths v (settle-widths d sound o.0 before h) d.drivers (agree-at d sound) now n,
      )

  cycles : (inputs : List (List (List Bool))) → All (AreWords (input_widths d)) inputs → (now : List (List Bool)) → map length now
      ≡ signal_widths d → (vs : List Words) × RunsOn d now inputs vs
  cycles [] words now n = ([], tt)
  cycles (given ∷ inputs) words now n =
      let c = a-cycle now given n (words 0 given (omega arith)) in
      let more = cycles inputs (λ i x l. words (suc i) x (omega (arith, l))) c.1 c.3 in
      (c.0 ∷ more.0, (c.1, c.2, more.1))

  pub a-run : (inputs : List (List (List Bool))) → All (AreWords (input_widths d)) inputs → (vs : List Words) × Run d inputs vs
  a-run inputs words =
      let r = cycles inputs words (map start d.signals) (starts-widths d sound) in
      (r.0, run-kept d inputs (map start d.signals) (initial_words d.signals) r.0 (starts-registers d sound) r.1)
