-- The numbers of a machine with those of a cycle's inputs among them.
use Rattle.std.proofs.Common.{◌≡◌, ℕ, zero, suc, ◌+◌, ◌-◌, ◌^◌, ◌<◌, ◌≤◌, Bool, true, false, if◌then◌else◌, List, [], ◌∷◌, ◌++◌, length, map, take, drop, get_or, refl, sym, ap, ◌∙◌, subst, arith, length-append}
use Rattle.std.specs.Prelude.{All}
use Rattle.std.proofs.lemmas.List.{get_or_append_left, get_or-take, get_or-drop, length-drop, length-map, length-take-le}
use Rattle.std.proofs.Math.Nat.{pow-le-pow_right}
use Rattle.opgen_num.proofs.RowsOfCells.{length-cells}
use Rattle.opgen_num.specs.Words.{FitWidths, nat, word, words_of}
use Rattle.opgen_design.specs.declared.design.Design.{Design}
use Rattle.opgen_design.specs.declared.design.Port.{Port}
use Rattle.opgen_design.specs.Run.{Cycle, at_ports, input_widths, is_in, is_out, words_at_outputs}
use Rattle.opgen_design.specs.Sound.{port_widths, signal_widths}
use Rattle.opgen_runs.proofs.Starts.{at_ports-length}
use Rattle.opgen_machine.specs.Programs.{Fit, word_of}
use Rattle.opgen_machine.proofs.Exec.{exec-length}
use Rattle.opgen_machine.specs.declared.machine.Machine.{Machine}
use Rattle.opgen_machine.specs.declared.program.Program.{Program}
use Rattle.opgen_machine.specs.Layout.{port_spots, rest_of}
use Rattle.opgen_machine.specs.Machines.{HasStepped, IsMachineOf, IsProgramOf, IsReady, IsSameProgram, IsState, RunsCycle, after, given, registers, run_on, with_inputs}
use Rattle.opgen_machine.proofs.Beginning.{append-right}
use Rattle.opgen_machine.proofs.Compiled.{words-kept}
use Rattle.opgen_machine.proofs.First.{first-fit, fit-first}
use Rattle.opgen_machine.proofs.Handing.{length-moved}
use Rattle.opgen_machine.proofs.Laying.{all-laid-kept}

abbrev in_widths : List Port → List ℕ
in_widths ps = at_ports is_in ps (map (λ p. p.width) ps)

-- numbers that fit widths
fits-small : (ws ns : List ℕ) → All (λ w. w ≤ 64) ws → FitWidths ws ns → All (λ n. n < 2 ^ 64) ns
fits-small [] [] a h i d l = absurd (omega (arith, l))
fits-small [] (n ∷ ns) a h i d l = absurd h
fits-small (w ∷ ws) [] a h i d l = absurd h
fits-small (w ∷ ws) (n ∷ ns) a h zero d l =
    let most : 2 ^ w ≤ 2 ^ 64 = pow-le-pow_right {n = 2} (omega arith) {i = w} {j = 64} (a 0 w (omega arith)) in
    omega (arith, h.0, most)
fits-small (w ∷ ws) (n ∷ ns) a h (suc i) d l = fits-small ws ns (λ j e k. a (suc j) e (omega (arith, k))) h.1 i d (omega (arith, l))

narrow-inputs : (ps : List Port) → All (λ p. p.width ≤ 64) ps → All (λ w. w ≤ 64) (in_widths ps)
narrow-inputs [] h = λ i d l. absurd (omega (arith, l))
narrow-inputs (p ∷ ps) h = by (is_in p.dir) (h 0 p (omega arith)) (narrow-inputs ps (λ j e k. h (suc j) e (omega (arith, k))))
  where
    by : (b : Bool) → p.width ≤ 64 → All (λ w. w ≤ 64) (in_widths ps)
        → All (λ w. w ≤ 64) (if b then p.width ∷ in_widths ps else in_widths ps)
    by true n a zero d l = n
    by true n a (suc i) d l = a i d (omega (arith, l))
    by false n a i d l = a i d l

-- numbers at the spots of ports
abbrev Stand : List ℕ → ℕ → List ℕ → Type 0
Stand m at ns = (j : ℕ) → j < length ns → get_or m (at + j) 0 ≡ get_or ns j 0

stand-later : (m ns : List ℕ) (at n : ℕ) → Stand m at (n ∷ ns) → Stand m (at + 1) ns
stand-later m ns at n s j l = let e : at + 1 + j ≡ at + suc j = omega arith in ap (λ k. get_or m k 0) e ∙ s (suc j) (omega (arith, l))

stand-first : (m ns : List ℕ) (at n : ℕ) → Stand m at (n ∷ ns) → get_or m at 0 ≡ n
stand-first m ns at n s = let e : at ≡ at + 0 = omega arith in ap (λ k. get_or m k 0) e ∙ s 0 (omega arith)

ports-fit : (m k : List ℕ) (at rest : ℕ) (ps : List Port) (ns : List ℕ) → FitWidths (in_widths ps) ns → Stand k at ns
    → get_or k rest 0 ≡ get_or m rest 0 → Fit m (port_spots at rest ps) → Fit k (port_spots at rest ps)
ports-fit m k at rest [] ns f s r h = λ i d l. absurd (omega (arith, l))
ports-fit m k at rest (p ∷ ps) ns f s r h =
    by (is_in p.dir) ns f s h (λ xs. ports-fit m k (at + 1) rest ps xs) (λ xs. ports-fit m k at rest ps xs)
  where
    by : (b : Bool) (ns : List ℕ) → FitWidths (if b then p.width ∷ in_widths ps else in_widths ps) ns → Stand k at ns
        → Fit m (if b then record { place = at; width = p.width } ∷ port_spots (at + 1) rest ps else record
        { place = rest; width = p.width } ∷ port_spots at rest ps)
        → ((xs : List ℕ) → FitWidths (in_widths ps) xs → Stand k (at + 1) xs → get_or k rest 0 ≡ get_or m rest 0
        → Fit m (port_spots (at + 1) rest ps) → Fit k (port_spots (at + 1) rest ps))
        → ((xs : List ℕ) → FitWidths (in_widths ps) xs → Stand k at xs → get_or k rest 0 ≡ get_or m rest 0 → Fit m (port_spots at rest ps)
        → Fit k (port_spots at rest ps))
        → Fit k (if b then record { place = at; width = p.width } ∷ port_spots (at + 1) rest ps else record
        { place = rest; width = p.width } ∷ port_spots at rest ps)
    by true [] f s h more less i d l = absurd f
    by true (n ∷ ns) f s h more less zero d l = subst (λ x. x < 2 ^ p.width) (sym (stand-first k ns at n s)) f.0
    by true (n ∷ ns) f s h more less (suc i) d l = more ns f.1 (stand-later k ns at n s) r (λ j e q. h (suc j) e (omega (arith, q))) i d
        (omega (arith, l))
    by false ns f s h more less zero d l = subst (λ x. x < 2 ^ p.width) (sym r) (h 0 d (omega arith))
    by false ns f s h more less (suc i) d l = less ns f s r (λ j e q. h (suc j) e (omega (arith, q))) i d (omega (arith, l))

ports-given : (k : List ℕ) (at rest : ℕ) (ps : List Port) (ns : List ℕ) → FitWidths (in_widths ps) ns → Stand k at ns
    → at_ports is_in ps (map (word_of k) (port_spots at rest ps)) ≡ words_of (in_widths ps) ns
ports-given k at rest [] ns f s = refl
ports-given k at rest (p ∷ ps) ns f s =
    ap (λ l. at_ports is_in (p ∷ ps) (map (word_of k) l)) (split (is_in p.dir))
    ∙ by (is_in p.dir) ns f s (λ xs. ports-given k (at + 1) rest ps xs) (λ xs. ports-given k at rest ps xs)
  where
    split : (b : Bool) → (if b then record { place = at; width = p.width } ∷ port_spots (at + 1) rest ps else record
        { place = rest; width = p.width } ∷ port_spots at rest ps)
        ≡ record { place = if b then at else rest; width = p.width } ∷ (if b then port_spots (at + 1) rest ps else port_spots at rest ps)
    split true = refl
    split false = refl

    by : (b : Bool) (ns : List ℕ) → FitWidths (if b then p.width ∷ in_widths ps else in_widths ps) ns → Stand k at ns
        → ((xs : List ℕ) → FitWidths (in_widths ps) xs → Stand k (at + 1) xs
        → at_ports is_in ps (map (word_of k) (port_spots (at + 1) rest ps)) ≡ words_of (in_widths ps) xs)
        → ((xs : List ℕ) → FitWidths (in_widths ps) xs → Stand k at xs
        → at_ports is_in ps (map (word_of k) (port_spots at rest ps)) ≡ words_of (in_widths ps) xs)
        → (if b then word p.width (get_or k (if b then at else rest) 0) ∷ at_ports is_in ps
        (map (word_of k) (if b then port_spots (at + 1) rest ps else port_spots at rest ps)) else at_ports is_in ps
        (map (word_of k) (if b then port_spots (at + 1) rest ps else port_spots at rest ps)))
        ≡ words_of (if b then p.width ∷ in_widths ps else in_widths ps) ns
    by true [] f s more less = absurd f
    by true (n ∷ ns) f s more less = ap (λ x. word p.width x ∷ at_ports is_in ps (map (word_of k) (port_spots (at + 1) rest ps)))
        (stand-first k ns at n s) ∙ ap (λ l. word p.width n ∷ l) (more ns f.1 (stand-later k ns at n s))
    by false ns f s more less = less ns f s

module _ (d : Design) (c : Machine) (h : IsMachineOf d c) (ns : List ℕ) (f : FitWidths (input_widths d) ns) where
  abbrev ws : List ℕ
  ws = signal_widths d

  abbrev n : ℕ
  n = length d.signals

  abbrev mem : List ℕ
  mem = c.memory.items

  abbrev m0 : List ℕ
  m0 = take c.base mem

  abbrev m1 : List ℕ
  m1 = with_inputs c ns

  count : length ns ≡ length (input_widths d)
  count = length-cells (input_widths d) ns f

  wide : length ws ≡ n
  wide = length-map d.signals (λ s. s.width)

  long : c.base ≤ length mem
  long = omega (arith, h.can_run.room)

  front-length : length (take c.inputs mem) ≡ n
  front-length = omega (arith, length-take-le c.inputs mem (omega (arith, h.inputs, h.room, long)), h.inputs)

  both-length : length (take c.inputs mem ++ ns) ≡ n + length ns
  both-length = omega (arith, front-length, length-append (take c.inputs mem) ns)

  abbrev all : List ℕ
  all = take c.inputs mem ++ ns ++ drop (c.inputs + length ns) mem

  length-all : length all ≡ length mem
  length-all = omega (
    arith,
    both-length,
    length-append (take c.inputs mem ++ ns) (drop (c.inputs + length ns) mem),
    length-drop (c.inputs + length ns) mem,
    h.inputs,
    h.room,
    count,
    long,
  )

  length-m1 : length m1 ≡ c.base
  length-m1 = length-take-le c.base all (omega (arith, length-all, long))

  low : (i : ℕ) → i < n → get_or m1 i 0 ≡ get_or m0 i 0
  low i l =
      get_or-take c.base all i 0 (omega (arith, l, h.room))
      ∙ get_or_append_left (take c.inputs mem ++ ns) (drop (c.inputs + length ns) mem) 0 i (omega (arith, l, both-length))
      ∙ get_or_append_left (take c.inputs mem) ns 0 i (omega (arith, l, front-length))
      ∙ get_or-take c.inputs mem i 0 (omega (arith, l, h.inputs))
      ∙ sym (get_or-take c.base mem i 0 (omega (arith, l, h.room)))

  stand : Stand m1 n ns
  stand j l =
      let e : n + j ≡ length (take c.inputs mem) + j = omega (arith, front-length) in
      get_or-take c.base all (n + j) 0 (omega (arith, l, h.room, count))
      ∙ get_or_append_left (take c.inputs mem ++ ns) (drop (c.inputs + length ns) mem) 0 (n + j) (omega (arith, l, both-length))
      ∙ ap (λ k. get_or (take c.inputs mem ++ ns) k 0) e
      ∙ append-right (take c.inputs mem) ns j

  high : (i : ℕ) → rest_of d ≤ i → i < c.base → get_or m1 i 0 ≡ get_or m0 i 0
  high i a b =
      let j = i - (n + length ns) in
      let e : i ≡ length (take c.inputs mem ++ ns) + j = omega (arith, a, count, both-length) in
      let g : c.inputs + length ns + j ≡ i = omega (arith, a, count, h.inputs) in
      get_or-take c.base all i 0 b
      ∙ ap (λ k. get_or all k 0) e
      ∙ append-right (take c.inputs mem ++ ns) (drop (c.inputs + length ns) mem) j
      ∙ get_or-drop (c.inputs + length ns) mem j 0
      ∙ ap (λ k. get_or mem k 0) g
      ∙ sym (get_or-take c.base mem i 0 b)

  state1 : IsState d h.tables c.base m1
  state1 =
      let s = h.state in
      let old = first-fit m0 ws s.fit.0 in
      record {
        count = length-m1;
        fit = (
          fit-first m1 ws (λ i l. subst (λ x. x < 2 ^ get_or ws i 0) (sym (low i (omega (arith, l, wide)))) (old i l)),
          ports-fit m0 m1 n (rest_of d) d.ports ns f stand (high (rest_of d) (omega arith) h.room) s.fit.1,
        );
        laid = all-laid-kept (rest_of d + 1) m0 m1 (omega (arith, length-m1, s.count))
            (λ i a b. high i (omega (arith, a)) (omega (arith, b, s.count))) d.drivers h.tables s.laid;
      }

  runs : RunsCycle d h.tables c.base c.program m1
  runs = h.program.cycles m1 state1

  same-registers : registers d m1 ≡ registers d mem
  same-registers =
      words-kept ws m1 mem (omega (arith, length-m1, wide, h.room)) (omega (arith, long, wide, h.room))
      (λ i l. low i (omega (arith, l, wide)) ∙ get_or-take c.base mem i 0 (omega (arith, l, wide, h.room)))

  is-given : given d m1 ≡ words_of (input_widths d) ns
  is-given = ports-given m1 n (rest_of d) d.ports ns f stand

  pub small-inputs : All (λ x. x < 2 ^ 64) ns
  small-inputs = fits-small (input_widths d) ns (narrow-inputs d.ports h.flat.ports) f

  pub inputs-within : c.inputs + length ns ≤ c.base
  inputs-within = omega (arith, h.inputs, h.room, count)

  pub count-outputs : length c.program.outputs.items ≡ length (at_ports is_out d.ports (port_widths d))
  count-outputs =
      let v = runs.words in
      let ports : length v.ports ≡ length (port_widths d) = sym (length-map v.ports length) ∙ ap length runs.cycle.port_widths in
      sym (length-map c.program.outputs.items (λ i. get_or (run_on c.program m1) i 0))
      ∙ ap length runs.outputs
      ∙ length-map (words_at_outputs d v) nat
      ∙ at_ports-length is_out d.ports v.ports (port_widths d) ports

  pub stepped : (e : Machine) (outputs : List ℕ) → IsSameProgram c e → e.memory.items ≡ after c.program m1
      → outputs ≡ map (λ i. get_or (run_on c.program m1) i 0) c.program.outputs.items → HasStepped d c ns e outputs
  stepped e outputs same memory is =
      let p = c.program in
      let room : length (after p m1) ≡ c.base + length p.steps.items = length-moved p.moves.items (run_on p m1)
      ∙ exec-length p.steps.items m1 ∙ ap (λ k. k + length p.steps.items) length-m1 in
      let cycle = subst (λ now. Cycle d now (given d m1) runs.words (registers d (after p m1))) same-registers runs.cycle in
      let cycle' = subst (λ g. Cycle d (registers d mem) g runs.words (registers d (after p m1))) is-given cycle in
      record {
        machine = record {
          flat = h.flat;
          can_run = record {
            ready = subst (λ b. IsReady b e.program) (sym same.base) (subst (IsReady c.base) (sym same.program) h.can_run.ready);
            room = ap length memory ∙ room ∙ sym (ap (λ b. b + length p.steps.items) same.base)
                ∙ sym (ap (λ (q : Program). e.base + length q.steps.items) same.program);
          };
          inputs = same.inputs ∙ h.inputs;
          room = omega (arith, h.room, same.base);
          tables = h.tables;
          program = subst (λ b. IsProgramOf d h.tables b e.program) (sym same.base)
              (subst (IsProgramOf d h.tables c.base) (sym same.program) h.program);
          state = subst (λ b. IsState d h.tables b (take b e.memory.items)) (sym same.base)
              (subst (λ x. IsState d h.tables c.base (take c.base x)) (sym memory) runs.state);
        };
        step = record {
          words = runs.words;
          cycle = subst (λ x. Cycle d (registers d mem) (words_of (input_widths d) ns) runs.words (registers d x)) (sym memory) cycle';
          outputs_are = is ∙ runs.outputs;
        };
      }
