-- The program of a design runs its cycles.
use Rattle.std.proofs.Common.{◌≡◌, ℕ, zero, suc, ◌+◌, ◌^◌, ◌<◌, ◌≤◌, Bool, true, false, if◌then◌else◌, List, [], ◌∷◌, length, map, take, get_or, Some, refl, sym, ap, ◌∙◌, subst, arith}
use Rattle.std.specs.Prelude.{All, slice_get}
use Rattle.std.proofs.lemmas.List.{get_or-take, length-map, length-take-le}
use Rattle.std.proofs.lemmas.Option.{slice_get-get_or, slice_get_within}
use Rattle.opgen_num.specs.Words.{nat, word, words_of}
use Rattle.opgen_num.specs.WordLaws.{nat-word}
use Rattle.opgen_design.specs.declared.design.Design.{Design}
use Rattle.opgen_design.specs.declared.design.Dir.{Dir}
use Rattle.opgen_design.specs.declared.design.Port.{Port}
use Rattle.opgen_design.specs.Order.{IsOrderOf}
use Rattle.opgen_design.specs.Run.{Cycle, Words, at_ports, is_in, is_out}
use Rattle.opgen_design.specs.Sound.{IsSound, signal_widths, target}
use Rattle.opgen_runs.specs.Evaluate.{hand_all_on, settle}
use Rattle.opgen_runs.proofs.Cycles.{is-cycle}
use Rattle.opgen_runs.proofs.Equations.{placed}
use Rattle.opgen_machine.specs.declared.step.Step.{Step}
use Rattle.opgen_machine.specs.declared.step.Spot.{Spot}
use Rattle.opgen_machine.specs.Steps.{exec}
use Rattle.opgen_machine.specs.Programs.{Fit, Spots, seen, word_of}
use Rattle.opgen_machine.proofs.Exec.{exec-kept, exec-length}
use Rattle.opgen_machine.proofs.Gives.{fit-along, longer, seen-along}
use Rattle.opgen_machine.specs.declared.program.Program.{Program}
use Rattle.opgen_machine.specs.Laid.{IsFlat}
use Rattle.opgen_machine.specs.Layout.{first_spots, rest_of}
use Rattle.opgen_machine.specs.Machines.{IsProgramOf, IsState, RunsCycle, after, given, registers}
use Rattle.opgen_machine.specs.Moves.{FitFirst, HandsOn, move_all}
use Rattle.opgen_machine.specs.Settles.{Agrees, IsThere, Settles}
use Rattle.opgen_machine.proofs.First.{agrees-first, first-fit, fit-first, ports-kept, seen-signals, seen-widths, there-first}
use Rattle.opgen_machine.proofs.Handing.{length-moved, moved-kept}
use Rattle.opgen_machine.proofs.Laying.{all-laid-kept}

-- words of numbers that are the same
pub words-kept : (ws m k : List ℕ) → length ws ≤ length m → length ws ≤ length k → ((i : ℕ) → i < length ws → get_or m i 0 ≡ get_or k i 0)
    → words_of ws m ≡ words_of ws k
words-kept [] m k a b f = refl
words-kept (w ∷ ws) [] k a b f = absurd (omega (arith, a))
words-kept (w ∷ ws) (x ∷ m) [] a b f = absurd (omega (arith, b))
words-kept (w ∷ ws) (x ∷ m) (y ∷ k) a b f =
    ap (λ n. word w n ∷ words_of ws m) (f 0 (omega arith))
    ∙ ap (λ l. word w y ∷ l) (words-kept ws m k (omega (arith, a)) (omega (arith, b)) (λ i l. f (suc i) (omega (arith, l))))

-- the numbers of ports of a direction
at-spots : (M : List ℕ) (is : Dir → Bool) (ps : List Port) (spots : List Spot) → Fit M spots
    → map (λ i. get_or M i 0) (map (λ (s : Spot). s.place) (at_ports is ps spots)) ≡ map nat (at_ports is ps (map (word_of M) spots))
at-spots M is [] spots f = refl
at-spots M is (p ∷ ps) [] f = refl
at-spots M is (p ∷ ps) (s ∷ spots) f =
    by (is p.dir) (at-spots M is ps spots (λ i d l. f (suc i) d (omega (arith, l))))
    (nat-word s.width (get_or M s.place 0) (f 0 s (omega arith)))
  where
    by : (b : Bool) → map (λ i. get_or M i 0) (map (λ (s : Spot). s.place) (at_ports is ps spots)) ≡ map nat
        (at_ports is ps (map (word_of M) spots)) → nat (word_of M s) ≡ get_or M s.place 0
        → map (λ i. get_or M i 0) (map (λ (s : Spot). s.place) (if b then s ∷ at_ports is ps spots else at_ports is ps spots))
        ≡ map nat (if b then word_of M s ∷ at_ports is ps (map (word_of M) spots) else at_ports is ps (map (word_of M) spots))
    by true e n = ap (λ l. get_or M s.place 0 ∷ l) e ∙ ap (λ x. x ∷ map nat (at_ports is ps (map (word_of M) spots))) (sym n)
    by false e n = e

pub all-agree : (d : Design) → IsSound d → IsFlat d → All (Agrees (first_spots d)) d.drivers
all-agree d sound flat i x l = agrees-first d flat sound i (get_or d.drivers i x) (slice_get-get_or d.drivers i x l)

pub all-there : (d : Design) → IsSound d → IsFlat d → All (λ k. IsThere (first_spots d) (target k)) d.drivers
all-there d sound flat i x l = there-first d flat sound i (get_or d.drivers i x) (slice_get-get_or d.drivers i x l)

pub in-drivers : (d : Design) → IsSound d → (order : List ℕ) → IsOrderOf d order → (p i : ℕ) → slice_get order p ≡ Some i
    → i < length d.drivers
in-drivers d sound order o p i e = let k = placed d sound order o p i e in slice_get_within d.drivers i k.0 k.1

module _ (d : Design) (sound : IsSound d) (flat : IsFlat d) (order : List ℕ) (o : IsOrderOf d order) (base : ℕ)
    (behind : rest_of d < base) (tables : List ℕ) (spots : Spots) (mid : List Step) (p : Program)
    (s : Settles (rest_of d + 1) base d.drivers tables order (first_spots d) mid spots)
    (h : HandsOn base spots d.enable (signal_widths d) d.drivers mid p.steps.items p.moves.items)
    (outputs : p.outputs.items ≡ map (λ (x : Spot). x.place) (at_ports is_out d.ports spots.ports)) where
  abbrev ws : List ℕ
  ws = signal_widths d

  count : length ws ≡ length d.signals
  count = length-map d.signals (λ x. x.width)

  few : length ws ≤ base
  few = omega (arith, count, behind)

  module _ (m : List ℕ) (st : IsState d tables base m) where
    abbrev M : List ℕ
    M = exec p.steps.items m

    abbrev N : List ℕ
    N = move_all p.moves.items M

    abbrev v0 : Words
    v0 = seen m (first_spots d)

    abbrev W : Words
    W = settle d.drivers order v0

    long : base ≤ length M
    long = omega (arith, exec-length p.steps.items m, st.count)

    fit-all : Fit M spots.signals × Fit M spots.ports
    fit-all = fit-along base spots mid p.steps.items s.are h.extends m st.count (s.fit m st.count st.laid st.fit)

    settled : seen M spots ≡ W
    settled = seen-along base spots mid p.steps.items s.are h.extends m st.count ∙ s.settled m st.count st.laid st.fit

    front : (i : ℕ) → i < base → get_or M i 0 ≡ get_or m i 0
    front i l = exec-kept p.steps.items m i (omega (arith, l, st.count))

    same-words : words_of ws M ≡ words_of ws m
    same-words = words-kept ws M m (omega (arith, few, long)) (omega (arith, few, st.count)) (λ i l. front i (omega (arith, l, few)))

    next : registers d N ≡ hand_all_on d.enable d.drivers W (registers d m)
    next =
        h.words m M st.count fit-all (λ i a b. refl) long
        ∙ ap (λ v. hand_all_on d.enable d.drivers v (words_of ws M)) settled
        ∙ ap (hand_all_on d.enable d.drivers W) same-words

    is-registers : v0.signals ≡ registers d m
    is-registers = seen-signals d m (omega (arith, st.count, behind))

    whole : Cycle d v0.signals (at_ports is_in d.ports v0.ports) W (hand_all_on d.enable d.drivers W (registers d m))
    whole = is-cycle d sound order o v0 (seen-widths d m) (registers d m) (ap (map length) (sym is-registers) ∙ (seen-widths d m).signals)

    cycle : Cycle d (registers d m) (given d m) W (registers d (after p m))
    cycle = subst (λ now. Cycle d now (given d m) W (registers d N)) is-registers
        (subst (Cycle d v0.signals (given d m) W) (sym next) whole)

    given-out : map (λ i. get_or M i 0) p.outputs.items ≡ map nat (at_ports is_out d.ports W.ports)
    given-out = ap (map (λ i. get_or M i 0)) outputs ∙ at-spots M is_out d.ports spots.ports fit-all.1
        ∙ ap (λ (v : Words). map nat (at_ports is_out d.ports v.ports)) settled

    moved : (i : ℕ) → length d.signals ≤ i → i < base → get_or (take base N) i 0 ≡ get_or m i 0
    moved i a b =
        get_or-take base N i 0 b
        ∙ moved-kept (length ws) base (base + length p.steps.items) p.moves.items M i h.bounded (omega (arith, a, count))
        ∙ front i b

    state : IsState d tables base (take base N)
    state =
        let n : length N ≡ length M = length-moved p.moves.items M in
        let k : length (take base N) ≡ base = length-take-le base N (omega (arith, n, long)) in
        let old = first-fit m ws st.fit.0 in
        let old' : FitFirst ws M = λ i l. subst (λ x. x < 2 ^ get_or ws i 0) (sym (front i (omega (arith, l, few)))) (old i l) in
        let new = h.fit m M st.count fit-all (λ i a b. refl) old' in
        record {
          count = k;
          fit = (
            fit-first (take base N) ws (λ i l. subst (λ x. x < 2 ^ get_or ws i 0) (sym (get_or-take base N i 0 (omega (arith, l, few))))
                (new i l)),
            ports-kept d flat m (take base N) (λ i a b. moved i a (omega (arith, b, behind))) st.fit.1,
          );
          laid = all-laid-kept (rest_of d + 1) m (take base N) (omega (arith, k, st.count))
              (λ i a b. moved i (omega (arith, a)) (omega (arith, b, st.count))) d.drivers tables st.laid;
        }

    runs : RunsCycle d tables base p m
    runs = record { words = W; cycle = cycle; outputs = given-out; state = state }

  low-moves : (i : ℕ) (x : ℕ) → x < length ws → x < base
  low-moves i x l = omega (arith, l, few)

  places-below : (ps : List Port) (xs : List Spot) → All (λ (x : Spot). (x.place < base + length mid) × (x.width ≤ 64)) xs
      → All (λ i. i < base + length p.steps.items) (map (λ (x : Spot). x.place) (at_ports is_out ps xs))
  places-below [] xs f = λ i x l. absurd (omega (arith, l))
  places-below (q ∷ ps) [] f = λ i x l. absurd (omega (arith, l))
  places-below (q ∷ ps) (x ∷ xs) f = by (is_out q.dir) (places-below ps xs (λ i y l. f (suc i) y (omega (arith, l))))
      (omega (arith, (f 0 x (omega arith)).0, longer mid p.steps.items h.extends))
    where
      by : (b : Bool) → All (λ i. i < base + length p.steps.items) (map (λ (x : Spot). x.place) (at_ports is_out ps xs))
          → x.place < base + length p.steps.items
          → All (λ i. i < base + length p.steps.items)
          (map (λ (x : Spot). x.place) (if b then x ∷ at_ports is_out ps xs else at_ports is_out ps xs))
      by true g l zero y j = l
      by true g l (suc i) y j = g i y (omega (arith, j))
      by false g l i y j = g i y j

  pub program-of : IsProgramOf d tables base p
  program-of = record {
    ready = record {
      fine = h.fine;
      moves = λ i x l. let a = h.bounded i x l in (omega (arith, a.0, few), a.1, a.2);
      outputs = subst (All (λ i. i < base + length p.steps.items)) (sym outputs) (places-below d.ports spots.ports s.are.1);
    };
    cycles = runs;
  }
