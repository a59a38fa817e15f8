-- The words of a design before a cycle, among the numbers of a machine.
use Rattle.std.proofs.Common.{◌≡◌, ℕ, zero, suc, ◌+◌, ◌^◌, ◌<◌, ◌≤◌, Bool, true, false, if◌then◌else◌, List, [], ◌∷◌, length, map, drop, get_or, Option, Some, None, refl, sym, ap, ◌∙◌, subst, arith}
use Rattle.std.specs.Prelude.{All, IfSome, option_and_then, option_map, slice_get}
use Rattle.std.proofs.lemmas.List.{drop_more, length-map}
use Rattle.std.proofs.lemmas.Nat.{pow_pos}
use Rattle.std.proofs.lemmas.Option.{slice_get-map, slice_get-get_or, slice_get_within}
use Rattle.opgen_num.specs.Words.{word, words_of}
use Rattle.opgen_num.specs.WordLaws.{length-word}
use Rattle.opgen_design.specs.declared.design.Design.{Design}
use Rattle.opgen_design.specs.declared.design.Driver.{Driver}
use Rattle.opgen_design.specs.declared.design.Driver.TheVariants.{Assign, Choice, Table, Register, Output}
use Rattle.opgen_design.specs.declared.design.Port.{Port}
use Rattle.opgen_design.specs.declared.design.Signal.{Signal}
use Rattle.opgen_design.specs.Run.{at_ports, is_in}
use Rattle.opgen_design.specs.declared.design.Target.{Target}
use Rattle.opgen_design.specs.declared.design.Target.TheVariants.{Signal as signal, Port as port_of}
use Rattle.opgen_design.specs.declared.sound.Rule.TheVariants.{BadEnable, Width}
use Rattle.opgen_design.specs.Sound.{IsSound, HasWidth, target, Names, PortPasses, SignalPasses, at_design, at_port, at_signal, signal_widths, port_widths}
use Rattle.opgen_design.specs.Tree.{Tree, port}
use Rattle.opgen_design.specs.Value.{IsWidth, as_width, width}
use Rattle.opgen_design.proofs.SoundLaws.{declared-at}
use Rattle.opgen_design.proofs.WidthLaws.{as_width-of}
use Rattle.opgen_design.proofs.NameWalk.{some-item}
use Rattle.opgen_runs.specs.Evaluate.{HaveWidths}
use Rattle.opgen_runs.proofs.Widths.{agree-at}
use Rattle.opgen_machine.specs.declared.step.Spot.{Spot}
use Rattle.opgen_machine.specs.Programs.{AreBelow, AreSpots, Fit, Spots, seen, widths_of, word_of}
use Rattle.opgen_machine.specs.Laid.{CanBeLaid, IsFlat, IsSmall}
use Rattle.opgen_machine.specs.Layout.{first_spots, port_spots, rest_of, spots_from}
use Rattle.opgen_machine.specs.Moves.{FitFirst}
use Rattle.opgen_machine.specs.Settles.{Agrees, HasNarrow, IsThere, width_at}

-- spots one after another
pub widths-from : (n : ℕ) (ws : List ℕ) → widths_of (spots_from n ws) ≡ ws
widths-from n [] = refl
widths-from n (w ∷ ws) = ap (λ l. w ∷ l) (widths-from (n + 1) ws)

pub length-from : (n : ℕ) (ws : List ℕ) → length (spots_from n ws) ≡ length ws
length-from n ws = sym (length-map (spots_from n ws) (λ (s : Spot). s.width)) ∙ ap length (widths-from n ws)

below-from : (n k : ℕ) (ws : List ℕ) → All (λ w. w ≤ 64) ws → n + length ws ≤ k → AreBelow k (spots_from n ws)
below-from n k [] h l i d j = absurd (omega (arith, j))
below-from n k (w ∷ ws) h l zero d j = (omega (arith, l), h 0 w (omega arith))
below-from n k (w ∷ ws) h l (suc i) d j = below-from (n + 1) k ws (λ q e m. h (suc q) e (omega (arith, m))) (omega (arith, l)) i d
    (omega (arith, j))

words-from : (m : List ℕ) (n : ℕ) (ws : List ℕ) → n + length ws ≤ length m → map (word_of m) (spots_from n ws) ≡ words_of ws (drop n m)
words-from m n [] l = refl
words-from m n (w ∷ ws) l =
    ap (λ v. word w (get_or m n 0) ∷ v) (words-from m (n + 1) ws (omega (arith, l)))
    ∙ sym (ap (words_of (w ∷ ws)) (drop_more m n 0 (omega (arith, l))))

fit-from : (m : List ℕ) (n : ℕ) (ws : List ℕ) → ((i : ℕ) → i < length ws → get_or m (n + i) 0 < 2 ^ get_or ws i 0) → Fit m (spots_from n ws)
fit-from m n [] f i d l = absurd (omega (arith, l))
fit-from m n (w ∷ ws) f zero d l = let e : n + 0 ≡ n = omega arith in subst (λ k. get_or m k 0 < 2 ^ w) e (f 0 (omega arith))
fit-from m n (w ∷ ws) f (suc i) d l =
    fit-from m (n + 1) ws (λ j k. let e : n + suc j ≡ n + 1 + j = omega arith in
    subst (λ q. get_or m q 0 < 2 ^ get_or ws j 0) e (f (suc j) (omega (arith, k)))) i d (omega (arith, l))

from-fit : (m : List ℕ) (n : ℕ) (ws : List ℕ) → Fit m (spots_from n ws) → (i : ℕ) → i < length ws → get_or m (n + i) 0 < 2 ^ get_or ws i 0
from-fit m n [] f i l = absurd (omega (arith, l))
from-fit m n (w ∷ ws) f zero l = let e : n ≡ n + 0 = omega arith in
    subst (λ k. get_or m k 0 < 2 ^ w) e (f 0 (record { place = 0; width = 0 }) (omega arith))
from-fit m n (w ∷ ws) f (suc i) l =
    let e : n + 1 + i ≡ n + suc i = omega arith in
    subst (λ q. get_or m q 0 < 2 ^ get_or ws i 0) e (from-fit m (n + 1) ws (λ j d k. f (suc j) d (omega (arith, k))) i (omega (arith, l)))

pub fit-first : (m ws : List ℕ) → FitFirst ws m → Fit m (spots_from 0 ws)
fit-first m ws f = fit-from m 0 ws (λ i l. let e : i ≡ 0 + i = omega arith in subst (λ q. get_or m q 0 < 2 ^ get_or ws i 0) e (f i l))

pub first-fit : (m ws : List ℕ) → Fit m (spots_from 0 ws) → FitFirst ws m
first-fit m ws f i l = let e : 0 + i ≡ i = omega arith in subst (λ q. get_or m q 0 < 2 ^ get_or ws i 0) e (from-fit m 0 ws f i l)

-- the spots of ports
abbrev in_widths : List Port → List ℕ
in_widths ps = at_ports is_in ps (map (λ p. p.width) ps)

pub widths-ports : (at rest : ℕ) (ps : List Port) → widths_of (port_spots at rest ps) ≡ map (λ p. p.width) ps
widths-ports at rest [] = refl
widths-ports at rest (p ∷ ps) = by (is_in p.dir) (widths-ports (at + 1) rest ps) (widths-ports at rest ps)
  where
    by : (b : Bool) → widths_of (port_spots (at + 1) rest ps) ≡ map (λ p. p.width) ps
        → widths_of (port_spots at rest ps) ≡ map (λ p. p.width) ps
        → widths_of (if b then record { place = at; width = p.width } ∷ port_spots (at + 1) rest ps else record
        { place = rest; width = p.width } ∷ port_spots at rest ps) ≡ p.width ∷ map (λ p. p.width) ps
    by true e f = ap (λ l. p.width ∷ l) e
    by false e f = ap (λ l. p.width ∷ l) f

pub length-ports : (at rest : ℕ) (ps : List Port) → length (port_spots at rest ps) ≡ length ps
length-ports at rest ps = sym (length-map (port_spots at rest ps) (λ (s : Spot). s.width)) ∙ ap length (widths-ports at rest ps)
    ∙ length-map ps (λ p. p.width)

-- what holds of an input's spot at each place from one to another, and of the outputs' spots, holds of all
all-ports : (P : Spot → Type 0) (at rest : ℕ) (ps : List Port)
    → ((n w : ℕ) → w ≤ 64 → at ≤ n → n < at + length (in_widths ps) → P (record { place = n; width = w }))
    → ((w : ℕ) → w ≤ 64 → P (record { place = rest; width = w }))
    → All (λ p. p.width ≤ 64) ps → All P (port_spots at rest ps)
all-ports P at rest [] f g h = λ i d l. absurd (omega (arith, l))
all-ports P at rest (p ∷ ps) f g h =
    by (is_in p.dir) f (λ q. all-ports P (at + 1) rest ps q g (λ j d k. h (suc j) d (omega (arith, k))))
    (λ q. all-ports P at rest ps q g (λ j d k. h (suc j) d (omega (arith, k)))) (h 0 p (omega arith))
  where
    by : (b : Bool) → ((n w : ℕ) → w ≤ 64 → at ≤ n → n < at + length (if b then p.width ∷ in_widths ps else in_widths ps)
        → P (record { place = n; width = w }))
        → (((n w : ℕ) → w ≤ 64 → at + 1 ≤ n → n < at + 1 + length (in_widths ps) → P (record { place = n; width = w }))
        → All P (port_spots (at + 1) rest ps))
        → (((n w : ℕ) → w ≤ 64 → at ≤ n → n < at + length (in_widths ps) → P (record { place = n; width = w }))
        → All P (port_spots at rest ps)) → p.width ≤ 64
        → All P (if b then record { place = at; width = p.width } ∷ port_spots (at + 1) rest ps else record
        { place = rest; width = p.width } ∷ port_spots at rest ps)
    by true q more less one zero d l = q at p.width one (omega arith) (omega arith)
    by true q more less one (suc i) d l = more (λ n w a b c. q n w a (omega (arith, b)) (omega (arith, c))) i d (omega (arith, l))
    by false q more less one zero d l = g p.width one
    by false q more less one (suc i) d l = less q i d (omega (arith, l))

small-at : (ws : List ℕ) (i : ℕ) → All (λ w. w ≤ 64) ws → get_or ws i 0 ≤ 64
small-at [] i h = omega arith
small-at (w ∷ ws) zero h = h 0 w (omega arith)
small-at (w ∷ ws) (suc i) h = small-at ws i (λ j d l. h (suc j) d (omega (arith, l)))

all-map : {X : Type 0} (f : X → ℕ) (xs : List X) → All (λ x. f x ≤ 64) xs → All (λ w. w ≤ 64) (map f xs)
all-map f [] h i d l = absurd (omega (arith, l))
all-map f (x ∷ xs) h zero d l = h 0 x (omega arith)
all-map f (x ∷ xs) h (suc i) d l = all-map f xs (λ j e k. h (suc j) e (omega (arith, k))) i d (omega (arith, l))

pub lengths-seen : (m : List ℕ) (spots : List Spot) → map length (map (word_of m) spots) ≡ widths_of spots
lengths-seen m [] = refl
lengths-seen m (s ∷ spots) = ap (λ n. n ∷ map length (map (word_of m) spots)) (length-word s.width (get_or m s.place 0))
    ∙ ap (λ l. s.width ∷ l) (lengths-seen m spots)

small-driver : (ks : List Driver) (i : ℕ) (k : Driver) → All IsSmall ks → slice_get ks i ≡ Some k → IsSmall k
small-driver [] i k h e = absurd (cc)
small-driver (x ∷ ks) zero k h e = let same : x ≡ k = cc in subst IsSmall same (h 0 x (omega arith))
small-driver (x ∷ ks) (suc i) k h e = small-driver ks i k (λ j y l. h (suc j) y (omega (arith, l))) e

module _ (d : Design) where
  pub first-signals : widths_of (first_spots d).signals ≡ signal_widths d
  first-signals = widths-from 0 (signal_widths d)

  pub first-ports : widths_of (first_spots d).ports ≡ port_widths d
  first-ports = widths-ports (length d.signals) (rest_of d) d.ports

  count : length (signal_widths d) ≡ length d.signals
  count = length-map d.signals (λ s. s.width)

  pub seen-signals : (m : List ℕ) → length d.signals ≤ length m → (seen m (first_spots d)).signals ≡ words_of (signal_widths d) m
  seen-signals m l = words-from m 0 (signal_widths d) (omega (arith, l, count))

  pub seen-widths : (m : List ℕ) → HaveWidths d (seen m (first_spots d))
  seen-widths m = record {
    signals = lengths-seen m (first_spots d).signals ∙ first-signals;
    ports = lengths-seen m (first_spots d).ports ∙ first-ports;
  }

  module _ (flat : IsFlat d) where
    pub are-first : (base : ℕ) → rest_of d < base → AreSpots base (first_spots d)
    are-first base l = (
      below-from 0 base (signal_widths d) (all-map (λ (s : Signal). s.width) d.signals flat.signals) (omega (arith, count, l)),
      all-ports (λ (s : Spot). (s.place < base) × (s.width ≤ 64)) (length d.signals) (rest_of d) d.ports
          (λ n w one a b. (omega (arith, b, l), one)) (λ w one. (l, one)) flat.ports,
    )

    -- numbers that are 0 at the ports
    pub ports-zero : (m : List ℕ) → ((i : ℕ) → length d.signals ≤ i → i ≤ rest_of d → get_or m i 0 ≡ 0) → Fit m (first_spots d).ports
    ports-zero m zeros = all-ports (λ (q : Spot). get_or m q.place 0 < 2 ^ q.width) (length d.signals) (rest_of d) d.ports
        (λ n w one a b. subst (λ x. x < 2 ^ w) (sym (zeros n a (omega (arith, b)))) (pow_pos w))
        (λ w one. subst (λ x. x < 2 ^ w) (sym (zeros (rest_of d) (omega arith) (omega arith))) (pow_pos w)) flat.ports

    -- numbers that are the same at the ports
    pub ports-kept : (m k : List ℕ) → ((i : ℕ) → length d.signals ≤ i → i ≤ rest_of d → get_or k i 0 ≡ get_or m i 0)
        → Fit m (first_spots d).ports → Fit k (first_spots d).ports
    ports-kept m k same f = λ i x l.
        let s = get_or (first_spots d).ports i x in
        let within = all-ports (λ (q : Spot). (length d.signals ≤ q.place) × (q.place ≤ rest_of d)) (length d.signals) (rest_of d) d.ports
        (λ n w one a b. (a, omega (arith, b))) (λ w one. (omega arith, omega arith)) flat.ports i x l in
        subst (λ n. n < 2 ^ s.width) (sym (same s.place within.0 within.1)) (f i x l)

    module _ (sound : IsSound d) where
      abbrev first : Spots
      first = first_spots d

      narrow : (e : Tree) (w v : ℕ) → HasWidth d e w → v ≡ w → w ≤ 64 → HasNarrow first e v
      narrow e w v h same l = (
        ap (λ ns. width ns (widths_of first.ports) e) first-signals ∙ ap (λ ps. width (signal_widths d) ps e) first-ports ∙ h
            ∙ ap Some (sym same),
        omega (arith, same, l),
      )

      signal-size : (to : ℕ) → width_at first (signal to) ≡ get_or (signal_widths d) to 0
      signal-size to = ap (λ ws. get_or ws to 0) first-signals

      port-size : (p : ℕ) → width_at first (port_of p) ≡ get_or (port_widths d) p 0
      port-size p = ap (λ ws. get_or ws p 0) first-ports

      signal-narrow : (to : ℕ) → get_or (signal_widths d) to 0 ≤ 64
      signal-narrow to = small-at (signal_widths d) to (all-map (λ (s : Signal). s.width) d.signals flat.signals)

      port-narrow : (p : ℕ) → get_or (port_widths d) p 0 ≤ 64
      port-narrow p = small-at (port_widths d) p (all-map (λ (p : Port). p.width) d.ports flat.ports)

      signal-wide : (to : ℕ) → to < length d.signals → IsWidth (get_or (signal_widths d) to 0)
      signal-wide to l =
          let s = some-item d.signals to l in
          let a : slice_get (signal_widths d) to ≡ Some s.0.width = slice_get-map (λ (x : Signal). x.width) d.signals to
          ∙ ap (option_map (λ (x : Signal). x.width)) s.1 in
          let b : slice_get (signal_widths d) to ≡ Some (get_or (signal_widths d) to 0) = slice_get-get_or (signal_widths d) to 0
          (omega (arith, l, count)) in
          let c : Some s.0.width ≡ Some (get_or (signal_widths d) to 0) = sym a ∙ b in
          let e : s.0.width ≡ get_or (signal_widths d) to 0 = cc in
          subst IsWidth e (subst (λ o. IfSome o (SignalPasses d Width to)) s.1 (sound.widths (at_signal to))).0

      pub there-first : (i : ℕ) (k : Driver) → slice_get d.drivers i ≡ Some k → IsThere first (target k)
      there-first i k e = by (target k) (declared-at d sound.declared i k e).target
        where
          by : (t : Target) → Names d t → IsThere first t
          by (signal s) n = omega (arith, n, length-from 0 (signal_widths d), count)
          by (port_of p) n = omega (arith, n, length-ports (length d.signals) (rest_of d) d.ports)

      agrees : (i : ℕ) (k : Driver) → slice_get d.drivers i ≡ Some k → (j : Driver) → k ≡ j → Agrees first j
      agrees i k e (Assign to t) is = narrow t (get_or (signal_widths d) to 0) (width_at first (signal to))
          (agree-at d sound i (Assign to t) (e ∙ ap Some is)) (signal-size to) (signal-narrow to)
      agrees i k e (Choice to on one other) is =
          let a = agree-at d sound i (Choice to on one other) (e ∙ ap Some is) in
          let w = get_or (signal_widths d) to 0 in (
            narrow on 1 1 a.0 refl (omega arith),
            narrow one w (width_at first (signal to)) a.1 (signal-size to) (signal-narrow to),
            narrow other w (width_at first (signal to)) a.2 (signal-size to) (signal-narrow to),
          )
      agrees i k e (Table to on rows other) is =
          let a = agree-at d sound i (Table to on rows other) (e ∙ ap Some is) in
          let l = slice_get_within d.drivers i (Table to on rows other) (e ∙ ap Some is) in
          let small : IsSmall (Table to on rows other) = small-driver d.drivers i (Table to on rows other) flat.tables (e ∙ ap Some is) in
          let declared : to < length d.signals = (declared-at d sound.declared i (Table to on rows other) (e ∙ ap Some is)).target in
          let s = signal-size to in (
            λ j x m. let r = a.0 j x m in (
              narrow on (length (get_or rows j x).0) (length (get_or rows j x).0) r.0 refl
                  (omega (arith, small j x m)),
              r.1 ∙ sym s,
            ),
            a.2 ∙ sym s,
            subst IsWidth (sym s) (signal-wide to declared),
            omega (arith, s, signal-narrow to),
          )
      agrees i k e (Register to t) is = narrow t (get_or (signal_widths d) to 0) (width_at first (signal to))
          (agree-at d sound i (Register to t) (e ∙ ap Some is)) (signal-size to) (signal-narrow to)
      agrees i k e (Output place t) is = narrow t (get_or (port_widths d) place 0) (width_at first (port_of place))
          (agree-at d sound i (Output place t) (e ∙ ap Some is)) (port-size place) (port-narrow place)

      pub agrees-first : (i : ℕ) (k : Driver) → slice_get d.drivers i ≡ Some k → Agrees first k
      agrees-first i k e = agrees i k e k refl

      same-size : (on : Tree) (v w : ℕ) → HasWidth d on v → HasWidth d on w → v ≡ w
      same-size on v w h k = let e : Some v ≡ Some w = sym h ∙ k in cc

      laid-of : (i : ℕ) (k : Driver) → slice_get d.drivers i ≡ Some k → (j : Driver) → k ≡ j → CanBeLaid j
      laid-of i k e (Assign to t) is = tt
      laid-of i k e (Choice to on one other) is = tt
      laid-of i k e (Table to on [] other) is = tt
      laid-of i k e (Table to on (r ∷ rows) other) is =
          let here = e ∙ ap Some is in
          let a = agree-at d sound i (Table to on (r ∷ rows) other) here in
          let small : IsSmall (Table to on (r ∷ rows) other) = small-driver d.drivers i (Table to on (r ∷ rows) other) flat.tables here in
          let n = signal-narrow to in (
            λ j x m. let q = a.0 j x m in (
              same-size on (length (get_or (r ∷ rows) j x).0) (length r.0) q.0 (a.0 0 r (omega arith)).0,
              omega (arith, q.1, n),
            ),
            small 0 r (omega arith),
            omega (arith, a.2, n),
          )
      laid-of i k e (Register to t) is = tt
      laid-of i k e (Output place t) is = tt

      pub can-be-laid : All CanBeLaid d.drivers
      can-be-laid i x l = laid-of i (get_or d.drivers i x) (slice_get-get_or d.drivers i x l) (get_or d.drivers i x) refl

      -- the enable has one bit
      pub enable-first : (spots : Spots) → widths_of spots.ports ≡ port_widths d → IfSome d.enable (λ p. HasNarrow spots (port p) 1)
      enable-first spots f = by d.enable refl (sound.declared at_design)
        where
          by : (o : Option ℕ) → d.enable ≡ o → IfSome o (λ p. p < length d.ports) → IfSome o (λ p. HasNarrow spots (port p) 1)
          by None e l = tt
          by (Some p) e l =
              let q = some-item d.ports p l in
              let fits = subst (λ o. IfSome o (PortPasses d BadEnable p)) q.1 (sound.enable (at_port p)) e in
              let a : slice_get (port_widths d) p ≡ Some 1 = slice_get-map (λ (x : Port). x.width) d.ports p
              ∙ ap (option_map (λ (x : Port). x.width)) q.1 ∙ ap Some fits.1 in
              let one : IsWidth 1 = (omega arith, omega arith) in
              (ap (λ ps. option_and_then as_width (slice_get ps p)) f ∙ ap (option_and_then as_width) a ∙ as_width-of 1 one, omega arith)
