-- What the outputs of an aligned design show is said by the inputs of one cycle.
use Rattle.std.proofs.Common.{◌≡◌, ℕ, zero, suc, ◌+◌, ◌<◌, ◌≤◌, ◌⊎◌, Bool, if◌then◌else◌, List, [], ◌∷◌, length, map, get_or, None, Some, refl, sym, ap, ◌∙◌, subst, inl, inr, arith}
use Rattle.std.specs.Prelude.{Contains, IfSome, slice_get}
use Rattle.std.proofs.lemmas.Bool.{cases_eq, cases_lt}
use Rattle.std.proofs.lemmas.List.{get_or_past, length-map}
use Rattle.std.proofs.lemmas.List.Elements.{All-cons, Contains-get_or}
use Rattle.opgen_num.specs.Words.{nat}
use Rattle.opgen_num.proofs.Words.{same-word}
use Rattle.opgen_design.specs.declared.design.Design.{Design}
use Rattle.opgen_design.specs.declared.design.Dir.{Dir}
use Rattle.opgen_design.specs.declared.design.Dir.TheVariants.{In, Out}
use Rattle.opgen_design.specs.declared.design.Driver.{Driver}
use Rattle.opgen_design.specs.declared.design.Driver.TheVariants.{Assign, Choice, Table, Register, Output}
use Rattle.opgen_design.specs.declared.design.Port.{Port}
use Rattle.opgen_design.specs.declared.design.Target.{Target}
use Rattle.opgen_design.specs.declared.design.Target.TheVariants.{Signal as signal, Port as port_of}
use Rattle.opgen_design.specs.declared.sound.Rule.TheVariants.{NotDriven, ReadsOutput}
use Rattle.opgen_design.specs.Depth.{CountRegisters, LooksBack, registers_in}
use Rattle.opgen_design.specs.Run.{Words, scope, Cycle, RunsOn, Meets, moved, IsTableWord, at_ports, is_out, words_at_outputs}
use Rattle.opgen_design.specs.Sound.{AllReads, DriverReads, Reads, IsSound, IsDriven, SignalPasses, PortPasses, DriverPasses, ReadsInputs, at_signal, at_port, at_driver, target, driver_names, driver_ports, expressions_read}
use Rattle.opgen_design.specs.Tree.{Tree}
use Rattle.opgen_design.specs.Value.{value, chosen, word_at}
use Rattle.opgen_design.proofs.FirstFailing.{of-item}
use Rattle.opgen_design.proofs.NameWalk.{some-item}
use Rattle.opgen_design.proofs.SoundLaws.{at-contains, contains-at, driver-lists, lists-driver}
use Rattle.opgen_design.proofs.UseLaws.{contains-some}
use Rattle.opgen_design.proofs.ValueLaws.{same_value}
use Rattle.opgen_runs.specs.Tables.{Row}
use Rattle.opgen_runs.proofs.TwoCycles.{IsInputAt, meets, same-inputs}
use Rattle.opgen_part_laws.specs.Aligned.{Way, from_port, further, IsAligned, OutputsShowOneRow}

-- ---- a table has one word at an address
same_or_other : (a b : List Bool) → (a ≡ b) ⊎ (a ≡ b → ⊥)
same_or_other a b = elim (cases_eq (length a) (length b)) [
  | inl long ↦ elim (cases_eq (nat a) (nat b)) [ inl e ↦ inl (same-word a b long e) | inr other ↦ inr (λ e. other (ap nat e)) ]
  | inr other ↦ inr (λ e. other (ap length e))
]

later_rows : (q : Row) (rows : List Row) (other a w : List Bool) → (q.0 ≡ a → ⊥) → IsTableWord (q ∷ rows) other a w → IsTableWord rows other a w
later_rows q rows other a w differs is = record {
  of_row = λ i x below. is.of_row (suc i) x (omega (arith, below));
  of_none = λ none. is.of_none (All-cons (λ r. r.0 ≡ a → ⊥) q rows differs none);
}

one_word : (rows : List Row) (other a w x : List Bool) → IsTableWord rows other a w → IsTableWord rows other a x → w ≡ x
one_word [] other a w x h k = h.of_none (λ i r below. absurd (omega (arith, below))) ∙ sym (k.of_none (λ i r below. absurd (omega (arith, below))))
one_word (q ∷ rows) other a w x h k = elim (same_or_other q.0 a) [
  | inl e ↦ h.of_row 0 q (omega arith) e ∙ sym (k.of_row 0 q (omega arith) e)
  | inr differs ↦ one_word rows other a w x (later_rows q rows other a w differs h) (later_rows q rows other a x differs k)
]

-- ---- the words at the output ports
cons_out : (b : Dir) (x y : List Bool) (xs ys : List (List Bool)) → (b ≡ Out → x ≡ y) → xs ≡ ys
    → (if is_out b then x ∷ xs else xs) ≡ (if is_out b then y ∷ ys else ys)
cons_out In x y xs ys same e = e
cons_out Out x y xs ys same e = ap (λ z. z ∷ xs) (same refl) ∙ ap (λ zs. y ∷ zs) e

same_outputs : (ps : List Port) (xs ys : List (List Bool)) → length xs ≡ length ys
    → ((i : ℕ) (q : Port) → slice_get ps i ≡ Some q → q.dir ≡ Out → get_or xs i [] ≡ get_or ys i [])
    → at_ports is_out ps xs ≡ at_ports is_out ps ys
same_outputs [] xs ys l same = refl
same_outputs (p ∷ ps) [] [] l same = refl
same_outputs (p ∷ ps) [] (y ∷ ys) l same = absurd (omega (arith, l))
same_outputs (p ∷ ps) (x ∷ xs) [] l same = absurd (omega (arith, l))
same_outputs (p ∷ ps) (x ∷ xs) (y ∷ ys) l same =
    cons_out p.dir x y (at_ports is_out ps xs) (at_ports is_out ps ys) (same 0 p refl)
    (same_outputs ps xs ys (omega (arith, l)) (λ i q e out. same (suc i) q e out))

-- past the end of both there is no word
none_in_both : (xs ys : List (List Bool)) (i : ℕ) → length xs ≤ i → length ys ≤ i → get_or xs i [] ≡ get_or ys i []
none_in_both xs ys i short also = get_or_past xs i [] short ∙ sym (get_or_past ys i [] also)

-- as many words as widths
same_long : {X : Type 0} (width : X → ℕ) (items : List X) (ws : List (List Bool)) → map length ws ≡ map width items → length ws ≡ length items
same_long width items ws e = sym (length-map ws length) ∙ ap length e ∙ length-map items width

-- ---- signals whose words in a cycle are said by the inputs of one cycle
-- so many cycles settle a signal, and each way to it passes as many registers
record IsSettled (d : Design) (rank : ℕ → ℕ) (j s : ℕ) : Type 0 where
  ranked : rank s ≤ j
  exact : (n : ℕ) → Way d s n → n ≡ j

-- the registers that are settled hold the same words
abbrev SameHeld : Design → (rank : ℕ → ℕ) → (j : ℕ) → (now others : List (List Bool)) → Type 0
SameHeld d rank j now others = (i to : ℕ) (e : Tree) → slice_get d.drivers i ≡ Some (Register to e) → IsSettled d rank j to
    → word_at now to ≡ word_at others to

module _ (d : Design) (rank : ℕ → ℕ) (ranks : CountRegisters d rank) where
  module _ (m j s : ℕ) (is : IsSettled d rank m s) (k : Driver) (c : Contains d.drivers k) (t : target k ≡ signal s)
      (split : m ≡ j + registers_in k) where
    -- what its driver reads is settled by the registers less
    read_settled : (r : ℕ) → Reads r k → IsSettled d rank j r
    read_settled r reads = record {
      ranked = let below = is.ranked in omega (arith, below, split, ranks.reads s r k c t reads);
      exact = λ n way. let all = is.exact (n + registers_in k) (further s r n k c t reads way) in omega (arith, all, split);
    }

    -- and an input is read in the first cycle alone
    input_first : (p : ℕ) → Contains (driver_ports k) p → j ≡ 0
    input_first p reads = let all = is.exact (registers_in k) (from_port s p k c t reads) in omega (arith, all, split)

  -- no register is settled in the first cycle
  held_from_zero : (now others : List (List Bool)) → SameHeld d rank 0 now others
  held_from_zero now others i to e g is =
      let below = is.ranked in
      absurd (omega (arith, below, ranks.registers to (Register to e) (at-contains d.drivers i (Register to e) g) refl))

-- ---- two cycles
module _ (d : Design) (sound : IsSound d) (now others given taken : List (List Bool)) (v u : Words) (next after : List (List Bool))
    (h : Cycle d now given v next) (k : Cycle d others taken u after) where
  abbrev SignalAgrees : ℕ → Type 0
  SignalAgrees r = word_at v.signals r ≡ word_at u.signals r

  abbrev PortAgrees : ℕ → Type 0
  PortAgrees p = word_at v.ports p ≡ word_at u.ports p

  abbrev Agrees : Target → Type 0
  Agrees (signal s) = SignalAgrees s
  Agrees (port_of p) = PortAgrees p

  one_value : (t : Tree) → AllReads SignalAgrees PortAgrees t → value (scope v) t ≡ value (scope u) t
  one_value t a = same_value SignalAgrees PortAgrees (scope v) (scope u) (λ n e. e) (λ n e. e) t a

  -- what a driver's word needs: a register's the word that it holds, and any other all that it reads
  abbrev IsReady : Driver → Type 0
  IsReady (Register to e) = word_at now to ≡ word_at others to
  IsReady x = DriverReads SignalAgrees PortAgrees x

  driver_one : (x : Driver) → IsReady x → Meets d.enable now v next x → Meets d.enable others u after x → Agrees (target x)
  driver_one (Assign to e) a m w = m ∙ one_value e a.0 ∙ sym w
  driver_one (Choice to on one other) a m w =
      m
      ∙ ap (λ x. chosen x (value (scope v) one) (value (scope v) other)) (one_value on a.0)
      ∙ ap (λ x. chosen (value (scope u) on) x (value (scope v) other)) (one_value one a.1.0)
      ∙ ap (chosen (value (scope u) on) (value (scope u) one)) (one_value other a.1.1.0)
      ∙ sym w
  driver_one (Table to on rows other) a m w =
      one_word rows other (value (scope u) on) (word_at v.signals to) (word_at u.signals to)
      (subst (λ address. IsTableWord rows other address (word_at v.signals to)) (one_value on a.0) m) w
  driver_one (Register to e) a m w = m.0 ∙ a ∙ sym w.0
  driver_one (Output place e) a m w = m ∙ one_value e a.0 ∙ sym w

  driven_one : (t : Target) → IsDriven d t → ((x : Driver) → Contains d.drivers x → target x ≡ t → IsReady x) → Agrees t
  driven_one t y ready =
      let c = contains-at d.drivers y.0 y.1 in
      subst Agrees y.2 (driver_one y.0 (ready y.0 y.1 y.2) (meets h c.0 y.0 c.1) (meets k c.0 y.0 c.1))

  signals_long : (length v.signals ≡ length d.signals) × (length u.signals ≡ length d.signals)
  signals_long = (same_long (λ s. s.width) d.signals v.signals h.signal_widths, same_long (λ s. s.width) d.signals u.signals k.signal_widths)

  ports_long : (length v.ports ≡ length d.ports) × (length u.ports ≡ length d.ports)
  ports_long = (same_long (λ p. p.width) d.ports v.ports h.port_widths, same_long (λ p. p.width) d.ports u.ports k.port_widths)

  signal_one : (s : ℕ) → ((x : Driver) → Contains d.drivers x → target x ≡ signal s → IsReady x) → SignalAgrees s
  signal_one s ready = elim (cases_lt s (length d.signals)) [
    | inl m ↦
        let x = some-item d.signals s m in
        driven_one (signal s) (subst (λ o. IfSome o (SignalPasses d NotDriven s)) x.1 (sound.driven (at_signal s))) ready
    | inr m ↦ none_in_both v.signals u.signals s (omega (arith, m, signals_long.0)) (omega (arith, m, signals_long.1))
  ]

  output_one : (p : ℕ) (q : Port) → slice_get d.ports p ≡ Some q → q.dir ≡ Out
      → ((x : Driver) → Contains d.drivers x → target x ≡ port_of p → IsReady x) → PortAgrees p
  output_one p q g out ready =
      driven_one (port_of p) (subst (λ o. IfSome o (PortPasses d NotDriven p)) g (sound.driven (at_port p)) out) ready

  input_one : given ≡ taken → (p : ℕ) → IsInputAt d p → PortAgrees p
  input_one same p is = elim (cases_lt p (length d.ports)) [
    | inl l ↦
        let q = some-item d.ports p l in
        same-inputs d.ports v.ports u.ports ports_long.0 ports_long.1 (h.inputs ∙ same ∙ sym k.inputs) p q.0 q.1
        (subst (λ o. IfSome o (λ q. q.dir ≡ In)) q.1 is)
    | inr l ↦ none_in_both v.ports u.ports p (omega (arith, l, ports_long.0)) (omega (arith, l, ports_long.1))
  ]

  -- what a driver reads agrees where its signals do, and the inputs if it reads a port
  all_agree : (x : Driver) → Contains d.drivers x → ((r : ℕ) → Reads r x → SignalAgrees r)
      → ((p : ℕ) → Contains (driver_ports x) p → given ≡ taken) → DriverReads SignalAgrees PortAgrees x
  all_agree x c signals ports =
      let i = contains-at d.drivers x c in
      let reads : ReadsInputs d x = of-item (DriverPasses d ReadsOutput) d.drivers i.0 x i.1 (sound.reads_inputs (at_driver i.0)) in
      let inputs = (driver-lists (λ s. Unit {0}) (IsInputAt d) x reads).1 in
      lists-driver SignalAgrees PortAgrees x
      (λ n none below.
      signals (get_or (driver_names x) n none)
      (contains-some (get_or (driver_names x) n none) (expressions_read x) (Contains-get_or (driver_names x) n none below)))
      (λ n none below.
      let there = Contains-get_or (driver_ports x) n none below in
      input_one (ports (get_or (driver_ports x) n none) there) (get_or (driver_ports x) n none) (inputs n none below))

  module _ (rank : ℕ → ℕ) (ranks : CountRegisters d rank) (j : ℕ) (held : SameHeld d rank j now others) (first : j ≡ 0 → given ≡ taken) where
    record Before (n r : ℕ) : Type 0 where
      below : sound.ordered.0 r < n
      settled : IsSettled d rank j r

    driver_ready : (n r : ℕ) → ((q : ℕ) → Before n q → SignalAgrees q) → Before (suc n) r → (x : Driver) → Contains d.drivers x
        → target x ≡ signal r → IsReady x
    driver_ready n r agree b (Register to e) c t =
        let is : r ≡ to = cc in
        let i = contains-at d.drivers (Register to e) c in
        held i.0 to e i.1 (subst (IsSettled d rank j) is b.settled)
    driver_ready n r agree b x c t =
        all_agree x c
        (λ q reads.
        agree q (record {
          below = let here = b.below in omega (arith, here, sound.ordered.1 r q x c t reads);
          settled = read_settled d rank ranks j j r b.settled x c t (omega arith) q reads;
        }))
        (λ p reads. first (input_first d rank ranks j j r b.settled x c t (omega arith) p reads))

    signals_before : (n r : ℕ) → Before n r → SignalAgrees r
    signals_before zero r b = let below = b.below in absurd (omega (arith, below))
    signals_before (suc n) r b = signal_one r (driver_ready n r (signals_before n) b)

    settled_agree : (r : ℕ) → IsSettled d rank j r → SignalAgrees r
    settled_agree r is = signals_before (suc (sound.ordered.0 r)) r (record { below = omega arith; settled = is })

    -- one cycle further
    next_held : d.enable ≡ None → SameHeld d rank (suc j) next after
    next_held free i to e g is =
        let c = at-contains d.drivers i (Register to e) g in
        let agree = all_agree (Register to e) c
        (λ q reads. settled_agree q (read_settled d rank ranks (suc j) j to is (Register to e) c refl (omega arith) q reads))
        (λ p reads. first (input_first d rank ranks (suc j) j to is (Register to e) c refl (omega arith) p reads)) in
        (meets h i (Register to e) g).1
        ∙ ap (λ o. moved o v (value (scope v) e) (word_at now to)) free
        ∙ one_value e agree.0
        ∙ ap (λ o. moved o u (value (scope u) e) (word_at others to)) (sym free)
        ∙ sym (meets k i (Register to e) g).1

    -- the outputs, where they read settled signals alone
    module _ (reads : (p r : ℕ) (x : Driver) → Contains d.drivers x → target x ≡ port_of p → Reads r x → IsSettled d rank j r)
        (direct : (p q : ℕ) (x : Driver) → Contains d.drivers x → target x ≡ port_of p → Contains (driver_ports x) q → j ≡ 0) where
      output_ready : (p : ℕ) (x : Driver) → Contains d.drivers x → target x ≡ port_of p → IsReady x
      output_ready p (Register to e) c t = absurd (cc)
      output_ready p x c t = all_agree x c (λ r read. settled_agree r (reads p r x c t read)) (λ q read. first (direct p q x c t read))

      outputs_one : words_at_outputs d v ≡ words_at_outputs d u
      outputs_one =
          same_outputs d.ports v.ports u.ports (ports_long.0 ∙ sym ports_long.1)
          (λ p q g out. output_one p q g out (output_ready p))

-- ---- two runs
-- a run from a cycle on
record Later (d : Design) (inputs : List (List (List Bool))) (t n : ℕ) (v : Words) : Type 0 where
  state : List (List Bool)
  rows : List (List (List Bool))
  vs : List Words
  run : RunsOn d state rows vs
  row : slice_get rows 0 ≡ slice_get inputs t
  there : slice_get vs n ≡ Some v

later : (d : Design) (t n : ℕ) (now : List (List Bool)) (inputs : List (List (List Bool))) (vs : List Words) (v : Words)
    → RunsOn d now inputs vs → slice_get vs (t + n) ≡ Some v → Later d inputs t n v
later d zero n now inputs vs v run at =
    let start : n ≡ zero + n = omega arith in
    record { state = now; rows = inputs; vs = vs; run = run; row = refl; there = ap (slice_get vs) start ∙ at }
later d (suc t) n now [] [] v run at = absurd (cc)
later d (suc t) n now [] (x ∷ vs) v run at = absurd run
later d (suc t) n now (given ∷ inputs) [] v run at = absurd run
later d (suc t) n now (given ∷ inputs) (x ∷ vs) v (next, cycle, run) at =
    let place : suc (t + n) ≡ suc t + n = omega arith in
    let rest = later d t n next inputs vs v run (ap (slice_get (x ∷ vs)) place ∙ at) in
    record { state = rest.state; rows = rest.rows; vs = rest.vs; run = rest.run; row = rest.row; there = rest.there }

module _ (d : Design) (latency : ℕ) (sound : IsSound d) (has : LooksBack d latency) (aligned : IsAligned d latency) where
  -- so many cycles after the row, so many before the outputs
  from_row : (left j : ℕ) → left + j ≡ latency → (now others : List (List Bool)) (inputs taken : List (List (List Bool))) (vs us : List Words)
      → RunsOn d now inputs vs → RunsOn d others taken us → SameHeld d has.rank j now others
      → (j ≡ 0 → slice_get inputs 0 ≡ slice_get taken 0)
      → (v u : Words) → slice_get vs left ≡ Some v → slice_get us left ≡ Some u → words_at_outputs d v ≡ words_at_outputs d u
  from_row left j sum now others [] taken [] us run other held first v u at there = absurd (cc)
  from_row left j sum now others [] taken (x ∷ vs) us run other held first v u at there = absurd run
  from_row left j sum now others (g ∷ inputs) taken [] us run other held first v u at there = absurd run
  from_row left j sum now others (g ∷ inputs) [] (x ∷ vs) [] run other held first v u at there = absurd (cc)
  from_row left j sum now others (g ∷ inputs) [] (x ∷ vs) (y ∷ us) run other held first v u at there = absurd other
  from_row left j sum now others (g ∷ inputs) (h ∷ taken) (x ∷ vs) [] run other held first v u at there = absurd other
  from_row zero j sum now others (g ∷ inputs) (h ∷ taken) (x ∷ vs) (y ∷ us) (next, cycle, run) (after, also, other) held first v u at there =
      let end : j ≡ latency = omega (arith, sum) in
      let same : x ≡ v = cc in
      let alike : y ≡ u = cc in
      let rows : j ≡ 0 → g ≡ h = λ e. let both = first e in cc in
      let reads : (p r : ℕ) (z : Driver) → Contains d.drivers z → target z ≡ port_of p → Reads r z → IsSettled d has.rank j r
      = λ p r z c t read. record {
        ranked = omega (arith, end, has.shown p r z c t read);
        exact = λ n way. aligned.through p r n z c t read way ∙ sym end;
      } in
      let direct : (p q : ℕ) (z : Driver) → Contains d.drivers z → target z ≡ port_of p → Contains (driver_ports z) q → j ≡ 0
      = λ p q z c t read. end ∙ aligned.direct p q z c t read in
      ap (words_at_outputs d) (sym same)
      ∙ outputs_one d sound now others g h x y next after cycle also has.rank has.ranks j held rows reads direct
      ∙ ap (words_at_outputs d) alike
  from_row (suc left) j sum now others (g ∷ inputs) (h ∷ taken) (x ∷ vs) (y ∷ us) (next, cycle, run) (after, also, other) held first v u at there =
      let rows : j ≡ 0 → g ≡ h = λ e. let both = first e in cc in
      let further_held = next_held d sound now others g h x y next after cycle also has.rank has.ranks j held rows has.no_enable in
      from_row left (suc j) (omega (arith, sum)) next after inputs taken vs us run other further_held (λ e. absurd (omega (arith, e))) v u at there

pub outputs_show_one_row : OutputsShowOneRow
outputs_show_one_row d latency sound has aligned start other_start inputs others vs us run other t u v w row at there =
    let one = later d t latency start inputs vs v run at in
    let two = later d u latency other_start others us w other there in
    from_row d latency sound has aligned latency 0 (omega arith) one.state two.state one.rows two.rows one.vs two.vs one.run two.run
    (held_from_zero d has.rank has.ranks one.state two.state) (λ e. one.row ∙ row ∙ sym two.row) v w one.there two.there
