-- Two cycles of a design over the same inputs: where the signals that a driver needs agree, so does what it drives.
use Rattle.std.proofs.Common.{◌≡◌, ℕ, zero, suc, ◌≤◌, Bool, true, false, if◌then◌else◌, List, [], ◌∷◌, length, get_or, Some, refl, sym, ap, ◌∙◌, subst, inl, inr, arith}
use Rattle.std.specs.Prelude.{nat_eq, Contains, IfSome, slice_get}
use Rattle.std.proofs.lemmas.Bool.{cases_lt, eqb-true, eqb-false}
use Rattle.std.proofs.lemmas.List.Elements.{All-cons}
use Rattle.std.proofs.lemmas.List.{length-map, ext_get_or}
use Rattle.std.proofs.lemmas.Option.{slice_get_within, get_or_from_slice_get}
use Rattle.opgen_num.specs.Words.{nat}
use Rattle.opgen_num.proofs.Words.{same-word}
use Rattle.opgen_design.specs.declared.design.Design.{Design}
use Rattle.opgen_design.specs.declared.design.Dir.{Dir}
use Rattle.opgen_design.specs.declared.design.Dir.TheVariants.{In, Out}
use Rattle.opgen_design.specs.declared.design.Port.{Port}
use Rattle.opgen_design.specs.declared.design.Driver.{Driver}
use Rattle.opgen_design.specs.declared.design.Driver.TheVariants.{Assign, Choice, Table, Register, Output}
use Rattle.opgen_design.specs.Sound.{AllReads, AllOperandsRead, ReadsName, SomeOperandReads, IsSound, target, Needs, IsDriven, HasWidth, signal_widths, ReadsInputs, SignalPasses, PortPasses, DriverPasses, at_signal, at_port, at_driver}
use Rattle.opgen_design.specs.Run.{Words, scope, Cycle, Meets, IsTableWord, at_ports, is_in}
use Rattle.opgen_design.specs.declared.design.Target.{Target}
use Rattle.opgen_design.specs.declared.design.Target.TheVariants.{Signal as signal, Port as port_of}
use Rattle.opgen_design.specs.declared.sound.Rule.TheVariants.{NotDriven, ReadsOutput}
use Rattle.opgen_design.specs.Tree.{Tree, Trees, name, part, bits, port, inverse, chain, none, more}
use Rattle.opgen_design.specs.Value.{value, chosen, word_at}
use Rattle.opgen_design.proofs.SoundLaws.{contains-at}
use Rattle.opgen_design.proofs.ValueLaws.{same_value}
use Rattle.opgen_design.proofs.NameWalk.{some-item}
use Rattle.opgen_runs.specs.Evaluate.{HaveWidths, table_word}
use Rattle.opgen_runs.proofs.Cycles.{at-first, past-first}
use Rattle.opgen_runs.proofs.Widths.{agree-at, long, words-eq}

module _ (P Q R : ℕ → Type 0) where
  mutual
    reads-all : (t : Tree) → AllReads R Q t → ((r : ℕ) → ReadsName r t → P r) → AllReads P Q t
    reads-all (name n) h f = f n refl
    reads-all (part n high low) h f = f n refl
    reads-all (bits w) h f = tt
    reads-all (port n) h f = h
    reads-all (inverse t) h f = reads-all t h f
    reads-all (chain op ts) h f = operands-all ts h f

    operands-all : (ts : Trees) → AllOperandsRead R Q ts → ((r : ℕ) → SomeOperandReads r ts → P r) → AllOperandsRead P Q ts
    operands-all none h f = tt
    operands-all (more t ts) h f = (reads-all t h.0 (λ r x. f r (inl x)), operands-all ts h.1 (λ r x. f r (inr x)))

-- a table gives one word
table-is : (rows : List (List Bool × List Bool)) (other a w : List Bool)
    → ((j : ℕ) (q : List Bool × List Bool) → slice_get rows j ≡ Some q → length q.0 ≡ length a) → IsTableWord rows other a w → w
    ≡ table_word rows other a
table-is [] other a w l h = h.of_none (λ k d m. absurd (omega (arith, m)))
table-is (q ∷ rows) other a w l h = by-first (nat_eq (nat q.0) (nat a)) refl (table-is rows other a w (λ j r g. l (suc j) r g))
  where
    by-first : (b : Bool) → nat_eq (nat q.0) (nat a) ≡ b → (IsTableWord rows other a w → w ≡ table_word rows other a) → w
        ≡ table_word (q ∷ rows) other a
    by-first true e rest = h.of_row 0 q (omega arith) (same-word q.0 a (l 0 q refl) (eqb-true (nat q.0) (nat a) e))
        ∙ sym (at-first other a q rows e)
    by-first false e rest =
        rest (record {
          of_row = λ i x m. h.of_row (suc i) x (omega (arith, m));
          of_none = λ g. h.of_none (All-cons (λ r. r.0 ≡ a → ⊥) q rows (λ z. eqb-false (nat q.0) (nat a) e (ap nat z)) g);
        }) ∙ sym (past-first other a q rows e)

-- words at the same input ports
cons-head : (b : Dir) (x y : List Bool) (xs ys : List (List Bool)) → b ≡ In → (if is_in b then x ∷ xs else xs)
    ≡ (if is_in b then y ∷ ys else ys) → x ≡ y
cons-head In x y xs ys e h = cc
cons-head Out x y xs ys e h = absurd (cc)

cons-tail : (b : Dir) (x y : List Bool) (xs ys : List (List Bool)) → (if is_in b then x ∷ xs else xs) ≡ (if is_in b then y ∷ ys else ys)
    → xs ≡ ys
cons-tail In x y xs ys h = cc
cons-tail Out x y xs ys h = h

pub same-inputs : (ps : List Port) (xs ys : List (List Bool)) → length xs ≡ length ps → length ys ≡ length ps → at_ports is_in ps xs
    ≡ at_ports is_in ps ys → (i : ℕ) (q : Port) → slice_get ps i ≡ Some q → q.dir ≡ In → get_or xs i [] ≡ get_or ys i []
same-inputs [] xs ys l m h i q e f = absurd (cc)
same-inputs (p ∷ ps) [] ys l m h i q e f = absurd (omega (arith, l))
same-inputs (p ∷ ps) (x ∷ xs) [] l m h i q e f = absurd (omega (arith, m))
same-inputs (p ∷ ps) (x ∷ xs) (y ∷ ys) l m h zero q e f = let same : p
    ≡ q = cc in cons-head p.dir x y (at_ports is_in ps xs) (at_ports is_in ps ys) (ap (λ z. z.dir) same ∙ f) h
same-inputs (p ∷ ps) (x ∷ xs) (y ∷ ys) l m h (suc i) q e f = same-inputs ps xs ys (omega (arith, l)) (omega (arith, m))
    (cons-tail p.dir x y (at_ports is_in ps xs) (at_ports is_in ps ys) h) i q e f

past : (xs : List (List Bool)) (i : ℕ) → length xs ≤ i → get_or xs i [] ≡ []
past [] i l = refl
past (x ∷ xs) zero l = absurd (omega (arith, l))
past (x ∷ xs) (suc i) l = past xs i (omega (arith, l))

-- a word for each signal and each port, in each cycle
signals-many : {d : Design} {now given next : List (List Bool)} {v : Words} → Cycle d now given v next → length v.signals ≡ length d.signals
signals-many {d} {v = v} h = sym (length-map v.signals length) ∙ ap length h.signal_widths ∙ length-map d.signals (λ p. p.width)

ports-many : {d : Design} {now given next : List (List Bool)} {v : Words} → Cycle d now given v next → length v.ports ≡ length d.ports
ports-many {d} {v = v} h = sym (length-map v.ports length) ∙ ap length h.port_widths ∙ length-map d.ports (λ p. p.width)

-- the equation of a driver in a cycle
pub meets : {d : Design} {now given next : List (List Bool)} {v : Words} → Cycle d now given v next → (i : ℕ) (x : Driver)
    → slice_get d.drivers i ≡ Some x → Meets d.enable now v next x
meets {d} {now} {next = next} {v = v} h i x e = subst (Meets d.enable now v next) (get_or_from_slice_get d.drivers i x x e)
    (h.equations i x (slice_get_within d.drivers i x e))

abbrev pub IsInputAt : Design → ℕ → Type 0
IsInputAt d p = IfSome (slice_get d.ports p) (λ q. q.dir ≡ In)

module _ (d : Design) (sound : IsSound d) (now others given : List (List Bool)) (v u : Words) (next after : List (List Bool))
    (h : Cycle d now given v next) (k : Cycle d others given u after) where
  same-port : (p : ℕ) → IsInputAt d p → word_at v.ports p ≡ word_at u.ports p
  same-port p r = elim (cases_lt p (length d.ports)) [
    | inl l ↦ let q = some-item d.ports p l in same-inputs d.ports v.ports u.ports (ports-many h) (ports-many k) (h.inputs ∙ sym k.inputs) p q.0 q.1
        (subst (λ o. IfSome o (λ q. q.dir ≡ In)) q.1 r)
    | inr l ↦ past v.ports p (omega (arith, l, ports-many h)) ∙ sym (past u.ports p (omega (arith, l, ports-many k)))
  ]

  -- an expression over signals that agree
  pub tree-one : (P : ℕ → Type 0) → ((r : ℕ) → P r → word_at v.signals r ≡ word_at u.signals r) → (t : Tree)
      → AllReads (λ s. Unit {0}) (IsInputAt d) t → ((r : ℕ) → ReadsName r t → P r) → value (scope v) t ≡ value (scope u) t
  tree-one P below t a f = same_value P (IsInputAt d) (scope v) (scope u) below same-port t (reads-all P (IsInputAt d) (λ s. Unit {0}) t a f)

  abbrev At : Target → Type 0
  At (signal s) = word_at v.signals s ≡ word_at u.signals s
  At (port_of p) = word_at v.ports p ≡ word_at u.ports p

  lens : (x : Words) → HaveWidths d x → (on : Tree) (rows : List (List Bool × List Bool))
      → ((j : ℕ) (q : List Bool × List Bool) → slice_get rows j ≡ Some q → HasWidth d on (length q.0)) → (j : ℕ) (q : List Bool × List Bool)
      → slice_get rows j ≡ Some q → length q.0 ≡ length (value (scope x) on)
  lens x y on rows f j q e = sym (long d sound x y on (length q.0) (f j q e))

  -- a driver over signals that agree; a register has the word that it held
  driver-one : (P : ℕ → Type 0) → ((r : ℕ) → P r → word_at v.signals r ≡ word_at u.signals r) → (x : Driver) (i : ℕ) → slice_get d.drivers i
      ≡ Some x → ReadsInputs d x → ((r : ℕ) → Needs r x → P r)
      → ((to : ℕ) (e : Tree) → x ≡ Register to e → word_at now to ≡ word_at others to)
      → Meets d.enable now v next x → Meets d.enable others u after x → At (target x)
  driver-one P below (Assign to e) i g a f held m w = m ∙ tree-one P below e a.0 (λ r z. f r (inl z)) ∙ sym w
  driver-one P below (Choice to on one other) i g a f held m w =
      m
      ∙ ap (λ x. chosen x (value (scope v) one) (value (scope v) other)) (tree-one P below on a.0 (λ r z. f r (inl z)))
      ∙ ap (λ x. chosen (value (scope u) on) x (value (scope v) other)) (tree-one P below one a.1.0 (λ r z. f r (inr (inl z))))
      ∙ ap (chosen (value (scope u) on) (value (scope u) one)) (tree-one P below other a.1.1.0 (λ r z. f r (inr (inr (inl z)))))
      ∙ sym w
  driver-one P below (Table to on rows other) i g a f held m w =
      let z = agree-at d sound i (Table to on rows other) g in
      let wide : (j : ℕ) (q : List Bool × List Bool) → slice_get rows j ≡ Some q → HasWidth d on (length q.0)
      = λ j q e. (subst (λ x. HasWidth d on (length x.0) × (length x.1 ≡ get_or (signal_widths d) to 0))
      (get_or_from_slice_get rows j q q e) (z.0 j q (slice_get_within rows j q e))).0 in
      table-is rows other (value (scope v) on) (word_at v.signals to)
      (lens v (record { signals = h.signal_widths; ports = h.port_widths }) on rows wide) m
      ∙ ap (table_word rows other) (tree-one P below on a.0 (λ r z. f r (inl z)))
      ∙ sym (table-is rows other (value (scope u) on) (word_at u.signals to)
      (lens u (record { signals = k.signal_widths; ports = k.port_widths }) on rows wide) w)
  driver-one P below (Register to e) i g a f held m w = m.0 ∙ held to e refl ∙ sym w.0
  driver-one P below (Output place e) i g a f held m w = m ∙ tree-one P below e a.0 (λ r z. f r (inl z)) ∙ sym w

  pub reads-inputs : (i : ℕ) (x : Driver) → slice_get d.drivers i ≡ Some x → ReadsInputs d x
  reads-inputs i x e = subst (λ o. IfSome o (DriverPasses d ReadsOutput i)) e (sound.reads_inputs (at_driver i))

  at-driver : (P : ℕ → Type 0) → ((r : ℕ) → P r → word_at v.signals r ≡ word_at u.signals r) → (t : Target) → IsDriven d t
      → ((x : Driver) → Contains d.drivers x → target x ≡ t → (r : ℕ) → Needs r x → P r)
      → ((i to : ℕ) (e : Tree) → slice_get d.drivers i ≡ Some (Register to e) → t ≡ signal to → word_at now to ≡ word_at others to) → At t
  at-driver P below t y f held =
      let c = contains-at d.drivers y.0 y.1 in
      let register : (to : ℕ) (e : Tree) → y.0 ≡ Register to e → word_at now to ≡ word_at others to
      = λ to e is. held c.0 to e (c.1 ∙ ap Some is) (sym y.2 ∙ ap target is) in
      subst At y.2 (driver-one P below y.0 c.0 c.1 (reads-inputs c.0 y.0 c.1) (f y.0 y.1 y.2) register
      (meets h c.0 y.0 c.1) (meets k c.0 y.0 c.1))

  -- a signal over signals that agree, if a register of it held the same word
  pub signal-one : (P : ℕ → Type 0) → ((r : ℕ) → P r → word_at v.signals r ≡ word_at u.signals r) → (s : ℕ)
      → ((x : Driver) → Contains d.drivers x → target x ≡ signal s → (r : ℕ) → Needs r x → P r)
      → ((i : ℕ) (e : Tree) → slice_get d.drivers i ≡ Some (Register s e) → word_at now s ≡ word_at others s)
      → word_at v.signals s ≡ word_at u.signals s
  signal-one P below s f held = elim (cases_lt s (length d.signals)) [
    | inl m ↦
        let x = some-item d.signals s m in
        at-driver P below (signal s) (subst (λ o. IfSome o (SignalPasses d NotDriven s)) x.1 (sound.driven (at_signal s))) f
        (λ i to e g t.
        let is : to ≡ s = cc in
        subst (λ n. word_at now n ≡ word_at others n) (sym is)
        (held i e (subst (λ n. slice_get d.drivers i ≡ Some (Register n e)) is g)))
    | inr m ↦ past v.signals s (omega (arith, m, signals-many h)) ∙ sym (past u.signals s (omega (arith, m, signals-many k)))
  ]

  -- the ports over signals that agree, if the outputs read no others
  module _ (P : ℕ → Type 0) (agree : (r : ℕ) → P r → word_at v.signals r ≡ word_at u.signals r)
      (reads : (p : ℕ) (x : Driver) → Contains d.drivers x → target x ≡ port_of p → (r : ℕ) → Needs r x → P r) where
    port-one : (p : ℕ) → word_at v.ports p ≡ word_at u.ports p
    port-one p = elim (cases_lt p (length d.ports)) [
      | inl l ↦ let q = some-item d.ports p l in by-dir q.0.dir p q.0 q.1 refl
      | inr l ↦ past v.ports p (omega (arith, l, ports-many h)) ∙ sym (past u.ports p (omega (arith, l, ports-many k)))
    ]
      where
        by-dir : (b : Dir) (p : ℕ) (q : Port) → slice_get d.ports p ≡ Some q → q.dir ≡ b → word_at v.ports p ≡ word_at u.ports p
        by-dir In p q g e = same-port p (subst (λ o. IfSome o (λ q. q.dir ≡ In)) (sym g) e)
        by-dir Out p q g e =
            at-driver P agree (port_of p) (subst (λ o. IfSome o (PortPasses d NotDriven p)) g (sound.driven (at_port p)) e) (reads p)
            (λ i to e g t. absurd (cc))

    pub ports-one : v.ports ≡ u.ports
    ports-one = ext_get_or [] v.ports u.ports (ports-many h ∙ sym (ports-many k)) (λ i l. port-one i)

  module _ (signals-one : (r : ℕ) → word_at v.signals r ≡ word_at u.signals r) where
    -- with all signals all words agree
    pub words-one : v ≡ u
    words-one =
        words-eq v.signals v.ports u
        (ext_get_or [] v.signals u.signals (signals-many h ∙ sym (signals-many k)) (λ i l. signals-one i))
        (ports-one (λ r. Unit {0}) (λ r z. signals-one r) (λ p x c t r z. tt))
