-- What stands after the drivers of a sound design have been evaluated in order.
use Rattle.std.proofs.Common.{◌≡◌, ℕ, zero, suc, ◌+◌, ◌<◌, ◌≤◌, Bool, true, false, if◌then◌else◌, List, [], ◌∷◌, length, drop, Some, refl, sym, ap, ◌∙◌, subst, inl, inr, arith}
use Rattle.std.specs.Prelude.{◌≢◌, Contains, IfSome, slice_get, Option, None}
use Rattle.std.proofs.lemmas.Bool.{cases_lt, cases_eq}
use Rattle.std.proofs.lemmas.List.{length-drop, get_or-set_same, get_or-set_other}
use Rattle.std.proofs.lemmas.List.Sorted.{Contains-permutation, IsPermutation-sym}
use Rattle.std.proofs.lemmas.Map.Made.{Contains-tail}
use Rattle.std.proofs.lemmas.Option.{slice_get_within}
use Rattle.opgen_design.specs.declared.design.Design.{Design}
use Rattle.opgen_design.specs.declared.design.Driver.{Driver}
use Rattle.opgen_design.specs.declared.design.Driver.TheVariants.{Register}
use Rattle.opgen_design.specs.Tree.{Tree}
use Rattle.opgen_design.specs.Order.{is_register, IsOrderOf, waiting}
use Rattle.opgen_design.specs.Run.{Words, scope}
use Rattle.opgen_design.specs.declared.design.Target.{Target}
use Rattle.opgen_design.specs.declared.design.Target.TheVariants.{Signal as signal, Port as port_of}
use Rattle.opgen_design.specs.declared.sound.Rule.TheVariants.{ReadsOutput}
use Rattle.opgen_design.specs.Sound.{IsSound, target, ReadsInputs, DriverPasses, at_driver, IsInput}
use Rattle.opgen_design.proofs.SoundLaws.{declared-at, once-at, at-contains, contains-at}
use Rattle.opgen_runs.specs.Evaluate.{HaveWidths, IsThere, driver_word, put_at, put, put_option, settle}
use Rattle.opgen_runs.proofs.Reading.{at, driver-same}
use Rattle.opgen_runs.proofs.Widths.{agree-at, put-widths, declared-there}

-- a word put at a target
at-put : (t : Target) (w : List Bool) (v : Words) → IsThere v t → at t (put_at t w v) ≡ w
at-put (signal s) w v l = get_or-set_same v.signals s w [] l
at-put (port_of p) w v l = get_or-set_same v.ports p w [] l

at-other : (t u : Target) (w : List Bool) (v : Words) → u ≢ t → at u (put_at t w v) ≡ at u v
at-other (signal s) (signal r) w v n = get_or-set_other v.signals s r w [] (λ e. n (ap signal e))
at-other (signal s) (port_of p) w v n = refl
at-other (port_of p) (signal s) w v n = refl
at-other (port_of p) (port_of q) w v n = get_or-set_other v.ports p q w [] (λ e. n (ap port_of e))

-- the front of what is left of a list
drop-head : {X : Type 0} (xs : List X) (n : ℕ) (x : X) (rest : List X) → drop n xs ≡ x ∷ rest → (slice_get xs n ≡ Some x)
    × (drop (suc n) xs ≡ rest)
drop-head [] zero x rest h = absurd (cc)
drop-head [] (suc n) x rest h = absurd (cc)
drop-head (y ∷ ys) zero x rest h = let a : y ≡ x = cc in let b : ys ≡ rest = cc in (ap Some a, b)
drop-head (y ∷ ys) (suc n) x rest h = drop-head ys n x rest h

-- the places that wait are those of drivers that are no registers
abbrev Found : List Driver → ℕ → ℕ → Type 0
Found ks b i = (j : ℕ) × (k : Driver) × (i ≡ b + j) × (slice_get ks j ≡ Some k) × (is_register k ≡ false)

found-later : (k : Driver) (ks : List Driver) (b i : ℕ) → Found ks (b + 1) i → Found (k ∷ ks) b i
found-later k ks b i f = (suc f.0, f.1, omega (arith, f.2), f.3, f.4)

found-more : (k : Driver) (ks : List Driver) (b i : ℕ) (r : Bool) → is_register k ≡ r
    → (Contains (waiting (b + 1) ks) i → Found ks (b + 1) i)
    → Contains (if r then waiting (b + 1) ks else b ∷ waiting (b + 1) ks) i → Found (k ∷ ks) b i
found-more k ks b i true e f c = found-later k ks b i (f c)
found-more k ks b i false e f c = elim (cases_eq b i) [
  | inl x ↦ (0, k, omega (arith, x), refl, e)
  | inr x ↦ found-later k ks b i (f (Contains-tail b (waiting (b + 1) ks) i x c))
]

waiting-found : (ks : List Driver) (b i : ℕ) → Contains (waiting b ks) i → Found ks b i
waiting-found [] b i c = absurd (omega (arith, c.1))
waiting-found (k ∷ ks) b i c = found-more k ks b i (is_register k) refl (waiting-found ks (b + 1) i) c

has-more : (r : Bool) (b i : ℕ) (xs : List ℕ) → Contains xs i → Contains (if r then xs else b ∷ xs) i
has-more true b i xs c = c
has-more false b i xs c = (suc c.0, omega (arith, c.1), c.2)

waiting-has : (ks : List Driver) (b j i : ℕ) (k : Driver) → slice_get ks j ≡ Some k → is_register k ≡ false → i ≡ b + j
    → Contains (waiting b ks) i
waiting-has [] b j i k e r h = absurd (cc)
waiting-has (m ∷ ks) b zero i k e r h =
    let same : m ≡ k = cc in
    let f : is_register m ≡ false = ap is_register same ∙ r in
    subst (λ x. Contains (if x then waiting (b + 1) ks else b ∷ waiting (b + 1) ks) i) (sym f) (0, omega arith, omega (arith, h))
waiting-has (m ∷ ks) b (suc j) i k e r h = has-more (is_register m) b i (waiting (b + 1) ks)
    (waiting-has ks (b + 1) j i k e r (omega (arith, h)))

module _ (d : Design) (sound : IsSound d) (order : List ℕ) (o : IsOrderOf d order) where
  reads-at : (i : ℕ) (k : Driver) → slice_get d.drivers i ≡ Some k → ReadsInputs d k
  reads-at i k e = subst (λ x. IfSome x (DriverPasses d ReadsOutput i)) e (sound.reads_inputs (at_driver i))

  same-driver : (i : ℕ) (k m : Driver) → slice_get d.drivers i ≡ Some k → slice_get d.drivers i ≡ Some m → k ≡ m
  same-driver i k m e f = let a : Some k ≡ Some m = sym e ∙ f in cc

  -- drivers at different places drive different things
  pub targets-differ : (i j : ℕ) (k m : Driver) → slice_get d.drivers i ≡ Some k → slice_get d.drivers j ≡ Some m → i ≢ j
      → target k ≢ target m
  targets-differ i j k m e f n = λ t. elim (cases_lt i j) [
    | inl l ↦ (once-at d sound.driven_once j m f).not_before i k l e t
    | inr l ↦ (once-at d sound.driven_once i k e).not_before j m (omega (arith, l, n)) f (sym t)
  ]

  pub placed : (p i : ℕ) → slice_get order p ≡ Some i → (k : Driver) × (slice_get d.drivers i ≡ Some k) × (is_register k ≡ false)
  placed p i e =
      let c = Contains-permutation order (waiting 0 d.drivers) i (IsPermutation-sym (waiting 0 d.drivers) order o.each_once)
      (at-contains order p i e) in
      let f = waiting-found d.drivers 0 i c in
      (f.1, subst (λ j. slice_get d.drivers j ≡ Some f.1) (sym (omega (arith, f.2))) f.3, f.4)

  pub in-order : (i : ℕ) (k : Driver) → slice_get d.drivers i ≡ Some k → is_register k ≡ false → (p : ℕ) × (slice_get order p ≡ Some i)
  in-order i k e r = contains-at order i (Contains-permutation (waiting 0 d.drivers) order i o.each_once (waiting-has d.drivers 0 i i k e r
      (omega arith)))

  -- a driver's word stands where it drives
  abbrev pub Stands : Words → Driver → Type 0
  Stands v k = at (target k) v ≡ driver_word (scope v) k

  abbrev StandUpTo : ℕ → Words → Type 0
  StandUpTo n v = (p i : ℕ) (k : Driver) → p < n → slice_get order p ≡ Some i → slice_get d.drivers i ≡ Some k → Stands v k

  -- one driver more
  module _ (v : Words) (h : HaveWidths d v) (n i : ℕ) (k : Driver) (at-order : slice_get order n ≡ Some i)
      (at-drivers : slice_get d.drivers i ≡ Some k) (before : StandUpTo n v) where
    unread : (p j : ℕ) (m : Driver) → p ≤ n → slice_get order p ≡ Some j → slice_get d.drivers j ≡ Some m → driver_word (scope (put k v)) m
        ≡ driver_word (scope v) m
    unread p j m l e f =
        let r = placed p j e in
        let g = subst (λ x. is_register x ≡ false) (same-driver j r.0 m r.1 f) r.2 in
        driver-same d (driver_word (scope v) k) v (target k) m (reads-at j m f) g
        (λ s t x. let q = o.needs_first p n j i s m k e f at-order at-drivers t x in absurd (omega (arith, q, l)))
        (once-at d sound.driven_once i k at-drivers).no_input
        (declared-at d sound.declared i k at-drivers).target

    itself : Stands (put k v) k
    itself = at-put (target k) (driver_word (scope v) k) v (declared-there d sound v h i k at-drivers)
        ∙ sym (unread n i k (omega arith) at-order at-drivers)

    pub one-more : StandUpTo (suc n) (put k v)
    one-more p j m l e f = elim (cases_eq j i) [
      | inl x ↦ subst (Stands (put k v)) (same-driver i k m at-drivers (subst (λ y. slice_get d.drivers y ≡ Some m) x f)) itself
      | inr x ↦
          let p-before : p < n = elim (cases_eq p n) [
            | inl y ↦ let a : Some j ≡ Some i = sym e ∙ ap (slice_get order) y ∙ at-order in let b : j ≡ i = cc in absurd (x b)
            | inr y ↦ omega (arith, l, y)
          ] in
          at-other (target k) (target m) (driver_word (scope v) k) v (targets-differ j i m k f at-drivers x)
          ∙ before p j m p-before e f
          ∙ sym (unread p j m (omega (arith, p-before)) e f)
    ]

  stand-on : (todo : List ℕ) (n : ℕ) (v : Words) → HaveWidths d v → drop n order ≡ todo → StandUpTo n v
      → StandUpTo (length order) (settle d.drivers todo v)
  stand-on [] n v h e before = λ p i k l. before p i k (omega (arith, l, ap length e, length-drop n order))
  stand-on (i ∷ todo) n v h e before =
      let a = drop-head order n i todo e in
      let k = placed n i a.0 in
      subst (λ x. StandUpTo (length order) (settle d.drivers todo (put_option x v))) (sym k.1)
      (stand-on todo (suc n) (put k.0 v) (put-widths d sound v h k.0 (agree-at d sound i k.0 k.1)) a.1
      (one-more v h n i k.0 a.0 k.1 before))

  -- each driver that is no register has its word after the drivers have been evaluated in order
  pub stands : (v : Words) → HaveWidths d v → (i : ℕ) (k : Driver) → slice_get d.drivers i ≡ Some k → is_register k ≡ false
      → Stands (settle d.drivers order v) k
  stands v h i k e r =
      let p = in-order i k e r in
      stand-on order 0 v h refl (λ p i k l. absurd (omega (arith, l))) p.0 i k (slice_get_within order p.0 i p.1) p.1 e

  -- what is driven by none of the drivers keeps its word
  kept : (t : Target) (todo : List ℕ) (v : Words)
      → ((p i : ℕ) (k : Driver) → slice_get todo p ≡ Some i → slice_get d.drivers i ≡ Some k → t ≢ target k)
      → at t (settle d.drivers todo v) ≡ at t v
  kept t [] v f = refl
  kept t (i ∷ todo) v f = kept t todo (put_option (slice_get d.drivers i) v) (λ p j k e g. f (suc p) j k e g)
      ∙ by-option (slice_get d.drivers i) refl
    where
      by-option : (x : Option Driver) → slice_get d.drivers i ≡ x → at t (put_option x v) ≡ at t v
      by-option None e = refl
      by-option (Some k) e = at-other (target k) t (driver_word (scope v) k) v (f 0 i k refl e)

  -- a register keeps its word of the cycle, and an input port that which is given
  pub register-kept : (v : Words) (i to : ℕ) (e : Tree) → slice_get d.drivers i ≡ Some (Register to e)
      → at (signal to) (settle d.drivers order v) ≡ at (signal to) v
  register-kept v i to e h = kept (signal to) order v (λ p j k a b.
      let r = placed p j a in
      let g = subst (λ x. is_register x ≡ false) (same-driver j r.0 k r.1 b) r.2 in
      elim (cases_eq i j) [
        | inl x ↦
            let same = same-driver j (Register to e) k (subst (λ y. slice_get d.drivers y ≡ Some (Register to e)) x h) b in
            let f : is_register (Register to e) ≡ false = ap is_register same ∙ g in
            absurd (cc)
        | inr x ↦ targets-differ i j (Register to e) k h b x
      ])

  pub input-kept : (v : Words) (p : ℕ) → IsInput d (port_of p) → at (port_of p) (settle d.drivers order v) ≡ at (port_of p) v
  input-kept v p h = kept (port_of p) order v (λ q j k a b t. (once-at d sound.driven_once j k b).no_input (subst (IsInput d) t h))
