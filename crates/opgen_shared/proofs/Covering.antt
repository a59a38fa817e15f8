-- Each step by an operand is the adder that the code makes of it.
use Rattle.std.proofs.Common.{◌≡◌, ◌≢◌, ◌⊎◌, inl, inr, ⊎_elim, ℕ, zero, suc, ◌+◌, ◌*◌, ◌%◌, ◌^◌, ◌≤◌, ◌<◌, List, [], ◌∷◌, ◌++◌, length, get_or, take, Contains, refl, sym, ap, subst, ◌∙◌, arith}
use Rattle.std.proofs.lemmas.Bool.{cases_lt}
use Rattle.std.proofs.lemmas.List.{take_more, take_all}
use Rattle.std.proofs.lemmas.List.Elements.{Contains-append_cases}
use Rattle.opgen_graph.specs.declared.forms.Form.{Form}
use Rattle.opgen_graph.specs.declared.forms.Form.TheVariants.{A, B, C, D, E}
use Rattle.opgen_graph.specs.declared.ranks.Adder.{Adder}
use Rattle.opgen_graph.specs.Adders.{Makes, place}
use Rattle.opgen_graph.specs.Graphs.{values}
use Rattle.opgen_graph.specs.Reach.{IsWide}
use Rattle.opgen_graph.proofs.Members.{of_cons, of_one}
use Rattle.opgen_graph.proofs.Powers.{one_split, twice}
use Rattle.opgen_shared.specs.declared.candidates.Candidate.{Candidate}
use Rattle.opgen_shared.specs.declared.steps.Shifted.{Shifted}
use Rattle.opgen_shared.specs.Rule.{IsStepTo, IsBest}
use Rattle.opgen_shared.specs.Steps.{IsNotAfter, IsLeastOf, IsShifted, IsDistanceTo, IsSumWith, IsShiftedDistance, IsShiftedSum, HasOperand}
use Rattle.opgen_shared.specs.Sums.{placed_by}
use Rattle.opgen_shared.proofs.Growing.{values_more}
use Rattle.opgen_shared.proofs.Ranking.{same_adder}
use Rattle.opgen_shared.proofs.StepLaws.{at_least, IsFar, IsNear}

-- ---- forms
-- the ways of an adder that is shifted to the left
abbrev Ways : (form : Form) (shift u v value : ℕ) → Type 0
Ways form shift u v value =
    ((form ≡ A) × (2 ^ shift * u + v ≡ value)) ⊎ (((form ≡ B) × (2 ^ shift * u ≡ value + v)) ⊎ ((form ≡ C) × (v ≡ value + 2 ^ shift * u)))

ways_of : (form : Form) (shift u v value : ℕ) → place form ≤ 2 → Makes form shift u v value → Ways form shift u v value
ways_of A shift u v value low m = inl (refl, m)
ways_of B shift u v value low m = inr (inl (refl, m))
ways_of C shift u v value low m = inr (inr (refl, m))
ways_of D shift u v value low m = absurd (omega (arith, low))
ways_of E shift u v value low m = absurd (omega (arith, low))

ways : (done : List Adder) (number : ℕ) (a : Adder) → IsStepTo done number a → Ways a.step.form a.step.shift a.u a.v number
ways done number a s =
    subst (Ways a.step.form a.step.shift a.u a.v) s.value (ways_of a.step.form a.step.shift a.u a.v a.value s.adder.form s.adder.makes)

apart : (f g h : Form) → f ≡ g → f ≡ h → place g ≢ place h → ⊥
apart f g h e d ne = ne (ap place (sym e ∙ d))

some_size : (shift u : ℕ) → u % 2 ≡ 1 → 0 < 2 ^ shift * u
some_size shift u odd = omega (arith, odd, at_least shift u)

-- a step is the adder of its number, its operands and its shift in its form
is_made : (a b : Adder) (number u v shift : ℕ) (form : Form)
    → b ≡ record { value = number; u = u; v = v; step = record { form = form; shift = shift } }
    → a.value ≡ number → a.u ≡ u → a.v ≡ v → a.step.shift ≡ shift → a.step.form ≡ form → b ≡ a
is_made a b number u v shift form e value eu ev es ef =
    e ∙ same_adder (record { value = number; u = u; v = v; step = record { form = form; shift = shift } }) a (sym value) (sym eu) (sym ev)
    (sym es) (sym ef)

-- what is not after an adder is not after the step that it is
pub least_made : (done : List Adder) (number : ℕ) (least a b : Adder) → (IsStepTo done b.value b → IsNotAfter done least b)
    → IsStepTo done number a → b ≡ a → IsNotAfter done least a
least_made done number least a b h s e =
    subst (λ c. IsStepTo done c.value c → IsNotAfter done least c) e h (subst (λ n. IsStepTo done n a) (sym s.value) s)

-- ---- by a number that stands
pub is_distance : (done : List Adder) (a b : Adder) (number operand diff shift rest : ℕ) (form : Form)
    → b ≡ record { value = number; u = rest; v = operand; step = record { form = form; shift = shift } }
    → rest % 2 ≡ 1 → 2 ^ shift * rest ≡ diff → IsFar number operand diff form → IsStepTo done number a → IsDistanceTo operand a → b ≡ a
is_distance done a b number operand diff shift rest form e odd product way s is =
    let some = some_size a.step.shift a.u s.adder.u.0 in
    let rest_some = some_size shift rest odd in
    let split : 2 ^ a.step.shift * a.u ≡ diff → a.step.form ≡ form → b ≡ a =
    λ d ef. let one = one_split a.step.shift shift a.u rest s.adder.u.0 odd (d ∙ sym product) in
    is_made a b number rest operand shift form e s.value one.1 is.0 one.0 ef in
    ⊎_elim
    (λ (w : (a.step.form ≡ A) × (2 ^ a.step.shift * a.u + a.v ≡ number)). ⊎_elim
    (λ (f : (form ≡ A) × (diff + operand ≡ number)). split (omega (arith, w.1, f.1, is.0)) (w.0 ∙ sym f.0))
    (λ (f : (form ≡ C) × (operand ≡ number + diff)). absurd (omega (arith, w.1, f.1, is.0, some))) way)
    (λ (other : ((a.step.form ≡ B) × (2 ^ a.step.shift * a.u ≡ number + a.v)) ⊎ ((a.step.form ≡ C) × (a.v ≡ number + 2 ^ a.step.shift * a.u))).
    ⊎_elim
    (λ (w : (a.step.form ≡ B) × (2 ^ a.step.shift * a.u ≡ number + a.v)). absurd (is.1 w.0))
    (λ (w : (a.step.form ≡ C) × (a.v ≡ number + 2 ^ a.step.shift * a.u)). ⊎_elim
    (λ (f : (form ≡ A) × (diff + operand ≡ number)). absurd (omega (arith, w.1, f.1, is.0, some)))
    (λ (f : (form ≡ C) × (operand ≡ number + diff)). split (omega (arith, w.1, f.1, is.0)) (w.0 ∙ sym f.0)) way)
    other)
    (ways done number a s)

pub is_sum : (done : List Adder) (a b : Adder) (number operand shift rest : ℕ)
    → b ≡ record { value = number; u = rest; v = operand; step = record { form = B; shift = shift } }
    → rest % 2 ≡ 1 → 2 ^ shift * rest ≡ number + operand → IsStepTo done number a → IsSumWith operand a → b ≡ a
is_sum done a b number operand shift rest e odd product s is =
    ⊎_elim
    (λ (w : (a.step.form ≡ A) × (2 ^ a.step.shift * a.u + a.v ≡ number)). absurd (apart a.step.form A B w.0 is.1 (λ z. omega (arith, z))))
    (λ (other : ((a.step.form ≡ B) × (2 ^ a.step.shift * a.u ≡ number + a.v)) ⊎ ((a.step.form ≡ C) × (a.v ≡ number + 2 ^ a.step.shift * a.u))).
    ⊎_elim
    (λ (w : (a.step.form ≡ B) × (2 ^ a.step.shift * a.u ≡ number + a.v)).
    let one = one_split a.step.shift shift a.u rest s.adder.u.0 odd (omega (arith, w.1, product, is.0)) in
    is_made a b number rest operand shift B e s.value one.1 is.0 one.0 w.0)
    (λ (w : (a.step.form ≡ C) × (a.v ≡ number + 2 ^ a.step.shift * a.u)). absurd (apart a.step.form C B w.0 is.1 (λ z. omega (arith, z))))
    other)
    (ways done number a s)

-- ---- by a number that stands, shifted
shifted_size : (a : Adder) (by : Shifted) → IsShifted by → a.u ≡ by.operand → a.step.shift ≡ by.shift → 2 ^ a.step.shift * a.u ≡ by.size
shifted_size a by is eu es = ap (λ x. 2 ^ a.step.shift * x) eu ∙ ap (λ i. 2 ^ i * by.operand) es ∙ sym is.product

-- the rest of a step by the distance to a shifted number is that distance
pub near_rest : (done : List Adder) (a : Adder) (number : ℕ) (by : Shifted) → IsShifted by → IsStepTo done number a → IsShiftedDistance by a
    → ((a.step.form ≡ A) × (by.size + a.v ≡ number)) ⊎ ((a.step.form ≡ B) × (by.size ≡ number + a.v))
near_rest done a number by shifted s is =
    let size = shifted_size a by shifted is.0 is.1 in
    ⊎_elim
    (λ (w : (a.step.form ≡ A) × (2 ^ a.step.shift * a.u + a.v ≡ number)). inl (w.0, omega (arith, w.1, size)))
    (λ (other : ((a.step.form ≡ B) × (2 ^ a.step.shift * a.u ≡ number + a.v)) ⊎ ((a.step.form ≡ C) × (a.v ≡ number + 2 ^ a.step.shift * a.u))).
    ⊎_elim
    (λ (w : (a.step.form ≡ B) × (2 ^ a.step.shift * a.u ≡ number + a.v)). inr (w.0, omega (arith, w.1, size)))
    (λ (w : (a.step.form ≡ C) × (a.v ≡ number + 2 ^ a.step.shift * a.u)). absurd (is.2 w.0))
    other)
    (ways done number a s)

pub is_shifted_distance : (done : List Adder) (a b : Adder) (number rest : ℕ) (by : Shifted) (form : Form)
    → b ≡ record { value = number; u = by.operand; v = rest; step = record { form = form; shift = by.shift } }
    → IsShifted by → IsNear number by.size rest form → number % 2 ≡ 1 → by.size % 2 ≡ 0 → IsStepTo done number a → IsShiftedDistance by a → b ≡ a
is_shifted_distance done a b number rest by form e shifted way odd even s is =
    ⊎_elim
    (λ (w : (a.step.form ≡ A) × (by.size + a.v ≡ number)). ⊎_elim
    (λ (f : (form ≡ A) × (by.size + rest ≡ number)).
    is_made a b number by.operand rest by.shift form e s.value is.0 (omega (arith, w.1, f.1)) is.1 (w.0 ∙ sym f.0))
    (λ (f : (form ≡ B) × (by.size ≡ number + rest)). absurd (omega (arith, w.1, f.1, odd, even))) way)
    (λ (w : (a.step.form ≡ B) × (by.size ≡ number + a.v)). ⊎_elim
    (λ (f : (form ≡ A) × (by.size + rest ≡ number)). absurd (omega (arith, w.1, f.1, odd, even)))
    (λ (f : (form ≡ B) × (by.size ≡ number + rest)).
    is_made a b number by.operand rest by.shift form e s.value is.0 (omega (arith, w.1, f.1)) is.1 (w.0 ∙ sym f.0)) way)
    (near_rest done a number by shifted s is)

pub far_rest : (done : List Adder) (a : Adder) (number : ℕ) (by : Shifted) → IsShifted by → IsStepTo done number a → IsShiftedSum by a
    → a.v ≡ number + by.size
far_rest done a number by shifted s is =
    let size = shifted_size a by shifted is.0 is.1 in
    ⊎_elim
    (λ (w : (a.step.form ≡ A) × (2 ^ a.step.shift * a.u + a.v ≡ number)). absurd (apart a.step.form A C w.0 is.2 (λ z. omega (arith, z))))
    (λ (other : ((a.step.form ≡ B) × (2 ^ a.step.shift * a.u ≡ number + a.v)) ⊎ ((a.step.form ≡ C) × (a.v ≡ number + 2 ^ a.step.shift * a.u))).
    ⊎_elim
    (λ (w : (a.step.form ≡ B) × (2 ^ a.step.shift * a.u ≡ number + a.v)). absurd (apart a.step.form B C w.0 is.2 (λ z. omega (arith, z))))
    (λ (w : (a.step.form ≡ C) × (a.v ≡ number + 2 ^ a.step.shift * a.u)). omega (arith, w.1, size))
    other)
    (ways done number a s)

pub is_shifted_sum : (done : List Adder) (a b : Adder) (number : ℕ) (by : Shifted)
    → b ≡ record { value = number; u = by.operand; v = number + by.size; step = record { form = C; shift = by.shift } }
    → IsShifted by → IsStepTo done number a → IsShiftedSum by a → b ≡ a
is_shifted_sum done a b number by e shifted s is =
    is_made a b number by.operand (number + by.size) by.shift C e s.value is.0 (far_rest done a number by shifted s is) is.1 is.2

-- ---- by one number that stands
pub by_second : (done : List Adder) (number operand : ℕ) (least : Candidate) → IsLeastOf done number (IsDistanceTo operand) least
    → IsLeastOf done number (IsSumWith operand) least → IsLeastOf done number (λ a. a.v ≡ operand) least
by_second done number operand least far sum a s is =
    ⊎_elim
    (λ (w : (a.step.form ≡ A) × (2 ^ a.step.shift * a.u + a.v ≡ number)).
    far a s (is, λ b. apart a.step.form A B w.0 b (λ z. omega (arith, z))))
    (λ (other : ((a.step.form ≡ B) × (2 ^ a.step.shift * a.u ≡ number + a.v)) ⊎ ((a.step.form ≡ C) × (a.v ≡ number + 2 ^ a.step.shift * a.u))).
    ⊎_elim
    (λ (w : (a.step.form ≡ B) × (2 ^ a.step.shift * a.u ≡ number + a.v)). sum a s (is, w.0))
    (λ (w : (a.step.form ≡ C) × (a.v ≡ number + 2 ^ a.step.shift * a.u)).
    far a s (is, λ b. apart a.step.form C B w.0 b (λ z. omega (arith, z))))
    other)
    (ways done number a s)

-- by a number and less than a shift
abbrev pub IsBelow : (operand shift : ℕ) → Adder → Type 0
IsBelow operand shift a = (a.u ≡ operand) × (a.step.shift < shift)

pub one_shift_more : (done : List Adder) (number : ℕ) (by : Shifted) (least : Candidate) → IsLeastOf done number (IsBelow by.operand by.shift) least
    → IsLeastOf done number (IsShiftedDistance by) least → IsLeastOf done number (IsShiftedSum by) least
    → IsLeastOf done number (IsBelow by.operand (by.shift + 1)) least
one_shift_more done number by least before near far a s is =
    ⊎_elim (λ (lt : a.step.shift < by.shift). before a s (is.0, lt))
    (λ (le : by.shift ≤ a.step.shift).
    let e : a.step.shift ≡ by.shift = omega (arith, le, is.1) in
    ⊎_elim
    (λ (w : (a.step.form ≡ A) × (2 ^ a.step.shift * a.u + a.v ≡ number)).
    near a s (is.0, e, λ c. apart a.step.form A C w.0 c (λ z. omega (arith, z))))
    (λ (other : ((a.step.form ≡ B) × (2 ^ a.step.shift * a.u ≡ number + a.v)) ⊎ ((a.step.form ≡ C) × (a.v ≡ number + 2 ^ a.step.shift * a.u))).
    ⊎_elim
    (λ (w : (a.step.form ≡ B) × (2 ^ a.step.shift * a.u ≡ number + a.v)).
    near a s (is.0, e, λ c. apart a.step.form B C w.0 c (λ z. omega (arith, z))))
    (λ (w : (a.step.form ≡ C) × (a.v ≡ number + 2 ^ a.step.shift * a.u)). far a s (is.0, e, w.0))
    other)
    (ways done number a s))
    (cases_lt a.step.shift by.shift)

-- a shifted operand is below 2 ^ 22
small_size : (done : List Adder) (number : ℕ) (a : Adder) → IsWide number → IsStepTo done number a → 2 ^ a.step.shift * a.u < 2 ^ 22
small_size done number a wide s =
    let v = s.adder.v.1 in
    ⊎_elim
    (λ (w : (a.step.form ≡ A) × (2 ^ a.step.shift * a.u + a.v ≡ number)). omega (arith, w.1, wide.1))
    (λ (other : ((a.step.form ≡ B) × (2 ^ a.step.shift * a.u ≡ number + a.v)) ⊎ ((a.step.form ≡ C) × (a.v ≡ number + 2 ^ a.step.shift * a.u))).
    ⊎_elim
    (λ (w : (a.step.form ≡ B) × (2 ^ a.step.shift * a.u ≡ number + a.v)). omega (arith, w.1, wide.1, v))
    (λ (w : (a.step.form ≡ C) × (a.v ≡ number + 2 ^ a.step.shift * a.u)). omega (arith, w.1, v))
    other)
    (ways done number a s)

more_shift : (j k u : ℕ) → j ≤ k → 2 ^ j * u ≤ 2 ^ k * u
more_shift j zero u le = let e : j ≡ zero = omega (arith, le) in subst (λ i. 2 ^ i * u ≤ 2 ^ zero * u) (sym e) (omega arith)
more_shift j (suc k) u le =
    ⊎_elim (λ (lt : j < suc k). omega (arith, more_shift j k u (omega (arith, lt)), twice k u))
    (λ (ge : suc k ≤ j). let e : j ≡ suc k = omega (arith, le, ge) in subst (λ i. 2 ^ i * u ≤ 2 ^ suc k * u) (sym e) (omega arith))
    (cases_lt j (suc k))

pub all_shifts : (done : List Adder) (number operand shift size : ℕ) (least : Candidate) → IsWide number → size ≡ 2 ^ shift * operand → 2 ^ 22 ≤ size
    → IsLeastOf done number (IsBelow operand shift) least → IsLeastOf done number (λ a. a.v ≡ operand) least
    → IsLeastOf done number (HasOperand operand) least
all_shifts done number operand shift size least wide product large below second a s is =
    ⊎_elim
    (λ (u : a.u ≡ operand). ⊎_elim (λ (lt : a.step.shift < shift). below a s (u, lt))
    (λ (le : shift ≤ a.step.shift).
    let more : 2 ^ shift * operand ≤ 2 ^ a.step.shift * operand = more_shift shift a.step.shift operand le in
    let same : 2 ^ a.step.shift * a.u ≡ 2 ^ a.step.shift * operand = ap (λ x. 2 ^ a.step.shift * x) u in
    absurd (omega (arith, more, same, product, large, small_size done number a wide s)))
    (cases_lt a.step.shift shift))
    (λ (v : a.v ≡ operand). second a s v)
    is

-- ---- by all numbers that stand
abbrev pub IsAmong : (placed : List ℕ) → Adder → Type 0
IsAmong placed a = Contains placed a.u ⊎ Contains placed a.v

-- one adder more
one_value_more : (done : List Adder) (number i : ℕ) (d : Adder) (least : Candidate) → i < length done
    → IsLeastOf done number (IsAmong (values (take i done))) least → IsLeastOf done number (HasOperand (get_or done i d).value) least
    → IsLeastOf done number (IsAmong (values (take (i + 1) done))) least
one_value_more done number i d least lt before new a s is =
    let value = (get_or done i d).value in
    let more : values (take (i + 1) done) ≡ values (take i done) ++ value ∷ [] =
    ap values (take_more done i d lt) ∙ values_more (take i done) (get_or done i d) in
    let cases : (x : ℕ) → Contains (values (take (i + 1) done)) x → Contains (values (take i done)) x ⊎ (x ≡ value) =
    λ x c. ⊎_elim (λ (k : Contains (values (take i done)) x). inl k) (λ (k : Contains (value ∷ []) x). inr (sym (of_one value x k)))
    (Contains-append_cases (values (take i done)) (value ∷ []) x (subst (λ xs. Contains xs x) more c)) in
    ⊎_elim
    (λ (c : Contains (values (take (i + 1) done)) a.u).
    ⊎_elim (λ (k : Contains (values (take i done)) a.u). before a s (inl k)) (λ (e : a.u ≡ value). new a s (inl e)) (cases a.u c))
    (λ (c : Contains (values (take (i + 1) done)) a.v).
    ⊎_elim (λ (k : Contains (values (take i done)) a.v). before a s (inr k)) (λ (e : a.v ≡ value). new a s (inr e)) (cases a.v c))
    is

pub one_item_more : (done items : List Adder) (number i : ℕ) (d : Adder) (least : Candidate) → items ≡ done → i < length items
    → IsLeastOf done number (IsAmong (values (take i done))) least → IsLeastOf done number (HasOperand (get_or items i d).value) least
    → IsLeastOf done number (IsAmong (values (take (i + 1) done))) least
one_item_more done items number i d least e lt before new =
    one_value_more done number i d least (subst (λ xs. i < length xs) e lt) before
    (subst (λ xs. IsLeastOf done number (HasOperand (get_or xs i d).value) least) e new)

pub all_values : (done : List Adder) (number i : ℕ) (least : Candidate) → length done ≤ i → IsStepTo done number least.adder
    → IsLeastOf done number (HasOperand 1) least → IsLeastOf done number (IsAmong (values (take i done))) least → IsBest done number least.adder
all_values done number i least all step one among = record {
  step = step;
  least = λ b s. ⊎_elim
      (λ (c : Contains (placed_by done) b.u). ⊎_elim (λ (e : 1 ≡ b.u). one b s (inl (sym e)))
      (λ (k : Contains (values done) b.u). among b s (inl (whole b.u k))) (of_cons 1 b.u (values done) c))
      (λ (c : Contains (placed_by done) b.v). ⊎_elim (λ (e : 1 ≡ b.v). one b s (inr (sym e)))
      (λ (k : Contains (values done) b.v). among b s (inr (whole b.v k))) (of_cons 1 b.v (values done) c))
      s.stands;
}
  where
    whole : (x : ℕ) → Contains (values done) x → Contains (values (take i done)) x
    whole x c = subst (λ xs. Contains (values xs) x) (sym (take_all i done all)) c
