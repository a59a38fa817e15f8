-- Steps to a number by one that stands, shifted or not, and by its lowest digit.
use Rattle.std.proofs.Common.{◌≡◌, ◌⊎◌, inl, inr, ⊎_elim, ℕ, zero, suc, ◌+◌, ◌-◌, ◌*◌, ◌%◌, ◌^◌, ◌≤◌, ◌<◌, List, [], ◌∷◌, length, get_or, All, Contains, refl, sym, ap, subst, arith}
use Rattle.std.proofs.lemmas.List.Elements.{All-contains}
use Rattle.opgen_graph.specs.declared.forms.Form.{Form}
use Rattle.opgen_graph.specs.declared.forms.Form.TheVariants.{A, B, C}
use Rattle.opgen_graph.specs.declared.ranks.Adder.{Adder}
use Rattle.opgen_graph.specs.Adders.{Makes, place}
use Rattle.opgen_graph.specs.Graphs.{values}
use Rattle.opgen_graph.proofs.Members.{here, there}
use Rattle.opgen_graph.proofs.Powers.{twice, positive}
use Rattle.opgen_graph.specs.Reach.{IsWide, IsWideMember}
use Rattle.opgen_shared.specs.declared.steps.Shifted.{Shifted}
use Rattle.opgen_shared.specs.Rule.{IsShiftedLeft}
use Rattle.opgen_shared.specs.Steps.{IsDigitAdder, IsRest, IsShifted}
use Rattle.opgen_shared.proofs.Forms.{fewer_plus, fewer_minus}

pub at_least : (j a : ℕ) → a ≤ 2 ^ j * a
at_least zero a = omega arith
at_least (suc j) a = omega (arith, twice j a, at_least j a)

pub half_most : (j a n : ℕ) → 1 ≤ j → 2 ^ j * a ≡ n → 2 * a ≤ n
half_most zero a n some e = absurd (omega arith)
half_most (suc j) a n some e = omega (arith, twice j a, at_least j a, e)

pub even_shifted : (j a n : ℕ) → 1 ≤ j → n ≡ 2 ^ j * a → n % 2 ≡ 0
even_shifted zero a n some e = absurd (omega arith)
even_shifted (suc j) a n some e = omega (arith, twice j a, e)

-- ---- the operands
pub shifted_left : (a : Adder) (value u v shift : ℕ) (form : Form)
    → a ≡ record { value = value; u = u; v = v; step = record { form = form; shift = shift } }
    → IsWide u → IsWide v → place form ≤ 2 → 1 ≤ shift → Makes form shift u v value → IsShiftedLeft a
shifted_left a value u v shift form e wu wv low some m =
    subst IsShiftedLeft (sym e) (record { u = wu; v = wv; form = low; shifted = some; makes = m })

pub rest_first : (p : List ℕ) (a : Adder) (value u v shift : ℕ) (form : Form)
    → a ≡ record { value = value; u = u; v = v; step = record { form = form; shift = shift } } → Contains p v → IsRest p a u
rest_first p a value u v shift form e c = inl (ap (λ b. b.u) e, subst (Contains p) (sym (ap (λ b. b.v) e)) c)

pub rest_second : (p : List ℕ) (a : Adder) (value u v shift : ℕ) (form : Form)
    → a ≡ record { value = value; u = u; v = v; step = record { form = form; shift = shift } } → Contains p u → IsRest p a v
rest_second p a value u v shift form e c = inr (ap (λ b. b.v) e, subst (Contains p) (sym (ap (λ b. b.u) e)) c)

pub rest_wide : (p : List ℕ) (a : Adder) (rest : ℕ) → IsShiftedLeft a → IsRest p a rest → IsWide rest
rest_wide p a rest s r =
    ⊎_elim (λ (h : (a.u ≡ rest) × Contains p a.v). subst IsWide h.0 s.u) (λ (h : (a.v ≡ rest) × Contains p a.u). subst IsWide h.0 s.v) r

pub one_stands : (p : List ℕ) (a : Adder) (rest : ℕ) → IsRest p a rest → Contains p a.u ⊎ Contains p a.v
one_stands p a rest r = ⊎_elim (λ (h : (a.u ≡ rest) × Contains p a.v). inr h.1) (λ (h : (a.v ≡ rest) × Contains p a.u). inl h.1) r

-- an operand stands once the rest does
pub first_stands : (p q : List ℕ) (a : Adder) (rest : ℕ) → IsRest p a rest → Contains q rest → ((y : ℕ) → Contains p y → Contains q y)
    → Contains q a.u
first_stands p q a rest r made kept =
    ⊎_elim (λ (h : (a.u ≡ rest) × Contains p a.v). subst (Contains q) (sym h.0) made)
    (λ (h : (a.v ≡ rest) × Contains p a.u). kept a.u h.1) r

pub second_stands : (p q : List ℕ) (a : Adder) (rest : ℕ) → IsRest p a rest → Contains q rest → ((y : ℕ) → Contains p y → Contains q y)
    → Contains q a.v
second_stands p q a rest r made kept =
    ⊎_elim (λ (h : (a.u ≡ rest) × Contains p a.v). kept a.v h.1)
    (λ (h : (a.v ≡ rest) × Contains p a.u). subst (Contains q) (sym h.0) made) r

-- ---- by a number that stands
-- the distance is added to the operand, or the operand is above the number by it
abbrev pub IsFar : (number operand diff : ℕ) → Form → Type 0
IsFar number operand diff form = ((form ≡ A) × (diff + operand ≡ number)) ⊎ ((form ≡ C) × (operand ≡ number + diff))

pub distance_step : (a : Adder) (number operand diff shift rest : ℕ) (form : Form)
    → a ≡ record { value = number; u = rest; v = operand; step = record { form = form; shift = shift } }
    → IsWide operand → rest % 2 ≡ 1 → 2 ^ shift * rest ≡ diff → diff % 2 ≡ 0 → diff < 2 ^ 22 → IsFar number operand diff form
    → IsShiftedLeft a
distance_step a number operand diff shift rest form e wo odd product even small way =
    let some = positive shift rest diff odd even product in
    let wide : IsWide rest = (odd, omega (arith, half_most shift rest diff some product, small)) in
    ⊎_elim
    (λ (w : (form ≡ A) × (diff + operand ≡ number)).
    let plus : Makes A shift rest operand number = omega (arith, w.1, product) in
    shifted_left a number rest operand shift form e wide wo (subst (λ g. place g ≤ 2) (sym w.0) (omega arith)) some
    (subst (λ g. Makes g shift rest operand number) (sym w.0) plus))
    (λ (w : (form ≡ C) × (operand ≡ number + diff)).
    let less : Makes C shift rest operand number = omega (arith, w.1, product) in
    shifted_left a number rest operand shift form e wide wo (subst (λ g. place g ≤ 2) (sym w.0) (omega arith)) some
    (subst (λ g. Makes g shift rest operand number) (sym w.0) less))
    way

pub sum_step : (a : Adder) (number operand shift rest : ℕ)
    → a ≡ record { value = number; u = rest; v = operand; step = record { form = B; shift = shift } }
    → IsWide number → IsWide operand → rest % 2 ≡ 1 → 2 ^ shift * rest ≡ number + operand → IsShiftedLeft a
sum_step a number operand shift rest e wn wo odd product =
    let some = positive shift rest (number + operand) odd (omega (arith, wn.0, wo.0)) product in
    let wide : IsWide rest = (odd, omega (arith, half_most shift rest (number + operand) some product, wn.1, wo.1)) in
    shifted_left a number rest operand shift B e wide wo (omega arith) some product

-- ---- by a number that stands, shifted
abbrev pub IsNear : (number size rest : ℕ) → Form → Type 0
IsNear number size rest form = ((form ≡ A) × (size + rest ≡ number)) ⊎ ((form ≡ B) × (size ≡ number + rest))

pub shifted_distance_step : (a : Adder) (number rest : ℕ) (by : Shifted) (form : Form)
    → a ≡ record { value = number; u = by.operand; v = rest; step = record { form = form; shift = by.shift } }
    → IsWide number → IsShifted by → rest < 2 ^ 21 → IsNear number by.size rest form → IsShiftedLeft a
shifted_distance_step a number rest by form e wn is small way =
    let even = even_shifted by.shift by.operand by.size is.shifted is.product in
    ⊎_elim (λ (w : (form ≡ A) × (by.size + rest ≡ number)).
    let wide : IsWide rest = (omega (arith, wn.0, even, w.1), small) in
    let plus : Makes A by.shift by.operand rest number = omega (arith, w.1, is.product) in
    shifted_left a number by.operand rest by.shift form e is.wide wide (subst (λ g. place g ≤ 2) (sym w.0) (omega arith)) is.shifted
    (subst (λ g. Makes g by.shift by.operand rest number) (sym w.0) plus))
    (λ (w : (form ≡ B) × (by.size ≡ number + rest)).
    let wide : IsWide rest = (omega (arith, wn.0, even, w.1), small) in
    let less : Makes B by.shift by.operand rest number = omega (arith, w.1, is.product) in
    shifted_left a number by.operand rest by.shift form e is.wide wide (subst (λ g. place g ≤ 2) (sym w.0) (omega arith)) is.shifted
    (subst (λ g. Makes g by.shift by.operand rest number) (sym w.0) less))
    way

pub shifted_sum_step : (a : Adder) (number : ℕ) (by : Shifted)
    → a ≡ record { value = number; u = by.operand; v = number + by.size; step = record { form = C; shift = by.shift } }
    → IsWide number → IsShifted by → number + by.size < 2 ^ 21 → IsShiftedLeft a
shifted_sum_step a number by e wn is small =
    let even = even_shifted by.shift by.operand by.size is.shifted is.product in
    let wide : IsWide (number + by.size) = (omega (arith, wn.0, even), small) in
    shifted_left a number by.operand (number + by.size) by.shift C e is.wide wide (omega arith) is.shifted (omega (arith, is.product))

-- ---- by the lowest digit
pub digit_plus : (n rest shift : ℕ) (a : Adder)
    → a ≡ record { value = n; u = rest; v = 1; step = record { form = A; shift = shift } }
    → IsWideMember n → n % 4 ≡ 1 → rest % 2 ≡ 1 → 2 ^ shift * rest ≡ n - 1 → IsDigitAdder n a
digit_plus n rest shift a e wide four odd product =
    let some = positive shift rest (n - 1) odd (omega (arith, wide.0)) product in
    subst (IsDigitAdder n) (sym e) (record {
      value = refl;
      wide = (odd, omega (arith, half_most shift rest (n - 1) some product, wide.2));
      one = refl;
      form = omega arith;
      shifted = some;
      makes = omega (arith, product, wide.1);
      fewer = λ k h. fewer_plus n shift rest k four odd product h;
    })

pub digit_minus : (n rest shift : ℕ) (a : Adder)
    → a ≡ record { value = n; u = rest; v = 1; step = record { form = B; shift = shift } }
    → IsWideMember n → n % 4 ≡ 3 → rest % 2 ≡ 1 → 2 ^ shift * rest ≡ n + 1 → IsDigitAdder n a
digit_minus n rest shift a e wide four odd product =
    let some = positive shift rest (n + 1) odd (omega (arith, wide.0)) product in
    subst (IsDigitAdder n) (sym e) (record {
      value = refl;
      wide = (odd, omega (arith, half_most shift rest (n + 1) some product, wide.2));
      one = refl;
      form = omega arith;
      shifted = some;
      makes = product;
      fewer = λ k h. fewer_minus n shift rest k four odd product h;
    })

-- ---- the values of adders
value_at : (done : List Adder) (i : ℕ) (d : Adder) → i < length done → Contains (values done) (get_or done i d).value
value_at [] i d lt = absurd (omega arith)
value_at (a ∷ done) zero d lt = here a.value (values done)
value_at (a ∷ done) (suc i) d lt = there a.value (get_or done i d).value (values done) (value_at done i d (omega (arith, lt)))

pub value_in : (done items : List Adder) (i : ℕ) (d : Adder) → items ≡ done → i < length items → Contains (values done) (get_or items i d).value
value_in done items i d e lt = subst (λ xs. Contains (values xs) (get_or items i d).value) e (value_at items i d lt)

pub wide_value : (done : List Adder) (x : ℕ) → All IsWideMember (values done) → Contains (values done) x → IsWide x
wide_value done x all c = let w = All-contains IsWideMember (values done) x all c in (w.0, w.2)
