-- The heights that are less than a number of bits.
use Rattle.std.proofs.Common.{◌≡◌, ℕ, zero, suc, ◌+◌, ◌/◌, ◌<◌, ◌≤◌, Bool, true, false, List, [], ◌∷◌, ◌++◌, ◌-◌, reverse, length, length-append, refl, sym, ap, ◌∙◌, arith}
use Rattle.std.specs.Prelude.{filter, nat_lt, All, if◌then◌else◌}
use Rattle.std.proofs.lemmas.Bool.{ltb-true, lt-ltb}
use Rattle.std.proofs.lemmas.List.Elements.{All-cons, All-nil, All-push}
use Rattle.std.proofs.lemmas.List.{reverse-append}
use Rattle.opgen_compress.specs.Recipe.{height, falling, heights_below}

abbrev pub less : ℕ → ℕ → Bool
less bits h = nat_lt h bits

pub height-above : (k : ℕ) → k + 2 ≤ height k
height-above zero = omega arith
height-above (suc k) = omega (arith, height-above k)

height-rises : (k j : ℕ) → height k ≤ height (k + j)
height-rises k zero =
    let same : k + 0 ≡ k = omega arith in
    omega (arith, ap height same)
height-rises k (suc j) =
    let same : k + suc j ≡ suc (k + j) = omega arith in
    omega (arith, ap height same, height-rises k j)

pub filter-taken : (bits h : ℕ) (hs : List ℕ) → h < bits → filter (less bits) (h ∷ hs) ≡ h ∷ filter (less bits) hs
filter-taken bits h hs l = ap (λ b. if b then h ∷ filter (less bits) hs else filter (less bits) hs) (lt-ltb h bits l)

filter-left : (bits h : ℕ) (hs : List ℕ) → bits ≤ h → filter (less bits) (h ∷ hs) ≡ filter (less bits) hs
filter-left bits h hs l = by (nat_lt h bits) (ltb-true h bits)
  where
    by : (b : Bool) → (b ≡ true → h < bits) → (if b then h ∷ filter (less bits) hs else filter (less bits) hs) ≡ filter (less bits) hs
    by true g = absurd (omega (arith, l, g refl))
    by false g = refl

-- from the first height on that is large enough none counts
beyond : (bits k j : ℕ) → bits ≤ height k → filter (less bits) (falling (k + j)) ≡ filter (less bits) (falling k)
beyond bits k zero h = ap (λ n. filter (less bits) (falling n)) (omega arith)
beyond bits k (suc j) h =
    let e : k + suc j ≡ suc (k + j) = omega arith in
    ap (λ n. filter (less bits) (falling n)) e
    ∙ filter-left bits (height (k + j)) (falling (k + j)) (omega (arith, h, height-rises k j))
    ∙ beyond bits k j h

pub heights-found : (bits k j : ℕ) → k + j ≡ bits → bits ≤ height k → filter (less bits) (falling k) ≡ falling k → heights_below bits
    ≡ falling k
heights-found bits k j e h f = ap (λ n. filter (less bits) (falling n)) (sym e) ∙ beyond bits k j h ∙ f

pub falling-large : (k : ℕ) → All (λ h. 2 ≤ h) (falling k)
falling-large zero = All-nil (λ h. 2 ≤ h)
falling-large (suc k) = All-cons (λ h. 2 ≤ h) (height k) (falling k) (omega (arith, height-above k)) (falling-large k)

-- the heights that a loop has found: the next one, and those before it
pub record Rising (bits next : ℕ) (found : List ℕ) : Type 0 where
  pub is_next : next ≡ height (length found)
  pub few : length found ≤ bits
  pub all : reverse found ≡ falling (length found)
  pub less : filter (less bits) (falling (length found)) ≡ falling (length found)
  pub large : All (λ h. 2 ≤ h) found

pub one_height : (bits next : ℕ) (found : List ℕ) → Rising bits next found → next < bits
    → Rising bits (next + next / 2) (found ++ next ∷ [])
one_height bits next found r l =
    let k = length found in
    let n : length (found ++ next ∷ []) ≡ suc k = omega (arith, length-append found (next ∷ [])) in
    record {
      is_next = ap (λ h. h + h / 2) r.is_next ∙ ap height (sym n);
      few = omega (arith, n, l, r.is_next, height-above k);
      all = reverse-append found (next ∷ []) ∙ ap (λ h. h ∷ reverse found) r.is_next ∙ ap (λ hs. height k ∷ hs) r.all ∙ ap falling (sym n);
      less = ap (λ m. filter (less bits) (falling m)) n
          ∙ filter-taken bits (height k) (falling k) (omega (arith, l, r.is_next))
          ∙ ap (λ hs. height k ∷ hs) r.less
          ∙ ap falling (sym n);
      large = All-push (λ h. 2 ≤ h) found next r.large (omega (arith, r.is_next, height-above k));
    }

pub all_heights : (bits next : ℕ) (found : List ℕ) → Rising bits next found → bits ≤ next → reverse found ≡ heights_below bits
all_heights bits next found r h =
    let k = length found in
    r.all ∙ sym (heights-found bits k (bits - k) (omega (arith, r.few)) (omega (arith, h, r.is_next)) r.less)
