-- The nets along the adders of a graph: each of their multiples is the input times its factor.
use Rattle.std.proofs.Common.{◌≡◌, ◌≢◌, ℕ, ◌+◌, ◌*◌, ◌^◌, ◌<◌, ◌≤◌, Bool, true, false, List, [], ◌∷◌, ◌++◌, length, drop, append_assoc, refl, sym, ap, ◌∙◌, subst, ⊎_elim, arith}
use Rattle.std.specs.Prelude.{ℤ, pos, ◌*ℤ◌, All, Contains, slice_index_or, nat_eq, if◌then◌else◌}
use Rattle.std.proofs.Math.Nat.{mul-le-mul_left}
use Rattle.std.proofs.lemmas.Bool.{eqb-true, eqb-false}
use Rattle.std.proofs.lemmas.Int.{ints}
use Rattle.std.proofs.lemmas.List.{append-nil, map-append, drop_more}
use Rattle.std.proofs.lemmas.List.Elements.{All-cons, All-nil, All-head, All-tail, All-push, All-weaker, All-contains}
use Rattle.opgen_num.specs.declared.format.TheConstants.{MAX_INPUT, MAX_WIDTH}
use Rattle.opgen_num.specs.declared.format.Format.{Format}
use Rattle.opgen_num.specs.Formats.{Holds}
use Rattle.opgen_num.specs.Words.{val}
use Rattle.opgen_num.proofs.BitLength.{length_holds, length_least, power_cancel}
use Rattle.opgen_num.proofs.Values.{val_holds}
use Rattle.opgen_design.specs.Run.{AreWords}
use Rattle.opgen_design.specs.Value.{IsWidth}
use Rattle.opgen_net.specs.Flow.{Inputs, flow}
use Rattle.opgen_net.specs.Valid.{IsValid, input_widths}
use Rattle.opgen_net.proofs.FlowWidths.{flow-width}
use Rattle.opgen_net.proofs.Grown.{grown-flow}
use Rattle.opgen_net.specs.Placed.{Placed}
use Rattle.opgen_net.proofs.Later.{Later, later-same, later-then, words-later}
use Rattle.opgen_graph.specs.declared.forms.Form.{Form}
use Rattle.opgen_graph.specs.declared.forms.Form.TheVariants.{A, B, C, D, E}
use Rattle.opgen_graph.specs.declared.multiples.Multiple.{Multiple}
use Rattle.opgen_graph.specs.declared.ranks.Adder.{Adder}
use Rattle.opgen_graph.specs.Adders.{Makes}
use Rattle.opgen_graph.specs.GraphLaws.{IsWired}
use Rattle.opgen_graph.specs.Graphs.{values}
use Rattle.opgen_graph.specs.Placing.{factors, IsNarrow, AreAdders, HasInput, IsMultiple}
use Rattle.opgen_graph.specs.Reach.{IsWide, IsWideMember}
use Rattle.opgen_graph.specs.Recipe.{with_input, input_multiple, multiple_of, dropped, with_sum, without_lowest, Multiples, with_adder, with_adders, at_first}
use Rattle.opgen_graph.specs.SetCost.{bit_length}
use Rattle.opgen_graph.proofs.Kept.{keeps-later, words-back, input_there, input-kept, multiple-kept}
use Rattle.opgen_graph.proofs.Members.{of_cons, of_nil}
use Rattle.opgen_graph.proofs.Ranges.{product_holds}
use Rattle.opgen_graph.proofs.Residues.{has, settled, scaled}
use Rattle.opgen_graph.proofs.Sums.{IsPlacedNode, sum-placed, sum-has, lowest-placed, lowest-has}

-- the multiple by a factor that is there

pub multiple_of-all : (P : Multiple → Type 0) (known : List Multiple) (f : ℕ) → All P known → Contains (factors known) f
    → P (multiple_of known f)
multiple_of-all P [] f all c = absurd (of_nil f c)
multiple_of-all P (m ∷ ms) f all c =
    go (nat_eq m.factor f) (λ t. eqb-false m.factor f t) (λ d. multiple_of-all P ms f (All-tail P m ms all) d)
  where
    go : (t : Bool) → (t ≡ false → m.factor ≢ f) → (Contains (factors ms) f → P (multiple_of ms f)) → P (if t then m else multiple_of ms f)
    go true other rest = All-head P m ms all
    go false other rest =
        rest (⊎_elim (λ (e : m.factor ≡ f). absurd (other refl e)) (λ (d : Contains (factors ms) f). d) (of_cons m.factor f (factors ms) c))

pub multiple_of-factor : (known : List Multiple) (f : ℕ) → (multiple_of known f).factor ≡ f
multiple_of-factor [] f = refl
multiple_of-factor (m ∷ ms) f = go (nat_eq m.factor f) (λ t. eqb-true m.factor f t) (multiple_of-factor ms f)
  where
    go : (t : Bool) → (t ≡ true → m.factor ≡ f) → (multiple_of ms f).factor ≡ f → (if t then m else multiple_of ms f).factor ≡ f
    go true same rest = same refl
    go false same rest = rest

-- widths

power_within : (i m k : ℕ) → 1 ≤ m → 2 ^ i * m < 2 ^ k → i < k
power_within i m k some h = power_cancel i k (2 ^ i) (omega arith) (omega (arith, h, mul-le-mul_left {m = 1} {n = m} (2 ^ i) some))

small_shift : (form : Form) (i u v f : ℕ) → IsWide u → IsWide v → IsWide f → Makes form i u v f → i < 22
small_shift A i u v f hu hv hf m = power_within i u 22 (omega (arith, hu.0)) (omega (arith, m, hf.1))
small_shift B i u v f hu hv hf m = power_within i u 22 (omega (arith, hu.0)) (omega (arith, m, hf.1, hv.1))
small_shift C i u v f hu hv hf m = power_within i u 22 (omega (arith, hu.0)) (omega (arith, m, hv.1))
small_shift D r u v f hu hv hf m = power_within r f 22 (omega (arith, hf.0)) (omega (arith, m, hu.1, hv.1))
small_shift E r u v f hu hv hf m =
    power_within r f 22 (omega (arith, hf.0))
    (⊎_elim (λ (e : u ≡ v + 2 ^ r * f). omega (arith, e, hu.1)) (λ (e : v ≡ u + 2 ^ r * f). omega (arith, e, hv.1)) m)

dropped-within : (form : Form) (i : ℕ) → dropped form i ≤ i
dropped-within A i = omega arith
dropped-within B i = omega arith
dropped-within C i = omega arith
dropped-within D r = omega arith
dropped-within E r = omega arith

pub small_product : (f : ℕ) → f < 2 ^ 21 → (f < 2 ^ bit_length f) × (bit_length f ≤ 21)
small_product f h = (length_holds 32 f (omega (arith, h)), length_least 32 f (omega (arith, h)) 21 h)

term : (n : ℕ) → IsWideMember n → IsWide n
term n h = (h.0, h.2)

pub narrow : (input : Format) (a : Adder) → 1 ≤ input.width → input.width ≤ MAX_INPUT → IsWide a.u → IsWide a.v → IsWide a.value
    → Makes a.step.form a.step.shift a.u a.v a.value → IsNarrow input a
narrow input a some most u v f makes =
    let shift = small_shift a.step.form a.step.shift a.u a.v a.value u v f makes in
    record {
      some = some;
      sum = omega (arith, most, (small_product a.value f.1).1, shift, dropped-within a.step.form a.step.shift);
      shift = omega (arith, shift);
    }

-- one adder

-- the multiples of a net that has grown out of the input's
pub record Stands (input : Format) (b : Multiples) : Type 0 where
  pub later : Later (with_input input) b.net
  pub has_input : HasInput input b.net
  pub most : input.width ≤ MAX_INPUT
  pub each : All (IsMultiple input b.net) b.known
  pub terms : All IsWide (factors b.known)

-- an adder of two of them
pub record CanStand (b : Multiples) (a : Adder) : Type 0 where
  pub u : Contains (factors b.known) a.u
  pub v : Contains (factors b.known) a.v
  pub makes : Makes a.step.form a.step.shift a.u a.v a.value
  pub member : IsWideMember a.value

module _ (input : Format) (b : Multiples) (a : Adder) (s : Stands input b) (can : CanStand b a) where
  abbrev u : Multiple
  u = multiple_of b.known a.u

  abbrev v : Multiple
  v = multiple_of b.known a.v

  abbrev bits : ℕ
  bits = input.width + bit_length a.value

  abbrev low : ℕ
  low = dropped a.step.form a.step.shift

  abbrev sum : Placed
  sum = with_sum input.signed (bits + low) b.net a u v

  abbrev next : Multiples
  next = with_adder input b a

  pub is_narrow : IsNarrow input a
  is_narrow =
      narrow input a s.has_input.some s.most (All-contains IsWide (factors b.known) a.u s.terms can.u)
      (All-contains IsWide (factors b.known) a.v s.terms can.v) (term a.value can.member) can.makes

  pub of_u : IsMultiple input b.net u
  of_u = multiple_of-all (IsMultiple input b.net) b.known a.u s.each can.u

  pub of_v : IsMultiple input b.net v
  of_v = multiple_of-all (IsMultiple input b.net) b.known a.v s.each can.v

  some : 1 ≤ bits
  some = omega (arith, s.has_input.some)

  few : bits + low ≤ MAX_WIDTH
  few = omega (arith, is_narrow.sum)

  pub wide : IsWidth (bits + low)
  wide = (omega (arith, some), few)

  pub to_sum : IsPlacedNode b.net (bits + low) sum
  to_sum = sum-placed input.signed (bits + low) b.net a u v s.later.valid wide of_u.node of_v.node

  to_next : IsPlacedNode sum.net bits (without_lowest low bits sum)
  to_next = lowest-placed sum.net sum.place bits to_sum.later.valid some low few to_sum.width

  pub next-later : Later b.net next.net
  next-later = later-then b.net sum.net next.net to_sum.later to_next.later

  abbrev made : Multiple
  made = record { factor = a.value; node = (without_lowest low bits sum).place; width = bits }

  made-product : (inputs : Inputs) (t : ℤ) → All (AreWords (input_widths b.net)) inputs
      → val (flow next.net.nodes inputs made.node t) input ≡ val (flow b.net.nodes inputs 0 t) input *ℤ pos a.value
  made-product inputs t words =
      let w = flow b.net.nodes inputs 0 t in
      let x = val w input in
      let long : length w ≡ input.width = flow-width b.net s.later.valid inputs words 0 t ∙ s.has_input.width in
      let holds : Holds input.signed input.width x =
      subst (λ n. Holds input.signed n x) long (val_holds w input (omega (arith, long, s.has_input.some))) in
      let of_sum =
      sum-has input (bits + low) b.net a u v s.later.valid wide s.has_input of_u of_v
      (multiple_of-factor b.known a.u) (multiple_of-factor b.known a.v)
      can.makes inputs t words in
      let of_next =
      lowest-has sum.net sum.place bits to_sum.later.valid some low few to_sum.width (x *ℤ pos a.value) inputs t
      (words-later b.net sum.net to_sum.later inputs words) (has (bits + low) _ _ _ (sym (scaled (2 ^ low) x a.value)) of_sum) in
      settled input bits (flow next.net.nodes inputs made.node t) (x *ℤ pos a.value) some of_next
      (product_holds input.signed input.width (bit_length a.value) x a.value s.has_input.some (small_product a.value can.member.2).0 holds)

  next-stands : Stands input next
  next-stands =
      let keeps = keeps-later b.net next.net next-later in
      let one : IsMultiple input next.net made = record {
        node = record { some = some; most = omega (arith, few); width = to_next.width };
        product = λ inputs t words.
            made-product inputs t (words-back b.net next.net keeps inputs words)
            ∙ ap (λ w. val w input *ℤ pos a.value)
            (sym (grown-flow b.net next.net next-later.grown inputs 0 t (input_there input b.net s.has_input)));
      } in
      let kept =
      All-weaker (IsMultiple input b.net) (IsMultiple input next.net) (multiple-kept input b.net next.net keeps s.has_input)
      b.known s.each in
      record {
        later = later-then (with_input input) b.net next.net s.later next-later;
        has_input = input-kept input b.net next.net keeps s.has_input;
        most = s.most;
        each = All-push (IsMultiple input next.net) b.known made kept one;
        terms = subst (All IsWide) (sym (map-append (λ (m : Multiple). m.factor) b.known (made ∷ [])))
            (All-push IsWide (factors b.known) a.value s.terms (term a.value can.member));
      }

-- all adders

pub next-factors : (input : Format) (b : Multiples) (a : Adder) → factors (with_adder input b a).known ≡ factors b.known ++ a.value ∷ []
next-factors input b a = map-append (λ (m : Multiple). m.factor) b.known _

-- the adders that are left, over the multiples so far
pub record AreLeft (input : Format) (b : Multiples) (adders : List Adder) : Type 0 where
  pub stands : Stands input b
  pub wired : IsWired (factors b.known) adders
  pub members : All IsWideMember (values adders)

pub can_stand : (input : Format) (b : Multiples) (a : Adder) (more : List Adder) → AreLeft input b (a ∷ more) → CanStand b a
can_stand input b a more h = record {
  u = h.wired.0;
  v = h.wired.1;
  makes = h.wired.3;
  member = All-head IsWideMember a.value (values more) h.members;
}

-- the next adder of a list
pub left-at : (input : Format) (b : Multiples) (adders : List Adder) (k : ℕ) (d : Adder) → k < length adders
    → AreLeft input b (drop k adders)
    → AreLeft input b (slice_index_or adders k d ∷ drop (k + 1) adders)
left-at input b adders k d inside h = subst (AreLeft input b) (drop_more adders k d inside) h

pub left-next : (input : Format) (b : Multiples) (a : Adder) (more : List Adder) → AreLeft input b (a ∷ more)
    → AreLeft input (with_adder input b a) more
left-next input b a more h = record {
  stands = next-stands input b a h.stands (can_stand input b a more h);
  wired = subst (λ vs. IsWired vs more) (sym (next-factors input b a)) h.wired.4;
  members = All-tail IsWideMember a.value (values more) h.members;
}

pub all-stand : (input : Format) (b : Multiples) (adders : List Adder) → AreLeft input b adders
    → Stands input (with_adders input b adders) × (factors (with_adders input b adders).known ≡ factors b.known ++ values adders)
all-stand input b [] h = (h.stands, sym (append-nil (factors b.known)))
all-stand input b (a ∷ more) h =
    let (stands, known) = all-stand input (with_adder input b a) more (left-next input b a more h) in
    (stands, known ∙ ap (λ vs. vs ++ values more) (next-factors input b a) ∙ append_assoc (factors b.known) (a.value ∷ []) (values more))

-- at first

pub first-left : (input : Format) (adders : List Adder) → IsValid (with_input input) → AreAdders input adders
    → AreLeft input (at_first input) adders
first-left input adders valid are =
    let one : IsMultiple input (with_input input) (input_multiple input) = record {
      node = record { some = are.some; most = omega (arith, are.most); width = refl };
      product = λ inputs t words. times_one (val (flow (with_input input).nodes inputs 0 t) input);
    } in
    record {
      stands = record {
        later = later-same (with_input input) valid;
        has_input = record { some = are.some; width = refl };
        most = are.most;
        each = All-cons (IsMultiple input (with_input input)) (input_multiple input) [] one (All-nil (IsMultiple input (with_input input)));
        terms = All-cons IsWide 1 [] (omega arith, omega arith) (All-nil IsWide);
      };
      wired = are.wired;
      members = are.members;
    }
  where
    times_one : (x : ℤ) → x ≡ x *ℤ pos 1
    times_one x = omega (arith, ints)
