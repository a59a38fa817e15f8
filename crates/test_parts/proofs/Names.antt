-- The names of the nets: x is an input, and y, z and w are outputs.
use Rattle.std.proofs.Common.{◌≡◌, ℕ, zero, suc, ◌<◌, true, List, [], ◌∷◌, ◌++◌, length, map, get_or, refl, sym, ap, ◌∙◌, subst, arith}
use Rattle.std.specs.Prelude.{◌≢◌, codes, IsTrue, All}
use Rattle.std.specs.List.{AllPairs}
use Rattle.std.proofs.lemmas.Bool.{false≢true}
use Rattle.std.proofs.lemmas.List.{length-map}
use Rattle.std.proofs.lemmas.List.Elements.{All-nil, All-cons}
use Rattle.opgen_net.specs.declared.net.Net.{Net}
use Rattle.opgen_names.specs.Names.{refused_words, is_allowed_name}
use Rattle.opgen_net.specs.Named.{port_names, IsFree, IsNamed}

x_allowed : is_allowed_name (codes "x") ≡ true
unfolding refused_words
x_allowed = refl

y_allowed : is_allowed_name (codes "y") ≡ true
unfolding refused_words
y_allowed = refl

z_allowed : is_allowed_name (codes "z") ≡ true
unfolding refused_words
z_allowed = refl

w_allowed : is_allowed_name (codes "w") ≡ true
unfolding refused_words
w_allowed = refl

made_allowed : is_allowed_name (codes "made") ≡ true
unfolding refused_words
made_allowed = refl

apart : (first second : ℕ) (a b : List ℕ) → (first ≡ second → ⊥) → first ∷ a ≢ second ∷ b
apart first second a b n e = n (ap (λ s. get_or s 0 0) e)

-- a name of one letter after c
free : (letter : ℕ) → (letter ≡ 99 → ⊥) → IsFree (letter ∷ [])
free letter n = record {
  no_clock = apart letter 99 [] (108 ∷ 107 ∷ []) n;
  no_enable = apart letter 99 [] (101 ∷ []) n;
  no_signal = false≢true;
}

free_x : IsFree (codes "x")
free_x = free 120 (λ e. omega (arith, e))

free_y : IsFree (codes "y")
free_y = free 121 (λ e. omega (arith, e))

free_z : IsFree (codes "z")
free_z = free 122 (λ e. omega (arith, e))

free_w : IsFree (codes "w")
free_w = free 119 (λ e. omega (arith, e))

abbrev inputs_of : Net → List (List ℕ)
inputs_of net = map (λ i. i.0) net.inputs

abbrev outputs_of : Net → List (List ℕ)
outputs_of net = map (λ o. o.name) net.outputs

joined : (net : Net) (outputs : List (List ℕ)) → inputs_of net ≡ codes "x" ∷ [] → outputs_of net ≡ outputs → port_names net
    ≡ codes "x" ∷ outputs
joined net outputs i o = ap (λ is. is ++ outputs_of net) i ∙ ap (λ os. codes "x" ∷ os) o

one_input : (net : Net) → inputs_of net ≡ codes "x" ∷ [] → length net.inputs ≡ 1
one_input net i = sym (length-map net.inputs (λ p. p.0)) ∙ ap length i

-- one output

abbrev two : List (List ℕ)
two = codes "x" ∷ codes "y" ∷ []

differ_two : (i j : ℕ) (d : List ℕ) → i < j → j < 2 → get_or two i d ≢ get_or two j d
differ_two i zero d l m = absurd (omega (arith, l))
differ_two zero (suc zero) d l m = apart 120 121 [] [] (λ e. omega (arith, e))
differ_two (suc i) (suc zero) d l m = absurd (omega (arith, l))
differ_two i (suc (suc j)) d l m = absurd (omega (arith, m))

both : (P : List ℕ → Type 0) → P (codes "x") → P (codes "y") → All P two
both P a b = All-cons P (codes "x") (codes "y" ∷ []) a (All-cons P (codes "y") [] b (All-nil P))

pub named_one : (net : Net) → inputs_of net ≡ codes "x" ∷ [] → outputs_of net ≡ codes "y" ∷ [] → IsNamed (codes "made") net
named_one net i o =
    let names = joined net (codes "y" ∷ []) i o in
    record {
      has_port = omega (arith, one_input net i);
      name_allowed = made_allowed;
      allowed = subst (All (λ n. IsTrue (is_allowed_name n))) (sym names) (both (λ n. IsTrue (is_allowed_name n)) x_allowed y_allowed);
      differ = subst (AllPairs (λ a b. a ≢ b)) (sym names) (λ i j d l m. differ_two i j d l m);
      free = subst (All IsFree) (sym names) (both IsFree free_x free_y);
    }

-- three outputs

abbrev four : List (List ℕ)
four = codes "x" ∷ codes "y" ∷ codes "z" ∷ codes "w" ∷ []

differ_four : (i j : ℕ) (d : List ℕ) → i < j → j < 4 → get_or four i d ≢ get_or four j d
differ_four i zero d l m = absurd (omega (arith, l))
differ_four zero (suc zero) d l m = apart 120 121 [] [] (λ e. omega (arith, e))
differ_four zero (suc (suc zero)) d l m = apart 120 122 [] [] (λ e. omega (arith, e))
differ_four zero (suc (suc (suc zero))) d l m = apart 120 119 [] [] (λ e. omega (arith, e))
differ_four (suc zero) (suc (suc zero)) d l m = apart 121 122 [] [] (λ e. omega (arith, e))
differ_four (suc zero) (suc (suc (suc zero))) d l m = apart 121 119 [] [] (λ e. omega (arith, e))
differ_four (suc (suc zero)) (suc (suc (suc zero))) d l m = apart 122 119 [] [] (λ e. omega (arith, e))
differ_four (suc i) (suc zero) d l m = absurd (omega (arith, l))
differ_four (suc (suc i)) (suc (suc zero)) d l m = absurd (omega (arith, l))
differ_four (suc (suc (suc i))) (suc (suc (suc zero))) d l m = absurd (omega (arith, l))
differ_four i (suc (suc (suc (suc j)))) d l m = absurd (omega (arith, m))

each : (P : List ℕ → Type 0) → P (codes "x") → P (codes "y") → P (codes "z") → P (codes "w") → All P four
each P x y z w =
    All-cons P (codes "x") (codes "y" ∷ codes "z" ∷ codes "w" ∷ []) x (All-cons P (codes "y") (codes "z" ∷ codes "w" ∷ []) y
    (All-cons P (codes "z") (codes "w" ∷ []) z (All-cons P (codes "w") [] w (All-nil P))))

pub named_three : (net : Net) → inputs_of net ≡ codes "x" ∷ [] → outputs_of net ≡ codes "y" ∷ codes "z" ∷ codes "w" ∷ []
    → IsNamed (codes "made") net
named_three net i o =
    let names = joined net (codes "y" ∷ codes "z" ∷ codes "w" ∷ []) i o in
    record {
      has_port = omega (arith, one_input net i);
      name_allowed = made_allowed;
      allowed = subst (All (λ n. IsTrue (is_allowed_name n))) (sym names)
          (each (λ n. IsTrue (is_allowed_name n)) x_allowed y_allowed z_allowed w_allowed);
      differ = subst (AllPairs (λ a b. a ≢ b)) (sym names) (λ i j d l m. differ_four i j d l m);
      free = subst (All IsFree) (sym names) (each IsFree free_x free_y free_z free_w);
    }
