-- Names that the ports of a design may have.
use Rattle.std.proofs.Common.{ℕ, not, ◌&&◌, Bool, List, bytes_eq, true, [], ◌∷◌, ◌++◌, ◌≡◌, false, refl, sym, ◌∙◌, zero, suc, ◌<◌, length, get_or, arith, map}
use Rattle.std.proofs.lemmas.Bool.{and_parts, or_parts, not-true}
use Rattle.std.proofs.lemmas.List.Elements.{All-nil, All-cons, All-weaker, All-append}
use Rattle.std.proofs.lemmas.List.Quantifiers.{all_pairs_push}
use Rattle.std.proofs.lemmas.Slice.Eq.{bytes_eq-Decides}
use Rattle.std.specs.List.{list_any, list_all, AllPairs}
use Rattle.std.specs.Prelude.{codes, ◌≢◌, All, IsTrue, nat_le}
use Rattle.opgen_names.specs.Names.{is_allowed_name, refused_words}
use Rattle.opgen_net.specs.Named.{begins_as_signal, IsFree}
use Rattle.opgen_operator.specs.GivenNames.{is_one_of, later_words, taken_names, is_port_name, AreGivenNames}
use Rattle.opgen_ports.specs.declared.ports.PortFormat.{PortFormat}

-- whether a name can stand at a port, and whether names differ
abbrev is_free : List ℕ → Bool
is_free n = not (bytes_eq n (codes "clk")) && (not (bytes_eq n (codes "ce")) && not (begins_as_signal n))

abbrev differ : List (List ℕ) → Bool
differ [] = true
differ (n ∷ ns) = not (list_any (λ m. bytes_eq n m) ns) && differ ns

abbrev pub are_good : List (List ℕ) → Bool
are_good ns = list_all is_allowed_name ns && (list_all is_free ns && differ ns)

not_equal : (a b : List ℕ) → bytes_eq a b ≡ false → a ≢ b
not_equal a b h e = let same = (bytes_eq-Decides a b).1 e in let both : true ≡ false = sym same ∙ h in cc

free : (n : List ℕ) → is_free n ≡ true → IsFree n
free n h =
    let (clock, rest) = and_parts (not (bytes_eq n (codes "clk"))) (not (bytes_eq n (codes "ce")) && not (begins_as_signal n)) h in
    let (enable, signal) = and_parts (not (bytes_eq n (codes "ce"))) (not (begins_as_signal n)) rest in record {
      no_clock = not_equal n (codes "clk") (not-true (bytes_eq n (codes "clk")) clock);
      no_enable = not_equal n (codes "ce") (not-true (bytes_eq n (codes "ce")) enable);
      no_signal = λ begins. let both : true ≡ false = sym begins ∙ not-true (begins_as_signal n) signal in cc;
    }

all_of : (test : List ℕ → Bool) (P : List ℕ → Type 0) → ((n : List ℕ) → test n ≡ true → P n) → (ns : List (List ℕ))
    → list_all test ns ≡ true → All P ns
all_of test P each [] h = All-nil P
all_of test P each (n ∷ ns) h = let (first, rest) = and_parts (test n) (list_all test ns) h in
    All-cons P n ns (each n first) (all_of test P each ns rest)

none_of : (n : List ℕ) (ns : List (List ℕ)) → list_any (λ m. bytes_eq n m) ns ≡ false → (j : ℕ) (d : List ℕ) → j < length ns
    → n ≢ get_or ns j d
none_of n [] h j d k = absurd (omega (arith, k))
none_of n (m ∷ ns) h zero d k = not_equal n m (or_parts (bytes_eq n m) (list_any (λ x. bytes_eq n x) ns) h).0
none_of n (m ∷ ns) h (suc j) d k = none_of n ns (or_parts (bytes_eq n m) (list_any (λ x. bytes_eq n x) ns) h).1 j d (omega (arith, k))

pairs : (ns : List (List ℕ)) → differ ns ≡ true → AllPairs (λ a b. a ≢ b) ns
pairs [] h i j d l k = absurd (omega (arith, k))
pairs (n ∷ ns) h i zero d l k = absurd (omega (arith, l))
pairs (n ∷ ns) h zero (suc j) d l k =
    none_of n ns (not-true (list_any (λ m. bytes_eq n m) ns) (and_parts (not (list_any (λ m. bytes_eq n m) ns)) (differ ns) h).0) j d
    (omega (arith, k))
pairs (n ∷ ns) h (suc i) (suc j) d l k = pairs ns (and_parts (not (list_any (λ m. bytes_eq n m) ns)) (differ ns) h).1 i j d
    (omega (arith, l)) (omega (arith, k))

-- what a design asks of the names of its ports
pub record AreNamed (ns : List (List ℕ)) : Type 0 where
  pub allowed : All (λ n. IsTrue (is_allowed_name n)) ns
  pub differ : AllPairs (λ a b. a ≢ b) ns
  pub free : All IsFree ns

pub good_named : (ns : List (List ℕ)) → are_good ns ≡ true → AreNamed ns
good_named ns good =
    let (allowed, rest) = and_parts (list_all is_allowed_name ns) (list_all is_free ns && differ ns) good in
    let (all_free, apart) = and_parts (list_all is_free ns) (differ ns) rest in record {
      allowed = all_of is_allowed_name (λ n. IsTrue (is_allowed_name n)) (λ n h. h) ns allowed;
      differ = pairs ns apart;
      free = all_of is_free IsFree free ns all_free;
    }

-- what a name that a document gives is
record IsGiven (n : List ℕ) : Type 0 where
  allowed : IsTrue (is_allowed_name n)
  free : IsFree n
  no_output : n ≢ codes "y"

-- neither `clk`, `ce` nor `y`
untaken : (n : List ℕ) → not (is_one_of taken_names n) ≡ true → (n ≢ codes "clk") × (n ≢ codes "ce") × (n ≢ codes "y")
unfolding taken_names
untaken n h =
    let same = λ (word : List ℕ). bytes_eq word n in
    let (_, from_clk) = or_parts (same (codes "rtl")) (list_any same (codes "clk" ∷ codes "ce" ∷ codes "y" ∷ [])) (not-true _ h) in
    let (clk, from_ce) = or_parts (same (codes "clk")) (list_any same (codes "ce" ∷ codes "y" ∷ [])) from_clk in
    let (ce, from_y) = or_parts (same (codes "ce")) (list_any same (codes "y" ∷ [])) from_ce in
    let (y, _) = or_parts (same (codes "y")) (list_any same []) from_y in (
      (λ e. not_equal (codes "clk") n clk (sym e)),
      (λ e. not_equal (codes "ce") n ce (sym e)),
      (λ e. not_equal (codes "y") n y (sym e)),
    )

given_is : (n : List ℕ) → IsTrue (is_port_name n) → IsGiven n
given_is n h =
    let short = nat_le (length n) 32 && is_allowed_name n in
    let early = short && not (is_one_of later_words n) in
    let (named, signal) = and_parts (early && not (is_one_of taken_names n)) (not (begins_as_signal n)) h in
    let (known, taken) = and_parts early (not (is_one_of taken_names n)) named in
    let (first, _) = and_parts short (not (is_one_of later_words n)) known in
    let (clk, ce, y) = untaken n taken in record {
      allowed = (and_parts (nat_le (length n) 32) (is_allowed_name n) first).1;
      free = record {
        no_clock = clk;
        no_enable = ce;
        no_signal = λ begins. let both : true ≡ false = sym begins ∙ not-true (begins_as_signal n) signal in cc;
      };
      no_output = y;
    }

-- the names that a document gives, and then `y`
pub given_named : (name : List ℕ) (ns : List (List ℕ)) → AreGivenNames name ns → AreNamed (ns ++ codes "y" ∷ [])
unfolding refused_words
given_named name ns given =
    let each : All IsGiven ns = All-weaker (λ n. IsTrue (is_port_name n)) IsGiven given_is ns given.sound in record {
      allowed = All-append (λ n. IsTrue (is_allowed_name n)) ns (codes "y" ∷ []) (All-weaker IsGiven (λ n. IsTrue (is_allowed_name n)) (λ n h. h.allowed) ns each)
          (all_of is_allowed_name (λ n. IsTrue (is_allowed_name n)) (λ n h. h) (codes "y" ∷ []) refl);
      differ = all_pairs_push (λ a b. a ≢ b) ns (codes "y") given.differ (λ k d below. (each k d below).no_output);
      free = All-append IsFree ns (codes "y" ∷ []) (All-weaker IsGiven IsFree (λ n h. h.free) ns each)
          (all_of is_free IsFree free (codes "y" ∷ []) refl);
    }

-- the names of the ports of each operator
abbrev pub names : List PortFormat → List (List ℕ)
names ps = map (λ p. p.name) ps
