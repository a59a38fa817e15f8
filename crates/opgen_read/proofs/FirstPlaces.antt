-- The first place of a name in a list.
use Rattle.std.specs.Prelude.{position, is_some, IfSome}
use Rattle.std.specs.Option.{option_copied}
use Rattle.std.specs.List.{position_or_len}
use Rattle.std.proofs.Common.{Bor, map, ◌≡◌, inl, inr, ℕ, ◌+◌, ◌<◌, ◌≤◌, Bool, true, false, cond, List, [], ◌∷◌, ◌++◌, length, Option, Some, None, refl, ap, sym, ◌∙◌, arith, length-append}
use Rattle.std.specs.Map.{update}
use Rattle.std.specs.Str.{bytes_eq}
use Rattle.std.proofs.lemmas.Slice.Eq.{bytes_eq-Decides}
use Rattle.std.proofs.lemmas.Bool.{lt-ltb, le-ltb, cases_lt, eq-eqb, ne_eqb, false_from_ne_true}
use Rattle.std.proofs.lemmas.List.Sums.{prefix_len-le-length}
use Rattle.std.proofs.lemmas.List.Folds.{position_or_len_push}
use Rattle.std.proofs.lemmas.List.{length-map, map_push}
use Rattle.opgen_names.specs.Names.{is_allowed_name}
use Rattle.opgen_read.proofs.AllowedNames.{allowed-short}
use Rattle.opgen_read.specs.Places.{noted_at}

module _ {X : Type 0} (p : X → Bool) where
  within : (xs : List X) → position_or_len p xs ≤ length xs
  within xs = prefix_len-le-length _ xs

  pub place_found : (xs : List X) (k : ℕ) → Some k ≡ position p xs → k ≡ position_or_len p xs
  place_found xs k e = elim (cases_lt (position_or_len p xs) (length xs)) [
    | inl h ↦ let s : Some k ≡ Some (position_or_len p xs) = rw (lt-ltb (position_or_len p xs) (length xs) h) at e in cc
    | inr h ↦ let s : Some k ≡ None = rw (le-ltb (position_or_len p xs) (length xs) h) at e in cc
  ]

  pub places_found : (xs : List X) (o : Option ℕ) → o ≡ position p xs → IfSome o (λ k. k ≡ position_or_len p xs)
  places_found xs None e = tt
  places_found xs (Some k) e = place_found xs k e

  pub no_place : (xs : List X) → None ≡ position p xs → length xs ≡ position_or_len p xs
  no_place xs e = elim (cases_lt (position_or_len p xs) (length xs)) [
    | inl h ↦ let s : None ≡ Some (position_or_len p xs) = rw (lt-ltb (position_or_len p xs) (length xs) h) at e in cc
    | inr h ↦ omega (arith, h, within xs)
  ]

  one_more : (xs : List X) (x : X) (b : Bool) → p x ≡ b → position_or_len p xs ≡ length xs → position p (xs ++ x ∷ [])
      ≡ (cond b (Some (length xs)) None)
  one_more xs x true e h =
      let all : position_or_len p (xs ++ x ∷ []) ≡ length xs = position_or_len_push p xs x
      ∙ rw (eq-eqb (position_or_len p xs) (length xs) h, e) (omega arith) in
      rw (all, lt-ltb (length xs) (length (xs ++ x ∷ [])) (omega (arith, length-append xs (x ∷ [])))) refl
  one_more xs x false e h =
      let all : position_or_len p (xs ++ x ∷ []) ≡ length xs + 1 = position_or_len_push p xs x
      ∙ rw (eq-eqb (position_or_len p xs) (length xs) h, e) (omega arith) in
      rw (all, le-ltb (length xs + 1) (length (xs ++ x ∷ [])) (omega (arith, length-append xs (x ∷ [])))) refl

  -- a list with one item more
  pub position_push : (xs : List X) (x : X) → position p (xs ++ x ∷ []) ≡ noted_at (position p xs) (p x) (length xs)
  position_push xs x = elim (cases_lt (position_or_len p xs) (length xs)) [
    | inl h ↦
        let same : position_or_len p (xs ++ x ∷ []) ≡ position_or_len p xs = position_or_len_push p xs x
        ∙ rw (ne_eqb (position_or_len p xs) (length xs) (λ e. omega (arith, e, h))) refl in
        rw (
          same,
          lt-ltb (position_or_len p xs) (length xs) h,
          lt-ltb (position_or_len p xs) (length (xs ++ x ∷ [])) (omega (arith, h, length-append xs (x ∷ []))),
        ) refl
    | inr h ↦ rw (le-ltb (position_or_len p xs) (length xs) h) (one_more xs x (p x) refl (omega (arith, h, within xs)))
  ]

kept : (o : Option ℕ) (place : ℕ) → o ≡ noted_at o false place
kept None place = refl
kept (Some k) place = refl

after_update : (f : List ℕ → Option ℕ) (n q : List ℕ) (place : ℕ) (b : Bool) → bytes_eq n q ≡ b → f n ≡ None
    → update bytes_eq f n (Some place) q ≡ noted_at (f q) (bytes_eq q n) place
after_update f n q place true e none =
    let same : n ≡ q = (bytes_eq-Decides n q).0 e in
    rw (e, (bytes_eq-Decides q n).1 (sym same), ap f (sym same) ∙ none) refl
after_update f n q place false e none =
    let other : bytes_eq q n ≡ false = false_from_ne_true (bytes_eq q n) (λ h. let bad : true ≡ false = sym ((bytes_eq-Decides n q).1
    (sym ((bytes_eq-Decides q n).0 h))) ∙ e in cc) in
    rw (e, other) (kept (f q) place)

-- a new name leads to its place
pub new_name : (f g : List ℕ → Option ℕ) (n : List ℕ) (place : ℕ) → f n ≡ None → ((q : List ℕ) → g q ≡ update bytes_eq f n (Some place) q)
    → (q : List ℕ) → g q ≡ noted_at (f q) (bytes_eq q n) place
new_name f g n place none updated q = updated q ∙ after_update f n q place (bytes_eq n q) refl none

-- a name that is there keeps its place
pub old_name : (f : List ℕ → Option ℕ) (n : List ℕ) (place k : ℕ) → f n ≡ Some k → (q : List ℕ) → f q ≡ noted_at (f q) (bytes_eq q n) place
old_name f n place k there q = go (bytes_eq q n) (f q) refl refl
  where
    go : (b : Bool) (o : Option ℕ) → bytes_eq q n ≡ b → f q ≡ o → o ≡ noted_at o b place
    go b (Some j) e h = refl
    go true None e h = let bad : Some k ≡ None = sym there ∙ ap f (sym ((bytes_eq-Decides q n).0 e)) ∙ h in cc
    go false None e h = refl

-- a map that knows allowed names alone, and one more
pub still_allowed : (f m : List ℕ → Option ℕ) (n : List ℕ) (place : ℕ) → is_allowed_name n ≡ true
    → ((q : List ℕ) (k : ℕ) → f q ≡ Some k → is_allowed_name q ≡ true) →
    ((q : List ℕ) → m q ≡ noted_at (f q) (bytes_eq q n) place) → (q : List ℕ) (k : ℕ) → m q ≡ Some k → is_allowed_name q ≡ true
still_allowed f m n place allowed old noted q k found = go (f q) (bytes_eq q n) refl refl (sym (noted q) ∙ found)
  where
    go : (o : Option ℕ) (b : Bool) → f q ≡ o → bytes_eq q n ≡ b → noted_at o b place ≡ Some k → is_allowed_name q ≡ true
    go (Some i) b h s e = old q i h
    go None true h s e = ap is_allowed_name ((bytes_eq-Decides q n).0 s) ∙ allowed
    go None false h s e = cc

-- what a look-up says by whether it found something
pub absent_from : {A : Type 0} (r : Option (Bor A)) (o : Option A) → option_copied r ≡ o → (b : Bool) → b ≡ is_some r → b ≡ false → o ≡ None
absent_from None o e b h f = sym e
absent_from (Some x) o e b h f = cc

pub present_from : {A : Type 0} (r : Option (Bor A)) (o : Option A) → option_copied r ≡ o → (b : Bool) → b ≡ is_some r → b ≡ true → (a : A)
    × (o ≡ Some a)
present_from None o e b h f = cc
present_from (Some x) o e b h f = (x.now, sym e)

-- one declaration more
pub one_declared : {X : Type 0} (name_of : X → List ℕ) (items more : List X) (item : X) (f m : List ℕ → Option ℕ) (n : List ℕ) (k : ℕ) →
    more ≡ items ++ item ∷ [] → n ≡ name_of item → k ≡ length items → ((q : List ℕ) → f q ≡ position (bytes_eq q) (map name_of items)) →
    ((q : List ℕ) → m q ≡ noted_at (f q) (bytes_eq q n) k) → (q : List ℕ) → m q ≡ position (bytes_eq q) (map name_of more)
one_declared name_of items more item f m n k e named count finds noted q =
    let names = map name_of items in
    noted q
    ∙ ap (λ o. noted_at o (bytes_eq q n) k) (finds q)
    ∙ ap (λ u. noted_at (position (bytes_eq q) names) (bytes_eq q u) k) named
    ∙ ap (noted_at (position (bytes_eq q) names) (bytes_eq q (name_of item))) (count ∙ sym (length-map items name_of))
    ∙ sym (position_push (bytes_eq q) names (name_of item))
    ∙ ap (position (bytes_eq q)) (sym (map_push name_of items item) ∙ ap (map name_of) (sym e))

-- a map that knows allowed names alone leads from no longer name to any place
pub none_of_long : (f : List ℕ → Option ℕ) (n : List ℕ) → ((q : List ℕ) (k : ℕ) → f q ≡ Some k → is_allowed_name q ≡ true)
    → 64 < length n → f n ≡ None
none_of_long f n known long = go (f n) refl
  where
    go : (o : Option ℕ) → f n ≡ o → o ≡ None
    go None e = refl
    go (Some k) e = absurd (omega (arith, allowed-short n (known n k e), long))

-- a name that is found in a map that knows allowed names alone
pub found_allowed : (f : List ℕ → Option ℕ) (n : List ℕ) (o : Option ℕ)
    → ((q : List ℕ) (k : ℕ) → f q ≡ Some k → is_allowed_name q ≡ true) → o ≡ f n → IfSome o (λ _. is_allowed_name n ≡ true)
found_allowed f n None known e = tt
found_allowed f n (Some k) known e = known n k (sym e)
