-- Steps of reading, taken apart.
use Rattle.std.specs.Prelude.{slice_get}
use Rattle.std.specs.Str.{bytes_eq}
use Rattle.std.proofs.Common.{◌≡◌, ◌⊎◌, inl, inr, ℕ, Bool, true, false, cond, nat_lt, List, [], ◌∷◌, ◌++◌, codes, Option, Some, None, refl, ap, sym, ◌∙◌}
use Rattle.std.proofs.lemmas.Bool.{ltb-true, lt-ltb, eqb-true, false_from_ne_true}
use Rattle.std.proofs.lemmas.Slice.Eq.{bytes_eq-Decides}
use Rattle.std.proofs.lemmas.Option.{same_Some}
use Rattle.opgen_num.specs.declared.format.TheConstants.{MAX_WIDTH}
use Rattle.opgen_vhdl.specs.declared.kind.TokenKind.{TokenKind}
use Rattle.opgen_vhdl.specs.declared.kind.TokenKind.TheVariants.{Word, Number, Bits, ZeroChar, LeftParen, RightParen, Semicolon, Colon, Comma, Dot, Ampersand, Plus, Minus, Equal, LessEqual, Arrow, Becomes}
use Rattle.opgen_names.specs.Names.{is_allowed_name, refused_words}
use Rattle.opgen_vhdl.specs.Symbols.{Symbol, word, number, string, mark}
use Rattle.opgen_vhdl.specs.Grammar.{IsName, IsIndex, value}
use Rattle.opgen_vhdl.specs.Reader.{◌>>=◌, and_then, choice, rank, same_kind, same_symbol, eat, eat_all, name_at, index_at, string_at, no_more, end_at, phrase_at}

-- options
pub bind_some : {A B : Type 0} (r : Option A) (f : A → Option B) (y : B) → (r >>= f) ≡ Some y → (x : A) × (r ≡ Some x) × (f x ≡ Some y)
unfolding and_then
bind_some None f y e = absurd cc
bind_some (Some x) f y e = (x, refl, e)

pub bind_then : {A B G : Type 0} (r : Option A) (f : A → Option B) (y : B) → (r >>= f) ≡ Some y → ((x : A) → r ≡ Some x → f x ≡ Some y → G)
    → G
bind_then r f y e go = let b = bind_some r f y e in go b.0 b.1 b.2

pub chosen : {A B : Type 0} (o : Option A) (x : B) (f : A → B) (y : B) → choice o x f ≡ y
    → ((o ≡ None) × (x ≡ y)) ⊎ ((a : A) × (o ≡ Some a) × (f a ≡ y))
unfolding choice
chosen None x f y e = inl (refl, e)
chosen (Some a) x f y e = inr (a, refl, e)

pub choice_then : {A B G : Type 0} (o : Option A) (x : B) (f : A → B) (y : B) → choice o x f ≡ y → (o ≡ None → x ≡ y → G)
    → ((a : A) → o ≡ Some a → f a ≡ y → G) → G
choice_then o x f y e none some = elim (chosen o x f y e) [ inl h ↦ none h.0 h.1 | inr h ↦ some h.0 h.1 h.2 ]

abbrev pub found : {A B : Type 0} → A → B → Option (A × B)
found a b = Some (a, b)

abbrev first_of : {A B : Type 0} → A → Option (A × B) → A
first_of d None = d
first_of d (Some x) = x.0

abbrev second_of : {A B : Type 0} → B → Option (A × B) → B
second_of d None = d
second_of d (Some x) = x.1

pub found_is : {A B : Type 0} (a c : A) (b d : B) → found a b ≡ found c d → (a ≡ c) × (b ≡ d)
found_is a c b d e = (ap (first_of a) e, ap (second_of b) e)

pub if_some : {A : Type 0} (b : Bool) (x : Option A) (y : A) → cond b x None ≡ Some y → (b ≡ true) × (x ≡ Some y)
if_some true x y e = (refl, e)
if_some false x y e = cc

pub cases_option : {A : Type 0} (o : Option A) → (o ≡ None) ⊎ ((a : A) × (o ≡ Some a))
cases_option None = inl refl
cases_option (Some a) = inr (a, refl)

-- kinds by number
abbrev kinds : List TokenKind
kinds = Word ∷ Number ∷ Bits ∷ ZeroChar ∷ LeftParen ∷ RightParen ∷ Semicolon ∷ Colon ∷ Comma ∷ Dot ∷ Ampersand ∷ Plus ∷ Minus ∷ Equal ∷
    LessEqual ∷ Arrow ∷ Becomes ∷ []

there : (k : TokenKind) → slice_get kinds (rank k) ≡ Some k
there Word = refl
there Number = refl
there Bits = refl
there ZeroChar = refl
there LeftParen = refl
there RightParen = refl
there Semicolon = refl
there Colon = refl
there Comma = refl
there Dot = refl
there Ampersand = refl
there Plus = refl
there Minus = refl
there Equal = refl
there LessEqual = refl
there Arrow = refl
there Becomes = refl

pub same_kind-true : (a b : TokenKind) → same_kind a b ≡ true → a ≡ b
same_kind-true a b h = same_Some _ _ (sym (there a) ∙ ap (slice_get kinds) (eqb-true (rank a) (rank b) h) ∙ there b)

pub same_symbol-true : (a b : Symbol) → same_symbol a b ≡ true → a ≡ b
same_symbol-true (word a) (word b) h = ap word ((bytes_eq-Decides a b).0 h)
same_symbol-true (word a) (number b) h = cc
same_symbol-true (word a) (string b) h = cc
same_symbol-true (word a) (mark b) h = cc
same_symbol-true (number a) (word b) h = cc
same_symbol-true (number a) (number b) h = ap number ((bytes_eq-Decides a b).0 h)
same_symbol-true (number a) (string b) h = cc
same_symbol-true (number a) (mark b) h = cc
same_symbol-true (string a) (word b) h = cc
same_symbol-true (string a) (number b) h = cc
same_symbol-true (string a) (string b) h = cc
same_symbol-true (string a) (mark b) h = cc
same_symbol-true (mark a) (word b) h = cc
same_symbol-true (mark a) (number b) h = cc
same_symbol-true (mark a) (string b) h = cc
same_symbol-true (mark a) (mark b) h = ap mark (same_kind-true a b h)

-- what was eaten stood at the front
pub eat_some : (s : Symbol) (ss rest : List Symbol) → eat s ss ≡ Some rest → ss ≡ s ∷ rest
eat_some s [] rest e = cc
eat_some s (t ∷ ss) rest e =
    let (h, r) = if_some (same_symbol s t) (Some ss) rest e in
    ap (λ u. u ∷ ss) (sym (same_symbol-true s t h)) ∙ ap (λ u. s ∷ u) (same_Some _ _ r)

pub eat_all_some : (ps ss rest : List Symbol) → eat_all ps ss ≡ Some rest → ss ≡ ps ++ rest
eat_all_some [] ss rest e = same_Some _ _ e
eat_all_some (p ∷ ps) ss rest e =
    let (a, e1, f1) = bind_some _ _ _ e in
    eat_some p ss a e1 ∙ ap (λ u. p ∷ u) (eat_all_some ps a rest f1)

no_more_some : (ss rest : List Symbol) → no_more ss ≡ Some rest → ss ≡ []
no_more_some [] rest e = refl
no_more_some (s ∷ ss) rest e = cc

pub end_some : (ss rest : List Symbol) → end_at ss ≡ Some rest → ss ≡ mark Semicolon ∷ []
unfolding end_at
end_some ss rest e =
    let (a, e1, f1) = bind_some _ _ _ e in
    eat_some (mark Semicolon) ss a e1 ∙ ap (λ u. mark Semicolon ∷ u) (no_more_some a rest f1)

pub phrase_some : (ps ss rest : List Symbol) → phrase_at ps ss ≡ Some rest → ss ≡ ps ++ mark Semicolon ∷ []
phrase_some ps ss rest e =
    let (a, e1, f1) = bind_some _ _ _ e in
    eat_all_some ps ss a e1 ∙ ap (λ u. ps ++ u) (end_some a rest f1)

pub name_some : (ss : List Symbol) (n : List ℕ) (rest : List Symbol) → name_at ss ≡ found n rest → (ss ≡ word n ∷ rest) × IsName n
name_some [] n rest e = cc
name_some (word m ∷ ss) n rest e =
    let (t, r) = if_some (is_allowed_name m) (found m ss) (n, rest) e in
    let (p, q) = found_is m n ss rest r in
    (rw (p, q) refl, rw p at t)
name_some (number m ∷ ss) n rest e = cc
name_some (string m ∷ ss) n rest e = cc
name_some (mark m ∷ ss) n rest e = cc

index_some : (ss : List Symbol) (k : ℕ) (rest : List Symbol) → index_at ss ≡ found k rest → (digits : List ℕ) × (ss ≡ number digits ∷ rest)
    × IsIndex digits × (k ≡ value digits)
index_some [] k rest e = cc
index_some (word m ∷ ss) k rest e = cc
index_some (number m ∷ ss) k rest e =
    let (t, r) = if_some (nat_lt (value m) MAX_WIDTH) (found (value m) ss) (k, rest) e in
    let (p, q) = found_is (value m) k ss rest r in
    (m, ap (λ u. number m ∷ u) q, ltb-true (value m) MAX_WIDTH t, sym p)
index_some (string m ∷ ss) k rest e = cc
index_some (mark m ∷ ss) k rest e = cc

pub index_then : {G : Type 0} (ss : List Symbol) (k : ℕ) (rest : List Symbol) → index_at ss ≡ found k rest
    → ((digits : List ℕ) → ss ≡ number digits ∷ rest → IsIndex digits → k ≡ value digits → G) → G
index_then ss k rest e go = let x = index_some ss k rest e in go x.0 x.1 x.2 x.3

pub string_some : (ss : List Symbol) (w : List Bool) (rest : List Symbol) → string_at ss ≡ found w rest → ss ≡ string w ∷ rest
string_some [] w rest e = cc
string_some (word m ∷ ss) w rest e = cc
string_some (number m ∷ ss) w rest e = cc
string_some (string m ∷ ss) w rest e = let (p, q) = found_is m w ss rest e in rw (p, q) refl
string_some (mark m ∷ ss) w rest e = cc

-- what stands at the front is read
pub name-reads : (n : List ℕ) (ss : List Symbol) → IsName n → name_at (word n ∷ ss) ≡ found n ss
name-reads n ss h = rw h refl

pub index-reads : (digits : List ℕ) (ss : List Symbol) → IsIndex digits → index_at (number digits ∷ ss) ≡ found (value digits) ss
index-reads digits ss h = rw (lt-ltb (value digits) MAX_WIDTH h) refl

pub eat-word : (w : List ℕ) (ss : List Symbol) → eat (word w) (word w ∷ ss) ≡ Some ss
eat-word w ss = rw ((bytes_eq-Decides w w).1 refl) refl

-- a refused word is no name
pub no_keyword : (k n : List ℕ) (ss : List Symbol) → is_allowed_name k ≡ false → IsName n → eat (word k) (word n ∷ ss) ≡ None
no_keyword k n ss refused named =
    let differ : bytes_eq k n ≡ false = false_from_ne_true (bytes_eq k n) (λ h.
    let bad : true ≡ false = sym named ∙ ap is_allowed_name (sym ((bytes_eq-Decides k n).0 h)) ∙ refused in cc) in
    rw differ refl

pub refused-end : is_allowed_name (codes "end") ≡ false
unfolding refused_words
refused-end = refl

pub refused-if : is_allowed_name (codes "if") ≡ false
unfolding refused_words
refused-if = refl

pub refused-with : is_allowed_name (codes "with") ≡ false
unfolding refused_words
refused-with = refl

pub refused-not : is_allowed_name (codes "not") ≡ false
unfolding refused_words
refused-not = refl

pub refused-unsigned : is_allowed_name (codes "unsigned") ≡ false
unfolding refused_words
refused-unsigned = refl

pub refused-vector : is_allowed_name (codes "std_logic_vector") ≡ false
unfolding refused_words
refused-vector = refl

pub refused-process : is_allowed_name (codes "process") ≡ false
unfolding refused_words
refused-process = refl

pub refused-entity : is_allowed_name (codes "entity") ≡ false
unfolding refused_words
refused-entity = refl

pub refused-architecture : is_allowed_name (codes "architecture") ≡ false
unfolding refused_words
refused-architecture = refl

pub refused-begin : is_allowed_name (codes "begin") ≡ false
unfolding refused_words
refused-begin = refl
