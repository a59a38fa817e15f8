-- What name is at the front, by the kind and the text of the first token.
use Rattle.std.specs.Prelude.{if◌then◌else◌}
use Rattle.std.specs.Char.{to_ascii_lowercase}
use Rattle.std.proofs.Common.{◌≡◌, ℕ, Bool, true, false, List, ◌∷◌, map, Some, None, refl, ap, sym, subst, ◌∙◌}
use Rattle.std.proofs.lemmas.Option.{same_Some}
use Rattle.opgen_names.specs.Names.{is_allowed_name}
use Rattle.opgen_vhdl.specs.declared.kind.TokenKind.{TokenKind}
use Rattle.opgen_vhdl.specs.declared.kind.TokenKind.TheVariants.{Word, Number, Bits, ZeroChar, LeftParen, RightParen, Semicolon, Colon, Comma, Dot, Ampersand, Plus, Minus, Equal, LessEqual, Arrow, Becomes}
use Rattle.opgen_vhdl.specs.Symbols.{Symbol, symbol_of}
use Rattle.opgen_vhdl.specs.Reader.{name_at, same_kind}
use Rattle.opgen_vhdl.proofs.Steps.{found}
use Rattle.opgen_read.proofs.AllowedNames.{allowed-lower}

pub name_first : (k : TokenKind) (text : List ℕ) (rest : List Symbol) → name_at (symbol_of (k, text) ∷ rest)
    ≡ (if same_kind k Word then (if is_allowed_name (map to_ascii_lowercase text) then Some (map to_ascii_lowercase text, rest) else None)
    else None)
name_first Word text rest = refl
name_first Number text rest = refl
name_first Bits text rest = refl
name_first ZeroChar text rest = refl
name_first LeftParen text rest = refl
name_first RightParen text rest = refl
name_first Semicolon text rest = refl
name_first Colon text rest = refl
name_first Comma text rest = refl
name_first Dot text rest = refl
name_first Ampersand text rest = refl
name_first Plus text rest = refl
name_first Minus text rest = refl
name_first Equal text rest = refl
name_first LessEqual text rest = refl
name_first Arrow text rest = refl
name_first Becomes text rest = refl

choose_some : {A R : Type 0} (b : Bool) (m n : A) (rest : R) → Some n ≡ (if b then Some m else None) → (if b then found m rest else None)
    ≡ found n rest
choose_some true m n rest e = ap (λ x. found x rest) (same_Some _ _ (sym e))
choose_some false m n rest e = cc

choose_none : {A R : Type 0} (b : Bool) (m : A) (rest : R) → None ≡ (if b then Some m else None) → (if b then found m rest else None) ≡ None
choose_none true m rest e = cc
choose_none false m rest e = refl

pub name_read : (ss : List Symbol) (k : TokenKind) (text : List ℕ) (rest : List Symbol) (n : List ℕ) → ss ≡ symbol_of (k, text) ∷ rest
    → same_kind k Word ≡ true →
    Some n ≡ (if is_allowed_name (map to_ascii_lowercase text) then Some (map to_ascii_lowercase text) else None) → name_at ss
    ≡ Some (n, rest)
name_read ss k text rest n e h allowed = ap name_at e ∙ name_first k text rest
    ∙ rw h (choose_some (is_allowed_name (map to_ascii_lowercase text)) (map to_ascii_lowercase text) n rest allowed)

pub name_refused : (ss : List Symbol) (k : TokenKind) (text : List ℕ) (rest : List Symbol) → ss ≡ symbol_of (k, text) ∷ rest
    → same_kind k Word ≡ true →
    None ≡ (if is_allowed_name (map to_ascii_lowercase text) then Some (map to_ascii_lowercase text) else None) → name_at ss ≡ None
name_refused ss k text rest e h allowed = ap name_at e ∙ name_first k text rest
    ∙ rw h (choose_none (is_allowed_name (map to_ascii_lowercase text)) (map to_ascii_lowercase text) rest allowed)

some_if : (b : Bool) (n : List ℕ) → b ≡ true → Some n ≡ (if b then Some n else None)
some_if b n h = rw h refl

-- a name that stands as it was declared
pub name_declared : (ss : List Symbol) (k : TokenKind) (text : List ℕ) (rest : List Symbol) (n : List ℕ) → ss ≡ symbol_of (k, text) ∷ rest
    → same_kind k Word ≡ true → n ≡ text → is_allowed_name n ≡ true → name_at ss ≡ Some (n, rest)
name_declared ss k text rest n e h same allowed =
    let lower : map to_ascii_lowercase text ≡ n = ap (map to_ascii_lowercase) (sym same) ∙ allowed-lower n allowed in
    name_read ss k text rest n e h
    (subst (λ u. Some n ≡ (if is_allowed_name u then Some u else None)) (sym lower) (some_if (is_allowed_name n) n allowed))
