-- From a place on, a text leads to the end of the table of places.
use Rattle.std.proofs.Common.{◌≡◌, true, not, ℕ, suc, List, [], ◌∷◌, ◌++◌, flat_map, refl, ap, sym, ◌∙◌, subst, arith, append_assoc, append-nil}
use Rattle.std.specs.Prelude.{All}
use Rattle.std.specs.List.{list_all}
use Rattle.std.proofs.lemmas.Bool.{and_parts, not-true}
use Rattle.opgen_vhdl.specs.Symbols.{Symbol, mark, is_semicolon, pieces}
use Rattle.opgen_vhdl.specs.Statements.{Reading, nothing, end_of_piece, Takes, Follows, stay, onward}
use Rattle.opgen_vhdl.specs.Spelled.{Spells}
use Rattle.opgen_vhdl.specs.declared.kind.TokenKind.TheVariants.{Semicolon}
use Rattle.opgen_vhdl.specs.declared.place.Place.{Place}
use Rattle.opgen_vhdl.specs.declared.place.Place.TheVariants.{Library, End}
use Rattle.opgen_write.proofs.Lexing.{Lexes, lexes_tokens}
use Rattle.opgen_write.proofs.Expressions.{AreWithin}
use Rattle.opgen_write.proofs.Drivers.{WritesPiece}

-- symbols that end no piece stand in front of the first piece
pieces-within : (ss ks first : List Symbol) (more : List (List Symbol)) → AreWithin ss → pieces ks ≡ first ∷ more
    → pieces (ss ++ ks) ≡ (ss ++ first) ∷ more
pieces-within [] ks first more h e = e
pieces-within (s ∷ ss) ks first more h e =
    let (here, later) = and_parts (not (is_semicolon s)) (list_all (λ s. not (is_semicolon s)) ss) h in
    rw (not-true (is_semicolon s) here, pieces-within ss ks first more later e) refl

-- The text is cut into pieces that lead from a place to the end, where q was read. The first of them stands apart.
pub record Leads (p : Place) (r : Reading) (bytes : List ℕ) (q : Reading) : Type 0 where
  pub symbols : List Symbol
  pub lexes : Lexes bytes symbols
  pub first : List Symbol
  pub more : List (List Symbol)
  pub cut : pieces symbols ≡ first ∷ more
  pub place : Place
  pub after : Reading
  pub takes : Takes p r first place after
  pub follows : Follows place after more End q

module _ (p p2 : Place) (r r2 q : Reading) where
  -- a piece, and what leads on behind it
  pub leads_on : (bytes rest : List ℕ) (piece : List Symbol) → AreWithin piece
      → ((ks : List Symbol) → Lexes rest ks → Lexes bytes (piece ++ mark Semicolon ∷ ks))
      → Takes p r (piece ++ end_of_piece) p2 r2 → Leads p2 r2 rest q → Leads p r bytes q
  leads_on bytes rest piece within lexes takes l = record {
    symbols = piece ++ mark Semicolon ∷ l.symbols;
    lexes = lexes l.symbols l.lexes;
    first = piece ++ end_of_piece;
    more = pieces l.symbols;
    cut = pieces-within piece (mark Semicolon ∷ l.symbols) end_of_piece (pieces l.symbols) within refl;
    place = p2;
    after = r2;
    takes = takes;
    follows = subst (λ u. Follows p2 r2 u End q) (sym l.cut) (onward l.takes l.follows);
  }

  pub leads_piece : (P : List Symbol → Type 0) (text rest : List ℕ) → WritesPiece P text
      → ((ss : List Symbol) → P ss → Takes p r ss p2 r2) → Leads p2 r2 rest q → Leads p r (text ++ rest) q
  leads_piece P text rest w takes l = leads_on (text ++ rest) rest w.symbols w.within_piece (λ ks m. w.lexes rest ks m) (takes _ w.says) l

  -- symbols within a piece, behind which another place leads on
  pub leads_behind : (bytes rest : List ℕ) (head : List Symbol) → AreWithin head
      → ((ks : List Symbol) → Lexes rest ks → Lexes bytes (head ++ ks))
      → ((ss : List Symbol) (next : Place) (after : Reading) → Takes p2 r2 ss next after → Takes p r (head ++ ss) next after)
      → Leads p2 r2 rest q → Leads p r bytes q
  leads_behind bytes rest head within lexes takes l = record {
    symbols = head ++ l.symbols;
    lexes = lexes l.symbols l.lexes;
    first = head ++ l.first;
    more = l.more;
    cut = pieces-within head l.symbols l.first l.more within l.cut;
    place = l.place;
    after = l.after;
    takes = takes l.first l.place l.after l.takes;
    follows = l.follows;
  }

-- the last piece
pub leads_last : (p : Place) (r q : Reading) (bytes : List ℕ) (piece : List Symbol) → AreWithin piece
    → Lexes bytes (piece ++ end_of_piece) → Takes p r (piece ++ end_of_piece) End q → Leads p r bytes q
leads_last p r q bytes piece within lexes takes = record {
  symbols = piece ++ end_of_piece;
  lexes = lexes;
  first = piece ++ end_of_piece;
  more = [];
  cut = pieces-within piece end_of_piece end_of_piece [] within refl;
  place = End;
  after = q;
  takes = takes;
  follows = stay;
}

pub all_first : {X : Type 0} (P : X → Type 0) (x : X) (xs : List X) → All P (x ∷ xs) → P x
all_first P x xs h = h 0 x (omega arith)

pub all_rest : {X : Type 0} (P : X → Type 0) (x : X) (xs : List X) → All P (x ∷ xs) → All P xs
all_rest P x xs h = λ k d b. h (suc k) d (omega (arith, b))

-- one piece for each of a list, which all stand at one place
module _ {X : Type 0} (p : Place) (state : List X → Reading) (text : X → List ℕ) (Good : X → Type 0) (P : X → List Symbol → Type 0)
    (written : (x : X) → Good x → WritesPiece (P x) (text x))
    (takes : (done : List X) (x : X) (ss : List Symbol) → P x ss → Takes p (state done) ss p (state (done ++ x ∷ [])))
    (rest : List ℕ) (q : Reading) where
  pub each_leads : (xs done : List X) → All Good xs → Leads p (state (done ++ xs)) rest q
      → Leads p (state done) (flat_map text xs ++ rest) q
  each_leads [] done good l = rw (append-nil done) at l
  each_leads (x ∷ xs) done good l =
      let later = each_leads xs (done ++ x ∷ []) (all_rest Good x xs good)
      (subst (λ u. Leads p (state u) rest q) (sym (append_assoc done (x ∷ []) xs)) l) in
      subst (λ u. Leads p (state done) u q) (sym (append_assoc (text x) (flat_map text xs) rest))
      (leads_piece p p (state done) (state (done ++ x ∷ [])) q (P x) (text x) (flat_map text xs ++ rest)
      (written x (all_first Good x xs good)) (takes done x) later)

-- what leads from the first place to the end spells the design that was read
pub leads_spell : (bytes : List ℕ) (q : Reading) → Leads Library nothing bytes q → q.agrees ≡ true → Spells bytes q.design
leads_spell bytes q l agrees =
    let t = lexes_tokens bytes l.symbols l.lexes in
    record {
      read = q;
      statements = record {
        tokens = t.0;
        cut = t.1;
        follow = subst (λ u. Follows Library nothing u End q) (sym (ap pieces t.2 ∙ l.cut)) (onward l.takes l.follows);
      };
      names_agree = agrees;
      design = refl;
    }
