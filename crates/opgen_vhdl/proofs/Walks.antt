-- Pieces one after the other: a text has one reading or one first fault, and never both.
use Rattle.std.specs.Prelude.{if◌then◌else◌, ◌≢◌}
use Rattle.std.proofs.Common.{◌≡◌, ◌⊎◌, inl, inr, ℕ, suc, ◌+◌, Bool, true, false, List, [], ◌∷◌, ◌++◌, length, take, drop, Option, Some, None, refl, ap, sym, ◌∙◌, arith, append_assoc}
use Rattle.std.proofs.lemmas.Bool.{cases_Bool}
use Rattle.std.proofs.lemmas.Grind.{common_steps}
use Rattle.std.proofs.lemmas.Option.{same_Some}
use Rattle.opgen_design.specs.declared.design.Design.{Design}
use Rattle.opgen_vhdl.specs.declared.kind.Token.{Token}
use Rattle.opgen_vhdl.specs.declared.place.Place.{Place}
use Rattle.opgen_vhdl.specs.declared.place.Place.TheVariants.{Library, UseLogic, UseNumeric, Entity, Ports, EndEntity, Architecture, Declarations, Body, Process, EndEdge, EndProcess, AfterProcess, End}
use Rattle.opgen_vhdl.specs.Tokens.{Tokens, LexicalAt, tokens_from}
use Rattle.opgen_vhdl.specs.Symbols.{Symbol, symbols, pieces, is_semicolon}
use Rattle.opgen_vhdl.specs.Statements.{Reading, nothing, Takes, Follows, stay, onward, Stops}
use Rattle.opgen_vhdl.specs.Spelled.{Statements, Spells, StopsAt, SyntaxAt}
use Rattle.opgen_vhdl.specs.Reader.{◌>>=◌, and_then, choice, Step, takes_at}
use Rattle.opgen_vhdl.proofs.Steps.{found, found_is, cases_option}
use Rattle.opgen_vhdl.proofs.Takes.{takes-reads, takes-is}
use Rattle.opgen_vhdl.proofs.CutLemmas as cuts

append-empty : {A : Type 0} (xs : List A) → xs ++ [] ≡ xs
append-empty xs = grind (arith, common_steps)

-- how many symbols the first piece has
abbrev pub first_len : List Symbol → ℕ
first_len [] = 0
first_len (s ∷ ss) = if is_semicolon s then 1 else suc (first_len ss)

pub pieces-first : (s : Symbol) (ss : List Symbol) → pieces (s ∷ ss)
    ≡ take (first_len (s ∷ ss)) (s ∷ ss) ∷ pieces (drop (first_len (s ∷ ss)) (s ∷ ss))
pieces-first s [] = elim (cases_Bool (is_semicolon s)) [ inl y ↦ rw y refl | inr n ↦ rw n refl ]
pieces-first s (t ∷ ss) = elim (cases_Bool (is_semicolon s)) [ inl y ↦ rw y refl | inr n ↦ rw (n, pieces-first t ss) refl ]

pub Follows-push : {p q p2 : Place} {r r2 r3 : Reading} {ps : List (List Symbol)} {piece : List Symbol} → Follows p r ps q r2
    → Takes q r2 piece p2 r3 → Follows p r (ps ++ piece ∷ []) p2 r3
Follows-push stay t = onward t stay
Follows-push (onward t f) u = onward t (Follows-push f u)

abbrev walk : Place → Reading → List (List Symbol) → Step
walk p r [] = Some (p, r)
walk p r (s ∷ ps) = takes_at p r s >>= λ x. walk x.0 x.1 ps

Follows-walk : {p q : Place} {r r2 : Reading} {ps : List (List Symbol)} → Follows p r ps q r2 → walk p r ps ≡ found q r2
unfolding and_then
Follows-walk stay = refl
Follows-walk (onward t f) = rw (takes-reads t, Follows-walk f) refl

one_walk : {p q q2 : Place} {r r2 r3 : Reading} {ps : List (List Symbol)} → Follows p r ps q r2 → Follows p r ps q2 r3 → (q ≡ q2)
    × (r2 ≡ r3)
one_walk {q = q} {q2 = q2} {r2 = r2} {r3 = r3} f g = found_is q q2 r2 r3 (sym (Follows-walk f) ∙ Follows-walk g)

abbrev is_end : Place → Bool
is_end End = true
is_end _ = false

not_end : (p : Place) → p ≢ End → is_end p ≡ false
not_end Library h = refl
not_end UseLogic h = refl
not_end UseNumeric h = refl
not_end Entity h = refl
not_end Ports h = refl
not_end EndEntity h = refl
not_end Architecture h = refl
not_end Declarations h = refl
not_end Body h = refl
not_end Process h = refl
not_end EndEdge h = refl
not_end EndProcess h = refl
not_end AfterProcess h = refl
not_end End h = absurd (h refl)

end_or_not : (p : Place) → (p ≡ End) ⊎ (p ≢ End)
end_or_not Library = inr (λ e. cc)
end_or_not UseLogic = inr (λ e. cc)
end_or_not UseNumeric = inr (λ e. cc)
end_or_not Entity = inr (λ e. cc)
end_or_not Ports = inr (λ e. cc)
end_or_not EndEntity = inr (λ e. cc)
end_or_not Architecture = inr (λ e. cc)
end_or_not Declarations = inr (λ e. cc)
end_or_not Body = inr (λ e. cc)
end_or_not Process = inr (λ e. cc)
end_or_not EndEdge = inr (λ e. cc)
end_or_not EndProcess = inr (λ e. cc)
end_or_not AfterProcess = inr (λ e. cc)
end_or_not End = inl refl

abbrev later : Option ℕ → Option ℕ
later None = None
later (Some n) = Some (suc n)

-- the first piece that its place does not take
abbrev fault_at : Place → Reading → List (List Symbol) → Option ℕ
fault_at p r [] = if is_end p then None else Some 1
fault_at p r (s ∷ ps) = choice (takes_at p r s) (Some 1) (λ x. later (fault_at x.0 x.1 ps))

no_take : (p : Place) (r : Reading) (piece : List Symbol) → ((q : Place) (r2 : Reading) → Takes p r piece q r2 → ⊥) → (o : Step)
    → takes_at p r piece ≡ o → o ≡ None
no_take p r piece h None e = refl
no_take p r piece h (Some x) e = absurd (h x.0 x.1 (takes-is p x.0 r x.1 piece e))

pub refuses : (p : Place) (r : Reading) (piece : List Symbol) → takes_at p r piece ≡ None → (q : Place) (r2 : Reading)
    → Takes p r piece q r2 → ⊥
refuses p r piece e q r2 t = let bad : None ≡ found q r2 = sym e ∙ takes-reads t in absurd cc

stops-fault : {p q : Place} {r r2 : Reading} {taken : List (List Symbol)} → Follows p r taken q r2 → (left : List (List Symbol))
    → Stops q r2 left → fault_at p r (taken ++ left) ≡ Some (suc (length taken))
unfolding choice
stops-fault {q = q} stay [] h = rw (not_end q h) refl
stops-fault {q = q} {r2 = r2} stay (piece ∷ ps) h = rw (no_take q r2 piece h (takes_at q r2 piece) refl) refl
stops-fault (onward t f) left h = rw (takes-reads t) (ap later (stops-fault f left h))

ends-faultless : {p q : Place} {r r2 : Reading} {ps : List (List Symbol)} → Follows p r ps q r2 → q ≡ End → fault_at p r ps ≡ None
unfolding choice
ends-faultless stay e = rw e refl
ends-faultless (onward t f) e = rw (takes-reads t) (ap later (ends-faultless f e))

suc-one : (n : ℕ) → suc n ≡ n + 1
suc-one n = omega arith

same_tokens : (bytes : List ℕ) (a b : List Token) → Tokens bytes a → Tokens bytes b → a ≡ b
same_tokens bytes a b s t = sym s.listed ∙ ap (tokens_from 0) (cuts.one_cut s.elements t.elements bytes _ _ s.cut t.cut
    cuts.nothing_starts_at_end cuts.nothing_starts_at_end).0 ∙ t.listed

syntax-fault : (bytes : List ℕ) (k : ℕ) (x : SyntaxAt bytes k) → fault_at Library nothing (pieces (symbols bytes x.tokens)) ≡ Some k
syntax-fault bytes k x = ap (fault_at Library nothing) x.stop.split ∙ stops-fault x.stop.follow x.stop.left x.stop.stops
    ∙ ap Some (suc-one (length x.stop.taken) ∙ sym x.stop.piece)

pub one_list : (bytes : List ℕ) (q r : Reading) → Statements bytes q → Statements bytes r → q ≡ r
one_list bytes q r f g =
    let same = same_tokens bytes f.tokens g.tokens f.cut g.cut in
    (one_walk f.follow (rw (← same) at g.follow)).1

pub one_fault : (bytes : List ℕ) (j k : ℕ) → SyntaxAt bytes j → SyntaxAt bytes k → j ≡ k
one_fault bytes j k f g =
    let same = same_tokens bytes f.tokens g.tokens f.cut g.cut in
    same_Some _ _ (sym (syntax-fault bytes j f) ∙ ap (λ ts. fault_at Library nothing (pieces (symbols bytes ts))) same ∙ syntax-fault bytes k g)

pub not_both : (bytes : List ℕ) (r : Reading) (k : ℕ) → Statements bytes r → SyntaxAt bytes k → ⊥
not_both bytes r k f g =
    let same = same_tokens bytes f.tokens g.tokens f.cut g.cut in
    let bad : None ≡ Some k = sym (ends-faultless f.follow refl) ∙ ap (λ ts. fault_at Library nothing (pieces (symbols bytes ts))) same
    ∙ syntax-fault bytes k g in
    absurd cc

pub one_design : (bytes : List ℕ) (c d : Design) → Spells bytes c → Spells bytes d → c ≡ d
one_design bytes c d f g = sym f.design ∙ ap (λ (r : Reading). r.design) (one_list bytes f.read g.read f.statements g.statements) ∙ g.design

reaches : (done left : List (List Symbol)) (p : Place) (r : Reading) → Follows Library nothing done p r
    → ((q : Reading) × Follows Library nothing (done ++ left) End q) ⊎ ((k : ℕ) × StopsAt (done ++ left) k)
reaches done [] p r f = elim (end_or_not p) [
  | inl e ↦ inl (r, rw (append-empty done, ← e) f)
  | inr h ↦ inr (
    length done + 1,
    record { taken = done; left = []; split = refl; place = p; read = r; follow = f; stops = h; piece = refl },
  )
]
reaches done (piece ∷ left) p r f = elim (cases_option (takes_at p r piece)) [
  | inl e ↦ inr (
    length done + 1,
    record {
      taken = done;
      left = piece ∷ left;
      split = refl;
      place = p;
      read = r;
      follow = f;
      stops = refuses p r piece e;
      piece = refl;
    },
  )
  | inr x ↦ rw (append_assoc done (piece ∷ []) left) at
      (reaches (done ++ piece ∷ []) left x.0.0 x.0.1 (Follows-push f (takes-is p x.0.0 r x.0.1 piece x.1)))
]

-- a text that has tokens is read, or has a first fault
reads_or_not : (bytes : List ℕ) → (ts : List Token) × Tokens bytes ts → ((r : Reading) × Statements bytes r) ⊎ ((k : ℕ) × SyntaxAt bytes k)
reads_or_not bytes (ts, t) = elim (reaches [] (pieces (symbols bytes ts)) Library nothing stay) [
  | inl f ↦ inl (f.0, record { tokens = ts; cut = t; follow = f.1 })
  | inr x ↦ inr (x.0, record { tokens = ts; cut = t; stop = x.1 })
]

pub one_answer : (bytes : List ℕ) → ((r : Reading) × Statements bytes r) ⊎ (((k : ℕ) × SyntaxAt bytes k) ⊎ ((n : ℕ) × LexicalAt bytes n))
one_answer bytes = elim (cuts.has_reading bytes) [
  | inl t ↦ elim (reads_or_not bytes t) [ inl r ↦ inl r | inr k ↦ inr (inl k) ]
  | inr n ↦ inr (inr n)
]
