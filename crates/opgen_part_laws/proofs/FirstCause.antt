-- A text has one first cause against it at most, and none where it spells a sound design within the limits.
use Rattle.std.specs.Prelude.{IfSome, slice_get}
use Rattle.std.proofs.Common.{◌≡◌, ◌≢◌, inl, inr, ℕ, ◌<◌, true, false, List, length, Option, Some, None, refl, ap, sym, ◌∙◌, subst, arith}
use Rattle.std.proofs.lemmas.Bool.{cases_order}
use Rattle.opgen_design.specs.declared.design.Design.{Design}
use Rattle.opgen_design.specs.declared.sound.Rule.{Rule}
use Rattle.opgen_design.specs.declared.sound.Rule.TheVariants.{Undeclared, DeclaredTwice, Width, DrivenTwice, NotDriven, Cyclic, ReadsOutput, NoInitial, ChoiceTwice, BadEnable}
use Rattle.opgen_design.specs.Sound.{rule_number, Holds, at_design, at_port, at_signal, at_driver, DependsOn, at_once, through, IsOrderedBy, IsOrdered, IsSound, IsFirstUnsound}
use Rattle.opgen_design.proofs.WithoutEnable.{if-each}
use Rattle.opgen_design.proofs.RuleOrder.{same-rule}
use Rattle.opgen_vhdl.specs.declared.kind.Token.{Token}
use Rattle.opgen_vhdl.specs.Tokens.{Tokens, LexicalAt}
use Rattle.opgen_vhdl.specs.Statements.{Reading}
use Rattle.opgen_vhdl.specs.Spelled.{Statements, Spells}
use Rattle.opgen_vhdl.proofs.CutLemmas.{one_cut, nothing_starts_at_end}
use Rattle.opgen_vhdl.proofs.Walks.{one_list, one_fault, not_both}
use Rattle.opgen_vhdl.specs.Tokens.{size_of}
use Rattle.opgen_read.specs.declared.fault.ReadFault.{ReadFault}
use Rattle.opgen_read.specs.declared.fault.ReadFault.TheVariants.{Lexical, Syntax, TooLarge, Unsound, Memory}
use Rattle.opgen_read.specs.Answer.{IsWithinLimits, FailsAt, IsReadFault}

no_tokens : (bytes : List ℕ) (ts : List Token) (n : ℕ) → Tokens bytes ts → LexicalAt bytes n → ⊥
no_tokens bytes ts n s t =
    let none_left = (one_cut s.elements t.elements bytes _ t.rest s.cut t.cut nothing_starts_at_end t.nothing).1 in
    omega (arith, ap length none_left, t.more)

one_offset : (bytes : List ℕ) (m n : ℕ) → LexicalAt bytes m → LexicalAt bytes n → m ≡ n
one_offset bytes m n s t = sym s.place ∙ ap size_of (one_cut s.elements t.elements bytes s.rest t.rest s.cut t.cut s.nothing t.nothing).0
    ∙ t.place

no_later : (d : Design) (x y : Rule) (i j : ℕ) → IsFirstUnsound d x i → IsFirstUnsound d y j → rule_number x < rule_number y → ⊥
no_later d x y i j f g h = f.fails.2 (g.earlier_rules x h f.fails.0)

same_rule : (d : Design) (x y : Rule) (i j : ℕ) → IsFirstUnsound d x i → IsFirstUnsound d y j → rule_number x ≡ rule_number y
same_rule d x y i j f g = elim (cases_order (rule_number x) (rule_number y)) [
  | inl e ↦ e
  | inr h ↦ elim h [ inl l ↦ absurd (no_later d x y i j f g l) | inr l ↦ absurd (no_later d y x j i g f l) ]
]

no_farther : (d : Design) (x : Rule) (i j : ℕ) → IsFirstUnsound d x i → IsFirstUnsound d x j → i < j → ⊥
no_farther d x i j f g h = f.fails.2 (g.earlier_places f.fails.0 (omega (arith, f.fails.1, h)))

same_item : (d : Design) (x : Rule) (i j : ℕ) → IsFirstUnsound d x i → IsFirstUnsound d x j → i ≡ j
same_item d x i j f g = elim (cases_order i j) [
  | inl e ↦ e
  | inr h ↦ elim h [ inl l ↦ absurd (no_farther d x i j f g l) | inr l ↦ absurd (no_farther d x j i g f l) ]
]

one_failure : (r : Reading) (m i n j : ℕ) → FailsAt r m i → FailsAt r n j → (m ≡ n) × (i ≡ j)
one_failure r m i n j (inl f) (inl g) = (f.1 ∙ sym g.1, f.2 ∙ sym g.2)
one_failure r m i n j (inl f) (inr g) = let bad : false ≡ true = sym f.0 ∙ g.0 in cc
one_failure r m i n j (inr f) (inl g) = let bad : false ≡ true = sym g.0 ∙ f.0 in cc
one_failure r m i n j (inr f) (inr g) =
    let number = same_rule r.design f.1 g.1 i j f.3 g.3 in
    let same = same-rule f.1 g.1 number in
    (sym f.2 ∙ number ∙ g.2, same_item r.design g.1 i j (subst (λ x. IsFirstUnsound r.design x i) same f.3) g.3)

fail_at : (bytes : List ℕ) (q r : Reading) (m i n j : ℕ) → Statements bytes q → Statements bytes r → FailsAt q m i → FailsAt r n j
    → Unsound m i ≡ Unsound n j
fail_at bytes q r m i n j s t f g =
    let same = one_list bytes q r s t in
    let (a, b) = one_failure r m i n j (subst (λ x. FailsAt x m i) same f) g in
    ap (λ u. Unsound u i) a ∙ ap (Unsound n) b

-- two causes against a text, neither of them out of memory, are one
pub one_cause : (bytes : List ℕ) (e f : ReadFault) → e ≢ Memory → f ≢ Memory → IsReadFault bytes e → IsReadFault bytes f → e ≡ f
one_cause bytes Memory f m n c d = absurd (m refl)
one_cause bytes e Memory m n c d = absurd (n refl)
one_cause bytes (Lexical i) (Lexical j) m n c d = ap Lexical (one_offset bytes i j c d)
one_cause bytes (Lexical i) (Syntax k) m n c d = absurd (no_tokens bytes d.tokens i d.cut c)
one_cause bytes (Lexical i) TooLarge m n c d = absurd (no_tokens bytes d.1.tokens i d.1.cut c)
one_cause bytes (Lexical i) (Unsound r k) m n c d = absurd (no_tokens bytes d.1.tokens i d.1.cut c)
one_cause bytes (Syntax k) (Lexical i) m n c d = absurd (no_tokens bytes c.tokens i c.cut d)
one_cause bytes (Syntax j) (Syntax k) m n c d = ap Syntax (one_fault bytes j k c d)
one_cause bytes (Syntax k) TooLarge m n c d = absurd (not_both bytes d.0 k d.1 c)
one_cause bytes (Syntax k) (Unsound r i) m n c d = absurd (not_both bytes d.0 k d.1 c)
one_cause bytes TooLarge (Lexical i) m n c d = absurd (no_tokens bytes c.1.tokens i c.1.cut d)
one_cause bytes TooLarge (Syntax k) m n c d = absurd (not_both bytes c.0 k c.1 d)
one_cause bytes TooLarge TooLarge m n c d = refl
one_cause bytes TooLarge (Unsound r i) m n c d = absurd
    (c.2 (subst (λ (x : Reading). IsWithinLimits x.design) (one_list bytes d.0 c.0 d.1 c.1) d.2))
one_cause bytes (Unsound r i) (Lexical k) m n c d = absurd (no_tokens bytes c.1.tokens k c.1.cut d)
one_cause bytes (Unsound r i) (Syntax k) m n c d = absurd (not_both bytes c.0 k c.1 d)
one_cause bytes (Unsound r i) TooLarge m n c d = absurd
    (d.2 (subst (λ (x : Reading). IsWithinLimits x.design) (one_list bytes c.0 d.0 c.1 d.1) c.2))
one_cause bytes (Unsound r i) (Unsound q j) m n c d = fail_at bytes c.0 d.0 r i q j c.1 d.1 c.3 d.3

-- in a sound design no rule fails
falls : (d : Design) (number : ℕ → ℕ) → IsOrderedBy number d.drivers → (s r : ℕ) → DependsOn d s r → number r < number s
falls d number o s r (at_once k c t n) = o s r k c t n
falls d number o s r (through {q = q} f g) = omega (arith, falls d number o s q f, falls d number o q r g)

itself : (d : Design) (number : ℕ → ℕ) (s : ℕ) → IsOrderedBy number d.drivers → DependsOn d s s → ⊥
itself d number s o f = omega (arith, falls d number o s s f)

off_cycles : (d : Design) → IsOrdered d → Holds d Cyclic
off_cycles d o at_design = tt
off_cycles d o (at_port i) = if-each (slice_get d.ports i) _ (λ x. tt)
off_cycles d o (at_signal i) = if-each (slice_get d.signals i) _ (λ x. tt)
off_cycles d o (at_driver i) = if-each (slice_get d.drivers i) _ (λ k s e f. itself d o.0 s o.1 f)

all_hold : (d : Design) → IsSound d → (r : Rule) → Holds d r
all_hold d s Undeclared = s.declared
all_hold d s DeclaredTwice = s.declared_once
all_hold d s Width = s.widths
all_hold d s DrivenTwice = s.driven_once
all_hold d s NotDriven = s.driven
all_hold d s Cyclic = off_cycles d s.ordered
all_hold d s ReadsOutput = s.reads_inputs
all_hold d s NoInitial = s.initials
all_hold d s ChoiceTwice = s.addresses
all_hold d s BadEnable = s.enable

sound_fails : (r : Reading) (m i : ℕ) → r.agrees ≡ true → IsSound r.design → FailsAt r m i → ⊥
sound_fails r m i agrees s (inl f) = let bad : false ≡ true = sym f.0 ∙ agrees in cc
sound_fails r m i agrees s (inr f) = f.3.fails.2 (all_hold r.design s f.1 f.3.fails.0)

-- a text that spells a sound design within the limits has no cause against it
pub no_cause : (bytes : List ℕ) (d : Design) (e : ReadFault) → Spells bytes d → IsWithinLimits d → IsSound d → IsReadFault bytes e → e
    ≡ Memory
no_cause bytes d (Lexical i) p w s c = absurd (no_tokens bytes p.statements.tokens i p.statements.cut c)
no_cause bytes d (Syntax k) p w s c = absurd (not_both bytes p.read k p.statements c)
no_cause bytes d TooLarge p w s c =
    let same = ap (λ (x : Reading). x.design) (one_list bytes c.0 p.read c.1 p.statements) ∙ p.design in
    absurd (c.2 (subst IsWithinLimits (sym same) w))
no_cause bytes d (Unsound m i) p w s c =
    let same = one_list bytes c.0 p.read c.1 p.statements in
    absurd (sound_fails p.read m i p.names_agree (subst IsSound (sym p.design) s) (subst (λ x. FailsAt x m i) same c.3))
no_cause bytes d Memory p w s c = refl
