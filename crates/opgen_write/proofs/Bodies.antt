-- The statements of an architecture: the text of its body leads to the end, where its drivers were read.
use Rattle.std.proofs.Common.{◌≡◌, ℕ, ◌<◌, Bool, true, false, not, if◌then◌else◌, List, [], ◌∷◌, ◌++◌, length, filter, flat_map, codes, Option, Some, None, IfSome, IsSome, IsTrue, refl, ap, sym, subst, append_assoc, append-nil, true≢false, inl, inr}
use Rattle.std.specs.Prelude.{All}
use Rattle.std.specs.List.{list_any}
use Rattle.std.specs.Str.{bytes_eq}
use Rattle.std.proofs.lemmas.Bool.{cases_Bool, and_parts, not-true}
use Rattle.opgen_design.specs.declared.design.Design.{Design}
use Rattle.opgen_design.specs.declared.design.Driver.{Driver}
use Rattle.opgen_design.specs.declared.design.Driver.TheVariants.{Assign, Choice, Table, Register, Output}
use Rattle.opgen_design.specs.Order.{is_register}
use Rattle.opgen_vhdl.specs.Symbols.{Symbol, word, string, mark}
use Rattle.opgen_vhdl.specs.ExpressionText.{port_name}
use Rattle.opgen_vhdl.specs.DesignText.{is_neither, is_output, enable_text, end_enable_text, driver_text, drivers_text, process_text}
use Rattle.opgen_vhdl.specs.Statements.{Reading, names_of, end_of_piece, parenthesized_clock, at_edge, IsConcurrent, IsClocked, IsEnable, always, enabled, end_of_if, Takes, statement, process, register, end_if, end_enabled, end_edge, end_process, later_statement, of_unit, end_without_process, end_after_process}
use Rattle.opgen_vhdl.specs.declared.kind.TokenKind.TheVariants.{Semicolon, Equal}
use Rattle.opgen_vhdl.specs.declared.place.Place.{Place}
use Rattle.opgen_vhdl.specs.declared.place.Place.TheVariants.{Body, Process, EndEdge, EndProcess, AfterProcess}
use Rattle.opgen_write.proofs.Lexing.{Lexes, lexes_found, lexes_end}
use Rattle.opgen_write.proofs.Words.{lexes_name}
use Rattle.opgen_write.proofs.Expressions.{AreWithin, within-append, AreFound}
use Rattle.opgen_write.proofs.Drivers.{WritesPiece, DriverFits, concurrent_written, register_written}
use Rattle.opgen_write.proofs.Leading.{Leads, leads_on, leads_last, each_leads, all_first, all_rest}

abbrev pub is_some : {X : Type 0} → List X → Bool
is_some [] = false
is_some (x ∷ xs) = true

pub some_passes : {X : Type 0} (p : X → Bool) (xs : List X) → list_any p xs ≡ is_some (filter p xs)
some_passes p [] = refl
some_passes p (x ∷ xs) = elim (cases_Bool (p x)) [
  | inl passes ↦ rw passes refl
  | inr fails ↦ rw fails (some_passes p xs)
]

pub neither-no_register : (k : Driver) → is_neither k ≡ true → is_register k ≡ false
neither-no_register k h = not-true (is_register k) (and_parts (not (is_register k)) (not (is_output k)) h).0

pub output-no_register : (k : Driver) → is_output k ≡ true → is_register k ≡ false
output-no_register (Assign s e) h = refl
output-no_register (Choice s on one other) h = refl
output-no_register (Table s on rows other) h = refl
output-no_register (Register s e) h = sym h
output-no_register (Output p e) h = refl

-- what was read before the next statement: an enable, and drivers
abbrev pub in_body : Design → Option ℕ → List Driver → Reading
in_body d e ks = record {
  design = record { name = d.name; ports = d.ports; signals = d.signals; drivers = ks; enable = e };
  architecture = codes "rtl";
  agrees = bytes_eq d.name d.name;
}

-- the text of the process of these registers
abbrev pub process_of : Design → List Driver → List ℕ
process_of d rs =
    if is_some rs
    then codes "  process (clk)\n  begin\n    if rising_edge(clk) then\n" ++ enable_text d d.enable ++ flat_map (driver_text d) rs
    ++ end_enable_text d.enable ++ codes "    end if;\n  end process;\n"
    else []

pub process_text-of : (d : Design) → process_text d ≡ process_of d (filter is_register d.drivers)
unfolding process_text drivers_text
process_text-of d = rw (some_passes is_register d.drivers) refl

module _ (d : Design) (found : AreFound d) where
  abbrev body : Option ℕ → List Driver → Reading
  body e ks = in_body d e ks

  abbrev IsGoodConcurrent : Driver → Type 0
  IsGoodConcurrent k = (is_register k ≡ false) × DriverFits d k

  abbrev IsGoodRegister : Driver → Type 0
  IsGoodRegister k = (is_register k ≡ true) × DriverFits d k

  clocked_written : (k : Driver) → IsGoodRegister k → WritesPiece (IsClocked (names_of d) k) (driver_text d k)
  clocked_written (Assign s e) g = absurd (true≢false (sym g.0))
  clocked_written (Choice s on one other) g = absurd (true≢false (sym g.0))
  clocked_written (Table s on rows other) g = absurd (true≢false (sym g.0))
  clocked_written (Register s e) g = register_written d found s e g.1
  clocked_written (Output p e) g = absurd (true≢false (sym g.0))

  lexes_end_architecture : Lexes (codes "end architecture;\n") (word (codes "end") ∷ word (codes "architecture") ∷ end_of_piece)
  lexes_end_architecture =
      lexes_found 5 (codes "end architecture;\n") [] (word (codes "end") ∷ word (codes "architecture") ∷ end_of_piece) [] refl lexes_end

  ends_body : (e : Option ℕ) (ks : List Driver) → Leads Body (body e ks) (codes "end architecture;\n") (body e ks)
  ends_body e ks = leads_last Body (body e ks) (body e ks) (codes "end architecture;\n")
      (word (codes "end") ∷ word (codes "architecture") ∷ []) refl lexes_end_architecture (end_without_process of_unit)

  ends_after_process : (e : Option ℕ) (ks : List Driver) → Leads AfterProcess (body e ks) (codes "end architecture;\n") (body e ks)
  ends_after_process e ks = leads_last AfterProcess (body e ks) (body e ks) (codes "end architecture;\n")
      (word (codes "end") ∷ word (codes "architecture") ∷ []) refl lexes_end_architecture (end_after_process of_unit)

  -- the enable of a process: its `if`, where there is one

  abbrev IsPort : Option ℕ → Type 0
  IsPort e = IfSome e (λ p. p < length d.ports)

  abbrev enable_symbols : Option ℕ → List Symbol
  enable_symbols None = []
  enable_symbols (Some p) = word (codes "if") ∷ word (port_name d p) ∷ mark Equal ∷ string (true ∷ []) ∷ word (codes "then") ∷ []

  enable-within : (e : Option ℕ) → AreWithin (enable_symbols e)
  enable-within None = refl
  enable-within (Some p) = refl

  lexes_enable : (e : Option ℕ) (rest : List ℕ) (ks : List Symbol) → IsPort e → Lexes rest ks
      → Lexes (enable_text d e ++ rest) (enable_symbols e ++ ks)
  lexes_enable None rest ks h l = l
  lexes_enable (Some p) rest ks h l =
      let n = port_name d p in
      let behind = codes " = \"1\" then\n" ++ rest in
      let tested = lexes_found 7 behind rest (mark Equal ∷ string (true ∷ []) ∷ word (codes "then") ∷ []) ks refl l in
      let text : enable_text d (Some p) ++ rest ≡ codes "      if " ++ (n ++ behind) = simp append_assoc in
      rw text (lexes_found 8 (codes "      if " ++ (n ++ behind)) (n ++ behind) (word (codes "if") ∷ []) _ refl
      (lexes_name n behind (found.ports p h).allowed refl _ tested))

  enable_is : (e : Option ℕ) (ks : List Symbol) → IsPort e → IsEnable (names_of d) e (enable_symbols e ++ ks) ks
  enable_is None ks h = always
  enable_is (Some p) ks h =
      let at = found.ports p h in
      subst
      (λ k. IsEnable (names_of d) (Some k) (word (codes "if") ∷ word (port_name d p) ∷ mark Equal ∷ string (true ∷ []) ∷ word
      (codes "then") ∷ ks) ks)
      at.first
      (enabled at.allowed)

  module _ (rest : List ℕ) (q : Reading) where
    statements_lead : (ks done : List Driver) → All IsGoodConcurrent ks → Leads Body (body None (done ++ ks)) rest q
        → Leads Body (body None done) (flat_map (driver_text d) ks ++ rest) q
    statements_lead = each_leads Body (body None) (driver_text d) IsGoodConcurrent (λ k. IsConcurrent (names_of d) k)
        (λ k g. concurrent_written d found k g.0 g.1) (λ done k ss i. statement i) rest q

    module _ (e : Option ℕ) where
      later_statements_lead : (ks done : List Driver) → All IsGoodConcurrent ks → Leads AfterProcess (body e (done ++ ks)) rest q
          → Leads AfterProcess (body e done) (flat_map (driver_text d) ks ++ rest) q
      later_statements_lead = each_leads AfterProcess (body e) (driver_text d) IsGoodConcurrent (λ k. IsConcurrent (names_of d) k)
          (λ k g. concurrent_written d found k g.0 g.1) (λ done k ss i. later_statement i) rest q

      -- the end of the `if` at the edge, and of the process
      edge_ends : (from : Place) (ks : List Driver) → Takes from (body e ks) end_of_if EndProcess (body e ks)
          → Leads AfterProcess (body e ks) rest q
          → Leads from (body e ks) (codes "    end if;\n  end process;\n" ++ rest) q
      edge_ends from ks takes l =
          leads_on from EndProcess (body e ks) (body e ks) q (codes "    end if;\n  end process;\n" ++ rest)
          (codes "\n  end process;\n" ++ rest) (word (codes "end") ∷ word (codes "if") ∷ []) refl
          (λ us m. lexes_found 8 (codes "    end if;\n  end process;\n" ++ rest) (codes "\n  end process;\n" ++ rest)
          (word (codes "end") ∷ word (codes "if") ∷ mark Semicolon ∷ []) us refl m) takes
          (leads_on EndProcess AfterProcess (body e ks) (body e ks) q (codes "\n  end process;\n" ++ rest) rest
          (word (codes "end") ∷ word (codes "process") ∷ []) refl
          (λ us m. lexes_found 8 (codes "\n  end process;\n" ++ rest) rest
          (word (codes "end") ∷ word (codes "process") ∷ mark Semicolon ∷ []) us refl m) end_process l)

    process_ends : (e : Option ℕ) (ks : List Driver) → Leads AfterProcess (body e ks) rest q
        → Leads Process (body e ks) (end_enable_text e ++ (codes "    end if;\n  end process;\n" ++ rest)) q
    process_ends None ks l = edge_ends None Process ks (end_if refl) l
    process_ends (Some p) ks l =
        let ending = codes "    end if;\n  end process;\n" ++ rest in
        leads_on Process EndEdge (body (Some p) ks) (body (Some p) ks) q (codes "      end if;\n" ++ ending) ending
        (word (codes "end") ∷ word (codes "if") ∷ []) refl
        (λ us m. lexes_found 11 (codes "      end if;\n" ++ ending) ending
        (word (codes "end") ∷ word (codes "if") ∷ mark Semicolon ∷ []) us refl m) (end_enabled refl)
        (edge_ends (Some p) EndEdge ks end_edge l)

    -- the process up to its enable or its first assignment
    abbrev process_head : List Symbol
    process_head = word (codes "process") ∷ parenthesized_clock (at_edge [])

    lexes_process : (text : List ℕ) (us : List Symbol) → Lexes text us
        → Lexes (codes "  process (clk)\n  begin\n    if rising_edge(clk) then\n" ++ text) (process_head ++ us)
    lexes_process text us l =
        lexes_found 25 (codes "  process (clk)\n  begin\n    if rising_edge(clk) then\n" ++ text) text process_head us refl l

    process_leads : (e : Option ℕ) (k : Driver) (ks done : List Driver) → IsPort e → All IsGoodRegister (k ∷ ks)
        → Leads AfterProcess (body e (done ++ k ∷ ks)) rest q
        → Leads Body (body None done)
        (codes "  process (clk)\n  begin\n    if rising_edge(clk) then\n" ++
        (enable_text d e ++ (flat_map (driver_text d) (k ∷ ks) ++
        (end_enable_text e ++ (codes "    end if;\n  end process;\n" ++ rest))))) q
    process_leads e k ks done port good l =
        let w = clocked_written k (all_first IsGoodRegister k ks good) in
        let ending = end_enable_text e ++ (codes "    end if;\n  end process;\n" ++ rest) in
        let others = flat_map (driver_text d) ks ++ ending in
        let closed : Leads Process (body e ((done ++ k ∷ []) ++ ks)) ending q =
        subst (λ u. Leads Process (body e u) ending q) (sym (append_assoc done (k ∷ []) ks)) (process_ends e (done ++ k ∷ ks) l) in
        let more : Leads Process (body e (done ++ k ∷ [])) others q
        = each_leads Process (body e) (driver_text d) IsGoodRegister (λ k. IsClocked (names_of d) k) clocked_written
        (λ done k ss i. register i) ending q ks (done ++ k ∷ []) (all_rest IsGoodRegister k ks good) closed in
        let piece = enable_symbols e ++ w.symbols in
        subst (λ u. Leads Body (body None done) (codes "  process (clk)\n  begin\n    if rising_edge(clk) then\n" ++
        (enable_text d e ++ u)) q) (sym (append_assoc (driver_text d k) (flat_map (driver_text d) ks) ending))
        (leads_on Body Process (body None done) (body e (done ++ k ∷ [])) q _ others (process_head ++ piece)
        (within-append (enable_symbols e) w.symbols (enable-within e) w.within_piece)
        (λ us m. rw (append_assoc (enable_symbols e) w.symbols (mark Semicolon ∷ us))
        (lexes_process (enable_text d e ++ (driver_text d k ++ others)) (enable_symbols e ++ (w.symbols ++ mark Semicolon ∷ us))
        (lexes_enable e (driver_text d k ++ others) (w.symbols ++ mark Semicolon ∷ us) port (w.lexes others us m))))
        (rw (append_assoc (enable_symbols e) w.symbols end_of_piece) (process (enable_is e (w.symbols ++ end_of_piece) port) w.says)) more)

  -- where there is an enable there is a register
  without_registers : (e : Option ℕ) → (IsSome e → IsTrue false) → e ≡ None
  without_registers None h = refl
  without_registers (Some p) h = absurd (true≢false (sym (h refl)))

  -- the statements, then the process, then the outputs
  pub body_leads : (ns rs os : List Driver) → All IsGoodConcurrent ns → All IsGoodRegister rs → All IsGoodConcurrent os → IsPort d.enable
      → (IsSome d.enable → IsTrue (is_some rs))
      → Leads Body (body None [])
      (flat_map (driver_text d) ns ++ (process_of d rs ++ (flat_map (driver_text d) os ++ codes "end architecture;\n")))
      (body d.enable (ns ++ rs ++ os))
  body_leads ns [] os n r o port registered =
      let all : ns ++ [] ++ os ≡ ns ++ os = ap (λ u. u ++ os) (append-nil ns) in
      let q = body None (ns ++ [] ++ os) in
      let ended : Leads Body (body None (ns ++ os)) (codes "end architecture;\n") q =
      subst (λ u. Leads Body (body None (ns ++ os)) (codes "end architecture;\n") (body None u)) (sym all)
      (ends_body None (ns ++ os)) in
      subst (λ e. Leads Body (body None []) (flat_map (driver_text d) ns ++ (flat_map (driver_text d) os ++ codes "end architecture;\n"))
      (body e (ns ++ [] ++ os))) (sym (without_registers d.enable registered))
      (statements_lead (flat_map (driver_text d) os ++ codes "end architecture;\n") q ns [] n
      (statements_lead (codes "end architecture;\n") q os ns o ended))
  body_leads ns (k ∷ ks) os n r o port registered =
      let q = body d.enable (ns ++ (k ∷ ks) ++ os) in
      let outputs = flat_map (driver_text d) os ++ codes "end architecture;\n" in
      let last = later_statements_lead (codes "end architecture;\n") q d.enable os (ns ++ k ∷ ks) o
      (ends_after_process d.enable (ns ++ (k ∷ ks) ++ os)) in
      let text : process_of d (k ∷ ks) ++ outputs
      ≡ codes "  process (clk)\n  begin\n    if rising_edge(clk) then\n" ++
      (enable_text d d.enable ++ (flat_map (driver_text d) (k ∷ ks) ++
      (end_enable_text d.enable ++ (codes "    end if;\n  end process;\n" ++ outputs))))
      = simp append_assoc in
      statements_lead (process_of d (k ∷ ks) ++ outputs) q ns [] n
      (subst (λ u. Leads Body (body None ns) u q) (sym text) (process_leads outputs q d.enable k ks ns port r last))
