-- The text of a sound, shaped design under allowed names, with a port, spells that design.
use Rattle.std.proofs.Common.{◌≡◌, ℕ, ◌≤◌, true, false, List, [], ◌∷◌, ◌++◌, length, filter, flat_map, codes, None, IsTrue, refl, ap, sym, ◌∙◌, subst, arith, append_assoc}
use Rattle.std.specs.Prelude.{All}
use Rattle.std.specs.Str.{bytes_eq}
use Rattle.std.proofs.lemmas.Slice.Eq.{bytes_eq-Decides}
use Rattle.opgen_num.proofs.Lists.{kept}
use Rattle.opgen_design.specs.declared.design.Design.{Design}
use Rattle.opgen_design.specs.declared.design.Driver.{Driver}
use Rattle.opgen_design.specs.declared.design.Port.{Port}
use Rattle.opgen_design.specs.declared.design.Signal.{Signal}
use Rattle.opgen_design.specs.Order.{is_register}
use Rattle.opgen_names.specs.Names.{refused_words, is_allowed_name}
use Rattle.opgen_vhdl.specs.Symbols.{word, mark}
use Rattle.opgen_vhdl.specs.DesignText.{is_neither, is_output, port_text, entity_text, signal_text, driver_text, drivers_text, architecture_text, text_of}
use Rattle.opgen_vhdl.specs.Shaped.{IsShaped, IsWritable}
use Rattle.opgen_vhdl.specs.Spelled.{Spells}
use Rattle.opgen_vhdl.specs.Statements.{Reading, nothing, end_of_piece, library_clause, use_logic, use_numeric, entity, port, last_port, end_entity, of_unit, architecture, begin}
use Rattle.opgen_vhdl.specs.declared.kind.TokenKind.TheVariants.{LeftParen, RightParen, Semicolon, Colon, Dot}
use Rattle.opgen_vhdl.specs.declared.place.Place.TheVariants.{Library, UseLogic, UseNumeric, Entity, Ports, EndEntity, Architecture, Declarations, Body}
use Rattle.opgen_write.proofs.Lexing.{lexes_found}
use Rattle.opgen_write.proofs.Words.{lexes_name}
use Rattle.opgen_write.proofs.Expressions.{AreFound}
use Rattle.opgen_write.proofs.Places.{are_found}
use Rattle.opgen_write.proofs.Drivers.{DriverFits}
use Rattle.opgen_write.proofs.Leading.{Leads, leads_on, leads_behind, each_leads, all_first, all_rest, leads_spell}
use Rattle.opgen_write.proofs.Declarations.{PortFits, port_behind, port_text-behind, port_symbols, lexes_port, port_is, SignalFits, Declares, signal_written}
use Rattle.opgen_write.proofs.Bodies.{some_passes, neither-no_register, output-no_register, in_body, process_of, process_text-of, body_leads}
use Rattle.opgen_write.proofs.Writable.{all_ports, all_signals, all_drivers, enable_fits}

rtl_allowed : IsTrue (is_allowed_name (codes "rtl"))
unfolding refused_words
rtl_allowed = refl

module _ (d : Design) (allowed : IsTrue (is_allowed_name d.name)) where
  -- what was read before the next port
  abbrev in_ports : List Port → Reading
  in_ports ps = record {
    design = record { name = d.name; ports = ps; signals = []; drivers = []; enable = None };
    architecture = [];
    agrees = true;
  }

  -- what was read before the next signal
  abbrev in_signals : List Signal → Reading
  in_signals ss = record {
    design = record { name = d.name; ports = d.ports; signals = ss; drivers = []; enable = None };
    architecture = codes "rtl";
    agrees = bytes_eq d.name d.name;
  }

  module _ (rest : List ℕ) (q : Reading) where
    head_leads : Leads Ports (in_ports []) rest q
        → Leads Library nothing
        (codes "library ieee;\nuse ieee.std_logic_1164.all;\nuse ieee.numeric_std.all;\n\nentity " ++
        (d.name ++ (codes " is\n  port (\n    clk : in std_logic;" ++ rest))) q
    head_leads l =
        let named = d.name ++ (codes " is\n  port (\n    clk : in std_logic;" ++ rest) in
        let third = codes "\n\nentity " ++ named in
        let second = codes "\nuse ieee.numeric_std.all;" ++ third in
        let first = codes "\nuse ieee.std_logic_1164.all;" ++ second in
        leads_on Library UseLogic nothing nothing q (codes "library ieee;" ++ first) first
        (word (codes "library") ∷ word (codes "ieee") ∷ []) refl
        (λ us m. lexes_found 4 (codes "library ieee;" ++ first) first
        (word (codes "library") ∷ word (codes "ieee") ∷ end_of_piece) us refl m) library_clause
        (leads_on UseLogic UseNumeric nothing nothing q first second
        (word (codes "use") ∷ word (codes "ieee") ∷ mark Dot ∷ word (codes "std_logic_1164") ∷ mark Dot ∷ word (codes "all") ∷ []) refl
        (λ us m. lexes_found 9 first second (word (codes "use") ∷ word (codes "ieee") ∷ mark Dot ∷ word
        (codes "std_logic_1164") ∷ mark Dot ∷ word (codes "all") ∷ end_of_piece) us refl m) use_logic
        (leads_on UseNumeric Entity nothing nothing q second third
        (word (codes "use") ∷ word (codes "ieee") ∷ mark Dot ∷ word (codes "numeric_std") ∷ mark Dot ∷ word (codes "all") ∷ []) refl
        (λ us m. lexes_found 9 second third (word (codes "use") ∷ word (codes "ieee") ∷ mark Dot ∷ word
        (codes "numeric_std") ∷ mark Dot ∷ word (codes "all") ∷ end_of_piece) us refl m) use_numeric
        (leads_on Entity Ports nothing (in_ports []) q third rest
        (word (codes "entity") ∷ word d.name ∷ word (codes "is") ∷ word (codes "port") ∷ mark LeftParen ∷ word
        (codes "clk") ∷ mark Colon ∷ word (codes "in") ∷ word (codes "std_logic") ∷ []) refl
        (λ us m.
        let clock = codes " is\n  port (\n    clk : in std_logic;" ++ rest in
        let behind =
        lexes_found 21 clock rest (word (codes "is") ∷ word (codes "port") ∷ mark LeftParen ∷ word
        (codes "clk") ∷ mark Colon ∷ word (codes "in") ∷ word (codes "std_logic") ∷ end_of_piece) us refl m in
        lexes_found 4 third named (word (codes "entity") ∷ []) _ refl (lexes_name d.name clock allowed refl _ behind))
        (entity allowed) l)))

    -- a port, and those behind it
    ports_lead : (p : Port) (ps done : List Port) → All PortFits (p ∷ ps) → Leads EndEntity (in_ports (done ++ p ∷ ps)) rest q
        → Leads Ports (in_ports done) (port_behind p ++ (flat_map port_text ps ++ (codes "\n  );" ++ rest))) q
    ports_lead p [] done good l =
        let f = all_first PortFits p [] good in
        leads_on Ports EndEntity (in_ports done) (in_ports (done ++ p ∷ [])) q _ rest (port_symbols p ++ mark RightParen ∷ []) refl
        (λ us m. lexes_port p (codes "\n  );" ++ rest) (mark RightParen ∷ mark Semicolon ∷ us) f
        (lexes_found 5 (codes "\n  );" ++ rest) rest (mark RightParen ∷ end_of_piece) us refl m))
        (last_port (port_is p (mark RightParen ∷ end_of_piece) f)) l
    ports_lead p (p2 ∷ ps) done good l =
        let f = all_first PortFits p (p2 ∷ ps) good in
        let behind = flat_map port_text ps ++ (codes "\n  );" ++ rest) in
        let later = ports_lead p2 ps (done ++ p ∷ []) (all_rest PortFits p (p2 ∷ ps) good)
        (subst (λ u. Leads EndEntity (in_ports u) rest q) (sym (append_assoc done (p ∷ []) (p2 ∷ ps))) l) in
        let text : flat_map port_text (p2 ∷ ps) ++ (codes "\n  );" ++ rest) ≡ codes ";" ++ (port_behind p2 ++ behind)
        = append_assoc (port_text p2) (flat_map port_text ps) (codes "\n  );" ++ rest) ∙ ap (λ u. u ++ behind) (port_text-behind p2) in
        subst (λ u. Leads Ports (in_ports done) (port_behind p ++ u) q) (sym text)
        (leads_on Ports Ports (in_ports done) (in_ports (done ++ p ∷ [])) q (port_behind p ++ (codes ";" ++ (port_behind p2 ++ behind)))
        (port_behind p2 ++ behind) (port_symbols p) refl
        (λ us m. lexes_port p (codes ";" ++ (port_behind p2 ++ behind)) (mark Semicolon ∷ us) f
        (lexes_found 1 (codes ";" ++ (port_behind p2 ++ behind)) (port_behind p2 ++ behind) end_of_piece us refl m))
        (port (port_is p end_of_piece f)) later)

    -- the end of the entity, and the head of the architecture
    between_leads : Leads Declarations (in_signals []) rest q
        → Leads EndEntity (in_ports d.ports) (codes "\nend entity;\n\narchitecture rtl of " ++ (d.name ++ (codes " is\n" ++ rest))) q
    between_leads l =
        let named = d.name ++ (codes " is\n" ++ rest) in
        let behind = codes "\n\narchitecture rtl of " ++ named in
        leads_on EndEntity Architecture (in_ports d.ports) (in_ports d.ports) q (codes "\nend entity;" ++ behind) behind
        (word (codes "end") ∷ word (codes "entity") ∷ []) refl
        (λ us m. lexes_found 5 (codes "\nend entity;" ++ behind) behind
        (word (codes "end") ∷ word (codes "entity") ∷ end_of_piece) us refl m) (end_entity of_unit)
        (leads_behind Architecture Declarations (in_ports d.ports) (in_signals []) q behind rest
        (word (codes "architecture") ∷ word (codes "rtl") ∷ word (codes "of") ∷ word d.name ∷ word (codes "is") ∷ []) refl
        (λ us m. lexes_found 8 behind named (word (codes "architecture") ∷ word (codes "rtl") ∷ word (codes "of") ∷ []) _ refl
        (lexes_name d.name (codes " is\n" ++ rest) allowed refl _
        (lexes_found 3 (codes " is\n" ++ rest) rest (word (codes "is") ∷ []) us refl m)))
        (λ ss next after t. architecture rtl_allowed allowed t) l)

    begin_leads : Leads Body (in_body d None []) rest q → Leads Declarations (in_signals d.signals) (codes "begin\n" ++ rest) q
    begin_leads l =
        leads_behind Declarations Body (in_signals d.signals) (in_body d None []) q (codes "begin\n" ++ rest) rest
        (word (codes "begin") ∷ []) refl
        (λ us m. lexes_found 2 (codes "begin\n" ++ rest) rest (word (codes "begin") ∷ []) us refl m) (λ ss next after t. begin t) l

    signals_lead : (ss done : List Signal) → All SignalFits ss → Leads Declarations (in_signals (done ++ ss)) rest q
        → Leads Declarations (in_signals done) (flat_map signal_text ss ++ rest) q
    signals_lead = each_leads Declarations in_signals signal_text SignalFits Declares signal_written
        (λ done s ss t. t (in_signals done)) rest q

module _ (d : Design) (p : Port) (ps : List Port) (e : d.ports ≡ p ∷ ps) where
  abbrev statements_text : List ℕ
  statements_text =
      flat_map (driver_text d) (filter is_neither d.drivers)
      ++ (process_of d (filter is_register d.drivers) ++
      (flat_map (driver_text d) (filter is_output d.drivers) ++ codes "end architecture;\n"))

  abbrev behind_ports : List ℕ
  behind_ports =
      codes "\nend entity;\n\narchitecture rtl of " ++ (d.name ++ (codes " is\n" ++ (flat_map signal_text d.signals ++ (codes "begin\n" ++ statements_text))))

  ports_text : flat_map port_text d.ports ≡ codes ";" ++ (port_behind p ++ flat_map port_text ps)
  ports_text = ap (flat_map port_text) e ∙ ap (λ u. u ++ flat_map port_text ps) (port_text-behind p)

  architecture-text : architecture_text d
      ≡ codes "architecture rtl of " ++ (d.name ++ (codes " is\n" ++ (flat_map signal_text d.signals ++ (codes "begin\n" ++ statements_text))))
  unfolding architecture_text drivers_text
  architecture-text = rw (sym (process_text-of d)) (simp append_assoc)

  abbrev head_text : List ℕ
  head_text = codes "library ieee;\nuse ieee.std_logic_1164.all;\nuse ieee.numeric_std.all;\n\nentity "

  abbrev ports_behind : List ℕ → List ℕ
  ports_behind rest = port_behind p ++ (flat_map port_text ps ++ (codes "\n  );" ++ rest))

  listed_ports : (rest : List ℕ) → flat_map port_text d.ports ++ (codes "\n  );" ++ rest) ≡ codes ";" ++ ports_behind rest
  listed_ports rest =
      ap (λ u. u ++ (codes "\n  );" ++ rest)) ports_text
      ∙ ap (λ u. codes ";" ++ u) (append_assoc (port_behind p) (flat_map port_text ps) (codes "\n  );" ++ rest))

  entity-text : (rest : List ℕ) → entity_text d ++ rest
      ≡ head_text ++
      (d.name ++ (codes " is\n  port (\n    clk : in std_logic" ++
      (flat_map port_text d.ports ++ (codes "\n  );\nend entity;\n\n" ++ rest))))
  unfolding entity_text
  entity-text rest = simp append_assoc

  whole-text : text_of d ≡ head_text ++ (d.name ++ (codes " is\n  port (\n    clk : in std_logic;" ++ ports_behind behind_ports))
  whole-text =
      entity-text (architecture_text d)
      ∙ ap (λ u. head_text ++
      (d.name ++ (codes " is\n  port (\n    clk : in std_logic" ++
      (flat_map port_text d.ports ++ (codes "\n  );\nend entity;\n\n" ++ u))))) architecture-text
      ∙ ap (λ u. head_text ++ (d.name ++ (codes " is\n  port (\n    clk : in std_logic" ++ u))) (listed_ports behind_ports)

first_port : (ps : List Port) → 1 ≤ length ps → (p : Port) × (more : List Port) × (ps ≡ p ∷ more)
first_port [] h = absurd (omega (arith, h))
first_port (p ∷ ps) h = (p, ps, refl)

module _ (d : Design) (w : IsWritable d) (shape : IsShaped d) where
  found : AreFound d
  found = are_found d w.sound w.names

  abbrev neither : List Driver
  neither = filter is_neither d.drivers

  abbrev registers : List Driver
  registers = filter is_register d.drivers

  abbrev outputs : List Driver
  outputs = filter is_output d.drivers

  abbrev read_last : Reading
  read_last = in_body d d.enable (neither ++ registers ++ outputs)

  drivers_fit : All (DriverFits d) d.drivers
  drivers_fit = all_drivers d w.sound shape w.names

  statements_lead : (p : Port) (ps : List Port) (e : d.ports ≡ p ∷ ps) → Leads Body (in_body d None []) (statements_text d p ps e) read_last
  statements_lead p ps e =
      body_leads d found neither registers outputs
      (kept is_neither (DriverFits d) (λ k. (is_register k ≡ false) × DriverFits d k)
      (λ k h f. (neither-no_register k h, f)) d.drivers drivers_fit)
      (kept is_register (DriverFits d) (λ k. (is_register k ≡ true) × DriverFits d k) (λ k h f. (h, f)) d.drivers drivers_fit)
      (kept is_output (DriverFits d) (λ k. (is_register k ≡ false) × DriverFits d k)
      (λ k h f. (output-no_register k h, f)) d.drivers drivers_fit)
      (enable_fits d w.sound shape w.names) (λ some. subst IsTrue (some_passes is_register d.drivers) (shape.enabled some))

  design_leads : (p : Port) (ps : List Port) (e : d.ports ≡ p ∷ ps) → Leads Library nothing (text_of d) read_last
  design_leads p ps e =
      let entity = w.names.entity in
      let begun = begin_leads d entity (statements_text d p ps e) read_last (statements_lead p ps e) in
      let declared = signals_lead d entity _ read_last d.signals [] (all_signals d w.sound shape w.names) begun in
      let between = between_leads d entity _ read_last declared in
      let fits = subst (All PortFits) e (all_ports d w.sound shape w.names) in
      let listed = ports_lead d entity (behind_ports d p ps e) read_last p ps [] fits
      (subst (λ u. Leads EndEntity (in_ports d entity u) (behind_ports d p ps e) read_last) e between) in
      subst (λ u. Leads Library nothing u read_last) (sym (whole-text d p ps e))
      (head_leads d entity (ports_behind d p ps e (behind_ports d p ps e)) read_last listed)

  pub spells : Spells (text_of d) d
  spells =
      let ports = first_port d.ports w.has_port in
      subst (λ ks. Spells (text_of d) (record { name = d.name; ports = d.ports; signals = d.signals; drivers = ks; enable = d.enable }))
      (sym shape.in_order)
      (leads_spell (text_of d) read_last (design_leads ports.0 ports.1 ports.2) ((bytes_eq-Decides d.name d.name).1 refl))
