-- A text on its way into a sink.
use Rattle.std.proofs.Common.{◌≡◌, ℕ, ◌+◌, ◌-◌, ◌≤◌, ◌<◌, List, [], ◌∷◌, ◌++◌, length, length-append, take, filter, get_or, Bool, true, false, cond, Option, Some, None, is_some, unwrap_or, IsSome, Result, Err, codes, refl, sym, ap, subst, ◌∙◌, append_assoc, arith}
use Rattle.std.specs.List.{flat_map, list_any}
use Rattle.std.proofs.lemmas.List.{append-nil, take_all, take_more, take-append-le, length-take}
use Rattle.std.proofs.lemmas.List.Elements.{filter_more}
use Rattle.std.proofs.lemmas.Grind.{flat_map-append}
use Rattle.std.proofs.Math.Seq.{take-append-add}
use Rattle.opgen_io.specs.Bytes.{GainsPrefix, TakesPrefix}
use Rattle.opgen_io.specs.Counts.{Rose}
use Rattle.opgen_design.specs.declared.design.Design.{Design}
use Rattle.opgen_design.specs.Order.{is_register}
use Rattle.opgen_vhdl.specs.DesignText.{enable_text, end_enable_text, drivers_text, process_text}
use Rattle.opgen_write.specs.declared.page.Page.{Page}
use Rattle.opgen_write.specs.declared.write.WriteFault.{WriteFault}
use Rattle.opgen_write.specs.declared.write.WriteFault.TheVariants.{Failed, Memory}
use Rattle.opgen_write.specs.Pages.{TakesAll, Came, Comes}

-- ---- first parts of texts
gains_length : (held bytes later : List ℕ) → GainsPrefix held bytes later → length held ≤ length later
gains_length held bytes later g = omega (arith, ap length g, length-append held (take (length later - length held) bytes))

-- a first part of a text is one of each longer text
gains_more : (held bytes more later : List ℕ) → GainsPrefix held bytes later → GainsPrefix held (bytes ++ more) later
gains_more held bytes more later g =
    let n = length later - length held in
    let short : n ≤ length bytes = omega (arith, ap length g, length-append held (take n bytes), length-take n bytes) in
    g ∙ ap (λ xs. held ++ xs) (sym (take-append-le n bytes more short))

prefix_more : (base : Option (List ℕ)) (bytes more : List ℕ) (taken : Option (List ℕ)) → TakesPrefix base bytes taken
    → TakesPrefix base (bytes ++ more) taken
prefix_more None bytes more taken h = tt
prefix_more (Some held) bytes more None h = tt
prefix_more (Some held) bytes more (Some later) h = gains_more held bytes more later h

-- what was sent is a first part of what came
gains_sent : (held sent page came : List ℕ) → sent ++ page ≡ came → GainsPrefix held came (held ++ sent)
gains_sent held sent page came e =
    let n : length (held ++ sent) - length held ≡ length sent = omega (arith, length-append held sent) in
    ap (λ xs. held ++ xs) (sym (ap (take (length (held ++ sent) - length held)) (sym e) ∙ ap (λ k. take k (sent ++ page)) n
    ∙ take-append-le (length sent) sent page (omega arith) ∙ take_all (length sent) sent (omega arith)))

-- and with a first part of the page it is one too
gains_page : (held sent page came later : List ℕ) → sent ++ page ≡ came → GainsPrefix (held ++ sent) page later
    → GainsPrefix held came later
gains_page held sent page came later e g =
    let low = gains_length (held ++ sent) page later g in
    let k = length later - length (held ++ sent) in
    let n : length later - length held ≡ length sent + k = omega (arith, low, length-append held sent) in
    g ∙ append_assoc held sent (take k page)
    ∙ ap (λ xs. held ++ xs) (sym (ap (take (length later - length held)) (sym e) ∙ ap (λ j. take j (sent ++ page)) n
    ∙ take-append-add sent page k))

-- ---- what came
all_part : (base : Option (List ℕ)) (came : List ℕ) (page : Page) (taken : Option (List ℕ)) → TakesAll base came page taken
    → TakesPrefix base came taken
all_part None came page taken h = tt
all_part (Some held) came page taken h = let (sent, at, e) = h held refl in
    subst (TakesPrefix (Some held) came) (sym at) (gains_sent held sent page.bytes.items came e)

lack : {X : Type 0} (o : Option X) (x : X) → o ≡ Some x → o ≡ None → ⊥
lack None x e n = cc
lack (Some y) x e n = cc

faulty : {X : Type 0} (o : Option X) → IsSome o → o ≡ None → ⊥
faulty None some n = cc
faulty (Some y) some n = cc

pub none_of : {X : Type 0} (o : Option X) → is_some o ≡ false → o ≡ None
none_of None e = refl
none_of (Some x) e = cc

pub came_start : (base : Option (List ℕ)) (faults : ℕ) (page : Page) → page.fault ≡ None → page.bytes.items ≡ []
    → Came base faults [] page base faults
came_start base faults page none blank = record {
  tells = refl;
  kept = omega arith;
  all = λ _ held e. ([], e ∙ ap Some (sym (append-nil held)), blank);
  part = λ some. absurd (faulty page.fault some none);
  failed = λ e. absurd (lack page.fault Failed e none);
}

-- ---- one step
pub comes_none : (page : Page) (taken : Option (List ℕ)) (count : ℕ) → Comes page taken count [] page taken count
comes_none page taken count base faults came w = subst (λ xs. Came base faults xs page taken count) (sym (append-nil came)) w

-- after a fault
pub comes_stopped : (page : Page) (taken : Option (List ℕ)) (count : ℕ) (text : List ℕ) → IsSome page.fault
    → Comes page taken count text page taken count
comes_stopped page taken count text some base faults came w =
    record {
      tells = w.tells;
      kept = w.kept;
      all = λ none. absurd (faulty page.fault some none);
      part = λ s. prefix_more base came text taken (w.part s);
      failed = w.failed;
    }

-- into the page
pub comes_kept : (page later : Page) (taken : Option (List ℕ)) (count : ℕ) (text : List ℕ) → page.fault ≡ None → later.fault ≡ None
    → later.bytes.items ≡ page.bytes.items ++ text → Comes page taken count text later taken count
comes_kept page later taken count text none still e base faults came w = record {
  tells = w.tells;
  kept = w.kept;
  all = λ _ held b. let (sent, at, is) = w.all none held b in
      (sent, at, ap (λ xs. sent ++ xs) e ∙ sym (append_assoc sent page.bytes.items text) ∙ ap (λ xs. xs ++ text) is);
  part = λ some. absurd (faulty later.fault some still);
  failed = λ f. absurd (lack later.fault Failed f still);
}

-- no memory, and the sink as it was
pub comes_lacking : (page later : Page) (taken after : Option (List ℕ)) (count rose : ℕ) (text : List ℕ) → page.fault ≡ None
    → later.fault ≡ Some Memory → after ≡ taken → count ≤ rose → Comes page taken count text later after rose
comes_lacking page later taken after count rose text none short same le base faults came w = record {
  tells = ap is_some same ∙ w.tells;
  kept = omega (arith, w.kept, le);
  all = λ still. absurd (lack later.fault Memory short still);
  part = λ _. subst (TakesPrefix base (came ++ text)) (sym same)
      (prefix_more base came text taken (all_part base came page taken (w.all none)));
  failed = λ f. absurd (other (sym short ∙ f));
}
  where
    other : Some Memory ≡ Some Failed → ⊥
    other e = cc

-- an earlier fault stays
comes_let_go : (page later : Page) (taken : Option (List ℕ)) (count : ℕ) (text : List ℕ) → IsSome page.fault → later.fault ≡ page.fault
    → Comes page taken count text later taken count
comes_let_go page later taken count text some same base faults came w =
    record {
      tells = w.tells;
      kept = w.kept;
      all = λ none. absurd (faulty page.fault some (sym same ∙ none));
      part = λ _. prefix_more base came text taken (w.part some);
      failed = λ f. w.failed (sym same ∙ f);
    }

pub comes_unmade : (page later : Page) (taken : Option (List ℕ)) (count : ℕ) (text : List ℕ)
    → later.fault ≡ Some (unwrap_or page.fault Memory) → Comes page taken count text later taken count
comes_unmade page later taken count text e = by_fault page.fault refl
  where
    by_fault : (fault : Option WriteFault) → page.fault ≡ fault → Comes page taken count text later taken count
    by_fault None is = comes_lacking page later taken taken count count text is (e ∙ ap (λ o. Some (unwrap_or o Memory)) is) refl
        (omega arith)
    by_fault (Some f) is = comes_let_go page later taken count text (ap is_some is) (e ∙ ap (λ o. Some (unwrap_or o Memory)) is ∙ sym is)

-- the page into the sink
pub comes_turned : (page later : Page) (taken after : Option (List ℕ)) (count rose : ℕ) → page.fault ≡ None → later.fault ≡ None
    → later.bytes.items ≡ [] → is_some after ≡ is_some taken → count ≤ rose
    → ((held : List ℕ) → taken ≡ Some held → after ≡ Some (held ++ page.bytes.items)) → Comes page taken count [] later after rose
comes_turned page later taken after count rose none still blank tells le put base faults came w = record {
  tells = tells ∙ w.tells;
  kept = omega (arith, w.kept, le);
  all = λ _ held b.
      let (sent, at, is) = w.all none held b in (
        sent ++ page.bytes.items,
        put (held ++ sent) at ∙ ap Some (append_assoc held sent page.bytes.items),
        ap (λ xs. (sent ++ page.bytes.items) ++ xs) blank ∙ append-nil (sent ++ page.bytes.items) ∙ is ∙ sym (append-nil came),
      );
  part = λ some. absurd (faulty later.fault some still);
  failed = λ f. absurd (lack later.fault Failed f still);
}

failed_part : (base : Option (List ℕ)) (came : List ℕ) (page : Page) (taken after : Option (List ℕ)) → TakesAll base came page taken
    → TakesPrefix taken page.bytes.items after → TakesPrefix base came after
failed_part None came page taken after all h = tt
failed_part (Some held) came page taken None all h = tt
failed_part (Some held) came page taken (Some later) all h = let (sent, at, is) = all held refl in
    gains_page held sent page.bytes.items came later is (subst (λ (t : Option (List ℕ)). TakesPrefix t page.bytes.items (Some later)) at h)

-- a part of the page at most
pub comes_failed : (page later : Page) (taken after : Option (List ℕ)) (count rose : ℕ) → page.fault ≡ None → later.fault ≡ Some Failed
    → is_some after ≡ is_some taken → Rose count rose → TakesPrefix taken page.bytes.items after → count ≤ rose
    → Comes page taken count [] later after rose
comes_failed page later taken after count rose none fault tells r put le base faults came w = record {
  tells = tells ∙ w.tells;
  kept = omega (arith, w.kept, le);
  all = λ still. absurd (lack later.fault Failed fault still);
  part = λ _. prefix_more base came [] after (failed_part base came page taken after (w.all none) put);
  failed = λ _. omega (arith, w.kept, r);
}

-- ---- step after step
pub comes_then : (page middle later : Page) (taken between after : Option (List ℕ)) (count some rose : ℕ) (text more : List ℕ)
    → Comes page taken count text middle between some → Comes middle between some more later after rose
    → Comes page taken count (text ++ more) later after rose
comes_then page middle later taken between after count some rose text more first second base faults came w =
    subst (λ xs. Came base faults xs later after rose) (append_assoc came text more)
    (second base faults (came ++ text) (first base faults came w))

pub comes_as : (page later : Page) (taken after : Option (List ℕ)) (count rose : ℕ) (text same : List ℕ) → text ≡ same
    → Comes page taken count text later after rose → Comes page taken count same later after rose
comes_as page later taken after count rose text same e h = subst (λ xs. Comes page taken count xs later after rose) e h

-- the text of one more item
pub comes_item : {X : Type 0} (f : X → List ℕ) (xs : List X) (i : ℕ) (x : X) (page middle later : Page)
    (taken between after : Option (List ℕ)) (count some rose : ℕ) → i < length xs
    → Comes page taken count (flat_map f (take i xs)) middle between some
    → Comes middle between some (f (get_or xs i x)) later after rose
    → Comes page taken count (flat_map f (take (i + 1) xs)) later after rose
comes_item f xs i x page middle later taken between after count some rose lt first second =
    let y = get_or xs i x in
    let e : flat_map f (take i xs) ++ f y ≡ flat_map f (take (i + 1) xs) =
    sym (ap (flat_map f) (take_more xs i x lt) ∙ flat_map-append f (take i xs) (y ∷ [])
    ∙ ap (λ ys. flat_map f (take i xs) ++ ys) (append-nil (f y))) in
    comes_as page later taken after count rose _ _ e (comes_then page middle later taken between after count some rose _ _ first second)

-- the same of the items that pass a test
pub comes_passing : {X : Type 0} (f : X → List ℕ) (test : X → Bool) (xs : List X) (i : ℕ) (x : X) (page middle later : Page)
    (taken between after : Option (List ℕ)) (count some rose : ℕ) → i < length xs → test (get_or xs i x) ≡ true
    → Comes page taken count (flat_map f (filter test (take i xs))) middle between some
    → Comes middle between some (f (get_or xs i x)) later after rose
    → Comes page taken count (flat_map f (filter test (take (i + 1) xs))) later after rose
comes_passing f test xs i x page middle later taken between after count some rose lt passes first second =
    let y = get_or xs i x in
    let kept : filter test (take (i + 1) xs) ≡ filter test (take i xs) ++ y ∷ [] =
    filter_more test xs i x lt ∙ ap (λ b. filter test (take i xs) ++ cond b (y ∷ []) []) passes in
    let e : flat_map f (filter test (take i xs)) ++ f y ≡ flat_map f (filter test (take (i + 1) xs)) =
    sym (ap (flat_map f) kept ∙ flat_map-append f (filter test (take i xs)) (y ∷ [])
    ∙ ap (λ ys. flat_map f (filter test (take i xs)) ++ ys) (append-nil (f y))) in
    comes_as page later taken after count rose _ _ e (comes_then page middle later taken between after count some rose _ _ first second)

pub comes_failing : {X : Type 0} (f : X → List ℕ) (test : X → Bool) (xs : List X) (i : ℕ) (x : X) (page later : Page)
    (taken after : Option (List ℕ)) (count rose : ℕ) → i < length xs → test (get_or xs i x) ≡ false
    → Comes page taken count (flat_map f (filter test (take i xs))) later after rose
    → Comes page taken count (flat_map f (filter test (take (i + 1) xs))) later after rose
comes_failing f test xs i x page later taken after count rose lt fails first =
    let y = get_or xs i x in
    let kept : filter test (take (i + 1) xs) ≡ filter test (take i xs) = filter_more test xs i x lt
    ∙ ap (λ b. filter test (take i xs) ++ cond b (y ∷ []) []) fails ∙ append-nil (filter test (take i xs)) in
    comes_as page later taken after count rose _ _ (sym (ap (flat_map f) kept)) first

-- ---- the end
pub all_taken : (base : Option (List ℕ)) (faults : ℕ) (came : List ℕ) (page : Page) (taken : Option (List ℕ)) (count : ℕ) (held : List ℕ)
    → Came base faults came page taken count → page.fault ≡ None → page.bytes.items ≡ [] → base ≡ Some held → taken ≡ Some (held ++ came)
all_taken base faults came page taken count held w none blank b = let (sent, at, is) = w.all none held b in
    at ∙ ap (λ xs. Some (held ++ xs)) (sym (append-nil sent) ∙ ap (λ xs. sent ++ xs) (sym blank) ∙ is)

pub comes_whole : (page first second last : Page) (base one two taken : Option (List ℕ)) (faults some more count : ℕ)
    (text rest : List ℕ) → page.fault ≡ None → page.bytes.items ≡ [] → Comes page base faults text first one some
    → Comes first one some rest second two more → Comes second two more [] last taken count
    → Came base faults (text ++ rest) last taken count
comes_whole page first second last base one two taken faults some more count text rest none blank a b c =
    subst (λ xs. Came base faults xs last taken count) (append-nil (text ++ rest))
    (c base faults (text ++ rest) (b base faults text (a base faults [] (came_start base faults page none blank))))

pub same_fault : (f other : WriteFault) (result : Result (Unit {0}) WriteFault) → result ≡ Err f → result ≡ Err other → f ≡ other
same_fault f other result e is = cc

-- ---- the process of the registers
pub process_some : (d : Design) → list_any is_register d.drivers ≡ true
    → codes "  process (clk)\n  begin\n    if rising_edge(clk) then\n" ++ enable_text d d.enable ++ drivers_text d is_register
    ++ end_enable_text d.enable ++ codes "    end if;\n  end process;\n" ≡ process_text d
unfolding process_text
process_some d has = rw has refl

pub process_none : (d : Design) → list_any is_register d.drivers ≡ false → [] ≡ process_text d
unfolding process_text
process_none d has = rw has refl

pub end_enable_some : (enable : Option ℕ) → is_some enable ≡ true → codes "      end if;\n" ≡ end_enable_text enable
end_enable_some None e = cc
end_enable_some (Some p) e = refl
