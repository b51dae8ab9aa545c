-- The capsules of a call and of a fork are tame: a callee owns what is lent to it, and two branches own apart.
use Rattle.std.proofs.Common.{◌≡◌, ◌≢◌, ◌≤◌, ◌<◌, ℕ, zero, suc, ◌+◌, ◌==◌, cond, Bool, true, false, List, [], ◌∷◌, ◌++◌}
use Rattle.std.proofs.Common.{Option, Some, None, length, slice_set, refl, sym, ap, ◌∙◌, subst, arith}
use Rattle.std.proofs.lemmas.List.{length-map}
use Rattle.std.proofs.lemmas.Bool.{eqb-true, eq-eqb}
use Rattle.ppm_strands.specs.Capsule.{Memory, store}
use Rattle.ppm_strands.specs.Strand.{Own, New as NewWord, own_of, new_of}
use Rattle.ppm_code.specs.declared.act.End.TheVariants as ends
use Rattle.ppm_code.specs.declared.code.CodeParts.{CodeParts}
use Rattle.ppm_code.specs.declared.instr.Instr.{Instr}
use Rattle.ppm_code.specs.declared.instr.Instr.TheVariants as instr
use Rattle.ppm_code.specs.declared.location.FrameWord.{FrameWord}
use Rattle.ppm_code.specs.declared.location.FrameWord.TheVariants.{Slot}
use Rattle.ppm_code.specs.Acts.{held}
use Rattle.ppm_code.specs.Locations.{Where, code_locations}
use Rattle.ppm_code.specs.Sizes.{slots_of, right_at}
use Rattle.ppm_code.specs.Strands.{instrs_of, entry_of, built, at_capsule}
use Rattle.ppm_code.proofs.BuiltLemmas.{built_slot}
use Rattle.ppm_tree.specs.declared.mode.Mode.{Mode}
use Rattle.ppm_tree.specs.declared.mode.Mode.TheVariants as mode
use Rattle.ppm_tree.specs.declared.named.Named.{Named}
use Rattle.ppm_tree.specs.declared.tree.Parameter.{Parameter}
use Rattle.ppm_tree.specs.Tree.{Expression, Argument, Side, Statement, Block, Nil, Then, Procedure, ProgramTree}
use Rattle.ppm_tree.specs.Tree as tree
use Rattle.ppm_tree.specs.State.{Frame, empty_frame, lent, procedure_named}
use Rattle.ppm_regions.specs.Scope.{Scope, is_region, scope_of, first_named}
use Rattle.ppm_regions.specs.Admission.{IsAdmitted}
use Rattle.ppm_regions.specs.Correct.{KeepsRules}
use Rattle.ppm_regions.specs.Uses.{Lending, lendings_of, lent_together, lent_by, uses_of_side, both_targets}
use Rattle.ppm_regions.proofs.SiteLemmas.{made_right, uses_first, callee_sites, sites_of_body}
use Rattle.ppm_ownership.specs.Owning.{OwnsApart, AreSeparate, LieInArrays}
use Rattle.ppm_ownership.specs.Coming.{callee}
use Rattle.ppm_ownership.proofs.PartLemmas.{ComesFrom, lie_still, owns_on, owns_no_more, owns_itself}
use Rattle.ppm_ownership.proofs.LendLemmas.{NoClash, no_clash, no_clash_left, no_clash_right}
use Rattle.ppm_ownership.proofs.CallLemmas.{AreLent}
use Rattle.ppm_ownership.proofs.EntryLemmas.{lends_are, lent_from, lent_apart, lent_separate}
use Rattle.ppm_ownership.proofs.ComingLemmas.{call_facts, left_facts, right_facts}
use Rattle.ppm_cut_code.specs.Layout.{Layout, slot_of, target_of, parameter_layout, register}
use Rattle.ppm_cut_code.specs.Slots.{named_slots, frame_words, fork_words}
use Rattle.ppm_cut_code.specs.Statements.{Last, Gives, lent_code, argument_size, argument_code, arguments_size, arguments_code}
use Rattle.ppm_cut_code.specs.Statements.{paired, stores_code, number_of, callee_number, callee_slots}
use Rattle.ppm_cut_code.specs.Fits.{FitsArgument, FitsArguments, FitsTarget, FitsProcedure, FitsLent}
use Rattle.ppm_cut_code.specs.Standing.{HasBodies, HasBody}
use Rattle.ppm_cut_code.proofs.RegionWords.{lengths_of, region_word}
use Rattle.ppm_cut_sound.proofs.OwnLemmas.{Label, AreShort, less_label, apart_labels}
use Rattle.ppm_cut_sound.proofs.TameLemmas.{World, Goes, held_set, Keeps, keeps_itself, keeps_set, keeps_on, go_load, go_new, go_room, go_end}
use Rattle.ppm_cut_sound.proofs.StandLemmas.{Level, level, IsUnder, IsSame, IsOff, AreOff, off_local, seen_of, IsOver, IsAt, at_on, Few}
use Rattle.ppm_cut_sound.proofs.LevelLemmas.{behind_at, Runs, Begins, ForCallee}
use Rattle.ppm_cut_sound.proofs.BlockTame.{world, zeros, zeros_kept, value_tame, under_same}
use Rattle.ppm_cut_sound.proofs.TameExpressions.{moved}
use Rattle.ppm_cut_sound.proofs.GivenLemmas.{plain_arguments, given, IsLent, given_held, lent_kept, lendings_plain, given_lent}

-- so many words of the new block are those of registers, and all others are as they were
pub record IsStored (offset d count : ℕ) (g : List ℕ) (m new : Memory Where) : Type 0 where
  pub own : (s : FrameWord) → new (Own s) ≡ m (Own s)
  pub within : (j : ℕ) → j < count → new (NewWord (offset + j)) ≡ held g (register (d + j))
  pub front : (o : ℕ) → o < offset → new (NewWord o) ≡ m (NewWord o)

pub new_other : (m : Memory Where) (j k v : ℕ) → j ≢ k → store code_locations m (NewWord k) v (NewWord j) ≡ m (NewWord j)
new_other m j k v other = go (j == k) refl
  where
    go : (b : Bool) → (j == k) ≡ b → cond b v (m (NewWord j)) ≡ m (NewWord j)
    go true e = absurd (other (eqb-true j k e))
    go false e = refl

pub new_here : (m : Memory Where) (j k v : ℕ) → j ≡ k → store code_locations m (NewWord k) v (NewWord j) ≡ v
new_here m j k v e = ap (λ (b : Bool). cond b v (m (NewWord j))) (eq-eqb j k e)

-- a frame whose own words are as they were stays where it is
pub same_words : (v : Level) (m new : Memory Where) → ((s : FrameWord) → new (Own s) ≡ m (Own s)) → IsSame v (own_of m) (own_of new)
same_words v m new h = record { same = λ x d f r has. h (Slot (slot_of v.layout x)) }

off_under : (w v : Level) (k : ℕ) → IsUnder w v → IsOff v k → IsOff w k
off_under w v k u h = record {
  off = λ x d f r has e.
      let a = u.front x has in
      let b = u.stays x d f r in
      h.off x b.0 b.1 b.2 a.0 (a.1 ∙ e);
}

module _ (world : World) where
  pub stores_tame : (count offset d here : ℕ) (is : List Instr) (g : List ℕ) (m : Memory Where)
      → ((new : Memory Where) → IsStored offset d count g m new → Goes world (here + count) is g new)
      → Goes world here (stores_code offset d count is) g m
  stores_tame zero offset d here is g m go =
      moved world m is g here (here + zero) (omega arith)
      (go m (record { own = λ s. refl; within = λ j low. absurd (omega (arith, low)); front = λ o low. refl }))
  stores_tame (suc count) offset d here is g m go =
      let m' = store code_locations m (NewWord offset) (held g (register d)) in
      go_new world here (stores_code (suc offset) (suc d) count is) g m offset (register d)
      (stores_tame count (suc offset) (suc d) (here + 1) is g m' (λ new st.
      moved world new is g (here + 1 + count) (here + suc count) (omega arith) (go new (record {
        own = λ s. st.own s;
        within = λ j low. first j low new st;
        front = λ o low. st.front o (omega (arith, low)) ∙ new_other m o offset (held g (register d)) (λ e. omega (arith, e, low));
      }))))
    where
      first : (j : ℕ) → j < suc count → (new : Memory Where)
          → IsStored (suc offset) (suc d) count g (store code_locations m (NewWord offset) (held g (register d))) new
          → new (NewWord (offset + j)) ≡ held g (register (d + j))
      first zero low new st =
          let e : offset + 0 ≡ offset = omega arith in
          let k : d ≡ d + 0 = omega arith in
          ap (λ (o : ℕ). new (NewWord o)) e ∙ st.front offset (omega arith) ∙ new_here m offset offset (held g (register d)) refl
          ∙ ap (λ (n : ℕ). held g (register n)) k
      first (suc j) low new st =
          let e : offset + suc j ≡ suc offset + j = omega arith in
          let k : suc d + j ≡ d + suc j = omega arith in
          ap (λ (o : ℕ). new (NewWord o)) e ∙ st.within j (omega (arith, low)) ∙ ap (λ (n : ℕ). held g (register n)) k

-- what is known of all procedures of a program
pub record Facts (t : ProgramTree) (code : CodeParts) : Type 0 where
  pub stand : HasBodies t.procedures code
  pub fit : (x : List ℕ) → FitsProcedure t.procedures (procedure_named t.procedures x)
  pub narrow : (x : List ℕ) → length (procedure_named t.procedures x).parameters ≤ 12
  pub few : (x : List ℕ) → Few (parameter_layout (procedure_named t.procedures x).parameters) (procedure_named t.procedures x).body

paired_below : (ps : List Parameter) (args : List Argument) → paired ps args ≤ length ps
paired_below [] args = omega arith
paired_below (p ∷ ps) [] = omega arith
paired_below (p ∷ ps) (a ∷ args) = let h = paired_below ps args in omega (arith, h)

module _ (t : ProgramTree) (code : CodeParts) (rules : KeepsRules t) (admitted : IsAdmitted t) (short : AreShort t.arrays) (words : ℕ) (l : Label)
    (facts : Facts t code) where
  abbrev all : World
  all = world t code rules admitted short words l

  module _ (m : Memory Where) (v : Level) (a : IsAt t code l (own_of m) v) where
    lent_tame : (e : Expression) → FitsLent v.scope v.layout e → (d here : ℕ) (is : List Instr) (f g : List ℕ) → Keeps d f g
        → ((h : List ℕ) → Keeps d f h → held h (register d) ≡ region_word (lengths_of t.arrays) (lent v.frame e) → Goes all (here + 1) is h m)
        → Goes all here (lent_code v.layout e d ∷ is) g m
    lent_tame (tree.Name x) fits d here is f g keep go =
        let w = m (Own (Slot (slot_of v.layout x.name))) in
        go_load all here is g m (register d) (slot_of v.layout x.name)
        (go (slice_set g (register d).index w) (keeps_set d d w f g (omega arith) keep)
        (held_set g (register d) w keep.file ∙ a.holds.holds x.name (seen_of v.scope v.layout x.name fits) fits.has))
    lent_tame (tree.Number z) fits d here is f g keep go = absurd fits
    lent_tame (tree.Element x i) fits d here is f g keep go = absurd fits
    lent_tame (tree.Len x) fits d here is f g keep go = absurd fits
    lent_tame (tree.Minus n e) fits d here is f g keep go = absurd fits
    lent_tame (tree.Binary o n e u) fits d here is f g keep go = absurd fits

    argument_tame : (o : Mode) (e : Expression) → FitsArgument v.scope v.layout o e → (d at here : ℕ) (is : List Instr) (f g : List ℕ)
        → at ≡ here → Keeps d f g
        → ((h : List ℕ) → Keeps d f h → (is_region o ≡ true → held h (register d) ≡ region_word (lengths_of t.arrays) (lent v.frame e))
        → Goes all (here + argument_size o e) is h m)
        → Goes all here (argument_code v.layout o e d at is) g m
    argument_tame mode.Int e fits d at here is f g at_is keep go =
        value_tame t code rules admitted short words l m v a e fits d at here is f g at_is keep (λ h k. go h k (λ r. absurd (never r)))
      where
        never : false ≡ true → ⊥
        never r = cc
    argument_tame mode.Mut e fits d at here is f g at_is keep go = lent_tame e fits d here is f g keep (λ h k w. go h k (λ r. w))
    argument_tame mode.Ref e fits d at here is f g at_is keep go = lent_tame e fits d here is f g keep (λ h k w. go h k (λ r. w))

    pub arguments_tame : (ps : List Parameter) (args : List Argument) → FitsArguments v.scope v.layout ps args → (d at here : ℕ) (is : List Instr)
        (f g : List ℕ) → at ≡ here → d + paired ps args ≤ 63 → Keeps d f g
        → ((h : List ℕ) → Keeps d f h → IsLent v.frame (region_word (lengths_of t.arrays)) h ps args d
        → Goes all (here + arguments_size ps args) is h m)
        → Goes all here (arguments_code v.layout ps args d at is) g m
    arguments_tame [] [] fits d at here is f g at_is few keep go = moved all m is g here (here + 0) (omega arith) (go g keep tt)
    arguments_tame [] (b ∷ args) fits d at here is f g at_is few keep go = absurd fits
    arguments_tame (p ∷ ps) [] fits d at here is f g at_is few keep go = absurd fits
    arguments_tame (p ∷ ps) (b ∷ args) fits d at here is f g at_is few keep go =
        let n = argument_size p.mode b.value in
        argument_tame p.mode b.value fits.0 d at here (arguments_code v.layout ps args (suc d) (at + n) is) f g at_is keep (λ h k one.
        arguments_tame ps args fits.1 (suc d) (at + n) (here + n) is h h (omega (arith, at_is)) (omega (arith, few)) (keeps_itself
        (suc d) h k.file) (λ h' k' rest.
        moved all m is h' (here + n + arguments_size ps args) (here + (n + arguments_size ps args)) (omega arith)
        (go h' (keeps_on d (suc d) f h h' (omega arith) k k') (λ r. k'.kept d (omega arith) (omega (arith, few)) ∙ one r, rest))))

  -- a callee as it is entered
  module _ (scope : Scope) (frame : Frame) (s : Side) where
    abbrev pub entered_frame : Frame
    entered_frame = given frame (callee t s).parameters s.arguments empty_frame

    abbrev pub entered_label : Label
    entered_label = record { scope = scope_of (callee t s); regions = entered_frame.regions }

    pub record IsLentAll (g : List ℕ) (d : ℕ) (own : FrameWord → ℕ) : Type 0 where
      pub lent : IsLent frame (region_word (lengths_of t.arrays)) g (callee t s).parameters s.arguments d
      pub slots : (j : ℕ) → j < paired (callee t s).parameters s.arguments → own (Slot j) ≡ held g (register (d + j))

    module _ (fits : first_named (λ p. p.name.name) t.procedures s.callee.name ≢ None) (count : length (callee t s).parameters ≡ length s.arguments)
        (comes : ComesFrom (scope_of (callee t s)) entered_frame.regions scope frame.regions)
        (apart : OwnsApart (scope_of (callee t s)) entered_frame.regions) (within : LieInArrays t.arrays scope frame.regions) where
      abbrev body : HasBody t.procedures code (number_of t.procedures s.callee.name) (callee t s)
      body = facts.stand.each s.callee.name fits

      abbrev callee_level : Level
      callee_level =
          level (named_slots (callee t s)) (scope_of (callee t s)) (parameter_layout (callee t s).parameters) (entry_of code
          (callee_number t.procedures s))
          body.h (Gives (callee t s).give) (callee t s).body entered_frame

      pub callee_runs : (g : List ℕ) (d : ℕ) (own : FrameWord → ℕ) → IsLentAll g d own
          → Runs t code rules admitted entered_label (record { own = own; point = at_capsule (entry_of code (callee_number t.procedures s)) })
      callee_runs g d own h =
          let p = callee t s in
          let fit = facts.fit s.callee.name in
          let size = length-map p.parameters (λ q. q.name.name) in
          Begins callee_level refl (record {
            stays = record {
              stands = body.body;
              fits = fit.body;
              gives = fit.give;
              room = omega (arith, size);
              few = facts.few s.callee.name;
              sites = sites_of_body t p (callee_sites t s.callee.name);
              apart = apart;
              within = lie_still comes t.arrays within;
              home = owns_itself (scope_of p) entered_frame.regions;
            };
            holds = record {
              holds = λ x seen has.
                  let there =
                  given_held frame (region_word (lengths_of t.arrays)) g p.parameters s.arguments empty_frame d fit.distinct count h.lent x
                  seen.declaration seen.found seen.region in
                  h.slots (slot_of (parameter_layout p.parameters) x) there.0 ∙ there.1;
            };
            leads = IsOver callee_level (callee t s).give refl;
          })

  module _ (spare : ℕ) (scope : Scope) (layout : Layout) (at h : ℕ) (last : Last) (rest : Block) (frame : Frame) where
    abbrev around : Statement → Level
    around s = level spare scope layout at h last (Then s rest) frame

    target_off : (s : Statement) (w : Level) (x : Option Named) → IsUnder w (around s) → FitsTarget scope layout x → AreOff w (target_of layout x)
    target_off s w None u fits = tt
    target_off s w (Some x) u fits = off_under w (around s) (slot_of layout x.name) u (off_local (around s) x.name fits)

    module _ (s : Side) (m : Memory Where) (a : IsAt t code l (own_of m) (around (tree.Call s))) where
      call_comes_from : ComesFrom (scope_of (callee t s)) (entered_frame scope frame s).regions scope frame.regions
      call_comes_from =
          let ps = (callee t s).parameters in
          lent_from t scope frame [] ps (plain_arguments ps s.arguments) empty_frame (entered_frame scope frame s)
          (given_lent t scope rules admitted frame s (call_facts t rules admitted scope rest frame [] s a.stays.sites))

      call_is_apart : OwnsApart (scope_of (callee t s)) (entered_frame scope frame s).regions
      call_is_apart =
          let ps = (callee t s).parameters in
          let uses = uses_first t scope (tree.Call s) rest a.stays.sites in
          let none = no_clash t scope rules [] (lent_by t s) (made_right t scope (uses_of_side t s) (lent_together [] (lent_by t s)) uses) in
          lent_apart t scope frame [] ps (plain_arguments ps s.arguments) empty_frame (entered_frame scope frame s)
          (given_lent t scope rules admitted frame s (call_facts t rules admitted scope rest frame [] s a.stays.sites))
          (subst NoClash (lends_are t scope frame [] s ∙ sym (lendings_plain ps s.arguments)) none) a.stays.apart

      pub call_tame : Goes all 0 (instrs_of code at) zeros m
      call_tame =
          let p = callee t s in
          let ps = p.parameters in
          let n = paired ps s.arguments in
          let next = suc at in
          let end = ends.Call (callee_number t.procedures s) next (target_of layout s.target) in
          let stores = stores_code 6 0 n (instr.Ends end ∷ []) in
          let v = around (tree.Call s) in
          let w = level spare (scope ++ []) layout next h last rest frame in
          let below = paired_below ps s.arguments in
          let narrow = facts.narrow s.callee.name in
          let slots = slots_of code (callee_number t.procedures s) in
          let size_is = (facts.stand.each s.callee.name a.stays.fits.0.callee).slots in
          let facts_here = call_facts t rules admitted scope rest frame [] s a.stays.sites in
          let u = 1 + arguments_size ps s.arguments in
          subst (λ (is : List Instr). Goes all 0 is zeros m) (sym a.stays.stands.0)
          (go_room all 0 (arguments_code layout ps s.arguments 0 1 stores) zeros m (frame_words (callee_slots t.procedures s))
          (arguments_tame m v a ps s.arguments a.stays.fits.0.arguments 0 1 1 stores zeros zeros refl (omega (arith, below, narrow))
          (zeros_kept t code rules admitted short words l 0) (λ g k lent.
          stores_tame all n 6 0 u (instr.Ends end ∷ []) g m (λ new st.
          go_end all (u + n) [] g new end (
            ForCallee w refl (behind_at t code rules admitted l spare scope layout at h last (tree.Call s) rest frame (own_of new)
                (at_on t code l (own_of m) (own_of new) v (same_words v m new st.own) a)) tt
                (target_off (tree.Call s) w s.target (under_same scope layout v w refl refl refl refl) a.stays.fits.0.target),
            entered_label scope frame s,
            callee_runs scope frame s a.stays.fits.0.callee facts_here.count call_comes_from call_is_apart a.stays.within g 0
                (built slots 0 (new_of new)) (record {
                  lent = lent;
                  slots = λ j low. built_slot slots 0 (new_of new) j (omega (arith, low, below, size_is))
                      ∙ (let e : 0 + (6 + j) ≡ 6 + j = omega arith in ap (λ (o : ℕ). new (NewWord o)) e) ∙ st.within j low;
                }),
            less_label t.arrays (entered_label scope frame s) l (owns_on (owns_no_more call_comes_from) a.stays.home),
          )))))

    module _ (s u : Side) (m : Memory Where) (a : IsAt t code l (own_of m) (around (tree.Fork s u))) where
      abbrev left_given : AreLent frame [] scope (callee t s).parameters (plain_arguments (callee t s).parameters s.arguments) empty_frame
          (entered_frame scope frame s)
      left_given = given_lent t scope rules admitted frame s (left_facts t rules admitted scope rest frame [] s u a.stays.sites)

      abbrev right_given : AreLent frame [] scope (callee t u).parameters (plain_arguments (callee t u).parameters u.arguments) empty_frame
          (entered_frame scope frame u)
      right_given = given_lent t scope rules admitted frame u (right_facts t rules admitted scope rest frame [] s u a.stays.sites)

      no_clashes : NoClash (lendings_of (callee t s).parameters (plain_arguments (callee t s).parameters s.arguments)
          ++ lendings_of (callee t u).parameters (plain_arguments (callee t u).parameters u.arguments))
      no_clashes =
          let both = lent_by t s ++ lent_by t u in
          let left_is = lends_are t scope frame [] s ∙ sym (lendings_plain (callee t s).parameters s.arguments) in
          let right_is = lends_are t scope frame [] u ∙ sym (lendings_plain (callee t u).parameters u.arguments) in
          let uses = uses_first t scope (tree.Fork s u) rest a.stays.sites in
          let none = no_clash t scope rules [] both
          (made_right t scope (uses_of_side t s ++ uses_of_side t u ++ both_targets s.target u.target) (lent_together [] both) uses) in
          subst (λ (ls : List Lending). NoClash (ls ++ lendings_of (callee t u).parameters (plain_arguments
          (callee t u).parameters u.arguments))) left_is
          (subst (λ (ls : List Lending). NoClash (lent_by t s ++ ls)) right_is none)

      left_comes_from : ComesFrom (scope_of (callee t s)) (entered_frame scope frame s).regions scope frame.regions
      left_comes_from =
          lent_from t scope frame [] (callee t s).parameters (plain_arguments (callee t s).parameters s.arguments) empty_frame
          (entered_frame scope frame s) left_given

      right_comes_from : ComesFrom (scope_of (callee t u)) (entered_frame scope frame u).regions scope frame.regions
      right_comes_from =
          lent_from t scope frame [] (callee t u).parameters (plain_arguments (callee t u).parameters u.arguments) empty_frame
          (entered_frame scope frame u) right_given

      abbrev left_lends : List Lending
      left_lends = lendings_of (callee t s).parameters (plain_arguments (callee t s).parameters s.arguments)

      abbrev right_lends : List Lending
      right_lends = lendings_of (callee t u).parameters (plain_arguments (callee t u).parameters u.arguments)

      left_is_apart : OwnsApart (scope_of (callee t s)) (entered_frame scope frame s).regions
      left_is_apart =
          lent_apart t scope frame [] (callee t s).parameters (plain_arguments (callee t s).parameters s.arguments) empty_frame
          (entered_frame scope frame s) left_given
          (no_clash_left left_lends right_lends no_clashes) a.stays.apart

      right_is_apart : OwnsApart (scope_of (callee t u)) (entered_frame scope frame u).regions
      right_is_apart =
          lent_apart t scope frame [] (callee t u).parameters (plain_arguments (callee t u).parameters u.arguments) empty_frame
          (entered_frame scope frame u) right_given
          (no_clash_right left_lends right_lends no_clashes) a.stays.apart

      sides_are_apart : AreSeparate (scope_of (callee t s)) (entered_frame scope frame s).regions (scope_of (callee t u))
          (entered_frame scope frame u).regions
      sides_are_apart =
          lent_separate t scope frame [] (callee t s).parameters (callee t u).parameters (plain_arguments (callee t s).parameters s.arguments)
          (plain_arguments (callee t u).parameters u.arguments) empty_frame (entered_frame scope frame s) empty_frame
          (entered_frame scope frame u) left_given right_given
          no_clashes a.stays.apart

      pub fork_tame : Goes all 0 (instrs_of code at) zeros m
      fork_tame =
          let ps = (callee t s).parameters in
          let qs = (callee t u).parameters in
          let n = paired ps s.arguments in
          let k = paired qs u.arguments in
          let next = suc at in
          let slots = callee_slots t.procedures s in
          let left = callee_number t.procedures s in
          let right = callee_number t.procedures u in
          let end = ends.Fork left right next (target_of layout s.target) (target_of layout u.target) in
          let ending = instr.Ends end ∷ [] in
          let right_at' = 11 + frame_words slots in
          let right_stores = stores_code right_at' n k ending in
          let left_stores = stores_code 11 0 n right_stores in
          let v = around (tree.Fork s u) in
          let w = level spare (scope ++ []) layout next h last rest frame in
          let below = paired_below ps s.arguments in
          let below' = paired_below qs u.arguments in
          let narrow = facts.narrow s.callee.name in
          let narrow' = facts.narrow u.callee.name in
          let fits = a.stays.fits.0 in
          let size_is = (facts.stand.each s.callee.name fits.0.callee).slots in
          let right_size_is = (facts.stand.each u.callee.name fits.1.callee).slots in
          let left_count = left_facts t rules admitted scope rest frame [] s u a.stays.sites in
          let right_count = right_facts t rules admitted scope rest frame [] s u a.stays.sites in
          let b = 1 + arguments_size ps s.arguments in
          let c = b + arguments_size qs u.arguments in
          let under = under_same scope layout v w refl refl refl refl in
          subst (λ (is : List Instr). Goes all 0 is zeros m) (sym a.stays.stands.0)
          (go_room all 0 (arguments_code layout ps s.arguments 0 1 (arguments_code layout qs u.arguments n (suc
          (arguments_size ps s.arguments)) left_stores)) zeros m
          (fork_words slots (callee_slots t.procedures u))
          (arguments_tame m v a ps s.arguments fits.0.arguments 0 1 1 (arguments_code layout qs u.arguments n (suc
          (arguments_size ps s.arguments)) left_stores) zeros zeros
          refl (omega (arith, below, narrow)) (zeros_kept t code rules admitted short words l 0) (λ f j lent.
          arguments_tame m v a qs u.arguments fits.1.arguments n (suc (arguments_size ps s.arguments)) b left_stores f f (omega arith)
          (omega (arith, below, below', narrow, narrow')) (keeps_itself n f j.file) (λ g i lent'.
          stores_tame all n 11 0 c right_stores g m (λ mid st.
          stores_tame all k right_at' n (c + n) ending g mid (λ new st'.
          go_end all (c + n + k) [] g new end (
            ForCallee w refl (behind_at t code rules admitted l spare scope layout at h last (tree.Fork s u) rest frame (own_of new)
                (at_on t code l (own_of m) (own_of new) v (same_words v m new (λ q. st'.own q ∙ st.own q)) a))
                (target_off (tree.Fork s u) w s.target under fits.0.target) (target_off (tree.Fork s u) w u.target under fits.1.target),
            entered_label scope frame s,
            entered_label scope frame u,
            callee_runs scope frame s fits.0.callee left_count.count left_comes_from left_is_apart a.stays.within g 0
                (built (slots_of code left) 5 (new_of new)) (record {
                  lent = lent_kept frame (region_word (lengths_of t.arrays)) f g ps s.arguments 0 n (omega arith)
                      (omega (arith, below, narrow)) i lent;
                  slots = λ j low.
                      built_slot (slots_of code left) 5 (new_of new) j (omega (arith, low, below, size_is))
                      ∙ (let e : 5 + (6 + j) ≡ 11 + j = omega arith in ap (λ (o : ℕ). new (NewWord o)) e)
                      ∙ st'.front (11 + j) (omega (arith, low, below)) ∙ st.within j low;
                }),
            callee_runs scope frame u fits.1.callee right_count.count right_comes_from right_is_apart a.stays.within g n
                (built (slots_of code right) (right_at code left) (new_of new)) (record {
                  lent = lent';
                  slots = λ j low.
                      built_slot (slots_of code right) (right_at code left) (new_of new) j (omega (arith, low, below', right_size_is))
                      ∙ (let e : (5 + (6 + slots_of code left)) + (6 + j) ≡ right_at' + j = omega (arith, size_is) in ap (λ (o : ℕ). new (NewWord o)) e)
                      ∙ st'.within j low;
                }),
            less_label t.arrays (entered_label scope frame s) l (owns_on (owns_no_more left_comes_from) a.stays.home),
            less_label t.arrays (entered_label scope frame u) l (owns_on (owns_no_more right_comes_from) a.stays.home),
            apart_labels t.arrays (entered_label scope frame s) (entered_label scope frame u) sides_are_apart,
          )))))))
