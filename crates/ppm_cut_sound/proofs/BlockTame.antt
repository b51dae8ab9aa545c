-- The capsules of statements without calls are tame.
use Rattle.std.proofs.Common.{◌≡◌, ◌≤◌, ◌<◌, ℕ, suc, ◌+◌, ◌-◌, max, List, [], ◌∷◌, ◌++◌, Option, Some, None}
use Rattle.std.proofs.Common.{length, replicate, slice_set, refl, sym, ap, ◌∙◌, subst, arith}
use Rattle.std.proofs.lemmas.List.{append-nil}
use Rattle.ppm_strands.specs.Capsule.{Memory, store}
use Rattle.ppm_strands.specs.Strand.{Own, Shared, own_of}
use Rattle.ppm_code.specs.declared.act.End.TheVariants as ends
use Rattle.ppm_code.specs.declared.code.CodeParts.{CodeParts}
use Rattle.ppm_code.specs.declared.instr.Instr.{Instr}
use Rattle.ppm_code.specs.declared.instr.Instr.TheVariants as instr
use Rattle.ppm_code.specs.declared.location.FrameWord.{FrameWord}
use Rattle.ppm_code.specs.declared.location.FrameWord.TheVariants.{Slot, Value}
use Rattle.ppm_code.specs.Acts.{held, start_of, length_of}
use Rattle.ppm_code.specs.Capsules.{capsule_from}
use Rattle.ppm_code.specs.Locations.{Where, code_locations}
use Rattle.ppm_code.specs.Strands.{instrs_of, opens}
use Rattle.ppm_tree.specs.declared.named.Named.{Named}
use Rattle.ppm_tree.specs.Tree.{Expression, Argument, Side, Statement, Block, Nil, Then, Procedure, ProgramTree}
use Rattle.ppm_tree.specs.Tree as tree
use Rattle.ppm_tree.specs.State.{Frame}
use Rattle.ppm_regions.specs.Scope.{Scope, declared, lets_of}
use Rattle.ppm_regions.specs.Admission.{IsAdmitted}
use Rattle.ppm_regions.specs.Correct.{KeepsRules}
use Rattle.ppm_regions.specs.declared.ask.Ask.TheVariants as ask
use Rattle.ppm_regions.specs.Uses.{Asks, uses_in, sites_of_block}
use Rattle.ppm_regions.proofs.SiteLemmas.{sites_inside, sites_left, sites_right, made_head, uses_first}
use Rattle.ppm_ownership.specs.Owning.{IsWritable}
use Rattle.ppm_cut_code.specs.Layout.{Layout, slot_of, register}
use Rattle.ppm_cut_code.specs.Expressions.{size_of, expression_code}
use Rattle.ppm_cut_code.specs.Numbers.{behind, end_of, hidden_behind, hidden_behind_block}
use Rattle.ppm_cut_code.specs.Statements.{onward, let_code, value_code, move_code, element_code, put_code}
use Rattle.ppm_cut_code.specs.Statements.{test_code, last_code, Last, OnTo, Gives, with_lets}
use Rattle.ppm_cut_code.specs.Fits.{Has, IsRegion, FitsExpression}
use Rattle.ppm_strands.specs.Labels.{IsGood}
use Rattle.ppm_cut_sound.proofs.OwnLemmas.{Label, OwnsWord, WritesWord, AreShort, owned_at, written_at}
use Rattle.ppm_cut_sound.proofs.TameLemmas.{World, Tame, Goes, held_set, held_other, registers_differ, Keeps}
use Rattle.ppm_cut_sound.proofs.TameLemmas.{keeps_itself, go_load, go_store, go_give, go_end, go_zero, go_put}
use Rattle.ppm_cut_sound.proofs.TameExpressions.{tame_expression}
use Rattle.ppm_cut_sound.proofs.StandLemmas.{Level, level, IsUnder, same_store, IsOff, off_behind, off_local, seen_of}
use Rattle.ppm_cut_sound.proofs.StandLemmas.{Leads, IsOver, GoesOn, IsAt, at_on, leads_onto}
use Rattle.ppm_cut_sound.proofs.LevelLemmas.{behind_at, Runs, Begins, Moves, Puts, Waits}

-- the registers with which a capsule begins
abbrev pub zeros : List ℕ
zeros = replicate 64 0

-- a level inside, with the declarations of the one around it, is under that one
pub under_same : (scope : Scope) (layout : Layout) (v w : Level) → v.layout ≡ layout → w.layout ≡ layout → v.scope ≡ scope → w.scope ≡ scope ++ []
    → IsUnder w v
under_same scope layout v w p q r s = record {
  front = λ x has. (subst (λ (k : Layout). Has k x) (q ∙ sym p) has, ap (λ (k : Layout). slot_of k x) (p ∙ sym q));
  stays = λ x d f region. (d, subst (λ (k : Scope). declared k x ≡ Some d) (s ∙ append-nil scope ∙ sym r) f, region);
}

module _ (t : ProgramTree) (code : CodeParts) (rules : KeepsRules t) (admitted : IsAdmitted t) (short : AreShort t.arrays) (words : ℕ)
    (l : Label) where
  -- what the frame owns, and what ends are to open
  abbrev pub world : World
  world = record {
    words = words;
    Owns = OwnsWord t.arrays l;
    May = WritesWord t.arrays l;
    Opens = λ e own new. IsGood (OwnsWord t.arrays) (WritesWord t.arrays) (Runs t code rules admitted) (Waits t code rules admitted) l
        (opens code e own new);
    trapped = λ trap line own new. tt;
  }

  pub zeros_kept : (d : ℕ) → Keeps d zeros zeros
  zeros_kept d = keeps_itself d zeros refl

  pub owned : (m : Memory Where) (v : Level) → IsAt t code l (own_of m) v → (x : Named) → IsRegion v.scope v.layout x → (i : ℕ)
      → i < length_of (m (Own (Slot (slot_of v.layout x.name)))) → OwnsWord t.arrays l (start_of (m (Own (Slot (slot_of v.layout x.name)))) + i)
  owned m v a x kept i low =
      let seen = seen_of v.scope v.layout x.name kept in
      owned_at t.arrays short l v.scope v.frame.regions a.stays.within a.stays.home x.name seen (m (Own (Slot (slot_of v.layout x.name)))) i
      (a.holds.holds x.name seen kept.has) low

  -- an expression at a level
  pub value_tame : (m : Memory Where) (v : Level) → IsAt t code l (own_of m) v → (e : Expression) → FitsExpression v.scope v.layout e
      → (d at here : ℕ) (is : List Instr) (f g : List ℕ) → at ≡ here → Keeps d f g
      → ((h : List ℕ) → Keeps d f h → Goes world (here + size_of e) is h m) → Goes world here (expression_code v.layout e d at is) g m
  value_tame m v a e fits d at here is f g at_is keep go =
      tame_expression world v.scope v.layout m (owned m v a) e fits d at here (here + size_of e) is f g at_is refl keep go

  -- a capsule ends with the number of another, at which the frame may stand
  pub next_tame : (m : Memory Where) (here : ℕ) (g : List ℕ) (v : Level) → IsAt t code l (own_of m) v → Goes world here (onward v.at) g m
  next_tame m here g v a = go_end world here [] g m (ends.Next v.at) (Begins v refl a)

  -- a word is stored into a slot that is no region's
  pub stored : (m : Memory Where) (v : Level) (slot n : ℕ) → IsOff v slot → IsAt t code l (own_of m) v
      → IsAt t code l (own_of (store code_locations m (Own (Slot slot)) n)) v
  stored m v slot n off a = at_on t code l (own_of m) (own_of (store code_locations m (Own (Slot slot)) n)) v (same_store v m slot n off) a

  module _ (m : Memory Where) (spare : ℕ) (scope : Scope) (layout : Layout) (at h : ℕ) (last : Last) (rest : Block) (frame : Frame) where
    abbrev pub front : Statement → Level
    front s = level spare scope layout at h last (Then s rest) frame

    abbrev pub back : Statement → Level
    back s = level spare (scope ++ lets_of s) (with_lets layout s) (behind s at) (hidden_behind s h) last rest frame

    pub step_back : (s : Statement) (own : FrameWord → ℕ) → IsAt t code l own (front s) → IsAt t code l own (back s)
    step_back s own a = behind_at t code rules admitted l spare scope layout at h last s rest frame own a

    pub let_tame : (x : Named) (e : Expression) → IsAt t code l (own_of m) (front (tree.Let x e))
        → Goes world 0 (let_code layout e (suc at)) zeros m
    let_tame x e a =
        let v = front (tree.Let x e) in
        value_tame m v a e a.stays.fits.0.0 0 0 0 (instr.StoreCur (length layout) (register 0) ∷ onward (suc at)) zeros zeros refl
        (zeros_kept 0) (λ g k.
        let m' = store code_locations m (Own (Slot (length layout))) (held g (register 0)) in
        go_store world (0 + size_of e) (onward (suc at)) g m (length layout) (register 0)
        (next_tame m' (0 + size_of e + 1) g (back (tree.Let x e)) (step_back (tree.Let x e) (own_of m')
        (stored m v (length layout) (held g (register 0)) (off_behind v (length layout) (omega arith)) a))))

    -- the spare slots are after all names
    spare_off : (s : Statement) (k : ℕ) → IsAt t code l (own_of m) (front s) → spare ≤ k → IsOff (front s) k
    spare_off s k a low = let r = a.stays.room in off_behind (front s) k (omega (arith, r, low))

    pub assign_tame : (x : Named) (e : Expression) → IsAt t code l (own_of m) (front (tree.Assign x e))
        → Goes world 0 (value_code layout spare e (suc at)) zeros m
    assign_tame x e a =
        let v = front (tree.Assign x e) in
        value_tame m v a e a.stays.fits.0.1 0 0 0 (instr.StoreCur spare (register 0) ∷ onward (suc at)) zeros zeros refl (zeros_kept 0) (λ g k.
        let m' = store code_locations m (Own (Slot spare)) (held g (register 0)) in
        go_store world (0 + size_of e) (onward (suc at)) g m spare (register 0)
        (go_end world (0 + size_of e + 1) [] g m' (ends.Next (suc at)) (Moves spare scope layout at h last x e rest frame refl
        (stored m v spare (held g (register 0)) (spare_off (tree.Assign x e) spare a (omega arith)) a))))

    pub move_tame : (x : Named) (e : Expression) → IsAt t code l (own_of m) (front (tree.Assign x e))
        → Goes world 0 (move_code layout spare x (suc (suc at))) zeros m
    move_tame x e a =
        let v = front (tree.Assign x e) in
        let slot = slot_of layout x.name in
        let n = m (Own (Slot spare)) in
        let g = slice_set zeros (register 0).index n in
        let m' = store code_locations m (Own (Slot slot)) (held g (register 0)) in
        go_load world 0 (instr.StoreCur slot (register 0) ∷ onward (suc (suc at))) zeros m (register 0) spare
        (go_store world 1 (onward (suc (suc at))) g m slot (register 0)
        (next_tame m' 2 g (back (tree.Assign x e)) (step_back (tree.Assign x e) (own_of m')
        (stored m v slot (held g (register 0)) (off_local v x.name a.stays.fits.0.0) a))))

    pub element_tame : (x : Named) (index e : Expression) → IsAt t code l (own_of m) (front (tree.Put x index e))
        → Goes world 0 (element_code layout spare index e (suc at)) zeros m
    element_tame x index e a =
        let s = tree.Put x index e in
        let v = front s in
        let stores = instr.StoreCur spare (register 0) ∷ instr.StoreCur (suc spare) (register 1) ∷ onward (suc at) in
        let u = 0 + size_of index in
        let w = u + size_of e in
        value_tame m v a index a.stays.fits.0.1 0 0 0 (expression_code layout e 1 (size_of index) stores) zeros zeros refl (zeros_kept 0) (λ f k.
        value_tame m v a e a.stays.fits.0.2 1 (size_of index) u stores f f (omega arith) (keeps_itself 1 f k.file) (λ g j.
        let m' = store code_locations m (Own (Slot spare)) (held g (register 0)) in
        let m'' = store code_locations m' (Own (Slot (suc spare))) (held g (register 1)) in
        go_store world w (instr.StoreCur (suc spare) (register 1) ∷ onward (suc at)) g m spare (register 0)
        (go_store world (w + 1) (onward (suc at)) g m' (suc spare) (register 1)
        (go_end world (w + 1 + 1) [] g m'' (ends.Next (suc at)) (Puts spare scope layout at h last x index e rest frame refl
        (stored m' v (suc spare) (held g (register 1)) (spare_off s (suc spare) a (omega arith))
        (stored m v spare (held g (register 0)) (spare_off s spare a (omega arith)) a)))))))

    pub put_tame : (x : Named) (index e : Expression) → IsAt t code l (own_of m) (front (tree.Put x index e))
        → Goes world 0 (put_code layout spare x (suc (suc at))) zeros m
    put_tame x index e a =
        let s = tree.Put x index e in
        let slot = slot_of layout x.name in
        let w = m (Own (Slot slot)) in
        let f = slice_set zeros (register 0).index w in
        let g = slice_set f (register 1).index (m (Own (Slot spare))) in
        let k = slice_set g (register 2).index (m (Own (Slot (suc spare)))) in
        let put = instr.Put (register 0) (register 1) (register 2) x.line ∷ onward (suc (suc at)) in
        let made = made_head t scope (Asks ask.Written x) (uses_in index ++ uses_in e) (uses_first t scope s rest a.stays.sites) in
        let d = rules.names scope ask.Written x made in
        let writable : IsWritable scope x.name = record {
          declaration = d.declaration;
          found = d.found;
          written = (d.written refl).0;
          shown = d.seen refl;
          inner = (d.written refl).1;
        } in
        let is : held k (register 0) ≡ w =
        held_other g (register 2) (register 0) (m (Own (Slot (suc spare)))) (registers_differ 0 2 (omega arith) (omega arith))
        ∙ held_other f (register 1) (register 0) (m (Own (Slot spare))) (registers_differ 0 1 (omega arith) (omega arith))
        ∙ held_set zeros (register 0) w refl in
        let holds = a.holds.holds x.name (seen_of scope layout x.name a.stays.fits.0.0) a.stays.fits.0.0.has in
        go_load world 0 (instr.LoadSlot (register 1) spare ∷ instr.LoadSlot (register 2) (suc spare) ∷ put) zeros m (register 0) slot
        (go_load world 1 (instr.LoadSlot (register 2) (suc spare) ∷ put) f m (register 1) spare
        (go_load world 2 put g m (register 2) (suc spare)
        (go_put world 3 (onward (suc (suc at))) k m (register 0) (register 1) (register 2) x.line
        (λ i low. written_at t.arrays short l scope frame.regions a.stays.within a.stays.home x.name writable (held k (register 0)) i (is
        ∙ holds) low)
        (λ y. next_tame (store code_locations m (Shared y) (held k (register 2))) 4 k (back s) (step_back s (own_of m) a)))))

    -- a test
    pub test_tame : (s : Statement) (a : IsAt t code l (own_of m) (front s)) (e : Expression) → FitsExpression scope layout e
        → (inside next : Level)
        → IsAt t code l (own_of m) inside → IsAt t code l (own_of m) next → Goes world 0 (test_code layout e inside.at next.at) zeros m
    test_tame s a e fits inside next b c =
        let v = front s in
        let u = 0 + size_of e in
        value_tame m v a e fits 0 0 0 (instr.BranchZero (register 0) (suc (suc (size_of e))) ∷ instr.Ends
        (ends.Next inside.at) ∷ onward next.at) zeros zeros refl (zeros_kept 0) (λ g k.
        go_zero world u (instr.Ends (ends.Next inside.at) ∷ onward next.at) g m (register 0) (suc (suc (size_of e)))
        (let skipped : max (suc (suc (size_of e))) (u + 1) - (u + 1) ≡ 1 = omega arith in
        subst (λ (n : ℕ). Tame world (capsule_from words (u + 1) n (instr.Ends (ends.Next inside.at) ∷ onward next.at) g) m) (sym skipped)
        (next_tame m (u + 1 + 1) g next c))
        (go_end world (u + 1) (onward next.at) g m (ends.Next inside.at) (Begins inside refl b)))

    pub if_tame : (e : Expression) (b c : Block) → IsAt t code l (own_of m) (front (tree.If e b c)) → Goes world 0 (instrs_of code at) zeros m
    if_tame e b c a =
        let s = tree.If e b c in
        let first = suc (end_of b (suc at)) in
        let next = suc (end_of c first) in
        let between = hidden_behind_block b h in
        let inner = sites_inside t scope s rest a.stays.sites in
        let inside = level spare scope layout (suc at) h (OnTo next) b frame in
        let other = level spare scope layout first between (OnTo next) c frame in
        let outer = step_back s (own_of m) a in
        let r = a.stays.room in
        let at_inside : IsAt t code l (own_of m) inside = record {
          stays = record {
            stands = a.stays.stands.0.1;
            fits = a.stays.fits.0.1;
            gives = tt;
            room = omega (arith, r);
            few = a.stays.few.0.0;
            sites = sites_left t (sites_of_block t scope b) (sites_of_block t scope c) inner;
            apart = a.stays.apart;
            within = a.stays.within;
            home = a.stays.home;
          };
          holds = record { holds = a.holds.holds };
          leads = leads_onto t code l (own_of m) inside (back s) refl (under_same scope layout inside (back s) refl refl refl refl) outer;
        } in
        let at_other : IsAt t code l (own_of m) other = record {
          stays = record {
            stands = a.stays.stands.0.2;
            fits = a.stays.fits.0.2;
            gives = tt;
            room = omega (arith, r);
            few = a.stays.few.0.1;
            sites = sites_right t (sites_of_block t scope b) (sites_of_block t scope c) inner;
            apart = a.stays.apart;
            within = a.stays.within;
            home = a.stays.home;
          };
          holds = record { holds = a.holds.holds };
          leads = leads_onto t code l (own_of m) other (back s) refl (under_same scope layout other (back s) refl refl refl refl) outer;
        } in
        subst (λ (is : List Instr). Goes world 0 is zeros m) (sym a.stays.stands.0.0)
        (test_tame s a e a.stays.fits.0.0 inside other at_inside at_other)

    pub while_tame : (e : Expression) (b : Block) → IsAt t code l (own_of m) (front (tree.While e b)) → Goes world 0 (instrs_of code at) zeros m
    while_tame e b a =
        let s = tree.While e b in
        let inside = level spare scope layout (suc at) h (OnTo at) b frame in
        let r = a.stays.room in
        let at_inside : IsAt t code l (own_of m) inside = record {
          stays = record {
            stands = a.stays.stands.0.1;
            fits = a.stays.fits.0.1;
            gives = tt;
            room = omega (arith, r);
            few = a.stays.few.0;
            sites = sites_inside t scope s rest a.stays.sites;
            apart = a.stays.apart;
            within = a.stays.within;
            home = a.stays.home;
          };
          holds = record { holds = a.holds.holds };
          leads = leads_onto t code l (own_of m) inside (front s) refl (record {
            front = λ x has. (has, refl);
            stays = λ x d f region.
                (d, f, region);
          }) a;
        } in
        subst (λ (is : List Instr). Goes world 0 is zeros m) (sym a.stays.stands.0.0)
        (test_tame s a e a.stays.fits.0.0 inside (back s) at_inside (step_back s (own_of m) a))

  -- the end of a block
  module _ (m : Memory Where) (spare : ℕ) (scope : Scope) (layout : Layout) (at h : ℕ) (frame : Frame) where
    over_tame : (here : ℕ) (is : List Instr) (g : List ℕ) (k : Memory Where) → Goes world here (instr.Ends ends.Finish ∷ is) g k
    over_tame here is g k = go_end world here is g k ends.Finish tt

    next_is : (n k : ℕ) → OnTo n ≡ OnTo k → n ≡ k
    next_is n k e = cc

    not_over : (n : ℕ) (g : Option tree.Give) → OnTo n ≡ Gives g → ⊥
    not_over n g e = cc

    onto_tame : (next : ℕ) (v : Level) → v.last ≡ OnTo next → Leads t code l (own_of m) v → Goes world 0 (onward next) zeros m
    onto_tame next v e (IsOver _ g is) = absurd (not_over next g (sym e ∙ is))
    onto_tame next v e (GoesOn _ w is under stays holds leads) =
        subst (λ (n : ℕ). Goes world 0 (onward n) zeros m) (sym (next_is next w.at (sym e ∙ is)))
        (next_tame m 0 zeros w (record { stays = stays; holds = holds; leads = leads }))

    pub nil_tame : (last : Last) → IsAt t code l (own_of m) (level spare scope layout at h last Nil frame)
        → Goes world 0 (last_code layout last) zeros m
    nil_tame (OnTo next) a = onto_tame next (level spare scope layout at h (OnTo next) Nil frame) refl a.leads
    nil_tame (Gives None) a = over_tame 0 [] zeros m
    nil_tame (Gives (Some g)) a =
        value_tame m (level spare scope layout at h (Gives (Some g)) Nil frame) a g.value a.stays.gives 0 0 0 (instr.Give
        (register 0) ∷ instr.Ends ends.Finish ∷ []) zeros zeros refl (zeros_kept 0) (λ f k.
        go_give world (0 + size_of g.value) (instr.Ends ends.Finish ∷ []) f m (register 0)
        (over_tame (0 + size_of g.value + 1) [] f (store code_locations m (Own Value) (held f (register 0)))))
