-- Where a frame of the code may stand: at a block of a procedure, in which the slots hold the regions that are in force, and after which it
-- goes on in blocks around.
use Rattle.std.proofs.Common.{◌≡◌, ◌≢◌, ◌≤◌, ◌<◌, ℕ, suc, ◌+◌, ◌==◌, cond, Bool, true, false, List, [], ◌∷◌}
use Rattle.std.proofs.Common.{Option, Some, None, length, refl, sym, ap, ◌∙◌, subst, arith}
use Rattle.std.specs.Str.{bytes_eq}
use Rattle.std.proofs.lemmas.Bool.{eqb-true, eq-eqb}
use Rattle.ppm_strands.specs.Capsule.{Memory, store}
use Rattle.ppm_strands.specs.Strand.{Own, own_of}
use Rattle.ppm_code.specs.declared.code.CodeParts.{CodeParts}
use Rattle.ppm_code.specs.declared.location.FrameWord.{FrameWord}
use Rattle.ppm_code.specs.declared.location.FrameWord.TheVariants.{Slot}
use Rattle.ppm_code.specs.Locations.{Where, code_locations}
use Rattle.ppm_code.specs.Strands.{with_value}
use Rattle.ppm_tree.specs.Tree.{Expression, Statement, Block, Nil, Then, Procedure, ProgramTree}
use Rattle.ppm_tree.specs.Tree as tree
use Rattle.ppm_tree.specs.State.{Frame}
use Rattle.ppm_regions.specs.Scope.{Declaration, Scope, declared, is_region, scope_behind}
use Rattle.ppm_regions.specs.Uses.{sites_of_block}
use Rattle.ppm_regions.proofs.ScopeLemmas.{same_names, some_same}
use Rattle.ppm_regions.proofs.SiteLemmas.{AreSites}
use Rattle.ppm_ownership.specs.Owning.{IsSeen, OwnsApart, LieInArrays, OwnsNoMore}
use Rattle.ppm_cut_bounds.specs.Slots.{most_in_force}
use Rattle.ppm_cut_code.specs.Layout.{Layout, slot_of, caught}
use Rattle.ppm_cut_code.specs.Statements.{Last, OnTo, Gives, with_lets, with_parts, hidden_layout}
use Rattle.ppm_cut_code.specs.Standing.{HasBlock}
use Rattle.ppm_cut_code.specs.Fits.{Has, IsKept, FitsBlock, FitsGive, layout_behind}
use Rattle.ppm_cut_code.proofs.RegionWords.{lengths_of, region_word}
use Rattle.ppm_cut_sound.proofs.OwnLemmas.{Label}

-- the blocks of each `each` catch so few names that these and what else a hidden procedure loads have registers of their own
abbrev mutual
  pub FewIn : Layout → Statement → Type 0
  FewIn layout (tree.If e holds other) = Few layout holds × Few layout other
  FewIn layout (tree.While e block) = Few layout block
  FewIn layout (tree.Split line r e x y block) = Few (with_parts layout x y) block
  FewIn layout (tree.Each i x r block) = (length (caught layout block) ≤ 40) × Few (hidden_layout layout i x block) block
  FewIn layout s = Unit {0}

  pub Few : Layout → Block → Type 0
  Few layout Nil = Unit {0}
  Few layout (Then s rest) = FewIn layout s × Few (with_lets layout s) rest

-- a block of the code, with the declarations and the regions in force there
pub record Level : Type 0 where
  pub spare : ℕ
  pub scope : Scope
  pub layout : Layout
  pub at : ℕ
  pub h : ℕ
  pub last : Last
  pub block : Block
  pub frame : Frame

abbrev pub level : (spare : ℕ) → Scope → Layout → (at h : ℕ) → Last → Block → Frame → Level
level spare scope layout at h last block frame = record {
  spare = spare;
  scope = scope;
  layout = layout;
  at = at;
  h = h;
  last = last;
  block = block;
  frame = frame;
}

-- the regions of one level stay in their slots, and in force, in another inside of it
pub record IsUnder (w v : Level) : Type 0 where
  pub front : (x : List ℕ) → Has w.layout x → Has v.layout x × (slot_of v.layout x ≡ slot_of w.layout x)
  pub stays : (x : List ℕ) (d : Declaration) → declared w.scope x ≡ Some d → is_region d.mode ≡ true
      → (e : Declaration) × (declared v.scope x ≡ Some e) × (is_region e.mode ≡ true)

under_itself : (v : Level) → IsUnder v v
under_itself v = record { front = λ x h. (h, refl); stays = λ x d f r. (d, f, r) }

pub under_on : (u v w : Level) → IsUnder u v → IsUnder v w → IsUnder u w
under_on u v w p q = record {
  front = λ x h. let a = p.front x h in let b = q.front x a.0 in (b.0, b.1 ∙ a.1);
  stays = λ x d f r. let a = p.stays x d f r in q.stays x a.0 a.1 a.2;
}

-- the slots of regions, hidden or not, hold the same words
pub record IsSame (v : Level) (own new : FrameWord → ℕ) : Type 0 where
  pub same : (x : List ℕ) (d : Declaration) → declared v.scope x ≡ Some d → is_region d.mode ≡ true → Has v.layout x
      → new (Slot (slot_of v.layout x)) ≡ own (Slot (slot_of v.layout x))

pub same_itself : (v : Level) (own : FrameWord → ℕ) → IsSame v own own
same_itself v own = record { same = λ x d f r h. refl }

pub same_on : (v : Level) (a b c : FrameWord → ℕ) → IsSame v a b → IsSame v b c → IsSame v a c
same_on v a b c p q = record { same = λ x d f r h. q.same x d f r h ∙ p.same x d f r h }

same_under : (w v : Level) (own new : FrameWord → ℕ) → IsUnder w v → IsSame v own new → IsSame w own new
same_under w v own new u s = record {
  same = λ x d f r h.
      let a = u.front x h in
      let b = u.stays x d f r in
      ap (λ (k : ℕ). new (Slot k)) (sym a.1) ∙ s.same x b.0 b.1 b.2 a.0 ∙ ap (λ (k : ℕ). own (Slot k)) a.1;
}

-- a slot that is none of them
pub record IsOff (v : Level) (slot : ℕ) : Type 0 where
  pub off : (x : List ℕ) (d : Declaration) → declared v.scope x ≡ Some d → is_region d.mode ≡ true → Has v.layout x → slot_of v.layout x ≢ slot

pub store_other : (m : Memory Where) (j k v : ℕ) → j ≢ k → store code_locations m (Own (Slot k)) v (Own (Slot j)) ≡ m (Own (Slot j))
store_other m j k v other = go (j == k) refl
  where
    go : (b : Bool) → (j == k) ≡ b → cond b v (m (Own (Slot j))) ≡ m (Own (Slot j))
    go true e = absurd (other (eqb-true j k e))
    go false e = refl

pub store_here : (m : Memory Where) (k v : ℕ) → store code_locations m (Own (Slot k)) v (Own (Slot k)) ≡ v
store_here m k v = ap (λ (b : Bool). cond b v (m (Own (Slot k)))) (eq-eqb k k refl)

pub same_store : (v : Level) (m : Memory Where) (k n : ℕ) → IsOff v k → IsSame v (own_of m) (own_of (store code_locations m (Own (Slot k)) n))
same_store v m k n off = record { same = λ x d f r h. store_other m (slot_of v.layout x) k n (off.off x d f r h) }

-- the slot of a target, too
abbrev pub AreOff : Level → Option ℕ → Type 0
AreOff v None = Unit {0}
AreOff v (Some slot) = IsOff v slot

pub same_value : (v : Level) (own : FrameWord → ℕ) (to : Option ℕ) (n : ℕ) → AreOff v to → IsSame v own (with_value to n own)
same_value v own None n off = same_itself v own
same_value v own (Some slot) n off = record { same = λ x d f r h. go (slot_of v.layout x) (off.off x d f r h) }
  where
    go : (j : ℕ) → j ≢ slot → with_value (Some slot) n own (Slot j) ≡ own (Slot j)
    go j other = at (j == slot) refl
      where
        at : (b : Bool) → (j == slot) ≡ b → cond b n (own (Slot j)) ≡ own (Slot j)
        at true e = absurd (other (eqb-true j slot e))
        at false e = refl

-- slots after all names
pub off_behind : (v : Level) (k : ℕ) → length v.layout ≤ k → IsOff v k
off_behind v k h = record { off = λ x d f r has e. omega (arith, h, has, e) }

-- two names have two slots
one_slot : (layout : Layout) (x y : List ℕ) → Has layout x → slot_of layout x ≡ slot_of layout y → x ≡ y
one_slot [] x y h e = absurd (omega (arith, h))
one_slot (z ∷ layout) x y h e = go (bytes_eq z x) (bytes_eq z y) refl refl h e (one_slot layout x y)
  where
    go : (b c : Bool) → bytes_eq z x ≡ b → bytes_eq z y ≡ c → cond b 0 (suc (slot_of layout x)) < suc (length layout)
        → cond b 0 (suc (slot_of layout x)) ≡ cond c 0 (suc (slot_of layout y)) → (Has layout x → slot_of layout x ≡ slot_of layout y → x ≡ y)
        → x ≡ y
    go true true p q h e rest = sym (same_names z x p) ∙ same_names z y q
    go true false p q h e rest = absurd (omega (arith, e))
    go false true p q h e rest = absurd (omega (arith, e))
    go false false p q h e rest = rest (omega (arith, h)) (omega (arith, e))

-- the slot of a local
pub off_local : (v : Level) (x : List ℕ) → IsKept v.scope v.layout false x → IsOff v (slot_of v.layout x)
off_local v x kept = record {
  off = λ y d f r has e.
      let same = one_slot v.layout y x has e in
      let one = some_same (subst (λ (z : List ℕ). declared v.scope z ≡ Some d) same f) kept.found in
      true_and_false (sym (ap (λ (d : Declaration). is_region d.mode) one ∙ kept.kind) ∙ r);
}
  where
    true_and_false : false ≡ true → ⊥
    true_and_false e = cc

pub seen_of : (scope : Scope) (layout : Layout) (x : List ℕ) → IsKept scope layout true x → IsSeen scope x
seen_of scope layout x k = record { declaration = k.declaration; found = k.found; region = k.kind; shown = k.seen refl }

module _ (t : ProgramTree) (code : CodeParts) where
  -- what a body gives has its names too
  abbrev pub LastFits : Scope → Layout → Block → Last → Type 0
  LastFits scope layout b (OnTo next) = Unit {0}
  LastFits scope layout b (Gives g) = FitsGive t.procedures (scope_behind scope b) (layout_behind layout b) g

  -- what is known of a level whatever the frame's words are
  pub record Stays (l : Label) (v : Level) : Type 0 where
    pub stands : HasBlock t.procedures code v.spare v.layout v.at v.h v.last v.block
    pub fits : FitsBlock t.procedures v.scope v.layout v.block
    pub gives : LastFits v.scope v.layout v.block v.last
    pub room : length v.layout + most_in_force v.block ≤ v.spare
    pub few : Few v.layout v.block
    pub sites : AreSites t (sites_of_block t v.scope v.block)
    pub apart : OwnsApart v.scope v.frame.regions
    pub within : LieInArrays t.arrays v.scope v.frame.regions
    pub home : OwnsNoMore v.scope v.frame.regions l.scope l.regions

  -- the slots hold the regions
  pub record Holds (v : Level) (own : FrameWord → ℕ) : Type 0 where
    pub holds : (x : List ℕ) → IsSeen v.scope x → Has v.layout x
        → own (Slot (slot_of v.layout x)) ≡ region_word (lengths_of t.arrays) (v.frame.regions x)

  pub holds_on : (v : Level) (own new : FrameWord → ℕ) → IsSame v own new → Holds v own → Holds v new
  holds_on v own new s h = record { holds = λ x seen has. s.same x seen.declaration seen.found seen.region has ∙ h.holds x seen has }

  -- after the block the frame goes on in a level around, or is over
  pub data Leads (l : Label) (own : FrameWord → ℕ) : Level → Type 0 where
    IsOver : (v : Level) (g : Option tree.Give) → v.last ≡ Gives g → Leads l own v
    GoesOn : (v w : Level) → v.last ≡ OnTo w.at → IsUnder w v → Stays l w → Holds w own → Leads l own w → Leads l own v

  pub leads_on : (l : Label) (own new : FrameWord → ℕ) (v w : Level) → w.last ≡ v.last → IsUnder v w → IsSame v own new → Leads l own v
      → Leads l new w
  leads_on l own new v w e u s (IsOver _ g is) = IsOver w g (e ∙ is)
  leads_on l own new v w e u s (GoesOn _ o is under stays holds leads) =
      let same = same_under o v own new under s in
      GoesOn w o (e ∙ is) (under_on o v w under u) stays (holds_on o own new same holds)
      (leads_on l own new o o refl (under_itself o) same leads)

  pub record IsAt (l : Label) (own : FrameWord → ℕ) (v : Level) : Type 0 where
    pub stays : Stays l v
    pub holds : Holds v own
    pub leads : Leads l own v

  pub at_on : (l : Label) (own new : FrameWord → ℕ) (v : Level) → IsSame v own new → IsAt l own v → IsAt l new v
  at_on l own new v s h = record {
    stays = h.stays;
    holds = holds_on v own new s h.holds;
    leads = leads_on l own new v v refl (under_itself v) s h.leads;
  }

  -- a block inside goes on at a level around
  pub leads_onto : (l : Label) (own : FrameWord → ℕ) (v w : Level) → v.last ≡ OnTo w.at → IsUnder w v → IsAt l own w → Leads l own v
  leads_onto l own v w e u h = GoesOn v w e u h.stays h.holds h.leads
