-- How a frame that stands at a block goes on: after its first statement, in its blocks, and in those of an `each`.
use Rattle.std.proofs.Common.{◌≡◌, ◌<◌, ℕ, suc, ◌+◌, cond, Bool, true, false, List, [], ◌∷◌, ◌++◌}
use Rattle.std.proofs.Common.{None, length, inl, inr, ◌⊎◌, refl, ap, ◌∙◌, subst, arith}
use Rattle.std.specs.Str.{bytes_eq}
use Rattle.ppm_strands.specs.Strand.{Frame as CapsuleFrame}
use Rattle.ppm_code.specs.declared.act.End.TheVariants as ends
use Rattle.ppm_code.specs.declared.code.CodeParts.{CodeParts}
use Rattle.ppm_code.specs.declared.instr.Instr.TheVariants as instr
use Rattle.ppm_code.specs.declared.location.FrameWord.{FrameWord}
use Rattle.ppm_code.specs.declared.location.FrameWord.TheVariants.{Slot}
use Rattle.ppm_code.specs.Strands.{Point, instrs_of, entry_of}
use Rattle.ppm_tree.specs.declared.named.Named.{Named}
use Rattle.ppm_tree.specs.Tree.{Expression, Statement, Block, Nil, Then, Procedure, ProgramTree}
use Rattle.ppm_tree.specs.Tree as tree
use Rattle.ppm_tree.specs.State.{Frame, Region}
use Rattle.ppm_regions.specs.Scope.{Scope, declared, lets_of, each_scope}
use Rattle.ppm_regions.specs.Admission.{IsAdmitted}
use Rattle.ppm_regions.specs.Correct.{KeepsRules}
use Rattle.ppm_regions.proofs.ScopeLemmas.{same_names, declared_in_front, none_and_some}
use Rattle.ppm_regions.proofs.SiteLemmas.{sites_behind}
use Rattle.ppm_ownership.specs.Words.{IsPart}
use Rattle.ppm_ownership.specs.Owning.{IsSeen, OwnsNoMore}
use Rattle.ppm_ownership.specs.Coming.{part_frame}
use Rattle.ppm_ownership.proofs.ScopeLemmas.{seen_before, mut_before, owned_before, written_before}
use Rattle.ppm_ownership.proofs.PartLemmas.{lie_still}
use Rattle.ppm_ownership.proofs.ComingLemmas.{each_sites, part_apart, part_comes}
use Rattle.ppm_cut_code.specs.Layout.{Layout, slot_of, caught}
use Rattle.ppm_cut_code.specs.Numbers.{behind, hidden_behind, halving, element_block}
use Rattle.ppm_cut_code.specs.Slots.{hidden_named_slots}
use Rattle.ppm_cut_code.specs.Statements.{Last, OnTo, Gives, with_lets, hidden_layout}
use Rattle.ppm_cut_code.specs.Fits.{Has, FitsStatement}
use Rattle.ppm_cut_code.proofs.LayoutLemmas.{lets_room, slot_in_front, has_in_front}
use Rattle.ppm_cut_code.proofs.RegionWords.{lengths_of, region_word}
use Rattle.ppm_cut_sound.proofs.OwnLemmas.{Label}
use Rattle.ppm_cut_sound.proofs.StandLemmas.{Level, level, IsUnder, same_itself, AreOff, LastFits, Stays, IsOver, leads_on, IsAt}

-- a name of a longer layout is one of the front, or one after it
pub has_cases : (x : List ℕ) (layout more : Layout) → Has (layout ++ more) x
    → Has layout x ⊎ (Has more x × (slot_of (layout ++ more) x ≡ length layout + slot_of more x))
has_cases x [] more h = inr (h, omega arith)
has_cases x (y ∷ layout) more h = go (bytes_eq y x) h (has_cases x layout more)
  where
    go : (b : Bool) → cond b 0 (suc (slot_of (layout ++ more) x)) < suc (length (layout ++ more))
        → (Has (layout ++ more) x → Has layout x ⊎ (Has more x × (slot_of (layout ++ more) x ≡ length layout + slot_of more x)))
        → (cond b 0 (suc (slot_of layout x)) < suc (length layout))
        ⊎ (Has more x × (cond b 0 (suc (slot_of (layout ++ more) x)) ≡ suc (length layout) + slot_of more x))
    go true h rest = inl (omega arith)
    go false h rest = elim (rest (omega (arith, h))) [
      | inl i ↦ inl (omega (arith, i))
      | inr j ↦ let e = j.1 in inr (j.0, omega (arith, e))
    ]

-- of one name there is one
pub has_one : (x y : List ℕ) (more : Layout) → Has (y ∷ more) x → (y ≡ x) ⊎ (Has more x × (bytes_eq y x ≡ false))
has_one x y more h = go (bytes_eq y x) refl h
  where
    go : (b : Bool) → bytes_eq y x ≡ b → cond b 0 (suc (slot_of more x)) < suc (length more) → (y ≡ x) ⊎ (Has more x × (bytes_eq y x ≡ false))
    go true e h = inl (same_names y x e)
    go false e h = inr (omega (arith, h), e)

pub has_none : (x : List ℕ) → Has [] x → ⊥
has_none x h = omega (arith, h)

-- the names that a statement adds
lets_front : (s : Statement) (layout : Layout) (x : List ℕ) → Has layout x
    → Has (with_lets layout s) x × (slot_of (with_lets layout s) x ≡ slot_of layout x)
lets_front (tree.Let y e) layout x h = (has_in_front x layout (y.name ∷ []) h, slot_in_front x layout (y.name ∷ []) h)
lets_front (tree.Assign y e) layout x h = (h, refl)
lets_front (tree.Put y i e) layout x h = (h, refl)
lets_front (tree.If e s u) layout x h = (h, refl)
lets_front (tree.While e s) layout x h = (h, refl)
lets_front (tree.Call s) layout x h = (h, refl)
lets_front (tree.Fork s u) layout x h = (h, refl)
lets_front (tree.Split l r e y z s) layout x h = (h, refl)
lets_front (tree.Each i y r s) layout x h = (h, refl)

lets_back : (procedures : List Procedure) (s : Statement) (scope : Scope) (layout : Layout) (x : List ℕ) → FitsStatement procedures scope layout s
    → IsSeen scope x → Has (with_lets layout s) x → Has layout x
lets_back ps (tree.Let y e) scope layout x fits seen h = elim (has_cases x layout (y.name ∷ []) h) [
  | inl i ↦ i
  | inr j ↦ elim (has_one x y.name [] j.0) [
    | inl same ↦ absurd (none_and_some (subst (λ (z : List ℕ). declared scope z ≡ None) same fits.2) seen.found)
    | inr none ↦ absurd (has_none x none.0)
  ]
]
lets_back ps (tree.Assign y e) scope layout x fits seen h = h
lets_back ps (tree.Put y i e) scope layout x fits seen h = h
lets_back ps (tree.If e s u) scope layout x fits seen h = h
lets_back ps (tree.While e s) scope layout x fits seen h = h
lets_back ps (tree.Call s) scope layout x fits seen h = h
lets_back ps (tree.Fork s u) scope layout x fits seen h = h
lets_back ps (tree.Split l r e y z s) scope layout x fits seen h = h
lets_back ps (tree.Each i y r s) scope layout x fits seen h = h

module _ (t : ProgramTree) (code : CodeParts) (rules : KeepsRules t) (admitted : IsAdmitted t) (l : Label) where
  module _ (spare : ℕ) (scope : Scope) (layout : Layout) (at h : ℕ) (last : Last) (s : Statement) (rest : Block) (frame : Frame) where
    abbrev here : Level
    here = level spare scope layout at h last (Then s rest) frame

    abbrev there : Level
    there = level spare (scope ++ lets_of s) (with_lets layout s) (behind s at) (hidden_behind s h) last rest frame

    pub under_behind : IsUnder here there
    under_behind = record {
      front = λ x has. lets_front s layout x has;
      stays = λ x d f r. (d, declared_in_front x scope (lets_of s) d f, r);
    }

    behind_gives : (last : Last) → LastFits t code scope layout (Then s rest) last
        → LastFits t code (scope ++ lets_of s) (with_lets layout s) rest last
    behind_gives (OnTo next) h = h
    behind_gives (Gives g) h = h

    pub behind_at : (own : FrameWord → ℕ) → IsAt t code l own here → IsAt t code l own there
    behind_at own a = record {
      stays = record {
        stands = a.stays.stands.1;
        fits = a.stays.fits.1;
        gives = behind_gives last a.stays.gives;
        room = lets_room s rest layout spare a.stays.room;
        few = a.stays.few.1;
        sites = sites_behind t scope s rest a.stays.sites;
        apart = record { apart = λ x y m n other. a.stays.apart.apart x y (mut_before scope s x m) (seen_before scope s y n) other };
        within = record { within = λ x m. a.stays.within.within x (seen_before scope s x m) };
        home = record {
          owned = λ k i o. a.stays.home.owned k i (owned_before scope s frame.regions k i o);
          written = λ k i o. a.stays.home.written k i (written_before scope s frame.regions k i o);
        };
      };
      holds = record {
        holds = λ x seen has.
            let before = seen_before scope s x seen in
            let had = lets_back t.procedures s scope layout x a.stays.fits.0 before has in
            ap (λ (k : ℕ). own (Slot k)) (lets_front s layout x had).1 ∙ a.holds.holds x before had;
      };
      leads = leads_on t code l own own here there refl under_behind (same_itself here own) a.leads;
    }

  -- the block of an `each` whose part is this region
  pub record IsSwept (own : FrameWord → ℕ) : Type 0 where
    pub around : Label
    pub spare : ℕ
    pub scope : Scope
    pub layout : Layout
    pub at : ℕ
    pub h : ℕ
    pub last : Last
    pub i : Named
    pub x : Named
    pub r : Named
    pub block : Block
    pub rest : Block
    pub frame : Frame
    pub q : Region
    pub stays : Stays t code around (level spare scope layout at h last (Then (tree.Each i x r block) rest) frame)
    pub part : IsPart q (frame.regions r.name)
    pub home : OwnsNoMore (each_scope scope r i x) (part_frame frame x q).regions l.scope l.regions
    pub first : own (Slot 0) ≡ region_word (lengths_of t.arrays) q
    pub holds : (z : List ℕ) → IsSeen (each_scope scope r i x) z → Has (hidden_layout layout i x block) z
        → own (Slot (slot_of (hidden_layout layout i x block) z)) ≡ region_word (lengths_of t.arrays) ((part_frame frame x q).regions z)

  module _ (own : FrameWord → ℕ) (w : IsSwept own) where
    abbrev pub element_level : Level
    element_level =
        level (hidden_named_slots (length (caught w.layout w.block)) w.block) (each_scope w.scope w.r w.i w.x)
        (hidden_layout w.layout w.i w.x w.block)
        (element_block (entry_of code w.h)) (suc w.h) (Gives None) w.block (part_frame w.frame w.x w.q)

    pub element_at : IsAt t code l own element_level
    element_at = record {
      stays = record {
        stands = w.stays.stands.0.5;
        fits = w.stays.fits.0.6;
        gives = tt;
        room = omega arith;
        few = w.stays.few.0.1;
        sites = each_sites t rules admitted w.scope w.i w.x w.r w.block w.rest w.stays.sites;
        apart = part_apart t rules admitted w.scope w.i w.x w.r w.block w.rest w.stays.sites w.frame w.q w.part w.stays.apart;
        within = lie_still (part_comes t rules admitted w.scope w.i w.x w.r w.block w.rest w.stays.sites w.frame w.q w.part) t.arrays w.stays.within;
        home = w.home;
      };
      holds = record { holds = w.holds };
      leads = IsOver element_level None refl;
    }

  -- the frames that run, and those that wait
  pub data Runs (f : CapsuleFrame FrameWord Point) : Type 0 where
    Begins : (v : Level) → f.point.capsule ≡ v.at → IsAt t code l f.own v → Runs f
    Moves : (spare : ℕ) (scope : Scope) (layout : Layout) (at h : ℕ) (last : Last) (x : Named) (e : Expression) (rest : Block) (frame : Frame)
        → f.point.capsule ≡ suc at → IsAt t code l f.own (level spare scope layout at h last (Then (tree.Assign x e) rest) frame) → Runs f
    Puts : (spare : ℕ) (scope : Scope) (layout : Layout) (at h : ℕ) (last : Last) (x : Named) (index e : Expression) (rest : Block) (frame : Frame)
        → f.point.capsule ≡ suc at → IsAt t code l f.own (level spare scope layout at h last (Then (tree.Put x index e) rest) frame) → Runs f
    Enters : (w : IsSwept f.own) → f.point.capsule ≡ entry_of code w.h → Runs f
    Halves : (w : IsSwept f.own) → f.point.capsule ≡ halving (entry_of code w.h) → Runs f
    IsDone : instrs_of code f.point.capsule ≡ instr.Ends ends.Finish ∷ [] → Runs f

  pub data Waits (g : CapsuleFrame FrameWord Point) : Type 0 where
    ForCallee : (v : Level) → g.point.capsule ≡ v.at → IsAt t code l g.own v → AreOff v g.point.left_to → AreOff v g.point.to → Waits g
    ForHalves : instrs_of code g.point.capsule ≡ instr.Ends ends.Finish ∷ [] → Waits g
