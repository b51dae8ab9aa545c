-- Wherever a run comes to, the sites are the program's, and the frame owns apart: by recursion on how it comes there.
use Rattle.std.proofs.Common.{◌≡◌, ◌≢◌, ◌≤◌, ◌<◌, ℕ, List, [], ◌++◌, refl, sym, ap, subst}
use Rattle.std.specs.Prelude.{Result, Ok, Err}
use Rattle.ppm_tree.specs.declared.named.Named.{Named}
use Rattle.ppm_tree.specs.Tree.{Expression, Side, Statement, Block, Then, If, While, Split, Each, Procedure, ProgramTree}
use Rattle.ppm_tree.specs.Tree as tree
use Rattle.ppm_tree.specs.State.{TrapAt, then_with, Region, part_at, Frame, Regions, Arrays, empty_frame, entered, both_entered}
use Rattle.ppm_tree.specs.Program.{main_of}
use Rattle.ppm_regions.specs.declared.ask.Ask.TheVariants as ask
use Rattle.ppm_regions.specs.Scope.{Scope, in_split, in_each, parts_of, element_of, lets_of}
use Rattle.ppm_regions.specs.Uses.{Lending, Asks, uses_in, uses_of_side, both_targets, lent_by, lent_together, declaration_sites}
use Rattle.ppm_regions.specs.Uses.{sites_of_block, sites_of_procedure}
use Rattle.ppm_regions.specs.Admission.{IsAdmitted}
use Rattle.ppm_regions.specs.Correct.{Makes, KeepsRules}
use Rattle.ppm_ownership.specs.Words.{ShareNoWord, IsPart}
use Rattle.ppm_ownership.specs.Owning.{IsSeen, OwnsApart, LieInArrays, OwnsNoMore, AreSeparate}
use Rattle.ppm_regions.specs.Scope.{scope_of, split_scope, each_scope}
use Rattle.ppm_ownership.specs.Coming.{callee, split_frame, each_frame, part_frame, ComesTo}
use Rattle.ppm_ownership.specs.Coming.{Main, Behind, InHolds, InElse, InWhile, InSplit, InEach, InCall, InLeft, InRight}
use Rattle.ppm_ownership.proofs.ScopeLemmas.{seen_before, mut_before, owned_before, written_before}
use Rattle.ppm_regions.proofs.SiteLemmas.{AreSites, sites_left, sites_right, AreMade, made_left, made_right, made_head, uses_first, sites_inside}
use Rattle.ppm_regions.proofs.SiteLemmas.{sites_behind, callee_sites, sites_of_body, AreNew, are_new}
use Rattle.ppm_ownership.proofs.PartLemmas.{ComesFrom, lie_still, owns_no_more, owns_on, owns_itself, element_in, elements_share_none, share_none_back}
use Rattle.ppm_ownership.proofs.SplitLemmas.{split_from, split_apart, each_from, each_apart, beside}
use Rattle.ppm_ownership.proofs.LendLemmas.{NoClash, no_clash, no_clash_left, no_clash_right}
use Rattle.ppm_ownership.proofs.CallLemmas.{AreLent}
use Rattle.ppm_ownership.proofs.EntryLemmas.{SideFacts, side_facts, lends, lends_are, callee_lent, lent_from, lent_apart, lent_separate, main_apart, main_within}

-- both sides of a fork are entered
abbrev pub found : {A : Type 0} → A → Result A TrapAt
found x = Ok x

pub ok_same : {A : Type 0} {x y : A} → found x ≡ found y → x ≡ y
ok_same p = cc

pub both_found : {A B : Type 0} (r : Result A TrapAt) (s : Result B TrapAt) (x : A) (y : B)
    → then_with {B = A × B} r (λ u. then_with {B = A × B} s (λ v. Ok (u, v))) ≡ Ok (x, y) → (r ≡ Ok x) × (s ≡ Ok y)
both_found {A} {B} (Ok u) (Ok v) x y h =
    let e = ok_same {A = A × B} {x = (u, v)} {y = (x, y)} h in
    (ap (λ (p : A × B). found p.0) e, ap (λ (p : A × B). found p.1) e)
both_found (Ok u) (Err s) x y h = absurd (cc)
both_found (Err s) r x y h = absurd (cc)

-- a run that stands in a procedure came to its body, in the frame that it was entered with
pub came_in : {t : ProgramTree} {p : Procedure} {g : Frame} {scope : Scope} {b : Block} {f : Frame} → ComesTo t p g scope b f
    → ComesTo t p g (scope_of p) p.body g
came_in Main = Main
came_in (Behind p g scope s b f l c) = came_in c
came_in (InHolds p g scope e s u b f c) = came_in c
came_in (InElse p g scope e s u b f c) = came_in c
came_in (InWhile p g scope e s b f l c) = came_in c
came_in (InSplit p g scope line r e x y s b f n short c) = came_in c
came_in (InEach p g scope i x r s b f k short c) = came_in c
came_in (InCall p g scope s b f h a is c) = InCall p g scope s b f h a is c
came_in (InLeft p g scope s u b f l r a is c) = InLeft p g scope s u b f l r a is c
came_in (InRight p g scope s u b f l r a is c) = InRight p g scope s u b f l r a is c

module _ (t : ProgramTree) (rules : KeepsRules t) (admitted : IsAdmitted t) where
  -- what is known where a run comes to
  pub record Stands (scope : Scope) (b : Block) (f : Frame) : Type 0 where
    pub sites : AreSites t (sites_of_block t scope b)
    pub apart : OwnsApart scope f.regions
    pub within : LieInArrays t.arrays scope f.regions

  -- after a statement
  behind : (scope : Scope) (s : Statement) (b : Block) (f f' : Frame) → f'.regions ≡ f.regions → Stands scope (Then s b) f → Stands (scope ++ lets_of s) b f'
  behind scope s b f f' same h = record {
    sites = sites_behind t scope s b h.sites;
    apart = subst (λ (r : Regions). OwnsApart (scope ++ lets_of s) r) (sym same)
        (record { apart = λ x y m n other. h.apart.apart x y (mut_before scope s x m) (seen_before scope s y n) other });
    within = subst (λ (r : Regions). LieInArrays t.arrays (scope ++ lets_of s) r) (sym same)
        (record { within = λ x m. h.within.within x (seen_before scope s x m) });
  }

  -- a region that is split, or gone through, may be used
  pub whole_seen : (scope : Scope) (r : Named) → Makes t scope (Asks ask.Region r) → IsSeen scope r.name
  whole_seen scope r made =
      let d = rules.names scope ask.Region r made in
      record { declaration = d.declaration; found = d.found; region = d.kind; shown = d.seen refl }

  module _ (scope : Scope) (line : ℕ) (r : Named) (e : Expression) (x y : Named) (s b : Block)
      (sites : AreSites t (sites_of_block t scope (Then (Split line r e x y s) b))) where
    pub split_whole : IsSeen scope r.name
    split_whole = whole_seen scope r (made_head t scope (Asks ask.Region r) (uses_in e) (uses_first t scope (Split line r e x y s) b sites))

    pub split_new : AreNew t (in_split scope r) (parts_of scope r x y)
    split_new =
        are_new t rules (in_split scope r) (parts_of scope r x y) (sites_left t (declaration_sites (in_split scope r) (parts_of scope r x y))
        (sites_of_block t (split_scope scope r x y) s) (sites_inside t scope (Split line r e x y s) b sites))

    pub split_sites : AreSites t (sites_of_block t (split_scope scope r x y) s)
    split_sites =
        sites_right t (declaration_sites (in_split scope r) (parts_of scope r x y)) (sites_of_block t (split_scope scope r x y) s)
        (sites_inside t scope (Split line r e x y s) b sites)

    pub split_comes : (f : Frame) (n : ℕ) → n ≤ (f.regions r.name).length
        → ComesFrom (split_scope scope r x y) (split_frame f r n x y).regions scope f.regions
    split_comes f n short = split_from scope r split_whole x y f n short split_new.0 split_new.1.0

  module _ (scope : Scope) (i x r : Named) (s b : Block) (sites : AreSites t (sites_of_block t scope (Then (Each i x r s) b))) where
    pub each_whole : IsSeen scope r.name
    each_whole = whole_seen scope r (made_head t scope (Asks ask.Region r) [] (uses_first t scope (Each i x r s) b sites))

    pub each_new : AreNew t (in_each scope r) (element_of scope r i x)
    each_new =
        are_new t rules (in_each scope r) (element_of scope r i x) (sites_left t (declaration_sites (in_each scope r) (element_of scope r i x))
        (sites_of_block t (each_scope scope r i x) s) (sites_inside t scope (Each i x r s) b sites))

    pub each_sites : AreSites t (sites_of_block t (each_scope scope r i x) s)
    each_sites =
        sites_right t (declaration_sites (in_each scope r) (element_of scope r i x)) (sites_of_block t (each_scope scope r i x) s)
        (sites_inside t scope (Each i x r s) b sites)

    pub part_comes : (f : Frame) (q : Region) → IsPart q (f.regions r.name)
        → ComesFrom (each_scope scope r i x) (part_frame f x q).regions scope f.regions
    part_comes f q short = each_from scope r each_whole i x f q short each_new.1.0

    pub each_comes : (f : Frame) (k : ℕ) → k < (f.regions r.name).length
        → ComesFrom (each_scope scope r i x) (each_frame f r k i x).regions scope f.regions
    each_comes f k short = part_comes f (part_at k (f.regions r.name)) (element_in (f.regions r.name) k short)

    pub part_apart : (f : Frame) (q : Region) → IsPart q (f.regions r.name) → OwnsApart scope f.regions
        → OwnsApart (each_scope scope r i x) (part_frame f x q).regions
    part_apart f q short own = each_apart scope r each_whole i x f q short each_new.1.0 own

    pub parts_beside : (f : Frame) (q w : Region) → OwnsApart scope f.regions → IsPart q (f.regions r.name) → IsPart w (f.regions r.name) → ShareNoWord q w
        → AreSeparate (each_scope scope r i x) (part_frame f x q).regions (each_scope scope r i x) (part_frame f x w).regions
    parts_beside f q w own short short' differ = record {
      left = beside scope r each_whole i x f each_new.1.0 own q w short short' differ;
      right = λ a j o m. beside scope r each_whole i x f each_new.1.0 own w q short' short (share_none_back differ) a j m o;
    }

    pub elements_beside : (f : Frame) (k l : ℕ) → OwnsApart scope f.regions → k < (f.regions r.name).length → l < (f.regions r.name).length → k ≢ l
        → AreSeparate (each_scope scope r i x) (each_frame f r k i x).regions (each_scope scope r i x) (each_frame f r l i x).regions
    elements_beside f k l own short short' differ =
        parts_beside f (part_at k (f.regions r.name)) (part_at l (f.regions r.name)) own (element_in (f.regions r.name) k short)
        (element_in (f.regions r.name) l short') (elements_share_none (f.regions r.name) k l differ)

  -- the arguments of a call, and of the sides of a fork
  module _ (scope : Scope) (b : Block) (f : Frame) (a : Arrays) where
    pub call_facts : (s : Side) → AreSites t (sites_of_block t scope (Then (tree.Call s) b)) → SideFacts t scope f a s
    call_facts s sites =
        side_facts t scope f a rules s (made_left t scope (uses_of_side t s) (lent_together [] (lent_by t s)) (uses_first t scope (tree.Call s) b sites))

    sides_made : (s u : Side) → AreSites t (sites_of_block t scope (Then (tree.Fork s u) b)) → AreMade t scope (uses_of_side t s ++ uses_of_side t u)
    sides_made s u sites =
        made_left t scope (uses_of_side t s ++ uses_of_side t u) (both_targets s.target u.target)
        (made_left t scope (uses_of_side t s ++ uses_of_side t u ++ both_targets s.target u.target) (lent_together [] (lent_by t s ++ lent_by t u))
        (uses_first t scope (tree.Fork s u) b sites))

    pub left_facts : (s u : Side) → AreSites t (sites_of_block t scope (Then (tree.Fork s u) b)) → SideFacts t scope f a s
    left_facts s u sites = side_facts t scope f a rules s (made_left t scope (uses_of_side t s) (uses_of_side t u) (sides_made s u sites))

    pub right_facts : (s u : Side) → AreSites t (sites_of_block t scope (Then (tree.Fork s u) b)) → SideFacts t scope f a u
    right_facts s u sites = side_facts t scope f a rules u (made_right t scope (uses_of_side t s) (uses_of_side t u) (sides_made s u sites))

  -- a call, and the sides of a fork
  module _ (scope : Scope) (s : Side) (b : Block) (f g : Frame) (a : Arrays) (sites : AreSites t (sites_of_block t scope (Then (tree.Call s) b)))
      (is : entered t.procedures f a s ≡ Ok g) where
    call_uses : AreMade t scope (uses_of_side t s ++ lent_together [] (lent_by t s))
    call_uses = uses_first t scope (tree.Call s) b sites

    pub call_lent : AreLent f a scope (callee t s).parameters s.arguments empty_frame g
    call_lent = callee_lent t scope f a rules admitted s g (call_facts scope b f a s sites) is

    pub call_clashes : NoClash (lends t scope f a s)
    call_clashes = subst NoClash (lends_are t scope f a s)
        (no_clash t scope rules [] (lent_by t s) (made_right t scope (uses_of_side t s) (lent_together [] (lent_by t s)) call_uses))

    pub call_comes : ComesFrom (scope_of (callee t s)) g.regions scope f.regions
    call_comes = lent_from t scope f a (callee t s).parameters s.arguments empty_frame g call_lent

    pub call_apart : OwnsApart scope f.regions → OwnsApart (scope_of (callee t s)) g.regions
    call_apart = lent_apart t scope f a (callee t s).parameters s.arguments empty_frame g call_lent call_clashes

  module _ (scope : Scope) (s u : Side) (b : Block) (f g h : Frame) (a : Arrays) (sites : AreSites t (sites_of_block t scope (Then (tree.Fork s u) b)))
      (is : both_entered t.procedures f a s u ≡ Ok (g, h)) where
    abbrev together : List Lending
    together = lent_by t s ++ lent_by t u

    fork_uses : AreMade t scope (uses_of_side t s ++ uses_of_side t u ++ both_targets s.target u.target ++ lent_together [] together)
    fork_uses = uses_first t scope (tree.Fork s u) b sites

    fork_clashes : NoClash (lends t scope f a s ++ lends t scope f a u)
    fork_clashes =
        subst (λ (ls : List Lending). NoClash (ls ++ lends t scope f a u)) (lends_are t scope f a s)
        (subst (λ (ls : List Lending). NoClash (lent_by t s ++ ls)) (lends_are t scope f a u)
        (no_clash t scope rules [] together
        (made_right t scope (uses_of_side t s ++ uses_of_side t u ++ both_targets s.target u.target) (lent_together [] together) fork_uses)))

    entries : (entered t.procedures f a s ≡ Ok g) × (entered t.procedures f a u ≡ Ok h)
    entries = both_found (entered t.procedures f a s) (entered t.procedures f a u) g h is

    pub left_lent : AreLent f a scope (callee t s).parameters s.arguments empty_frame g
    left_lent = callee_lent t scope f a rules admitted s g (left_facts scope b f a s u sites) entries.0

    pub right_lent : AreLent f a scope (callee t u).parameters u.arguments empty_frame h
    right_lent = callee_lent t scope f a rules admitted u h (right_facts scope b f a s u sites) entries.1

    pub left_comes : ComesFrom (scope_of (callee t s)) g.regions scope f.regions
    left_comes = lent_from t scope f a (callee t s).parameters s.arguments empty_frame g left_lent

    pub right_comes : ComesFrom (scope_of (callee t u)) h.regions scope f.regions
    right_comes = lent_from t scope f a (callee t u).parameters u.arguments empty_frame h right_lent

    pub left_apart : OwnsApart scope f.regions → OwnsApart (scope_of (callee t s)) g.regions
    left_apart = lent_apart t scope f a (callee t s).parameters s.arguments empty_frame g left_lent
        (no_clash_left (lends t scope f a s) (lends t scope f a u) fork_clashes)

    pub right_apart : OwnsApart scope f.regions → OwnsApart (scope_of (callee t u)) h.regions
    right_apart = lent_apart t scope f a (callee t u).parameters u.arguments empty_frame h right_lent
        (no_clash_right (lends t scope f a s) (lends t scope f a u) fork_clashes)

    pub sides_separate : OwnsApart scope f.regions → AreSeparate (scope_of (callee t s)) g.regions (scope_of (callee t u)) h.regions
    sides_separate own =
        lent_separate t scope f a (callee t s).parameters (callee t u).parameters s.arguments u.arguments empty_frame g empty_frame h left_lent right_lent
        fork_clashes own

  body_sites : (s : Side) → AreSites t (sites_of_block t (scope_of (callee t s)) (callee t s).body)
  body_sites s = sites_of_body t (callee t s) (callee_sites t s.callee.name)

  -- a branch of a test, or a turn, stands in the same frame
  branch : (scope : Scope) (b s : Block) (f f' : Frame) → f'.regions ≡ f.regions → AreSites t (sites_of_block t scope s) → Stands scope b f → Stands scope s f'
  branch scope b s f f' same sites h = record {
    sites = sites;
    apart = subst (λ (r : Regions). OwnsApart scope r) (sym same) h.apart;
    within = subst (λ (r : Regions). LieInArrays t.arrays scope r) (sym same) h.within;
  }

  pub stands : {p : Procedure} {g : Frame} {scope : Scope} {b : Block} {f : Frame} → ComesTo t p g scope b f → Stands scope b f
  stands Main = record {
    sites = sites_of_body t (main_of t) (callee_sites t _);
    apart = main_apart t.arrays (main_of t).parameters;
    within = main_within t.arrays (main_of t).parameters;
  }
  stands (Behind p g scope s b f l c) = behind scope s b f _ refl (stands c)
  stands (InHolds p g scope e s u b f c) =
      let h = stands c in
      branch scope _ s f f refl (sites_left t (sites_of_block t scope s) (sites_of_block t scope u) (sites_inside t scope (If e s u) b h.sites)) h
  stands (InElse p g scope e s u b f c) =
      let h = stands c in
      branch scope _ u f f refl (sites_right t (sites_of_block t scope s) (sites_of_block t scope u) (sites_inside t scope (If e s u) b h.sites)) h
  stands (InWhile p g scope e s b f l c) =
      let h = stands c in
      branch scope _ s f _ refl (sites_inside t scope (While e s) b h.sites) h
  stands (InSplit p g scope line r e x y s b f n short c) =
      let h = stands c in
      let new = split_new scope line r e x y s b h.sites in
      record {
        sites = split_sites scope line r e x y s b h.sites;
        apart = split_apart scope r (split_whole scope line r e x y s b h.sites) x y f n short new.0 new.1.0 h.apart;
        within = lie_still (split_comes scope line r e x y s b h.sites f n short) t.arrays h.within;
      }
  stands (InEach p g scope i x r s b f k short c) =
      let h = stands c in
      record {
        sites = each_sites scope i x r s b h.sites;
        apart = part_apart scope i x r s b h.sites f (part_at k (f.regions r.name)) (element_in (f.regions r.name) k short) h.apart;
        within = lie_still (each_comes scope i x r s b h.sites f k short) t.arrays h.within;
      }
  stands (InCall p g scope s b f h a is c) =
      let o = stands c in
      record {
        sites = body_sites s;
        apart = call_apart scope s b f h a o.sites is o.apart;
        within = lie_still (call_comes scope s b f h a o.sites is) t.arrays o.within;
      }
  stands (InLeft p g scope s u b f l r a is c) =
      let o = stands c in
      record {
        sites = body_sites s;
        apart = left_apart scope s u b f l r a o.sites is o.apart;
        within = lie_still (left_comes scope s u b f l r a o.sites is) t.arrays o.within;
      }
  stands (InRight p g scope s u b f l r a is c) =
      let o = stands c in
      record {
        sites = body_sites u;
        apart = right_apart scope s u b f l r a o.sites is o.apart;
        within = lie_still (right_comes scope s u b f l r a o.sites is) t.arrays o.within;
      }

  -- the sites of the procedure that it stands in
  pub home_sites : {p : Procedure} {g : Frame} {scope : Scope} {b : Block} {f : Frame} → ComesTo t p g scope b f → AreSites t (sites_of_procedure t p)
  home_sites Main = callee_sites t _
  home_sites (Behind p g scope s b f l c) = home_sites c
  home_sites (InHolds p g scope e s u b f c) = home_sites c
  home_sites (InElse p g scope e s u b f c) = home_sites c
  home_sites (InWhile p g scope e s b f l c) = home_sites c
  home_sites (InSplit p g scope line r e x y s b f n short c) = home_sites c
  home_sites (InEach p g scope i x r s b f k short c) = home_sites c
  home_sites (InCall p g scope s b f h a is c) = callee_sites t s.callee.name
  home_sites (InLeft p g scope s u b f l r a is c) = callee_sites t s.callee.name
  home_sites (InRight p g scope s u b f l r a is c) = callee_sites t u.callee.name

  -- and it owns no more than the frame that the procedure was entered with
  pub at_home : {p : Procedure} {g : Frame} {scope : Scope} {b : Block} {f : Frame} → ComesTo t p g scope b f
      → OwnsNoMore scope f.regions (scope_of p) g.regions
  at_home Main = owns_itself (scope_of (main_of t)) _
  at_home (Behind p g scope s b f l c) =
      let here : OwnsNoMore (scope ++ lets_of s) f.regions scope f.regions =
      record { owned = owned_before scope s f.regions; written = written_before scope s f.regions } in
      owns_on here (at_home c)
  at_home (InHolds p g scope e s u b f c) = at_home c
  at_home (InElse p g scope e s u b f c) = at_home c
  at_home (InWhile p g scope e s b f l c) = at_home c
  at_home (InSplit p g scope line r e x y s b f n short c) =
      owns_on (owns_no_more (split_comes scope line r e x y s b (stands c).sites f n short)) (at_home c)
  at_home (InEach p g scope i x r s b f k short c) = owns_on (owns_no_more (each_comes scope i x r s b (stands c).sites f k short)) (at_home c)
  at_home (InCall p g scope s b f h a is c) = owns_itself (scope_of (callee t s)) h.regions
  at_home (InLeft p g scope s u b f l r a is c) = owns_itself (scope_of (callee t s)) l.regions
  at_home (InRight p g scope s u b f l r a is c) = owns_itself (scope_of (callee t u)) r.regions
