-- Procedures after procedures.
use Rattle.std.proofs.Common.{◌≡◌, ◌≤◌, ◌+◌, ℕ, suc, not, arith, List, [], ◌∷◌, ◌++◌, None, map, length, refl, sym, ap, subst, ◌∙◌}
use Rattle.std.proofs.Common.{append_assoc, length-append}
use Rattle.std.proofs.lemmas.List.{append-nil}
use Rattle.std.proofs.lemmas.List.Filters.{length-filter_both}
use Rattle.std.specs.Set.{is_member}
use Rattle.std.specs.Str.{bytes_eq}
use Rattle.ppm_code.specs.declared.act.End.TheVariants as ends
use Rattle.ppm_code.specs.declared.instr.Instr.TheVariants as instr
use Rattle.ppm_code.specs.declared.code.Capsule.{Capsule}
use Rattle.ppm_cut_bounds.specs.Names.{free_names}
use Rattle.ppm_tree.specs.declared.named.Named.{Named}
use Rattle.ppm_tree.specs.Tree.{Expression, Statement, Block, Then, If, Each, Procedure}
use Rattle.ppm_cut_code.specs.Layout.{Layout, caught}
use Rattle.ppm_cut_code.specs.Numbers.{hidden_behind, hidden_behind_block, element_block}
use Rattle.ppm_cut_code.specs.Slots.{hidden_named_slots, hidden_slots}
use Rattle.ppm_cut_code.specs.Statements.{Instrs, Gives, with_lets, entry_code, halving_code, block_code}
use Rattle.ppm_cut_code.specs.Routines.{Routine, Hidden, Sweep, sweep_layout, routine_slots, routine_behind, procedures_from, capsules_from}
use Rattle.ppm_cut_code.specs.Routines.{hidden_of, hidden_of_block, routine_code}
use Rattle.ppm_cut_code.proofs.PlaceLemmas.{past_length, hidden_past, hidden_past_block}
use Rattle.ppm_cut.specs.declared.draft.Draft.{Draft}
use Rattle.ppm_cut.specs.Growth.{Adds, capsule_of}
use Rattle.ppm_cut.specs.Drafts.{Drafts, behind_all}
use Rattle.ppm_cut.proofs.Growing.{adds_then}

-- what is still to be added after some statements of a block is what was to be added, after what was added
pub record Rest (procedures : List Procedure) (start : Layout) (hidden : ℕ) (all : Block) (layout : Layout) (next : ℕ) (rest : Block)
    (old now : Draft) : Type 0 where
  pub added : List Routine
  pub drafts : Drafts procedures added old now
  pub is : hidden_of_block start hidden all ≡ added ++ hidden_of_block layout next rest

behind_append : (xs ys : List Routine) (at : ℕ) → behind_all (xs ++ ys) at ≡ behind_all ys (behind_all xs at)
behind_append [] ys at = refl
behind_append (x ∷ xs) ys at = behind_append xs ys (routine_behind x at)

procs_append : (xs ys : List Routine) (at : ℕ) → procedures_from at (xs ++ ys) ≡ procedures_from at xs ++ procedures_from (behind_all xs at) ys
procs_append [] ys at = refl
procs_append (x ∷ xs) ys at = ap (λ l. record { slots = routine_slots x; entry = at } ∷ l) (procs_append xs ys (routine_behind x at))

procs_length : (xs : List Routine) (at : ℕ) → length (procedures_from at xs) ≡ length xs
procs_length [] at = refl
procs_length (x ∷ xs) at = ap suc (procs_length xs (routine_behind x at))

module _ (procedures : List Procedure) where
  caps_append : (xs ys : List Routine) (q at : ℕ)
      → capsules_from procedures q at (xs ++ ys) ≡ capsules_from procedures q at xs ++ capsules_from procedures (q + length xs) (behind_all xs at) ys
  caps_append [] ys q at = let e : q ≡ q + 0 = omega arith in ap (λ n. capsules_from procedures n at ys) e
  caps_append (x ∷ xs) ys q at =
      let e : suc q + length xs ≡ q + suc (length xs) = omega arith in
      let mine = map (capsule_of q) (routine_code procedures at x) in
      let next = routine_behind x at in
      ap (λ l. mine ++ l) (caps_append xs ys (suc q) next) ∙ sym (append_assoc mine (capsules_from procedures (suc q) next xs) _)
      ∙ ap (λ n. (mine ++ capsules_from procedures (suc q) next xs) ++ capsules_from procedures n (behind_all xs next) ys) e

  pub drafts_none : (a : Draft) → Drafts procedures [] a a
  drafts_none a = record { procedures_are = sym (append-nil a.procedures.items); capsules_are = sym (append-nil a.capsules.items); next_is = refl }

  pub drafts_count : (xs : List Routine) (a b : Draft) → Drafts procedures xs a b → length b.procedures.items ≡ length a.procedures.items + length xs
  drafts_count xs a b h =
      ap length h.procedures_are ∙ length-append a.procedures.items (procedures_from a.next xs) ∙ ap (λ n. length a.procedures.items + n)
      (procs_length xs a.next)

  pub drafts_then : (xs ys : List Routine) (a b c : Draft) → Drafts procedures xs a b → Drafts procedures ys b c → Drafts procedures (xs ++ ys) a c
  drafts_then xs ys a b c h g = record {
    procedures_are = g.procedures_are ∙ ap (λ n. b.procedures.items ++ procedures_from n ys) h.next_is
        ∙ ap (λ l. l ++ procedures_from (behind_all xs a.next) ys) h.procedures_are
        ∙ append_assoc a.procedures.items (procedures_from a.next xs) (procedures_from (behind_all xs a.next) ys)
        ∙ ap (λ l. a.procedures.items ++ l) (sym (procs_append xs ys a.next));
    capsules_are = g.capsules_are ∙ ap (λ n. b.capsules.items ++ capsules_from procedures (length b.procedures.items) n ys) h.next_is
        ∙ ap (λ n. b.capsules.items ++ capsules_from procedures n (behind_all xs a.next) ys) (drafts_count xs a b h)
        ∙ ap (λ l. l ++ capsules_from procedures (length a.procedures.items + length xs) (behind_all xs a.next) ys) h.capsules_are
        ∙ append_assoc a.capsules.items (capsules_from procedures (length a.procedures.items) a.next xs) _
        ∙ ap (λ l. a.capsules.items ++ l) (sym (caps_append xs ys (length a.procedures.items) a.next));
    next_is = g.next_is ∙ ap (behind_all ys) h.next_is ∙ sym (behind_append xs ys a.next);
  }

  -- one procedure
  pub drafts_one : (r : Routine) (a b : Draft) → b.procedures.items ≡ a.procedures.items ++ record { slots = routine_slots r; entry = a.next } ∷ []
      → Adds (length a.procedures.items) (routine_code procedures a.next r) a.capsules.items b.capsules.items → b.next ≡ routine_behind r a.next
      → Drafts procedures (r ∷ []) a b
  drafts_one r a b p added n = record {
    procedures_are = p;
    capsules_are = added.whole ∙ ap (λ l. a.capsules.items ++ l)
        (sym (append-nil (map (capsule_of (length a.procedures.items)) (routine_code procedures a.next r))));
    next_is = n;
  }

  -- a hidden procedure, by a number that is equal
  pub hidden_at : (m n line : ℕ) (part index : List ℕ) (names : Layout) (block : Block) (a b : Draft) → m ≡ n
      → Drafts procedures (Hidden (record { number = m; line = line; part = part; index = index; names = names; block = block }) ∷ []) a b
      → Drafts procedures (Hidden (record { number = n; line = line; part = part; index = index; names = names; block = block }) ∷ []) a b
  hidden_at m n line part index names block a b e d =
      subst (λ k. Drafts procedures (Hidden (record { number = k; line = line; part = part; index = index; names = names; block = block }) ∷ []) a b) e d

  -- how many procedures there are then
  pub number_behind : (layout : Layout) (h : ℕ) (s : Statement) (a b : Draft) → Drafts procedures (hidden_of layout h s) a b
      → length a.procedures.items ≡ h → length b.procedures.items ≡ hidden_behind s h
  number_behind layout h s a b d e =
      let many = drafts_count (hidden_of layout h s) a b d in
      let past = hidden_past layout h s in
      let all = past_length (hidden_of layout h s) h in
      omega (arith, many, past, all, e)

  pub number_behind_block : (layout : Layout) (h : ℕ) (block : Block) (a b : Draft) → Drafts procedures (hidden_of_block layout h block) a b
      → length a.procedures.items ≡ h → length b.procedures.items ≡ hidden_behind_block block h
  number_behind_block layout h block a b d e =
      let many = drafts_count (hidden_of_block layout h block) a b d in
      let past = hidden_past_block layout h block in
      let all = past_length (hidden_of_block layout h block) h in
      omega (arith, many, past, all, e)

  -- the hidden procedures of both blocks of an `if`
  pub if_drafts : (layout names : Layout) (h second : ℕ) (w : Statement) (e : Expression) (b o : Block) (x y z : Draft) → w ≡ If e b o
      → second ≡ hidden_behind_block b h → names ≡ layout → Drafts procedures (hidden_of_block layout h b) x y
      → Drafts procedures (hidden_of_block names second o) y z → Drafts procedures (hidden_of layout h w) x z
  if_drafts layout names h second w e b o x y z is p q f g =
      let g1 = subst (λ l. Drafts procedures (hidden_of_block l second o) y z) q g in
      let g2 = subst (λ n. Drafts procedures (hidden_of_block layout n o) y z) p g1 in
      subst (λ s. Drafts procedures (hidden_of layout h s) x z) (sym is)
      (drafts_then (hidden_of_block layout h b) (hidden_of_block layout (hidden_behind_block b h) o) x y z f g2)

  -- that of an `each`, and those of its block
  pub each_drafts : (layout names : Layout) (h next : ℕ) (w : Statement) (i p r : Named) (b : Block) (x y z : Draft) → w ≡ Each i p r b
      → next ≡ suc h → names ≡ p.name ∷ i.name ∷ caught layout b
      → Drafts procedures (Hidden (record { number = h; line = r.line; part = p.name; index = i.name; names = caught layout b; block = b }) ∷ []) x y
      → Drafts procedures (hidden_of_block names next b) y z → Drafts procedures (hidden_of layout h w) x z
  each_drafts layout names h next w i p r b x y z is e q f g =
      let inner = p.name ∷ i.name ∷ caught layout b in
      let g1 = subst (λ l. Drafts procedures (hidden_of_block l next b) y z) q g in
      let g2 = subst (λ n. Drafts procedures (hidden_of_block inner n b) y z) e g1 in
      subst (λ s. Drafts procedures (hidden_of layout h s) x z) (sym is)
      (drafts_then (Hidden (record { number = h; line = r.line; part = p.name; index = i.name; names = caught layout b; block = b }) ∷ [])
      (hidden_of_block inner (suc h) b) x y z f g2)

  -- after one more statement of a block
  pub rest_step : (start : Layout) (hidden : ℕ) (all : Block) (layout : Layout) (next : ℕ) (b rest : Block) (s : Statement) (more : Layout)
      (behind : ℕ) (x y z : Draft) → b ≡ Then s rest → more ≡ with_lets layout s → behind ≡ hidden_behind s next
      → Rest procedures start hidden all layout next b x y → Drafts procedures (hidden_of layout next s) y z
      → Rest procedures start hidden all more behind rest x z
  rest_step start hidden all layout next b rest s more behind x y z e p q r d =
      let mine = hidden_of layout next s in
      record {
        added = r.added ++ mine;
        drafts = drafts_then r.added mine x y z r.drafts d;
        is = r.is ∙ ap (λ c. r.added ++ hidden_of_block layout next c) e
            ∙ sym (append_assoc r.added mine (hidden_of_block (with_lets layout s) (hidden_behind s next) rest))
            ∙ ap (λ l. (r.added ++ mine) ++ hidden_of_block l (hidden_behind s next) rest) (sym p)
            ∙ ap (λ n. (r.added ++ mine) ++ hidden_of_block more n rest) (sym q);
      }

  -- the capsules of a hidden procedure
  pub sweep_added : (s : Sweep) (q at count slots spare next hidden : ℕ) (layout : Layout) (first second third : Instrs) {a m1 m2 m3 z : List Capsule}
      → q ≡ s.number → count ≡ length s.names → slots ≡ hidden_slots (length s.names) s.block → spare ≡ hidden_named_slots (length s.names) s.block
      → layout ≡ sweep_layout s → next ≡ element_block at → hidden ≡ suc s.number
      → first ≡ entry_code at → second ≡ halving_code at s.number slots count s.line → third ≡ instr.Ends ends.Finish ∷ []
      → Adds s.number (first ∷ []) a m1 → Adds s.number (second ∷ []) m1 m2 → Adds s.number (third ∷ []) m2 m3
      → Adds s.number (block_code procedures spare layout next hidden (Gives None) s.block) m3 z
      → Adds q (routine_code procedures at (Hidden s)) a z
  sweep_added s q at count slots spare next hidden layout first second third {a = a} {m1 = m1} {m2 = m2} {m3 = m3} {z = z}
      p0 p1 p2 p3 p4 p5 p6 c1 c2 c3 f g h k =
      let n = s.number in
      let names = length s.names in
      let halves = c2 ∙ ap (λ m. halving_code at n m count s.line) p2 ∙ ap (λ m. halving_code at n (hidden_slots names s.block) m s.line) p1 in
      let f1 = subst (λ is. Adds n (is ∷ []) a m1) c1 f in
      let g1 = subst (λ is. Adds n (is ∷ []) m1 m2) halves g in
      let h1 = subst (λ is. Adds n (is ∷ []) m2 m3) c3 h in
      let k1 = subst (λ m. Adds n (block_code procedures m layout next hidden (Gives None) s.block) m3 z) p3 k in
      let own = hidden_named_slots names s.block in
      let k2 = subst (λ l. Adds n (block_code procedures own l next hidden (Gives None) s.block) m3 z) p4 k1 in
      let k3 = subst (λ m. Adds n (block_code procedures own (sweep_layout s) m hidden (Gives None) s.block) m3 z) p5 k2 in
      let k4 = subst (λ m. Adds n (block_code procedures own (sweep_layout s) (element_block at) m (Gives None) s.block) m3 z) p6 k3 in
      subst (λ m. Adds m (routine_code procedures at (Hidden s)) a z) (sym p0) (adds_then f1 (adds_then g1 (adds_then h1 k4)))

-- no more names are caught than there are
pub caught_few : (layout : Layout) (b : Block) → length (caught layout b) ≤ length layout
caught_few layout b =
    let test = is_member bytes_eq (free_names b) in
    let both = length-filter_both test (λ x. not (test x)) (λ x. refl) layout in
    omega (arith, both)
