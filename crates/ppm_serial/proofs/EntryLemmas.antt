-- How a run begins and ends.
use Rattle.std.proofs.Common.{◌≡◌, ◌<◌, ◌≤◌, ◌-◌, ℕ, zero, suc, ℤ, pos, List, [], ◌∷◌, ◌++◌, Option, Some, None, refl, sym, ap, subst, arith, ◌∙◌, length, get_or, map, replicate}
use Rattle.std.specs.Prelude.{codes, slice_get}
use Rattle.std.proofs.lemmas.List.{append_assoc}
use Rattle.ppm_words.specs.declared.named_array.NamedArray.{NamedArray}
use Rattle.ppm_words.specs.declared.outcome.Outcome.TheVariants as outcome
use Rattle.ppm_words.specs.declared.trap.Trap.{Trap as Kind}
use Rattle.ppm_tree.specs.declared.tree.Parameter.{Parameter}
use Rattle.ppm_tree.specs.declared.tree.Array.{Array}
use Rattle.ppm_tree.specs.declared.tree.ArrayInput.{ArrayInput}
use Rattle.ppm_tree.specs.declared.tree.Proc.{Proc}
use Rattle.ppm_tree.specs.Tree.{ProgramTree, Procedure, procedure_of}
use Rattle.ppm_tree.specs.State.{Frame, Arrays, empty_frame, with_region, procedure_named, no_procedure}
use Rattle.ppm_tree.specs.Meaning.{Counts, End, Ended, Trapped}
use Rattle.ppm_tree.specs.Program.{main_of, main_frame, whole_from, initial_array, initial_arrays, with_names, Serial, Within, NotWithin}
use Rattle.ppm_tree.specs.Correct.{Spends}
use Rattle.ppm_serial.specs.Slots.{Slots, fresh}
use Rattle.ppm_serial.specs.Names.{Slotted, slot_in, names_of, no_names, frame_of}
use Rattle.ppm_serial.specs.Code.{Laid, routine_at}
use Rattle.ppm_serial.specs.Laying.{Fits, IsRoutine, IsLaid, place_in}
use Rattle.ppm_serial.specs.Running.{EndsWith, TrapsSo}
use Rattle.ppm_serial.specs.Entry.{lent_to, IsLentTo, IsMainFrame, named_by}
use Rattle.ppm_serial.proofs.SlotLemmas.{wrote_region, fits_region, fresh_frame, fresh_fits}
use Rattle.ppm_serial.proofs.KeepLemmas.{HasParameters, parameters_there, parameters_keep}
use Rattle.ppm_serial.proofs.ProgramLemmas.{named_at, named_nowhere}

-- arrays with their names, from those that a program starts with
pub names_are : (inputs : List ArrayInput) (arrays : List Array) (values : List (List ℤ)) → named_by arrays values ≡ with_names (map (initial_array inputs) arrays) values
names_are inputs [] values = refl
names_are inputs (a ∷ arrays) [] = refl
names_are inputs (a ∷ arrays) (v ∷ values) = ap (λ (l : List NamedArray). record { name = a.name.name; values = v } ∷ l) (names_are inputs arrays values)

-- what is lent to `main` is its frame
lent_is : (m : Slotted) (arrays : List Array) (ps : List Parameter) (s : Slots) → HasParameters m ps → Fits m s → empty_frame ≡ frame_of m s
    → (main_frame arrays ps ≡ frame_of m (lent_to m arrays ps s)) × Fits m (lent_to m arrays ps s)
lent_is m arrays [] s h f e = (e, f)
lent_is m arrays (p ∷ ps) s h f e =
    let q = lent_is m arrays ps s h.1 f e in (
      ap (λ (g : Frame). with_region g p.name.name (whole_from 0 arrays p.name.name)) q.0
          ∙ wrote_region m (lent_to m arrays ps s) p.name.name (slot_in m.regions p.name.name) (whole_from 0 arrays p.name.name) (record { slot = refl; there = h.0.region }) q.1,
      fits_region (slot_in m.regions p.name.name) (whole_from 0 arrays p.name.name) q.1,
    )

-- what stands at a place
abbrev some_or : {A : Type 0} → A → Option A → A
some_or d (Some x) = x
some_or d None = d

abbrev some_ : {A : Type 0} → A → Option A
some_ x = Some x

some_value : {A : Type 0} {x y : A} → some_ x ≡ some_ y → x ≡ y
some_value {x = x} e = ap (some_or x) e

got_at : {A : Type 0} (xs : List A) (k : ℕ) (x : A) → slice_get xs k ≡ Some x → (k < length xs) × ((d : A) → get_or xs k d ≡ x)
got_at [] k x e = cc
got_at (y ∷ xs) zero x e = (omega arith, λ d. some_value e)
got_at (y ∷ xs) (suc k) x e = let q = got_at xs k x e in ((let l = q.0 in omega (arith, l)), q.1)

past : {A : Type 0} (xs : List A) (k : ℕ) → slice_get xs k ≡ None → length xs ≤ k
past [] k e = omega arith
past (y ∷ xs) zero e = cc
past (y ∷ xs) (suc k) e = let l = past xs k e in omega (arith, l)

-- the frame of `main`
pub main_frame_is : (t : ProgramTree) (procedures : List Proc) (c : Laid) (f : Slots) → t.procedures ≡ map procedure_of procedures → IsLaid t.procedures c
    → IsMainFrame c t procedures c.main f → (main_frame t.arrays (main_of t).parameters ≡ frame_of (names_of (main_of t)) f) × Fits (names_of (main_of t)) f
main_frame_is t procedures c f e laid h = go (slice_get procedures c.main) refl h
  where
    routine : IsRoutine t.procedures c.blocks (main_of t) (routine_at c c.main)
    routine = subst (λ (k : ℕ). IsRoutine t.procedures c.blocks (main_of t) (routine_at c k)) (sym laid.main) (laid.routine (codes "main"))

    fits : Fits (names_of (main_of t)) (fresh (routine_at c c.main).locals (routine_at c c.main).regions)
    fits = subst (λ (j : ℕ). Fits (names_of (main_of t)) (fresh j (routine_at c c.main).regions)) (sym routine.locals)
        (subst (λ (j : ℕ). Fits (names_of (main_of t)) (fresh (length (names_of (main_of t)).locals) j)) (sym routine.regions) (fresh_fits (names_of (main_of t))))

    nothing : empty_frame ≡ frame_of (names_of (main_of t)) (fresh (routine_at c c.main).locals (routine_at c c.main).regions)
    nothing = sym (fresh_frame (names_of (main_of t)) (routine_at c c.main).locals (routine_at c c.main).regions)

    at : c.main ≡ place_in (map procedure_of procedures) (codes "main")
    at = laid.main ∙ ap (λ (ps : List Procedure). place_in ps (codes "main")) e

    all : (p : Procedure) → main_of t ≡ p → f ≡ lent_to (names_of p) t.arrays p.parameters (fresh (routine_at c c.main).locals (routine_at c c.main).regions)
        → (main_frame t.arrays (main_of t).parameters ≡ frame_of (names_of (main_of t)) f) × Fits (names_of (main_of t)) f
    all p i is =
        let j = subst (λ (p : Procedure). f ≡ lent_to (names_of p) t.arrays p.parameters (fresh (routine_at c c.main).locals (routine_at c c.main).regions)) (sym i) is in
        let q = lent_is (names_of (main_of t)) t.arrays (main_of t).parameters (fresh (routine_at c c.main).locals (routine_at c c.main).regions)
        (parameters_there no_names (names_of (main_of t)) (main_of t).parameters (parameters_keep (main_of t))) fits nothing in
        (q.0 ∙ ap (frame_of (names_of (main_of t))) (sym j), subst (Fits (names_of (main_of t))) (sym j) q.1)

    go : (o : Option Proc) → slice_get procedures c.main ≡ o → IsLentTo t o (fresh (routine_at c c.main).locals (routine_at c c.main).regions) f
        → (main_frame t.arrays (main_of t).parameters ≡ frame_of (names_of (main_of t)) f) × Fits (names_of (main_of t)) f
    go (Some p) is q =
        let g = got_at procedures c.main p is in
        all (procedure_of p)
        (ap (λ (ps : List Procedure). procedure_named ps (codes "main")) e
        ∙ named_at procedures (codes "main") p (subst (λ (k : ℕ). k < length procedures) at g.0)
        ∙ ap procedure_of (subst (λ (k : ℕ). get_or procedures k p ≡ p) at (g.1 p))) q
    go None is q = all no_procedure
        (ap (λ (ps : List Procedure). procedure_named ps (codes "main")) e
        ∙ named_nowhere procedures (codes "main") (subst (λ (k : ℕ). length procedures ≤ k) at (past procedures c.main is))) q

-- the answers of a run are outcomes
pub ended_is : (t : ProgramTree) (turns : ℕ) (a : Arrays) → EndsWith t turns a → Serial t turns (outcome.Ended (with_names (initial_arrays t) a))
ended_is t turns a e = Within e.ends.counts (Ended e.value a) e.ends.spends e.ends.within

trapped_is : (t : ProgramTree) (turns : ℕ) (kind : Kind) (line : ℕ) → TrapsSo t turns kind line → Serial t turns (outcome.Trapped kind line)
trapped_is t turns kind line e = Within e.ends.counts (Trapped (kind, line) e.arrays) e.ends.spends e.ends.within

pub trapped_so : (t : ProgramTree) (turns : ℕ) {k kind : Kind} {l line : ℕ} → k ≡ kind → l ≡ line → TrapsSo t turns kind line → Serial t turns (outcome.Trapped k l)
trapped_so t turns {kind = kind} {l = l} {line = line} e f s =
    subst (λ (k : Kind). Serial t turns (outcome.Trapped k l)) (sym e) (subst (λ (l : ℕ). Serial t turns (outcome.Trapped kind l)) (sym f) (trapped_is t turns kind line s))

pub not_within_is : (t : ProgramTree) (turns : ℕ) → ((k : Counts) (z : End ℤ) → Spends t k z → turns < k.turns) → Serial t turns outcome.NotWithin
not_within_is t turns h = NotWithin h

-- an array with one 0 more, and one less after it
pub filled_on : (xs : List ℤ) (w : ℕ) → length xs < w
    → (xs ++ pos 0 ∷ []) ++ replicate (w - length (xs ++ pos 0 ∷ [])) (pos 0) ≡ xs ++ replicate (w - length xs) (pos 0)
filled_on xs w l =
    let a = one_longer xs in
    let e : w - length xs ≡ suc (w - length (xs ++ pos 0 ∷ [])) = omega (arith, l, a) in
    append_assoc xs (pos 0 ∷ []) (replicate (w - length (xs ++ pos 0 ∷ [])) (pos 0)) ∙ ap (λ (j : ℕ). xs ++ replicate j (pos 0)) (sym e)
  where
    one_longer : (xs : List ℤ) → length (xs ++ pos 0 ∷ []) ≡ suc (length xs)
    one_longer [] = refl
    one_longer (x ∷ xs) = ap suc (one_longer xs)
