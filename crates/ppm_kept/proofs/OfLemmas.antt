-- What a processor does as it begins a capsule is what the closed capsule asks.
use Rattle.std.proofs.Common.{◌≡◌, ◌≤◌, ℕ, zero, ◌+◌, List, [], ◌∷◌, ◌++◌, map, Option, Some, None, refl, sym, ap, ◌∙◌, subst, arith}
use Rattle.std.specs.Prelude.{slice_get, replicate}
use Rattle.ppm_cells.specs.Cells.{pool_at}
use Rattle.ppm_cells.specs.declared.cell.Cell.{Cell}
use Rattle.ppm_cells.specs.declared.cell.Cell.TheVariants.{RoomCounter, BlockWord}
use Rattle.ppm_cells.specs.declared.shape.Shape.{Shape}
use Rattle.ppm_strands.specs.Capsule.{Capsule, Reads, Writes, Asks, Ends}
use Rattle.ppm_strands.specs.EndStores as ends
use Rattle.ppm_strands.specs.EndStores.{with_end_stores}
use Rattle.ppm_strands.specs.Strand.{Own, New, Shared}
use Rattle.ppm_code.specs.Capsules.{capsule_from, capsule_of}
use Rattle.ppm_code.specs.Code.{IsCode, room_of}
use Rattle.ppm_code.specs.Locations.{Where}
use Rattle.ppm_code.specs.Strands.{instrs_in, instrs_of}
use Rattle.ppm_code.specs.declared.act.End.{End}
use Rattle.ppm_code.specs.declared.act.End.TheVariants.{Next, Finish, Trap, Call, Fork}
use Rattle.ppm_code.specs.declared.code.Capsule.{Capsule as CodeCapsule}
use Rattle.ppm_code.specs.declared.code.CodeParts.{CodeParts}
use Rattle.ppm_code.specs.declared.instr.Instr.{Instr}
use Rattle.ppm_code.specs.declared.instr.Instr.TheVariants.{Room}
use Rattle.ppm_code.specs.declared.location.FrameWord.TheVariants.{Slot, Value}
use Rattle.ppm_step.specs.Frames.{Rest, Loads, Stores, Installs, cell_of, puts, storing, installed, asks, at_counter, rest_of}
use Rattle.ppm_step.specs.declared.content.Content.{Content}
use Rattle.ppm_step.specs.declared.content.Content.TheVariants.{ANumber}
use Rattle.ppm_step.specs.declared.frame.Put.{Put}
use Rattle.ppm_step.specs.declared.frame.Home.{Home}
use Rattle.ppm_step.proofs.PlainLemmas.{IsPlain, IsOld, EndsPlainly, IsSimple, Plain, Asking, capsule_simple}
use Rattle.ppm_ends.specs.Ends.{block_stores, own_stores, in_block, located}
use Rattle.ppm_ends.proofs.SplitLemmas.{split}
use Rattle.ppm_code.specs.Sizes.{procedure_at, slots_at}
use Rattle.ppm_frames.specs.Seen.{IsIn}
use Rattle.ppm_kept.proofs.FitsLemmas.{FitsAll, capsule_fits}
use Rattle.ppm_kept.specs.Running.{room_or, asked_of, IsOf, last_of, number_at, all_of, limit, HasRoom, IsRoomy, IsUnder}

module _ (s : Shape) (code : CodeParts) (place f y b r : ℕ) where
  -- the processor's block, and the one at the room counter
  abbrev old : Home
  old = record { frame = f; copy = y; block = b }

  abbrev new : Home
  new = record { frame = f; copy = y; block = r }

  abbrev tail : End → List (Where × ℕ)
  tail e = located (block_stores code new e)

  -- the stores into the block, and what follows
  of_stores : (ps : List (ℕ × Content)) (own : List Put) (e : End) (rest : Rest) → storing 0 own rest ≡ last_of s code new e
      → IsOf s code place new (ends.storing (located ps) (Ends e)) (storing 0 (map (in_block code new) ps ++ own) rest)
  of_stores [] own e rest is = is
  of_stores (p ∷ ps) own e rest is = (p.1, storing 0 (map (in_block code new) ps ++ own) rest, refl, refl, of_stores ps own e rest is)

  module _ (Built : Type 0) (same : Built → b ≡ r) (number : ℕ) (reads : (l : Where) → IsIn (slots_at code number) (asked_of code number) l → IsOld Built l) where
    cells_same : (l : Where) → IsOld Built l → cell_of old l ≡ cell_of new l
    cells_same (Own (Slot j)) h = refl
    cells_same (Own Value) h = refl
    cells_same (New o) h = ap (λ (x : ℕ). BlockWord (x + o)) (same h)
    cells_same (Shared x) h = refl

    end_same : (e : End) → EndsPlainly Built e → storing 0 (puts code old e) (Installs (installed old e)) ≡ storing 0 (puts code new e) (Installs (installed new e))
    end_same (Next k) h = refl
    end_same Finish h = refl
    end_same (Trap trap line) h = refl
    end_same (Call q k to) h = ap (λ (x : ℕ). storing 0 (puts code (record { frame = f; copy = y; block = x }) (Call q k to)) (Installs (installed (record { frame = f; copy = y; block = x }) (Call q k to)))) (same h)
    end_same (Fork l r' k lt rt) h = ap (λ (x : ℕ). storing 0 (puts code (record { frame = f; copy = y; block = x }) (Fork l r' k lt rt)) (Installs (installed (record { frame = f; copy = y; block = x }) (Fork l r' k lt rt)))) (same h)

    abbrev Fits : Capsule Where End → Type 0
    Fits c = FitsAll code (procedure_at code number) (instrs_of code number) c

    pub of_plain : (c : Capsule Where End) → IsPlain Built c → Fits c → IsOf s code place new (with_end_stores tail c) (rest_of s code place old c)
    of_plain (Reads l go) h fits = (λ v. rest_of s code place old (go v), ap (λ (c : Cell). Loads c (λ v. rest_of s code place old (go v))) (cells_same l (reads l fits.0)), λ v. of_plain (go v) (h v) (fits.1 v))
    of_plain (Writes l v go) h fits = (ANumber v, rest_of s code place old go, ap (λ (c : Cell). Stores c (ANumber v) (rest_of s code place old go)) (cells_same l h.0), refl, of_plain go h.1 fits.1)
    of_plain (Asks n go) h fits = absurd h
    of_plain (Ends e) h fits = subst (IsOf s code place new (with_end_stores tail (Ends e))) (sym (end_same e h ∙ ap (λ (ps : List Put). storing 0 ps (Installs (installed new e))) (split code new e)))
        (of_stores (block_stores code new e) (own_stores code new e) e (Installs (installed new e)) refl)

-- a capsule of a code, or none
pub simple_at : (code : CodeParts) (words number : ℕ) → IsCode code → IsSimple (instrs_of code number) (capsule_of words (instrs_of code number))
simple_at code words number is = by (slice_get code.capsules number) refl
  where
    by : (o : Option CodeCapsule) → slice_get code.capsules number ≡ o → IsSimple (instrs_in o) (capsule_of words (instrs_in o))
    by None e = Plain tt
    by (Some c) e = capsule_simple code words number c is e

-- a capsule that asks for no room
roomless : (words : ℕ) (g : List ℕ) (is : List Instr) → IsPlain ⊥ (capsule_from words 0 0 is g) → room_or (room_of is) ≡ 0
roomless words g [] h = refl
roomless words g (Room n ∷ is) h = absurd h
roomless words g (i ∷ is) h = refl

module _ (s : Shape) (code : CodeParts) (m : Cell → ℕ) (p f y : ℕ) where
  pub roomy_of : (c : Capsule Where End) → HasRoom s code m p f y → IsRoomy s code m p f y c
  roomy_of (Reads l go) h = h
  roomy_of (Writes l v go) h = h
  roomy_of (Asks n go) h = tt
  roomy_of (Ends e) h = h

  abbrev r : ℕ
  r = m (RoomCounter p)

  abbrev home : Home
  home = record { frame = f; copy = y; block = r }

  abbrev tails : End → List (Where × ℕ)
  tails e = located (block_stores code home e)

  abbrev first : Home
  first = record { frame = f; copy = y; block = 0 }

  abbrev c : Capsule Where End
  c = capsule_of s.arrays (instrs_of code (number_at s code m f y))

  pub begins : IsCode code → r ≤ limit s code p → IsUnder s code m p f y (rest_of s code p first (capsule_of s.arrays (instrs_of code (number_at s code m f y))))
  begins is low = by (simple_at code s.arrays (number_at s code m f y) is)
    where
      all_fit : FitsAll code (procedure_at code (number_at s code m f y)) (instrs_of code (number_at s code m f y)) c
      all_fit = capsule_fits code is s.arrays (number_at s code m f y)

      all_read : (l : Where) → IsIn (slots_at code (number_at s code m f y)) (asked_of code (number_at s code m f y)) l → IsOld (Unit {0}) l
      all_read (Own k) h = tt
      all_read (New o) h = tt
      all_read (Shared x) h = tt

      none_read : asked_of code (number_at s code m f y) ≡ 0 → (l : Where) → IsIn (slots_at code (number_at s code m f y)) (asked_of code (number_at s code m f y)) l → IsOld ⊥ l
      none_read z (Own k) h = tt
      none_read z (New o) h = omega (arith, z, h)
      none_read z (Shared x) h = tt

      by : IsSimple (instrs_of code (number_at s code m f y)) c → IsUnder s code m p f y (rest_of s code p first c)
      by (Plain h) = record {
        left = all_of s code m p f y;
        is_of = of_plain s code p f y 0 r ⊥ (λ h. absurd h) (number_at s code m f y) (none_read (roomless s.arrays (replicate 64 0) (instrs_of code (number_at s code m f y)) h)) c h all_fit;
        stands = (zero, refl);
        roomy = roomy_of (all_of s code m p f y) (let e = roomless s.arrays (replicate 64 0) (instrs_of code (number_at s code m f y)) h in omega (arith, e, low));
      }
      by (Asking n go room is_c h) = record {
        left = all_of s code m p f y;
        is_of = subst (λ (z : Capsule Where End). IsOf s code p home (with_end_stores tails z) (rest_of s code p first z)) (sym is_c) (
          λ counter. asks (pool_at s p) s.room counter n (rest_of s code p (at_counter first counter) go),
          rest_of s code p home go,
          refl,
          refl,
          of_plain s code p f y r r (Unit {0}) (λ h. refl) (number_at s code m f y) all_read go h (subst (λ (z : Capsule Where End). FitsAll code (procedure_at code (number_at s code m f y)) (instrs_of code (number_at s code m f y)) z) is_c all_fit).1,
        );
        stands = (zero, refl);
        roomy = subst (λ (z : Capsule Where End). IsRoomy s code m p f y (with_end_stores tails z)) (sym is_c) tt;
      }
