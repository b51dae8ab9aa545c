-- A capsule of a frame under way: its loads, its stores and its install.
use Rattle.std.proofs.Common.{◌≡◌, ◌≢◌, ◌⊎◌, ◌≤◌, ◌<◌, ℕ, suc, ◌+◌, Bool, true, false, List, [], ◌∷◌, inl, inr, refl, sym, ap, ap₂, ◌∙◌, subst, subst₂, arith}
use Rattle.std.specs.Prelude.{nat_lt, nat_le, if◌then◌else◌}
use Rattle.std.proofs.Math.Path.{fun_ext}
use Rattle.std.proofs.lemmas.Bool.{le-ltb, ltb-true, leb-true}
use Rattle.ppm_strands.specs.Tree.{Words, Strand, Code, Has}
use Rattle.ppm_strands.specs.Run.{none, of_capsule}
use Rattle.ppm_strands.specs.Ahead.{Step}
use Rattle.ppm_strands.specs.Ahead as ahead
use Rattle.ppm_cells.specs.Cells.{pool_at}
use Rattle.ppm_cells.specs.Finish.{finish_word}
use Rattle.ppm_cells.specs.declared.cell.Cell.{Cell}
use Rattle.ppm_cells.specs.declared.cell.Cell.TheVariants.{RoomCounter, BlockWord, ArrayWord}
use Rattle.ppm_cells.specs.declared.finish.Finish.TheVariants.{Trapped}
use Rattle.ppm_cells.specs.declared.restart.RestartKind.{RestartKind}
use Rattle.ppm_cells.specs.declared.shape.Shape.{Shape}
use Rattle.ppm_strands.specs.Capsule.{Capsule, Reads, Writes, Asks, Ends, Memory, Whole, In, ending, written, DoesTheSame}
use Rattle.ppm_strands.specs.Capsule as capsule
use Rattle.ppm_strands.specs.Stopped.{Progress, Stands, at, one}
use Rattle.ppm_strands.specs.Strand.{Own, New, Shared, Frame, Table, shared_of, MayBeginAgain, code_of}
use Rattle.ppm_strands.specs.Strand as strand
use Rattle.ppm_strands.proofs.StandsLemmas.{steps_more, at_end, is_written, store_does_the_same, store_stands}
use Rattle.ppm_strands.proofs.KeepLemmas.{written_by}
use Rattle.ppm_strands.proofs.StrandLemmas.{stores_are_steps, ends_are_steps}
use Rattle.ppm_strands.proofs.EndStoresLemmas.{end_stores_are_unseen_are_the_same}
use Rattle.ppm_code.specs.Locations.{Where, code_locations}
use Rattle.ppm_code.specs.Sizes.{slot_at, value_at, procedure_at, slots_at}
use Rattle.ppm_code.specs.Strands.{Point, Result, at_capsule, instrs_of, opens, table_of}
use Rattle.ppm_code.specs.declared.act.End.{End}
use Rattle.ppm_code.specs.declared.act.End.TheVariants.{Next, Finish, Trap, Call, Fork}
use Rattle.ppm_code.specs.declared.code.CodeParts.{CodeParts}
use Rattle.ppm_code.specs.declared.location.FrameWord.{FrameWord}
use Rattle.ppm_code.specs.declared.location.FrameWord.TheVariants.{Slot, Value}
use Rattle.ppm_code.proofs.NewLemmas.{capsules_may_begin_again}
use Rattle.ppm_step.specs.Contents.{word_of}
use Rattle.ppm_step.specs.Frames.{Rest, Loads, Stores, Full, Installs, Breaks, cell_of, other_copy, installed, asks, goes_on}
use Rattle.ppm_step.specs.Points.{outcome_word, header_word}
use Rattle.ppm_step.specs.declared.content.Content.{Content}
use Rattle.ppm_step.specs.declared.content.Content.TheVariants.{ANumber}
use Rattle.ppm_step.specs.declared.frame.Home.{Home}
use Rattle.ppm_ends.specs.Beside.{long_table}
use Rattle.ppm_ends.specs.Ends.{own_stores, tails_of}
use Rattle.ppm_ends.proofs.TailLemmas.{unseen, begin_again}
use Rattle.ppm_frames.specs.Views.{written as store}
use Rattle.ppm_frames.specs.Seen.{own_at, arrays_at, seen, cell_in, IsIn}
use Rattle.ppm_frames.proofs.WriteLemmas.{write_here, write_else, address}
use Rattle.ppm_frames.proofs.SeenLemmas.{if_false, choice, seen_in, seen_after}
use Rattle.ppm_frames.specs.Laws.{AreApart}
use Rattle.ppm_kept.specs.Running.{asked_of, AllStand, outcome_by, IsFair, last_of, IsOf, home_at, number_at, closed, now, all_of, limit, HasRoom, IsRoomy, HasCome, IsClean, frame_of, strands, IsStep, LiesApart, MayStore, GoesOn, Opens}
use Rattle.ppm_kept.specs.Laws.{FramesRun}
use Rattle.ppm_kept.proofs.FitsLemmas.{FitsAll, capsule_fits, long_fits, fits_steps}
use Rattle.ppm_kept.proofs.OfLemmas.{roomy_of, begins}

-- what kind of rest it is
abbrev kind_of_rest : Rest → ℕ
kind_of_rest (Loads c go) = 0
kind_of_rest (Stores c x rest) = 1
kind_of_rest Full = 2
kind_of_rest (Installs k) = 3
kind_of_rest Breaks = 4

abbrev cell_told : Rest → Cell → Cell
cell_told (Loads c go) d = c
cell_told (Stores c x rest) d = c
cell_told _ d = d

abbrev next_told : Rest → (ℕ → Rest) → ℕ → Rest
next_told (Loads c go) d = go
next_told (Stores c x rest) d = λ v. rest
next_told _ d = d

abbrev rest_told : Rest → Rest → Rest
rest_told (Stores c x rest) d = rest
rest_told _ d = d

abbrev content_told : Rest → Content → Content
content_told (Stores c x rest) d = x
content_told _ d = d

abbrev kind_told : Rest → RestartKind → RestartKind
kind_told (Installs k) d = k
kind_told _ d = d

-- the cell of a location, as the machine and the frames write it
pub cell_is : (home : Home) (l : Where) → cell_of home l ≡ cell_in home.frame home.block l
cell_is home (Own (Slot j)) = ap BlockWord (omega arith)
cell_is home (Own Value) = refl
cell_is home (New o) = refl
cell_is home (Shared x) = refl

module _ (s : Shape) (code : CodeParts) (fair : IsFair code) (m : Cell → ℕ) (p f y : ℕ) where
  abbrev k : ℕ
  k = number_at s code m f y

  abbrev n : ℕ
  n = slots_at code k

  abbrev a : ℕ
  a = asked_of code k

  abbrev r : ℕ
  r = m (RoomCounter p)

  abbrev home : Home
  home = home_at s code m p f y

  abbrev mem : Memory Where
  mem = now s code m p f y

  abbrev all : Capsule Where End
  all = all_of s code m p f y

  abbrev table : Table FrameWord ℕ Point End Result
  table = long_table code s.arrays home

  abbrev Come : Rest → Type 0
  Come rest = HasCome s code m p f y rest

  pub again : (o : Memory Where) → MayBeginAgain code_locations table (at_capsule k) o
  again o = begin_again code s.arrays (λ point. home) (at_capsule k) o (capsules_may_begin_again code s.arrays (at_capsule k) o (fair.free k))

  pub fits : (left : Capsule Where End) → Stands code_locations all left mem → FitsAll code (procedure_at code k) (instrs_of code k) left
  fits left stands = subst (λ (g : Progress Where End). FitsAll code (procedure_at code k) (instrs_of code k) g.rest) stands.1
      (fits_steps code fair.code_is (procedure_at code k) (instrs_of code k) stands.0 (at all mem)
      (long_fits code fair.code_is home (procedure_at code k) (instrs_of code k) _ (capsule_fits code fair.code_is s.arrays k)))

  -- one more word step that changes no words
  more : (left next : Capsule Where End) → Stands code_locations all left mem → one code_locations (at left mem) ≡ at next mem → Stands code_locations all next mem
  more left next stands e = (suc stands.0, steps_more code_locations stands.0 (at all mem) ∙ ap (one code_locations) stands.1 ∙ e)

  -- by a load
  abbrev After : Cell → (ℕ → Rest) → Type 0
  After cell next = Come (next (m cell))

  asked_so : (w : ℕ) (left : Capsule Where End) (after : Rest) → pool_at s p ≤ r → w ≡ a → IsOf s code p home left after → Stands code_locations all left mem
      → Come (asks (pool_at s p) s.room r w after)
  asked_so w left after low w_is of stands = subst Come (sym (if_false (nat_lt r (pool_at s p)) _ _ (le-ltb r (pool_at s p) low))) (by (nat_le (r + w) (pool_at s p + s.room)) refl)
    where
      by : (b : Bool) → nat_le (r + w) (pool_at s p + s.room) ≡ b → Come (if b then after else Full)
      by true e = inl (record { left = left; is_of = of; stands = stands; roomy = roomy_of s code m p f y left (let le = leb-true (r + w) (pool_at s p + s.room) e in omega (arith, le, w_is)) })
      by false e = inr (inr refl)

  loaded : (cell : Cell) (next : ℕ → Rest) (left : Capsule Where End) → pool_at s p ≤ r → IsOf s code p home left (Loads cell next) → Stands code_locations all left mem
      → IsRoomy s code m p f y left → After cell next
  loaded cell next (Reads l go) low of stands room =
      let c_is : cell ≡ cell_of home l = ap (λ (z : Rest). cell_told z cell) of.1 in
      let n_is : next ≡ of.0 = ap (λ (z : Rest). next_told z next) of.1 in
      let sees : mem l ≡ m (cell_of home l) = seen_in m f n r a l (fits (Reads l go) stands).0 ∙ ap m (sym (cell_is home l)) in
      subst₂ (λ (c : Cell) (g : ℕ → Rest). Come (g (m c))) (sym c_is) (sym n_is)
      (subst (λ (v : ℕ). Come (of.0 v)) sees
      (inl (record { left = go (mem l); is_of = of.2 (mem l); stands = more (Reads l go) (go (mem l)) stands refl; roomy = roomy_of s code m p f y (go (mem l)) room })))
  loaded cell next (Asks w go) low of stands room =
      let c_is : cell ≡ RoomCounter p = ap (λ (z : Rest). cell_told z cell) of.2 in
      let n_is : next ≡ of.0 = ap (λ (z : Rest). next_told z next) of.2 in
      subst₂ (λ (c : Cell) (g : ℕ → Rest). Come (g (m c))) (sym c_is) (sym n_is)
      (subst Come (sym of.3) (asked_so w go of.1 low (fits (Asks w go) stands).0 of.4 (more (Asks w go) go stands refl)))
  loaded cell next (Writes l v go) low of stands room = absurd (let e = ap kind_of_rest of.2 in omega (arith, e))
  loaded cell next (Ends e) low of stands room = absurd (ends_load e of)
    where
      ends_load : (e : End) → Loads cell next ≡ last_of s code home e → ⊥
      ends_load (Next c) q = let z = ap kind_of_rest q in omega (arith, z)
      ends_load Finish q = let z = ap kind_of_rest q in omega (arith, z)
      ends_load (Trap trap line) q = let z = ap kind_of_rest q in omega (arith, z)
      ends_load (Call g c to) q = let z = ap kind_of_rest q in omega (arith, z)
      ends_load (Fork b d c lt rt) q = let z = ap kind_of_rest q in omega (arith, z)

  pub by_loads : (cell : Cell) (next : ℕ → Rest) → Come (Loads cell next) → pool_at s p ≤ r → After cell next
  by_loads cell next (inl u) low = loaded cell next u.left low u.is_of u.stands u.roomy
  by_loads cell next (inr (inl d)) low = absurd (let z = ap kind_of_rest d.is in omega (arith, z))
  by_loads cell next (inr (inr e)) low = absurd (let z = ap kind_of_rest e in omega (arith, z))

  -- the code with the stores of ends is the same
  pub code_is : code_of code_locations table ≡ strands s code
  code_is = end_stores_are_unseen_are_the_same code_locations (table_of code s.arrays) (tails_of code (λ point. home)) (unseen code s.arrays (λ point. home))

  -- a store into the own words that the tree does not show, or into the block's link
  same_step : (m' : Cell → ℕ) → frame_of s code m' f (slots_at code (number_at s code m' f y)) y ≡ frame_of s code m f n y → arrays_at m' ≡ arrays_at m → IsStep s code m m' f y
  same_step m' same arrays = subst₂ (λ (g : Frame FrameWord Point) (b : Words). Step (strands s code) none (Strand (frame_of s code m f n y)) (arrays_at m) (Strand g) b) (sym same) (sym arrays)
      (ahead.Store (frame_of s code m f n y) (frame_of s code m f n y) (arrays_at m) (arrays_at m)
      (record { next = refl; after = λ x. refl; asks = refl; touches = λ x h. h; writes = λ x h. h; changes = λ x out. refl }))

  module _ (low : y < 2) (free : LiesApart s code m p f y) where
    -- a store of the closed capsule
    module _ (l : Where) (v : ℕ) (go : Capsule Where End) (stands : Stands code_locations all (Writes l v go) mem) (room : HasRoom s code m p f y) where
      may : IsIn n a l
      may = (fits (Writes l v go) stands).0

      apart : AreApart f n r a
      apart j o lt below = free j o lt (omega (arith, below, room))

      abbrev after : Cell → ℕ
      after = store m (cell_in f r l) v

      header_stays : after (header_word f y) ≡ k
      header_stays = write_else m (cell_in f r l) v (header_word f y) (by l may)
        where
          by : (l : Where) → IsIn n a l → header_word f y ≢ cell_in f r l
          by (Own (Slot j)) h e = let z = ap address e in omega (arith, z, low)
          by (Own Value) h e = let z = ap address e in omega (arith, z, low)
          by (New o) h e = apart (2 + y) o (omega (arith, low)) h (let z = ap address e in omega (arith, z))
          by (Shared x) h e = cc

      outcome_stays : after (outcome_word f) ≡ m (outcome_word f)
      outcome_stays = write_else m (cell_in f r l) v (outcome_word f) (by l may)
        where
          by : (l : Where) → IsIn n a l → outcome_word f ≢ cell_in f r l
          by (Own (Slot j)) h e = let z = ap address e in omega (arith, z)
          by (Own Value) h e = let z = ap address e in omega (arith, z)
          by (New o) h e = apart 1 o (omega arith) h (let z = ap address e in omega (arith, z))
          by (Shared x) h e = cc

      room_stays : after (RoomCounter p) ≡ r
      room_stays = write_else m (cell_in f r l) v (RoomCounter p) (by l)
        where
          by : (l : Where) → RoomCounter p ≢ cell_in f r l
          by (Own (Slot j)) e = cc
          by (Own Value) e = cc
          by (New o) e = cc
          by (Shared x) e = cc

      now_after : now s code after p f y ≡ capsule.store code_locations mem l v
      now_after = ap₂ (λ (c x : ℕ). seen after f (slots_at code c) x (asked_of code c)) header_stays room_stays ∙ seen_after f n r a apart m l v may

      all_after : all_of s code after p f y ≡ all
      all_after = ap₂ (λ (c x : ℕ). closed s code (record { frame = f; copy = y; block = x }) c) header_stays room_stays

      same : DoesTheSame code_locations all mem (capsule.store code_locations mem l v)
      same = store_does_the_same code_locations all l v go mem (again mem).free stands

      come_after : (next : Rest) → IsOf s code p home go next → HasCome s code after p f y next
      come_after next of = inl (record {
        left = go;
        is_of = subst (λ (x : ℕ). IsOf s code p (record { frame = f; copy = y; block = x }) go next) (sym room_stays) of;
        stands = subst₂ (λ (c : Capsule Where End) (g : Memory Where). Stands code_locations c go g) (sym all_after) (sym now_after)
            (store_stands code_locations all l v go mem (again mem).free stands);
        roomy = roomy_of s code after p f y go (subst₂ (λ (c x : ℕ). x + asked_of code c ≤ limit s code p) (sym header_stays) (sym room_stays) room);
      })

      frame_then : frame_of s code after f (slots_at code (number_at s code after f y)) y ≡ strand.frame_of (at_capsule k) (capsule.store code_locations mem l v)
      frame_then = ap₂ (λ (c : ℕ) (g : Memory Where). strand.frame_of (at_capsule c) g) header_stays now_after

      step_after : IsStep s code m after f y
      step_after = subst₂ (λ (g : Frame FrameWord Point) (b : Words). Step (strands s code) none (Strand (frame_of s code m f n y)) (arrays_at m) (Strand g) b)
          (sym frame_then) (ap (λ (g : Memory Where). shared_of g) (sym now_after))
          (subst (λ (c : Code (Frame FrameWord Point) Result). Step c none (Strand (frame_of s code m f n y)) (arrays_at m)
          (Strand (strand.frame_of (at_capsule k) (capsule.store code_locations mem l v))) (shared_of (capsule.store code_locations mem l v))) code_is
          (stores_are_steps code_locations table (at_capsule k) l v go mem (again mem) stands))

      written_after : written code_locations (all_of s code after p f y) (now s code after p f y) ≡ written code_locations all mem
      written_after = ap₂ (λ (c : Capsule Where End) (g : Memory Where). written code_locations c g) all_after now_after ∙ same.writes

      ending_after : ending code_locations (all_of s code after p f y) (now s code after p f y) ≡ ending code_locations all mem
      ending_after = ap₂ (λ (c : Capsule Where End) (g : Memory Where). ending code_locations c g) all_after now_after ∙ same.ends

      stored_elsewhere : (o : ℕ) → r + o < limit s code p → (In (New o) (written code_locations all mem) → ⊥) → BlockWord (r + o) ≢ cell_in f r l
      stored_elsewhere o lt out e = by l refl may
        where
          by : (z : Where) → l ≡ z → IsIn n a z → ⊥
          by (Own (Slot j)) q h = free (6 + j) o (omega (arith, h)) lt (let z = ap address (e ∙ ap (cell_in f r) q) in omega (arith, z))
          by (Own Value) q h = free 4 o (omega arith) lt (let z = ap address (e ∙ ap (cell_in f r) q) in omega (arith, z))
          by (New i) q h = out (subst (λ (z : Where). In z (written code_locations all mem)) (q ∙ ap (λ (x : ℕ). New x) (let z = ap address (e ∙ ap (cell_in f r) q) in omega (arith, z)))
              (is_written code_locations all l v go mem (again mem).free stands))
          by (Shared x) q h = let z = e ∙ ap (cell_in f r) q in cc

      clean_after : IsClean s code m p f y → IsClean s code after p f y
      clean_after clean = record {
        block = λ o lt out.
            let lt' : r + o < limit s code p = subst (λ (x : ℕ). x + o < limit s code p) room_stays lt in
            let out' = λ (h : In (New o) (written code_locations all mem)). out (subst (λ (ls : List Where). In (New o) ls) (sym written_after) h) in
            ap (λ (x : ℕ). after (BlockWord (x + o))) room_stays ∙ write_else m (cell_in f r l) v (BlockWord (r + o)) (stored_elsewhere o lt' out') ∙ clean.block o lt' out';
        outcome = elim clean.outcome [
          | inl e ↦ inl (outcome_stays ∙ e)
          | inr e ↦ inr (outcome_stays ∙ e ∙ ap outcome_by (sym ending_after))
        ];
      }

      spot_of : (z : Where) → l ≡ z → IsIn n a z → MayStore s code m p f y (cell_in f r z)
      spot_of (Own (Slot j)) q h = inl (slot_at j, refl, omega (arith, h), omega arith, λ e. omega (arith, e), λ e. omega (arith, e, low))
      spot_of (Own Value) q h = inl (value_at, refl, omega arith, omega arith, λ e. omega (arith, e), λ e. omega (arith, e, low))
      spot_of (New o) q h = inr (inl (o, refl, omega (arith, h, room)))
      spot_of (Shared x) q h = inr (inr (
        x,
        refl,
        subst (λ (c : Code (Frame FrameWord Point) Result). Has x (c.writes (frame_of s code m f n y) (arrays_at m))) code_is
            (written_by code_locations table (at_capsule k) mem (again mem) x (subst (λ (z : Where). In z (written code_locations all mem)) q (is_written code_locations all l v go mem (again mem).free stands))),
      ))

      pub goes_on_by : (cell : Cell) (content : Content) (next : Rest) → cell ≡ cell_of home l → word_of content ≡ v → IsOf s code p home go next → GoesOn s code m p f y cell content next
      goes_on_by cell content next c_is v_is of =
          let words : after ≡ store m cell (word_of content) = ap₂ (λ (c : Cell) (w : ℕ). store m c w) (sym (cell_is home l) ∙ sym c_is) (sym v_is) in
          record {
            spot = subst (MayStore s code m p f y) (sym (c_is ∙ cell_is home l)) (spot_of l refl may);
            come = subst (λ (w : Cell → ℕ). HasCome s code w p f y next) words (come_after next of);
            step = subst (λ (w : Cell → ℕ). IsStep s code m w f y) words step_after;
            clean = subst (λ (w : Cell → ℕ). IsClean s code m p f y → IsClean s code w p f y) words clean_after;
          }

    -- the store of an end into the own words: the header that is not in use, or the outcome
    module _ (e : End) (x w j : ℕ) (at_is : x ≡ f + j) (least : 1 ≤ j) (most : j < 4) (other : j ≢ 2 + y) (stands : Stands code_locations all (Ends e) mem) (room : HasRoom s code m p f y) where
      abbrev behind : Cell → ℕ
      behind = store m (BlockWord x) w

      header_kept : behind (header_word f y) ≡ k
      header_kept = write_else m (BlockWord x) w (header_word f y) (λ q. let z = ap address q in other (omega (arith, z, at_is)))

      room_kept : behind (RoomCounter p) ≡ r
      room_kept = write_else m (BlockWord x) w (RoomCounter p) (λ q. cc)

      seen_kept : (l : Where) → seen behind f n r a l ≡ mem l
      seen_kept (Own (Slot i)) = choice i n _ _ (λ lt. write_else m (BlockWord x) w (BlockWord (f + slot_at i)) (λ q. let z = ap address q in omega (arith, z, at_is, most)))
      seen_kept (Own Value) = write_else m (BlockWord x) w (BlockWord (f + value_at)) (λ q. let z = ap address q in omega (arith, z, at_is, most))
      seen_kept (New o) = choice o a _ _ (λ lt. write_else m (BlockWord x) w (BlockWord (r + o)) (λ q. let z = ap address q in free j o (omega (arith, most)) (omega (arith, lt, room)) (omega (arith, z, at_is))))
      seen_kept (Shared i) = write_else m (BlockWord x) w (ArrayWord i) (λ q. cc)

      now_kept : now s code behind p f y ≡ mem
      now_kept = ap₂ (λ (c z : ℕ). seen behind f (slots_at code c) z (asked_of code c)) header_kept room_kept ∙ fun_ext seen_kept

      all_kept : all_of s code behind p f y ≡ all
      all_kept = ap₂ (λ (c z : ℕ). closed s code (record { frame = f; copy = y; block = z }) c) header_kept room_kept

      done : (next : Rest) → next ≡ Installs (installed home e) → AllStand behind (own_stores code home e) → HasCome s code behind p f y next
      done next is own = inr (inl (record {
        end = e;
        is = is ∙ ap (λ (z : ℕ). Installs (installed (record { frame = f; copy = y; block = z }) e)) (sym room_kept);
        stands = subst₂ (λ (c : Capsule Where End) (g : Memory Where). Stands code_locations c (Ends e) g) (sym all_kept) (sym now_kept) stands;
        room = subst₂ (λ (c z : ℕ). z + asked_of code c ≤ limit s code p) (sym header_kept) (sym room_kept) room;
        own = subst (λ (z : ℕ). AllStand behind (own_stores code (record { frame = f; copy = y; block = z }) e)) (sym room_kept) own;
      }))

      ends_so : ending code_locations all mem ≡ e
      ends_so = ap (λ (z : Whole Where End). z.end) (at_end code_locations all e mem stands)

      clean_kept : behind (outcome_word f) ≡ outcome_by e ⊎ (j ≢ 1) → IsClean s code m p f y → IsClean s code behind p f y
      clean_kept outcome clean = record {
        block = λ o lt out.
            let lt' : r + o < limit s code p = subst (λ (z : ℕ). z + o < limit s code p) room_kept lt in
            let out' = λ (h : In (New o) (written code_locations all mem)). out (subst₂ (λ (c : Capsule Where End) (g : Memory Where). In (New o) (written code_locations c g)) (sym all_kept) (sym now_kept) h) in
            ap (λ (z : ℕ). behind (BlockWord (z + o))) room_kept
            ∙ write_else m (BlockWord x) w (BlockWord (r + o)) (λ q. let z = ap address q in free j o (omega (arith, most)) lt' (omega (arith, z, at_is))) ∙ clean.block o lt' out';
        outcome = elim outcome [
          | inl is ↦ inr (is ∙ ap outcome_by (sym ends_so ∙ ap₂ (λ (c : Capsule Where End) (g : Memory Where). ending code_locations c g) (sym all_kept) (sym now_kept)))
          | inr ne ↦ let stays = write_else m (BlockWord x) w (outcome_word f) (λ q. let z = ap address q in ne (omega (arith, z, at_is))) in elim clean.outcome [
            | inl is ↦ inl (stays ∙ is)
            | inr is ↦ inr (stays ∙ is ∙ ap₂ (λ (c : Capsule Where End) (g : Memory Where). outcome_by (ending code_locations c g)) (sym all_kept) (sym now_kept))
          ]
        ];
      }

      pub goes_on_behind : (cell : Cell) (content : Content) (next : Rest) → cell ≡ BlockWord x → word_of content ≡ w → next ≡ Installs (installed home e)
          → AllStand behind (own_stores code home e) → behind (outcome_word f) ≡ outcome_by e ⊎ (j ≢ 1) → GoesOn s code m p f y cell content next
      goes_on_behind cell content next c_is w_is n_is own outcome =
          let words : behind ≡ store m cell (word_of content) = ap₂ (λ (c : Cell) (w : ℕ). store m c w) (sym c_is) (sym w_is) in
          record {
            spot = inl (j, c_is ∙ ap BlockWord at_is, omega (arith, most), least, λ e. omega (arith, e, most), other);
            come = subst (λ (w : Cell → ℕ). HasCome s code w p f y next) words (done next n_is own);
            step = subst (λ (w : Cell → ℕ). IsStep s code m w f y) words (same_step behind
                (ap₂ (λ (c : ℕ) (g : Memory Where). strand.frame_of (at_capsule c) g) header_kept now_kept) (ap (λ (g : Memory Where). shared_of g) now_kept));
            clean = subst (λ (w : Cell → ℕ). IsClean s code m p f y → IsClean s code w p f y) words (clean_kept outcome);
          }

    other_is : (2 + other_copy y < 4) × (2 + other_copy y ≢ 2 + y)
    other_is = (omega (arith, low), λ e. omega (arith, e, low))

    header_goes : (e : End) (number : ℕ) (cell : Cell) (content : Content) (next : Rest) → Stores cell content next ≡ Stores (header_word f (other_copy y)) (ANumber number) (Installs (installed home e))
        → own_stores code home e ≡ goes_on home number ∷ [] → Stands code_locations all (Ends e) mem → HasRoom s code m p f y → GoesOn s code m p f y cell content next
    header_goes e number cell content next is own stands room =
        goes_on_behind e (f + 2 + other_copy y) number (2 + other_copy y) (omega arith) (omega arith) other_is.0 other_is.1 stands room cell content next
        (ap (λ (z : Rest). cell_told z cell) is) (ap (λ (z : Rest). word_of (content_told z content)) is) (ap (λ (z : Rest). rest_told z next) is)
        (subst (AllStand (store m (header_word f (other_copy y)) number)) (sym own) (write_here m (header_word f (other_copy y)) number, tt))
        (inr (λ q. omega (arith, q)))

    stored : (cell : Cell) (content : Content) (next : Rest) (left : Capsule Where End) → IsOf s code p home left (Stores cell content next) → Stands code_locations all left mem
        → IsRoomy s code m p f y left → GoesOn s code m p f y cell content next
    stored cell content next (Writes l v go) of stands room =
        goes_on_by l v go stands room cell content next (ap (λ (z : Rest). cell_told z cell) of.2)
        (ap (λ (z : Rest). word_of (content_told z content)) of.2 ∙ of.3)
        (subst (IsOf s code p home go) (sym (ap (λ (z : Rest). rest_told z next) of.2)) of.4)
    stored cell content next (Reads l go) of stands room = absurd (let z = ap kind_of_rest of.1 in omega (arith, z))
    stored cell content next (Asks w go) of stands room = absurd (let z = ap kind_of_rest of.2 in omega (arith, z))
    stored cell content next (Ends (Next c)) of stands room = header_goes (Next c) c cell content next of refl stands room
    stored cell content next (Ends Finish) of stands room = absurd (let z = ap kind_of_rest of in omega (arith, z))
    stored cell content next (Ends (Trap trap line)) of stands room =
        goes_on_behind (Trap trap line) (f + 1) (finish_word (Trapped trap line)) 1 refl (omega arith) (omega arith) (λ e. omega (arith, e)) stands room cell content next
        (ap (λ (z : Rest). cell_told z cell) of) (ap (λ (z : Rest). word_of (content_told z content)) of) (ap (λ (z : Rest). rest_told z next) of)
        (write_here m (outcome_word f) (finish_word (Trapped trap line)), tt) (inl (write_here m (outcome_word f) (finish_word (Trapped trap line))))
    stored cell content next (Ends (Call q c to)) of stands room = header_goes (Call q c to) c cell content next of refl stands room
    stored cell content next (Ends (Fork b d c lt rt)) of stands room = header_goes (Fork b d c lt rt) c cell content next of refl stands room

    pub by_stores : (cell : Cell) (content : Content) (next : Rest) → Come (Stores cell content next) → GoesOn s code m p f y cell content next
    by_stores cell content next (inl u) = stored cell content next u.left u.is_of u.stands u.roomy
    by_stores cell content next (inr (inl d)) = absurd (let z = ap kind_of_rest d.is in omega (arith, z))
    by_stores cell content next (inr (inr e)) = absurd (let z = ap kind_of_rest e in omega (arith, z))

  -- by an install
  module _ (clean : IsClean s code m p f y) where
    clean_block : HasRoom s code m p f y → strand.IsClean code_locations table (at_capsule k) mem
    clean_block room o out = by (nat_lt o a) refl
      where
        by : (b : Bool) → nat_lt o a ≡ b → (if b then m (BlockWord (r + o)) else 0) ≡ 0
        by true e = clean.block o (let lt = ltb-true o a e in omega (arith, lt, room)) out
        by false e = refl

    opens_by : (e : End) (kind : RestartKind) → kind ≡ installed home e → Stands code_locations all (Ends e) mem → HasRoom s code m p f y → AllStand m (own_stores code home e) → Opens s code m p f y kind
    opens_by e kind is stands room own = record {
      end = e;
      kind_is = is;
      stands = stands;
      room = room;
      own = own;
      step = subst (λ (c : Code (Frame FrameWord Point) Result). Step c (of_capsule c (frame_of s code m f n y) (arrays_at m)) (Strand (frame_of s code m f n y)) (arrays_at m)
          (opens code e (own_at m f n) (λ o. mem (New o))) (arrays_at m)) code_is
          (ends_are_steps code_locations table (at_capsule k) e mem (again mem) (clean_block room) stands);
    }

    installed_by : (kind : RestartKind) (left : Capsule Where End) → IsOf s code p home left (Installs kind) → Stands code_locations all left mem → IsRoomy s code m p f y left → Opens s code m p f y kind
    installed_by kind (Reads l go) of stands room = absurd (let z = ap kind_of_rest of.1 in omega (arith, z))
    installed_by kind (Writes l v go) of stands room = absurd (let z = ap kind_of_rest of.2 in omega (arith, z))
    installed_by kind (Asks w go) of stands room = absurd (let z = ap kind_of_rest of.2 in omega (arith, z))
    installed_by kind (Ends Finish) of stands room = opens_by Finish kind (ap (λ (z : Rest). kind_told z kind) of) stands room tt
    installed_by kind (Ends (Next c)) of stands room = absurd (let z = ap kind_of_rest of in omega (arith, z))
    installed_by kind (Ends (Trap trap line)) of stands room = absurd (let z = ap kind_of_rest of in omega (arith, z))
    installed_by kind (Ends (Call q c to)) of stands room = absurd (let z = ap kind_of_rest of in omega (arith, z))
    installed_by kind (Ends (Fork b d c lt rt)) of stands room = absurd (let z = ap kind_of_rest of in omega (arith, z))

    pub by_installs : (kind : RestartKind) → Come (Installs kind) → Opens s code m p f y kind
    by_installs kind (inl u) = installed_by kind u.left u.is_of u.stands u.roomy
    by_installs kind (inr (inl d)) = opens_by d.end kind (ap (λ (z : Rest). kind_told z kind) d.is) d.stands d.room d.own
    by_installs kind (inr (inr e)) = absurd (let z = ap kind_of_rest e in omega (arith, z))

pub frames_run : FramesRun
frames_run s code fair = record {
  begins = λ m p f y low. inl (begins s code m p f y fair.code_is low);
  loads = λ m p f y cell next come low. by_loads s code fair m p f y cell next come low;
  stores = λ m p f y cell content next low free come. by_stores s code fair m p f y low free cell content next come;
  opens = λ m p f y kind come clean. by_installs s code fair m p f y clean kind come;
}
