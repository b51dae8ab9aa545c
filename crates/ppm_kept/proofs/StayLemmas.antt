-- A capsule under way, and the clean words of a place that runs, stay as they are in words that are
-- the same wherever its frame, its block and its strand reach.
use Rattle.std.proofs.Common.{◌≡◌, ◌⊎◌, ◌≤◌, ◌<◌, ℕ, zero, ◌+◌, List, [], inl, inr, refl, sym, ap, ap₂, ◌∙◌, subst, subst₂, arith}
use Rattle.ppm_strands.specs.Tree.{Code, Has}
use Rattle.ppm_strands.specs.Calm.{touches}
use Rattle.ppm_cells.specs.declared.cell.Cell.{Cell}
use Rattle.ppm_cells.specs.declared.cell.Cell.TheVariants.{RoomCounter, BlockWord, ArrayWord}
use Rattle.ppm_cells.specs.declared.shape.Shape.{Shape}
use Rattle.ppm_strands.specs.Capsule.{Capsule, Reads, Writes, Asks, Ends, Memory, In, ending, written, exposed}
use Rattle.ppm_strands.specs.Stopped.{Stands}
use Rattle.ppm_strands.specs.Strand.{Own, New, Shared, Frame, Table}
use Rattle.ppm_strands.proofs.AlikeLemmas.{AlikePast, alike}
use Rattle.ppm_strands.proofs.KeepLemmas.{touched_by}
use Rattle.ppm_strands.proofs.StandsLemmas.{elsewhere}
use Rattle.ppm_code.specs.Locations.{Where, code_locations}
use Rattle.ppm_code.specs.Strands.{Point, Result, at_capsule, instrs_of}
use Rattle.ppm_code.specs.declared.act.End.{End}
use Rattle.ppm_code.specs.declared.act.End.TheVariants.{Next, Finish, Trap, Call, Fork}
use Rattle.ppm_code.specs.declared.code.CodeParts.{CodeParts}
use Rattle.ppm_code.specs.declared.location.FrameWord.{FrameWord}
use Rattle.ppm_code.specs.Sizes.{slots_at}
use Rattle.ppm_step.specs.Frames.{Rest, Installs, other_copy, installed}
use Rattle.ppm_step.specs.Points.{header_word}
use Rattle.ppm_step.specs.declared.frame.Home.{Home}
use Rattle.ppm_ends.specs.Beside.{long_table}
use Rattle.ppm_ends.specs.Ends.{block_stores, located, own_stores}
use Rattle.ppm_frames.specs.Seen.{arrays_at, seen}
use Rattle.ppm_frames.proofs.SeenLemmas.{choice}
use Rattle.ppm_frames.proofs.SkeletonLemmas.{SameFrame, own_same}
use Rattle.ppm_kept.specs.Running.{asked_of, AllStand, outcome_by, IsFair, IsOf, home_at, number_at, closed, now, all_of, limit, HasRoom, IsRoomy, IsUnder, HasCome, IsClean, frame_of, strands}
use Rattle.ppm_kept.proofs.BlockLemmas.{header_is}
use Rattle.ppm_kept.proofs.OfLemmas.{roomy_of, simple_at}
use Rattle.ppm_kept.proofs.RunLemmas.{again, code_is}
use Rattle.ppm_kept.proofs.SilentLemmas.{asks_first}

module _ (s : Shape) (code : CodeParts) (fair : IsFair code) (m n : Cell → ℕ) (p f y : ℕ) (low : y < 2) where
  abbrev k : ℕ
  k = number_at s code m f y

  abbrev l : ℕ
  l = slots_at code k

  abbrev a : ℕ
  a = asked_of code k

  abbrev r : ℕ
  r = m (RoomCounter p)

  abbrev home : Home
  home = home_at s code m p f y

  abbrev mem : Memory Where
  mem = now s code m p f y

  abbrev all : Capsule Where End
  all = all_of s code m p f y

  abbrev table : Table FrameWord ℕ Point End Result
  table = long_table code s.arrays home

  module _ (frame : SameFrame m n f l) (room : n (RoomCounter p) ≡ r) (free : (o : ℕ) → r + o < limit s code p → n (BlockWord (r + o)) ≡ m (BlockWord (r + o)))
      (element : (x : ℕ) → Has x (touches (strands s code) (frame_of s code m f l y) (arrays_at m)) → n (ArrayWord x) ≡ m (ArrayWord x)) where
    number_is : n (header_word f y) ≡ k
    number_is = subst (λ (c : Cell). n c ≡ m c) (sym (header_is f y low)) (frame.header y)

    other_low : other_copy y < 2
    other_low = omega arith

    other_is : n (header_word f (other_copy y)) ≡ m (header_word f (other_copy y))
    other_is = subst (λ (c : Cell). n c ≡ m c) (sym (header_is f (other_copy y) other_low)) (frame.header (other_copy y))

    abbrev then_ : Memory Where
    then_ = seen n f l r a

    now_is : now s code n p f y ≡ then_
    now_is = ap₂ (λ (c x : ℕ). seen n f (slots_at code c) x (asked_of code c)) number_is room

    all_is : all_of s code n p f y ≡ all
    all_is = ap₂ (λ (c x : ℕ). closed s code (record { frame = f; copy = y; block = x }) c) number_is room

    home_is : home_at s code n p f y ≡ home
    home_is = ap (λ (x : ℕ). record { frame = f; copy = y; block = x }) room

    touched : (x : ℕ) → In (Shared x) (exposed code_locations all mem) ⊎ In (Shared x) (written code_locations all mem) → then_ (Shared x) ≡ mem (Shared x)
    touched x h = element x (subst (λ (c : Code (Frame FrameWord Point) Result). Has x (touches c (frame_of s code m f l y) (arrays_at m))) (code_is s code fair m p f y)
        (touched_by code_locations table (at_capsule k) mem (again s code fair m p f y mem) x h))

    own_word : (w : FrameWord) → then_ (Own w) ≡ mem (Own w)
    own_word w = ap (λ (g : FrameWord → ℕ). g w) (own_same m n f l frame)

    read_same : (x : Where) → In x (exposed code_locations all mem) → then_ x ≡ mem x
    read_same (Own w) h = own_word w
    read_same (New o) h = absurd ((again s code fair m p f y mem).unread o h)
    read_same (Shared x) h = touched x (inl h)

    both_same : HasRoom s code m p f y → (x : Where) → In x (exposed code_locations all mem) ⊎ In x (written code_locations all mem) → then_ x ≡ mem x
    both_same fit x (inl h) = read_same x h
    both_same fit (Own w) (inr h) = own_word w
    both_same fit (New o) (inr h) = choice o a _ _ (λ lt. free o (omega (arith, lt, fit)))
    both_same fit (Shared x) (inr h) = touched x (inr h)

    same_run : AlikePast code_locations [] all mem then_
    same_run = alike code_locations all mem then_ read_same

    written_is : written code_locations (all_of s code n p f y) (now s code n p f y) ≡ written code_locations all mem
    written_is = ap₂ (λ (c : Capsule Where End) (g : Memory Where). written code_locations c g) all_is now_is ∙ same_run.writes

    ending_is : ending code_locations (all_of s code n p f y) (now s code n p f y) ≡ ending code_locations all mem
    ending_is = ap₂ (λ (c : Capsule Where End) (g : Memory Where). ending code_locations c g) all_is now_is ∙ same_run.ends

    pub clean_stays : IsClean s code m p f y → IsClean s code n p f y
    clean_stays clean = record {
      block = λ o lt out.
          let lt' = subst (λ (b : ℕ). b + o < limit s code p) room lt in
          ap (λ (b : ℕ). n (BlockWord (b + o))) room ∙ free o lt' ∙ clean.block o lt' (λ h. out (subst (λ (ls : List Where). In (New o) ls) (sym written_is) h));
      outcome = elim clean.outcome [ inl e ↦ inl (frame.outcome ∙ e) | inr e ↦ inr (frame.outcome ∙ e ∙ ap outcome_by (sym ending_is)) ];
    }

    stands_stay : HasRoom s code m p f y → (left : Capsule Where End) → Stands code_locations all left mem → Stands code_locations (all_of s code n p f y) left (now s code n p f y)
    stands_stay fit left h = subst₂ (λ (c : Capsule Where End) (g : Memory Where). Stands code_locations c left g) (sym all_is) (sym now_is)
        (elsewhere code_locations all left mem then_ (both_same fit) h)

    room_stays : HasRoom s code m p f y → HasRoom s code n p f y
    room_stays h = subst₂ (λ (b c : ℕ). b + asked_of code c ≤ limit s code p) (sym room) (sym number_is) h

    own_stay : (e : End) → AllStand m (own_stores code home e) → AllStand n (own_stores code home e)
    own_stay (Next c) h = (other_is ∙ h.0, tt)
    own_stay Finish h = tt
    own_stay (Trap trap line) h = (frame.outcome ∙ h.0, tt)
    own_stay (Call q c to) h = (other_is ∙ h.0, tt)
    own_stay (Fork b d c lt rt) h = (other_is ∙ h.0, tt)

    is_of_stays : (left : Capsule Where End) (rest : Rest) → IsOf s code p home left rest → IsOf s code p (home_at s code n p f y) left rest
    is_of_stays left rest of = subst (λ (h : Home). IsOf s code p h left rest) (sym home_is) of

    with_room : (left : Capsule Where End) (rest : Rest) → HasRoom s code m p f y → IsOf s code p home left rest → Stands code_locations all left mem → IsUnder s code n p f y rest
    with_room left rest fit of stands = record {
      left = left;
      is_of = is_of_stays left rest of;
      stands = stands_stay fit left stands;
      roomy = roomy_of s code n p f y left (room_stays fit);
    }

    under : (left : Capsule Where End) (rest : Rest) → IsOf s code p home left rest → Stands code_locations all left mem → IsRoomy s code m p f y left → IsUnder s code n p f y rest
    under (Reads x go) rest of stands roomy = with_room (Reads x go) rest roomy of stands
    under (Writes x v go) rest of stands roomy = with_room (Writes x v go) rest roomy of stands
    under (Ends e) rest of stands roomy = with_room (Ends e) rest roomy of stands
    under (Asks w go) rest of stands roomy = record {
      left = Asks w go;
      is_of = is_of_stays (Asks w go) rest of;
      stands = subst (λ (c : Capsule Where End). Stands code_locations (all_of s code n p f y) c (now s code n p f y))
          (all_is ∙ asks_first (λ e. located (block_stores code home e)) (instrs_of code k) _ (simple_at code s.arrays k fair.code_is) w go mem stands) (zero, refl);
      roomy = tt;
    }

    pub come_stays : (rest : Rest) → HasCome s code m p f y rest → HasCome s code n p f y rest
    come_stays rest (inl u) = inl (under u.left rest u.is_of u.stands u.roomy)
    come_stays rest (inr (inl d)) = inr (inl (record {
      end = d.end;
      is = d.is ∙ ap (λ (h : Home). Installs (installed h d.end)) (sym home_is);
      stands = stands_stay d.room (Ends d.end) d.stands;
      room = room_stays d.room;
      own = subst (λ (h : Home). AllStand n (own_stores code h d.end)) (sym home_is) (own_stay d.end d.own);
    }))
    come_stays rest (inr (inr e)) = inr (inr e)
