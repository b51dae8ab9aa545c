-- Words of the frame that are left out.
use Rattle.std.proofs.Common.{◌≡◌, ◌<◌, ◌≤◌, ℕ, ◌+◌, List, length, Option, Some, None, MatchOption, refl, sym, subst, arith}
use Rattle.ppm_code.specs.declared.class.Class.{Class}
use Rattle.ppm_code.specs.declared.class.May.{May}
use Rattle.ppm_code.specs.declared.class.May.TheVariants.{Write}
use Rattle.ppm_code.specs.declared.instr.Instr.{Instr}
use Rattle.ppm_code.specs.Paths.{Any, Does, Exposes, Path}
use Rattle.ppm_filled.specs.Filled.{IsFind, IsLeftOut, IsOfFrame}
use Rattle.ppm_war.specs.Search.{IsFirst}
use Rattle.ppm_war.proofs.DecodedLemmas.{does_below}
use Rattle.ppm_war.proofs.MarkLemmas.{path_forward, same_what}
use Rattle.ppm_gaps.specs.declared.left_out.LeftOut.{LeftOut}
use Rattle.ppm_gaps.specs.Gaps.{HasNoLeftOut, IsFirstLeftOut}
use Rattle.ppm_gaps.specs.LeftOut.{HasLeftOut, HasLeftOutOf, IsFirstOfFind, IsFirstOfWrite}
use Rattle.ppm_gaps.specs.Stops.{LeadsToStop, StaysWithin}
use Rattle.ppm_gaps.proofs.SearchLemmas.{behind_find, is_a_stop, one_class, stops_at}

module _ (is : List Instr) (find write : ℕ) where
  -- the store comes after the find
  pub not_before : write ≤ find → HasLeftOut is find write → ⊥
  not_before less (stop, c, gap) = omega (arith, less, path_forward is Any (find + 1) write gap.to_write)

  -- of a store of no word of the frame there is none
  pub no_frame : (m : May) → Does is write m → ((c : Class) → m ≡ Write c → IsOfFrame c → ⊥) → HasLeftOut is find write → ⊥
  no_frame m does none (stop, c, gap) = none c (same_what is Any write (Write c) m gap.writes does) gap.of_frame

  module _ (c : Class) (writes : Does is write (Write c)) where
    -- the class is that of the store
    of_class : (stop : ℕ) (d : Class) → IsLeftOut is find write stop d → IsLeftOut is find write stop c
    of_class stop d gap = subst (λ (k : Class). IsLeftOut is find write stop k) (one_class is write c d writes gap.writes) gap

    pub not_exposed : (Path is (Exposes c) 0 find → ⊥) → HasLeftOut is find write → ⊥
    not_exposed not (stop, d, gap) = not (of_class stop d gap).before

    pub not_led : (Path is Any (find + 1) write → ⊥) → HasLeftOut is find write → ⊥
    not_led not (stop, d, gap) = not gap.to_write

    -- a stop to which a path leads that leaves the class exposed
    stop_without : StaysWithin is → (stop : ℕ) → IsLeftOut is find write stop c → LeadsToStop is (Some c) None (find + 1) stop
    stop_without closed stop gap =
        let at = stops_at is stop (closed stop (behind_find is (Exposes c) find stop gap.finds gap.to_stop)) gap.stops in
        record { instr = at.instr; there = at.there; stops = at.stops; other = tt; path = gap.to_stop }

    -- none is there
    pub no_stop : StaysWithin is → IsFirst (LeadsToStop is (Some c) None (find + 1)) None → HasLeftOut is find write → ⊥
    no_stop closed first (stop, d, gap) = first.none refl stop (stop_without closed stop (of_class stop d gap))

    -- the first one
    pub first_of_write : StaysWithin is → IsOfFrame c → IsFind is find → Path is (Exposes c) 0 find → Path is Any (find + 1) write
        → (stop : ℕ) → IsFirst (LeadsToStop is (Some c) None (find + 1)) (Some stop)
        → IsFirstOfWrite is find write (record { find = find; write = write; stop = stop; class = c })
    first_of_write closed of_frame finds before to_write stop first =
        let leads = first.some stop refl in
        record {
          find_is = refl;
          write_is = refl;
          gap = record {
            of_frame = of_frame;
            finds = finds;
            before = before;
            to_write = to_write;
            writes = writes;
            to_stop = leads.path;
            stops = is_a_stop is stop leads.instr leads.there leads.stops;
          };
          least_stop = λ other d gap. first.least stop other refl (stop_without closed other (of_class other d gap));
        }

module _ (is : List Instr) where
  -- a store that is there, and a find
  pub write_below : (find write : ℕ) → HasLeftOut is find write → write < length is
  write_below find write (stop, c, gap) = does_below is write (Write c) gap.writes

  pub find_below : (find : ℕ) → HasLeftOutOf is find → find < length is
  find_below find (write, (stop, c, gap)) =
      omega (arith, path_forward is Any (find + 1) write gap.to_write, does_below is write (Write c) gap.writes)

  -- it is one of its find
  pub finds_of : (find : ℕ) → HasLeftOutOf is find → IsFind is find
  finds_of find (write, (stop, c, gap)) = gap.finds

  -- of no store there is none
  pub none_of : (find : ℕ) → ((k : ℕ) → HasLeftOut is find k → ⊥) → HasLeftOutOf is find → ⊥
  none_of find none (write, some) = none write some

  pub has : (find write : ℕ) (g : LeftOut) → IsFirstOfWrite is find write g → HasLeftOut is find write
  has find write g first = (
    g.stop,
    g.class,
    subst (λ (n : ℕ). IsLeftOut is find n g.stop g.class) first.write_is (subst (λ (n : ℕ). IsLeftOut is n g.write g.stop g.class) first.find_is first.gap),
  )

  pub has_of : (find : ℕ) (g : LeftOut) → IsFirstOfFind is find g → HasLeftOutOf is find
  has_of find g first = (g.write, (g.stop, g.class, subst (λ (n : ℕ). IsLeftOut is n g.write g.stop g.class) first.find_is first.gap))

  -- of the least store the first one is the first of the find
  pub first_of_find : (find write : ℕ) (o : Option LeftOut) → HasLeftOut is find write → ((k : ℕ) → HasLeftOut is find k → write ≤ k)
      → MatchOption o (HasLeftOut is find write → ⊥) (IsFirstOfWrite is find write) → MatchOption o (HasLeftOutOf is find → ⊥) (IsFirstOfFind is find)
  first_of_find find write None some least none = absurd (none some)
  first_of_find find write (Some g) some least first = record {
    find_is = first.find_is;
    gap = first.gap;
    least_write = λ w s c x. subst (λ (n : ℕ). n ≤ w) (sym first.write_is)
        (least w (s, c, subst (λ (n : ℕ). IsLeftOut is n w s c) first.find_is x));
    least_stop = first.least_stop;
  }

  -- and of the least find the first of all
  pub first_of_all : (find : ℕ) (o : Option LeftOut) → HasLeftOutOf is find → ((k : ℕ) → HasLeftOutOf is k → find ≤ k)
      → MatchOption o (HasLeftOutOf is find → ⊥) (IsFirstOfFind is find) → MatchOption o (HasNoLeftOut is) (IsFirstLeftOut is)
  first_of_all find None some least none = absurd (none some)
  first_of_all find (Some g) some least first = record {
    gap = first.gap;
    least_find = λ f w s c x. subst (λ (n : ℕ). n ≤ f) (sym first.find_is) (least f (w, (s, c, x)));
    least_write = first.least_write;
    least_stop = first.least_stop;
  }
