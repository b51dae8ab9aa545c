-- All procedures are laid out after one empty block.
use Rattle.std.proofs.Common.{◌≡◌, subst, sym, map, List}
use Rattle.ppm_tree.specs.declared.tree.Proc.{Proc}
use Rattle.ppm_tree.specs.Tree.{procedure_of}
use Rattle.ppm_serial.specs.Code.{Laid}
use Rattle.ppm_serial.specs.Laying.{IsLaid, LaysMore, place_in}
use Rattle.ppm_serial.proofs.ProgramLemmas.{lays_program}
use Rattle.ppm_serial.proofs.lay.lay.Goals as goal

pub returns : goal.returns
returns c =
    subst (λ (l : Laid). IsLaid (map procedure_of c.args.tree.now.procedures) l) (sym c.new-2.ensures)
    (lays_program (map procedure_of c.args.tree.now.procedures) c.in_ok-blocks.blocks c.lay_all.new.blocks c.new-routines.result.items c.lay_all.new.routines.items c.place_of.result
    c.in_ok-blocks.ensures c.new-routines.ensures.items
    (subst (λ (ps : List Proc). LaysMore (map procedure_of ps) (map procedure_of ps) c.in_ok-blocks.blocks c.lay_all.new.blocks c.new-routines.result.items c.lay_all.new.routines.items)
    c.as_slice-procedures.ensures c.in_ok-lay_all.ensures)
    (subst (λ (ps : List Proc). c.place_of.result ≡ place_in (map procedure_of ps) _) c.as_slice-procedures.ensures c.place_of.ensures))
