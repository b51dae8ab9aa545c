-- The stores of the machine's step at an end are those into the block, and then that into the
-- frame's own words.
use Rattle.std.proofs.Common.{◌≡◌, ℕ, List, ◌∷◌, Some, None, refl, arith}
use Rattle.ppm_cells.specs.declared.cell.Cell.TheVariants.{BlockWord}
use Rattle.ppm_code.specs.declared.act.End.{End}
use Rattle.ppm_code.specs.declared.act.End.TheVariants.{Next, Finish, Trap, Call, Fork}
use Rattle.ppm_code.specs.declared.code.CodeParts.{CodeParts}
use Rattle.ppm_step.specs.Frames.{put}
use Rattle.ppm_step.specs.declared.content.Content.{Content}
use Rattle.ppm_step.specs.declared.frame.Put.{Put}
use Rattle.ppm_step.specs.declared.frame.Home.{Home}
use Rattle.ppm_ends.specs.Ends.{IsSplit}

-- stores are equal where the first ones have one address and content, and the others are equal
next : {x y : ℕ} {c : Content} {ps qs : List Put} → x ≡ y → ps ≡ qs → put (BlockWord x) c ∷ ps ≡ put (BlockWord y) c ∷ qs
next {c = c} p q = λ i. put (BlockWord (p i)) c ∷ q i

pub split : (code : CodeParts) (home : Home) (e : End) → IsSplit code home e
split code home (Next k) = refl
split code home Finish = refl
split code home (Trap trap line) = refl
split code home (Call q k None) = next (omega arith) (next (omega arith) (next (omega arith) refl))
split code home (Call q k (Some slot)) = next (omega arith) (next (omega arith) (next (omega arith) (next (omega arith) refl)))
split code home (Fork l r k None None) =
    next (omega arith) (next (omega arith) (next (omega arith) (next (omega arith) (next (omega arith) (next (omega arith) (next (omega arith)
    (next (omega arith) refl)))))))
split code home (Fork l r k None (Some b)) =
    next (omega arith) (next (omega arith) (next (omega arith) (next (omega arith) (next (omega arith) (next (omega arith) (next (omega arith)
    (next (omega arith) (next (omega arith) (next (omega arith) refl)))))))))
split code home (Fork l r k (Some a) right_to) =
    next (omega arith) (next (omega arith) (next (omega arith) (next (omega arith) (next (omega arith) (next (omega arith) (next (omega arith)
    (next (omega arith) (next (omega arith) (next (omega arith) refl)))))))))
