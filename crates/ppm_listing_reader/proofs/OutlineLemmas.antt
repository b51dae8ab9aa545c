-- The outline of lines, made one by one, is that of the code that they declare.
use Rattle.std.proofs.Common.{◌≡◌, ◌∙◌, ℕ, zero, suc, ◌+◌, List, [], ◌∷◌, ◌++◌, map, length, Option, Some, None, refl, sym, ap, arith}
use Rattle.std.proofs.Common.{append_assoc, append-nil}
use Rattle.std.proofs.lemmas.List.{map-append}
use Rattle.ppm_code.specs.declared.act.End.TheVariants.{Finish}
use Rattle.ppm_code.specs.declared.code.Capsule.{Capsule}
use Rattle.ppm_code.specs.declared.code.CodeParts.{CodeParts}
use Rattle.ppm_code.specs.declared.instr.Instr.{Instr}
use Rattle.ppm_code.specs.declared.instr.Instr.TheVariants.{Ends}
use Rattle.ppm_listing_reader.specs.declared.outline.Head.{Head}
use Rattle.ppm_listing_reader.specs.declared.part.Part.{Part}
use Rattle.ppm_listing_reader.specs.declared.part.Part.TheVariants as part
use Rattle.ppm_listing_reader.specs.Places.{procedures_in, instrs_in, capsules_in, code_in}
use Rattle.ppm_listing_reader.specs.Outlines.{ends, blank, blanked, outline_of, no_outline, longer, added, outlined}

-- a capsule with so many ends in front of its instructions
abbrev with_ends : ℕ → Capsule → Capsule
with_ends n c = record { procedure = c.procedure; instrs = ends n ++ c.instrs }

-- the last capsule has them
abbrev lengthened : List Capsule → ℕ → List Capsule
lengthened [] n = []
lengthened (c ∷ []) n = with_ends n c ∷ []
lengthened (c ∷ d ∷ cs) n = c ∷ lengthened (d ∷ cs) n

lengthened_none : (cs : List Capsule) → lengthened cs 0 ≡ cs
lengthened_none [] = refl
lengthened_none (c ∷ []) = refl
lengthened_none (c ∷ d ∷ cs) = ap (λ l. c ∷ l) (lengthened_none (d ∷ cs))

ends_one : (n : ℕ) (is : List Instr) → ends n ++ Ends Finish ∷ is ≡ Ends Finish ∷ ends n ++ is
ends_one zero is = refl
ends_one (suc n) is = ap (λ l. Ends Finish ∷ l) (ends_one n is)

lengthened_more : (cs : List Capsule) (n : ℕ) → lengthened (longer cs) n ≡ lengthened cs (suc n)
lengthened_more [] n = refl
lengthened_more (c ∷ []) n = ap (λ is. record { procedure = c.procedure; instrs = is } ∷ []) (ends_one n c.instrs)
lengthened_more (c ∷ d ∷ []) n = ap (λ l. c ∷ l) (lengthened_more (d ∷ []) n)
lengthened_more (c ∷ d ∷ e ∷ cs) n = ap (λ l. c ∷ l) (lengthened_more (d ∷ e ∷ cs) n)

lengthened_last : (cs : List Capsule) (c : Capsule) (n : ℕ) → lengthened (cs ++ c ∷ []) n ≡ cs ++ with_ends n c ∷ []
lengthened_last [] c n = refl
lengthened_last (d ∷ []) c n = refl
lengthened_last (d ∷ e ∷ cs) c n = ap (λ l. d ∷ l) (lengthened_last (e ∷ cs) c n)

longer_last : (cs : List Capsule) (c : Capsule) → longer (cs ++ c ∷ []) ≡ cs ++ record { procedure = c.procedure; instrs = Ends Finish ∷ c.instrs } ∷ []
longer_last [] c = refl
longer_last (d ∷ []) c = refl
longer_last (d ∷ e ∷ cs) c = ap (λ l. d ∷ l) (longer_last (e ∷ cs) c)

-- the capsules after others
capsules_out : (o : CodeParts) (ls : List (Option Part))
    → (outlined o ls).capsules ≡ lengthened o.capsules (length (instrs_in ls)) ++ map blanked (capsules_in ls)
capsules_out o [] = sym (append-nil (lengthened o.capsules 0) ∙ lengthened_none o.capsules)
capsules_out o (Some (part.Capsule c procedure) ∷ ls) =
    let new : Capsule = record { procedure = procedure; instrs = [] } in
    let n = length (instrs_in ls) in
    let same : with_ends n new ≡ blanked (record { procedure = procedure; instrs = instrs_in ls }) = λ i. record {
      procedure = procedure;
      instrs = append-nil (ends n) i;
    } in
    capsules_out (added o (Some (part.Capsule c procedure))) ls
    ∙ ap (λ l. l ++ map blanked (capsules_in ls)) (lengthened_last o.capsules new n)
    ∙ append_assoc o.capsules (with_ends n new ∷ []) (map blanked (capsules_in ls))
    ∙ ap (λ c. o.capsules ++ c ∷ map blanked (capsules_in ls)) same
    ∙ ap (λ l. l ++ map blanked (capsules_in (Some (part.Capsule c procedure) ∷ ls))) (sym (lengthened_none o.capsules))
capsules_out o (Some (part.Instr i) ∷ ls) = capsules_out (added o (Some (part.Instr i))) ls
    ∙ ap (λ l. l ++ map blanked (capsules_in ls)) (lengthened_more o.capsules (length (instrs_in ls)))
capsules_out o (Some (part.Procedure i s k) ∷ ls) = capsules_out (added o (Some (part.Procedure i s k))) ls
    ∙ ap (λ l. l ++ map blanked (capsules_in ls)) (lengthened_more o.capsules (length (instrs_in ls)))
capsules_out o (Some part.Version ∷ ls) = capsules_out (added o (Some part.Version)) ls
    ∙ ap (λ l. l ++ map blanked (capsules_in ls)) (lengthened_more o.capsules (length (instrs_in ls)))
capsules_out o (Some (part.Root q xs) ∷ ls) = capsules_out (added o (Some (part.Root q xs))) ls
    ∙ ap (λ l. l ++ map blanked (capsules_in ls)) (lengthened_more o.capsules (length (instrs_in ls)))
capsules_out o (None ∷ ls) = capsules_out (added o None) ls
    ∙ ap (λ l. l ++ map blanked (capsules_in ls)) (lengthened_more o.capsules (length (instrs_in ls)))

-- the procedures
procedures_out : (o : CodeParts) (ls : List (Option Part)) → (outlined o ls).procedures ≡ o.procedures ++ procedures_in ls
procedures_out o [] = sym (append-nil o.procedures)
procedures_out o (Some (part.Procedure i s k) ∷ ls) =
    procedures_out (added o (Some (part.Procedure i s k))) ls
    ∙ append_assoc o.procedures (record { slots = s; entry = k } ∷ []) (procedures_in ls)
procedures_out o (Some (part.Capsule c p) ∷ ls) = procedures_out (added o (Some (part.Capsule c p))) ls
procedures_out o (Some (part.Instr i) ∷ ls) = procedures_out (added o (Some (part.Instr i))) ls
procedures_out o (Some part.Version ∷ ls) = procedures_out (added o (Some part.Version)) ls
procedures_out o (Some (part.Root q xs) ∷ ls) = procedures_out (added o (Some (part.Root q xs))) ls
procedures_out o (None ∷ ls) = procedures_out (added o None) ls

-- and nothing else
root_out : (o : CodeParts) (ls : List (Option Part)) → o.root ≡ 0 → (outlined o ls).root ≡ 0
root_out o [] h = h
root_out o (Some (part.Procedure i s k) ∷ ls) h = root_out (added o (Some (part.Procedure i s k))) ls refl
root_out o (Some (part.Capsule c p) ∷ ls) h = root_out (added o (Some (part.Capsule c p))) ls refl
root_out o (Some (part.Instr i) ∷ ls) h = root_out (added o (Some (part.Instr i))) ls refl
root_out o (Some part.Version ∷ ls) h = root_out (added o (Some part.Version)) ls refl
root_out o (Some (part.Root q xs) ∷ ls) h = root_out (added o (Some (part.Root q xs))) ls refl
root_out o (None ∷ ls) h = root_out (added o None) ls refl

arrays_out : (o : CodeParts) (ls : List (Option Part)) → o.arrays ≡ [] → (outlined o ls).arrays ≡ []
arrays_out o [] h = h
arrays_out o (Some (part.Procedure i s k) ∷ ls) h = arrays_out (added o (Some (part.Procedure i s k))) ls refl
arrays_out o (Some (part.Capsule c p) ∷ ls) h = arrays_out (added o (Some (part.Capsule c p))) ls refl
arrays_out o (Some (part.Instr i) ∷ ls) h = arrays_out (added o (Some (part.Instr i))) ls refl
arrays_out o (Some part.Version ∷ ls) h = arrays_out (added o (Some part.Version)) ls refl
arrays_out o (Some (part.Root q xs) ∷ ls) h = arrays_out (added o (Some (part.Root q xs))) ls refl
arrays_out o (None ∷ ls) h = arrays_out (added o None) ls refl

pub outlined_code : (ls : List (Option Part)) → outlined no_outline ls ≡ outline_of (code_in ls)
outlined_code ls = λ i. record {
  root = root_out no_outline ls refl i;
  arrays = arrays_out no_outline ls refl i;
  procedures = procedures_out no_outline ls i;
  capsules = capsules_out no_outline ls i;
}

-- a line more, after others
pub outlined_more : (o : CodeParts) (ls : List (Option Part)) (l : Option Part) → outlined o (ls ++ l ∷ []) ≡ added (outlined o ls) l
outlined_more o [] l = refl
outlined_more o (k ∷ ls) l = outlined_more (added o k) ls l

-- the last head is longer
pub head_longer : (old rest : List Head) (h new : Head) → old ≡ rest ++ h ∷ [] → new.procedure ≡ h.procedure → new.lines ≡ h.lines + 1
    → map blank (rest ++ new ∷ []) ≡ longer (map blank old)
head_longer old rest h new e same more =
    let last : blank new ≡ record { procedure = h.procedure; instrs = Ends Finish ∷ ends h.lines } = λ i. record {
      procedure = same i;
      instrs = (ap ends (more ∙ suc_of h.lines)) i;
    } in
    map-append blank rest (new ∷ []) ∙ ap (λ c. map blank rest ++ c ∷ []) last ∙ sym (longer_last (map blank rest) (blank h))
    ∙ ap longer (sym (map-append blank rest (h ∷ []))) ∙ ap (λ l. longer (map blank l)) (sym e)
  where
    suc_of : (n : ℕ) → n + 1 ≡ suc n
    suc_of n = omega arith
