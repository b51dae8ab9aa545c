use Rattle.std.proofs.Common.{◌≡◌, false, [], ◌∷◌, ◌++◌, map, sym, ap, ◌∙◌}
use Rattle.ppm_tree.specs.Tree.{statement_of, expression_of}
use Rattle.ppm_cut_bounds.specs.Names.{used_by}
use Rattle.ppm_cut_bounds.specs.Catching.{has, names_in, names_of_target}
use Rattle.ppm_cut_bounds.proofs.Used.{used_by_call, used_by_fork, names_in-cons}
use Rattle.ppm_cut.proofs.Members.{in_first, in_second, not_name}
use Rattle.ppm_cut.proofs.free.is_used.Goals as goal

-- in an argument of the left side
pub returns-then-is_in_arguments : goal.returns-then-is_in_arguments
returns-then-is_in_arguments c =
    let q = c.args.name.now in
    let l = c.in-Fork.left in
    let r = c.in-Fork.right in
    let ts = names_of_target l.target ++ names_of_target r.target in
    let xs = names_in (map (λ a. expression_of a.value) l.arguments) in
    let ys = names_in (map (λ a. expression_of a.value) r.arguments) in
    let none : has ts q ≡ false =
    sym (in_second (names_of_target l.target) (names_of_target r.target) q (sym c.is_target-in-Fork.ensures ∙ c.if-is_target-2.false))
    ∙ (sym c.is_target-in-Fork-2.ensures ∙ c.if-is_target-3.false) in
    let here = sym (in_second ts xs q none) ∙ ap (λ zs. has (names_in (map (λ a. expression_of a.value) zs)) q) (sym c.as_slice-in-Fork.ensures)
    ∙ sym c.is_in_arguments-in-Fork.ensures ∙ c.if-is_in_arguments.true in
    in_first (ts ++ xs) ys q here ∙ ap (λ zs. has zs q) (used_by_fork l r) ∙ ap (λ s. has (used_by (statement_of s)) q) (sym c.in-Fork.is)

-- in the value that an element is assigned, or not at all
pub returns-else-is_in : goal.returns-else-is_in
returns-else-is_in c =
    let q = c.args.name.now in
    let i = expression_of c.in-Put.index in
    let e = expression_of c.in-Put.value in
    c.is_in-in-Put-2.ensures ∙ in_second (names_in (i ∷ [])) (names_in (e ∷ [])) q (sym c.is_in-in-Put.ensures ∙ c.if-is_in.false)
    ∙ ap (λ zs. has zs q) (sym (names_in-cons i (e ∷ [])))
    ∙ in_second (c.in-Put.region.name ∷ []) (names_in (i ∷ e ∷ [])) q (not_name c.is-in-Put.result q c.in-Put.region.name c.is-in-Put.ensures c.if-is-2.false)
    ∙ ap (λ s. has (used_by (statement_of s)) q) (sym c.in-Put.is)

-- in an argument of a call, or not at all
pub returns-else-is_target : goal.returns-else-is_target
returns-else-is_target c =
    let q = c.args.name.now in
    let s = c.in-Call.side in
    c.is_in_arguments.ensures ∙ ap (λ zs. has (names_in (map (λ a. expression_of a.value) zs)) q) c.as_slice.ensures
    ∙ in_second (names_of_target s.target) (names_in (map (λ a. expression_of a.value) s.arguments)) q (sym c.is_target.ensures ∙ c.if-is_target.false)
    ∙ ap (λ zs. has zs q) (used_by_call s) ∙ ap (λ s. has (used_by (statement_of s)) q) (sym c.in-Call.is)

-- in an argument of the right side, or not at all
pub returns-else-is_in_arguments : goal.returns-else-is_in_arguments
returns-else-is_in_arguments c =
    let q = c.args.name.now in
    let l = c.in-Fork.left in
    let r = c.in-Fork.right in
    let ts = names_of_target l.target ++ names_of_target r.target in
    let xs = names_in (map (λ a. expression_of a.value) l.arguments) in
    let ys = names_in (map (λ a. expression_of a.value) r.arguments) in
    let none : has ts q ≡ false =
    sym (in_second (names_of_target l.target) (names_of_target r.target) q (sym c.is_target-in-Fork.ensures ∙ c.if-is_target-2.false))
    ∙ (sym c.is_target-in-Fork-2.ensures ∙ c.if-is_target-3.false) in
    let here = sym (in_second ts xs q none) ∙ ap (λ zs. has (names_in (map (λ a. expression_of a.value) zs)) q) (sym c.as_slice-in-Fork.ensures)
    ∙ sym c.is_in_arguments-in-Fork.ensures ∙ c.if-is_in_arguments.false in
    c.is_in_arguments-in-Fork-2.ensures ∙ ap (λ zs. has (names_in (map (λ a. expression_of a.value) zs)) q) c.as_slice-in-Fork-2.ensures
    ∙ in_second (ts ++ xs) ys q here ∙ ap (λ zs. has zs q) (used_by_fork l r) ∙ ap (λ s. has (used_by (statement_of s)) q) (sym c.in-Fork.is)
