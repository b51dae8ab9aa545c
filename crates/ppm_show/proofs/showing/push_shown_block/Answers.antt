use Rattle.std.proofs.Common.{◌≡◌, ◌∙◌, ◌++◌, List, [], Bool, OnOk, sym, ap, subst}
use Rattle.std.specs.List.{slice_get}
use Rattle.std.specs.Prelude.{if◌then◌else◌}
use Rattle.std.proofs.lemmas.List.{append-nil}
use Rattle.ppm_cells.specs.Cells.{word_count}
use Rattle.ppm_show.specs.Lines.{block_line}
use Rattle.ppm_show.specs.Paths.{is_set}
use Rattle.ppm_show.specs.Routes.{is_shown_block, shown_blocks}
use Rattle.ppm_show.proofs.ListLemmas.{mark_of}
use Rattle.ppm_show.proofs.showing.push_shown_block.Goals as goal

-- it is marked, and so it is shown
pub returns-then-is_marked : goal.returns-then-is_marked
returns-then-is_marked c =
    let s = c.args.scene.now in
    let at = c.args.at in
    let shown : c.is_marked.result ≡ is_shown_block s at =
    c.is_marked.ensures ∙ ap (λ (ms : List Bool). is_set (slice_get ms at)) c.requires.marks
    ∙ ap is_set (mark_of (shown_blocks s) (word_count s.shape) at c.requires.at) in
    subst (λ (b : Bool). OnOk c.push_block_line.result (c.push_block_line.new.text.items ≡ c.args.text.now.items ++ (if b then block_line s at else [])))
    (sym c.if-is_marked.true ∙ shown) c.push_block_line.ensures

-- it is not, and has no line
pub returns-else-is_marked : goal.returns-else-is_marked
returns-else-is_marked c =
    let s = c.args.scene.now in
    let at = c.args.at in
    let shown : c.is_marked.result ≡ is_shown_block s at =
    c.is_marked.ensures ∙ ap (λ (ms : List Bool). is_set (slice_get ms at)) c.requires.marks
    ∙ ap is_set (mark_of (shown_blocks s) (word_count s.shape) at c.requires.at) in
    subst (λ (b : Bool). c.args.text.now.items ≡ c.args.text.now.items ++ (if b then block_line s at else [])) (sym c.if-is_marked.false ∙ shown)
    (sym (append-nil c.args.text.now.items))
