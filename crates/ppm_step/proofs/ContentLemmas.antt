-- What a word stands for fits its fields.
use Rattle.std.proofs.Common.{ℕ, Option, Some, None, IfSome}
use Rattle.ppm_cells.specs.Entry.{entry_of, entry_word, IsEntry}
use Rattle.ppm_cells.specs.Finish.{finish_of, finish_word, IsFinish}
use Rattle.ppm_cells.specs.Holder.{holder_of, holder_word, IsHolder}
use Rattle.ppm_cells.specs.Link.{link_of, link_word, IsLink}
use Rattle.ppm_cells.specs.Restart.{restart_of, restart_word, IsRestart}
use Rattle.ppm_cells.proofs.EntryLemmas.{entries_exact}
use Rattle.ppm_cells.proofs.ExactLemmas.{fitting}
use Rattle.ppm_cells.proofs.FinishLemmas.{finishes_exact}
use Rattle.ppm_cells.proofs.HolderLemmas.{holders_exact}
use Rattle.ppm_cells.proofs.LinkLemmas.{links_exact}
use Rattle.ppm_cells.proofs.RestartLemmas.{restarts_exact}
use Rattle.ppm_step.specs.declared.content.Content.{Content}
use Rattle.ppm_step.specs.declared.content.Content.TheVariants.{ARestart, AnEntry, AHolder, ALink, AFinish}
use Rattle.ppm_step.specs.declared.content.Reading.{Reading}
use Rattle.ppm_step.specs.declared.content.Reading.TheVariants.{AsNumber, AsRestart, AsEntry, AsHolder, AsLink, AsFinish}
use Rattle.ppm_step.specs.Contents.{read_so, content_of, IsContent}

read_fits : {V : Type 0} (content : V → Content) (P : V → Type 0) (o : Option V) → ((v : V) → P v → IsContent (content v)) → IfSome o P
    → IsContent (read_so content o)
read_fits content P None fits h = tt
read_fits content P (Some v) fits h = fits v h

pub content_fits : (reading : Reading) (word : ℕ) → IsContent (content_of reading word)
content_fits AsNumber word = tt
content_fits AsRestart word =
    read_fits ARestart IsRestart (restart_of word) (λ v h. h) (fitting restart_word IsRestart word (restart_of word) (restarts_exact word))
content_fits AsEntry word =
    read_fits AnEntry IsEntry (entry_of word) (λ v h. h) (fitting entry_word IsEntry word (entry_of word) (entries_exact word))
content_fits AsHolder word =
    read_fits AHolder IsHolder (holder_of word) (λ v h. h) (fitting holder_word IsHolder word (holder_of word) (holders_exact word))
content_fits AsLink word =
    read_fits ALink IsLink (link_of word) (λ v h. h) (fitting link_word IsLink word (link_of word) (links_exact word))
content_fits AsFinish word =
    read_fits AFinish IsFinish (finish_of word) (λ v h. h) (fitting finish_word IsFinish word (finish_of word) (finishes_exact word))
