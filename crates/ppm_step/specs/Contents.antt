-- What a word stands for, by how it is read, and the word of it.
use Rattle.std.specs.Prelude.{ℕ, Option, Some, None}
use Rattle.ppm_cells.specs.Restart.{restart_of, restart_word, IsRestart}
use Rattle.ppm_cells.specs.Entry.{entry_of, entry_word, IsEntry}
use Rattle.ppm_cells.specs.Holder.{holder_of, holder_word, IsHolder}
use Rattle.ppm_cells.specs.Link.{link_of, link_word, IsLink}
use Rattle.ppm_cells.specs.Finish.{finish_of, finish_word, IsFinish}
use Rattle.ppm_step.specs.declared.content.Content.{Content}
use Rattle.ppm_step.specs.declared.content.Content.TheVariants.{ANumber, ARestart, AnEntry, AHolder, ALink, AFinish, Unreadable}
use Rattle.ppm_step.specs.declared.content.Reading.{Reading}
use Rattle.ppm_step.specs.declared.content.Reading.TheVariants.{AsNumber, AsRestart, AsEntry, AsHolder, AsLink, AsFinish}

-- what was unpacked, if anything was
abbrev pub read_so : {V : Type 0} → (V → Content) → Option V → Content
read_so content None = Unreadable
read_so content (Some v) = content v

-- what a word stands for, where it is read so
abbrev pub content_of : Reading → ℕ → Content
content_of AsNumber word = ANumber word
content_of AsRestart word = read_so ARestart (restart_of word)
content_of AsEntry word = read_so AnEntry (entry_of word)
content_of AsHolder word = read_so AHolder (holder_of word)
content_of AsLink word = read_so ALink (link_of word)
content_of AsFinish word = read_so AFinish (finish_of word)

-- the word of a content
abbrev pub word_of : Content → ℕ
word_of (ANumber number) = number
word_of (ARestart restart) = restart_word restart
word_of (AnEntry entry) = entry_word entry
word_of (AHolder holder) = holder_word holder
word_of (ALink link) = link_word link
word_of (AFinish finish) = finish_word finish
word_of Unreadable = 0

-- each number of it fits its field
abbrev pub IsContent : Content → Type 0
IsContent (ANumber number) = Unit {0}
IsContent (ARestart restart) = IsRestart restart
IsContent (AnEntry entry) = IsEntry entry
IsContent (AHolder holder) = IsHolder holder
IsContent (ALink link) = IsLink link
IsContent (AFinish finish) = IsFinish finish
IsContent Unreadable = Unit {0}
