-- The keywords that begin with the first byte are enough.
use Rattle.std.proofs.Common.{◌∙◌, refl, rules}
use Rattle.ppm_listing_reader.specs.Tokens.{keyword_of}
use Rattle.ppm_listing_reader.proofs.WordLemmas.{by_first}
use Rattle.ppm_listing_reader.proofs.token.keyword.Goals as goal

pub returns-in-empty : goal.returns-in-empty
unfolding keyword_of
returns-in-empty c = search rules

pub returns-in-len1-up : goal.returns-in-len1-up
returns-in-len1-up c =
    c.first_spelled.ensures ∙ by_first c.args.bytes.now _ _ c.in-len1-up.len_at_least refl c.beginning_with.ensures
