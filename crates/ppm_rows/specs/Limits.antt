-- The limits on a text of the language, and which tokens count for each.
use Rattle.std.specs.Prelude.{ℕ, Bool, true, false, List, [], ◌∷◌, if◌then◌else◌}
use Rattle.ppm_grammar.specs.Limits.{Count, Anew, Adds, Limit, Limits}
use Rattle.ppm_text.specs.declared.token.Kind.{Kind}
use Rattle.ppm_text.specs.declared.token.Kind.TheVariants as kind
use Rattle.ppm_text.specs.declared.token.Sign.TheVariants as sign
use Rattle.ppm_text.specs.declared.token.Token.{Token}
use Rattle.ppm_tree.specs.Limits.{array_limit, word_limit, depth_limit, procedure_limit, parameter_limit, node_limit}
use Rattle.ppm_rows.specs.Values.{number_of}
use Rattle.ppm_rows.specs.Language.{Counted, AnArray, ArrayWords, AProcedure, AList, AnElement, AStatement, ANode, AName}

-- the numbers of the limits
abbrev pub arrays : ℕ
arrays = 1

abbrev pub words : ℕ
words = 2

abbrev pub procedures : ℕ
procedures = 3

abbrev pub elements : ℕ
elements = 4

abbrev pub nodes : ℕ
nodes = 5

-- an index in brackets begins
abbrev pub is_index : Kind → Bool
is_index (kind.Sign sign.OpenBracket) = true
is_index _ = false

-- the tokens begin with an index
abbrev pub has_index : List Token → Bool
has_index [] = false
has_index (t ∷ ts) = is_index t.kind

-- what a token counts: an `each` as a procedure too, the length of an array as its words, and a name as a node where no index follows;
-- parameters and arguments are counted anew in each list, nodes in each statement
abbrev pub counts : Counted → Token → List Token → List Count
counts AnArray t behind = Adds arrays 1 ∷ []
counts ArrayWords t behind = Adds words (number_of t.kind) ∷ []
counts AProcedure t behind = Adds procedures 1 ∷ []
counts AList t behind = Anew elements ∷ []
counts AnElement t behind = Adds elements 1 ∷ []
counts AStatement t behind = Anew nodes ∷ []
counts ANode t behind = Adds nodes 1 ∷ []
counts AName t behind = if has_index behind then [] else Adds nodes 1 ∷ []

-- this limit on a number
abbrev pub limit : ℕ → ℕ → Limit
limit which most = record { which = which; most = most }

-- the limits
abbrev pub limits : Limits Token Counted
limits = record {
  depth = depth_limit;
  most =
      limit arrays array_limit ∷ limit words word_limit ∷ limit procedures procedure_limit ∷ limit elements parameter_limit ∷ limit nodes node_limit ∷ [];
  counts = counts;
}
