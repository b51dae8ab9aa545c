-- A text grows piece by piece.
use Rattle.std.proofs.Common.{◌≡◌, ◌∙◌, ℕ, List, [], ◌∷◌, ◌++◌, map, sym, ap, subst, append_assoc, refl, ◌<◌, length, arith}
use Rattle.std.specs.List.{flat_map}
use Rattle.std.proofs.lemmas.Grind.{flat_map-append}
use Rattle.std.proofs.lemmas.List.Folds.{flat_map-map}
use Rattle.ppm_text.specs.declared.token.Keyword.TheVariants as k
use Rattle.ppm_text.specs.declared.token.Sign.TheVariants as s
use Rattle.ppm_text.specs.declared.token.Kind.{Kind}
use Rattle.ppm_tree.specs.declared.named.Named.{Named}
use Rattle.ppm_tree.specs.declared.tree.Parameter.{Parameter}
use Rattle.ppm_tree.specs.declared.tree.Array.{Array}
use Rattle.ppm_tree.specs.declared.tree.ArrayInput.{ArrayInput}
use Rattle.ppm_tree.specs.declared.tree.Proc.{Proc}
use Rattle.ppm_tree.specs.declared.tree.Stmt.{Stmt}
use Rattle.ppm_tree.specs.declared.tree.Argument as declared_argument
use Rattle.ppm_tree.specs.declared.tree.Side as declared_side
use Rattle.ppm_tree.specs.declared.tree.Tree as declared_tree
use Rattle.ppm_tree.specs.Tree.{Expression, Statement, Block, If, While, Split, Each, Procedure, block_of, expression_of, side_of, procedure_of, tree_of}
use Rattle.ppm_printer.specs.Spelled.{spaced, text_of, Appends}
use Rattle.ppm_printer.specs.Canonical.{name, word, sign, expression_tokens, list_tokens, argument_tokens, call_tokens, braced, give_tokens}
use Rattle.ppm_printer.specs.Canonical.{statement_tokens, block_tokens, else_tokens, parameter_tokens, array_tokens, procedure_tokens}
use Rattle.ppm_printer.specs.Canonical.{input_tokens, program_tokens}

-- one piece after another
pub then : (xs ys : List Kind) (a b c : List ℕ) → Appends xs a b → Appends ys b c → Appends (xs ++ ys) a c
then xs ys a b c h g =
    g ∙ ap (λ w. w ++ text_of ys) h ∙ append_assoc a (text_of xs) (text_of ys) ∙ sym (ap (λ w. a ++ w) (flat_map-append spaced xs ys))

-- the statements with blocks
pub if_text : (whole : Statement) (test : Expression) (block other : Block) (a b c d : List ℕ) → whole ≡ If test block other
    → Appends (word k.If ∷ expression_tokens test) a b → Appends (braced (block_tokens block)) b c → Appends (else_tokens other) c d
    → Appends (statement_tokens whole) a d
if_text whole test block other a b c d is f g h =
    subst (λ w. Appends (statement_tokens w) a d) (sym is)
    (then (word k.If ∷ expression_tokens test ++ braced (block_tokens block)) (else_tokens other) a c d
    (then (word k.If ∷ expression_tokens test) (braced (block_tokens block)) a b c f g) h)

pub while_text : (whole : Statement) (test : Expression) (block : Block) (a b c : List ℕ) → whole ≡ While test block
    → Appends (word k.While ∷ expression_tokens test) a b → Appends (braced (block_tokens block)) b c → Appends (statement_tokens whole) a c
while_text whole test block a b c is f g =
    subst (λ w. Appends (statement_tokens w) a c) (sym is) (then (word k.While ∷ expression_tokens test) (braced (block_tokens block)) a b c f g)

pub split_text : (whole : Statement) (line : ℕ) (r : Named) (e : Expression) (x y : Named) (block : Block) (a b c : List ℕ)
    → whole ≡ Split line r e x y block
    → Appends (word k.Split ∷ name r ∷ word k.At ∷ expression_tokens e ++ word k.Into ∷ name x ∷ sign s.Comma ∷ name y ∷ []) a b
    → Appends (braced (block_tokens block)) b c → Appends (statement_tokens whole) a c
split_text whole line r e x y block a b c is f g =
    let behind = word k.Into ∷ name x ∷ sign s.Comma ∷ name y ∷ [] in
    subst (λ w. Appends (statement_tokens w) a c) (sym is)
    (subst (λ ks. Appends (word k.Split ∷ name r ∷ word k.At ∷ ks) a c) (append_assoc (expression_tokens e) behind (braced (block_tokens block)))
    (then (word k.Split ∷ name r ∷ word k.At ∷ expression_tokens e ++ behind) (braced (block_tokens block)) a b c f g))

pub each_text : (whole : Statement) (i x r : Named) (block : Block) (a b c : List ℕ) → whole ≡ Each i x r block
    → Appends (word k.Each ∷ name i ∷ sign s.Comma ∷ name x ∷ word k.In ∷ name r ∷ []) a b
    → Appends (braced (block_tokens block)) b c → Appends (statement_tokens whole) a c
each_text whole i x r block a b c is f g =
    subst (λ w. Appends (statement_tokens w) a c) (sym is)
    (then (word k.Each ∷ name i ∷ sign s.Comma ∷ name x ∷ word k.In ∷ name r ∷ []) (braced (block_tokens block)) a b c f g)

-- a list whose things are made of others
list_map : {A B : Type 0} (tokens : B → List Kind) (make : A → B) (xs : List A) → list_tokens tokens (map make xs) ≡ list_tokens (λ x. tokens (make x)) xs
list_map tokens make [] = refl
list_map tokens make (x ∷ xs) = ap (λ w. tokens (make x) ++ w) (flat_map-map (λ y. sign s.Comma ∷ tokens y) make xs)

-- a call, piece by piece
pub call_text : (side : declared_side.Side) (arguments : List declared_argument.Argument) (a b c d e : List ℕ) → arguments ≡ side.arguments
    → Appends (name side.callee ∷ []) a b → Appends (sign s.OpenParen ∷ []) b c
    → Appends (list_tokens (λ x. expression_tokens (expression_of x.value)) arguments) c d → Appends (sign s.CloseParen ∷ []) d e
    → Appends (call_tokens (side_of side)) a e
call_text side arguments a b c d e is f g h j =
    let listed = list_tokens argument_tokens (side_of side).arguments in
    let same = ap (list_tokens (λ x. expression_tokens (expression_of x.value))) is
    ∙ sym (list_map argument_tokens (λ x. record { line = x.line; value = expression_of x.value }) side.arguments) in
    then (name side.callee ∷ []) (sign s.OpenParen ∷ listed ++ sign s.CloseParen ∷ []) a b e f
    (then (sign s.OpenParen ∷ []) (listed ++ sign s.CloseParen ∷ []) b c e g
    (then listed (sign s.CloseParen ∷ []) c d e (subst (λ ks. Appends ks c d) same h) j))

-- a procedure, piece by piece
pub procedure_text : (p : Procedure) (ps : List Parameter) (body : Block) (a b c d e f g : List ℕ) → ps ≡ p.parameters → body ≡ p.body
    → Appends (word k.Proc ∷ []) a b → Appends (name p.name ∷ []) b c → Appends (sign s.OpenParen ∷ []) c d
    → Appends (list_tokens parameter_tokens ps) d e → Appends (sign s.CloseParen ∷ []) e f
    → Appends (braced (block_tokens body ++ give_tokens p.give)) f g → Appends (procedure_tokens p) a g
procedure_text p ps body a b c d e f g same also h1 h2 h3 h4 h5 h6 =
    let inner = braced (block_tokens p.body ++ give_tokens p.give) in
    let listed = list_tokens parameter_tokens p.parameters in
    then (word k.Proc ∷ []) (name p.name ∷ sign s.OpenParen ∷ listed ++ sign s.CloseParen ∷ inner) a b g h1
    (then (name p.name ∷ []) (sign s.OpenParen ∷ listed ++ sign s.CloseParen ∷ inner) b c g h2
    (then (sign s.OpenParen ∷ []) (listed ++ sign s.CloseParen ∷ inner) c d g h3
    (then listed (sign s.CloseParen ∷ inner) d e g (subst (λ xs. Appends (list_tokens parameter_tokens xs) d e) same h4)
    (then (sign s.CloseParen ∷ []) inner e f g h5 (subst (λ x. Appends (braced (block_tokens x ++ give_tokens p.give)) f g) also h6)))))

-- a program, kind by kind
pub tree_text : (t : declared_tree.Tree) (xs : List Array) (ps : List Proc) (is : List ArrayInput) (a b c d : List ℕ)
    → xs ≡ t.arrays → ps ≡ t.procedures → is ≡ t.inputs
    → Appends (flat_map array_tokens xs) a b → Appends (flat_map (λ p. procedure_tokens (procedure_of p)) ps) b c
    → Appends (flat_map input_tokens is) c d → Appends (program_tokens (tree_of t)) a d
tree_text t xs ps is a b c d e1 e2 e3 f g h =
    let procedures = ap (flat_map (λ p. procedure_tokens (procedure_of p))) e2 ∙ sym (flat_map-map procedure_tokens procedure_of t.procedures) in
    let both = flat_map array_tokens t.arrays ++ flat_map procedure_tokens (map procedure_of t.procedures) in
    then both (flat_map input_tokens t.inputs) a c d
    (then (flat_map array_tokens t.arrays) (flat_map procedure_tokens (map procedure_of t.procedures)) a b c
    (subst (λ xs. Appends (flat_map array_tokens xs) a b) e1 f) (subst (λ ks. Appends ks b c) procedures g))
    (subst (λ xs. Appends (flat_map input_tokens xs) c d) e3 h)

-- a block after `else` that is not empty
pub else_text : (block : List Stmt) (a b c : List ℕ) → 0 < length block → Appends (word k.Else ∷ []) a b
    → Appends (braced (block_tokens (block_of block))) b c → Appends (else_tokens (block_of block)) a c
else_text [] a b c some f g = absurd (omega (arith, some))
else_text (s ∷ rest) a b c some f g = then (word k.Else ∷ []) (braced (block_tokens (block_of (s ∷ rest)))) a b c f g
