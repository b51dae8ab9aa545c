use Rattle.std.proofs.Common.{◌∙◌, ℕ, ◌+◌, List, [], ◌∷◌, ◌++◌, sym, ap, subst, arith}
use Rattle.ppm_words.specs.Names.{IsName}
use Rattle.ppm_saved.specs.declared.names.NamedLength.{NamedLength}
use Rattle.ppm_saved_reader.specs.Rules.{is_twice, is_past}
use Rattle.ppm_saved_reader.proofs.FormLemmas.{array_back}
use Rattle.ppm_saved_reader.proofs.NameLemmas.{len_within}
use Rattle.ppm_saved_reader.proofs.LoopLemmas.{ArraysSoFar, array_more, array_twice, array_past}
use Rattle.ppm_saved_reader.proofs.heading.read_arrays.Goals as goal

-- its name was there
pub returns-then-is_twice-clause-err : goal.returns-then-is_twice-clause-err
returns-then-is_twice-clause-err c = λ whole z read.
    array_twice c.loop-bytes.invariant c.in-Some.bytes.now c.in-Some.rest.now c.in-Some.ensures.halves c.in-Some-array_in.name.now c.in-Some-array_in.len
    c.in-Some-array_in.ensures
    (ap (λ (l : List NamedLength). is_twice l c.in-Some-array_in.name.now) (sym c.deref.ensures.value) ∙ sym c.is_twice.ensures ∙ c.if-is_twice.true)
    whole z read

-- it is past the limits
pub returns-then-is_past-clause-err : goal.returns-then-is_past-clause-err
returns-then-is_past-clause-err c = λ whole z read.
    array_past c.loop-bytes.invariant c.in-Some.bytes.now c.in-Some.rest.now c.in-Some.ensures.halves c.in-Some-array_in.name.now c.in-Some-array_in.len
    c.in-Some-array_in.ensures
    (ap (λ (l : List NamedLength). is_twice l c.in-Some-array_in.name.now) (sym c.deref.ensures.value) ∙ sym c.is_twice.ensures ∙ c.if-is_twice.false)
    (ap (λ (l : List NamedLength). is_past l c.in-Some-array_in.len) (sym c.deref-in-Some.ensures.value) ∙ sym c.is_past.ensures ∙ c.if-is_past.true)
    whole z read

-- it is an array's name
pub from_bytes-requires : goal.from_bytes-requires
from_bytes-requires c =
    let past = ap (λ (l : List NamedLength). is_past l c.in-Some-array_in.len) (sym c.deref-in-Some.ensures.value) ∙ sym c.is_past.ensures ∙ c.if-is_past.false in
    let few = len_within c.loop-bytes.arrays.items c.in-Some-array_in.len past in
    let is = array_back c.in-Some.bytes.now (c.in-Some-array_in.name.now, c.in-Some-array_in.len) c.in-Some-array_in.ensures (omega (arith, few)) in
    subst IsName (sym c.in_ok-from_slice.ensures.items) is.name.form

-- one array more
pub loop-bytes-preserved : goal.loop-bytes-preserved
loop-bytes-preserved c =
    let name = c.in-Some-array_in.name.now in
    let len = c.in-Some-array_in.len in
    let twice = ap (λ (l : List NamedLength). is_twice l name) (sym c.deref.ensures.value) ∙ sym c.is_twice.ensures ∙ c.if-is_twice.false in
    let past = ap (λ (l : List NamedLength). is_past l len) (sym c.deref-in-Some.ensures.value) ∙ sym c.is_past.ensures ∙ c.if-is_past.false in
    let more = array_more c.loop-bytes.invariant c.in-Some.bytes.now c.in-Some.rest.now c.in-Some.ensures.halves name len c.in-Some-array_in.ensures
    twice past in
    let pushed = c.in_ok-push.ensures.items
    ∙ ap (λ (n : List ℕ). c.loop-bytes.arrays.items ++ record { name = n; len = len } ∷ []) (c.from_bytes.ensures ∙ c.in_ok-from_slice.ensures.items) in
    subst (λ (l : List NamedLength). ArraysSoFar c.args.text.now c.args.line l (c.loop-bytes.words + len) (c.loop-bytes.number + 1) c.in-Some.rest.now)
    (sym pushed) more
