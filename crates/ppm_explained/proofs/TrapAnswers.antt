-- A text has one answer where its trap is explained: that of `serial`, and a trap has one list of notes.
use Rattle.std.proofs.Common.{◌≡◌, ◌<◌, ℕ, List, ◌++◌, length, Option, Some, refl, sym, ap, ◌∙◌, subst, arith}
use Rattle.ppm_words.specs.declared.named_array.NamedArray.{NamedArray}
use Rattle.ppm_words.specs.declared.outcome.Outcome.{Outcome}
use Rattle.ppm_words.specs.declared.outcome.Outcome.TheVariants as outcome
use Rattle.ppm_words.specs.declared.trap.Trap.{Trap}
use Rattle.ppm_text.specs.Limits.{text_limit}
use Rattle.ppm_tree.specs.Tree.{Procedure, ProgramTree}
use Rattle.ppm_tree.specs.State.{TrapAt}
use Rattle.ppm_tree.specs.Program.{Serial}
use Rattle.ppm_tree.specs.Correct.{SpendTheirTurns}
use Rattle.ppm_by_name.specs.declared.held.Reading.{Reading}
use Rattle.ppm_trapped.specs.declared.told.Told.{Told}
use Rattle.ppm_trapped.specs.Sites.{Point, TrapsAt}
use Rattle.ppm_trapped.specs.Walks.{deed_readings, IsTold, IsToldOf}
use Rattle.ppm_trapped.specs.Correct.{TrapPointsAreOne, TrapsHavePoints}
use Rattle.ppm_standing.specs.Correct.{StandWhereLater}
use Rattle.ppm_program.specs.Programs.{HasProgram}
use Rattle.ppm_program.specs.Correct.{HaveOneAnswer as ProgramsAreOne}
use Rattle.ppm_answers.specs.declared.answer.Answer.{Answer}
use Rattle.ppm_answers.specs.declared.answer.Answer.TheVariants as answers
use Rattle.ppm_answers.specs.declared.refusal.Refusal.{Refusal}
use Rattle.ppm_answers.specs.declared.refused.Refused.{Refused}
use Rattle.ppm_answers.specs.declared.refused.Refused.TheVariants as refused
use Rattle.ppm_cli.specs.declared.explain.ExplainedText.TheVariants as texts
use Rattle.ppm_commands.specs.Serial.{ComesTo, SerialHas, HaveOneAnswer as OutcomesAreOne}
use Rattle.ppm_notes.specs.Traps.{stand_notes, trap_notes}
use Rattle.ppm_explained.specs.Explaining.{IsExplained, HaveOneAnswer as ExplainedAreOne}
use Rattle.ppm_explained.specs.Trapping.{EndsWithin, IsTrapExplained, TrapHas, HaveOneAnswer}
use Rattle.ppm_explained.proofs.TrapLemmas.{trap_run}
use Rattle.ppm_explained.proofs.StandAnswers.{one_stood, stand_has}

-- ---- what is told of a point is one

-- a trap with its line
abbrev trap_at : Trap → ℕ → TrapAt
trap_at t line = (t, line)

some_pair : {t u : Trap} {m n : ℕ} {o : Option TrapAt} → o ≡ Some (trap_at t m) → o ≡ Some (trap_at u n) → trap_at t m ≡ trap_at u n
some_pair p q = cc

same_told : {o : Option TrapAt} {p : Procedure} {readings : List Reading} (a b : Told) → IsToldOf o p readings a → IsToldOf o p readings b → a ≡ b
same_told a b g h =
    let trap = some_pair g.trap h.trap in
    let name = g.procedure ∙ sym h.procedure in
    let declared = g.declared_in ∙ sym h.declared_in in
    let values = g.values ∙ sym h.values in
    λ i. record { trap = (trap i).0; line = (trap i).1; procedure = name i; procedure_line = declared i; values = values i }

module _ (points : TrapPointsAreOne) where
  of_points : (t : ProgramTree) (y z : Point) (s stop : TrapAt) (a b : Told) → TrapsAt t y s → TrapsAt t z stop → IsTold t.procedures y a
      → IsTold t.procedures z b → a ≡ b
  of_points t y z s stop a b g h m n =
      same_told a b m (subst (λ (q : Point). IsTold t.procedures q b) (sym (points t y z s stop g h)) n)

  one_told : (t u : ProgramTree) (y z : Point) (s stop : TrapAt) (a b : Told) → t ≡ u → TrapsAt t y s → TrapsAt u z stop → IsTold t.procedures y a
      → IsTold u.procedures z b → a ≡ b
  one_told t u y z s stop a b e g h m n =
      of_points t y z s stop a b g (subst (λ (q : ProgramTree). TrapsAt q z stop) (sym e) h) m
      (subst (λ (q : ProgramTree). IsTold q.procedures z b) (sym e) n)

-- ---- the answers

-- answers of `serial` that differ
ended_trapped : {arrays : List NamedArray} {t : Trap} {line : ℕ} → answers.Ended arrays ≡ answers.Trapped t line → ⊥
ended_trapped e = cc

ended_later : {arrays : List NamedArray} {n : ℕ} → answers.Ended arrays ≡ answers.NotWithin n → ⊥
ended_later e = cc

ended_refused : {arrays : List NamedArray} {r : Refusal} → answers.Ended arrays ≡ answers.SourceRefused r → ⊥
ended_refused e = cc

trapped_later : {t : Trap} {line n : ℕ} → answers.Trapped t line ≡ answers.NotWithin n → ⊥
trapped_later e = cc

trapped_refused : {t : Trap} {line : ℕ} {r : Refusal} → answers.Trapped t line ≡ answers.SourceRefused r → ⊥
trapped_refused e = cc

later_refused : {n : ℕ} {r : Refusal} → answers.NotWithin n ≡ answers.SourceRefused r → ⊥
later_refused e = cc

-- the trap of an answer of `serial`, or another
abbrev trap_in : TrapAt → Answer → TrapAt
trap_in s (answers.Trapped t line) = (t, line)
trap_in s a = s

trap_same : {t u : Trap} {m n : ℕ} → answers.Trapped t m ≡ answers.Trapped u n → trap_at t m ≡ trap_at u n
trap_same {t = t} {m = m} e = ap (trap_in (trap_at t m)) e

explained_same : {t u : Trap} {m n : ℕ} {x y : List ℕ} → trap_at t m ≡ trap_at u n → x ≡ y → answers.TrapExplained t m x ≡ answers.TrapExplained u n y
explained_same p q = λ i. answers.TrapExplained (p i).0 (p i).1 (q i)

stand_same : {m n : ℕ} {x y : List ℕ} → m ≡ n → x ≡ y → answers.StandExplained m x ≡ answers.StandExplained n y
stand_same p q = λ i. answers.StandExplained (p i) (q i)

module _ (programs : ProgramsAreOne) (explained : ExplainedAreOne) (outcomes : OutcomesAreOne) (points : TrapPointsAreOne) (some_points : TrapsHavePoints)
    (spends : SpendTheirTurns) (stands : StandWhereLater) (turns : ℕ) where
  -- the outcome of a trap that is explained
  comes_of : (text : List ℕ) (t : Trap) (line : ℕ) (notes : List ℕ) → IsTrapExplained turns text t line notes
      → ComesTo turns text (outcome.Trapped t line)
  comes_of text t line notes h = record { tree = h.tree; program = h.program; serial = h.serial }

  later_of : (text : List ℕ) (n : ℕ) (notes : List ℕ) → TrapHas turns text (answers.StandExplained n notes) → SerialHas turns text (answers.NotWithin n)
  later_of text n notes h = (h.0, h.1.comes)

  -- a refusal that is explained is of the source
  refusal_of : (text : List ℕ) (r : Refused) (notes : List ℕ) → IsExplained texts.Source text r notes
      → (s : Refusal) × SerialHas turns text (answers.SourceRefused s)
  refusal_of text (refused.Source s) notes h = (s, h.refusal)
  refusal_of text (refused.Listing s) notes h = absurd h.refusal
  refusal_of text (refused.Conflict s) notes h = absurd h.refusal
  refusal_of text (refused.Input s) notes h = absurd h.refusal
  refusal_of text (refused.ConflictAt s read write) notes h = absurd h.refusal
  refusal_of text (refused.Untidy s) notes h = absurd h.refusal
  refusal_of text (refused.Saved s) notes h = absurd h.refusal
  refusal_of text (refused.Plan s) notes h = absurd h.refusal

  same : (text : List ℕ) (a b : Answer) → SerialHas turns text a → SerialHas turns text b → a ≡ b
  same = (outcomes turns).one

  -- two traps that are explained are one, and so are their notes
  one_trap : (text : List ℕ) (t u : Trap) (m n : ℕ) (x y : List ℕ) → IsTrapExplained turns text t m x → IsTrapExplained turns text u n y
      → answers.TrapExplained t m x ≡ answers.TrapExplained u n y
  one_trap text t u m n x y h k =
      let trap = trap_same (same text (answers.Trapped t m) (answers.Trapped u n) (comes_of text t m x h) (comes_of text u n y k)) in
      let tree = (programs text).program h.tree k.tree h.program k.program in
      let told = one_told points h.tree k.tree h.point k.point (trap_at t m) (trap_at u n) h.told k.told tree h.traps k.traps h.is_told k.is_told in
      explained_same trap (h.is ∙ ap (trap_notes text) told ∙ sym k.is)

  of_accepted : (text : List ℕ) (b : Answer) → EndsWithin turns text → TrapHas turns text b → answers.Accepted ≡ b
  of_accepted text answers.Accepted h k = refl
  of_accepted text (answers.TrapExplained t line notes) h k =
      absurd (ended_trapped (same text (answers.Ended h.arrays) (answers.Trapped t line) h.comes (comes_of text t line notes k)))
  of_accepted text (answers.StandExplained n x) h k = absurd (ended_later (same text (answers.Ended h.arrays) (answers.NotWithin n) h.comes (later_of text n x k)))
  of_accepted text (answers.Explained r notes) h k =
      let s = refusal_of text r notes k in absurd (ended_refused (same text (answers.Ended h.arrays) (answers.SourceRefused s.0) h.comes s.1))
  of_accepted text b h k = absurd k

  of_trap : (text : List ℕ) (t : Trap) (line : ℕ) (x : List ℕ) (b : Answer) → IsTrapExplained turns text t line x → TrapHas turns text b
      → answers.TrapExplained t line x ≡ b
  of_trap text t line x answers.Accepted h k =
      absurd (ended_trapped (same text (answers.Ended k.arrays) (answers.Trapped t line) k.comes (comes_of text t line x h)))
  of_trap text t line x (answers.TrapExplained u n y) h k = one_trap text t u line n x y h k
  of_trap text t line x (answers.StandExplained n y) h k =
      absurd (trapped_later (same text (answers.Trapped t line) (answers.NotWithin n) (comes_of text t line x h) (later_of text n y k)))
  of_trap text t line x (answers.Explained r notes) h k =
      let s = refusal_of text r notes k in
      absurd (trapped_refused (same text (answers.Trapped t line) (answers.SourceRefused s.0) (comes_of text t line x h) s.1))
  of_trap text t line x b h k = absurd k

  -- two places where the run stands are one, and so are their notes
  one_stand : (text : List ℕ) (m n : ℕ) (x y : List ℕ) → TrapHas turns text (answers.StandExplained m x) → TrapHas turns text (answers.StandExplained n y)
      → answers.StandExplained m x ≡ answers.StandExplained n y
  one_stand text m n x y h k =
      let g = h.1 in
      let j = k.1 in
      let tree = (programs text).program g.comes.tree j.comes.tree g.comes.program j.comes.program in
      let stood = one_stood g.comes.tree j.comes.tree turns g.run j.run g.stood j.stood tree g.stands j.stands g.is_stood j.is_stood in
      stand_same (h.0 ∙ sym k.0) (g.is ∙ ap (stand_notes text) stood ∙ sym j.is)

  of_later : (text : List ℕ) (n : ℕ) (x : List ℕ) (b : Answer) → TrapHas turns text (answers.StandExplained n x) → TrapHas turns text b
      → answers.StandExplained n x ≡ b
  of_later text n x answers.Accepted h k =
      absurd (ended_later (same text (answers.Ended k.arrays) (answers.NotWithin n) k.comes (later_of text n x h)))
  of_later text n x (answers.TrapExplained t line notes) h k =
      absurd (trapped_later (same text (answers.Trapped t line) (answers.NotWithin n) (comes_of text t line notes k) (later_of text n x h)))
  of_later text n x (answers.StandExplained m y) h k = one_stand text n m x y h k
  of_later text n x (answers.Explained r notes) h k =
      let s = refusal_of text r notes k in absurd (later_refused (same text (answers.NotWithin n) (answers.SourceRefused s.0) (later_of text n x h) s.1))
  of_later text n x b h k = absurd k

  of_refused : (text : List ℕ) (q : Refused) (m : List ℕ) (b : Answer) → IsExplained texts.Source text q m → TrapHas turns text b
      → answers.Explained q m ≡ b
  of_refused text q m answers.Accepted h k =
      let s = refusal_of text q m h in absurd (ended_refused (same text (answers.Ended k.arrays) (answers.SourceRefused s.0) k.comes s.1))
  of_refused text q m (answers.TrapExplained t line notes) h k =
      let s = refusal_of text q m h in
      absurd (trapped_refused (same text (answers.Trapped t line) (answers.SourceRefused s.0) (comes_of text t line notes k) s.1))
  of_refused text q m (answers.StandExplained n x) h k =
      let s = refusal_of text q m h in absurd (later_refused (same text (answers.NotWithin n) (answers.SourceRefused s.0) (later_of text n x k) s.1))
  of_refused text q m (answers.Explained r n) h k = (explained texts.Source).one text (answers.Explained q m) (answers.Explained r n) h k
  of_refused text q m b h k = absurd k

  one : (text : List ℕ) (a b : Answer) → TrapHas turns text a → TrapHas turns text b → a ≡ b
  one text answers.Accepted b h k = of_accepted text b h k
  one text (answers.TrapExplained t line notes) b h k = of_trap text t line notes b h k
  one text (answers.StandExplained n x) b h k = of_later text n x b h k
  one text (answers.Explained r notes) b h k = of_refused text r notes b h k
  one text a b h k = absurd h

  -- a text that is too long has no program
  no_program : (text : List ℕ) (t : ProgramTree) → text_limit < length text → HasProgram text t → ⊥
  no_program text t long h = let short = h.admitted.tree.lexed.short in absurd (omega (arith, long, short))

  front : (text rest : List ℕ) (a : Answer) → text_limit < length text → TrapHas turns text a → TrapHas turns (text ++ rest) a
  front text rest answers.Accepted long h = absurd (no_program text h.comes.tree long h.comes.program)
  front text rest (answers.TrapExplained t line notes) long h = absurd (no_program text h.tree long h.program)
  front text rest (answers.StandExplained n x) long h = absurd (no_program text h.1.comes.tree long h.1.comes.program)
  front text rest (answers.Explained r notes) long h = (explained texts.Source).front text rest (answers.Explained r notes) long h
  front text rest a long h = absurd h

  -- a trap has notes
  trap_has : (text : List ℕ) (t : Trap) (line : ℕ) → ComesTo turns text (outcome.Trapped t line) → (a : Answer) × TrapHas turns text a
  trap_has text t line c =
      let r = trap_run c.tree turns t line c.serial in
      let z = some_points c.tree r.0 (t, line) r.1 r.2 in
      let told : Told = record {
        trap = t;
        line = line;
        procedure = z.0.procedure.name.name;
        procedure_line = z.0.procedure.name.line;
        values = deed_readings c.tree.procedures z.0.frame z.0.deed;
      } in (
        answers.TrapExplained t line (trap_notes text told),
        record {
          tree = c.tree;
          program = c.program;
          serial = c.serial;
          point = z.0;
          traps = z.1;
          told = told;
          is_told = record { trap = z.1.trap; procedure = refl; declared_in = refl; values = refl };
          is = refl;
        },
      )

  some : (text : List ℕ) → ((r : Refused) (notes : List ℕ) → ¬ IsExplained texts.Source text r notes) → (a : Answer) × TrapHas turns text a
  some text none =
      let has = (explained texts.Source).some text none in
      let a = (outcomes turns).some text (λ r k. (programs text).either r k has.tree has.program) in
      of_answer a.0 a.1 (λ r k. (programs text).either r k has.tree has.program)
    where
      of_answer : (a : Answer) → SerialHas turns text a → ((r : Refusal) → ¬ SerialHas turns text (answers.SourceRefused r)) → (b : Answer) × TrapHas turns text b
      of_answer (answers.Ended arrays) h free = (answers.Accepted, record { arrays = arrays; comes = h })
      of_answer (answers.Trapped t line) h free = trap_has text t line h
      of_answer (answers.NotWithin n) h free =
          let s = stand_has turns text spends stands h.1 in (answers.StandExplained n s.0, (h.0, s.1))
      of_answer (answers.SourceRefused r) h free = absurd (free r h)
      of_answer a h free = absurd h

-- `explain --trap yes` has one answer, whatever the number of turns
pub have_one_answer : ProgramsAreOne → ExplainedAreOne → OutcomesAreOne → TrapPointsAreOne → TrapsHavePoints → SpendTheirTurns → StandWhereLater
    → HaveOneAnswer
have_one_answer programs explained outcomes points some_points spends stands turns = record {
  one = one programs explained outcomes points some_points spends stands turns;
  front = front programs explained outcomes points some_points spends stands turns;
  some = some programs explained outcomes points some_points spends stands turns;
}
