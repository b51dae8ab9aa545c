-- By what the turn comes to.
use Rattle.std.proofs.Common.{refl, sym, subst, length}
use Rattle.ppm_interleaving.specs.declared.strand.Strand.TheVariants.{Running as IsRunning}
use Rattle.ppm_interleaving.specs.Stepping.{MakesStep}
use Rattle.ppm_interleaving.specs.Steps.{TurnsTo}
use Rattle.ppm_interleaving.proofs.RunLemmas.{goes, changes, ends, words_opened}
use Rattle.ppm_interleaving.proofs.stepped.run.Goals as goal

pub returns-in-Goes : goal.returns-in-Goes
returns-in-Goes c =
    let words = c.args.words.now.items in
    let after = c.turned.new.words.items in
    let t = subst (λ x. TurnsTo c.args.code.now (length words) c.args.running words x after) c.in-Goes.is c.in_ok-touched.ensures in (
      t.0,
      λ root arrays h i beside shows.
          (goes c.args.code.now (length words) root arrays h i words after c.args.strands.now beside c.args.running shows c.in-Goes.running t, refl),
    )

pub returns-in-Changed : goal.returns-in-Changed
returns-in-Changed c =
    let words = c.args.words.now.items in
    let after = c.turned.new.words.items in
    let t = subst (λ x. TurnsTo c.args.code.now (length words) c.args.running words x after) c.in-Changed.is c.in_ok-touched.ensures in (
      (t.0, t.2, t.1),
      λ root arrays h i beside shows. (
        changes c.args.code.now (length words) root arrays h i words after c.args.strands.now beside c.args.running shows c.in-Changed.running
            c.in-Changed.word c.in-Changed.was c.in-Changed.is' t,
        refl,
      ),
    )

pub returns-in_ok-opens-in-Ends : goal.returns-in_ok-opens-in-Ends
returns-in_ok-opens-in-Ends c =
    let words = c.args.words.now.items in
    let after = c.turned.new.words.items in
    let t = subst (λ x. TurnsTo c.args.code.now (length words) c.args.running words x after) c.in-Ends.is c.in_ok-touched.ensures in
    subst (λ s. MakesStep c.args.code.now (IsRunning c.args.running) c.args.strands.now words s after) (sym c.opened.ensures) (
      words_opened words after c.in_ok-opens-in-Ends.opens t.0,
      λ root arrays h i beside shows.
          ends c.args.code.now (length words) root arrays h i words after c.args.strands.now beside c.args.running shows c.in-Ends.own c.in-Ends.end t
          c.in_ok-opens-in-Ends.opens c.in_ok-opens-in-Ends.ensures,
    )
