-- The laws of the listener that keeps acts: one after the other.
use Rattle.std.proofs.Common.{◌≡◌, ◌∙◌, List, [], ◌∷◌, ◌++◌, ap, map, sym}
use Rattle.std.proofs.lemmas.List.{append-nil, append_assoc, map-append}
use Rattle.ppm_core.specs.Situation.{Situation, run_on}
use Rattle.ppm_step.specs.declared.turn.Turn.{Turn}
use Rattle.ppm_trace.specs.TellingLaws.{along_both}
use Rattle.ppm_trace.specs.Trace.{along_turns}
use Rattle.ppm_calls.specs.Acts.{act_at, shown_act}
use Rattle.ppm_calls.specs.declared.recorder.HeardAct.{HeardAct}

-- where none was heard, none is kept
pub none_heard : (a : List HeardAct) (m : Situation) → map shown_act a ≡ map shown_act a ++ along_turns act_at m []
none_heard a m = sym (append-nil (map shown_act a))

-- those of turns after turns
pub more_heard : (m : Situation) (first more : List Turn) (a b c : List HeardAct)
    → map shown_act b ≡ map shown_act a ++ along_turns act_at m first
    → map shown_act c ≡ map shown_act b ++ along_turns act_at (run_on m first) more
    → map shown_act c ≡ map shown_act a ++ along_turns act_at m (first ++ more)
more_heard m first more a b c d e =
    e ∙ ap (λ kept. kept ++ along_turns act_at (run_on m first) more) d
    ∙ append_assoc (map shown_act a) (along_turns act_at m first) (along_turns act_at (run_on m first) more)
    ∙ ap (λ rest. map shown_act a ++ rest) (sym (along_both act_at m first more))

-- one more
pub one_heard : (a b : List HeardAct) (act : HeardAct) (m : Situation) (turn : Turn) → b ≡ a ++ act ∷ []
    → (shown_act act ∷ []) ≡ act_at m turn → map shown_act b ≡ map shown_act a ++ along_turns act_at m (turn ∷ [])
one_heard a b act m turn pushed same =
    ap (map shown_act) pushed ∙ map-append shown_act a (act ∷ []) ∙ ap (λ one. map shown_act a ++ one) (same ∙ sym (append-nil (act_at m turn)))
