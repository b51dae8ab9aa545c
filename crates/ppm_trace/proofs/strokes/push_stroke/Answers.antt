use Rattle.std.proofs.Common.{◌∙◌, ◌++◌, [], ◌∷◌, ap}
use Rattle.ppm_core.specs.Machine.{seen}
use Rattle.ppm_lines.specs.Line.{scene_of}
use Rattle.ppm_step.specs.State.{stand_of}
use Rattle.ppm_trace.proofs.PictureLemmas.{drawn_is}
use Rattle.ppm_trace.proofs.strokes.push_stroke.Goals as goal

-- the scene is that of the machine
pub returns : goal.returns
returns c =
    let m = seen c.args.machine.now in
    c.in_ok-push.ensures.items
    ∙ ap (λ drawn. c.args.strokes.now.items ++ drawn ∷ []) (c.stroke_of.ensures
    ∙ drawn_is c.new-scene.result (scene_of c.args.names.now m.array_lengths m.shape m.code m.state) c.local-local.result.now
    (stand_of m.state c.args.turn.processor)
    (c.new-scene.ensures ∙ (λ i. record {
      names = c.args.names.now;
      lengths = c.array_lengths.ensures.value i;
      shape = c.shape-shape.ensures i;
      code = c.code.ensures i;
      words = c.words.ensures i;
    }))
    c.local-local.ensures.stands c.args.turn)
