use Rattle.std.proofs.Common.{refl, lit≤}
use Rattle.ppm_cells.specs.declared.shape.Takeover.TheVariants.{ByPlaces}
use Rattle.ppm_cells.proofs.laws.greatest_word_count.Goals as goal

-- the one with the greatest sizes
pub returns-clause-reached : goal.returns-clause-reached
returns-clause-reached c = (
  record {
    processors = 64;
    room = 1048576;
    slots = 65536;
    arrays = 4194304;
    takeover = ByPlaces;
    within = record {
      processors_least = lit≤ tt;
      processors_most = lit≤ tt;
      room_least = lit≤ tt;
      pools_most = lit≤ tt;
      slots_least = lit≤ tt;
      slots_most = lit≤ tt;
      arrays_most = lit≤ tt;
    };
  },
  refl,
)
