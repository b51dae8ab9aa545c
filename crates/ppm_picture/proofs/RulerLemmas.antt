-- How far the ticks of a ruler lie apart.
use Rattle.std.proofs.Common.{◌*◌, ◌+◌, ◌/◌, ◌<◌, ◌≤◌, ◌^◌, Bool, true, false, nat_le, if◌then◌else◌, List, [], ◌∷◌, ℕ, arith}
use Rattle.std.proofs.Math.Nat.{div-mul-le_self, mul-le-mul_right}
use Rattle.ppm_picture.specs.Ruler.{distance_among, distances, Fits}

-- all of a list
abbrev all_fit : List ℕ → Type 0
all_fit [] = 1 ≤ 1
all_fit (distance ∷ more) = Fits distance × all_fit more

chosen : (b : Bool) (one other : ℕ) → Fits one → Fits other → Fits (if b then one else other)
chosen true one other a b = a
chosen false one other a b = b

among_fits : (among : List ℕ) (acts : ℕ) → all_fit among → Fits acts → Fits (distance_among among acts)
among_fits [] acts all fits = fits
among_fits (distance ∷ more) acts all fits =
    chosen (nat_le acts (12 * distance)) distance (distance_among more acts) all.0 (among_fits more acts all.1 fits)

fit : (distance : ℕ) → 1 ≤ distance → distance ≤ 2 ^ 40 → Fits distance
fit distance some few = record { some = some; few = few }

these_fit : all_fit distances
these_fit = (
  fit 1 (omega arith) (omega arith),
  (
    fit 2 (omega arith) (omega arith),
    (
      fit 5 (omega arith) (omega arith),
      (
        fit 10 (omega arith) (omega arith),
        (
          fit 20 (omega arith) (omega arith),
          (
            fit 50 (omega arith) (omega arith),
            (
              fit 100 (omega arith) (omega arith),
              (
                fit 200 (omega arith) (omega arith),
                (
                  fit 500 (omega arith) (omega arith),
                  (
                    fit 1000 (omega arith) (omega arith),
                    (
                      fit 2000 (omega arith) (omega arith),
                      (
                        fit 5000 (omega arith) (omega arith),
                        (
                          fit 10000 (omega arith) (omega arith),
                          (
                            fit 20000 (omega arith) (omega arith),
                            (
                              fit 50000 (omega arith) (omega arith),
                              (
                                fit 100000 (omega arith) (omega arith),
                                omega arith,
                              ),
                            ),
                          ),
                        ),
                      ),
                    ),
                  ),
                ),
              ),
            ),
          ),
        ),
      ),
    ),
  ),
)

pub distance_fits : (acts : ℕ) → 1 ≤ acts → acts ≤ 2 ^ 40 → Fits (distance_among distances acts)
distance_fits acts some few = among_fits distances acts these_fit (fit acts some few)

-- a tick before the end lies among the acts
pub tick_within : (number distance acts : ℕ) → number < acts / distance + 1 → number * distance ≤ acts
tick_within number distance acts below =
    let whole : acts / distance * distance ≤ acts = div-mul-le_self acts distance in
    let few : number ≤ acts / distance = omega (arith, below) in
    let scaled : number * distance ≤ acts / distance * distance = mul-le-mul_right distance few in
    omega (arith, whole, scaled)
