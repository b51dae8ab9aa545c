use Rattle.std.proofs.Common.{refl, sym, subst}
use Rattle.ppm_cells.specs.Memory.{AreWordsOf}
use Rattle.ppm_saved.specs.Renewal.{AreRenewed}
use Rattle.ppm_saved.proofs.renewal.renew.Goals as goal

-- as many words as before, and the same arrays
pub invariant_of-result : goal.invariant_of-result
invariant_of-result c =
    let s = c.args.saved.shape in
    record {
      sized = record {
        words_are = subst (λ ws. AreWordsOf s ws) (sym c.from_vec.ensures) c.renew_words.ensures.fit;
        arrays_are = c.args.saved.whole.arrays_are;
        keeper_below = c.requires;
      };
    }

-- cell by cell
pub returns : goal.returns
returns c =
    let s = c.args.saved.shape in
    record {
      shape_is = refl;
      keeper_is = refl;
      lengths_are = refl;
      words_are = subst (λ ws. AreRenewed s c.args.saved.words ws) (sym c.from_vec.ensures)
          (subst (λ ws. AreRenewed s ws c.renew_words.new.words.items) c.into_vec-words.ensures c.renew_words.ensures);
      code_is = refl;
      names_are = refl;
    }
