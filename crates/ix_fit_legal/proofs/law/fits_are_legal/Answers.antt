use Rattle.ix_fit_legal.proofs.Keeping.{legal}
use Rattle.ix_fit_legal.proofs.law.fits_are_legal.Goals as goal

pub returns : goal.returns
returns c = record {
  law = λ names rec cells phys plain differ named is. legal names rec cells phys plain is
      (c.fits_have_own_places.ensures rec cells phys is) plain.few differ named;
}
